use Rattle.std.proofs.Common.{◌≡◌, ◌/◌, ◌%◌, ℕ, List, [], length, take, get_or, sym, ap, ◌∙◌, arith}
use Rattle.std.specs.Prelude.{slice_get}
use Rattle.std.proofs.lemmas.List.{get_or_default, length-take-le}
use Rattle.std.proofs.lemmas.Option.{slice_get_past}
use Rattle.display_sheet.specs.Chunks.{joined}
use Rattle.display_map.specs.Events.{Event}
use Rattle.display_map.specs.Journals.{kept_chunks}
use Rattle.display_map.proofs.EventChunks.{finds-event}
use Rattle.display_map.proofs.journal.Journal.get.Goals as goal

pub returns-else-at-self : goal.returns-else-at-self
returns-else-at-self c =
    let all = joined (kept_chunks c.self.inside.chunks) in
    let len : ℕ = c.self.inside.len in
    sym (slice_get_past (take len all) c.args.at (omega (arith, c.if-at-self.false, length-take-le len all c.self.invariant.long)))
    ∙ ap (λ (l : List Event). slice_get l c.args.at) c.self.view_is

pub returns-in_err-get : goal.returns-in_err-get
returns-in_err-get c =
    let chunks = kept_chunks c.self.inside.chunks in
    let finds = finds-event chunks c.self.inside.len c.args.at c.self.invariant (omega (arith, c.if-at-self.true)) in
    let is : c.deref-then-at-self.result.now ≡ chunks =
    c.deref-then-at-self.ensures.value ∙ ap (λ v. v.items) c.deref.ensures ∙ ap kept_chunks c.in_ok-as_ref.ensures.value in
    absurd (omega (arith, c.in_err-get.ensures.lookup.3, finds.chunk, ap length is))

pub returns-in_ok-get : goal.returns-in_ok-get
returns-in_ok-get c =
    let chunks = kept_chunks c.self.inside.chunks in
    let at : ℕ = c.args.at in
    let chunk = c.in_ok-get.field-0.now in
    let finds = finds-event chunks c.self.inside.len at c.self.invariant (omega (arith, c.if-at-self.true)) in
    let is : c.deref-then-at-self.result.now ≡ chunks =
    c.deref-then-at-self.ensures.value ∙ ap (λ v. v.items) c.deref.ensures ∙ ap kept_chunks c.in_ok-as_ref.ensures.value in
    let own : chunk ≡ get_or chunks (at / 256) [] =
    c.in_ok-get.ensures.lookup.1
    ∙ ap (λ (cs : List (List Event)). get_or cs (at / 256) chunk) is
    ∙ get_or_default chunks (at / 256) chunk [] finds.chunk in
    c.get-then-at-self.ensures
    ∙ ap (λ (l : List Event). slice_get l (at % 256)) own
    ∙ finds.reads
    ∙ ap (λ (l : List Event). slice_get l at) c.self.view_is
