use Rattle.std.proofs.Common.{◌≡◌, ℕ, ◌+◌, ◌/◌, ◌%◌, ◌<◌, ◌≤◌, List, [], ◌∷◌, ◌++◌, length, take, set, get_or, Result, Ok, Err, sym, ap, subst, ◌∙◌, arith, length-append}
use Rattle.std.specs.Prelude.{OnErr}
use Rattle.std.proofs.lemmas.List.{get_or-take, get_or_default, length-take, length-take-le}
use Rattle.display_sheet.specs.Chunks.{joined}
use Rattle.display_map.specs.Events.{Event, event_of}
use Rattle.display_map.specs.Journals.{KeepsEvents}
use Rattle.display_map.proofs.EventChunks.{appends-last, appends-new, begins-full, begins-last, is-cut, keeps-full, keeps-last, keeps-new}
use Rattle.display_map.proofs.journal.push_into.Goals as goal

on_err : {A E P : Type 0} (r : Result A E) → P → OnErr r P
on_err (Ok x) p = tt
on_err (Err e) p = p

-- the last chunk that is left
own : (cs chunks : List (List Event)) (k : ℕ) (c : List Event) → c ≡ get_or cs k c → cs ≡ take (k + 1) chunks → k < length chunks → c ≡ get_or chunks k []
own cs chunks k c at is lt =
    at ∙ ap (λ (cs : List (List Event)). get_or cs k c) is ∙ get_or-take (k + 1) chunks k c (omega arith) ∙ get_or_default chunks k c [] lt

-- ---- a new chunk

pub returns-in_err-new-clause-unchanged : goal.returns-in_err-new-clause-unchanged
returns-in_err-new-clause-unchanged c =
    let len : ℕ = c.args.len in
    on_err c.from_residual.result
    (ap (λ (cs : List (List Event)). take len (joined cs)) c.truncate.ensures.items ∙ begins-full c.args.chunks.now.items len c.requires c.if-rest-eq0.true)

pub returns-in_err-new-clause-kept : goal.returns-in_err-new-clause-kept
returns-in_err-new-clause-kept c =
    subst (KeepsEvents c.args.len) (sym c.truncate.ensures.items) (keeps-full c.args.chunks.now.items c.args.len c.requires c.if-rest-eq0.true)

pub returns-in_ok-push-clause-appended : goal.returns-in_ok-push-clause-appended
returns-in_ok-push-clause-appended c =
    let chunks = c.args.chunks.now.items in
    let len : ℕ = c.args.len in
    ap joined c.in_ok-push.ensures.items
    ∙ ap (λ (cs : List (List Event)). joined (cs ++ c.in_ok-new.field-0 ∷ [])) c.truncate.ensures.items
    ∙ ap (λ (l : List Event). joined (take (len / 256) chunks ++ l ∷ [])) c.in_ok-new.ensures
    ∙ appends-new chunks len (event_of c.args.event) c.requires c.if-rest-eq0.true

pub returns-in_ok-push-clause-kept : goal.returns-in_ok-push-clause-kept
returns-in_ok-push-clause-kept c =
    let chunks = c.args.chunks.now.items in
    let len : ℕ = c.args.len in
    let is : c.push.new.self.items ≡ take (len / 256) chunks ++ (event_of c.args.event ∷ []) ∷ [] =
    c.in_ok-push.ensures.items
    ∙ ap (λ (cs : List (List Event)). cs ++ c.in_ok-new.field-0 ∷ []) c.truncate.ensures.items
    ∙ ap (λ (l : List Event). take (len / 256) chunks ++ l ∷ []) c.in_ok-new.ensures in
    subst (KeepsEvents len) (sym is) (keeps-new chunks len (event_of c.args.event) c.requires c.if-rest-eq0.true)

-- ---- the last chunk

pub index_mut-requires : goal.index_mut-requires
index_mut-requires c =
    let chunks = c.args.chunks.now.items in
    let len : ℕ = c.args.len in
    let left = c.truncate-else-rest-eq0.new.self in
    let cut = is-cut chunks len c.requires (omega (arith, c.if-rest-eq0.false)) in
    omega (arith, cut.chunk, ap length c.truncate-else-rest-eq0.ensures.items, length-take (len / 256 + 1) chunks, left.ok.0)

pub push_behind-requires : goal.push_behind-requires
push_behind-requires c =
    let chunks = c.args.chunks.now.items in
    let len : ℕ = c.args.len in
    let cut = is-cut chunks len c.requires (omega (arith, c.if-rest-eq0.false)) in
    let last = own c.truncate-else-rest-eq0.new.self.items chunks (len / 256) c.index_mut.result.now c.index_mut.ensures.value c.truncate-else-rest-eq0.ensures.items cut.chunk in
    omega (arith, cut.place, ap length last)

pub returns-in_err-push_behind-clause-unchanged : goal.returns-in_err-push_behind-clause-unchanged
returns-in_err-push_behind-clause-unchanged c =
    let chunks = c.args.chunks.now.items in
    let len : ℕ = c.args.len in
    let new = c.push_behind.new.self in
    let cut = is-cut chunks len c.requires (omega (arith, c.if-rest-eq0.false)) in
    let last = own c.truncate-else-rest-eq0.new.self.items chunks (len / 256) c.index_mut.result.now c.index_mut.ensures.value c.truncate-else-rest-eq0.ensures.items cut.chunk in
    on_err c.from_residual-in_err-push_behind.result
    (ap (λ (cs : List (List Event)). take len (joined (set cs (len / 256) new))) c.truncate-else-rest-eq0.ensures.items
    ∙ begins-last chunks len new cut (c.in_err-push_behind.ensures.unchanged ∙ ap (λ (l : List Event). take (len % 256) l) last))

pub returns-in_err-push_behind-clause-kept : goal.returns-in_err-push_behind-clause-kept
returns-in_err-push_behind-clause-kept c =
    let chunks = c.args.chunks.now.items in
    let len : ℕ = c.args.len in
    let new = c.push_behind.new.self in
    let old = c.index_mut.result.now in
    let cut = is-cut chunks len c.requires (omega (arith, c.if-rest-eq0.false)) in
    let last = own c.truncate-else-rest-eq0.new.self.items chunks (len / 256) old c.index_mut.ensures.value c.truncate-else-rest-eq0.ensures.items cut.chunk in
    let place : len % 256 ≤ length old = omega (arith, cut.place, ap length last) in
    let long : len % 256 ≤ length new = omega (arith, ap length c.in_err-push_behind.ensures.unchanged, length-take (len % 256) new, length-take-le (len % 256) old place) in
    subst (λ (cs : List (List Event)). KeepsEvents len (set cs (len / 256) new)) (sym c.truncate-else-rest-eq0.ensures.items)
    (keeps-last chunks len new cut long (omega (arith, c.in_err-push_behind.ensures.no_longer, ap length last, cut.small)))

pub returns-in_ok-push_behind-clause-appended : goal.returns-in_ok-push_behind-clause-appended
returns-in_ok-push_behind-clause-appended c =
    let chunks = c.args.chunks.now.items in
    let len : ℕ = c.args.len in
    let new = c.push_behind.new.self in
    let cut = is-cut chunks len c.requires (omega (arith, c.if-rest-eq0.false)) in
    let last = own c.truncate-else-rest-eq0.new.self.items chunks (len / 256) c.index_mut.result.now c.index_mut.ensures.value c.truncate-else-rest-eq0.ensures.items cut.chunk in
    ap (λ (cs : List (List Event)). joined (set cs (len / 256) new)) c.truncate-else-rest-eq0.ensures.items
    ∙ appends-last chunks len new (event_of c.args.event) cut
    (c.in_ok-push_behind.ensures.appended ∙ ap (λ (l : List Event). take (len % 256) l ++ event_of c.args.event ∷ []) last)

pub returns-in_ok-push_behind-clause-kept : goal.returns-in_ok-push_behind-clause-kept
returns-in_ok-push_behind-clause-kept c =
    let chunks = c.args.chunks.now.items in
    let len : ℕ = c.args.len in
    let new = c.push_behind.new.self in
    let old = c.index_mut.result.now in
    let cut = is-cut chunks len c.requires (omega (arith, c.if-rest-eq0.false)) in
    let last = own c.truncate-else-rest-eq0.new.self.items chunks (len / 256) old c.index_mut.ensures.value c.truncate-else-rest-eq0.ensures.items cut.chunk in
    let place : len % 256 ≤ length old = omega (arith, cut.place, ap length last) in
    let one : length new ≡ len % 256 + 1 =
    omega (arith, ap length c.in_ok-push_behind.ensures.appended, length-append (take (len % 256) old) (event_of c.args.event ∷ []), length-take-le (len % 256) old place) in
    subst (λ (cs : List (List Event)). KeepsEvents len (set cs (len / 256) new)) (sym c.truncate-else-rest-eq0.ensures.items)
    (keeps-last chunks len new cut (omega (arith, one)) (omega (arith, one)))
