use Rattle.std.proofs.Common.{◌≡◌, ◌-◌, ◌++◌, List, ℕ, drop, ap, sym, subst, ◌∙◌, arith, string_bytes}
use Rattle.std.specs.Str.{IsCharBoundary}
use Rattle.text_rope.proofs.Limits.{rope_chunks}
use Rattle.text_rope.proofs.Places.{boundary_here}
use Rattle.text_rope.proofs.Renewals.{part_of_behind}
use Rattle.text_rope.proofs.edit.part_behind.Goals as goal

pub overflow_add-found : goal.overflow_add-found
overflow_add-found c = omega (arith, c.requires.found.within, rope_chunks c.args.chunks.now c.requires.rope)

pub split_at-requires : goal.split_at-requires
split_at-requires c =
    let r = c.args.found.before in
    let here = boundary_here c.args.chunks.now c.args.offset r c.requires.rope.cut c.requires.found in
    subst (λ (m : List ℕ). IsCharBoundary m (c.args.offset - r.bytes)) (sym c.requires.here) (here.1 c.requires.boundary)

pub returns-clause-part : goal.returns-clause-part
returns-clause-part c =
    let r = c.args.found.before in
    let neighbour = c.neighbour_behind-at.result.1.now in
    let back = c.split_at.result.1.now in
    let cut = c.split_at.ensures.back ∙ ap (λ (m : List ℕ). drop (c.args.offset - r.bytes) m) c.requires.here in
    let text : string_bytes c.push_str.new.self ≡ back ++ neighbour = c.in_ok-push_str.ensures.bytes ∙ ap (λ (t : List ℕ). t ++ neighbour) c.in_ok-text.ensures.ok in
    part_of_behind c.args.chunks.now c.args.offset c.neighbour_behind-at.result.0 r neighbour back (string_bytes c.push_str.new.self) c.requires.rope c.requires.found c.neighbour_behind-at.ensures.found cut text
