use Rattle.std.proofs.Common.{◌≡◌, ◌-◌, ◌++◌, List, ℕ, take, ap, sym, subst, ◌∙◌, string_bytes}
use Rattle.std.specs.Str.{IsCharBoundary}
use Rattle.text_rope.proofs.Places.{boundary_here}
use Rattle.text_rope.proofs.Renewals.{part_of_before}
use Rattle.text_rope.proofs.edit.part_before.Goals as goal

pub split_at-requires : goal.split_at-requires
split_at-requires c =
    let r = c.found_at-found.result.before in
    let here = boundary_here c.args.chunks.now c.args.offset r c.requires.rope.cut c.found_at-found.ensures.found in
    subst (λ (m : List ℕ). IsCharBoundary m (c.args.offset - r.bytes)) (sym c.found_at-found.ensures.here) (here.1 c.requires.boundary)

pub returns-clause-part : goal.returns-clause-part
returns-clause-part c =
    let r = c.found_at-found.result.before in
    let neighbour = c.neighbour_before-at.result.1.now in
    let front = c.split_at.result.0.now in
    let cut = c.split_at.ensures.front ∙ ap (λ (m : List ℕ). take (c.args.offset - r.bytes) m) c.found_at-found.ensures.here in
    let text : string_bytes c.push_str.new.self ≡ neighbour ++ front = c.in_ok-push_str.ensures.bytes ∙ ap (λ (t : List ℕ). t ++ front) c.in_ok-text.ensures.ok in
    part_of_before c.args.chunks.now c.args.offset c.neighbour_before-at.result.0 r neighbour front (string_bytes c.push_str.new.self) c.requires.rope c.found_at-found.ensures.found c.neighbour_before-at.ensures.found cut text
