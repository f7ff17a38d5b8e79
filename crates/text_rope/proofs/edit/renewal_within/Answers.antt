use Rattle.std.proofs.Common.{◌≡◌, ◌-◌, ◌+◌, ◌<◌, ◌≤◌, ◌++◌, List, [], ◌∷◌, ℕ, length, take, drop, ap, sym, subst, ◌∙◌, arith}
use Rattle.std.specs.Str.{IsCharBoundary}
use Rattle.text_rope.specs.Chunks.{least}
use Rattle.text_rope.specs.Edits.{IsRenewed}
use Rattle.text_rope.proofs.Places.{boundary_here}
use Rattle.text_rope.proofs.Renewals.{begins_there, renewed_within}
use Rattle.text_rope.proofs.edit.renewal_within.Goals as goal
use Rattle.text_rope.proofs.edit.renewal_within.Goals.{then-len-gt1, else-len-gt1}

pub split_at-requires : goal.split_at-requires
split_at-requires c =
    let chunks = c.args.chunks.now in
    let r = c.args.found.before in
    let first = begins_there chunks c.args.start c.args.end r c.requires.found c.if-start-before.false c.requires.range.0 in
    let here = boundary_here chunks c.args.start r c.requires.rope.cut first in
    subst (λ (m : List ℕ). IsCharBoundary m (c.args.start - r.bytes)) (sym c.requires.here) (here.1 c.requires.range.1)

pub split_at-requires-2 : goal.split_at-requires-2
split_at-requires-2 c =
    let r = c.args.found.before in
    let here = boundary_here c.args.chunks.now c.args.end r c.requires.rope.cut c.requires.found in
    subst (λ (m : List ℕ). IsCharBoundary m (c.args.end - r.bytes)) (sym c.requires.here) (here.1 c.requires.range.2)

pub returns : goal.returns
returns c =
    let chunks = c.args.chunks.now in
    let r = c.args.found.before in
    let chunk = c.in-Some.chunk in
    let front = c.split_at.ensures.front ∙ ap (λ (m : List ℕ). take (c.args.start - r.bytes) m) c.requires.here in
    let back = c.split_at-2.ensures.back ∙ ap (λ (m : List ℕ). drop (c.args.end - r.bytes) m) c.requires.here in
    let whole = rw c.in-Some.is at c.in_ok-chunk.ensures.whole in
    let lawful = rw c.in-Some.is at c.in_ok-chunk.ensures.chunk in
    let long = rw c.in-Some.is at c.in_ok-chunk.ensures.least in
    let full : 1 < length chunks → least ≤ length chunk = λ more. elim c.if-len-gt1.branch [
      | then-len-gt1 w ↦ omega (arith, long)
      | else-len-gt1 w ↦ absurd (omega (arith, more))
    ] in
    let made : c.push.new.self.items ≡ chunk ∷ [] = c.in_ok-push.ensures.items ∙ ap (λ (l : List (List ℕ)). l ++ chunk ∷ []) c.new-made.ensures.items in
    subst (λ (l : List (List ℕ)). IsRenewed chunks c.args.start c.args.end c.args.text.now r.chunks (r.chunks + 1) l) (sym made)
    (renewed_within chunks c.args.start c.args.end c.args.text.now r c.split_at.result.0.now c.split_at-2.result.1.now chunk c.requires.rope c.requires.range c.requires.found c.if-start-before.false
    (omega arith) front back whole lawful full)
