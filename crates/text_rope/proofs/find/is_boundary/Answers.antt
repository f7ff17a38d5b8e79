use Rattle.std.proofs.Common.{◌-◌, List, ℕ, ap, sym, subst, ◌∙◌, arith}
use Rattle.std.specs.Str.{IsCharBoundary}
use Rattle.std.proofs.lemmas.Bool.{false≢true}
use Rattle.text_rope.specs.declared.chunk.TextSize.{TextSize}
use Rattle.text_rope.proofs.Chunks.{total_bytes}
use Rattle.text_rope.proofs.Places.{boundary_here}
use Rattle.text_rope.proofs.find.is_boundary.Goals as goal

pub returns-then-offset-sum-clause-test : goal.returns-then-offset-sum-clause-test
returns-then-offset-sum-clause-test c =
    let chunks = c.args.chunks.now in
    let bytes = ap (λ (s : TextSize). s.bytes) c.sum.ensures ∙ total_bytes chunks in
    (λ t. absurd (false≢true t), λ b. absurd (omega (arith, bytes, b.0)))

pub found_at-found-requires-clause-within : goal.found_at-found-requires-clause-within
found_at-found-requires-clause-within c =
    let chunks = c.args.chunks.now in
    omega (arith, ap (λ (s : TextSize). s.bytes) c.sum.ensures ∙ total_bytes chunks)

pub returns-clause-test : goal.returns-clause-test
returns-clause-test c =
    let chunks = c.args.chunks.now in
    let r = c.found_at-found.result.before in
    let i = c.args.offset - r.bytes in
    let here = boundary_here chunks c.args.offset r c.requires.cut c.found_at-found.ensures.found in
    let test = c.is_char_boundary.ensures.test in (
      λ t. here.0 (subst (λ (m : List ℕ). IsCharBoundary m i) c.found_at-found.ensures.here (test.0 t)),
      λ b. test.1 (subst (λ (m : List ℕ). IsCharBoundary m i) (sym c.found_at-found.ensures.here) (here.1 b)),
    )
