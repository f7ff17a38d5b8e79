use Rattle.std.proofs.Common.{◌≡◌, ◌+◌, ◌*◌, ◌/◌, ◌≤◌, ℕ, List, length, ap, sym, subst, ◌∙◌, arith}
use Rattle.std.specs.List.{concat}
use Rattle.cell_units.specs.Text.{clean}
use Rattle.text_rope.specs.Ropes.{IsRope}
use Rattle.text_rope.proofs.Fullness.{AreFilled}
use Rattle.text_rope.proofs.Limits.{chunks_of_bytes, cleaned_rope, rope_few, rope_fits}
use Rattle.text_rope.proofs.rope.Rope.from_bytes.Goals as goal
use Rattle.text_rope.proofs.rope.Rope.from_bytes.Goals.{In_ok-chunks_of}

-- the chunks are those of the clean bytes
text_is : (c : In_ok-chunks_of) → concat c.in_ok-chunks_of.field-0.items ≡ clean c.args.bytes.now
text_is c = c.in_ok-chunks_of.ensures.text ∙ c.as_str.ensures.value ∙ c.in_ok-text.ensures ∙ ap clean c.in_ok-read_text.ensures.0

made : (c : In_ok-chunks_of) → IsRope c.in_ok-chunks_of.field-0.items
made c =
    let chunks = c.in_ok-chunks_of in
    let bytes = c.args.bytes.now in
    let text : c.as_str.result.now ≡ clean bytes = c.as_str.ensures.value ∙ c.in_ok-text.ensures ∙ ap clean c.in_ok-read_text.ensures.0 in
    let filled = subst (λ (t : List ℕ). AreFilled chunks.field-0.items (length t)) text chunks.ensures.filled in
    cleaned_rope chunks.field-0.items bytes chunks.ensures.chunks filled (text_is c) c.in_ok-read_text.ensures.1.0

few : (c : In_ok-chunks_of) (s0 s1 : ℕ) → s1 ≤ s0 + 4 * (length c.in_ok-chunks_of.field-0.items + 1) → s1 ≤ s0 + 8 * (length c.args.bytes.now / 64 + 1)
few c s0 s1 le = omega (arith, le, chunks_of_bytes c.in_ok-chunks_of.field-0.items c.args.bytes.now (made c) (text_is c))

pub from_vec-requires-clause-fits : goal.from_vec-requires-clause-fits
from_vec-requires-clause-fits c = rope_fits c.in_ok-chunks_of.field-0.items (made (goal.at.from_vec-requires-clause-fits c).In_ok-chunks_of)

pub from_vec-requires-clause-small : goal.from_vec-requires-clause-small
from_vec-requires-clause-small c = rope_few c.in_ok-chunks_of.field-0.items (made (goal.at.from_vec-requires-clause-small c).In_ok-chunks_of)

pub invariant_of-result : goal.invariant_of-result
invariant_of-result c = subst IsRope (sym c.in_ok-chunks.ensures.ok) (made (goal.at.invariant_of-result c).In_ok-chunks_of)

pub returns-clause-steps : goal.returns-clause-steps
returns-clause-steps c = few (goal.at.returns-clause-steps c).In_ok-chunks_of c.args.steps.now c.from_vec.new.steps c.in_ok-chunks.ensures.steps

pub returns-in_err-chunks-clause-steps : goal.returns-in_err-chunks-clause-steps
returns-in_err-chunks-clause-steps c = few (goal.at.returns-in_err-chunks-clause-steps c).In_ok-chunks_of c.args.steps.now c.from_vec.new.steps c.in_err-chunks.ensures.steps
