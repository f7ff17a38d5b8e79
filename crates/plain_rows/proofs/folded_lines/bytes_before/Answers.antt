use Rattle.std.proofs.Common.{arith}
use Rattle.plain_rows.proofs.PartSums.{sum-bound}
use Rattle.plain_rows.specs.declared.folded_lines.Part.TheVariants.{Buffer}
use Rattle.plain_rows.proofs.folded_lines.bytes_before.Goals as goal

pub overflow_add-bytes : goal.overflow_add-bytes
overflow_add-bytes c =
    let bound = sum-bound c.args.offset c.args.bias c.args.parts.now c.loop-part.part-index (Buffer 0 0) (omega arith) in
    omega (arith, bound, c.loop-part.invariant, c.passed_bytes-bytes.ensures.value, c.requires)
