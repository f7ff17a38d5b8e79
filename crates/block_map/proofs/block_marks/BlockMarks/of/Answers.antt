use Rattle.block_map.proofs.MarksAfter.{none-pending}
use Rattle.block_map.proofs.block_marks.BlockMarks.of.Goals as goal

pub invariant_of-result : goal.invariant_of-result
invariant_of-result c = none-pending c.args.marks c.len-count.ensures.lawful.offsets
