use Rattle.std.proofs.Common.{◌∙◌, ap, length, sym}
use Rattle.block_map.proofs.MarksAfter.{length-after}
use Rattle.block_map.proofs.block_marks.BlockMarks.len.Goals as goal

pub returns : goal.returns
returns c = c.len.ensures.len ∙ sym (length-after c.self.inside.pending c.self.inside.marks) ∙ ap length c.self.view_is
