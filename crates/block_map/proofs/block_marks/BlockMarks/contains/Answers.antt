use Rattle.std.proofs.Common.{◌∙◌, ap, length, sym, arith}
use Rattle.std.specs.List.{list_any}
use Rattle.mark_tree.specs.Marks.{has_id}
use Rattle.block_map.proofs.MarksAfter.{any-after, length-after}
use Rattle.block_map.proofs.block_marks.BlockMarks.contains.Goals as goal

pub returns-clause-value : goal.returns-clause-value
returns-clause-value c =
    let i = c.self.inside in
    c.contains.ensures.value ∙ sym (any-after c.args.id i.pending i.marks) ∙ ap (list_any (has_id c.args.id)) c.self.view_is

pub returns-clause-steps : goal.returns-clause-steps
returns-clause-steps c =
    let i = c.self.inside in
    omega (arith, c.contains.ensures.steps, length-after i.pending i.marks, ap length c.self.view_is)
