use Rattle.std.proofs.Common.{List, ap, subst, length, arith}
use Rattle.block_map.specs.inside.Sides.{BlockMark}
use Rattle.block_map.proofs.MarksAfter.{length-after}
use Rattle.block_map.proofs.PlacesOfIds.{IsMarkOf, mark-found}
use Rattle.block_map.proofs.block_marks.BlockMarks.find.Goals as goal

pub returns-clause-place : goal.returns-clause-place
returns-clause-place c =
    let i = c.self.inside in
    subst (λ (ms : List BlockMark). IsMarkOf ms c.args.id c.find.result) c.self.view_is
    (mark-found i.pending i.marks c.args.id c.find.result c.len-count.ensures.lawful c.self.invariant c.find.ensures.place)

pub returns-clause-steps : goal.returns-clause-steps
returns-clause-steps c =
    let i = c.self.inside in
    omega (arith, c.find.ensures.steps, length-after i.pending i.marks, ap length c.self.view_is)
