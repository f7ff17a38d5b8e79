use Rattle.std.proofs.Common.{◌++◌, true, drop, ap, arith}
use Rattle.std.specs.Char.{encode_utf8}
use Rattle.unicode_segmentation.specs.Grapheme.{graphemes}
use Rattle.cell_line.specs.Elements.{clusters}
use Rattle.cell_line.specs.declared.mark.Mark.{Mark}
use Rattle.cell_line.specs.inside.Marks.{element_of}
use Rattle.cell_line.specs.inside.Parts.{clusters_in}
use Rattle.cell_line.proofs.Walks.{part_absent, step_alone, IsStep}
use Rattle.cell_line.proofs.walk.PieceWalk.next_wide.Goals as goal
use Rattle.cell_line.proofs.walk.PieceWalk.next_wide.Goals.{After-of_alone-mark}

step : (c : After-of_alone-mark) →
    IsStep c.self.inside.tab c.self.inside.column c.of_alone-mark.result.cells c.args.self.now
    (element_of c.self.inside.tab c.self.inside.column (encode_utf8 c.in-Some.first))
    (clusters_in c.self.inside.part ++ (graphemes true c.in-Some.rest.now ++ clusters (drop c.self.inside.begun c.self.inside.pieces.now)))
step c =
    let w = c.self.inside in
    step_alone w.tab w.column c.of_alone-mark.result.cells c.in-Some.first (clusters_in w.part) (clusters (drop w.begun w.pieces.now)) w.rest.now c.in-Some.rest.now c.args.self.now
    (part_absent w.part c.is_some.result c.is_some.ensures c.if-is_some.false) c.in-Some.ensures
    (ap (λ (m : Mark). m.cells) c.of_alone-mark.ensures) c.self.view_is c.self.invariant.3

pub overflow_add-self : goal.overflow_add-self
overflow_add-self c = let s = (step (goal.at.overflow_add-self c).After-of_alone-mark).sum in omega (arith, s)

pub invariant_of-self : goal.invariant_of-self
invariant_of-self c =
    (c.self.invariant.0, c.self.invariant.1, c.in-Some.ensures.utf8, (step (goal.at.invariant_of-self c).After-of_alone-mark).rest)

pub returns : goal.returns
returns c =
    (element_of c.self.inside.tab c.self.inside.column (encode_utf8 c.in-Some.first), (step (goal.at.returns c).After-of_alone-mark).first, c.of_alone-mark.ensures)
