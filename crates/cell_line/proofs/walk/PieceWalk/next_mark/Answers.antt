use Rattle.std.proofs.Common.{◌≡◌, ◌++◌, [], ◌∷◌, true, drop, slice_index, ap, arith}
use Rattle.unicode_segmentation.specs.Grapheme.{graphemes}
use Rattle.cell_line.specs.Elements.{clusters}
use Rattle.cell_line.specs.declared.mark.Mark.{Mark}
use Rattle.cell_line.specs.inside.Marks.{element_of, mark_of}
use Rattle.cell_line.specs.inside.Parts.{clusters_in}
use Rattle.cell_line.specs.inside.Simple.{StartsSimple}
use Rattle.cell_line.proofs.Walks.{part_none, step_simple, IsStep}
use Rattle.cell_line.proofs.walk.PieceWalk.next_mark.Goals as goal
use Rattle.cell_line.proofs.walk.PieceWalk.next_mark.Goals.{After-range_from-self-inside}

mark : (c : After-range_from-self-inside) →
    c.of_simple-mark.result ≡ mark_of (element_of c.self.inside.tab c.self.inside.column (slice_index c.self.inside.rest.now 0 ∷ []))
mark c = rw c.as_bytes-then-starts_simple.ensures.value at c.of_simple-mark.ensures

step : (c : After-range_from-self-inside) →
    IsStep c.self.inside.tab c.self.inside.column c.of_simple-mark.result.cells c.args.self.now
    (element_of c.self.inside.tab c.self.inside.column (slice_index c.self.inside.rest.now 0 ∷ []))
    (clusters_in c.self.inside.part ++ (graphemes true c.range_from-self-inside.result.now ++ clusters (drop c.self.inside.begun c.self.inside.pieces.now)))
step c =
    let w = c.self.inside in
    let starts : StartsSimple w.rest.now = rw c.as_bytes.ensures.value at (c.starts_simple.ensures c.if-starts_simple.true) in
    step_simple w.tab w.column c.of_simple-mark.result.cells (clusters_in w.part) (clusters (drop w.begun w.pieces.now)) w.rest.now c.range_from-self-inside.result.now c.args.self.now
    (part_none w.part c.is_none.result c.is_none.ensures c.if-is_none.true) c.self.invariant.2 starts
    c.range_from-self-inside.ensures.value (ap (λ (m : Mark). m.cells) (mark c)) c.self.view_is c.self.invariant.3

pub overflow_add-self : goal.overflow_add-self
overflow_add-self c = let s = (step (goal.at.overflow_add-self c).After-range_from-self-inside).sum in omega (arith, s)

pub invariant_of-self : goal.invariant_of-self
invariant_of-self c =
    (c.self.invariant.0, c.self.invariant.1, c.range_from-self-inside.utf8, (step (goal.at.invariant_of-self c).After-range_from-self-inside).rest)

pub returns-then-starts_simple : goal.returns-then-starts_simple
returns-then-starts_simple c =
    let at = (goal.at.returns-then-starts_simple c).After-range_from-self-inside in
    (element_of c.self.inside.tab c.self.inside.column (slice_index c.self.inside.rest.now 0 ∷ []), (step at).first, mark at)
