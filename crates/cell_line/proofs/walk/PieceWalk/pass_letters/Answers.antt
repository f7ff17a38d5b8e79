use Rattle.std.proofs.Common.{◌+◌, ◌++◌, ◌^◌, ◌<◌, true, drop, arith}
use Rattle.unicode_segmentation.specs.Grapheme.{graphemes}
use Rattle.cell_line.specs.Elements.{clusters, placed, total_cells}
use Rattle.cell_line.specs.inside.Marks.{AreLetters}
use Rattle.cell_line.specs.inside.Parts.{clusters_in}
use Rattle.cell_line.specs.inside.Simple.{StartsWithLetters}
use Rattle.cell_line.proofs.Walks.{letters_boundary, part_absent, pass_walk}
use Rattle.cell_line.proofs.walk.PieceWalk.pass_letters.Goals as goal
use Rattle.cell_line.proofs.walk.PieceWalk.pass_letters.Goals.{After-letters-count, After-range_from-self-inside}

starts : (c : After-letters-count) → StartsWithLetters c.self.inside.rest.now c.letters-count.result
starts c = rw c.as_bytes.ensures.value at c.letters-count.ensures.letters

passed : (c : After-range_from-self-inside) →
    AreLetters c.args.self.now c.letters-count.result
    (placed c.self.inside.tab (c.self.inside.column + c.letters-count.result) (clusters_in c.self.inside.part ++ (graphemes true c.range_from-self-inside.result.now ++ clusters (drop c.self.inside.begun c.self.inside.pieces.now))))
    × (c.self.inside.column + c.letters-count.result + total_cells (placed c.self.inside.tab (c.self.inside.column + c.letters-count.result) (clusters_in c.self.inside.part ++ (graphemes true c.range_from-self-inside.result.now ++ clusters (drop c.self.inside.begun c.self.inside.pieces.now)))) < 2 ^ 32)
passed c =
    let w = c.self.inside in
    pass_walk w.tab w.column c.letters-count.result (clusters_in w.part) (clusters (drop w.begun w.pieces.now)) w.rest.now c.range_from-self-inside.result.now c.args.self.now
    (part_absent w.part c.is_some.result c.is_some.ensures c.if-is_some.false) c.self.invariant.2 (rw c.as_bytes.ensures.value at c.letters-count.ensures.letters)
    c.range_from-self-inside.ensures.value c.self.view_is c.self.invariant.3

pub range_from-self-inside-requires : goal.range_from-self-inside-requires
range_from-self-inside-requires c =
    λ _. letters_boundary c.self.inside.rest.now c.letters-count.result c.self.invariant.2 (starts (goal.at.range_from-self-inside-requires c).After-letters-count)

pub overflow_add-self : goal.overflow_add-self
overflow_add-self c = let s = (passed (goal.at.overflow_add-self c).After-range_from-self-inside).1 in omega (arith, s)

pub invariant_of-self : goal.invariant_of-self
invariant_of-self c =
    (c.self.invariant.0, c.self.invariant.1, c.range_from-self-inside.utf8, (passed (goal.at.invariant_of-self c).After-range_from-self-inside).1)

pub returns-clause-letters : goal.returns-clause-letters
returns-clause-letters c = (passed (goal.at.returns-clause-letters c).After-range_from-self-inside).0
