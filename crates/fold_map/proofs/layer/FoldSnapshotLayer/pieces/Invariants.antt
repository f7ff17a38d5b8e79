-- The pieces so far, and where the line goes on.
use Rattle.std.proofs.Common.{List}
use Rattle.cell_units.specs.Layers.{unfolded}
use Rattle.sum_core.specs.declared.load.NoLoad.{NoLoad}
use Rattle.splice_tree.specs.Splices.{Piece}
use Rattle.fold_map.specs.declared.amount.Amount.{Amount}
use Rattle.fold_map.specs.LinePieces.{IsLineOf}
use Rattle.fold_map.specs.Splices.{AreSplices}
use Rattle.fold_map.proofs.LinesWalk.{IsWalk}
use Rattle.fold_map.proofs.layer.FoldSnapshotLayer.pieces.Given as goal

abbrev pub invariant-loop-index : goal.invariant-loop-index
invariant-loop-index g l = record {
  walk : (ps : List (Piece Amount NoLoad)) → AreSplices l.self ps → IsWalk l.self ps l.fn.line l.index l.place l.below.number l.pieces.items;
  below : IsLineOf (unfolded l.self) l.below.number l.below;
}
