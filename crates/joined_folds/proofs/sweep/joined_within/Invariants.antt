use Rattle.std.proofs.Common.{List, drop}
use Rattle.cell_units.specs.Record.{Fold}
use Rattle.joined_folds.specs.Sweeps.{AreMet}
use Rattle.joined_folds.specs.Windows.{IsWindow}
use Rattle.joined_folds.proofs.Sweeps.{Swept}
use Rattle.joined_folds.proofs.sweep.joined_within.Given as goal

abbrev pub invariant-loop-range : goal.invariant-loop-range
invariant-loop-range l = (folds : List Fold) → IsWindow folds l.window → AreMet folds l.window l.met → Swept folds l.window (drop l.range-index l.met) l.joined.items l.last
