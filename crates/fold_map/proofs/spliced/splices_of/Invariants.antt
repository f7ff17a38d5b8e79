use Rattle.std.proofs.Common.{◌≡◌, take, drop}
use Rattle.cell_units.specs.declared.place.Bias.TheVariants.{Left}
use Rattle.joined_folds.specs.JoinedLists.{last_end}
use Rattle.fold_map.specs.Positions.{AreInText, position_of}
use Rattle.fold_map.specs.Splices.{splices_from}
use Rattle.fold_map.proofs.spliced.splices_of.Given as goal

abbrev pub invariant-loop-one : goal.invariant-loop-one
invariant-loop-one g l =
    let s = g.L.Layer.source l.layer in
    let base = last_end l.base (take l.one-index l.joined) in
    record {
      from : l.from ≡ position_of s base Left;
      spliced : l.splices.items ≡ splices_from s l.base (take l.one-index l.joined);
      rest : AreInText s base (drop l.one-index l.joined);
    }
