use Rattle.std.proofs.Common.{map, sym, ap, ◌∙◌}
use Rattle.cell_units.specs.Layers.{place_of, unfolded}
use Rattle.splice_tree.specs.Splices.{measured, to_upper}
use Rattle.fold_map.specs.Amounts.{bytes_of}
use Rattle.fold_map.proofs.Places.{carried-place}
use Rattle.fold_map.proofs.laws.place_laws.Goals as goal

pub returns : goal.returns
returns c = record {
  places = λ s splices o bias are le.
      carried-place s.text s.inlays s.folds are.joined o bias are.all le
      ∙ ap (λ ps. to_upper bias (map (measured bytes_of) ps) (place_of (unfolded s) o bias)) (sym are.spliced);
}
