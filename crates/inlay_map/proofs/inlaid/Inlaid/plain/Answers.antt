use Rattle.std.proofs.Common.{ℕ, List, map, ap, sym, subst}
use Rattle.cell_units.specs.Lawful.{AreInlays, IsInlayOf}
use Rattle.cell_units.specs.Layers.{inlay_source}
use Rattle.cell_units.specs.Record.{Inlay, inlay_le}
use Rattle.cell_units.proofs.PlainLayers.{no_entries}
use Rattle.mark_tree.specs.declared.mark.Mark.{Mark}
use Rattle.inlay_map.specs.Splices.{inlay_of}
use Rattle.inlay_map.proofs.inlaid.Inlaid.plain.Goals as goal

pub invariant_of-result : goal.invariant_of-result
invariant_of-result c =
    subst (λ (l : List (Mark (List ℕ))). AreInlays c.args.rope (map inlay_of l)) (sym c.new-marks.ensures) (no_entries inlay_le (λ (i : Inlay). i.id) (IsInlayOf c.args.rope))

pub returns : goal.returns
returns c = ap (λ (l : List (Mark (List ℕ))). inlay_source c.args.rope (map inlay_of l)) c.new-marks.ensures
