use Rattle.std.proofs.Common.{[], sym, subst}
use Rattle.cell_units.specs.Layers.{Source}
use Rattle.cell_line.specs.Lines.{FitsU32}
use Rattle.tab_map.specs.TabLines.{Tabbed, lines_at}
use Rattle.wrapped_lines.proofs.lines.WrappedLines.new.Goals as goal

pub sync-requires-clause-fits : goal.sync-requires-clause-fits
sync-requires-clause-fits g c κs within =
    let layer = g.L.Layer.source c.in_ok-share-2.field-0 in
    subst (λ (m : Tabbed). FitsU32 (lines_at layer m.tab)) (sym c.new-tabs.ensures)
    (subst (λ (s : Source). FitsU32 (lines_at s 4)) (sym c.in_ok-share-2.ensures) (c.requires []).fits)
