use Rattle.std.proofs.Common.{length, map, ap, sym, subst, ◌∙◌}
use Rattle.cell_units.specs.Layers.{Source, shown_lines}
use Rattle.joined_folds.specs.Sweeps.{fold_of}
use Rattle.fold_map.specs.Lines.{CoverLines, lines_of}
use Rattle.fold_map.proofs.LinesLayer.{lines-are, lines-covered}
use Rattle.fold_map.proofs.SpotsLayer.{over}
use Rattle.fold_map.proofs.layer.FoldSnapshotLayer.lines.Goals as goal

pub lines_shown-requires : goal.lines_shown-requires
lines_shown-requires g c =
    let v = c.args.self.now in
    let ps = c.self.inside.splices in
    let o = over (g.L.Layer.source c.self.inside.layer) v (map fold_of c.self.inside.folds) ps c.self.invariant c.self.view_is in
    subst (CoverLines ps) (sym (c.lines.ensures ∙ ap (λ (u : Source). length (shown_lines u)) o.below)) (lines-covered v ps o.are)

pub returns : goal.returns
returns g c =
    let v = c.args.self.now in
    let ps = c.self.inside.splices in
    let o = over (g.L.Layer.source c.self.inside.layer) v (map fold_of c.self.inside.folds) ps c.self.invariant c.self.view_is in
    c.lines_shown.ensures ∙ ap (lines_of ps) (c.lines.ensures ∙ ap (λ (u : Source). length (shown_lines u)) o.below) ∙ lines-are v ps o.are
