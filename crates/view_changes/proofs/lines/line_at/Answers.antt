-- A row of the buffer begins at a boundary.
use Rattle.std.proofs.Common.{◌≡◌, ℕ, sym, ap, subst, ◌∙◌}
use Rattle.cell_units.specs.Layers.{Source}
use Rattle.cell_units.specs.Lawful.{source_of}
use Rattle.cell_units.specs.Text.{IsBoundary, row_start}
use Rattle.block_map.proofs.RowBounds.{start-boundary}
use Rattle.view_changes.proofs.lines.line_at.Goals as goal

pub place-requires : goal.place-requires
place-requires c =
    let r = c.args.sheet.now in
    let layer : c.layer.result.now ≡ source_of r = c.layer.ensures ∙ c.text.ensures in
    let start : c.row_ends-start.result.0 ≡ row_start r.text c.args.offset =
    ap (λ (p : ℕ × ℕ). p.0) c.row_ends-start.ensures ∙ ap (λ (s : Source). row_start s.text c.args.offset) layer in
    subst (IsBoundary r.text) (sym start) (start-boundary r.text c.args.offset c.lawful.ensures.lawful.entries.source.text.0 c.requires.0)
