-- A row of the buffer ends at a boundary.
use Rattle.std.proofs.Common.{◌≡◌, ℕ, sym, ap, subst, ◌∙◌, arith}
use Rattle.cell_units.specs.declared.place.Bias.TheVariants.{Right}
use Rattle.cell_units.specs.Layers.{Source}
use Rattle.cell_units.specs.Lawful.{source_of}
use Rattle.cell_units.specs.Text.{IsBoundary, row_end}
use Rattle.block_map.proofs.RowBounds.{end-boundary}
use Rattle.plain_rows.proofs.RisingLines.{row_end-within}
use Rattle.plain_rows.proofs.SpotFronts.{line_of-within}
use Rattle.view_changes.proofs.lines.line_to.Goals as goal

pub place-requires : goal.place-requires
place-requires c =
    let r = c.args.sheet.now in
    let layer : c.layer.result.now ≡ source_of r = c.layer.ensures ∙ c.text.ensures in
    let end : c.row_ends-start.result.1 ≡ row_end r.text c.args.offset =
    ap (λ (p : ℕ × ℕ). p.1) c.row_ends-start.ensures ∙ ap (λ (s : Source). row_end s.text c.args.offset) layer in
    subst (IsBoundary r.text) (sym end) (end-boundary r.text c.args.offset c.lawful.ensures.lawful.entries.source.text.0 c.requires.0)

pub returns-clause-within : goal.returns-clause-within
returns-clause-within c =
    let r = c.args.sheet.now in
    let layer : c.layer.result.now ≡ source_of r = c.layer.ensures ∙ c.text.ensures in
    let end : c.row_ends-start.result.1 ≡ row_end r.text c.args.offset =
    ap (λ (p : ℕ × ℕ). p.1) c.row_ends-start.ensures ∙ ap (λ (s : Source). row_end s.text c.args.offset) layer in
    omega (
      arith,
      c.place.ensures.line,
      line_of-within r c.lawful.ensures.lawful c.row_ends-start.result.1 Right (omega (arith, end, row_end-within r.text c.args.offset c.requires.0)),
    )
