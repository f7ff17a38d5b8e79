-- A row of the buffer begins and ends at boundaries, and the block's line is that of one of these.
use Rattle.std.proofs.Common.{◌≡◌, ℕ, sym, ap, subst, ◌∙◌, arith}
use Rattle.cell_units.specs.declared.place.Bias.TheVariants.{Left, Right}
use Rattle.cell_units.specs.Layers.{Source}
use Rattle.cell_units.specs.Lawful.{source_of}
use Rattle.cell_units.specs.Text.{IsBoundary, row_end, row_start}
use Rattle.block_map.proofs.RowBounds.{end-boundary, start-boundary}
use Rattle.plain_rows.proofs.RisingLines.{row_end-within, row_start-le}
use Rattle.plain_rows.proofs.SpotFronts.{line_of-within}
use Rattle.view_pieces.proofs.block_rows.block_line.Goals as goal

pub place-requires : goal.place-requires
place-requires c =
    let r = c.args.sheet.now in
    let layer : c.layer-layer.result.now ≡ source_of r = c.layer-layer.ensures ∙ c.text.ensures in
    let start : c.row_ends-start.result.0 ≡ row_start r.text c.args.offset =
    ap (λ (p : ℕ × ℕ). p.0) c.row_ends-start.ensures ∙ ap (λ (s : Source). row_start s.text c.args.offset) layer in
    subst (IsBoundary r.text) (sym start) (start-boundary r.text c.args.offset c.lawful.ensures.lawful.entries.source.text.0 c.requires.0)

pub place-requires-in-Below : goal.place-requires-in-Below
place-requires-in-Below c =
    let r = c.args.sheet.now in
    let layer : c.layer-layer.result.now ≡ source_of r = c.layer-layer.ensures ∙ c.text.ensures in
    let end : c.row_ends-start.result.1 ≡ row_end r.text c.args.offset =
    ap (λ (p : ℕ × ℕ). p.1) c.row_ends-start.ensures ∙ ap (λ (s : Source). row_end s.text c.args.offset) layer in
    subst (IsBoundary r.text) (sym end) (end-boundary r.text c.args.offset c.lawful.ensures.lawful.entries.source.text.0 c.requires.0)

pub returns-in-Above-clause-within : goal.returns-in-Above-clause-within
returns-in-Above-clause-within c =
    let r = c.args.sheet.now in
    let layer : c.layer-layer.result.now ≡ source_of r = c.layer-layer.ensures ∙ c.text.ensures in
    let start : c.row_ends-start.result.0 ≡ row_start r.text c.args.offset =
    ap (λ (p : ℕ × ℕ). p.0) c.row_ends-start.ensures ∙ ap (λ (s : Source). row_start s.text c.args.offset) layer in
    let within = line_of-within r c.lawful.ensures.lawful c.row_ends-start.result.0 Left (omega (arith, start, row_start-le r.text c.args.offset, c.requires.0)) in
    omega (arith, within, c.place.ensures.line)

pub returns-in-Below-clause-within : goal.returns-in-Below-clause-within
returns-in-Below-clause-within c =
    let r = c.args.sheet.now in
    let layer : c.layer-layer.result.now ≡ source_of r = c.layer-layer.ensures ∙ c.text.ensures in
    let end : c.row_ends-start.result.1 ≡ row_end r.text c.args.offset =
    ap (λ (p : ℕ × ℕ). p.1) c.row_ends-start.ensures ∙ ap (λ (s : Source). row_end s.text c.args.offset) layer in
    let within = line_of-within r c.lawful.ensures.lawful c.row_ends-start.result.1 Right (omega (arith, end, row_end-within r.text c.args.offset c.requires.0)) in
    omega (arith, within, c.place-in-Below.ensures.line)
