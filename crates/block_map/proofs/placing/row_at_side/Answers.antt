use Rattle.std.proofs.Common.{◌≡◌, ℕ, ◌+◌, ◌≤◌, [], length, sym, ap, subst, ◌∙◌, arith}
use Rattle.cell_units.specs.declared.place.Bias.TheVariants.{Left, Right}
use Rattle.cell_units.specs.declared.place.Point.{Point}
use Rattle.cell_units.specs.declared.place.Side.{Side}
use Rattle.cell_units.specs.Folded.{line_of}
use Rattle.cell_units.specs.Layers.{shown_text}
use Rattle.cell_units.specs.Rows.{rows_before}
use Rattle.cell_units.specs.Text.{IsBoundary, row_end, row_of, row_start}
use Rattle.cell_units.proofs.ShownPlaces.{place-le}
use Rattle.cell_units.proofs.Sources.{row-lt}
use Rattle.block_map.specs.Maps.{fresh, row_of_kept}
use Rattle.block_map.proofs.RowBounds.{end-boundary, start-boundary}
use Rattle.block_map.proofs.RowsOfBlocks.{line-at}
use Rattle.block_map.proofs.placing.row_at_side.Goals as goal

pub place-requires : goal.place-requires
place-requires g c =
    let s = g.P.Layer.source c.args.layer.now in
    let text = s.text in
    let w = c.buffer_len-len.ensures.well_formed in
    let o = c.args.offset in
    let le : o ≤ length text = c.requires.boundary.0 in
    let start : c.row_ends-start.result.0 ≡ row_start text o = ap (λ (p : ℕ × ℕ). p.0) c.row_ends-start.ensures in
    let low : c.row_ends-start.result.0 ≤ length text = omega (arith, start, (start-boundary text o w.text.0 le).0) in
    subst (IsBoundary text) (sym start) (start-boundary text o w.text.0 le)

pub point-line-requires : goal.point-line-requires
point-line-requires g c =
    let s = g.P.Layer.source c.args.layer.now in
    let text = s.text in
    let w = c.buffer_len-len.ensures.well_formed in
    let o = c.args.offset in
    let le : o ≤ length text = c.requires.boundary.0 in
    let start : c.row_ends-start.result.0 ≡ row_start text o = ap (λ (p : ℕ × ℕ). p.0) c.row_ends-start.ensures in
    let low : c.row_ends-start.result.0 ≤ length text = omega (arith, start, (start-boundary text o w.text.0 le).0) in
    omega (arith, c.place.ensures, place-le s c.row_ends-start.result.0 Left low)

pub rows_before-requires : goal.rows_before-requires
rows_before-requires g c =
    let s = g.P.Layer.source c.args.layer.now in
    let text = s.text in
    let w = c.buffer_len-len.ensures.well_formed in
    let o = c.args.offset in
    let le : o ≤ length text = c.requires.boundary.0 in
    omega (arith, ap (λ (p : Point). p.row) c.point-line.ensures, row-lt s w c.place.result, c.requires.equal)

pub place-requires-in-Below : goal.place-requires-in-Below
place-requires-in-Below g c =
    let s = g.P.Layer.source c.args.layer.now in
    let text = s.text in
    let w = c.buffer_len-len.ensures.well_formed in
    let o = c.args.offset in
    let le : o ≤ length text = c.requires.boundary.0 in
    let end : c.row_ends-start.result.1 ≡ row_end text o = ap (λ (p : ℕ × ℕ). p.1) c.row_ends-start.ensures in
    let low : c.row_ends-start.result.1 ≤ length text = omega (arith, end, (end-boundary text o w.text.0 le).0) in
    subst (IsBoundary text) (sym end) (end-boundary text o w.text.0 le)

pub point-line-requires-in-Below : goal.point-line-requires-in-Below
point-line-requires-in-Below g c =
    let s = g.P.Layer.source c.args.layer.now in
    let text = s.text in
    let w = c.buffer_len-len.ensures.well_formed in
    let o = c.args.offset in
    let le : o ≤ length text = c.requires.boundary.0 in
    let end : c.row_ends-start.result.1 ≡ row_end text o = ap (λ (p : ℕ × ℕ). p.1) c.row_ends-start.ensures in
    let low : c.row_ends-start.result.1 ≤ length text = omega (arith, end, (end-boundary text o w.text.0 le).0) in
    omega (arith, c.place-in-Below.ensures, place-le s c.row_ends-start.result.1 Right low)

pub overflow_add-line : goal.overflow_add-line
overflow_add-line g c =
    let s = g.P.Layer.source c.args.layer.now in
    let text = s.text in
    let w = c.buffer_len-len.ensures.well_formed in
    let o = c.args.offset in
    let le : o ≤ length text = c.requires.boundary.0 in
    omega (arith, ap (λ (p : Point). p.row) c.point-line-in-Below.ensures, row-lt s w c.place-in-Below.result, c.requires.equal, c.lines-lines.ensures.value, c.lines-lines.type_inv)

pub rows_before-requires-in-Below : goal.rows_before-requires-in-Below
rows_before-requires-in-Below g c =
    let s = g.P.Layer.source c.args.layer.now in
    let text = s.text in
    let w = c.buffer_len-len.ensures.well_formed in
    let o = c.args.offset in
    let le : o ≤ length text = c.requires.boundary.0 in
    omega (arith, ap (λ (p : Point). p.row) c.point-line-in-Below.ensures, row-lt s w c.place-in-Below.result, c.requires.equal)

pub returns-in-Above : goal.returns-in-Above
returns-in-Above g c =
    let s = g.P.Layer.source c.args.layer.now in
    let text = s.text in
    let w = c.buffer_len-len.ensures.well_formed in
    let o = c.args.offset in
    let le : o ≤ length text = c.requires.boundary.0 in
    let start : c.row_ends-start.result.0 ≡ row_start text o = ap (λ (p : ℕ × ℕ). p.0) c.row_ends-start.ensures in
    let low : c.row_ends-start.result.0 ≤ length text = omega (arith, start, (start-boundary text o w.text.0 le).0) in
    let line : c.point-line.result.row ≡ line_of text s.inlays s.folds (row_start text o) Left =
    ap (λ (p : Point). p.row) c.point-line.ensures
    ∙ ap (row_of (shown_text s)) c.place.ensures
    ∙ line-at s w c.row_ends-start.result.0 Left low
    ∙ ap (λ (n : ℕ). line_of text s.inlays s.folds n Left) start in
    c.rows_before.ensures
    ∙ ap (rows_before (g.R.Rows.shown c.args.rows.now)) line
    ∙ sym (ap (λ (side : Side). row_of_kept s (g.R.Rows.shown c.args.rows.now) side (fresh 0 o [])) c.in-Above.is)

pub returns-in-Below : goal.returns-in-Below
returns-in-Below g c =
    let s = g.P.Layer.source c.args.layer.now in
    let text = s.text in
    let w = c.buffer_len-len.ensures.well_formed in
    let o = c.args.offset in
    let le : o ≤ length text = c.requires.boundary.0 in
    let end : c.row_ends-start.result.1 ≡ row_end text o = ap (λ (p : ℕ × ℕ). p.1) c.row_ends-start.ensures in
    let low : c.row_ends-start.result.1 ≤ length text = omega (arith, end, (end-boundary text o w.text.0 le).0) in
    let line : c.point-line-in-Below.result.row ≡ line_of text s.inlays s.folds (row_end text o) Right =
    ap (λ (p : Point). p.row) c.point-line-in-Below.ensures
    ∙ ap (row_of (shown_text s)) c.place-in-Below.ensures
    ∙ line-at s w c.row_ends-start.result.1 Right low
    ∙ ap (λ (n : ℕ). line_of text s.inlays s.folds n Right) end in
    c.rows_before-in-Below.ensures
    ∙ ap (λ (n : ℕ). rows_before (g.R.Rows.shown c.args.rows.now) (n + 1)) line
    ∙ sym (ap (λ (side : Side). row_of_kept s (g.R.Rows.shown c.args.rows.now) side (fresh 0 o [])) c.in-Below.is)
