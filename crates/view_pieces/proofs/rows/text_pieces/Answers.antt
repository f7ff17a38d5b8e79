-- The line's pieces, its tab size and its width are those of the record.
use Rattle.std.proofs.Common.{◌≡◌, ◌≤◌, List, sym, ap, subst, ◌∙◌}
use Rattle.std.specs.List.{All}
use Rattle.std.specs.Prelude.{IfOk, slice_get}
use Rattle.cell_units.specs.declared.piece.Piece.{Piece}
use Rattle.cell_units.specs.Lawful.{IsWidth}
use Rattle.cell_line.specs.Elements.{bytes_in}
use Rattle.plain_rows.specs.inside.BuiltRows.{shown_limit}
use Rattle.plain_rows.specs.Spots.{mark_at}
use Rattle.row_pieces.specs.declared.row_piece.RowPiece.{RowPiece}
use Rattle.row_pieces.specs.inside.Lines.{HasOffsets}
use Rattle.row_pieces.specs.Listed.{listed}
use Rattle.row_pieces.specs.Laws.{pieces_at}
use Rattle.row_pieces.specs.Pieces.{pieces_by_row}
use Rattle.wrapped_lines.specs.WrappedSource.{WrappedSource}
use Rattle.map_sheet.proofs.Readings.{line-width, width-is}
use Rattle.map_sheet.proofs.Sent.{sheet_sent}
use Rattle.view_pieces.proofs.Lines.{pieces-are, pieces-few, pieces-offsets}
use Rattle.view_pieces.proofs.rows.text_pieces.Goals as goal

pub rows-requires-send-L : goal.rows-requires-send-L
rows-requires-send-L c κs = search sheet_sent depth 12 fits 4000

pub rows-requires-sync-L : goal.rows-requires-sync-L
rows-requires-sync-L c κs = search sheet_sent depth 12 fits 4000

pub mark-width-requires-send-N : goal.mark-width-requires-send-N
mark-width-requires-send-N c κs = search sheet_sent depth 12 fits 4000

pub mark-width-requires-sync-N : goal.mark-width-requires-sync-N
mark-width-requires-sync-N c κs = search sheet_sent depth 12 fits 4000

pub tab-tab-requires-send-L : goal.tab-tab-requires-send-L
tab-tab-requires-send-L c κs = search sheet_sent depth 12 fits 4000

pub tab-tab-requires-sync-L : goal.tab-tab-requires-sync-L
tab-tab-requires-sync-L c κs = search sheet_sent depth 12 fits 4000

pub pieces_of_line_row-requires-clause-width : goal.pieces_of_line_row-requires-clause-width
pieces_of_line_row-requires-clause-width c =
    let is = line-width c.args.sheet.now c.lawful.ensures.lawful c.lawful.ensures.short c.wrapped.result.now c.wrapped.ensures c.rows.result.now c.rows.ensures c.args.line c.requires c.mark-width.result c.mark-width.ensures.mark in
    subst IsWidth (sym is) (width-is c.args.sheet.now c.lawful.ensures.lawful c.lawful.ensures.short c.args.line c.requires)

pub pieces_of_line_row-requires-clause-size : goal.pieces_of_line_row-requires-clause-size
pieces_of_line_row-requires-clause-size c =
    let r = c.args.sheet.now in
    let layer = c.layer-layer.ensures ∙ c.text.ensures in
    let few = pieces-few r c.lawful.ensures.lawful c.lawful.ensures.short c.args.line c.requires c.layer-layer.result.now layer c.in_ok-pieces.pieces.items c.in_ok-pieces.ensures in
    subst (λ (ps : List Piece). bytes_in ps ≤ shown_limit) (sym c.as_slice.ensures.value) few

pub pieces_of_line_row-requires-clause-offsets : goal.pieces_of_line_row-requires-clause-offsets
pieces_of_line_row-requires-clause-offsets c =
    let r = c.args.sheet.now in
    let layer = c.layer-layer.ensures ∙ c.text.ensures in
    let offsets = pieces-offsets r c.lawful.ensures.lawful c.lawful.ensures.short c.args.line c.requires c.layer-layer.result.now layer c.in_ok-pieces.pieces.items c.in_ok-pieces.ensures in
    subst (All HasOffsets) (sym c.as_slice.ensures.value) offsets

pub returns-clause-pieces : goal.returns-clause-pieces
returns-clause-pieces c =
    let r = c.args.sheet.now in
    let line = c.args.line in
    let layer = c.layer-layer.ensures ∙ c.text.ensures in
    let pieces = c.as_slice.ensures.value ∙ pieces-are r c.lawful.ensures.lawful c.lawful.ensures.short line c.requires c.layer-layer.result.now layer c.in_ok-pieces.pieces.items c.in_ok-pieces.ensures in
    let tab = c.tab-tab.ensures ∙ ap (λ (w : WrappedSource). w.tab) c.wrapped-2.ensures in
    let width = line-width r c.lawful.ensures.lawful c.lawful.ensures.short c.wrapped.result.now c.wrapped.ensures c.rows.result.now c.rows.ensures line c.requires c.mark-width.result c.mark-width.ensures.mark in
    let same : pieces_by_row c.as_slice.result.now c.tab-tab.result c.mark-width.result ≡ pieces_by_row (pieces_at r line) r.tab (mark_at r line).width =
    λ i. pieces_by_row (pieces i) (tab i) (width i) in
    subst (λ (rows : List (List RowPiece)). IfOk c.pieces_of_line_row.result (λ found. listed found ≡ slice_get rows c.args.at)) same c.pieces_of_line_row.ensures
