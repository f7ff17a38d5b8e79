use Rattle.std.proofs.Common.{◌<◌, ◌∙◌, ap, sym, subst, length}
use Rattle.cell_units.specs.Rows.{line_rows}
use Rattle.block_map.specs.Between.{Between, place_of_row}
use Rattle.map_sheet.proofs.Readings.{has-row, row-lines}
use Rattle.map_sheet.proofs.Sent.{sheet_sent}
use Rattle.map_sheet.proofs.spots.MapSheetSpotRows.first_row.Goals as goal

pub row_of-requires-clause-line : goal.row_of-requires-clause-line
row_of-requires-clause-line c κs =
    subst (λ (x : Between). c.args.line < length x.lines) (sym c.shown.ensures.shown) (row-lines c.args.self.now c.lawful.ensures.lawful c.lawful.ensures.short c.args.line c.requires)

pub row_of-requires-clause-row : goal.row_of-requires-clause-row
row_of-requires-clause-row c κs =
    subst (λ (x : Between). 0 < length (line_rows x.lines c.args.line)) (sym c.shown.ensures.shown) (has-row c.args.self.now c.lawful.ensures.lawful c.lawful.ensures.short c.args.line c.requires)

pub returns-clause-rows : goal.returns-clause-rows
returns-clause-rows c =
    c.row_of.ensures.place
    ∙ ap (λ (x : Between). place_of_row x c.args.line 0) c.shown.ensures.shown
    ∙ c.blocked_laws.ensures.begins c.args.self.now c.lawful.ensures.lawful c.args.line c.requires

pub row_of-requires-send-R : goal.row_of-requires-send-R
row_of-requires-send-R c κs = search sheet_sent depth 12 fits 4000

pub row_of-requires-sync-R : goal.row_of-requires-sync-R
row_of-requires-sync-R c κs = search sheet_sent depth 12 fits 4000
