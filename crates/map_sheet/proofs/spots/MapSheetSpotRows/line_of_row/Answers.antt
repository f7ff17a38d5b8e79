use Rattle.std.proofs.Common.{◌≡◌, ◌≤◌, ◌+◌, ap, subst, length, inl, inr, arith}
use mathlib.Core.Logic.{◌⊎◌}
use Rattle.std.proofs.lemmas.Bool.{cases_lt}
use Rattle.block_map.specs.Between.{Between, IsLastBegun}
use Rattle.plain_rows.specs.Rows.{rows_of}
use Rattle.map_sheet.proofs.Readings.{line-found, some-row}
use Rattle.map_sheet.proofs.Sent.{sheet_sent}
use Rattle.map_sheet.proofs.spots.MapSheetSpotRows.line_of_row.Goals as goal

pub line_of_row-requires-after_bounds : goal.line_of_row-requires-after_bounds
line_of_row-requires-after_bounds c κs =
    let some = some-row c.args.self.now c.lawful.ensures.lawful c.lawful.ensures.short in
    omega (arith, some, ap length c.shown-shown.ensures.rows, c.row_count.ensures, c.saturating_sub-last.ensures, c.min.ensures)

pub returns-clause-line : goal.returns-clause-line
returns-clause-line c =
    let r = c.args.self.now in
    let at = c.min.result in
    let where_is : (c.args.row ≡ at) ⊎ ((at ≤ c.args.row) × (length (rows_of r) ≤ at + 1)) =
    elim (cases_lt c.args.row (length (rows_of r))) [
      | inl lt ↦ inl (omega (arith, lt, ap length c.shown-shown.ensures.rows, c.row_count.ensures, c.saturating_sub-last.ensures, c.min.ensures))
      | inr ge ↦ inr (
        omega (arith, ge, ap length c.shown-shown.ensures.rows, c.row_count.ensures, c.saturating_sub-last.ensures, c.min.ensures),
        omega (arith, ge, ap length c.shown-shown.ensures.rows, c.row_count.ensures, c.saturating_sub-last.ensures, c.min.ensures),
      )
    ] in
    line-found r c.lawful.ensures.lawful c.lawful.ensures.short c.blocked_laws.ensures.finds c.args.row at c.line_of_row.result where_is
    (subst (λ (x : Between). IsLastBegun x at c.line_of_row.result) c.shown-shown.ensures.shown c.line_of_row.ensures.line)

pub row_count-requires-send-R : goal.row_count-requires-send-R
row_count-requires-send-R c κs = search sheet_sent depth 12 fits 4000

pub row_count-requires-sync-R : goal.row_count-requires-sync-R
row_count-requires-sync-R c κs = search sheet_sent depth 12 fits 4000

pub line_of_row-requires-send-R : goal.line_of_row-requires-send-R
line_of_row-requires-send-R c κs = search sheet_sent depth 12 fits 4000

pub line_of_row-requires-sync-R : goal.line_of_row-requires-sync-R
line_of_row-requires-sync-R c κs = search sheet_sent depth 12 fits 4000
