use Rattle.std.proofs.Common.{ℕ, ◌-◌, ◌<◌, ◌≤◌, length, sym, ap, subst, ◌∙◌, arith}
use Rattle.std.specs.Prelude.{slice_get}
use Rattle.cell_units.specs.declared.place.Side.TheVariants.{Above, Below}
use Rattle.block_map.specs.Between.{Between}
use Rattle.plain_rows.specs.Spots.{mark_at, rows_before}
use Rattle.row_pieces.specs.Laws.{pieces_at}
use Rattle.row_pieces.specs.Pieces.{block_pieces_at, pieces_by_row}
use Rattle.map_sheet.proofs.Readings.{row-lines}
use Rattle.map_sheet.proofs.Sent.{sheet_sent}
use Rattle.view_pieces.proofs.LandedRows.{in-above, in-below, in-texts}
use Rattle.view_pieces.proofs.Lines.{begins-shown}
use Rattle.view_pieces.proofs.landing.place_of.Goals as goal

pub first_row-first-requires : goal.first_row-first-requires
first_row-first-requires c = c.line_of-line.ensures.line.within

pub start_of-start-requires-after_bounds : goal.start_of-start-requires-after_bounds
start_of-start-requires-after_bounds c κs =
    let r = c.args.sheet.now in
    let line = c.line_of-line.result in
    subst (λ (b : Between). line ≤ length b.lines) (sym c.shown.ensures.shown)
    (omega (arith, row-lines r c.lawful.ensures.lawful c.lawful.ensures.short line c.line_of-line.ensures.line.within))

pub overflow_sub-result : goal.overflow_sub-result
overflow_sub-result c =
    let r = c.args.sheet.now in
    let start = begins-shown c.blocked_laws.ensures.lines r c.lawful.ensures.lawful c.shown.result.now c.shown.ensures.shown c.line_of-line.result c.start_of-start.result c.start_of-start.ensures.start in
    omega (arith, start, c.line_of-line.ensures.line.from)

pub text_rows-count-requires : goal.text_rows-count-requires
text_rows-count-requires c = c.line_of-line.ensures.line.within

pub start_of-start-requires-send-R : goal.start_of-start-requires-send-R
start_of-start-requires-send-R c κs = search sheet_sent depth 12 fits 4000

pub start_of-start-requires-sync-R : goal.start_of-start-requires-sync-R
start_of-start-requires-sync-R c κs = search sheet_sent depth 12 fits 4000

pub returns-then-row-first-clause-lands : goal.returns-then-row-first-clause-lands
returns-then-row-first-clause-lands c =
    let r = c.args.sheet.now in
    let line = c.line_of-line.result in
    let h = c.line_of-line.ensures.line in
    let start = begins-shown c.blocked_laws.ensures.lines r c.lawful.ensures.lawful c.shown.result.now c.shown.ensures.shown line c.start_of-start.result c.start_of-start.ensures.start in
    let above = in-above r c.lawful.ensures.lawful c.lawful.ensures.short c.args.row line h (omega (arith, c.if-row-first.true, c.first_row-first.ensures.rows)) in
    record {
      within = h.within;
      pieces_are = above ∙ ap (λ (n : ℕ). slice_get (block_pieces_at r Above line) (c.args.row - n)) (sym start);
    }

pub returns-then-at-count-clause-lands : goal.returns-then-at-count-clause-lands
returns-then-at-count-clause-lands c =
    let r = c.args.sheet.now in
    let line = c.line_of-line.result in
    let h = c.line_of-line.ensures.line in
    let first = c.first_row-first.ensures.rows in
    let texts = pieces_by_row (pieces_at r line) r.tab (mark_at r line).width in
    let within : c.args.row - rows_before r line < length texts = omega (arith, c.if-at-count.true, c.text_rows-count.ensures, first) in
    let at = in-texts r c.lawful.ensures.lawful c.lawful.ensures.short c.args.row line h (omega (arith, c.if-row-first.false, first)) within in
    record {
      within = h.within;
      pieces_are = at ∙ ap (λ (n : ℕ). slice_get texts (c.args.row - n)) (sym first);
    }

pub returns-clause-lands : goal.returns-clause-lands
returns-clause-lands c =
    let r = c.args.sheet.now in
    let line = c.line_of-line.result in
    let h = c.line_of-line.ensures.line in
    let first = c.first_row-first.ensures.rows in
    let count = c.text_rows-count.ensures in
    let texts = pieces_by_row (pieces_at r line) r.tab (mark_at r line).width in
    let past : length texts ≤ c.args.row - rows_before r line = omega (arith, c.if-at-count.false, count, first) in
    let at = in-below r c.lawful.ensures.lawful c.lawful.ensures.short c.args.row line h (omega (arith, c.if-row-first.false, first)) past in
    record {
      within = h.within;
      pieces_are = at ∙ (λ i. slice_get (block_pieces_at r Below line) (c.args.row - sym first i - sym count i));
    }
