use Rattle.std.proofs.Common.{◌≡◌, ◌∙◌, ◌≤◌, ap, sym, length, arith}
use Rattle.block_map.specs.Between.{Between, rows_between}
use Rattle.block_map.specs.Stops.{texts_at}
use Rattle.block_map.proofs.RowsInZones.{none-elsewhere, none-past, text-there-of}
use Rattle.block_map.proofs.snapshot.BlockSnapshot.text_at.Goals as goal

pub returns-then-row-row_count-clause-text : goal.returns-then-row-row_count-clause-text
returns-then-row-row_count-clause-text g c =
    let past : length (rows_between c.args.self.now) ≤ c.args.row = omega (arith, c.row_count.ensures, c.if-row-row_count.true) in
    none-past c.args.self.now c.text_rows-count.ensures.lawful c.args.row past

pub returns-then-place-rows_above-clause-text : goal.returns-then-place-rows_above-clause-text
returns-then-place-rows_above-clause-text g c =
    none-elsewhere c.args.self.now c.text_rows-count.ensures.lawful c.args.row c.place_of-place.result.text_row c.place_of-place.result.at c.place_of-place.ensures.zone
    (λ e. c.if-place-rows_above.true (e ∙ sym c.rows_above.ensures.count))

pub returns-clause-text : goal.returns-clause-text
returns-clause-text g c =
    let above : c.place_of-place.result.at ≡ length (texts_at c.place_of-place.result.text_row c.args.self.now.above) = omega (arith, c.if-place-rows_above.false, c.rows_above.ensures.count) in
    text-there-of c.args.self.now c.text_rows-count.ensures.lawful (g.R.Rows.shown c.self.inside.rows) c.args.row c.place_of-place.result.text_row c.place_of-place.result.at c.line_at.result
    (sym (ap (λ (b : Between). b.lines) c.self.view_is)) c.place_of-place.ensures.zone above c.line_at.ensures
