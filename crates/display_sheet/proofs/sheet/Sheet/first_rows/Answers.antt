use Rattle.std.proofs.Common.{◌≡◌, ℕ, ◌+◌, ◌<◌, List, length, sym, ◌∙◌, subst, arith}
use Rattle.std.specs.Arc.{arc_value}
use Rattle.std.proofs.lemmas.List.{get_or_read}
use Rattle.cell_units.specs.Record.{Record}
use Rattle.plain_rows.proofs.SpotSizes.{HasRowsUpto}
use Rattle.display_sheet.specs.declared.sheet.Sheet.TheInside.{Inside}
use Rattle.display_sheet.specs.Sheets.{IsSheet, KeepsSheet, record_in}
use Rattle.display_sheet.proofs.SpotCounts.{rows-counted, rows-fit}
use Rattle.display_sheet.proofs.sheet.Sheet.first_rows.Goals as goal

seen : (v : Inside) (r : Record) → record_in v ≡ r → KeepsSheet v → IsSheet r (arc_value v.wraps) (arc_value v.lines)
seen v r is keeps = subst (λ (r : Record). IsSheet r (arc_value v.wraps) (arc_value v.lines)) is keeps

pub overflow_add-row : goal.overflow_add-row
overflow_add-row c =
    let r = c.args.self.now in
    let v = c.self.inside in
    let line : ℕ = c.loop-line.line in
    let is = seen v r c.self.view_is c.self.invariant in
    let lt : line < length r.marks = omega (arith, c.loop-line-test.true, c.lines-line-end.ensures, is.lawful.marked) in
    omega (
      arith,
      c.loop-line.invariant.0,
      rows-fit r (arc_value v.wraps) (arc_value v.lines) is line lt,
      c.in_ok-above.ensures.each line lt,
      get_or_read c.in_ok-above.above.items line _ (omega (arith, lt, c.in_ok-above.ensures.count)) c.index.ensures 0,
    )

pub overflow_add-row-in-loop-line : goal.overflow_add-row-in-loop-line
overflow_add-row-in-loop-line c =
    let r = c.args.self.now in
    let v = c.self.inside in
    let line : ℕ = c.loop-line.line in
    let is = seen v r c.self.view_is c.self.invariant in
    let lt : line < length r.marks = omega (arith, c.loop-line-test.true, c.lines-line-end.ensures, is.lawful.marked) in
    omega (
      arith,
      c.loop-line.invariant.0,
      rows-fit r (arc_value v.wraps) (arc_value v.lines) is line lt,
      c.in_ok-above.ensures.each line lt,
      get_or_read c.in_ok-above.above.items line _ (omega (arith, lt, c.in_ok-above.ensures.count)) c.index.ensures 0,
      c.line_row_count-row.ensures.rows,
    )

pub overflow_add-row-in-loop-line-2 : goal.overflow_add-row-in-loop-line-2
overflow_add-row-in-loop-line-2 c =
    let r = c.args.self.now in
    let v = c.self.inside in
    let line : ℕ = c.loop-line.line in
    let is = seen v r c.self.view_is c.self.invariant in
    let lt : line < length r.marks = omega (arith, c.loop-line-test.true, c.lines-line-end.ensures, is.lawful.marked) in
    omega (
      arith,
      c.loop-line.invariant.0,
      rows-fit r (arc_value v.wraps) (arc_value v.lines) is line lt,
      c.in_ok-above.ensures.each line lt,
      get_or_read c.in_ok-above.above.items line _ (omega (arith, lt, c.in_ok-above.ensures.count)) c.index.ensures 0,
      c.line_row_count-row.ensures.rows,
      c.in_ok-below.ensures.each line lt,
      get_or_read c.in_ok-below.below.items line _ (omega (arith, lt, c.in_ok-below.ensures.count)) c.index-in-loop-line.ensures 0,
    )

pub loop-line-preserved : goal.loop-line-preserved
loop-line-preserved c =
    let r = c.args.self.now in
    let v = c.self.inside in
    let line : ℕ = c.loop-line.line in
    let is = seen v r c.self.view_is c.self.invariant in
    let lt : line < length r.marks = omega (arith, c.loop-line-test.true, c.lines-line-end.ensures, is.lawful.marked) in
    let above = get_or_read c.in_ok-above.above.items line _ (omega (arith, lt, c.in_ok-above.ensures.count)) c.index.ensures 0 ∙ c.in_ok-above.ensures.each line lt in
    let below = get_or_read c.in_ok-below.below.items line _ (omega (arith, lt, c.in_ok-below.ensures.count)) c.index-in-loop-line.ensures 0 ∙ c.in_ok-below.ensures.each line lt in
    let row : ℕ = c.loop-line.row + c.index.result.now + c.line_row_count-row.result + c.index-in-loop-line.result.now in
    subst (λ (rows : List ℕ). HasRowsUpto r (line + 1) rows row) (sym c.in_ok-push.ensures.items)
    (rows-counted r (arc_value v.wraps) (arc_value v.lines) is line lt c.loop-line.rows.items c.loop-line.row c.index.result.now c.line_row_count-row.result c.index-in-loop-line.result.now c.loop-line.invariant above c.line_row_count-row.ensures.rows below)
