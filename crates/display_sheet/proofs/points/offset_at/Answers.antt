use Rattle.std.proofs.Common.{◌+◌, ◌<◌, ℕ, List, length, ap, subst, arith}
use Rattle.std.specs.Str.{IsUtf8}
use Rattle.cell_units.specs.Record.{line_count}
use Rattle.cell_units.specs.Points.{IsNearBoundary}
use Rattle.display_sheet.proofs.NearBoundaries.{line-length, offset-in_row, offset-past_end}
use Rattle.display_sheet.proofs.points.offset_at.Goals as goal

pub overflow_add-result : goal.overflow_add-result
overflow_add-result c =
    let p = c.args.point in
    let line = line-length c.args.text.now p.row (omega (arith, c.if-point-lines.false, c.lines.ensures.count)) in
    omega (arith, line.0, line.1, c.line_start-start.ensures, ap length c.line.ensures.line, c.lines.ensures.size)

pub returns-then-length-point : goal.returns-then-length-point
returns-then-length-point c =
    let p = c.args.point in
    let text = c.args.text.now in
    let within : p.row < line_count text = omega (arith, c.if-point-lines.false, c.lines.ensures.count) in
    let line = line-length text p.row within in
    let utf8 = subst IsUtf8 c.as_str-whole.ensures.text c.as_str-whole.utf8 in
    omega (
      arith,
      line.0,
      c.line_start-start.ensures,
      ap length c.line.ensures.line,
      offset-past_end text utf8 p c.args.bias within (omega (arith, line.0, c.if-length-point.true, ap length c.line.ensures.line)),
    )

pub overflow_add-start : goal.overflow_add-start
overflow_add-start c =
    let p = c.args.point in
    let line = line-length c.args.text.now p.row (omega (arith, c.if-point-lines.false, c.lines.ensures.count)) in
    omega (arith, line.0, line.1, c.line_start-start.ensures, ap length c.line.ensures.line, c.lines.ensures.size, c.if-length-point.false)

pub near_boundary-requires : goal.near_boundary-requires
near_boundary-requires c =
    let p = c.args.point in
    let line = line-length c.args.text.now p.row (omega (arith, c.if-point-lines.false, c.lines.ensures.count)) in
    omega (
      arith,
      line.0,
      line.1,
      c.line_start-start.ensures,
      ap length c.line.ensures.line,
      c.if-length-point.false,
      ap length c.as_str-whole.ensures.text,
    )

pub returns : goal.returns
returns c =
    let p = c.args.point in
    let text = c.args.text.now in
    let r = c.near_boundary.result in
    let within : p.row < line_count text = omega (arith, c.if-point-lines.false, c.lines.ensures.count) in
    let line = line-length text p.row within in
    let utf8 = subst IsUtf8 c.as_str-whole.ensures.text c.as_str-whole.utf8 in
    let at = ap (λ (o : ℕ). o + p.column) c.line_start-start.ensures in
    let near =
    subst (λ (o : ℕ). IsNearBoundary text o c.args.bias r) at
    (subst (λ (t : List ℕ). IsNearBoundary t (c.line_start-start.result + p.column) c.args.bias r) c.as_str-whole.ensures.text c.near_boundary.ensures) in
    offset-in_row text utf8 p c.args.bias r within (omega (arith, line.0, c.if-length-point.false, ap length c.line.ensures.line)) near
