use Rattle.std.proofs.Common.{◌<◌, ℕ, List, length, get_or, refl, ap, ◌∙◌, arith}
use Rattle.std.specs.Arc.{arc_value}
use Rattle.cell_units.specs.Record.{Record}
use Rattle.display_sheet.specs.declared.wraps.Wrapped.{Wrapped}
use Rattle.display_sheet.specs.Sheets.{record_in}
use Rattle.display_sheet.specs.Windows.{texts_at}
use Rattle.display_sheet.proofs.KeptSheets.{length-kept, rows-kept}
use Rattle.display_sheet.proofs.sheet.Sheet.line_row_count.Goals as goal

pub get-requires : goal.get-requires
get-requires c =
    let v = c.self.inside in
    omega (
      arith,
      c.requires,
      ap (λ (r : Record). length r.marks) c.self.view_is,
      length-kept (record_in v) (arc_value v.wraps) (arc_value v.lines) c.self.invariant refl,
      ap length c.deref.ensures,
    )

pub returns-clause-rows : goal.returns-clause-rows
returns-clause-rows c =
    let v = c.self.inside in
    let line : ℕ = c.args.line in
    let w = c.get.result in
    let lt : line < length (record_in v).marks = omega (arith, c.requires, ap (λ (r : Record). length r.marks) c.self.view_is) in
    ap (λ w. w.rows) (c.get.ensures ∙ ap (λ (l : List Wrapped). get_or l line w) c.deref.ensures)
    ∙ rows-kept (record_in v) (arc_value v.wraps) (arc_value v.lines) c.self.invariant refl line w lt
    ∙ ap (λ (r : Record). length (texts_at r line)) c.self.view_is
