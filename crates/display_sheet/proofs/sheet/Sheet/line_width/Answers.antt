use Rattle.std.proofs.Common.{◌<◌, ℕ, List, length, get_or, refl, ap, sym, subst, ◌∙◌, arith}
use Rattle.std.specs.Arc.{arc_value}
use Rattle.cell_units.specs.Record.{Record, plain_mark}
use Rattle.cell_units.specs.Lawful.{IsWidth}
use Rattle.display_sheet.specs.declared.wraps.Wrapped.{Wrapped}
use Rattle.display_sheet.specs.Sheets.{record_in}
use Rattle.display_sheet.proofs.KeptSheets.{lawful-kept, length-kept, width-kept}
use Rattle.display_sheet.proofs.sheet.Sheet.line_width.Goals as goal

pub get-requires : goal.get-requires
get-requires c =
    let v = c.self.inside in
    omega (
      arith,
      c.requires,
      ap (λ (r : Record). length r.marks) c.self.view_is,
      length-kept (record_in v) (arc_value v.wraps) (arc_value v.lines) c.self.invariant refl,
      ap length c.deref.ensures,
    )

pub returns-clause-width : goal.returns-clause-width
returns-clause-width c =
    let v = c.self.inside in
    let line : ℕ = c.args.line in
    let w = c.get.result in
    let lt : line < length (record_in v).marks = omega (arith, c.requires, ap (λ (r : Record). length r.marks) c.self.view_is) in
    ap (λ w. w.mark) (c.get.ensures ∙ ap (λ (l : List Wrapped). get_or l line w) c.deref.ensures)
    ∙ width-kept (record_in v) (arc_value v.wraps) (arc_value v.lines) c.self.invariant refl line w lt
    ∙ ap (λ (r : Record). (get_or r.marks line (plain_mark 0)).width) c.self.view_is

pub returns-clause-lawful : goal.returns-clause-lawful
returns-clause-lawful c =
    let v = c.self.inside in
    let line : ℕ = c.args.line in
    let w = c.get.result in
    let lt : line < length (record_in v).marks = omega (arith, c.requires, ap (λ (r : Record). length r.marks) c.self.view_is) in
    let is = c.get.ensures ∙ ap (λ (l : List Wrapped). get_or l line w) c.deref.ensures in
    subst IsWidth (sym (ap (λ w. w.mark) is)) (lawful-kept (record_in v) (arc_value v.wraps) (arc_value v.lines) c.self.invariant refl line w lt)
