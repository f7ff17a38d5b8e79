use Rattle.std.proofs.Common.{◌≡◌, ◌-◌, ◌<◌, ℕ, List, refl, ap, sym, subst, arith}
use Rattle.cell_units.specs.Record.{plain_mark}
use Rattle.plain_rows.specs.Plain.{row_pairs}
use Rattle.plain_rows.specs.Rows.{Row}
use Rattle.plain_rows.proofs.RowsOfLines.{line_rows-at}
use Rattle.display_sheet.specs.declared.window.Window.{Window}
use Rattle.plain_rows.specs.ShownRows.{letter_of}
use Rattle.display_sheet.specs.Windows.{HasPassed, texts_at}
use Rattle.display_sheet.proofs.Windows.{passed-kept, passed-skipped}
use Rattle.display_sheet.proofs.sheet.Sheet.pass_line.Goals.{then-window-eq0, else-window-eq0}
use Rattle.display_sheet.proofs.sheet.Sheet.pass_line.Goals as goal

pub returns-then-rows-window : goal.returns-then-rows-window
returns-then-rows-window c =
    let r = c.args.self.now in
    let line : ℕ = c.args.line in
    let w = c.args.window.now in
    let v : Window = record { rows = w.rows; skip = w.skip - c.line_row_count-rows.result; left = w.left } in
    let texts = texts_at r line in
    let rows = c.line_row_count-rows.ensures.rows in
    subst (λ (l : List Row). HasPassed (row_pairs l) w v) (sym (line_rows-at r c.line_row_count-rows.ensures.lawful.marked line (plain_mark 0) c.requires))
    (passed-skipped texts w v (omega (arith, c.if-rows-window.true, rows)) refl (ap (λ (n : ℕ). w.skip - n) rows) refl)

pub returns : goal.returns
returns c =
    let r = c.args.self.now in
    let line : ℕ = c.args.line in
    let w = c.args.window.now in
    let v = c.keep.new.self in
    let kind : ℕ = letter_of c.if-window-eq0.kind in
    let texts = texts_at r line in
    let rows = c.line_row_count-rows.ensures.rows in
    let head : w.skip ≡ 0 → kind ≡ 116 = λ none. elim c.if-window-eq0.branch [
      | then-window-eq0 b ↦ ap letter_of b.kind-is
      | else-window-eq0 b ↦ absurd (omega (arith, b.if-window-eq0.false, none))
    ] in
    let more : 0 < w.skip → kind ≡ 119 = λ some. elim c.if-window-eq0.branch [
      | then-window-eq0 b ↦ absurd (omega (arith, b.if-window-eq0.true, some))
      | else-window-eq0 b ↦ ap letter_of b.kind-is
    ] in
    subst (λ (l : List Row). HasPassed (row_pairs l) w v) (sym (line_rows-at r c.line_row_count-rows.ensures.lawful.marked line (plain_mark 0) c.requires))
    (passed-kept texts c.in_ok-texts.texts.items kind w v (omega (arith, c.if-rows-window.false, rows)) c.in_ok-texts.ensures head more c.in_ok-keep.ensures.kept c.in_ok-keep.ensures.skip c.in_ok-keep.ensures.left)
