-- The lines that an operation replaces, by what it reaches, and their rows.
use Rattle.std.proofs.Common.{◌≡◌, ℕ, ◌+◌, ◌-◌, ◌≤◌, List, length, refl, sym, ap, subst, ◌∙◌, arith}
use Rattle.cell_units.specs.Lawful.{IsAllowed, IsLawful}
use Rattle.cell_units.specs.LineCounts.{line_of_row_end, line_of_row_start}
use Rattle.cell_units.specs.Operation.{AddBlock, AddFold, AddInlay, Operation, RemoveBlock, RemoveFold, RemoveInlay, Replace, SetTab, SetWidth}
use Rattle.cell_units.specs.Record.{Record}
use Rattle.cell_units.specs.Touched.{EachLine, NoLine, touched}
use Rattle.display_sheet.specs.LineStep.{line_step}
use Rattle.row_pieces.specs.declared.row_change.RowChange.{RowChange}
use Rattle.row_pieces.specs.Changed.{IsTrue, RowLook, change, looks_by_line, no_change, rows_of_lines}
use Rattle.row_pieces.specs.Laws.{LeavesBlocks}
use Rattle.row_pieces.specs.Operated.{AreReplaced, AreTouched, lines_between}
use Rattle.row_pieces.proofs.LookCounts.{count-looks}
use Rattle.row_pieces.proofs.TouchedLines.{touched-between, touched-each, touched-none}
use Rattle.row_pieces.proofs.TrueChanges.{true-lines}
use Rattle.view_changes.specs.Operations.{rows_replaced, rows_touched}
use Rattle.view_changes.specs.inside.Reaches.{IsAfter, TouchesRows, all_rows}
use Rattle.view_changes.proofs.Flags.{lines-are}
use Rattle.view_changes.proofs.Lengths.{length-unstamped}
use Rattle.view_changes.proofs.Stamps.{looks-unstamped}

by-touched : (operation : Operation) (r : Record) (lines : RowChange) → LeavesBlocks operation → AreTouched operation r lines → AreReplaced operation r lines
by-touched (Replace a b s) r lines leaves t = t
by-touched (AddInlay i) r lines leaves t = t
by-touched (RemoveInlay id) r lines leaves t = t
by-touched (AddFold f) r lines leaves t = t
by-touched (RemoveFold id) r lines leaves t = t
by-touched (AddBlock row id side texts) r lines leaves t = absurd leaves
by-touched (RemoveBlock id) r lines leaves t = absurd leaves
by-touched (SetTab tab) r lines leaves t = t
by-touched (SetWidth width) r lines leaves t = t

by-lines : (operation : Operation) (r : Record) (lines : RowChange) → IsLawful r → IsAllowed operation r → AreTouched operation r lines →
    rows_of_lines lines (looks_by_line r) (looks_by_line (line_step operation r)) ≡ rows_touched operation r
by-lines operation r lines is ok t =
    ap (λ (c : RowChange). rows_of_lines c (looks_by_line r) (looks_by_line (line_step operation r))) (lines-are operation r is ok lines t)

by-rows : (operation : Operation) (r : Record) (lines rows : RowChange) → IsLawful r → IsAllowed operation r → LeavesBlocks operation → AreTouched operation r lines →
    rows ≡ rows_of_lines lines (looks_by_line r) (looks_by_line (line_step operation r)) → rows ≡ rows_replaced operation r
by-rows (Replace a b s) r lines rows is ok leaves t e = e ∙ by-lines (Replace a b s) r lines is ok t
by-rows (AddInlay i) r lines rows is ok leaves t e = e ∙ by-lines (AddInlay i) r lines is ok t
by-rows (RemoveInlay id) r lines rows is ok leaves t e = e ∙ by-lines (RemoveInlay id) r lines is ok t
by-rows (AddFold f) r lines rows is ok leaves t e = e ∙ by-lines (AddFold f) r lines is ok t
by-rows (RemoveFold id) r lines rows is ok leaves t e = e ∙ by-lines (RemoveFold id) r lines is ok t
by-rows (AddBlock row id side texts) r lines rows is ok leaves t e = absurd leaves
by-rows (RemoveBlock id) r lines rows is ok leaves t e = absurd leaves
by-rows (SetTab tab) r lines rows is ok leaves t e = e ∙ by-lines (SetTab tab) r lines is ok t
by-rows (SetWidth width) r lines rows is ok leaves t e = e ∙ by-lines (SetWidth width) r lines is ok t

-- an operation on a block touches no line
some-leaves : (operation : Operation) (r : Record) → (touched operation r ≡ NoLine → ⊥) → LeavesBlocks operation
some-leaves (Replace a b s) r some = tt
some-leaves (AddInlay i) r some = tt
some-leaves (RemoveInlay id) r some = tt
some-leaves (AddFold f) r some = tt
some-leaves (RemoveFold id) r some = tt
some-leaves (AddBlock row id side texts) r some = some refl
some-leaves (RemoveBlock id) r some = some refl
some-leaves (SetTab tab) r some = tt
some-leaves (SetWidth width) r some = tt

module _ (operation : Operation) (before after : Record) (is : IsLawful before) (is' : IsLawful after) (ok : IsAllowed operation before) (after_is : IsAfter operation before after) where
  looks-after : looks_by_line after ≡ looks_by_line (line_step operation before)
  looks-after = ap looks_by_line after_is ∙ looks-unstamped (line_step operation before)

  marks-after : length after.marks ≡ length (line_step operation before).marks
  marks-after = ap (λ (q : Record). length q.marks) after_is ∙ length-unstamped (line_step operation before)

  -- the rows of lines that are touched
  module _ (leaves : LeavesBlocks operation) (lines : RowChange) (t : AreTouched operation before lines) where
    replaced : IsTrue lines (looks_by_line before) (looks_by_line after)
    replaced =
        subst (λ (ls : List (List RowLook)). IsTrue lines (looks_by_line before) ls) (sym looks-after)
        (true-lines operation before lines is ok (by-touched operation before lines leaves t))

    pub lines-within : (lines.from ≤ length before.marks) × (lines.to ≤ length before.marks)
    lines-within = (
      omega (arith, replaced.order, replaced.within_old, count-looks before is),
      omega (arith, replaced.within_old, count-looks before is),
    )

    pub lines-came : lines.from + lines.count ≤ length after.marks
    lines-came = omega (arith, replaced.within_new, count-looks after is')

    pub replaces-lines : (rows : RowChange) → rows ≡ rows_of_lines lines (looks_by_line before) (looks_by_line after) → rows ≡ rows_replaced operation before
    replaces-lines rows e =
        by-rows operation before lines rows is ok leaves t (e ∙ ap (rows_of_lines lines (looks_by_line before)) looks-after)

  -- ---- what it reaches

  module _ (a b : ℕ) (t : TouchesRows operation before a b) where
    pub leaves-rows : LeavesBlocks operation
    leaves-rows = some-leaves operation before (λ none. cc (sym t.rows ∙ none))

    pub touches-between : AreTouched operation before (lines_between before after a b)
    touches-between =
        let first = line_of_row_start before a in
        let end = line_of_row_end before b + 1 in
        subst (λ (n : ℕ). AreTouched operation before (change first end (n - (length before.marks - end) - first))) (sym marks-after)
        (touched-between operation before is ok a b t.after t.rows t.order t.end.0)

  -- of lines that were found to be those
  module _ (a b : ℕ) (t : TouchesRows operation before a b) (lines : RowChange) (found : lines ≡ lines_between before after a b) where
    found-touched : AreTouched operation before lines
    found-touched = subst (AreTouched operation before) (sym found) (touches-between a b t)

    pub found-within : (lines.from ≤ length before.marks) × (lines.to ≤ length before.marks)
    found-within = lines-within (leaves-rows a b t) lines found-touched

    pub found-came : lines.from + lines.count ≤ length after.marks
    found-came = lines-came (leaves-rows a b t) lines found-touched

    pub replaces-found : (rows : RowChange) → rows ≡ rows_of_lines lines (looks_by_line before) (looks_by_line after) → rows ≡ rows_replaced operation before
    replaces-found = replaces-lines (leaves-rows a b t) lines found-touched

  pub leaves-each : touched operation before ≡ EachLine → LeavesBlocks operation
  leaves-each e = some-leaves operation before (λ none. cc (sym e ∙ none))

  pub touches-each : touched operation before ≡ EachLine → AreTouched operation before (change 0 (length before.marks) (length after.marks))
  touches-each e =
      subst (λ (n : ℕ). AreTouched operation before (change 0 (length before.marks) n)) (sym marks-after)
      (touched-each operation before is ok e)

  pub replaces-all : touched operation before ≡ EachLine → (rows : RowChange) → rows ≡ all_rows before after → rows ≡ rows_replaced operation before
  replaces-all e = replaces-lines (leaves-each e) (change 0 (length before.marks) (length after.marks)) (touches-each e)

  pub replaces-none : LeavesBlocks operation → touched operation before ≡ NoLine → no_change ≡ rows_replaced operation before
  replaces-none leaves e = replaces-lines leaves no_change (touched-none operation before is ok e) no_change refl
