-- What operations replace is replaced truly.
use Rattle.std.proofs.Common.{◌≡◌, ℕ, ◌+◌, List, [], ◌∷◌, sym, subst}
use Rattle.cell_units.specs.Lawful.{IsAllowed, IsLawful}
use Rattle.cell_units.specs.Operation.{AddBlock, AddFold, AddInlay, Operation, RemoveBlock, RemoveFold, RemoveInlay, Replace, SetTab, SetWidth}
use Rattle.cell_units.specs.Record.{Record}
use Rattle.display_sheet.specs.LineStep.{line_step}
use Rattle.display_sheet.proofs.StepLaws.{IsLawful-step}
use Rattle.row_pieces.specs.declared.row_change.RowChange.{RowChange}
use Rattle.row_pieces.specs.Changed.{IsTrue, RowLook, covering, looks, looks_by_line}
use Rattle.row_pieces.specs.Laws.{LeavesBlocks}
use Rattle.row_pieces.proofs.BlockChanges.{block-line-true}
use Rattle.row_pieces.proofs.Covering.{covers, rows-replaced}
use Rattle.row_pieces.proofs.TrueLines.{operated-lines}
use Rattle.row_pieces.specs.Operated.{AreAllowed, AreReplaced, IsChangeOf, AreTouched, Covers, IsAtBlock, stepped_by}

touched-true : (operation : Operation) (r : Record) (lines : RowChange) → IsLawful r → IsAllowed operation r → LeavesBlocks operation → AreTouched operation r lines →
    IsTrue lines (looks_by_line r) (looks_by_line (line_step operation r))
touched-true operation r lines is ok leaves t =
    subst (λ (c : RowChange). IsTrue c (looks_by_line r) (looks_by_line (line_step operation r))) (sym t.lines_are) (operated-lines operation r is ok leaves t.run)

block-true : (operation : Operation) (r : Record) (lines : RowChange) → IsLawful r → IsAllowed operation r → IsAtBlock operation r lines →
    IsTrue lines (looks_by_line r) (looks_by_line (line_step operation r))
block-true operation r lines is ok b =
    subst (λ (c : RowChange). IsTrue c (looks_by_line r) (looks_by_line (line_step operation r))) (sym b.lines_are) (block-line-true operation r b.line is ok b.within b.block_line)

pub true-lines : (operation : Operation) (r : Record) (lines : RowChange) → IsLawful r → IsAllowed operation r → AreReplaced operation r lines →
    IsTrue lines (looks_by_line r) (looks_by_line (line_step operation r))
true-lines (Replace a b s) r lines is ok t = touched-true (Replace a b s) r lines is ok tt t
true-lines (AddInlay i) r lines is ok t = touched-true (AddInlay i) r lines is ok tt t
true-lines (RemoveInlay id) r lines is ok t = touched-true (RemoveInlay id) r lines is ok tt t
true-lines (AddFold f) r lines is ok t = touched-true (AddFold f) r lines is ok tt t
true-lines (RemoveFold id) r lines is ok t = touched-true (RemoveFold id) r lines is ok tt t
true-lines (AddBlock row id side texts) r lines is ok t = block-true (AddBlock row id side texts) r lines is ok t
true-lines (RemoveBlock id) r lines is ok t = block-true (RemoveBlock id) r lines is ok t
true-lines (SetTab tab) r lines is ok t = touched-true (SetTab tab) r lines is ok tt t
true-lines (SetWidth width) r lines is ok t = touched-true (SetWidth width) r lines is ok tt t

pub true-rows : (operation : Operation) (r : Record) (rows : RowChange) → IsLawful r → IsAllowed operation r → IsChangeOf operation r rows →
    IsTrue rows (looks r) (looks (line_step operation r))
true-rows operation r rows is ok a =
    subst (λ (c : RowChange). IsTrue c (looks r) (looks (line_step operation r))) (sym a.rows_are)
    (rows-replaced a.lines (looks_by_line r) (looks_by_line (line_step operation r)) (true-lines operation r a.lines is ok a.replaced))

pub true-covers : (c : RowChange) (ops : List Operation) (q r : Record) (all : RowChange) → IsLawful r → AreAllowed ops r → IsTrue c (looks q) (looks r) → Covers c ops r all →
    IsTrue all (looks q) (looks (stepped_by ops r))
true-covers c [] q r all is ok t e = subst (λ (d : RowChange). IsTrue d (looks q) (looks r)) (sym e) t
true-covers c (operation ∷ ops) q r all is ok t e =
    let step = true-rows operation r e.0 is ok.0 e.1 in
    true-covers (covering c e.0) ops q (line_step operation r) all (IsLawful-step operation r is ok.0) ok.1
    (covers c e.0 (looks q) (looks r) (looks (line_step operation r)) t step) e.2
