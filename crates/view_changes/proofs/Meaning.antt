-- What the rows that an operation replaces are, and that they are replaced truly.
use Rattle.std.proofs.Common.{◌≡◌, ◌==◌, refl, sym, subst}
use Rattle.std.specs.Prelude.{Option, None, Some}
use Rattle.std.specs.List.{find}
use Rattle.cell_units.specs.Lawful.{IsAllowed, IsLawful}
use Rattle.cell_units.specs.Operation.{AddBlock, AddFold, AddInlay, Operation, RemoveBlock, RemoveFold, RemoveInlay, Replace, SetTab, SetWidth}
use Rattle.cell_units.specs.Record.{Block, Record}
use Rattle.display_sheet.specs.LineStep.{line_step}
use Rattle.row_pieces.specs.declared.row_change.RowChange.{RowChange}
use Rattle.row_pieces.specs.Changed.{IsTrue, looks}
use Rattle.row_pieces.proofs.TrueChanges.{true-rows}
use Rattle.view_changes.specs.Operations.{AreRowsReplaced, TakesIfAny, lines_replaced, rows_replaced}
use Rattle.view_changes.proofs.BlockRows.{brings-always, takes}
use Rattle.view_changes.proofs.BlockSteps.{removed-none}
use Rattle.view_changes.proofs.Flags.{lines-touched}
use Rattle.view_changes.proofs.TrueNothing.{true-nothing}

pub are-rows : (operation : Operation) (r : Record) → IsLawful r → IsAllowed operation r → AreRowsReplaced operation r (rows_replaced operation r)
are-rows (AddBlock row id side lines) r is ok = brings-always r is row id side lines ok
are-rows (RemoveBlock id) r is ok = takes r is id
are-rows (Replace a b s) r is ok = record {
  lines = lines_replaced (Replace a b s) r;
  replaced = lines-touched (Replace a b s) r is ok;
  rows_are = refl;
}
are-rows (AddInlay i) r is ok = record {
  lines = lines_replaced (AddInlay i) r;
  replaced = lines-touched (AddInlay i) r is ok;
  rows_are = refl;
}
are-rows (RemoveInlay id) r is ok = record {
  lines = lines_replaced (RemoveInlay id) r;
  replaced = lines-touched (RemoveInlay id) r is ok;
  rows_are = refl;
}
are-rows (AddFold f) r is ok = record {
  lines = lines_replaced (AddFold f) r;
  replaced = lines-touched (AddFold f) r is ok;
  rows_are = refl;
}
are-rows (RemoveFold id) r is ok = record {
  lines = lines_replaced (RemoveFold id) r;
  replaced = lines-touched (RemoveFold id) r is ok;
  rows_are = refl;
}
are-rows (SetTab tab) r is ok = record {
  lines = lines_replaced (SetTab tab) r;
  replaced = lines-touched (SetTab tab) r is ok;
  rows_are = refl;
}
are-rows (SetWidth width) r is ok = record {
  lines = lines_replaced (SetWidth width) r;
  replaced = lines-touched (SetWidth width) r is ok;
  rows_are = refl;
}

true-rows-of : (operation : Operation) (r : Record) (rows : RowChange) → IsLawful r → IsAllowed operation r → AreRowsReplaced operation r rows →
    IsTrue rows (looks r) (looks (line_step operation r))
true-rows-of (AddBlock row id side lines) r rows is ok b = b.others
true-rows-of (RemoveBlock id) r rows is ok t = go (find (λ b. b.id == id) r.blocks) refl t where
  go : (o : Option Block) → find (λ b. b.id == id) r.blocks ≡ o → TakesIfAny o r (line_step (RemoveBlock id) r) rows → IsTrue rows (looks r) (looks (line_step (RemoveBlock id) r))
  go None e none = subst (λ (q : Record). IsTrue rows (looks r) (looks q)) (sym (removed-none r is id e)) (true-nothing rows (looks r) none)
  go (Some b) e t = t.others
true-rows-of (Replace a b s) r rows is ok t = true-rows (Replace a b s) r rows is ok t
true-rows-of (AddInlay i) r rows is ok t = true-rows (AddInlay i) r rows is ok t
true-rows-of (RemoveInlay id) r rows is ok t = true-rows (RemoveInlay id) r rows is ok t
true-rows-of (AddFold f) r rows is ok t = true-rows (AddFold f) r rows is ok t
true-rows-of (RemoveFold id) r rows is ok t = true-rows (RemoveFold id) r rows is ok t
true-rows-of (SetTab tab) r rows is ok t = true-rows (SetTab tab) r rows is ok t
true-rows-of (SetWidth width) r rows is ok t = true-rows (SetWidth width) r rows is ok t

pub true-operation : (operation : Operation) (r : Record) → IsLawful r → IsAllowed operation r → IsTrue (rows_replaced operation r) (looks r) (looks (line_step operation r))
true-operation operation r is ok = true-rows-of operation r (rows_replaced operation r) is ok (are-rows operation r is ok)
