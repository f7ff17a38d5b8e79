use Rattle.std.proofs.Common.{◌≡◌, ◌≤◌, length, ap, subst, sym, arith}
use Rattle.std.specs.Result.{IfOk}
use Rattle.std.proofs.lemmas.Result.{IfOk-weaker}
use Rattle.cell_units.specs.declared.limits.TheConstants.{LAID_LIMIT}
use Rattle.cell_units.specs.Lawful.{IsLawful}
use Rattle.cell_units.specs.Record.{Record}
use Rattle.plain_rows.specs.Plain.{record_of}
use Rattle.display_map.proofs.LawfulHistories.{sheet-lawful, sheet-short}
use Rattle.display_map.proofs.Views.{sheet-read}
use Rattle.display_map.proofs.view.ViewOn.plain.Goals as goal

pub returns-clause-same : goal.returns-clause-same
returns-clause-same g c =
    let same = sheet-read c.self.invariant c.self.view_is in
    subst (λ (own : Record). IfOk c.plain.result (λ plain. record_of plain ≡ own)) same c.plain.ensures.same

pub returns-clause-lawful : goal.returns-clause-lawful
returns-clause-lawful g c =
    let sheet = g.S.Sheet.kept c.self.inside.sheet in
    IfOk-weaker c.plain.result (λ plain. record_of plain ≡ sheet) (λ plain. IsLawful (record_of plain))
    (λ plain is. subst IsLawful (sym is) (sheet-lawful c.self.invariant)) c.plain.ensures.same

pub returns-clause-size : goal.returns-clause-size
returns-clause-size g c =
    let sheet = g.S.Sheet.kept c.self.inside.sheet in
    IfOk-weaker c.plain.result (λ plain. record_of plain ≡ sheet) (λ plain. length plain.text ≤ LAID_LIMIT)
    (λ plain is. omega (arith, ap (λ (r : Record). length r.text) is, sheet-short c.self.invariant)) c.plain.ensures.same
