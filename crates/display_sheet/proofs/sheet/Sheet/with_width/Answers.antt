use Rattle.std.proofs.Common.{refl, ap, subst}
use Rattle.cell_units.specs.Record.{Record}
use Rattle.cell_units.specs.Operation.{SetWidth}
use Rattle.display_sheet.specs.declared.sheet.LineSplice.{LineSplice}
use Rattle.display_sheet.specs.declared.sheet.Sheet.TheInside.{Inside}
use Rattle.display_sheet.specs.Sheets.{IsOperated, record_in}
use Rattle.display_sheet.proofs.Changed.{keeps-operated, width-operated}
use Rattle.display_sheet.proofs.sheet.Sheet.with_width.Goals as goal

abbrev none : LineSplice
none = record { first = 0; end = 0; count = 0 }

module _ (c : goal.In_ok-try_clone-6) where
  abbrev s : Inside
  s = c.self.inside

  abbrev s' : Inside
  s' = record {
    text = c.in_ok-try_clone.field-0;
    inlays = c.in_ok-try_clone-2.field-0;
    folds = c.in_ok-try_clone-3.field-0;
    blocks = c.in_ok-try_clone-4.field-0;
    tab = s.tab;
    width = c.args.cells;
    lines = c.in_ok-try_clone-5.field-0;
    wraps = c.in_ok-try_clone-6.field-0;
  }

  is : IsOperated (SetWidth c.args.cells) (record_in s) (record_in s') none
  is =
      width-operated s s' c.self.invariant c.in_ok-try_clone.ensures (ap (λ v. v.items) c.in_ok-try_clone-2.ensures) (ap (λ v. v.items) c.in_ok-try_clone-3.ensures) c.in_ok-try_clone-5.ensures
      c.args.cells c.requires (ap (λ v. v.items) c.in_ok-try_clone-4.ensures) refl refl c.in_ok-try_clone-6.ensures none refl refl refl

pub invariant_of-sheet : goal.invariant_of-sheet
invariant_of-sheet c =
    keeps-operated (s c) (s' c) c.self.invariant c.in_ok-try_clone.ensures (ap (λ v. v.items) c.in_ok-try_clone-2.ensures) (ap (λ v. v.items) c.in_ok-try_clone-3.ensures) c.in_ok-try_clone-5.ensures
    (SetWidth c.args.cells) c.requires none (is c) c.in_ok-try_clone-6.ensures

pub returns : goal.returns
returns c = subst (λ (r : Record). IsOperated (SetWidth c.args.cells) r (record_in (s' c)) none) c.self.view_is (is c)
