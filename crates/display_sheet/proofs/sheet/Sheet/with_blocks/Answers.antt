use Rattle.std.proofs.Common.{map, refl, sym, ap, subst}
use Rattle.std.specs.Arc.{arc_value}
use Rattle.cell_units.specs.Record.{Record}
use Rattle.cell_units.specs.Operation.{Operation}
use Rattle.plain_rows.specs.Plain.{block_of}
use Rattle.display_sheet.specs.declared.sheet.LineSplice.{LineSplice}
use Rattle.display_sheet.specs.declared.sheet.Sheet.TheInside.{Inside}
use Rattle.display_sheet.specs.Sheets.{IsBlockChange, IsOperated, record_in}
use Rattle.display_sheet.proofs.Changed.{blocks-operated, keeps-operated}
use Rattle.display_sheet.proofs.sheet.Sheet.with_blocks.Goals as goal

abbrev none : LineSplice
none = record { first = 0; end = 0; count = 0 }

module _ (c : goal.In_ok-try_clone-5) (op : Operation) (h : IsBlockChange op c.args.self.now (map block_of c.args.blocks.items)) where
  abbrev s : Inside
  s = c.self.inside

  abbrev s' : Inside
  s' = record {
    text = c.in_ok-try_clone.field-0;
    inlays = c.in_ok-try_clone-2.field-0;
    folds = c.in_ok-try_clone-3.field-0;
    blocks = c.in_ok-new.field-0;
    tab = s.tab;
    width = s.width;
    lines = c.in_ok-try_clone-4.field-0;
    wraps = c.in_ok-try_clone-5.field-0;
  }

  change : IsBlockChange op (record_in s) (map block_of (arc_value s'.blocks).items)
  change =
      subst (λ (r : Record). IsBlockChange op r (map block_of (arc_value s'.blocks).items)) (sym c.self.view_is)
      (subst (λ l. IsBlockChange op c.args.self.now (map block_of l)) (ap (λ v. v.items) (sym c.in_ok-new.ensures.ok)) h)

  is : IsOperated op (record_in s) (record_in s') none
  is =
      blocks-operated s s' c.self.invariant c.in_ok-try_clone.ensures (ap (λ v. v.items) c.in_ok-try_clone-2.ensures) (ap (λ v. v.items) c.in_ok-try_clone-3.ensures) c.in_ok-try_clone-4.ensures
      op change refl refl c.in_ok-try_clone-5.ensures none refl refl refl

pub invariant_of-sheet : goal.invariant_of-sheet
invariant_of-sheet c =
    let op = c.requires.0 in
    keeps-operated (s c op c.requires.1) (s' c op c.requires.1) c.self.invariant c.in_ok-try_clone.ensures (ap (λ v. v.items) c.in_ok-try_clone-2.ensures) (ap (λ v. v.items) c.in_ok-try_clone-3.ensures) c.in_ok-try_clone-4.ensures
    op (change c op c.requires.1).allowed none (is c op c.requires.1) c.in_ok-try_clone-5.ensures

pub returns : goal.returns
returns c op h = subst (λ (r : Record). IsOperated op r (record_in (s' c op h)) none) c.self.view_is (is c op h)
