use Rattle.std.proofs.Common.{◌≡◌, length, refl, sym, ap, subst, ◌∙◌, arith}
use Rattle.std.specs.Arc.{arc_value}
use Rattle.std.proofs.lemmas.List.{length-map}
use Rattle.cell_units.specs.Pieces.{pieces_of}
use Rattle.cell_units.specs.Record.{Record}
use Rattle.cell_units.specs.Operation.{SetTab}
use Rattle.cell_units.specs.Folded.{display_lines}
use Rattle.cell_units.specs.Lawful.{source_of}
use Rattle.plain_rows.specs.FoldedLines.{AreLinesOf, LaidOut}
use Rattle.display_sheet.specs.declared.sheet.LineSplice.{LineSplice}
use Rattle.display_sheet.specs.declared.sheet.Sheet.TheInside.{Inside}
use Rattle.display_sheet.specs.declared.wraps.Wrapped.{Wrapped}
use Rattle.display_sheet.specs.LineSplices.{spliced}
use Rattle.display_sheet.specs.Sheets.{IsOperated, marks_in, record_in}
use Rattle.display_sheet.specs.Wraps.{fresh}
use Rattle.display_sheet.proofs.Changed.{keeps-operated, tab-operated}
use Rattle.display_sheet.proofs.Sheets.{length-marks_of}
use Rattle.display_sheet.proofs.sheet.Sheet.with_tab.Goals as goal

pub spliced-requires-clause-within : goal.spliced-requires-clause-within
spliced-requires-clause-within c =
    let r = record_in c.self.inside in
    let lines : c.lines-lines.result ≡ length (display_lines r.text r.inlays r.folds) =
    c.lines-lines.ensures (source_of r) (subst (λ (l : LaidOut). AreLinesOf (source_of r) l) (sym c.deref.ensures) c.self.invariant.laid_out) ∙ length-map (display_lines r.text r.inlays r.folds) pieces_of in
    let ws = marks_in (arc_value c.self.inside.wraps) in
    omega (arith, lines, ap length c.deref-2.ensures, c.self.invariant.lawful.marked, length-marks_of ws, length-map (arc_value c.self.inside.wraps) (λ (w : Wrapped). w.mark))

pub spliced-requires-clause-few : goal.spliced-requires-clause-few
spliced-requires-clause-few c =
    let r = record_in c.self.inside in
    let lines : c.lines-lines.result ≡ length (display_lines r.text r.inlays r.folds) =
    c.lines-lines.ensures (source_of r) (subst (λ (l : LaidOut). AreLinesOf (source_of r) l) (sym c.deref.ensures) c.self.invariant.laid_out) ∙ length-map (display_lines r.text r.inlays r.folds) pieces_of in
    let ws = marks_in (arc_value c.self.inside.wraps) in
    omega (arith, c.lines-lines.type_inv, lines, ap length c.deref-2.ensures, c.self.invariant.lawful.marked, length-marks_of ws, length-map (arc_value c.self.inside.wraps) (λ (w : Wrapped). w.mark))

module _ (c : goal.In_ok-new) where
  abbrev s : Inside
  s = c.self.inside

  abbrev s' : Inside
  s' = record {
    text = c.in_ok-try_clone.field-0;
    inlays = c.in_ok-try_clone-2.field-0;
    folds = c.in_ok-try_clone-3.field-0;
    blocks = c.in_ok-try_clone-4.field-0;
    tab = c.args.tab;
    width = s.width;
    lines = c.in_ok-try_clone-5.field-0;
    wraps = c.in_ok-new.field-0;
  }

  abbrev splice : LineSplice
  splice = record { first = 0; end = c.lines-lines.result; count = c.lines-lines.result }

  lines : c.lines-lines.result ≡ length (display_lines (record_in s).text (record_in s).inlays (record_in s).folds)
  lines = c.lines-lines.ensures (source_of (record_in s)) (subst (λ (l : LaidOut). AreLinesOf (source_of (record_in s)) l) (sym c.deref.ensures) c.self.invariant.laid_out) ∙ length-map (display_lines (record_in s).text (record_in s).inlays (record_in s).folds) pieces_of

  wraps : arc_value s'.wraps ≡ spliced 0 c.lines-lines.result c.lines-lines.result fresh (arc_value s.wraps)
  wraps =
      c.in_ok-new.ensures.ok
      ∙ c.in_ok-wraps.ensures
      ∙ ap (spliced 0 c.lines-lines.result c.lines-lines.result fresh) c.deref-2.ensures

  is : IsOperated (SetTab c.args.tab) (record_in s) (record_in s') splice
  is =
      tab-operated s s' c.self.invariant c.in_ok-try_clone.ensures (ap (λ v. v.items) c.in_ok-try_clone-2.ensures) (ap (λ v. v.items) c.in_ok-try_clone-3.ensures) c.in_ok-try_clone-5.ensures
      c.args.tab c.requires (ap (λ v. v.items) c.in_ok-try_clone-4.ensures) refl refl splice refl lines lines wraps

pub invariant_of-sheet : goal.invariant_of-sheet
invariant_of-sheet c =
    keeps-operated (s c) (s' c) c.self.invariant c.in_ok-try_clone.ensures (ap (λ v. v.items) c.in_ok-try_clone-2.ensures) (ap (λ v. v.items) c.in_ok-try_clone-3.ensures) c.in_ok-try_clone-5.ensures
    (SetTab c.args.tab) c.requires (splice c) (is c) (wraps c)

pub returns : goal.returns
returns c = subst (λ (r : Record). IsOperated (SetTab c.args.tab) r (record_in (s' c)) (splice c)) c.self.view_is (is c)
