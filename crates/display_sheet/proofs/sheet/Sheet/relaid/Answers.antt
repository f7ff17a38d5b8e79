use Rattle.std.proofs.Common.{◌≡◌, ℕ, ◌+◌, ◌-◌, length, refl, sym, ap, subst, ◌∙◌, arith}
use Rattle.std.specs.Arc.{arc_value}
use Rattle.cell_units.specs.Record.{Record}
use Rattle.cell_units.specs.Operation.{Operation, operated}
use Rattle.cell_units.specs.LineCounts.{line_of_row_end, line_of_row_start}
use Rattle.cell_units.specs.Layers.{Source}
use Rattle.cell_units.specs.Lawful.{source_of}
use Rattle.plain_rows.specs.FoldedLines.{AreLinesOf, LaidOut}
use Rattle.display_sheet.specs.declared.sheet.LineSplice.{LineSplice}
use Rattle.display_sheet.specs.declared.sheet.Sheet.TheInside.{Inside}
use Rattle.display_sheet.specs.LineSplices.{spliced}
use Rattle.display_sheet.specs.Sheets.{IsDraft, IsOperated, draft_source, record_in}
use Rattle.display_sheet.specs.Wraps.{fresh}
use Rattle.display_sheet.proofs.Relaid.{end_bounds, few_after, first_le, keeps_new, lawful_after, operated_is, source_after, well_formed}
use Rattle.display_sheet.proofs.sheet.Sheet.relaid.Goals as goal

pub laid_out-requires : goal.laid_out-requires
laid_out-requires c =
    let op = c.requires.0 in
    let d : IsDraft op (record_in c.self.inside) c.args.draft c.args.before c.args.after = subst (λ (r : Record). IsDraft op r c.args.draft c.args.before c.args.after) (sym c.self.view_is) c.requires.1 in
    well_formed c.self.inside c.self.invariant op c.args.draft c.args.before c.args.after d

pub overflow_sub-splice : goal.overflow_sub-splice
overflow_sub-splice c =
    let s = c.self.inside in
    let op = c.requires.0 in
    let draft = c.args.draft in
    let d : IsDraft op (record_in s) draft c.args.before c.args.after = subst (λ (r : Record). IsDraft op r draft c.args.before c.args.after) (sym c.self.view_is) c.requires.1 in
    let first : c.first_line-first.result ≡ line_of_row_start (record_in s) c.args.before.start =
    c.first_line-first.ensures (record_in s) (subst (λ (l : LaidOut). AreLinesOf (source_of (record_in s)) l) (sym c.deref-2.ensures) c.self.invariant.laid_out) (sym c.deref.ensures) in
    let end : c.end_line-2.result ≡ line_of_row_end (operated op (record_in s)) c.args.after.end + 1 =
    c.end_line-2.ensures (operated op (record_in s)) (lawful_after s c.self.invariant op draft c.args.before c.args.after d)
    (subst (λ (x : Source). AreLinesOf x c.in_ok-lines.lines) (source_after s c.self.invariant op draft c.args.before c.args.after d) c.in_ok-lines.ensures)
    (d.text_is ∙ sym c.deref-5.ensures) in
    omega (arith, first, end, first_le s c.self.invariant op draft c.args.before c.args.after d)

pub spliced-requires-clause-order : goal.spliced-requires-clause-order
spliced-requires-clause-order c =
    let s = c.self.inside in
    let op = c.requires.0 in
    let draft = c.args.draft in
    let d : IsDraft op (record_in s) draft c.args.before c.args.after = subst (λ (r : Record). IsDraft op r draft c.args.before c.args.after) (sym c.self.view_is) c.requires.1 in
    let first : c.first_line-first.result ≡ line_of_row_start (record_in s) c.args.before.start =
    c.first_line-first.ensures (record_in s) (subst (λ (l : LaidOut). AreLinesOf (source_of (record_in s)) l) (sym c.deref-2.ensures) c.self.invariant.laid_out) (sym c.deref.ensures) in
    let end : c.end_line.result ≡ line_of_row_end (record_in s) c.args.before.end + 1 =
    c.end_line.ensures (record_in s) c.self.invariant.lawful.entries (subst (λ (l : LaidOut). AreLinesOf (source_of (record_in s)) l) (sym c.deref-4.ensures) c.self.invariant.laid_out) (sym c.deref-3.ensures) in
    omega (arith, first, end, (end_bounds s c.self.invariant op draft c.args.before c.args.after d).0)

pub spliced-requires-clause-within : goal.spliced-requires-clause-within
spliced-requires-clause-within c =
    let s = c.self.inside in
    let op = c.requires.0 in
    let draft = c.args.draft in
    let d : IsDraft op (record_in s) draft c.args.before c.args.after = subst (λ (r : Record). IsDraft op r draft c.args.before c.args.after) (sym c.self.view_is) c.requires.1 in
    let end : c.end_line.result ≡ line_of_row_end (record_in s) c.args.before.end + 1 =
    c.end_line.ensures (record_in s) c.self.invariant.lawful.entries (subst (λ (l : LaidOut). AreLinesOf (source_of (record_in s)) l) (sym c.deref-4.ensures) c.self.invariant.laid_out) (sym c.deref-3.ensures) in
    omega (arith, end, ap length c.deref-6.ensures, (end_bounds s c.self.invariant op draft c.args.before c.args.after d).1)

pub spliced-requires-clause-few : goal.spliced-requires-clause-few
spliced-requires-clause-few c =
    let s = c.self.inside in
    let op = c.requires.0 in
    let draft = c.args.draft in
    let d : IsDraft op (record_in s) draft c.args.before c.args.after = subst (λ (r : Record). IsDraft op r draft c.args.before c.args.after) (sym c.self.view_is) c.requires.1 in
    let first : c.first_line-first.result ≡ line_of_row_start (record_in s) c.args.before.start =
    c.first_line-first.ensures (record_in s) (subst (λ (l : LaidOut). AreLinesOf (source_of (record_in s)) l) (sym c.deref-2.ensures) c.self.invariant.laid_out) (sym c.deref.ensures) in
    let end : c.end_line.result ≡ line_of_row_end (record_in s) c.args.before.end + 1 =
    c.end_line.ensures (record_in s) c.self.invariant.lawful.entries (subst (λ (l : LaidOut). AreLinesOf (source_of (record_in s)) l) (sym c.deref-4.ensures) c.self.invariant.laid_out) (sym c.deref-3.ensures) in
    let after : c.end_line-2.result ≡ line_of_row_end (operated op (record_in s)) c.args.after.end + 1 =
    c.end_line-2.ensures (operated op (record_in s)) (lawful_after s c.self.invariant op draft c.args.before c.args.after d)
    (subst (λ (x : Source). AreLinesOf x c.in_ok-lines.lines) (source_after s c.self.invariant op draft c.args.before c.args.after d) c.in_ok-lines.ensures)
    (d.text_is ∙ sym c.deref-5.ensures) in
    let count = ap (λ (n : ℕ). n - c.first_line-first.result) after in
    omega (
      arith,
      few_after s c.self.invariant op draft c.args.before c.args.after d c.first_line-first.result c.end_line.result (c.end_line-2.result - c.first_line-first.result) first end count c.in_ok-lines.lines c.in_ok-lines.ensures,
      ap length c.deref-6.ensures,
    )

-- the sheet that is built, by any operation of which the lists are a draft
module _ (c : goal.In_ok-new-2) (op : Operation) (d : IsDraft op (record_in c.self.inside) c.args.draft c.args.before c.args.after) where
  abbrev s : Inside
  s = c.self.inside

  abbrev s' : Inside
  s' = record {
    text = c.args.draft.text;
    inlays = c.args.draft.inlays;
    folds = c.args.draft.folds;
    blocks = c.args.draft.blocks;
    tab = s.tab;
    width = s.width;
    lines = c.in_ok-new.field-0;
    wraps = c.in_ok-new-2.field-0;
  }

  first : c.first_line-first.result ≡ line_of_row_start (record_in s) c.args.before.start
  first = c.first_line-first.ensures (record_in s) (subst (λ (l : LaidOut). AreLinesOf (source_of (record_in s)) l) (sym c.deref-2.ensures) c.self.invariant.laid_out) (sym c.deref.ensures)

  end : c.end_line.result ≡ line_of_row_end (record_in s) c.args.before.end + 1
  end = c.end_line.ensures (record_in s) c.self.invariant.lawful.entries (subst (λ (l : LaidOut). AreLinesOf (source_of (record_in s)) l) (sym c.deref-4.ensures) c.self.invariant.laid_out) (sym c.deref-3.ensures)

  end' : c.end_line-2.result ≡ line_of_row_end (operated op (record_in s)) c.args.after.end + 1
  end' =
      c.end_line-2.ensures (operated op (record_in s)) (lawful_after s c.self.invariant op c.args.draft c.args.before c.args.after d)
      (subst (λ (x : Source). AreLinesOf x c.in_ok-lines.lines) (source_after s c.self.invariant op c.args.draft c.args.before c.args.after d) c.in_ok-lines.ensures)
      (d.text_is ∙ sym c.deref-5.ensures)

  count : c.end_line-2.result - c.first_line-first.result ≡ line_of_row_end (operated op (record_in s)) c.args.after.end + 1 - c.first_line-first.result
  count = ap (λ (n : ℕ). n - c.first_line-first.result) end'

  wraps : arc_value s'.wraps ≡ spliced c.first_line-first.result c.end_line.result (c.end_line-2.result - c.first_line-first.result) fresh (arc_value s.wraps)
  wraps =
      c.in_ok-new-2.ensures.ok
      ∙ c.in_ok-wraps.ensures
      ∙ ap (spliced c.first_line-first.result c.end_line.result (c.end_line-2.result - c.first_line-first.result) fresh) c.deref-6.ensures

  pub it_keeps : AreLinesOf (draft_source c.args.draft) (arc_value c.in_ok-new.field-0)
  it_keeps = subst (λ (l : LaidOut). AreLinesOf (draft_source c.args.draft) l) (sym c.in_ok-new.ensures.ok) c.in_ok-lines.ensures

pub invariant_of-sheet : goal.invariant_of-sheet
invariant_of-sheet c =
    let op = c.requires.0 in
    let d : IsDraft op (record_in c.self.inside) c.args.draft c.args.before c.args.after = subst (λ (r : Record). IsDraft op r c.args.draft c.args.before c.args.after) (sym c.self.view_is) c.requires.1 in
    keeps_new (s c op d) (s' c op d) c.self.invariant op c.args.draft c.args.before c.args.after d c.first_line-first.result c.end_line.result (c.end_line-2.result - c.first_line-first.result)
    (first c op d) (end c op d) (count c op d) refl refl refl refl refl refl (wraps c op d) (it_keeps c op d)

pub returns : goal.returns
returns c op h =
    let d : IsDraft op (record_in c.self.inside) c.args.draft c.args.before c.args.after = subst (λ (r : Record). IsDraft op r c.args.draft c.args.before c.args.after) (sym c.self.view_is) h in
    let splice : LineSplice = record { first = c.first_line-first.result; end = c.end_line.result; count = c.end_line-2.result - c.first_line-first.result } in
    subst (λ (r : Record). IsOperated op r (record_in (s' c op d)) splice) c.self.view_is
    (operated_is (s c op d) (s' c op d) c.self.invariant op c.args.draft c.args.before c.args.after d c.first_line-first.result c.end_line.result (c.end_line-2.result - c.first_line-first.result)
    (first c op d) (end c op d) (count c op d) refl refl refl refl refl refl (wraps c op d) splice refl refl refl)
