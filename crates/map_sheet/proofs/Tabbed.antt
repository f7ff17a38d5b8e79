-- What another tab size makes of the lines.
use Rattle.std.proofs.Common.{◌≡◌, ◌≤◌, ℕ, Bool, true, List, [], ◌∷◌, None, Some, length, map, replicate, refl, sym, ap, subst, ◌∙◌, arith, append-nil}
use Rattle.std.proofs.lemmas.List.{length-map}
use Rattle.cell_units.specs.declared.limits.TheConstants.{LAID_LIMIT}
use Rattle.cell_units.specs.declared.place.Shift.{Shift}
use Rattle.cell_units.specs.Folded.{display_lines}
use Rattle.cell_units.specs.Lawful.{IsLawful, IsTab, source_of}
use Rattle.cell_units.specs.Layers.{shown_lines}
use Rattle.cell_units.specs.LineCounts.{TouchesOneRun}
use Rattle.cell_units.specs.Operation.{SetTab, operated}
use Rattle.cell_units.specs.Pieces.{pieces_of}
use Rattle.cell_units.specs.Record.{Record}
use Rattle.cell_units.specs.Touched.{EachLine, one_run}
use Rattle.edit_patch.specs.declared.edit.Edit.{Edit}
use Rattle.tab_map.specs.TabLines.{AreAll}
use Rattle.display_sheet.specs.LineSplices.{IsLineSplice}
use Rattle.display_sheet.specs.Shown.{unstamped}
use Rattle.display_sheet.proofs.LineSplices.{spliced-each}
use Rattle.display_sheet.proofs.Sheets.{lawful-stamped}
use Rattle.wrapped_lines.specs.Changed.{IsRewrapped}
use Rattle.wrapped_lines.specs.WrappedSource.{WrappedSource}
use Rattle.map_sheet.specs.Changes.{IsRelaid}
use Rattle.map_sheet.specs.Kept.{lines_in}

each_flag : {X : Type 0} (xs : List X) → map (λ x. true) xs ≡ replicate (length xs) true
each_flag [] = refl
each_flag (x ∷ xs) = ap (λ (l : List Bool). true ∷ l) (each_flag xs)

module _ (tab : ℕ) (r : Record) (is : IsLawful r) (short : length r.text ≤ LAID_LIMIT) (allowed : IsTab tab)
    (lines : WrappedSource) (run : Shift) (rows : List Edit)
    (all : AreAll (source_of r) (source_of r) (Some run)) (laid : IsRewrapped (lines_in r) (source_of r) tab lines run rows) where
  abbrev count : Record → ℕ
  count P = length (display_lines P.text P.inlays P.folds)

  shown : length (shown_lines (source_of r)) ≡ count r
  shown = length-map (display_lines r.text r.inlays r.folds) pieces_of

  flags : map (λ x. true) (display_lines r.text r.inlays r.folds) ≡ one_run 0 (count r) 0
  flags = each_flag (display_lines r.text r.inlays r.folds) ∙ sym (append-nil (replicate (count r) true))

  abbrev each : TouchesOneRun EachLine r (operated (SetTab tab) r)
  each = record { front = 0; before = count r; after = count r; back = 0; before_are = flags; after_are = flags }

  splices : (P : Record) → unstamped P ≡ r → IsLineSplice (SetTab tab) P run.start run.end run.count
  splices P e =
      let entries = lawful-stamped P (subst IsLawful (sym e) is) in
      let same : count P ≡ count r = ap count e in
      let base = spliced-each (SetTab tab) P entries.0 allowed entries.1 refl refl in
      let end : count P ≡ run.end = omega (arith, same, shown, all.end_is) in
      let n : count P ≡ run.count = omega (arith, same, shown, all.start_is, all.reach_is) in
      subst (λ (x : ℕ). IsLineSplice (SetTab tab) P run.start run.end x) n
      (subst (λ (x : ℕ). IsLineSplice (SetTab tab) P run.start x (count P)) end
      (subst (λ (x : ℕ). IsLineSplice (SetTab tab) P x (count P) (count P)) (sym all.start_is) base))

  pub tabbed-relaid : IsRelaid (SetTab tab) r (source_of r) lines run rows None
  tabbed-relaid = record {
    allowed = allowed;
    short = short;
    leaves = tt;
    shift_is = tt;
    source_is = refl;
    width_is = refl;
    lines_are = laid;
    touches = record {
      touches = each;
      start_is = all.start_is;
      end_is = omega (arith, all.end_is, shown);
      count_is = omega (arith, all.start_is, all.reach_is, shown);
    };
    splices = splices;
  }
