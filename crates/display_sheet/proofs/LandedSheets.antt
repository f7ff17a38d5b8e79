-- A sheet after a landing.
use Rattle.std.proofs.Common.{◌≡◌, ℕ, ◌<◌, List, length, get_or, sym, ap, subst, ◌∙◌, arith}
use Rattle.std.specs.Prelude.{Option}
use Rattle.std.specs.List.{All}
use Rattle.std.proofs.lemmas.List.{get_or-map, length-map}
use Rattle.cell_units.specs.Record.{Mark, Record, plain_mark}
use Rattle.cell_units.specs.Lawful.{IsWidth}
use Rattle.plain_rows.specs.FoldedLines.{LaidOut}
use Rattle.plain_rows.specs.Plain.{marks_of}
use Rattle.plain_rows.specs.Rows.{line_elements}
use Rattle.plain_rows.proofs.RowsOfLines.{length-elements}
use Rattle.plain_rows.proofs.SpotSizes.{elements-count}
use Rattle.display_sheet.specs.declared.wraps.Wrapped.{Wrapped}
use Rattle.display_sheet.specs.Landing.{AreCutsAt, AreLanded, FitLines, landed_at, landed_rows, with_landed_lines}
use Rattle.display_sheet.specs.Sheets.{IsSheet, marks_in, row_counts}
use Rattle.display_sheet.proofs.LandedCounts.{counts-landed, fit-cuts, length-landed, widths-landed}
use Rattle.display_sheet.proofs.Sheets.{length-marks_of, widths, widths-marks_of}

module _ (r : Record) (old : List Wrapped) (laid : LaidOut) (is : IsSheet r old laid) (kept : r.marks ≡ marks_of (marks_in old)) where
  long : length (marks_in old) ≡ length (line_elements r)
  long = sym (ap length kept ∙ length-marks_of (marks_in old)) ∙ sym (length-elements r is.lawful.marked)

  widths-kept : All IsWidth (marks_in old)
  widths-kept k d lt =
      let own : k < length r.marks = omega (arith, lt, ap length kept, length-marks_of (marks_in old)) in
      let at : (get_or r.marks k (plain_mark 0)).width ≡ get_or (marks_in old) k d =
      ap (λ (ms : List Mark). (get_or ms k (plain_mark 0)).width) kept
      ∙ sym (get_or-map (λ (m : Mark). m.width) (marks_of (marks_in old)) k (plain_mark 0) d (omega (arith, own, ap length kept)))
      ∙ ap (λ (ws : List ℕ). get_or ws k d) (widths-marks_of (marks_in old)) in
      subst IsWidth at (is.lawful.widths k (plain_mark 0) own)

  pub cuts-fit : (width : ℕ) (places : List (Option ℕ)) (cuts : List (List ℕ)) → AreCutsAt (line_elements r) width places cuts → FitLines (length old) places cuts
  cuts-fit width places cuts h =
      let own : length (line_elements r) ≡ length old = sym long ∙ length-map old (λ (w : Wrapped). w.mark) in
      subst (λ (n : ℕ). FitLines n places cuts) own
      (fit-cuts (line_elements r) width places cuts (λ k lt. omega (arith, elements-count r is.lawful is.laid_out.lawful.text_size k (omega (arith, lt, length-elements r is.lawful.marked)))) h)

  module _ (width : ℕ) (places : List (Option ℕ)) (cuts : List (List ℕ)) (new : List Wrapped) (landed : AreLanded width places cuts old new) where
    abbrev after : Record
    after = record r { marks = marks_of (marks_in new); next_stamp = length (marks_in new) }

    same-long : length (marks_in new) ≡ length (marks_in old)
    same-long = ap length landed.marks ∙ length-landed width places (marks_in old)

    pub landed-is : after ≡ with_landed_lines width places r
    landed-is = λ i. record r {
      marks = marks_of ((landed.marks ∙ ap (landed_at width places) (sym (ap widths kept ∙ widths-marks_of (marks_in old)))) i);
      next_stamp = (same-long ∙ sym (ap length kept ∙ length-marks_of (marks_in old))) i;
    }

    pub landed-sheet : IsWidth width → AreCutsAt (line_elements r) width places cuts → IsSheet after new laid
    landed-sheet lawful h = record {
      lawful = record {
        entries = record { source = is.lawful.entries.source; blocks = is.lawful.entries.blocks; tab = is.lawful.entries.tab; width = is.lawful.entries.width };
        marked = length-marks_of (marks_in new) ∙ same-long ∙ sym (ap length kept ∙ length-marks_of (marks_in old)) ∙ is.lawful.marked;
        widths = λ k d lt.
            let own : k < length (marks_in new) = omega (arith, lt, length-marks_of (marks_in new)) in
            let all = subst (All IsWidth) (sym landed.marks) (widths-landed width places (marks_in old) lawful widths-kept) in
            let at : get_or (marks_in new) k d.width ≡ (get_or (marks_of (marks_in new)) k d).width =
            ap (λ (ws : List ℕ). get_or ws k d.width) (sym (widths-marks_of (marks_in new)))
            ∙ get_or-map (λ (m : Mark). m.width) (marks_of (marks_in new)) k d d.width lt in
            subst IsWidth at (all k d.width own);
      };
      laid_out = is.laid_out;
      rows_are =
          landed.rows
          ∙ ap (landed_rows places cuts) is.rows_are
          ∙ counts-landed (line_elements r) width places cuts (marks_in old) long h
          ∙ ap (row_counts (line_elements r)) (sym landed.marks);
    }
