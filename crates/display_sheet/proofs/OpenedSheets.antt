-- The sheet of a text that was just opened.
use Rattle.std.proofs.Common.{◌≡◌, ℕ, ◌+◌, zero, suc, List, [], ◌∷◌, length, map, replicate, refl, sym, ap, subst, ◌∙◌}
use Rattle.std.specs.Arc.{arc_value}
use Rattle.cell_units.specs.Text.{IsText}
use Rattle.cell_units.specs.Record.{Record, line_count, opened, plain_marks}
use Rattle.cell_units.specs.Folded.{display_lines}
use Rattle.cell_units.specs.Lawful.{IsLawful, source_of}
use Rattle.cell_units.proofs.LawfulOperations.{opened-lawful}
use Rattle.plain_rows.specs.FoldedLines.{AreLinesOf}
use Rattle.plain_rows.specs.Plain.{block_of, fold_of, inlay_of, marks_of}
use Rattle.plain_rows.specs.Rows.{line_elements}
use Rattle.display_sheet.specs.declared.sheet.Sheet.TheInside.{Inside}
use Rattle.display_sheet.specs.declared.wraps.Wrapped.{Wrapped}
use Rattle.display_sheet.specs.Sheets.{KeepsSheet, marks_in, record_in, row_counts}
use Rattle.display_sheet.specs.Shown.{unstamped}
use Rattle.display_sheet.specs.Wraps.{fresh}
use Rattle.display_sheet.proofs.ElementLines.{elements_long}
use Rattle.display_sheet.proofs.Relaid.{lawful-unstamped}
use Rattle.display_sheet.proofs.Sheets.{one_row, widths}

map-replicate : {X Y : Type 0} (f : X → Y) (n : ℕ) (x : X) → map f (replicate n x) ≡ replicate n (f x)
map-replicate f zero x = refl
map-replicate f (suc n) x = ap (λ l. f x ∷ l) (map-replicate f n x)

plain_widths : (stamp n : ℕ) → widths (plain_marks stamp n) ≡ replicate n 0
plain_widths stamp zero = refl
plain_widths stamp (suc n) = ap (λ (l : List ℕ). 0 ∷ l) (plain_widths (stamp + 1) n)

length-plain : (stamp n : ℕ) → length (plain_marks stamp n) ≡ n
length-plain stamp zero = refl
length-plain stamp (suc n) = ap (λ (k : ℕ). suc k) (length-plain (stamp + 1) n)

length-same : {X : Type 0} (n : ℕ) (x : X) → length (replicate n x) ≡ n
length-same zero x = refl
length-same (suc n) x = ap (λ (k : ℕ). suc k) (length-same n x)

module _ (s : Inside) (text : List ℕ) (is : IsText text) (n : ℕ)
    (text_is : arc_value s.text ≡ text)
    (inlays : (arc_value s.inlays).items ≡ [])
    (folds : (arc_value s.folds).items ≡ [])
    (blocks : (arc_value s.blocks).items ≡ [])
    (tab : s.tab ≡ 4) (width : s.width ≡ 80)
    (wraps : arc_value s.wraps ≡ replicate n fresh)
    (count : n ≡ length (display_lines text [] [])) where
  abbrev first : Record
  first = unstamped (opened text)

  lines : n ≡ line_count text
  lines = count ∙ sym (opened-lawful text is).marked ∙ length-plain 0 (line_count text)

  marks : marks_in (arc_value s.wraps) ≡ replicate n 0
  marks = ap marks_in wraps ∙ map-replicate (λ (w : Wrapped). w.mark) n fresh

  own : widths (opened text).marks ≡ replicate n 0
  own = plain_widths 0 (line_count text) ∙ ap (λ (k : ℕ). replicate k 0) (sym lines)

  pub opened_is : record_in s ≡ first
  opened_is = λ i. record {
    text = text_is i;
    inlays = map inlay_of (inlays i);
    folds = map fold_of (folds i);
    blocks = map block_of (blocks i);
    tab = tab i;
    width = width i;
    marks = marks_of ((marks ∙ sym own) i);
    next_stamp = (ap length marks ∙ length-same n 0 ∙ lines ∙ sym (length-plain 0 (line_count text))) i;
  }

  pub keeps-opened : AreLinesOf (source_of (record_in s)) (arc_value s.lines) → KeepsSheet s
  keeps-opened laid = record {
    lawful = subst IsLawful (sym opened_is) (lawful-unstamped (opened text) (opened-lawful text is));
    laid_out = laid;
    rows_are =
        ap (map (λ (w : Wrapped). w.rows)) wraps
        ∙ map-replicate (λ (w : Wrapped). w.rows) n fresh
        ∙ sym (one_row (line_elements (record_in s)) n long)
        ∙ ap (row_counts (line_elements (record_in s))) (sym marks);
  } where
    long : length (line_elements (record_in s)) ≡ n
    long = ap (λ (r : Record). length (line_elements r)) opened_is ∙ elements_long first ∙ sym count
