-- Where a position is shown, from what was found of its line.
use Rattle.std.proofs.Common.{◌≡◌, ℕ, ◌+◌, ◌<◌, ◌≤◌, List, length, map, get_or, Option, Some, None, [], ◌∷◌, refl, ap, sym, ◌∙◌, subst}
use Rattle.std.specs.List.{enumerate_from, slice_get}
use Rattle.std.proofs.lemmas.List.{get_or-map}
use Rattle.cell_units.specs.declared.place.Bias.{Bias}
use Rattle.cell_units.specs.declared.place.Spot.{Spot}
use Rattle.cell_units.specs.declared.piece.Piece.{Piece}
use Rattle.cell_units.specs.Folded.{line_of, place_in_line}
use Rattle.cell_units.specs.Layers.{Source, shown_lines}
use Rattle.cell_units.specs.Lawful.{IsLawful, source_of}
use Rattle.cell_units.specs.Record.{Mark, Record, plain_mark}
use Rattle.cell_line.specs.declared.element.Element.{Element}
use Rattle.cell_line.specs.Elements.{elements_of}
use Rattle.plain_rows.specs.declared.spots.laid_rows.LaidRows.TheInside.{Inside}
use Rattle.plain_rows.specs.declared.folded_lines.Joined.{Joined}
use Rattle.plain_rows.specs.FoldedLines.{AreLinesOf, seen}
use Rattle.plain_rows.specs.Plain.{marks_of}
use Rattle.plain_rows.specs.Spots.{elements_at, elements_before, mark_at, rows_before, show, spot_in_line}
use Rattle.plain_rows.specs.SpotRows.{IsFoldAround}
use Rattle.plain_rows.specs.inside.LaidRows.{KeepsRows, record_in}
use Rattle.plain_rows.specs.inside.Passed.{IsAround}
use Rattle.plain_rows.specs.inside.SpotRows.{HasFirstRows}
use Rattle.plain_rows.proofs.SpotSizes.{pieces-elements}

widths-from : (n : ℕ) (widths : List ℕ) → map (λ (m : Mark). m.width) (map (λ p. record { stamp = p.0; width = p.1 }) (enumerate_from n widths)) ≡ widths
widths-from n [] = refl
widths-from n (w ∷ ws) = ap (λ (l : List ℕ). w ∷ l) (widths-from (n + 1) ws)

-- the widths of the marks that these widths make
pub widths-of : (widths : List ℕ) → map (λ (m : Mark). m.width) (marks_of widths) ≡ widths
widths-of widths = widths-from 0 widths

-- the rows are those of a lawful record
pub record AreRowsOf (r : Record) (rows : Inside) : Type 0 where
  pub lawful : IsLawful r
  pub size : length r.text ≤ 67108864
  pub source : seen rows.source ≡ source_of r
  pub lines : AreLinesOf (source_of r) rows.lines.now
  pub tab : rows.tab ≡ r.tab
  pub widths : rows.widths.now ≡ map (λ m. m.width) r.marks
  pub first_rows : HasFirstRows r rows.first_rows.now

-- they are those of the record that they are seen as
pub rows-are : (rows : Inside) (r : Record) → record_in rows ≡ r → KeepsRows rows → AreRowsOf r rows
rows-are rows r is keeps =
    subst (λ (r : Record). AreRowsOf r rows) is
    (record {
      lawful = keeps.lawful;
      size = keeps.size;
      source = refl;
      lines = keeps.lines_are;
      tab = refl;
      widths = sym (widths-of rows.widths.now);
      first_rows = keeps.rows_are;
    })

module _ (rows : Inside) (r : Record) (are : AreRowsOf r rows) where
  pub elements-found : (line : ℕ) (pieces : List Piece) → line < length r.marks → slice_get (shown_lines (seen rows.source)) line ≡ Some pieces → elements_of pieces rows.tab ≡ elements_at r line
  elements-found line pieces lt is =
      ap (elements_of pieces) are.tab
      ∙ pieces-elements r are.lawful are.size line pieces lt (ap (λ (s : Source). slice_get (shown_lines s) line) (sym are.source) ∙ is)

  pub width-found : (line : ℕ) → line < length r.marks → get_or rows.widths.now line 0 ≡ (mark_at r line).width
  width-found line lt =
      ap (λ (l : List ℕ). get_or l line 0) are.widths ∙ get_or-map (λ (m : Mark). m.width) r.marks line (plain_mark 0) 0 lt

-- the joined fold that is found in laid out lines
pub fold-around : (s : Source) (o : ℕ) (found : Option Joined) → IsAround s o found → IsFoldAround s.folds o found
fold-around s o None is = is
fold-around s o (Some joined) is = record {
  starts = is.1;
  ends = is.2;
  hides = is.0.hides;
  outside = (is.0.outside, is.3);
}

pub spot-is : (r : Record) (o : ℕ) (bias : Bias) (line byte first : ℕ) (es : List Element) (width : ℕ) (s : Spot) →
    line ≡ line_of r.text r.inlays r.folds o bias → byte ≡ place_in_line r.text r.inlays r.folds o bias → first ≡ rows_before r line →
    es ≡ elements_at r line → width ≡ (mark_at r line).width → s ≡ spot_in_line es width (elements_before es byte bias) → record { row = first + s.row; col = s.col } ≡ show r o bias
unfolding show
spot-is r o bias line byte first es width s at place before elements wide is = here ∙ there where
  spot : ℕ → ℕ → Spot
  spot line byte = record { row = rows_before r line + (spot_in_line (elements_at r line) (mark_at r line).width (elements_before (elements_at r line) byte bias)).row; col = (spot_in_line (elements_at r line) (mark_at r line).width (elements_before (elements_at r line) byte bias)).col }

  found : s ≡ spot_in_line (elements_at r line) (mark_at r line).width (elements_before (elements_at r line) byte bias)
  found = is ∙ (λ i. spot_in_line (elements i) (wide i) (elements_before (elements i) byte bias))

  here : record { row = first + s.row; col = s.col } ≡ spot line byte
  here = λ i. record { row = before i + (found i).row; col = (found i).col }

  there : spot line byte ≡ spot (line_of r.text r.inlays r.folds o bias) (place_in_line r.text r.inlays r.folds o bias)
  there = λ i. spot (at i) (place i)
