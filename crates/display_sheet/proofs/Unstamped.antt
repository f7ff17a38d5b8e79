-- No row, spot, offset or run depends on stamps.
use Rattle.std.proofs.Common.{◌≡◌, ℕ, ◌+◌, ◌&&◌, List, [], ◌∷◌, length, map, filter, flat_map, take, get_or, unwrap_or, refl, sym, ap, ◌∙◌}
use Rattle.std.specs.List.{zip}
use Rattle.std.specs.Option.{option_or}
use Rattle.std.proofs.Math.ListN.{get_or-map}
use Rattle.cell_units.specs.declared.place.Bias.{Bias}
use Rattle.cell_units.specs.declared.place.Bias.TheVariants.{Left, Right}
use Rattle.cell_units.specs.declared.place.Side.TheVariants.{Above, Below}
use Rattle.cell_units.specs.declared.place.Spot.{Spot}
use Rattle.cell_units.specs.Record.{Mark, Record, plain_mark}
use Rattle.cell_units.specs.Folded.{line_of, place_in_line}
use Rattle.cell_line.specs.declared.element.Element.{Element}
use Rattle.plain_rows.specs.Plain.{marks_of}
use Rattle.plain_rows.specs.Rows.{Row, blocks_at, line_elements, line_rows, rows_by_line, rows_of, text_rows, with_blocks}
use Rattle.plain_rows.specs.Spots.{at_or_after, at_or_before, back, clip, elements_at, elements_before, first_by, greatest, is_open, is_spot, least, mark_at, offsets_at, origin, past, positions, show, spot_in_line, valid_spots}
use Rattle.std.proofs.Common.{nat_le}
use Rattle.display_sheet.specs.Shown.{mark_runs, unstamped}
use Rattle.cell_line.specs.MarkRuns.{runs_from}
use Rattle.display_sheet.proofs.Sheets.{widths, widths-marks_of}

zipped-widths : (elements : List (List Element)) (marks : List Mark) → map (λ l. text_rows l.0 l.1.width) (zip elements marks) ≡ map (λ l. text_rows l.0 l.1) (zip elements (widths marks))
zipped-widths [] marks = refl
zipped-widths (e ∷ es) [] = refl
zipped-widths (e ∷ es) (m ∷ ms) = ap (λ (ls : List (List Row)). text_rows e m.width ∷ ls) (zipped-widths es ms)

-- other marks of the same widths
module _ (r : Record) (marks : List Mark) (next : ℕ) (same : widths marks ≡ widths r.marks) where
  abbrev other : Record
  other = record r { marks = marks; next_stamp = next }

  width-other : (line : ℕ) → (mark_at other line).width ≡ (mark_at r line).width
  width-other line =
      sym (get_or-map (λ (m : Mark). m.width) marks line (plain_mark 0))
      ∙ ap (λ (ws : List ℕ). get_or ws line 0) same
      ∙ get_or-map (λ (m : Mark). m.width) r.marks line (plain_mark 0)

  line_rows-other : line_rows other ≡ line_rows r
  line_rows-other =
      zipped-widths (line_elements r) marks
      ∙ ap (λ (ws : List ℕ). map (λ l. text_rows l.0 l.1) (zip (line_elements r) ws)) same
      ∙ sym (zipped-widths (line_elements r) r.marks)

  pub rows_by_line-other : rows_by_line other ≡ rows_by_line r
  unfolding rows_by_line
  rows_by_line-other = ap (with_blocks (blocks_at r Above) (blocks_at r Below)) line_rows-other

  pub rows_of-other : rows_of other ≡ rows_of r
  unfolding rows_of
  rows_of-other = ap (λ (lines : List (List Row)). flat_map (λ rows. rows) lines) rows_by_line-other

  pub show-other : (o : ℕ) (bias : Bias) → show other o bias ≡ show r o bias
  unfolding show
  show-other o bias =
      let line = line_of r.text r.inlays r.folds o bias in
      let before = elements_before (elements_at r line) (place_in_line r.text r.inlays r.folds o bias) bias in
      λ i. record {
        row = (length (flat_map (λ rows. rows) (take line (rows_by_line-other i))) + length (blocks_at r Above line)) + (spot_in_line (elements_at r line) (width-other line i) before).row;
        col = (spot_in_line (elements_at r line) (width-other line i) before).col;
      }

  valid_spots-other : valid_spots other ≡ valid_spots r
  valid_spots-other = λ i. map (λ p. show-other p.0 p.1 i) (positions r.text)

  pub clip-other : (d : Spot) (bias : Bias) → clip other d bias ≡ clip r d bias
  unfolding clip
  clip-other d Left = ap (λ (spots : List Spot). unwrap_or (option_or (greatest (at_or_before d spots)) (least spots)) origin) valid_spots-other
  clip-other d Right =
      ap (λ (spots : List Spot). unwrap_or (option_or (greatest (past d spots)) (option_or (least (at_or_after d spots)) (greatest spots))) origin) valid_spots-other

  is_open-other : (o : ℕ) (bias : Bias) → is_open other o bias ≡ is_open r o bias
  unfolding is_open
  is_open-other o bias = refl

  offsets_at-other : (s : Spot) → offsets_at other s ≡ offsets_at r s
  unfolding offsets_at
  offsets_at-other s = λ i. map (λ p. p.0) (filter (λ p. is_open-other p.0 p.1 i && is_spot (show-other p.0 p.1 i) s) (positions r.text))

  pub back-other : (d : Spot) (bias : Bias) → back other d bias ≡ back r d bias
  unfolding back
  back-other d Left = ap (λ (os : List ℕ). unwrap_or (first_by nat_le os) 0) (offsets_at-other (clip other d Left) ∙ ap (offsets_at r) (clip-other d Left))
  back-other d Right = ap (λ (os : List ℕ). unwrap_or (first_by (λ a b. nat_le b a) os) 0) (offsets_at-other (clip other d Right) ∙ ap (offsets_at r) (clip-other d Right))

  pub mark_runs-other : mark_runs other ≡ mark_runs r
  mark_runs-other = ap (runs_from 0) same

module _ (r : Record) where
  counted : widths (marks_of (widths r.marks)) ≡ widths r.marks
  counted = widths-marks_of (widths r.marks)

  pub rows_of-unstamped : rows_of (unstamped r) ≡ rows_of r
  rows_of-unstamped = rows_of-other r (marks_of (widths r.marks)) (length r.marks) counted

  pub show-unstamped : (o : ℕ) (bias : Bias) → show (unstamped r) o bias ≡ show r o bias
  show-unstamped = show-other r (marks_of (widths r.marks)) (length r.marks) counted

  pub clip-unstamped : (d : Spot) (bias : Bias) → clip (unstamped r) d bias ≡ clip r d bias
  clip-unstamped = clip-other r (marks_of (widths r.marks)) (length r.marks) counted

  pub back-unstamped : (d : Spot) (bias : Bias) → back (unstamped r) d bias ≡ back r d bias
  back-unstamped = back-other r (marks_of (widths r.marks)) (length r.marks) counted

  pub mark_runs-unstamped : mark_runs (unstamped r) ≡ mark_runs r
  mark_runs-unstamped = mark_runs-other r (marks_of (widths r.marks)) (length r.marks) counted
