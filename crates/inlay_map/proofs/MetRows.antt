-- The rows of the lines that places meet, in a source without folds.
use Rattle.std.proofs.Common.{◌≡◌, ◌≢◌, ℕ, ◌+◌, ◌-◌, ◌<◌, ◌≤◌, ◌==◌, List, [], ◌∷◌, ◌++◌, length, map, Some, refl, sym, ap, ◌∙◌, subst, inl, inr, arith}
use Rattle.std.specs.List.{find, slice_get}
use Rattle.std.proofs.lemmas.Bool.{cases_lt}
use Rattle.cell_units.specs.declared.place.Bias.TheVariants.{Left, Right}
use Rattle.cell_units.specs.BufferLines.{line_end, line_start}
use Rattle.cell_units.specs.Folded.{folded, line_of}
use Rattle.cell_units.specs.Inlaid.{Byte, Token, inlays_at}
use Rattle.cell_units.specs.Laws.{HasRow}
use Rattle.cell_units.specs.Lawful.{AreInlays, IsInlayOf, IsWellFormed}
use Rattle.cell_units.specs.Layers.{Source, place_of, shown_lines, shown_text, span_of}
use Rattle.cell_units.specs.Record.{Inlay, line_count}
use Rattle.cell_units.specs.Text.{IsText, line_feed, row_of}
use Rattle.cell_units.specs.Touched.{row_range}
use Rattle.cell_units.proofs.BufferLines.{line_bounds, line_count-is, row_of_end, row_of_start}
use Rattle.cell_units.proofs.LineSpans.{place-line, span-has}
use Rattle.cell_units.proofs.PlainLayers.{line_of_offset}
use Rattle.cell_units.proofs.ReplacedRows.{row_of-le, row_of-lt}
use Rattle.cell_units.proofs.ShownPlaces.{place-le, places-left_first, places-rise}
use Rattle.cell_units.proofs.Sources.{ends_open, lines-are, row-lt}
use Rattle.cell_units.proofs.ShownText.{EndsOpen}
use Rattle.splice_tree.specs.Splices.{flipped, to_lower}
use Rattle.splice_tree.proofs.LawProofs.{dont_fall}
use Rattle.edit_patch.specs.Leads.{Leads, Reach, unmoved}
use Rattle.inlay_map.specs.InlaidShifts.{inlaid_shift, inlay_shift}
use Rattle.inlay_map.specs.Maps.{source_after}
use Rattle.inlay_map.specs.Met.{MeetsLine, MeetsRow, MeetsRows, TouchesRows}
use Rattle.inlay_map.proofs.Backs.{offset-is, stretches}
use Rattle.inlay_map.proofs.Cuts.{tokens-are}
use Rattle.inlay_map.proofs.InlaidSources.{well-formed}
use Rattle.inlay_map.proofs.MapStates.{left-moved, source-is, turned-left}
use Rattle.inlay_map.proofs.MovedInlays.{found-contained}
use Rattle.inlay_map.proofs.Parts.{parts_from}
use Rattle.inlay_map.proofs.SourceLayers.{span-at}
use Rattle.inlay_map.proofs.Spread.{spread}

module _ (v : Source) (none : v.folds ≡ []) (are : AreInlays v.text v.inlays) (is-text : IsText v.text) where
  abbrev shown : List ℕ
  shown = shown_text v

  formed : IsWellFormed v
  formed = well-formed v is-text are none

  opens : EndsOpen v
  opens = ends_open v formed

  abbrev lines : ℕ
  lines = length (shown_lines v)

  in-text : (line : ℕ) → line < lines → line < line_count shown
  in-text line lt = omega (arith, lt, lines-are v formed, line_count-is shown)

  abbrev row-at : ℕ → ℕ
  row-at line = row_of v.text (to_lower Left (stretches v.text 0 v.inlays) (line_start shown line))

  -- a line is in the row of that offset
  spans : (line : ℕ) → line < lines → span_of v line ≡ (row-at line, row-at line)
  spans line lt = sym (span-at v none are is-text line (to_lower Left (stretches v.text 0 v.inlays) (line_start shown line)) lt
      (λ t e. omega (arith, offset-is v.text 0 v.inlays (line_start shown line) t (spread v.text v.inlays are) (omega arith) (found t e)))) where
        last : Token
        last = Byte (length v.text) line_feed

        is : folded v.text v.inlays v.folds ≡ parts_from v.text 0 v.inlays ++ last ∷ []
        is = ap (λ (s : Source). folded s.text s.inlays s.folds) (sym (source-is v none)) ∙ tokens-are v.text v.inlays (spread v.text v.inlays are)

        found : (t : Token) → slice_get (folded v.text v.inlays v.folds) (line_start shown line) ≡ Some t → slice_get (parts_from v.text 0 v.inlays ++ last ∷ []) (line_start shown line) ≡ Some t
        found t e = ap (λ (l : List Token). slice_get l (line_start shown line)) (sym is) ∙ e

  -- later lines are in later rows
  rows-rise : (k line : ℕ) → k ≤ line → line < lines → row-at k ≤ row-at line
  rows-rise k line le lt =
      let starts : line_start shown k ≤ line_start shown line = start-rises k line le lt in
      row_of-le v.text (to_lower Left (stretches v.text 0 v.inlays) (line_start shown k)) (to_lower Left (stretches v.text 0 v.inlays) (line_start shown line))
      (dont_fall Left (map flipped (stretches v.text 0 v.inlays)) (line_start shown k) (line_start shown line) starts)
    where
      start-rises : (k line : ℕ) → k ≤ line → line < lines → line_start shown k ≤ line_start shown line
      start-rises k line le lt = elim (cases_lt (line_start shown line) (line_start shown k)) [
        | inr fine ↦ fine
        | inl less ↦
            let a = row_of_start shown k (in-text k (omega (arith, le, lt))) in
            let b = row_of_start shown line (in-text line lt) in
            let c = row_of-le shown (line_start shown line) (line_start shown k) (omega (arith, less)) in
            let same : k ≡ line = omega (arith, a, b, c, le) in
            absurd (omega (arith, less, ap (line_start shown) same))
      ]

  -- the line of a place, and its row
  abbrev line-at : ℕ → ℕ
  line-at place = row_of shown place

  -- an offset's line is in its row
  row-is : (o : ℕ) → o ≤ length v.text → row-at (line-at (place_of v o Left)) ≡ row_of v.text o
  row-is o le =
      let has = span-has v opens o Left le in
      let at : row_of shown (place_of v o Left) ≡ line_of v.text v.inlays v.folds o Left = place-line v opens o Left le in
      let line : ℕ = line_of v.text v.inlays v.folds o Left in
      let s : span_of v line ≡ (row-at line, row-at line) = spans line (subst (λ k. k < lines) at (row-lt v formed (place_of v o Left))) in
      let same : row-at (line-at (place_of v o Left)) ≡ row-at line = ap (λ k. row_of v.text (to_lower Left (stretches v.text 0 v.inlays) (line_start shown k))) at in
      omega (arith, same, has.0, has.1, ap (λ (p : ℕ × ℕ). p.0) s, ap (λ (p : ℕ × ℕ). p.1) s)

  row-is-right : (o : ℕ) → o ≤ length v.text → row-at (line-at (place_of v o Right)) ≡ row_of v.text o
  row-is-right o le =
      let has = span-has v opens o Right le in
      let at : row_of shown (place_of v o Right) ≡ line_of v.text v.inlays v.folds o Right = place-line v opens o Right le in
      let line : ℕ = line_of v.text v.inlays v.folds o Right in
      let s : span_of v line ≡ (row-at line, row-at line) = spans line (subst (λ k. k < lines) at (row-lt v formed (place_of v o Right))) in
      let same : row-at (line-at (place_of v o Right)) ≡ row-at line = ap (λ k. row_of v.text (to_lower Left (stretches v.text 0 v.inlays) (line_start shown k))) at in
      omega (arith, same, has.0, has.1, ap (λ (p : ℕ × ℕ). p.0) s, ap (λ (p : ℕ × ℕ). p.1) s)

  -- a place between two is on a line that they meet
  met-at : (first last place : ℕ) → first ≤ place → place ≤ last → place ≤ length shown → MeetsLine v first last (line-at place)
  met-at first last place low high within =
      let at = line_of_offset shown place within in
      record { there = row-lt v formed place; start = omega (arith, at.0, high); end = omega (arith, at.1, low) }

  has-row : (line row : ℕ) → line < lines → row-at line ≡ row → HasRow (span_of v line) row
  has-row line row lt e =
      let s = spans line lt in
      (omega (arith, e, ap (λ (p : ℕ × ℕ). p.0) s), omega (arith, e, ap (λ (p : ℕ × ℕ). p.1) s))

  -- The places from the left one of an offset to the right one of another meet the lines of the rows between the two.
  pub meets-rows : (a b : ℕ) → a ≤ b → b ≤ length v.text → MeetsRows v (place_of v a Left) (place_of v b Right) (row_range v.text a b)
  meets-rows a b order within row = (into, back) where
    in' : a ≤ length v.text
    in' = omega (arith, order, within)

    into : MeetsRow v (place_of v a Left) (place_of v b Right) row → (row_of v.text a ≤ row) × (row ≤ row_of v.text b)
    into met =
        let line : ℕ = met.0 in
        let m = met.1 in
        let s = spans line m.there in
        let bounds = line_bounds shown line (in-text line m.there) in
        let end = row_of_end shown line (in-text line m.there) in
        let start = row_of_start shown line (in-text line m.there) in
        let low : line-at (place_of v a Left) ≤ line = omega (arith, end, row_of-le shown (place_of v a Left) (line_end shown line) m.end) in
        let high : line ≤ line-at (place_of v b Right) = omega (arith, start, row_of-le shown (line_start shown line) (place_of v b Right) m.start) in
        let up = rows-rise (line-at (place_of v a Left)) line low m.there in
        let down = rows-rise line (line-at (place_of v b Right)) high (row-lt v formed (place_of v b Right)) in (
          omega (arith, up, row-is a in', met.2.0, met.2.1, ap (λ (p : ℕ × ℕ). p.0) s, ap (λ (p : ℕ × ℕ). p.1) s),
          omega (arith, down, row-is-right b within, met.2.0, met.2.1, ap (λ (p : ℕ × ℕ). p.0) s, ap (λ (p : ℕ × ℕ). p.1) s),
        )

    at-offset : (o : ℕ) → a ≤ o → o ≤ b → row_of v.text o ≡ row → MeetsRow v (place_of v a Left) (place_of v b Right) row
    at-offset o low high e =
        let le : o ≤ length v.text = omega (arith, high, within) in
        let place : ℕ = place_of v o Left in
        let met = met-at (place_of v a Left) (place_of v b Right) place (places-rise v a o Left low le) (omega (arith, places-left_first v o, places-rise v o b Right high within)) (place-le v o Left le) in
        (line-at place, met, has-row (line-at place) row met.there (row-is o le ∙ e))

    back : (row_of v.text a ≤ row) × (row ≤ row_of v.text b) → MeetsRow v (place_of v a Left) (place_of v b Right) row
    back h = elim (cases_lt (row_of v.text a) row) [
      | inr le ↦ at-offset a (omega arith) order (omega (arith, le, h.0))
      | inl lt ↦
          let there : row < line_count v.text = omega (arith, h.1, row_of-lt v.text b) in
          let o = line_start v.text row in
          let at : row_of v.text o ≡ row = row_of_start v.text row there in
          at-offset o (low o at lt) (high o at there h.1) at
    ] where
      low : (o : ℕ) → row_of v.text o ≡ row → row_of v.text a < row → a ≤ o
      low o at lt = elim (cases_lt o a) [
        | inr ge ↦ ge
        | inl less ↦ absurd (omega (arith, at, lt, row_of-le v.text o a (omega (arith, less))))
      ]

      -- a row that starts after an offset is after the offset's
      high : (o : ℕ) → row_of v.text o ≡ row → row < line_count v.text → row ≤ row_of v.text b → line_start v.text row ≤ b
      high o at there le =
          let s : line_start v.text (row_of v.text b) ≤ b = (line_of_offset v.text b within).0 in
          elim (cases_lt b (line_start v.text row)) [
            | inr ge ↦ ge
            | inl past ↦
                let up = row_of-le v.text b (line_start v.text row) (omega (arith, past)) in
                let same : row_of v.text b ≡ row = omega (arith, up, row_of_start v.text row there, le) in
                absurd (omega (arith, past, s, ap (line_start v.text) same))
          ]

-- ---- what one change replaces

-- inlays that differ at one offset
pub inlay-touches : (v w : Source) (o : ℕ) → v.folds ≡ [] → w.folds ≡ [] → AreInlays v.text v.inlays → AreInlays w.text w.inlays → IsText v.text → w.text ≡ v.text → o ≤ length v.text
    → ((k : ℕ) → k ≢ o → inlays_at w.inlays k ≡ inlays_at v.inlays k) → TouchesRows v w (inlay_shift v w o) (row_range v.text o o) (row_range v.text o o)
inlay-touches v w o none none' are are' is-text same le differ =
    let left : place_of w o Left ≡ place_of v o Left = turned-left v w o none none' same differ in
    let end : place_of w o Right ≡ place_of v o Left + (place_of w o Right - place_of w o Left) = omega (arith, left, places-left_first w o) in
    record {
      before_it = meets-rows v none are is-text o o (omega arith) le;
      after_it =
          subst (λ (t : List ℕ). MeetsRows w (place_of v o Left) (place_of v o Left + (place_of w o Right - place_of w o Left)) (row_range t o o)) same
          (subst (λ (p : ℕ × ℕ). MeetsRows w p.0 p.1 (row_range w.text o o)) (λ i. (left i, end i))
          (meets-rows w none' are' (subst IsText (sym same) is-text) o o (omega arith) (subst (λ (t : List ℕ). o ≤ length t) (sym same) le)));
    }

-- a replacement of the text
pub moved-touches : (v : Source) (text : List ℕ) (s : Reach) → v.folds ≡ [] → AreInlays v.text v.inlays → AreInlays text (source_after text (Some s) v).inlays → IsText v.text → IsText text → s.start ≤ s.end → Leads unmoved v.text text s
    → TouchesRows v (source_after text (Some s) v) (inlaid_shift v (source_after text (Some s) v) s) (row_range v.text s.start s.end) (row_range text s.start (s.start + s.count))
moved-touches v text s none are are' is-text is-text' order leads =
    let w : Source = source_after text (Some s) v in
    let a = s.start in
    let b = s.start + s.count in
    let left : place_of w a Left ≡ place_of v a Left = left-moved s v.text text v.inlays are order leads ∙ ap (λ (x : Source). place_of x a Left) (source-is v none) in
    let rise : place_of w a Left ≤ place_of w b Right = omega (arith, places-left_first w a, places-rise w a b Right (omega arith) leads.reaches) in
    let end : place_of w b Right ≡ place_of v a Left + (place_of w b Right - place_of w a Left) = omega (arith, left, rise) in
    record {
      before_it = meets-rows v none are is-text s.start s.end order leads.within;
      after_it = subst (λ (p : ℕ × ℕ). MeetsRows w p.0 p.1 (row_range text a b)) (λ i. (left i, end i)) (meets-rows w refl are' is-text' a b (omega arith) leads.reaches);
    }

-- an inlay that is found by its id fits the text
pub found-fits : (text : List ℕ) (is : List Inlay) (i : Inlay) → AreInlays text is → find (λ j. j.id == i.id) is ≡ Some i → IsInlayOf text i
found-fits text is i are e =
    let c = (found-contained i.id is i e).0 in
    subst (IsInlayOf text) c.2 (are.each c.0 i c.1)
