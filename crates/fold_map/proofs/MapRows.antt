-- The rows of the line of a place, in a layer without folds.
use Rattle.std.proofs.Common.{◌≡◌, ℕ, zero, suc, ◌+◌, ◌<◌, ◌≤◌, Bool, true, false, cond, List, [], ◌∷◌, ◌++◌, length, get_or, refl, sym, ap, ◌∙◌, inl, inr, ◌⊎◌, arith}
use Rattle.std.proofs.lemmas.Bool.{cases_lt}
use Rattle.std.proofs.lemmas.List.{length-map}
use Rattle.cell_units.specs.declared.place.Bias.TheVariants.{Left, Right}
use Rattle.cell_units.specs.BufferLines.{line_end, line_start}
use Rattle.cell_units.specs.Cutting.{cut_lines, onto_line}
use Rattle.cell_units.specs.Folded.{display_lines, folded, shown, span_end, span_start}
use Rattle.cell_units.specs.Inlaid.{Token, is_break, offset_of, show_each}
use Rattle.cell_units.specs.Lawful.{IsWellFormed}
use Rattle.cell_units.specs.Layers.{Source, inlay_source, line_tokens, place_of, shown_lines, shown_text, span_of}
use Rattle.cell_units.specs.Pieces.{pieces_of}
use Rattle.cell_units.specs.Record.{Fold, Inlay, line_count}
use Rattle.cell_units.specs.Text.{line_feed, row_of}
use Rattle.cell_units.proofs.BufferLines.{line_bounds, line_end_last, line_end_next, row_of_end, row_of_start}
use Rattle.cell_units.proofs.CutLists.{Every, Every-append, FirstIs, First-lines}
use Rattle.cell_units.proofs.LineSpans.{place-line, span-has}
use Rattle.cell_units.proofs.OneRow.{lines-in_one_row}
use Rattle.cell_units.proofs.ReplacedRows.{row_of-le, row_of-lt}
use Rattle.cell_units.proofs.ShownMoved.{Every-show_each, Every-shown}
use Rattle.cell_units.proofs.Sources.{ends_open, row-lt}
use Rattle.fold_map.proofs.MapPlaces.{every-by, next-left}

module _ (text : List ℕ) where
  abbrev row : Token → ℕ
  row t = row_of text (offset_of t)

  -- rows don't fall
  abbrev pub Rises : List Token → Type 0
  Rises [] = Unit {0}
  Rises (t ∷ ts) = Every (λ u. row t ≤ row u) ts × Rises ts

  rises-same : (o : ℕ) (xs ys : List Token) → Every (λ t. offset_of t ≡ o) xs → Every (λ t. o ≤ offset_of t) ys → Rises ys → Rises (xs ++ ys)
  rises-same o [] ys a b r = r
  rises-same o (x ∷ xs) ys a b r = (
    Every-append (λ u. row x ≤ row u) xs ys
        (every-by (λ t. offset_of t ≡ o) (λ u. row x ≤ row u) (λ t e. row_of-le text (offset_of x) (offset_of t) (let h = a.0 in omega (arith, e, h))) xs a.1)
        (every-by (λ t. o ≤ offset_of t) (λ u. row x ≤ row u) (λ t l. row_of-le text (offset_of x) (offset_of t) (let h = a.0 in omega (arith, l, h))) ys b),
    rises-same o xs ys a.1 b r,
  )

  pub rises-each : (inlays : List Inlay) (folds : List Fold) (o : ℕ) (bs : List ℕ) → Rises (show_each (shown inlays folds) o bs)
  rises-each inlays folds o [] = tt
  rises-each inlays folds o (b ∷ bs) =
      rises-same o (shown inlays folds o b) (show_each (shown inlays folds) (o + 1) bs) (Every-shown inlays folds o b)
      (Every-show_each (shown inlays folds) (λ t. o ≤ offset_of t) (o + 1) bs
      (λ k c h l. every-by (λ t. offset_of t ≡ k) (λ t. o ≤ offset_of t) (λ t e. omega (arith, e, h)) (shown inlays folds k c) (Every-shown inlays folds k c)))
      (rises-each inlays folds (o + 1) bs)

  -- ---- lines

  -- later lines start in later rows, or in the same
  abbrev LinesRise : List (List Token) → Type 0
  LinesRise [] = Unit {0}
  LinesRise (l ∷ ls) = Every (FirstIs (λ u. span_start text l ≤ row u)) ls × LinesRise ls

  lines-rise : (ts : List Token) → Rises ts → LinesRise (cut_lines is_break ts)
  lines-rise [] r = tt
  lines-rise (t ∷ ts) r = go (is_break t) (cut_lines is_break ts) (First-lines is_break (λ u. row t ≤ row u) ts r.0) (lines-rise ts r.1) where
    go : (b : Bool) (ls : List (List Token)) → Every (FirstIs (λ u. row t ≤ row u)) ls → LinesRise ls → LinesRise (cond b ((t ∷ []) ∷ ls) (onto_line t ls))
    go true ls f rise = (f, rise)
    go false [] f rise = (tt, tt)
    go false (l ∷ ls) f rise = (f.1, rise.1)

  start-at : (a : ℕ) (ls : List (List Token)) (k : ℕ) → Every (FirstIs (λ u. a ≤ row u)) ls → k < length ls → a ≤ span_start text (get_or ls k [])
  start-at a [] k e l = absurd (omega (arith, l))
  start-at a (l ∷ ls) (suc k) e lt = start-at a ls k e.1 (omega (arith, lt))
  start-at a ([] ∷ ls) zero e lt = absurd e.0
  start-at a ((t ∷ ts) ∷ ls) zero e lt = e.0

  starts-rise : (ls : List (List Token)) (k m : ℕ) → LinesRise ls → k ≤ m → m < length ls → span_start text (get_or ls k []) ≤ span_start text (get_or ls m [])
  starts-rise [] k m r le lt = absurd (omega (arith, lt))
  starts-rise (l ∷ ls) zero zero r le lt = omega arith
  starts-rise (l ∷ ls) zero (suc m) r le lt = start-at (span_start text l) ls m r.0 (omega (arith, lt))
  starts-rise (l ∷ ls) (suc k) zero r le lt = absurd (omega (arith, le))
  starts-rise (l ∷ ls) (suc k) (suc m) r le lt = starts-rise ls k m r.1 (omega (arith, le)) (omega (arith, lt))

  pub start-row : (ts : List Token) → span_start text ts < line_count text
  start-row [] = let l = row_of-lt text 0 in omega (arith, l)
  start-row (t ∷ ts) = row_of-lt text (offset_of t)

  pub end-row : (ts : List Token) → span_end text ts < line_count text
  end-row [] = let l = row_of-lt text 0 in omega (arith, l)
  end-row (t ∷ []) = row_of-lt text (offset_of t)
  end-row (t ∷ u ∷ us) = end-row (u ∷ us)

module _ (text : List ℕ) (inlays : List Inlay) (formed : IsWellFormed (inlay_source text inlays)) where
  abbrev v : Source
  v = inlay_source text inlays

  abbrev lines : ℕ
  lines = length (shown_lines v)

  few : length (display_lines text inlays []) ≡ lines
  few = sym (length-map (display_lines text inlays []) pieces_of)

  pub one-row : (line : ℕ) → line < lines → (span_of v line).0 ≡ (span_of v line).1
  one-row line lt = lines-in_one_row text inlays line [] (omega (arith, lt, few))

  pub rise : (k m : ℕ) → k ≤ m → m < lines → (span_of v k).0 ≤ (span_of v m).0
  rise k m le lt = starts-rise text (display_lines text inlays []) k m (lines-rise text (folded text inlays []) (rises-each text inlays [] 0 (text ++ line_feed ∷ []))) le (omega (arith, lt, few))

  module _ (place : ℕ) (within : place ≤ length (shown_text v)) where
    abbrev line : ℕ
    line = row_of (shown_text v) place

    abbrev first : ℕ
    first = (span_of v line).0

    pub there : line < lines
    there = row-lt v formed place

    is-row : first < line_count text
    is-row = start-row text (line_tokens v line)

    -- the line of the position of an offset
    pub has-row : (o : ℕ) → o ≤ length text → (row_of (shown_text v) (place_of v o Right) < lines) × ((span_of v (row_of (shown_text v) (place_of v o Right))).0 ≡ row_of text o)
    has-row o u =
        let has = span-has v (ends_open v formed) o Right u in
        let at = place-line v (ends_open v formed) o Right u in
        let lt = row-lt v formed (place_of v o Right) in
        let one = one-row (row_of (shown_text v) (place_of v o Right)) lt in
        (lt, omega (arith, one, has.0, has.1, ap (λ k. (span_of v k).0) at, ap (λ k. (span_of v k).1) at))

    pub has-row_left : (o : ℕ) → o ≤ length text → (row_of (shown_text v) (place_of v o Left) < lines) × ((span_of v (row_of (shown_text v) (place_of v o Left))).0 ≡ row_of text o)
    has-row_left o u =
        let has = span-has v (ends_open v formed) o Left u in
        let at = place-line v (ends_open v formed) o Left u in
        let lt = row-lt v formed (place_of v o Left) in
        let one = one-row (row_of (shown_text v) (place_of v o Left)) lt in
        (lt, omega (arith, one, has.0, has.1, ap (λ k. (span_of v k).0) at, ap (λ k. (span_of v k).1) at))

    pub starts-by : place_of v (line_start text first) Left ≤ place
    starts-by = go first refl is-row where
      go : (r : ℕ) → first ≡ r → r < line_count text → place_of v (line_start text r) Left ≤ place
      go zero e lt = omega arith
      go (suc r) e lt = at (cases_lt place (place_of v (line_start text (suc r)) Left)) where
        at : (place < place_of v (line_start text (suc r)) Left) ⊎ (place_of v (line_start text (suc r)) Left ≤ place) → place_of v (line_start text (suc r)) Left ≤ place
        at (inr x) = x
        at (inl x) =
            let q = line_end text r in
            let one : r + 1 ≡ suc r = omega arith in
            let next = line_end_next text r (omega (arith, lt)) in
            let start : q + 1 ≡ line_start text (suc r) = next ∙ ap (line_start text) one in
            let bounds = line_bounds text r (omega (arith, lt)) in
            let low : q < length text = let b = line_bounds text (suc r) lt in omega (arith, b, start) in
            let left = next-left text inlays q low in
            let same = ap (λ k. place_of v k Left) start in
            let m = row_of (shown_text v) (place_of v q Right) in
            let has = has-row q (omega (arith, low)) in
            let rises = rise line m (row_of-le (shown_text v) place (place_of v q Right) (omega (arith, x, left, same))) has.0 in
            absurd (omega (arith, rises, has.1, row_of_end text r (omega (arith, lt)), e))

    pub ends-behind : place ≤ place_of v (line_end text first) Right
    ends-behind = go (cases_lt (first + 1) (line_count text)) (cases_lt (place_of v (line_end text first) Right) place) where
      go : (first + 1 < line_count text) ⊎ (line_count text ≤ first + 1) → (place_of v (line_end text first) Right < place) ⊎ (place ≤ place_of v (line_end text first) Right)
          → place ≤ place_of v (line_end text first) Right
      go _ (inr x) = x
      go (inr l) (inl x) =
          let lt = is-row in
          let end : line_end text first ≡ length text = line_end_last text first (omega (arith, l, lt)) in
          let all : place_of v (length text) Right ≡ length (shown_text v) = refl in
          omega (arith, within, all, ap (λ k. place_of v k Right) end)
      go (inl l) (inl x) =
          let y = line_end text first in
          let next : y + 1 ≡ line_start text (first + 1) = line_end_next text first l in
          let bounds = line_bounds text (first + 1) l in
          let low : y < length text = omega (arith, bounds, next) in
          let left = next-left text inlays y low in
          let m = row_of (shown_text v) (place_of v (y + 1) Left) in
          let has = has-row_left (y + 1) (omega (arith, low)) in
          let rises = rise m line (row_of-le (shown_text v) (place_of v (y + 1) Left) place (omega (arith, x, left))) there in
          absurd (omega (arith, rises, has.1, row_of_start text (first + 1) l, ap (row_of text) next))
