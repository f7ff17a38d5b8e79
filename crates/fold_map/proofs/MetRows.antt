-- The rows of the lines that a replacement of a layer meets, and where they start and end after it.
use Rattle.std.proofs.Common.{◌≡◌, ℕ, zero, suc, ◌+◌, ◌-◌, ◌<◌, ◌≤◌, ◌==◌, not, Bool, false, cond, filter, List, [], ◌∷◌, ◌++◌, length, map, take, drop, Option, refl, sym, ap, ◌∙◌, inl, inr, ◌⊎◌, arith}
use Rattle.std.specs.List.{count_by, flat_map, prefix_len, suffix_len}
use Rattle.std.proofs.lemmas.Bool.{cases_lt}
use Rattle.std.proofs.lemmas.List.{take-take}
use Rattle.std.proofs.lemmas.List.Sums.{sum_by-append, sum_by-take-drop, sum_by-take-le}
use Rattle.cell_units.specs.declared.place.Bias.TheVariants.{Left, Right}
use Rattle.cell_units.specs.BufferLines.{line_end, line_start}
use Rattle.cell_units.specs.Folded.{shown}
use Rattle.cell_units.specs.Inlaid.{Byte, Hidden, InlayByte, Token, inlay_bytes, inlays_at, show_each}
use Rattle.cell_units.specs.Lawful.{IsWellFormed}
use Rattle.cell_units.specs.Layers.{Source, inlay_source, place_of, shown_text, span_of}
use Rattle.cell_units.specs.Record.{Inlay, line_count}
use Rattle.cell_units.specs.Text.{clean, is_feed, row_end, row_of}
use Rattle.cell_units.proofs.BufferLines.{feeds-cons, line_bounds, row_of_end, row_of_start}
use Rattle.cell_units.proofs.ReplacedRows.{line_count_at, row_of-le}
use Rattle.cell_units.proofs.SortedLists.{count-cons, count-map}
use Rattle.edit_patch.specs.LayerLeads.{token_after}
use Rattle.edit_patch.specs.Leads.{Leads, Reach}
use Rattle.text_rope.proofs.Layers.{row_end_is}
use Rattle.text_rope.proofs.RowStarts.{row_start_is}
use Rattle.fold_map.proofs.MapPlaces.{next-left}
use Rattle.fold_map.proofs.MapRows.{has-row, has-row_left, rise}
use Rattle.fold_map.proofs.MapTokens.{bare, take-bare}

-- ---- line feeds of the buffer among tokens

abbrev is_own-feed : Token → Bool
is_own-feed (Byte o b) = is_feed b
is_own-feed (InlayByte o id b) = false
is_own-feed (Hidden o) = false

abbrev own-feeds : List Token → ℕ
own-feeds ts = count_by is_own-feed ts

own-append : (xs ys : List Token) → own-feeds (xs ++ ys) ≡ own-feeds xs + own-feeds ys
own-append xs ys = sum_by-append (λ (u : Token). cond (is_own-feed u) 1 0) xs ys

own-cut : (k : ℕ) (ts : List Token) → own-feeds (take k ts) + own-feeds (drop k ts) ≡ own-feeds ts
own-cut k ts = sum_by-take-drop (λ (t : Token). cond (is_own-feed t) 1 0) ts k

own-rises : (j k : ℕ) (ts : List Token) → j ≤ k → own-feeds (take j ts) ≤ own-feeds (take k ts)
own-rises j k ts l = omega (arith, sum_by-take-le (λ (t : Token). cond (is_own-feed t) 1 0) (take k ts) j, ap own-feeds (take-take j k ts l))

own-moved : (shift : Option Reach) (ts : List Token) → own-feeds (map (token_after shift) ts) ≡ own-feeds ts
own-moved shift ts = count-map (token_after shift) is_own-feed one ts where
  one : (t : Token) → is_own-feed (token_after shift t) ≡ is_own-feed t
  one (Byte o b) = refl
  one (InlayByte o id b) = refl
  one (Hidden o) = refl

own-inlay : (o id : ℕ) (bs : List ℕ) → own-feeds (map (InlayByte o id) bs) ≡ 0
own-inlay o id [] = refl
own-inlay o id (b ∷ bs) = omega (arith, count-cons is_own-feed (InlayByte o id b) (map (InlayByte o id) bs), own-inlay o id bs)

own-inlays : (is : List Inlay) → own-feeds (flat_map inlay_bytes is) ≡ 0
own-inlays [] = refl
own-inlays (i ∷ is) = omega (arith, own-append (inlay_bytes i) (flat_map inlay_bytes is), own-inlay i.offset i.id (clean i.text), own-inlays is)

own-each : (inlays : List Inlay) (o : ℕ) (bs : List ℕ) → own-feeds (show_each (shown inlays []) o bs) ≡ count_by is_feed bs
own-each inlays o [] = refl
own-each inlays o (b ∷ bs) =
    let later = show_each (shown inlays []) (o + 1) bs in
    omega (
      arith,
      own-append (inlays_at inlays o ++ Byte o b ∷ []) later,
      own-append (inlays_at inlays o) (Byte o b ∷ []),
      own-inlays (filter (λ i. i.offset == o) inlays),
      count-cons is_own-feed (Byte o b) [],
      own-each inlays (o + 1) bs,
      feeds-cons b bs,
    )

-- ---- the row of a line of a layer, by what is before a place on it

module _ (text : List ℕ) (inlays : List Inlay) where
  abbrev v : Source
  v = inlay_source text inlays

  abbrev L : List Token
  L = bare text inlays

  own-left : (o : ℕ) → o ≤ length text → own-feeds (take (place_of v o Left) L) ≡ row_of text o
  own-left o u = ap own-feeds (take-bare text inlays o Left u) ∙ own-each inlays 0 (take o text)

  own-right : (o : ℕ) → o ≤ length text → own-feeds (take (place_of v o Right) L) ≡ row_of text o
  own-right o u = omega (
    arith,
    ap own-feeds (take-bare text inlays o Right u),
    own-append (show_each (shown inlays []) 0 (take o text)) (inlays_at inlays o),
    own-each inlays 0 (take o text),
    own-inlays (filter (λ i. i.offset == o) inlays),
  )

  pub own-all : own-feeds L + 1 ≡ line_count text
  own-all = omega (
    arith,
    own-append (show_each (shown inlays []) 0 (take (length text) text)) (inlays_at inlays (length text)),
    own-each inlays 0 (take (length text) text),
    own-inlays (filter (λ i. i.offset == length text) inlays),
  )

  -- an offset between whose places a place is
  record OffsetAt (place : ℕ) : Type 0 where
    offset : ℕ
    within : offset ≤ length text
    from : place_of v offset Left ≤ place
    to : place ≤ place_of v offset Right

  offset-at : (place o : ℕ) → o ≤ length text → place ≤ place_of v o Right → OffsetAt place
  offset-at place zero u l = record { offset = 0; within = u; from = omega arith; to = l }
  offset-at place (suc o) u l = go (cases_lt place (place_of v (suc o) Left)) (λ x. offset-at place o (omega (arith, u)) x) where
    go : (place < place_of v (suc o) Left) ⊎ (place_of v (suc o) Left ≤ place) → (place ≤ place_of v o Right → OffsetAt place) → OffsetAt place
    go (inr x) next = record { offset = suc o; within = u; from = x; to = l }
    go (inl x) next =
        let e : o + 1 ≡ suc o = omega arith in
        next (omega (arith, x, next-left text inlays o (omega (arith, u)), ap (λ k. place_of v k Left) e))

  module _ (formed : IsWellFormed v) (place : ℕ) (within : place ≤ length (shown_text v)) where
    pub line-row : (span_of v (row_of (shown_text v) place)).0 ≡ own-feeds (take place L)
    line-row =
        let r = offset-at place (length text) (omega arith) within in
        let o = r.offset in
        let u = r.within in
        let from = r.from in
        let to = r.to in
        let left = has-row_left text inlays formed place within o u in
        let right = has-row text inlays formed place within o u in
        let low = rise text inlays formed (row_of (shown_text v) (place_of v o Left)) (row_of (shown_text v) place) (row_of-le (shown_text v) (place_of v o Left) place from)
        (omega (arith, row_of-le (shown_text v) place (place_of v o Right) to, right.0)) in
        let high = rise text inlays formed (row_of (shown_text v) place) (row_of (shown_text v) (place_of v o Right)) (row_of-le (shown_text v) place (place_of v o Right) to) right.0 in
        omega (
          arith,
          low,
          high,
          left.1,
          right.1,
          own-left o u,
          own-right o u,
          own-rises (place_of v o Left) place L from,
          own-rises place (place_of v o Right) L to,
        )

-- ---- after a replacement

module _ (shift : Option Reach) (text text' : List ℕ) (inlays inlays' : List Inlay) (formed : IsWellFormed (inlay_source text inlays)) (formed' : IsWellFormed (inlay_source text' inlays'))
    (s : Reach) (led : Leads (map (token_after shift)) (bare text inlays) (bare text' inlays') s) (order : s.start ≤ s.end)
    (within : s.end ≤ length (shown_text (inlay_source text inlays))) (within' : s.start + s.count ≤ length (shown_text (inlay_source text' inlays'))) where
  abbrev old : Source
  old = inlay_source text inlays

  abbrev new : Source
  new = inlay_source text' inlays'

  -- the line of the first place stays in its row
  pub first-row : (span_of new (row_of (shown_text new) s.start)).0 ≡ (span_of old (row_of (shown_text old) s.start)).0
  first-row =
      line-row text' inlays' formed' s.start (omega (arith, within'))
      ∙ ap own-feeds led.before
      ∙ sym (line-row text inlays formed s.start (omega (arith, order, within)))

  -- as many rows come after that of the line of the last
  pub last-row : (span_of new (row_of (shown_text new) (s.start + s.count))).0 + line_count text ≡ (span_of old (row_of (shown_text old) s.end)).0 + line_count text'
  last-row =
      let k = s.start + s.count in
      omega (
        arith,
        line-row text' inlays' formed' k within',
        line-row text inlays formed s.end within,
        own-all text inlays,
        own-all text' inlays',
        own-cut s.end (bare text inlays),
        own-cut k (bare text' inlays'),
        ap own-feeds led.behind,
        own-moved shift (drop s.end (bare text inlays)),
      )

-- ---- where rows start and end in texts that are alike before or after

pub start-stays : (text text' : List ℕ) (row : ℕ) → row < line_count text → line_start text row ≤ length text' → take (line_start text row) text' ≡ take (line_start text row) text → line_start text' row ≡ line_start text row
start-stays text text' row lt within same =
    let o = line_start text row in
    let bounds = line_bounds text row lt in
    let there : row_of text' o ≡ row = ap (count_by is_feed) same ∙ row_of_start text row lt in
    ap (line_start text') (sym there)
    ∙ sym (row_start_is text' o within)
    ∙ ap (λ (l : List ℕ). o - suffix_len (λ b. not (is_feed b)) l) same
    ∙ row_start_is text o (omega (arith, bounds.0, bounds.1))
    ∙ ap (line_start text) (row_of_start text row lt)

pub end-stays : (text text' : List ℕ) (row row' last : ℕ) → row < line_count text → last ≤ length text' → drop last text' ≡ drop (line_end text row) text → row' + line_count text ≡ row + line_count text' → line_end text' row' ≡ last
end-stays text text' row row' last lt within same counts =
    let o = line_end text row in
    let bounds = line_bounds text row lt in
    let here : row_end text o ≡ o = row_end_is text o bounds.1 ∙ ap (line_end text) (row_of_end text row lt) in
    let there : row_of text' last ≡ row' = omega (arith, counts, line_count_at text o, line_count_at text' last, row_of_end text row lt, ap (count_by is_feed) same) in
    let free : row_end text' last ≡ last = omega (arith, here, ap (prefix_len (λ b. not (is_feed b))) same) in
    ap (line_end text') (sym there) ∙ sym (row_end_is text' last within) ∙ free
