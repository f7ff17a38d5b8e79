-- What is at a row of lines with blocks between them, by its zone.
use Rattle.std.proofs.Common.{◌≡◌, ◌≢◌, ℕ, zero, suc, ◌+◌, ◌*◌, ◌^◌, ◌<◌, ◌≤◌, Bool, cond, eqb, List, [], ◌∷◌, ◌++◌, flat_map, length, map, min, take, drop, get_or, refl, sym, ap, subst, ◌∙◌, inl, inr, arith, Option, Some, None, option_map}
use Rattle.std.specs.List.{range_with_len, slice_get}
use Rattle.std.proofs.Math.Nat.{mul-le-mul_left}
use Rattle.std.proofs.lemmas.Bool.{cases_order, le-leb, lt-ltb, ne_eqb}
use Rattle.std.proofs.lemmas.List.{length-drop, length-map, length-take, take_all, take_min}
use Rattle.std.proofs.lemmas.List.Concat.{get_or-flat_map}
use Rattle.std.proofs.lemmas.List.FromFn.{get_or-range_with_len, length-range_with_len}
use Rattle.std.proofs.lemmas.Option.{get_or_from_slice_get, slice_get-get_or, slice_get-map, slice_get_within}
use Rattle.cell_units.specs.declared.place.Bias.{Bias}
use Rattle.cell_units.specs.declared.place.Bias.TheVariants.{Left, Right}
use Rattle.cell_units.specs.Rows.{IsLineAt, all_rows, line_rows, rows_before}
use Rattle.plain_rows.specs.Rows.{Row, head_and_more, head_kind, more_kind, more_row}
use Rattle.block_map.specs.Between.{Between, IsTextAt, block_row, place_of_row, rows_above, rows_between, rows_by_line, rows_to}
use Rattle.block_map.specs.Stops.{all_stop_rows, rows_upto, texts_at}
use Rattle.block_map.specs.inside.Zones.{IsBetween, IsInZone, text_of_kind, text_row, text_rows, texts_of_kinds, zone, zone_start}
use Rattle.block_map.proofs.FoundTexts.{get-append_left, get-append_right}
use Rattle.block_map.proofs.LineStarts.{rows_before-next, rows_before-rises}
use Rattle.block_map.proofs.Windows.{window-cons}
use Rattle.block_map.proofs.ZonesOfLines.{all-bare, length-head, length-texts, no-texts, rows-zones, rows-zones-before}
use Rattle.block_map.proofs.ZoneStarts.{length-zone, upto-all, upto-le, upto-right_next, upto-through, zone-next, zone-sizes, zones-rise}

range-take : (a n t : ℕ) → t ≤ n → take t (range_with_len a n) ≡ range_with_len a t
range-take a n zero le = refl
range-take a zero (suc t) le = absurd (omega (arith, le))
range-take a (suc n) (suc t) le = ap (λ (l : List ℕ). a ∷ l) (range-take (a + 1) n t (omega arith))

-- one more round of a loop, each of which takes x steps at most
pub steps-more : (x k n s₀ s₁ s₂ : ℕ) → k + 1 ≤ n → s₁ ≤ s₀ + x * k → s₂ ≤ s₁ + x → s₂ ≤ s₀ + x * n
steps-more x k n s₀ s₁ s₂ le p q = omega (arith, mul-le-mul_left x le)

-- ---- parts of a zone

module _ (b : Between) (t : ℕ) where
  pub above-part : (r : ℕ) (text : List ℕ) → slice_get (texts_at t b.above) r ≡ Some text → slice_get (zone b t) r ≡ Some (block_row text)
  above-part r text is =
      let lt : r < length (map block_row (texts_at t b.above)) = omega (arith, slice_get_within (texts_at t b.above) r text is, length-map (texts_at t b.above) block_row) in
      get-append_left (map block_row (texts_at t b.above)) (text_row b t ∷ map block_row (texts_at (t + 1) b.below)) r lt
      ∙ slice_get-map block_row (texts_at t b.above) r
      ∙ ap (option_map block_row) is

  pub later-part : (j : ℕ) → slice_get (zone b t) (length (texts_at t b.above) + j) ≡ slice_get (text_row b t ∷ map block_row (texts_at (t + 1) b.below)) j
  later-part j =
      ap (λ (n : ℕ). slice_get (zone b t) (n + j)) (sym (length-map (texts_at t b.above) block_row))
      ∙ get-append_right (map block_row (texts_at t b.above)) (text_row b t ∷ map block_row (texts_at (t + 1) b.below)) j

  pub text-part : (r : ℕ) → r ≡ length (texts_at t b.above) → slice_get (zone b t) r ≡ Some (text_row b t)
  text-part r e = let f : r ≡ length (texts_at t b.above) + 0 = omega arith in ap (slice_get (zone b t)) f ∙ later-part 0

  pub below-part : (r j : ℕ) (text : List ℕ) → r ≡ length (texts_at t b.above) + suc j → slice_get (texts_at (t + 1) b.below) j ≡ Some text → slice_get (zone b t) r ≡ Some (block_row text)
  below-part r j text e is =
      ap (slice_get (zone b t)) e
      ∙ later-part (suc j)
      ∙ slice_get-map block_row (texts_at (t + 1) b.below) j
      ∙ ap (option_map block_row) is

-- ---- rows of text

abbrev the_row : ℕ → List ℕ → Row
the_row kind text = record { kind = kind; text = text }

head-at : (xs : List (List ℕ)) (k : ℕ) (text : List ℕ) (d : Row) → slice_get xs k ≡ Some text → get_or (head_and_more xs) k d ≡ text_of_kind k text
head-at [] k text d is = absurd (cc)
head-at (x ∷ xs) zero text d is = let e : x ≡ text = cc in ap (text_of_kind 0) e
head-at (x ∷ xs) (suc k) text d is =
    let kind : cond (eqb (suc k) 0) head_kind more_kind ≡ more_kind = ap (λ (b : Bool). cond b head_kind more_kind) (ne_eqb (suc k) 0 (λ e. absurd (omega (arith, e)))) in
    get_or_from_slice_get (map more_row xs) k (more_row text) d (slice_get-map more_row xs k ∙ ap (option_map more_row) is)
    ∙ ap (λ (n : ℕ). the_row n text) (sym kind)

pub text-row-is : (b : Between) (t line k : ℕ) (text : List ℕ) → IsLineAt b.lines t (Some (line, k)) → slice_get (line_rows b.lines line) k ≡ Some text → text_row b t ≡ text_of_kind k text
text-row-is b t line k text at is =
    let start : rows_before b.lines line ≡ length (text_rows (take line b.lines)) = sym (length-texts (take line b.lines)) in
    let place : t ≡ length (text_rows (take line b.lines)) + k = omega (arith, at.2, start) in
    let head = head-at (line_rows b.lines line) k text (block_row []) is in
    ap (λ (n : ℕ). get_or (text_rows b.lines) n (block_row [])) place
    ∙ get_or-flat_map head_and_more b.lines line k [] (block_row []) at.0 (omega (arith, at.1, length-head (line_rows b.lines line)))
    ∙ head

-- the same by the lines that a snapshot's rows show
pub text-row-of : (b : Between) (lines : List (List (List ℕ))) (t line k : ℕ) (text : List ℕ) → b.lines ≡ lines → IsLineAt lines t (Some (line, k)) → slice_get (line_rows lines line) k ≡ Some text → text_row b t ≡ text_of_kind k text
text-row-of b lines t line k text e =
    subst (λ (ls : List (List (List ℕ))). IsLineAt ls t (Some (line, k)) → slice_get (line_rows ls line) k ≡ Some text → text_row b t ≡ text_of_kind k text) e (text-row-is b t line k text)

-- one text row more
pub kinds-push : (k : ℕ) (texts : List (List ℕ)) (text : List ℕ) → texts_of_kinds k (texts ++ text ∷ []) ≡ texts_of_kinds k texts ++ text_of_kind (k + length texts) text ∷ []
kinds-push k [] text = let e : k ≡ k + 0 = omega arith in ap (λ (n : ℕ). text_of_kind n text ∷ []) e
kinds-push k (t ∷ ts) text =
    let e : k + 1 + length ts ≡ k + suc (length ts) = omega arith in
    ap (λ (rows : List Row). text_of_kind k t ∷ rows) (kinds-push (k + 1) ts text ∙ ap (λ (n : ℕ). texts_of_kinds (k + 1) ts ++ text_of_kind n text ∷ []) e)

-- ---- all rows

module _ (b : Between) (is : IsBetween b) where
  abbrev pub count : ℕ
  count = length (all_rows b.lines)

  -- no line begins past all rows
  pub begin-within : (l : ℕ) → l ≤ length b.lines → rows_before b.lines l ≤ count
  begin-within l le =
      omega (arith, rows_before-rises b.lines l (length b.lines) le, ap (λ ls. length (all_rows ls)) (take_all (length b.lines) b.lines (omega arith)))

  -- a line's rows end within those of all
  line-end : (l : ℕ) → l < length b.lines → rows_before b.lines (l + 1) ≤ count
  line-end l lt = begin-within (l + 1) (omega arith)

  line-some : (l : ℕ) → l < length b.lines → rows_before b.lines l < rows_before b.lines (l + 1)
  line-some l lt = omega (arith, rows_before-next b.lines l lt, is.rows l [] lt)

  pub none-first : texts_at 0 b.below ≡ []
  none-first = no-texts 0 b.below (λ k d lt e. let stands = is.below k d lt in absurd (omega (arith, e, stands.2, line-some stands.0 stands.1)))

  pub all-above : rows_upto Left count b.above ≡ all_stop_rows b.above
  all-above = upto-all Left count b.above (λ k d lt.
      let stands = is.above k d lt in
      lt-ltb (get_or b.above k d).row count (omega (arith, stands.2, line-some stands.0 stands.1, line-end stands.0 stands.1)))

  pub all-below : rows_upto Right count b.below ≡ all_stop_rows b.below
  all-below = upto-all Right count b.below (λ k d lt.
      let stands = is.below k d lt in
      le-leb (get_or b.below k d).row count (omega (arith, stands.2, line-end stands.0 stands.1)))

  pub all-zones : zone_start b count ≡ length (rows_between b)
  all-zones = sym (zone-sizes b none-first count) ∙ ap length (sym (rows-zones b is))

  pub all-counted : count + all_stop_rows b.above + all_stop_rows b.below ≡ length (rows_between b)
  all-counted = omega (arith, all-zones, all-above, all-below)

  pub first-zone : zone_start b 0 ≡ 0
  first-zone = sym (zone-sizes b none-first 0)

  -- the sums of a zone are u32
  pub sums-fit : (bias other : Bias) (t : ℕ) → t ≤ count → t + (rows_upto bias t b.above + rows_upto other t b.below) < 2 ^ 32
  sums-fit bias other t le = omega (arith, is.fits, upto-le bias t b.above, upto-le other t b.below)

  pub zone-at : (t r : ℕ) → t < count → r < length (zone b t) → slice_get (rows_between b) (zone_start b t + r) ≡ slice_get (zone b t) r
  zone-at t r lt few =
      let d = block_row [] in
      let zones = range_with_len 0 count in
      let here : get_or zones t 0 ≡ t = get_or-range_with_len 0 count t 0 lt ∙ omega arith in
      let front : take t zones ≡ range_with_len 0 t = range-take 0 count t (omega arith) in
      let start : zone_start b t ≡ length (flat_map (zone b) (take t zones)) = sym (zone-sizes b none-first t) ∙ ap (λ (l : List ℕ). length (flat_map (zone b) l)) (sym front) in
      let within : zone_start b t + r < length (rows_between b) = omega (arith, zone-next b t, zones-rise b (t + 1) count (omega arith), all-zones) in
      let found : get_or (rows_between b) (zone_start b t + r) d ≡ get_or (zone b t) r d =
      ap (λ (l : List Row). get_or l (zone_start b t + r) d) (rows-zones b is)
      ∙ ap (λ (n : ℕ). get_or (flat_map (zone b) zones) (n + r) d) start
      ∙ get_or-flat_map (zone b) zones t r 0 d (omega (arith, length-range_with_len 0 count)) (omega (arith, ap (λ (n : ℕ). length (zone b n)) here))
      ∙ ap (λ (n : ℕ). get_or (zone b n) r d) here in
      slice_get-get_or (rows_between b) (zone_start b t + r) d within ∙ ap Some found ∙ sym (slice_get-get_or (zone b t) r d few)

  pub in-zone : (row t at : ℕ) → IsInZone b row t at → at < length (zone b t)
  in-zone row t at z = omega (arith, z.start, z.end, zone-next b t)

  pub row-in-zone : (row t at : ℕ) → IsInZone b row t at → slice_get (rows_between b) row ≡ slice_get (zone b t) at
  row-in-zone row t at z = ap (slice_get (rows_between b)) (sym z.start) ∙ zone-at t at z.there (in-zone row t at z)

  -- ---- where a row of text is

  -- a line begins, with what is above it, where the zone of its first row does
  pub line-zone : (l : ℕ) → l ≤ length b.lines → zone_start b (rows_before b.lines l) ≡ rows_to l (rows_by_line b)
  line-zone l le = sym (ap length (rows-zones-before b is l le) ∙ zone-sizes b none-first (rows_before b.lines l))

  no-rows : (xs : List (List ℕ)) → map block_row xs ≡ [] → length xs ≡ 0
  no-rows xs e = sym (length-map xs block_row) ∙ ap length e

  -- no stop is between the rows of a line
  pub same-upto : (l k : ℕ) → l < length b.lines → k < length (line_rows b.lines l) →
      (rows_upto Right (rows_before b.lines l + k) b.above ≡ rows_upto Right (rows_before b.lines l) b.above)
      × (rows_upto Right (rows_before b.lines l + k) b.below ≡ rows_upto Right (rows_before b.lines l) b.below)
  same-upto l zero lt few =
      let e : rows_before b.lines l + 0 ≡ rows_before b.lines l = omega arith in
      (ap (λ (n : ℕ). rows_upto Right n b.above) e, ap (λ (n : ℕ). rows_upto Right n b.below) e)
  same-upto l (suc k) lt few =
      let p = rows_before b.lines l in
      let e : p + suc k ≡ p + k + 1 = omega arith in
      let before = same-upto l k lt (omega arith) in
      let bare = all-bare b is l lt (p + k + 1) (omega arith) (omega arith) in (
        ap (λ (n : ℕ). rows_upto Right n b.above) e ∙ upto-right_next (p + k) b.above ∙ omega (arith, no-rows (texts_at (p + k + 1) b.above) bare.0, before.0),
        ap (λ (n : ℕ). rows_upto Right n b.below) e ∙ upto-right_next (p + k) b.below ∙ omega (arith, no-rows (texts_at (p + k + 1) b.below) bare.1, before.1),
      )

  pub place-is : (l k : ℕ) → l < length b.lines → k < length (line_rows b.lines l) →
      let t = rows_before b.lines l + k in place_of_row b l k ≡ t + (rows_upto Right t b.above + rows_upto Right t b.below)
  place-is l k lt few =
      let p = rows_before b.lines l in
      let start : zone_start b p ≡ rows_to l (rows_by_line b) = line-zone l (omega arith) in
      let above : length (rows_above b l) ≡ length (texts_at p b.above) = length-map (texts_at p b.above) block_row in
      let same = same-upto l k lt few in
      omega (arith, start, above, same.0, same.1, upto-through p b.above)

  pub within-count : (l k : ℕ) → l < length b.lines → k < length (line_rows b.lines l) → rows_before b.lines l + k < count
  within-count l k lt few = omega (arith, few, rows_before-next b.lines l lt, line-end l lt)

  -- a row of text is in its zone after what is above it
  pub text-zone : (l k : ℕ) → l < length b.lines → k < length (line_rows b.lines l) →
      let t = rows_before b.lines l + k in IsInZone b (place_of_row b l k) t (length (texts_at t b.above))
  text-zone l k lt few =
      let t = rows_before b.lines l + k in
      let place = place-is l k lt few in
      record {
        there = within-count l k lt few;
        start = omega (arith, place, upto-through t b.above);
        end = omega (arith, place, upto-through t b.above, zone-next b t, length-zone b t);
      }

  -- a row lies in one zone
  pub one-zone : (row s t i j : ℕ) → IsInZone b row s i → IsInZone b row t j → (s ≡ t) × (i ≡ j)
  one-zone row s t i j y z = elim (cases_order s t) [
    | inl e ↦ (e, omega (arith, y.start, z.start, ap (zone_start b) e))
    | inr (inl lt) ↦ absurd (omega (arith, y.end, z.start, zones-rise b (s + 1) t (omega arith)))
    | inr (inr gt) ↦ absurd (omega (arith, z.end, y.start, zones-rise b (t + 1) s (omega arith)))
  ]

  -- no row of text is past the last row
  pub none-past : (row : ℕ) → length (rows_between b) ≤ row → IsTextAt b row None
  none-past row le l k lt few e =
      let z = text-zone l k lt few in
      omega (arith, z.end, e, le, all-zones, zones-rise b (rows_before b.lines l + k + 1) count (omega (arith, z.there)))

  -- nor elsewhere in a zone
  pub none-elsewhere : (row t at : ℕ) → IsInZone b row t at → at ≢ length (texts_at t b.above) → IsTextAt b row None
  none-elsewhere row t at z ne l k lt few e =
      let u = rows_before b.lines l + k in
      let y : IsInZone b row u (length (texts_at u b.above)) = subst (λ (n : ℕ). IsInZone b n u (length (texts_at u b.above))) e (text-zone l k lt few) in
      let one = one-zone row t u at (length (texts_at u b.above)) z y in
      ne (one.1 ∙ ap (λ (n : ℕ). length (texts_at n b.above)) (sym one.0))

  pub text-there : (row t at : ℕ) (o : Option (ℕ × ℕ)) → IsInZone b row t at → at ≡ length (texts_at t b.above) → IsLineAt b.lines t o → IsTextAt b row o
  text-there row t at None z e far = absurd (omega (arith, far, z.there))
  text-there row t at (Some (l, k)) z e found =
      let place = place-is l k found.0 found.1 in
      let same : rows_before b.lines l + k ≡ t = found.2 in
      (found.0, found.1, place ∙ ap (λ (n : ℕ). n + (rows_upto Right n b.above + rows_upto Right n b.below)) same ∙ omega (arith, upto-through t b.above, z.start, e))

  -- the rows of text of one line from one on
  pub line-window : (l k n : ℕ) → l < length b.lines → k + n ≤ length (line_rows b.lines l) →
      texts_of_kinds k (take n (drop k (line_rows b.lines l))) ≡ take n (drop (place_of_row b l k) (rows_between b))
  line-window l k zero lt few = refl
  line-window l k (suc n) lt few =
      let texts = line_rows b.lines l in
      let text = get_or texts k [] in
      let here : slice_get texts k ≡ Some text = slice_get-get_or texts k [] (omega arith) in
      let t = rows_before b.lines l + k in
      let row = place_of_row b l k in
      let z = text-zone l k lt (omega arith) in
      let found : slice_get (rows_between b) row ≡ Some (text_of_kind k text) =
      row-in-zone row t (length (texts_at t b.above)) z
      ∙ text-part b t (length (texts_at t b.above)) refl
      ∙ ap Some (text-row-is b t l k text (lt, omega arith, refl) here) in
      let next : place_of_row b l (k + 1) ≡ row + 1 = omega arith in
      ap (λ (ls : List (List ℕ)). texts_of_kinds k ls) (window-cons texts k n text here)
      ∙ ap (λ (rs : List Row). text_of_kind k text ∷ rs) (line-window l (k + 1) n lt (omega arith) ∙ ap (λ (m : ℕ). take n (drop m (rows_between b))) next)
      ∙ sym (window-cons (rows_between b) row n (text_of_kind k text) found)

  -- by the lines that a snapshot's rows show
  pub text-there-of : (lines : List (List (List ℕ))) (row t at : ℕ) (o : Option (ℕ × ℕ)) → b.lines ≡ lines → IsInZone b row t at → at ≡ length (texts_at t b.above) → IsLineAt lines t o → IsTextAt b row o
  text-there-of lines row t at o e z here = subst (λ (ls : List (List (List ℕ))). IsLineAt ls t o → IsTextAt b row o) e (text-there row t at o z here)

  -- the rows of text of a line that are read from one on
  pub line-pushed : (lines : List (List (List ℕ))) (row t line k m : ℕ) (texts : List (List ℕ)) → b.lines ≡ lines → IsInZone b row t (length (texts_at t b.above)) → IsLineAt lines t (Some (line, k))
      → texts ≡ take m (drop k (line_rows lines line)) → texts_of_kinds k texts ≡ take (length texts) (drop row (rows_between b))
  line-pushed lines row t line k m texts e z at are =
      subst (λ (ls : List (List (List ℕ))). IsLineAt ls t (Some (line, k)) → texts ≡ take m (drop k (line_rows ls line)) → texts_of_kinds k texts ≡ take (length texts) (drop row (rows_between b))) e own at are where
        own : IsLineAt b.lines t (Some (line, k)) → texts ≡ take m (drop k (line_rows b.lines line)) → texts_of_kinds k texts ≡ take (length texts) (drop row (rows_between b))
        own at are =
            let rest = drop k (line_rows b.lines line) in
            let n = length texts in
            let size : n ≡ min m (length rest) = ap length are ∙ length-take m rest in
            let few : k + n ≤ length (line_rows b.lines line) = omega (arith, size, length-drop k (line_rows b.lines line), at.1) in
            let all : take n rest ≡ texts = ap (λ (j : ℕ). take j rest) size ∙ take_min m rest ∙ sym are in
            let place : place_of_row b line k ≡ row = place-is line k at.0 at.1 ∙ ap (λ (j : ℕ). j + (rows_upto Right j b.above + rows_upto Right j b.below)) at.2 ∙ omega (arith, upto-through t b.above, z.start) in
            sym (ap (texts_of_kinds k) all) ∙ line-window line k n at.0 few ∙ ap (λ (j : ℕ). take n (drop j (rows_between b))) place

  -- there is a zone where there is a row
  pub some-zone : (row : ℕ) → row < length (rows_between b) → 0 < count
  some-zone row lt = elim (cases_order count 0) [
    | inl none ↦ absurd (omega (arith, lt, all-zones, first-zone, ap (zone_start b) none))
    | inr (inl less) ↦ absurd (omega (arith, less))
    | inr (inr more) ↦ more
  ]
