-- The rows of lines with blocks between them are their zones, one after the other.
use Rattle.std.proofs.Common.{◌≡◌, ℕ, zero, suc, ◌+◌, ◌<◌, ◌≤◌, cond, List, [], ◌∷◌, ◌++◌, flat_map, length, map, take, drop, get_or, refl, sym, ap, ◌∙◌, inl, inr, arith, append-nil, append_assoc}
use Rattle.std.specs.List.{enumerate_from, range_with_len}
use Rattle.std.proofs.lemmas.Bool.{cases_lt, ne_eqb}
use Rattle.std.proofs.lemmas.List.{get_or-append-add, get_or_append_left, get_or_at, get_or_default, length-append, length-map, take-append-drop, take_at}
use Rattle.std.proofs.lemmas.List.Concat.{flat_map-append}
use Rattle.cell_units.specs.Rows.{HaveRows, all_rows, line_rows, rows_before}
use Rattle.plain_rows.specs.Rows.{Row, head_and_more, more_row}
use Rattle.block_map.specs.Between.{Between, block_row, rows_above, rows_below, rows_between, rows_by_line}
use Rattle.block_map.specs.Stops.{Stop, texts_at}
use Rattle.block_map.specs.inside.Zones.{IsBetween, text_row, text_rows, zone}
use Rattle.block_map.proofs.FoundTexts.{texts-cons}
use Rattle.block_map.proofs.LineStarts.{rows_before-next, rows_before-rises}

pub range-append : (a m n : ℕ) → range_with_len a (m + n) ≡ range_with_len a m ++ range_with_len (a + m) n
range-append a zero n =
    let e : 0 + n ≡ n = omega arith in
    let f : a ≡ a + 0 = omega arith in
    ap (range_with_len a) e ∙ ap (λ (k : ℕ). range_with_len k n) f
range-append a (suc m) n =
    let e : suc m + n ≡ suc (m + n) = omega arith in
    let f : a + 1 + m ≡ a + suc m = omega arith in
    ap (range_with_len a) e
    ∙ ap (λ (l : List ℕ). a ∷ l) (range-append (a + 1) m n ∙ ap (λ (k : ℕ). range_with_len (a + 1) m ++ range_with_len k n) f)

-- ---- one line

module _ (A B : ℕ → List Row) (T : ℕ → Row) where
  -- a zone: what is above, the row of text, and what is below
  abbrev pub Z : ℕ → List Row
  Z t = A t ++ (T t ∷ B (t + 1))

  -- nothing is between the rows of a line
  abbrev pub IsBare : ℕ → ℕ → Type 0
  IsBare p n = (t : ℕ) → p < t → t < p + n → (A t ≡ []) × (B t ≡ [])

  pub line-zones : (rows : List Row) (p : ℕ) → 0 < length rows → ((k : ℕ) → k < length rows → T (p + k) ≡ get_or rows k (T 0)) → IsBare p (length rows)
      → flat_map Z (range_with_len p (length rows)) ≡ A p ++ (rows ++ B (p + length rows))
  line-zones [] p some at bare = absurd (omega (arith, some))
  line-zones (r ∷ []) p some at bare =
      let e : p + 0 ≡ p = omega arith in
      let here : T p ≡ r = ap T (sym e) ∙ at 0 (omega arith) in
      append-nil (Z p) ∙ ap (λ (x : Row). A p ++ (x ∷ B (p + 1))) here
  line-zones (r ∷ s ∷ rows) p some at bare =
      let e : p + 0 ≡ p = omega arith in
      let here : T p ≡ r = ap T (sym e) ∙ at 0 (omega arith) in
      let none = bare (p + 1) (omega arith) (omega arith) in
      let end : p + 1 + length (s ∷ rows) ≡ p + length (r ∷ s ∷ rows) = omega arith in
      let next = line-zones (s ∷ rows) (p + 1) (omega arith)
      (λ k lt. let f : p + 1 + k ≡ p + suc k = omega arith in ap T f ∙ at (suc k) (omega arith))
      (λ t lt gt. bare t (omega arith) (omega arith)) in
      ap (λ (l : List Row). Z p ++ l) (next ∙ ap (λ (l : List Row). l ++ ((s ∷ rows) ++ B (p + 1 + length (s ∷ rows)))) none.0 ∙ ap (λ (k : ℕ). (s ∷ rows) ++ B k) end)
      ∙ append_assoc (A p) (T p ∷ B (p + 1)) ((s ∷ rows) ++ B (p + length (r ∷ s ∷ rows)))
      ∙ ap (λ (l : List Row). A p ++ (T p ∷ (l ++ ((s ∷ rows) ++ B (p + length (r ∷ s ∷ rows)))))) none.1
      ∙ ap (λ (x : Row). A p ++ (x ∷ ((s ∷ rows) ++ B (p + length (r ∷ s ∷ rows))))) here

-- ---- all lines

pub length-head : (x : List (List ℕ)) → length (head_and_more x) ≡ length x
length-head [] = refl
length-head (t ∷ ts) = ap suc (length-map ts more_row)

pub length-texts : (lines : List (List (List ℕ))) → length (text_rows lines) ≡ length (all_rows lines)
length-texts [] = refl
length-texts (x ∷ xs) = omega (arith, length-append (head_and_more x) (text_rows xs), length-append x (all_rows xs), length-head x, length-texts xs)

-- nothing is at a place where no stop is
pub no-texts : (t : ℕ) (stops : List Stop) → ((k : ℕ) (d : Stop) → k < length stops → (get_or stops k d).row ≡ t → ⊥) → texts_at t stops ≡ []
no-texts t [] none = refl
no-texts t (s ∷ ss) none =
    texts-cons t s ss
    ∙ ap (λ b. cond b s.lines [] ++ texts_at t ss) (ne_eqb s.row t (λ e. none 0 s (omega arith) e))
    ∙ no-texts t ss (λ k d lt. none (suc k) d (omega (arith, lt)))

module _ (b : Between) where
  abbrev Above : ℕ → List Row
  Above t = map block_row (texts_at t b.above)

  abbrev Below : ℕ → List Row
  Below t = map block_row (texts_at t b.below)

  -- the rows of a line with those above and below it
  abbrev pub with_its_blocks : ℕ × List Row → List Row
  with_its_blocks n = rows_above b n.0 ++ (n.1 ++ rows_below b n.0)

  pub all-bare : IsBetween b → (l : ℕ) → l < length b.lines → IsBare Above Below (text_row b) (rows_before b.lines l) (length (line_rows b.lines l))
  all-bare is l lt t from to =
      let next = rows_before-next b.lines l lt in (
        ap (map block_row) (no-texts t b.above (λ k d kt e.
            let stands = is.above k d kt in
            apart (stands.0) (omega (arith, stands.2, e)))),
        ap (map block_row) (no-texts t b.below (λ k d kt e.
            let stands = is.below k d kt in
            apart (stands.0 + 1) (omega (arith, stands.2, e)))),
      ) where
        apart : (m : ℕ) → t ≡ rows_before b.lines m → ⊥
        apart m e = elim (cases_lt l m) [
          | inl gt ↦ omega (arith, e, to, rows_before-next b.lines l lt, rows_before-rises b.lines (l + 1) m (omega arith))
          | inr le ↦ omega (arith, e, from, rows_before-rises b.lines m l le)
        ]

  zones-from : ((l : ℕ) → l < length b.lines → IsBare Above Below (text_row b) (rows_before b.lines l) (length (line_rows b.lines l))) → HaveRows b.lines
      → (front mid back : List (List (List ℕ))) → b.lines ≡ front ++ (mid ++ back)
      → flat_map (λ rows. rows) (map with_its_blocks (enumerate_from (length front) (map head_and_more mid))) ≡ flat_map (zone b) (range_with_len (length (all_rows front)) (length (all_rows mid)))
  zones-from bare have front [] back are = refl
  zones-from bare have front (x ∷ mid) back are =
      let l = length front in
      let p = length (all_rows front) in
      let h = head_and_more x in
      let regroup : b.lines ≡ (front ++ x ∷ []) ++ (mid ++ back) = are ∙ sym (append_assoc front (x ∷ []) (mid ++ back)) in
      let count : length b.lines ≡ l + length (x ∷ (mid ++ back)) = ap length are ∙ length-append front (x ∷ (mid ++ back)) in
      let within : l < length b.lines = omega (arith, count) in
      let here : line_rows b.lines l ≡ x = ap (λ ls. get_or ls l []) are ∙ get_or_at front x (mid ++ back) [] l refl in
      let start : rows_before b.lines l ≡ p = ap (λ ls. length (all_rows (take l ls))) are ∙ ap (λ ls. length (all_rows ls)) (take_at front (x ∷ (mid ++ back)) l refl) in
      let next : rows_before b.lines (l + 1) ≡ p + length x = rows_before-next b.lines l within ∙ omega (arith, start, ap length here) in
      let some : 0 < length x = omega (arith, have l [] within, ap length here) in
      let size = length-head x in
      let more_front : length (all_rows (front ++ x ∷ [])) ≡ p + length x =
      ap length (flat_map-append (λ rows. rows) front (x ∷ [])) ∙ length-append (all_rows front) (x ++ []) ∙ ap (λ l. p + length l) (append-nil x) in
      let texts : text_rows b.lines ≡ text_rows front ++ (h ++ text_rows (mid ++ back)) =
      ap text_rows are ∙ flat_map-append head_and_more front (x ∷ (mid ++ back)) in
      let each : (k : ℕ) → k < length h → text_row b (p + k) ≡ get_or h k (text_row b 0) = λ k lt.
      let e : p + k ≡ length (text_rows front) + k = omega (arith, length-texts front) in
      ap (λ (ts : List Row). get_or ts (p + k) (block_row [])) texts
      ∙ ap (λ (i : ℕ). get_or (text_rows front ++ (h ++ text_rows (mid ++ back))) i (block_row [])) e
      ∙ get_or-append-add (text_rows front) (h ++ text_rows (mid ++ back)) k (block_row [])
      ∙ get_or_append_left h (text_rows (mid ++ back)) (block_row []) k lt
      ∙ get_or_default h k (block_row []) (text_row b 0) lt in
      let clear : IsBare Above Below (text_row b) p (length h) = λ t from to. bare l within t (omega (arith, from, start)) (omega (arith, to, start, size, ap length here)) in
      let line : flat_map (zone b) (range_with_len p (length h)) ≡ Above p ++ (h ++ Below (p + length h)) =
      line-zones Above Below (text_row b) h p (omega (arith, some, size)) each clear in
      let own : with_its_blocks (l, h) ≡ flat_map (zone b) (range_with_len p (length x)) =
      ap (λ (k : ℕ). map block_row (texts_at k b.above) ++ (h ++ rows_below b l)) start
      ∙ ap (λ (k : ℕ). Above p ++ (h ++ map block_row (texts_at k b.below))) next
      ∙ ap (λ (k : ℕ). Above p ++ (h ++ Below (p + k))) (sym size)
      ∙ sym line
      ∙ ap (λ (k : ℕ). flat_map (zone b) (range_with_len p k)) size in
      let rest : flat_map (λ rows. rows) (map with_its_blocks (enumerate_from (l + 1) (map head_and_more mid))) ≡ flat_map (zone b) (range_with_len (p + length x) (length (all_rows mid))) =
      ap (λ (k : ℕ). flat_map (λ rows. rows) (map with_its_blocks (enumerate_from k (map head_and_more mid)))) (sym (length-append front (x ∷ [])))
      ∙ zones-from bare have (front ++ x ∷ []) mid back regroup
      ∙ ap (λ (k : ℕ). flat_map (zone b) (range_with_len k (length (all_rows mid)))) more_front in
      ap (λ (r : List Row). with_its_blocks (l, h) ++ r) rest
      ∙ ap (λ (r : List Row). r ++ flat_map (zone b) (range_with_len (p + length x) (length (all_rows mid)))) own
      ∙ sym (flat_map-append (zone b) (range_with_len p (length x)) (range_with_len (p + length x) (length (all_rows mid))))
      ∙ ap (flat_map (zone b)) (sym (range-append p (length x) (length (all_rows mid))))
      ∙ ap (λ (k : ℕ). flat_map (zone b) (range_with_len p k)) (sym (length-append x (all_rows mid)))

  -- all rows
  pub rows-zones : IsBetween b → rows_between b ≡ flat_map (zone b) (range_with_len 0 (length (all_rows b.lines)))
  rows-zones is =
      zones-from (all-bare is) is.rows [] b.lines [] (sym (append-nil b.lines))

  -- those of the lines before one
  pub rows-zones-before : IsBetween b → (l : ℕ) → l ≤ length b.lines → flat_map (λ rows. rows) (take l (rows_by_line b)) ≡ flat_map (zone b) (range_with_len 0 (rows_before b.lines l))
  rows-zones-before is l le =
      ap (flat_map (λ rows. rows)) (fronts b.lines 0 l)
      ∙ zones-from (all-bare is) is.rows [] (take l b.lines) (drop l b.lines) (sym (take-append-drop l b.lines)) where
        fronts : (ls : List (List (List ℕ))) (n l : ℕ) → take l (map with_its_blocks (enumerate_from n (map head_and_more ls))) ≡ map with_its_blocks (enumerate_from n (map head_and_more (take l ls)))
        fronts [] n zero = refl
        fronts [] n (suc l) = refl
        fronts (x ∷ xs) n zero = refl
        fronts (x ∷ xs) n (suc l) = ap (λ (r : List (List Row)). with_its_blocks (n, head_and_more x) ∷ r) (fronts xs (n + 1) l)
