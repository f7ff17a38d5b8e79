-- The splices of inlays that a replacement of the text has moved.
use Rattle.std.proofs.Common.{◌≡◌, ℕ, zero, suc, ◌+◌, ◌-◌, ◌<◌, ◌≤◌, ◌==◌, ◌&&◌, ◌||◌, not, nat_le, nat_lt, Bool, true, false, cond, List, [], ◌∷◌, ◌++◌, length, map, take, drop, count_by, refl, sym, ap, ◌∙◌, subst, arith}
use Rattle.std.specs.List.{position_or_len}
use Rattle.std.proofs.lemmas.Bool.{lt-ltb}
use Rattle.std.proofs.lemmas.Bool.Decides.{nat_tests}
use Rattle.std.proofs.lemmas.List.{append_assoc, drop-take, length-append, length-drop, length-map, length-take, map-append, take-take}
use Rattle.std.proofs.Math.Seq.{drop-append_seam, take-append_seam}
use Rattle.cell_units.specs.declared.place.Shift.{Shift}
use Rattle.cell_units.specs.Lawful.{AreInlays}
use Rattle.cell_units.specs.Operation.{move_inlay, moved_inlays}
use Rattle.cell_units.specs.Record.{Inlay, bias_rank, in_order, inlay_le}
use Rattle.cell_units.specs.Sorting.{insert_by, sort_by}
use Rattle.cell_units.specs.Text.{is_feed, row_of}
use Rattle.cell_units.proofs.CutLists.{Every}
use Rattle.cell_units.proofs.Entries.{sorted_entries}
use Rattle.cell_units.proofs.EntryOrders.{inlay_total, inlay_trans}
use Rattle.cell_units.proofs.SortedLists.{IsSorted}
use Rattle.mark_tree.proofs.Moved.{move-before, move-behind, move-within}
use Rattle.mark_tree.proofs.Sorting as sorting
use Rattle.splice_tree.specs.Splices.{with_first_gap}
use Rattle.edit_patch.specs.Leads.{Leads, reach_of, unmoved}
use Rattle.inlay_map.specs.declared.amount.Amount.{Amount}
use Rattle.inlay_map.specs.Splices.{base_at, splice_of, splices_from}
use Rattle.inlay_map.proofs.ShownFeeds.{count-between}
use Rattle.inlay_map.proofs.SpliceLists.{in-runs, splices-drop, splices-take}
use Rattle.inlay_map.proofs.Spread.{IsSpread}

-- ---- the inlays themselves

-- an inlay after what was replaced
abbrev pub shifted_inlay : Shift → Inlay → Inlay
shifted_inlay s i = record { offset = i.offset + s.count - (s.end - s.start); bias = i.bias; id = i.id; text = i.text }

same-lt : (a b n k : ℕ) → k ≤ a → k ≤ b → nat_lt (a + n - k) (b + n - k) ≡ nat_lt a b
same-lt a b n k p q = grind (arith, nat_tests)

same-eq : (a b n k : ℕ) → k ≤ a → k ≤ b → (a + n - k == b + n - k) ≡ (a == b)
same-eq a b n k p q = grind (arith, nat_tests)

before-le : (i j : Inlay) → i.offset < j.offset → inlay_le i j ≡ true
before-le i j lt = ap (λ (t : Bool). t || ((i.offset == j.offset) && in_order (bias_rank i.bias) (bias_rank j.bias) (nat_le i.id j.id))) (lt-ltb i.offset j.offset lt)

module _ (s : Shift) (order : s.start ≤ s.end) where
  map-before : (is : List Inlay) → sorting.Every (λ i. i.offset < s.start) is → map (move_inlay s.start s.end s.count) is ≡ is
  map-before [] a = refl
  map-before (i ∷ is) a =
      let same = move-before i.offset i.bias s.start s.end s.count a.0 in
      λ k. record { offset = same k; bias = i.bias; id = i.id; text = i.text } ∷ map-before is a.1 k

  map-behind : (is : List Inlay) → sorting.Every (λ i. s.end + 1 ≤ i.offset) is → map (move_inlay s.start s.end s.count) is ≡ map (shifted_inlay s) is
  map-behind [] a = refl
  map-behind (i ∷ is) a =
      let same = move-behind i.offset i.bias s.start s.end s.count order (omega (arith, a.0)) in
      λ k. record { offset = same k; bias = i.bias; id = i.id; text = i.text } ∷ map-behind is a.1 k

  between : (is : List Inlay) → sorting.Every (λ i. s.start ≤ i.offset) is → sorting.Every (λ i. i.offset < s.end + 1) is
      → sorting.Every (λ i. (s.start ≤ i.offset) × (i.offset < s.start + s.count + 1)) (map (move_inlay s.start s.end s.count) is)
  between [] a b = tt
  between (i ∷ is) a b =
      let r = move-within i.offset i.bias s.start s.end s.count a.0 (omega (arith, b.0)) in
      ((r.0, omega (arith, r.1)), between is a.1 b.1)

  shifted-above : (is : List Inlay) → sorting.Every (λ i. s.end + 1 ≤ i.offset) is → sorting.Every (λ i. s.start + s.count + 1 ≤ i.offset) (map (shifted_inlay s) is)
  shifted-above [] a = tt
  shifted-above (i ∷ is) a = (omega (arith, a.0, order), shifted-above is a.1)

  shift-le : (i j : Inlay) → s.end + 1 ≤ i.offset → s.end + 1 ≤ j.offset → inlay_le (shifted_inlay s i) (shifted_inlay s j) ≡ inlay_le i j
  shift-le i j a b =
      let k = s.end - s.start in
      let lt = same-lt i.offset j.offset s.count k (omega (arith, a)) (omega (arith, b)) in
      let eq = same-eq i.offset j.offset s.count k (omega (arith, a)) (omega (arith, b)) in
      λ t. lt t || (eq t && in_order (bias_rank i.bias) (bias_rank j.bias) (nat_le i.id j.id))

  shifted-sorted : (is : List Inlay) → sorting.Every (λ i. s.end + 1 ≤ i.offset) is → sorting.IsSorted inlay_le is → sorting.IsSorted inlay_le (map (shifted_inlay s) is)
  shifted-sorted [] a b = tt
  shifted-sorted (i ∷ is) a b = (above is a.1 b.0, shifted-sorted is a.1 b.1) where
    above : (js : List Inlay) → sorting.Every (λ j. s.end + 1 ≤ j.offset) js → sorting.Every (λ j. inlay_le i j ≡ true) js → sorting.Every (λ j. inlay_le (shifted_inlay s i) j ≡ true) (map (shifted_inlay s) js)
    above [] c d = tt
    above (j ∷ js) c d = (shift-le i j a.0 c.0 ∙ d.0, above js c.1 d.1)

-- all of the one list are before all of the other
cross : (m : ℕ) (xs ys : List Inlay) → sorting.Every (λ x. x.offset < m) xs → sorting.Every (λ y. m ≤ y.offset) ys → sorting.Every (λ x. sorting.Every (λ y. inlay_le x y ≡ true) ys) xs
cross m [] ys a b = tt
cross m (x ∷ xs) ys a b = (above ys b, cross m xs ys a.1 b) where
  above : (zs : List Inlay) → sorting.Every (λ y. m ≤ y.offset) zs → sorting.Every (λ y. inlay_le x y ≡ true) zs
  above [] c = tt
  above (z ∷ zs) c = (before-le x z (omega (arith, a.0, c.0)), above zs c.1)

-- what is before stays, what is met is sorted by itself, what is after is shifted
moved-parts : (s : Shift) (xs mid ys : List Inlay) → s.start ≤ s.end → sorting.Every (λ i. i.offset < s.start) xs → sorting.Every (λ i. s.start ≤ i.offset) mid → sorting.Every (λ i. i.offset < s.end + 1) mid
    → sorting.Every (λ i. s.end + 1 ≤ i.offset) ys → sorting.IsSorted inlay_le (xs ++ (mid ++ ys))
    → moved_inlays s.start s.end s.count (xs ++ (mid ++ ys)) ≡ xs ++ (sort_by inlay_le (map (move_inlay s.start s.end s.count) mid) ++ map (shifted_inlay s) ys)
moved-parts s xs mid ys order a b c d up =
    let move = move_inlay s.start s.end s.count in
    let moved = map move mid in
    let behind = map (shifted_inlay s) ys in
    let within = between s order mid b c in
    let above = shifted-above s order ys d in
    let rest : sorting.Every (λ i. s.start ≤ i.offset) (moved ++ behind) =
    sorting.every-append (λ i. s.start ≤ i.offset) moved behind
    (sorting.every-weaker (λ i. (s.start ≤ i.offset) × (i.offset < s.start + s.count + 1)) (λ i. s.start ≤ i.offset) (λ i e. e.0) moved within)
    (sorting.every-weaker (λ i. s.start + s.count + 1 ≤ i.offset) (λ i. s.start ≤ i.offset) (λ i e. omega (arith, e)) behind above) in
    ap (sort_by inlay_le)
    (map-append move xs (mid ++ ys)
    ∙ (λ k. map-before s order xs a k ++ (map-append move mid ys ∙ ap (λ l. moved ++ l) (map-behind s order ys d)) k))
    ∙ sorting.sort-append inlay_le xs (moved ++ behind) (cross s.start xs (moved ++ behind) a rest)
    ∙ ap (λ l. l ++ sort_by inlay_le (moved ++ behind)) (sorting.sort-sorted inlay_le xs (sorting.sorted-left inlay_le xs (mid ++ ys) up))
    ∙ ap (λ l. xs ++ l)
    (sorting.sort-append inlay_le moved behind
    (cross (s.start + s.count + 1) moved behind (sorting.every-weaker (λ i. (s.start ≤ i.offset) × (i.offset < s.start + s.count + 1)) (λ i. i.offset < s.start + s.count + 1) (λ i e. e.1) moved within) above)
    ∙ ap (λ l. sort_by inlay_le moved ++ l) (sorting.sort-sorted inlay_le behind (shifted-sorted s order ys d (sorting.sorted-right inlay_le mid ys (sorting.sorted-right inlay_le xs (mid ++ ys) up)))))

-- What is before the run stays, and what is after it is shifted.
pub record Apart (s : Shift) (is : List Inlay) (i j : ℕ) : Type 0 where
  pub front : take i (moved_inlays s.start s.end s.count is) ≡ take i is
  pub behind : drop j (moved_inlays s.start s.end s.count is) ≡ map (shifted_inlay s) (drop j is)

length-inserted : (i : Inlay) (is : List Inlay) → length (insert_by inlay_le i is) ≡ suc (length is)
length-inserted i [] = refl
length-inserted i (j ∷ js) = go (inlay_le i j) (length-inserted i js) where
  go : (b : Bool) → length (insert_by inlay_le i js) ≡ suc (length js) → length (cond b (i ∷ j ∷ js) (j ∷ insert_by inlay_le i js)) ≡ suc (suc (length js))
  go true r = refl
  go false r = ap suc r

length-sorted : (is : List Inlay) → length (sort_by inlay_le is) ≡ length is
length-sorted [] = refl
length-sorted (i ∷ is) = length-inserted i (sort_by inlay_le is) ∙ ap suc (length-sorted is)

sorted-here : (is : List Inlay) → IsSorted inlay_le is → sorting.IsSorted inlay_le is
sorted-here [] s = tt
sorted-here (i ∷ is) s = (here is s.0, sorted-here is s.1) where
  here : (js : List Inlay) → Every (λ j. inlay_le i j ≡ true) js → sorting.Every (λ j. inlay_le i j ≡ true) js
  here [] e = tt
  here (j ∷ js) e = (e.0, here js e.1)

every-here : (P : Inlay → Type 0) (is : List Inlay) → Every P is → sorting.Every P is
every-here P [] e = tt
every-here P (i ∷ is) e = (e.0, every-here P is e.1)

take-every : (P : Inlay → Type 0) (n : ℕ) (is : List Inlay) → sorting.Every P is → sorting.Every P (take n is)
take-every P zero is e = tt
take-every P (suc n) [] e = tt
take-every P (suc n) (i ∷ is) e = (e.0, take-every P n is e.1)

drop-every : (P : Inlay → Type 0) (n : ℕ) (is : List Inlay) → sorting.Every P is → sorting.Every P (drop n is)
drop-every P zero is e = e
drop-every P (suc n) [] e = tt
drop-every P (suc n) (i ∷ is) e = drop-every P n is e.1

pub apart : (s : Shift) (text : List ℕ) (is : List Inlay) (i j : ℕ) → AreInlays text is → s.start ≤ s.end → i ≤ j → j ≤ length is
    → Every (λ k. k.offset < s.start) (take i is) → Every (λ k. s.start ≤ k.offset) (drop i is)
    → Every (λ k. k.offset < s.end + 1) (take j is) → Every (λ k. s.end + 1 ≤ k.offset) (drop j is) → Apart s is i j
apart s text is i j are order le within a b c d =
    let mid = take (j - i) (drop i is) in
    let whole : i + (j - i) ≡ j = omega (arith, le) in
    let parts : is ≡ take i is ++ (mid ++ drop j is) = sym (ap (λ k. take i is ++ (mid ++ drop k is)) (sym whole) ∙ in-runs text is i (j - i)) in
    let below : mid ≡ drop i (take j is) = sym (drop-take i (j - i) is) ∙ ap (λ k. drop i (take k is)) whole in
    let up = sorted-here is (sorted_entries inlay_le inlay_total inlay_trans (λ (x : Inlay). x.id) is are.in_order) in
    let run = sort_by inlay_le (map (move_inlay s.start s.end s.count) mid) in
    let rest = map (shifted_inlay s) (drop j is) in
    let moved : moved_inlays s.start s.end s.count is ≡ take i is ++ (run ++ rest) =
    ap (moved_inlays s.start s.end s.count) parts
    ∙ moved-parts s (take i is) mid (drop j is) order
    (every-here (λ k. k.offset < s.start) (take i is) a)
    (take-every (λ k. s.start ≤ k.offset) (j - i) (drop i is) (every-here (λ k. s.start ≤ k.offset) (drop i is) b))
    (subst (sorting.Every (λ k. k.offset < s.end + 1)) (sym below) (drop-every (λ k. k.offset < s.end + 1) i (take j is) (every-here (λ k. k.offset < s.end + 1) (take j is) c)))
    (every-here (λ k. s.end + 1 ≤ k.offset) (drop j is) d)
    (subst (sorting.IsSorted inlay_le) parts up) in
    let long : length (take i is) ≡ i = omega (arith, length-take i is, le, within) in
    let size : length run ≡ j - i =
    length-sorted (map (move_inlay s.start s.end s.count) mid) ∙ length-map mid (move_inlay s.start s.end s.count) ∙ omega (arith, length-take (j - i) (drop i is), length-drop i is, le, within) in
    let both : length (take i is ++ run) ≡ j = omega (arith, length-append (take i is) run, long, size, le) in
    record {
      front = (λ k. take (sym long k) (moved k)) ∙ take-append_seam (take i is) (run ++ rest);
      behind = (λ k. drop (sym both k) ((moved ∙ sym (append_assoc (take i is) run rest)) k)) ∙ drop-append_seam (take i is ++ run) rest;
    }

-- ---- their splices

module _ (s : Shift) (old new : List ℕ) (leads : Leads unmoved old new (reach_of s)) where
  -- the rows before the replacement
  rows-before : (o : ℕ) → o ≤ s.start → row_of new o ≡ row_of old o
  rows-before o le = ap (count_by is_feed) (sym (take-take o s.start new le) ∙ ap (take o) leads.before ∙ take-take o s.start old le)

  abbrev shift : ℕ → ℕ
  shift o = o + s.count - (s.end - s.start)

  -- the rows after it
  rows-behind : (o p : ℕ) → s.start ≤ s.end → s.end ≤ o → o ≤ p → row_of new (shift p) - row_of new (shift o) ≡ row_of old p - row_of old o
  rows-behind o p order low le =
      let from : (q : ℕ) → s.end ≤ q → row_of new (shift q) ≡ count_by is_feed (take (q - s.end) (drop s.end old)) + row_of new (s.start + s.count) =
      λ q lt.
      let size : shift q - (s.start + s.count) ≡ q - s.end = omega (arith, order, lt) in
      sym (count-between new (s.start + s.count) (shift q) (omega (arith, order, lt)))
      ∙ (λ k. count_by is_feed (take (size k) (leads.behind k)) + row_of new (s.start + s.count)) in
      omega (arith, from o low, from p (omega (arith, low, le)), count-between old s.end o low, count-between old s.end p (omega (arith, low, le)))

  front-same : (base : ℕ) (is : List Inlay) → base ≤ s.start → Every (λ i. i.offset < s.start) is → splices_from new base is ≡ splices_from old base is
  front-same base [] le e = refl
  front-same base (i ∷ is) le e =
      let rows : row_of new i.offset - row_of new base ≡ row_of old i.offset - row_of old base = omega (arith, rows-before i.offset (omega (arith, e.0)), rows-before base le) in
      λ k. record { gap = record { bytes = i.offset - base; feeds = rows k }; old = (splice_of old base i).old; new = (splice_of old base i).new; load = record {} } ∷ front-same i.offset is (omega (arith, e.0)) e.1 k

  behind-same : (base : ℕ) (is : List Inlay) → s.start ≤ s.end → s.end ≤ base → IsSpread old base is → splices_from new (shift base) (map (λ i. record { offset = shift i.offset; bias = i.bias; id = i.id; text = i.text }) is) ≡ splices_from old base is
  behind-same base [] order le spread = refl
  behind-same base (i ∷ is) order le spread =
      let bytes : shift i.offset - shift base ≡ i.offset - base = omega (arith, order, le, spread.0) in
      let rows = rows-behind base i.offset order le spread.0 in
      λ k. record { gap = record { bytes = bytes k; feeds = rows k }; old = (splice_of old base i).old; new = (splice_of old base i).new; load = record {} } ∷ behind-same i.offset is order (omega (arith, le, spread.0)) spread.3 k

  -- but for the first gap
  behind-regapped : (gap : Amount) (base after : ℕ) (is : List Inlay) → s.start ≤ s.end → Every (λ i. s.end + 1 ≤ i.offset) is → IsSpread old base is
      → with_first_gap gap (splices_from new after (map (λ i. record { offset = shift i.offset; bias = i.bias; id = i.id; text = i.text }) is)) ≡ with_first_gap gap (splices_from old base is)
  behind-regapped gap base after [] order e spread = refl
  behind-regapped gap base after (i ∷ is) order e spread =
      ap (λ l. record { gap = gap; old = (splice_of old base i).old; new = (splice_of old base i).new; load = record {} } ∷ l) (behind-same i.offset is order (omega (arith, e.0)) spread.3)

-- The splices before the run are those of the new text, and those after it too, but for the gap before the first.
pub moved-front : (s : Shift) (old new : List ℕ) (is moved : List Inlay) (i : ℕ) → Leads unmoved old new (reach_of s)
    → take i moved ≡ take i is → Every (λ k. k.offset < s.start) (take i is) → take i (splices_from old 0 is) ≡ take i (splices_from new 0 moved)
moved-front s old new is moved i leads front low =
    splices-take old 0 is i
    ∙ sym (front-same s old new leads 0 (take i is) (omega arith) low)
    ∙ ap (splices_from new 0) (sym front)
    ∙ sym (splices-take new 0 moved i)

pub moved-behind : (s : Shift) (old new : List ℕ) (is moved : List Inlay) (j : ℕ) → Leads unmoved old new (reach_of s) → s.start ≤ s.end
    → drop j moved ≡ map (λ k. record { offset = k.offset + s.count - (s.end - s.start); bias = k.bias; id = k.id; text = k.text }) (drop j is)
    → Every (λ k. s.end + 1 ≤ k.offset) (drop j is) → IsSpread old (base_at 0 is j) (drop j is) → (gap : Amount)
    → with_first_gap gap (drop j (splices_from old 0 is)) ≡ with_first_gap gap (drop j (splices_from new 0 moved))
moved-behind s old new is moved j leads order behind high spread gap =
    ap (with_first_gap gap) (splices-drop old 0 is j)
    ∙ sym (behind-regapped s old new leads gap (base_at 0 is j) (base_at 0 moved j) (drop j is) order high spread)
    ∙ ap (λ l. with_first_gap gap (splices_from new (base_at 0 moved j) l)) (sym behind)
    ∙ ap (with_first_gap gap) (sym (splices-drop new 0 moved j))

-- ---- where the run begins and ends

pub below-found : (o : ℕ) (is : List Inlay) → Every (λ k. k.offset < o) (take (position_or_len (λ k. nat_le o k.offset) is) is)
below-found o [] = tt
below-found o (i ∷ is) = go (nat_le o i.offset) refl (below-found o is) where
  less : (m n : ℕ) → nat_le m n ≡ false → n < m
  less m n e = grind (arith, nat_tests)

  go : (b : Bool) → nat_le o i.offset ≡ b → Every (λ k. k.offset < o) (take (position_or_len (λ k. nat_le o k.offset) is) is)
      → Every (λ k. k.offset < o) (take (cond (not b) (1 + position_or_len (λ k. nat_le o k.offset) is) 0) (i ∷ is))
  go true e r = tt
  go false e r =
      let one : suc (position_or_len (λ k. nat_le o k.offset) is) ≡ 1 + position_or_len (λ k. nat_le o k.offset) is = omega arith in
      subst (λ n. Every (λ k. k.offset < o) (take n (i ∷ is))) one (less o i.offset e, r)

pub above-found : (o : ℕ) (text : List ℕ) (base : ℕ) (is : List Inlay) → IsSpread text base is → Every (λ k. o ≤ k.offset) (drop (position_or_len (λ k. nat_le o k.offset) is) is)
above-found o text base [] s = tt
above-found o text base (i ∷ is) s = go (nat_le o i.offset) refl (above-found o text i.offset is s.3) where
  least : (m n : ℕ) → nat_le m n ≡ true → m ≤ n
  least m n e = grind (arith, nat_tests)

  further : (b : ℕ) (js : List Inlay) → IsSpread text b js → o ≤ b → Every (λ k. o ≤ k.offset) js
  further b [] s le = tt
  further b (j ∷ js) s le = (omega (arith, s.0, le), further j.offset js s.3 (omega (arith, s.0, le)))

  go : (b : Bool) → nat_le o i.offset ≡ b → Every (λ k. o ≤ k.offset) (drop (position_or_len (λ k. nat_le o k.offset) is) is)
      → Every (λ k. o ≤ k.offset) (drop (cond (not b) (1 + position_or_len (λ k. nat_le o k.offset) is) 0) (i ∷ is))
  go true e r = (least o i.offset e, further i.offset is s.3 (least o i.offset e))
  go false e r =
      let one : suc (position_or_len (λ k. nat_le o k.offset) is) ≡ 1 + position_or_len (λ k. nat_le o k.offset) is = omega arith in
      subst (λ n. Every (λ k. o ≤ k.offset) (drop n (i ∷ is))) one r
