-- What a replacement makes of things in order.
use Rattle.std.proofs.Common.{◌≡◌, ℕ, zero, suc, ◌+◌, ◌-◌, ◌*◌, ◌<◌, ◌≤◌, ◌^◌, ◌==◌, ◌&&◌, nat_lt, nat_le, Bool, true, false, cond, List, [], ◌∷◌, ◌++◌, length, take, drop, map, count_by, refl, sym, ap, subst, ◌∙◌, arith, drop-drop, take-add, inl, inr}
use Rattle.std.specs.List.{All}
use Rattle.std.proofs.Math.Nat.{mul-le-mul_left}
use Rattle.std.proofs.lemmas.List.{take-append-drop, length-take, length-drop}
use Rattle.std.proofs.lemmas.List.Elements.{All-head, All-tail, All-take}
use Rattle.std.proofs.lemmas.Bool.Decides.{nat_tests}
use Rattle.cell_units.specs.declared.place.Shift.{Shift}
use Rattle.cell_units.specs.declared.place.Bias.{Bias}
use Rattle.cell_units.specs.Anchor.{move, is_left}
use Rattle.cell_units.specs.Sorting.{sort_by}
use Rattle.mark_tree.specs.Bounds.{splicing}
use Rattle.mark_tree.specs.declared.entry.Placed.{Placed}
use Rattle.mark_tree.specs.Entries.{end_at, IsCodable, shifted, spliced}
use Rattle.mark_tree.specs.Order.{placed_le, has_placed_id, meets_offset, move_placed, moved_placed, IsOrdered}
use Rattle.mark_tree.proofs.Sorting.{Every, IsSorted, every-append, every-left, every-right, every-weaker, every-sort, count-cons, count-sort, length-sort, sort-append, sort-sorted, sort-again, sorted-left, sorted-right, sorted-sort}
use Rattle.mark_tree.proofs.Order.{le-total, le-trans, offset-le, sorted-placed, in_order-below, in_order-same, in_order-cases}
use Rattle.mark_tree.proofs.Changing.{every-from_all, all-from_every, codable-sorted}

-- where the rule of anchors puts an offset
pub move-before : (p : ℕ) (bias : Bias) (a b n : ℕ) → p < a → move p bias a b n ≡ p
move-before p bias a b n lt = go (nat_lt p a) (grind (arith, nat_tests)) where
  go : (c : Bool) → c ≡ true → cond c p (cond ((p == a) && is_left bias) p (cond (nat_le p b) (a + n) (p + n - (b - a)))) ≡ p
  go true e = refl
  go false e = absurd (cc)

pub move-behind : (p : ℕ) (bias : Bias) (a b n : ℕ) → a ≤ b → b < p → move p bias a b n ≡ p + n - (b - a)
move-behind p bias a b n order lt = go (nat_lt p a) (p == a) (is_left bias) (nat_le p b) (grind (arith, nat_tests)) (grind (arith, nat_tests)) (grind (arith, nat_tests)) where
  go : (c d e f : Bool) → c ≡ false → d ≡ false → f ≡ false → cond c p (cond (d && e) p (cond f (a + n) (p + n - (b - a)))) ≡ p + n - (b - a)
  go true d e f x y z = absurd (cc)
  go false true e f x y z = absurd (cc)
  go false false e true x y z = absurd (cc)
  go false false e false x y z = refl

pub move-within : (p : ℕ) (bias : Bias) (a b n : ℕ) → a ≤ p → p ≤ b → (a ≤ move p bias a b n) × (move p bias a b n ≤ a + n)
move-within p bias a b n low high = go (nat_lt p a) ((p == a) && is_left bias) (nat_le p b) (grind (arith, nat_tests)) (left refl) (grind (arith, nat_tests)) where
  left : {c : Bool} → ((p == a) && is_left bias) ≡ c → c ≡ true → p ≡ a
  left {c} is e = same (p == a) (is_left bias) refl (is ∙ e) where
    same : (d f : Bool) → (p == a) ≡ d → (d && f) ≡ true → p ≡ a
    same true f q r = grind (arith, nat_tests)
    same false f q r = absurd (cc)

  go : (c d f : Bool) → c ≡ false → (d ≡ true → p ≡ a) → f ≡ true → (a ≤ cond c p (cond d p (cond f (a + n) (p + n - (b - a))))) × (cond c p (cond d p (cond f (a + n) (p + n - (b - a)))) ≤ a + n)
  go true d f x y z = absurd (cc)
  go false true f x y z = (low, omega (arith, y refl))
  go false false true x y z = (omega arith, omega arith)
  go false false false x y z = absurd (cc)

pub count-append : {X : Type 0} (p : X → Bool) (xs ys : List X) → count_by p (xs ++ ys) ≡ count_by p xs + count_by p ys
count-append p [] ys = omega arith
count-append p (x ∷ xs) ys = omega (arith, count-cons p x (xs ++ ys), count-cons p x xs, count-append p xs ys)

pub count-all : {X : Type 0} (p : X → Bool) (xs : List X) → Every (λ x. p x ≡ true) xs → count_by p xs ≡ length xs
count-all p [] a = refl
count-all p (x ∷ xs) a = go (p x) a.0 (count-cons p x xs) (count-all p xs a.1) where
  go : (b : Bool) → b ≡ true → count_by p (x ∷ xs) ≡ cond b 1 0 + count_by p xs → count_by p xs ≡ length xs → count_by p (x ∷ xs) ≡ length (x ∷ xs)
  go true e c r = omega (arith, c, r)
  go false e c r = absurd (cc)

pub map-append : {X Y : Type 0} (f : X → Y) (xs ys : List X) → map f (xs ++ ys) ≡ map f xs ++ map f ys
map-append f [] ys = refl
map-append f (x ∷ xs) ys = ap (λ l. f x ∷ l) (map-append f xs ys)

pub length-map : {X Y : Type 0} (f : X → Y) (xs : List X) → length (map f xs) ≡ length xs
length-map f [] = refl
length-map f (x ∷ xs) = omega (arith, length-map f xs)

-- a list in three parts
pub three-parts : {X : Type 0} (xs : List X) (i j : ℕ) → i ≤ j → xs ≡ take i xs ++ (take (j - i) (drop i xs) ++ drop j xs)
three-parts xs i j le =
    let k : i + (j - i) ≡ j = omega arith in
    sym (take-append-drop i xs)
    ∙ ap (λ l. take i xs ++ l) (sym (take-append-drop (j - i) (drop i xs)))
    ∙ ap (λ l. take i xs ++ (take (j - i) (drop i xs) ++ l)) (drop-drop (j - i) i xs ∙ ap (λ n. drop n xs) k)

pub part-below : {X : Type 0} (xs : List X) (i j : ℕ) → i ≤ j → take j xs ≡ take i xs ++ take (j - i) (drop i xs)
part-below xs i j le = let k : j ≡ i + (j - i) = omega arith in ap (λ n. take n xs) k ∙ take-add i (j - i) xs

module _ {P : Type 0} where
  pub below-above : (a b : ℕ) (ps : List (Placed P)) (i j : ℕ) → a ≤ b → i ≤ length ps → All (λ p. p.offset < a) (take i ps) → All (λ p. b ≤ p.offset) (drop j ps) → i ≤ j
  below-above a b ps zero j order in' low high = omega arith
  below-above a b [] (suc i) j order in' low high = absurd (omega arith)
  below-above a b (p ∷ ps) (suc i) zero order in' low high =
      absurd (omega (arith, All-head (λ q. q.offset < a) p (take i ps) low, All-head (λ q. b ≤ q.offset) p ps high))
  below-above a b (p ∷ ps) (suc i) (suc j) order in' low high =
      omega (arith, below-above a b ps i j order (omega arith) (All-tail (λ q. q.offset < a) p (take i ps) low) high)

  pub places-in_order : (a b : ℕ) (ps : List (Placed P)) (i j : ℕ) → a ≤ b → i ≤ length ps → All (λ p. p.offset < a) (take i ps) → All (λ p. b + 1 ≤ p.offset) (drop j ps) → i ≤ j
  places-in_order a b ps i j order in' low high = below-above a (b + 1) ps i j (omega arith) in' low high

  -- all of the one list are before all of the other
  pub cross : (m : ℕ) (xs ys : List (Placed P)) → Every (λ x. x.offset < m) xs → Every (λ y. m ≤ y.offset) ys → Every (λ x. Every (λ y. placed_le x y ≡ true) ys) xs
  cross m [] ys a b = tt
  cross m (x ∷ xs) ys a b = (above ys b, cross m xs ys a.1 b) where
    above : (zs : List (Placed P)) → Every (λ y. m ≤ y.offset) zs → Every (λ y. placed_le x y ≡ true) zs
    above [] c = tt
    above (z ∷ zs) c = (offset-le x z (omega (arith, a.0, c.0)), above zs c.1)

  map-before : (s : Shift) (ps : List (Placed P)) → Every (λ p. p.offset < s.start) ps → map (move_placed s) ps ≡ ps
  map-before s [] a = refl
  map-before s (p ∷ ps) a =
      let same = move-before p.offset p.bias s.start s.end s.count a.0 in
      λ i. record { offset = same i; bias = p.bias; length = p.length; id = p.id; load = p.load } ∷ map-before s ps a.1 i

  map-behind : (s : Shift) (ps : List (Placed P)) → s.start ≤ s.end → Every (λ p. s.end + 1 ≤ p.offset) ps → map (move_placed s) ps ≡ map (shifted s) ps
  map-behind s [] order a = refl
  map-behind s (p ∷ ps) order a =
      let same = move-behind p.offset p.bias s.start s.end s.count order (omega (arith, a.0)) in
      λ i. record { offset = same i; bias = p.bias; length = p.length; id = p.id; load = p.load } ∷ map-behind s ps order a.1 i

  moved-between : (s : Shift) (ps : List (Placed P)) → Every (λ p. s.start ≤ p.offset) ps → Every (λ p. p.offset < s.end + 1) ps → Every (λ p. (s.start ≤ p.offset) × (p.offset < s.start + s.count + 1)) (map (move_placed s) ps)
  moved-between s [] a b = tt
  moved-between s (p ∷ ps) a b =
      let in' = move-within p.offset p.bias s.start s.end s.count a.0 (omega (arith, b.0)) in
      ((in'.0, omega (arith, in'.1)), moved-between s ps a.1 b.1)

  pub shifted-above : (s : Shift) (ps : List (Placed P)) → s.start ≤ s.end → Every (λ p. s.end + 1 ≤ p.offset) ps → Every (λ p. s.start + s.count + 1 ≤ p.offset) (map (shifted s) ps)
  shifted-above s [] order a = tt
  shifted-above s (p ∷ ps) order a = (omega (arith, a.0), shifted-above s ps order a.1)

  shift-le : (s : Shift) (p q : Placed P) → s.start ≤ s.end → s.end + 1 ≤ p.offset → s.end + 1 ≤ q.offset → placed_le p q ≡ true → placed_le (shifted s p) (shifted s q) ≡ true
  shift-le s p q order a b is = elim (in_order-cases p.offset q.offset _ is) [
    | inl lt ↦ in_order-below (shifted s p).offset (shifted s q).offset _ (omega arith)
    | inr e ↦ in_order-same (shifted s p).offset (shifted s q).offset _ (omega (arith, e.0)) e.1
  ]

  pub shifted-sorted : (s : Shift) (ps : List (Placed P)) → s.start ≤ s.end → Every (λ p. s.end + 1 ≤ p.offset) ps → IsSorted placed_le ps → IsSorted placed_le (map (shifted s) ps)
  shifted-sorted s [] order a b = tt
  shifted-sorted s (p ∷ ps) order a b = (above ps a.1 b.0, shifted-sorted s ps order a.1 b.1) where
    above : (qs : List (Placed P)) → Every (λ q. s.end + 1 ≤ q.offset) qs → Every (λ q. placed_le p q ≡ true) qs → Every (λ q. placed_le (shifted s p) q ≡ true) (map (shifted s) qs)
    above [] c d = tt
    above (q ∷ qs) c d = (shift-le s p q order a.0 c.0 d.0, above qs c.1 d.1)

  -- what is before stays, what is met is sorted by itself, what is after is shifted
  moved-parts : (s : Shift) (xs mid ys : List (Placed P)) → s.start ≤ s.end → Every (λ p. p.offset < s.start) xs → Every (λ p. s.start ≤ p.offset) mid → Every (λ p. p.offset < s.end + 1) mid → Every (λ p. s.end + 1 ≤ p.offset) ys
      → IsSorted placed_le (xs ++ (mid ++ ys)) → moved_placed s (xs ++ (mid ++ ys)) ≡ xs ++ (sort_by placed_le (map (move_placed s) mid) ++ map (shifted s) ys)
  moved-parts s xs mid ys order a b c d up =
      let moved = map (move_placed s) mid in
      let behind = map (shifted s) ys in
      let between = moved-between s mid b c in
      let above = shifted-above s ys order d in
      let rest : Every (λ p. s.start ≤ p.offset) (moved ++ behind) =
      every-append (λ p. s.start ≤ p.offset) moved behind (every-weaker (λ p. (s.start ≤ p.offset) × (p.offset < s.start + s.count + 1)) (λ p. s.start ≤ p.offset) (λ p e. e.0) moved between)
      (every-weaker (λ p. s.start + s.count + 1 ≤ p.offset) (λ p. s.start ≤ p.offset) (λ p e. omega arith) behind above) in
      ap (sort_by placed_le)
      (map-append (move_placed s) xs (mid ++ ys)
      ∙ ap (λ l. l ++ map (move_placed s) (mid ++ ys)) (map-before s xs a)
      ∙ ap (λ l. xs ++ l) (map-append (move_placed s) mid ys ∙ ap (λ l. moved ++ l) (map-behind s ys order d)))
      ∙ sort-append placed_le xs (moved ++ behind) (cross s.start xs (moved ++ behind) a rest)
      ∙ ap (λ l. l ++ sort_by placed_le (moved ++ behind)) (sort-sorted placed_le xs (sorted-left placed_le xs (mid ++ ys) up))
      ∙ ap (λ l. xs ++ l)
      (sort-append placed_le moved behind (cross (s.start + s.count + 1) moved behind (every-weaker (λ p. (s.start ≤ p.offset) × (p.offset < s.start + s.count + 1)) (λ p. p.offset < s.start + s.count + 1) (λ p e. e.1) moved between) above)
      ∙ ap (λ l. sort_by placed_le moved ++ l) (sort-sorted placed_le behind (shifted-sorted s ys order d (sorted-right placed_le mid ys (sorted-right placed_le xs (mid ++ ys) up)))))

  -- the same in the words of the call
  pub moved-spliced : (s : Shift) (ps : List (Placed P)) (i j : ℕ) → s.start ≤ s.end → IsOrdered ps → i ≤ j → All (λ p. p.offset < s.start) (take i ps) → All (λ p. s.start ≤ p.offset) (drop i ps) → All (λ p. p.offset < s.end + 1) (take j ps) → All (λ p. s.end + 1 ≤ p.offset) (drop j ps)
      → spliced i j (sort_by placed_le (map (move_placed s) (take (j - i) (drop i ps)))) s ps ≡ moved_placed s ps
  moved-spliced s ps i j order o le a b c d =
      let mid = take (j - i) (drop i ps) in
      let parts = three-parts ps i j le in
      let below : Every (λ p. p.offset < s.end + 1) (take i ps ++ mid) = every-from_all (λ p. p.offset < s.end + 1) (take i ps ++ mid) (subst (All (λ p. p.offset < s.end + 1)) (part-below ps i j le) c) in
      sym (ap (moved_placed s) parts
      ∙ moved-parts s (take i ps) mid (drop j ps) order (every-from_all (λ p. p.offset < s.start) (take i ps) a)
      (every-from_all (λ p. s.start ≤ p.offset) mid (All-take (λ p. s.start ≤ p.offset) (j - i) (drop i ps) b))
      (every-right (λ p. p.offset < s.end + 1) (take i ps) mid below)
      (every-from_all (λ p. s.end + 1 ≤ p.offset) (drop j ps) d)
      (subst (IsSorted placed_le) parts (sorted-placed ps o.sorted)))

  count-map : (s : Shift) (id : ℕ) (ps : List (Placed P)) → count_by (has_placed_id id) (map (move_placed s) ps) ≡ count_by (has_placed_id id) ps
  count-map s id [] = refl
  count-map s id (p ∷ ps) = omega (arith, count-cons (has_placed_id id) (move_placed s p) (map (move_placed s) ps), count-cons (has_placed_id id) p ps, count-map s id ps)

  pub ordered-moved : (s : Shift) (ps : List (Placed P)) → IsOrdered ps → IsOrdered (moved_placed s ps)
  ordered-moved s ps o = record {
    sorted = sort-again placed_le le-total le-trans (map (move_placed s) ps);
    distinct = λ id. omega (arith, count-sort placed_le (has_placed_id id) (map (move_placed s) ps), count-map s id ps, o.distinct id);
  }

  pub codable-moved : (s : Shift) (ps : List (Placed P)) → All (λ p. end_at p < 2 ^ 32) (map (move_placed s) ps) → length ps < 2 ^ 32 → IsCodable (moved_placed s ps)
  codable-moved s ps e n =
      codable-sorted (moved_placed s ps) (sorted-sort placed_le le-total le-trans (map (move_placed s) ps))
      (all-from_every (λ q. end_at q < 2 ^ 32) (moved_placed s ps) (every-sort placed_le (λ q. end_at q < 2 ^ 32) (map (move_placed s) ps) (every-from_all (λ q. end_at q < 2 ^ 32) (map (move_placed s) ps) e)))
      (omega (arith, length-sort placed_le (map (move_placed s) ps), length-map (move_placed s) ps))

  pub length-moved : (s : Shift) (ps : List (Placed P)) → length (moved_placed s ps) ≡ length ps
  length-moved s ps = length-sort placed_le (map (move_placed s) ps) ∙ length-map (move_placed s) ps

  -- a part of what is distinct
  pub run-distinct : (s : Shift) (ps : List (Placed P)) (i j : ℕ) → i ≤ j → IsOrdered ps → (id : ℕ) → count_by (has_placed_id id) (map (move_placed s) (take (j - i) (drop i ps))) ≤ 1
  run-distinct s ps i j le o id =
      let mid = take (j - i) (drop i ps) in
      omega (arith, count-map s id mid, count-append (has_placed_id id) (take i ps) (mid ++ drop j ps), count-append (has_placed_id id) mid (drop j ps), ap (count_by (has_placed_id id)) (three-parts ps i j le), o.distinct id)

  -- a part of what fits
  pub run-fits : (s : Shift) (ps : List (Placed P)) (i j : ℕ) → i ≤ j → All (λ p. end_at p < 2 ^ 32) (map (move_placed s) ps) → All (λ p. end_at p < 2 ^ 32) (map (move_placed s) (take (j - i) (drop i ps)))
  run-fits s ps i j le fits =
      let Q : Placed P → Type 0 = λ p. end_at p < 2 ^ 32 in
      let mid = take (j - i) (drop i ps) in
      let all : Every Q (map (move_placed s) (take i ps) ++ (map (move_placed s) mid ++ map (move_placed s) (drop j ps))) =
      every-from_all Q _ (subst (All Q) (ap (map (move_placed s)) (three-parts ps i j le) ∙ map-append (move_placed s) (take i ps) (mid ++ drop j ps) ∙ ap (λ l. map (move_placed s) (take i ps) ++ l) (map-append (move_placed s) mid (drop j ps))) fits) in
      all-from_every Q (map (move_placed s) mid) (every-left Q (map (move_placed s) mid) (map (move_placed s) (drop j ps)) (every-right Q (map (move_placed s) (take i ps)) (map (move_placed s) mid ++ map (move_placed s) (drop j ps)) all))

  -- the run holds no more than what is met
  pub run-met : (s : Shift) (ps : List (Placed P)) (i j : ℕ) → i ≤ j → j ≤ length ps → All (λ p. s.start ≤ p.offset) (drop i ps) → All (λ p. p.offset < s.end + 1) (take j ps) → j - i ≤ count_by (meets_offset s) ps
  run-met s ps i j le within b c =
      let mid = take (j - i) (drop i ps) in
      let below = every-right (λ p. p.offset < s.end + 1) (take i ps) mid (every-from_all (λ p. p.offset < s.end + 1) (take i ps ++ mid) (subst (All (λ p. p.offset < s.end + 1)) (part-below ps i j le) c)) in
      let above = every-from_all (λ p. s.start ≤ p.offset) mid (All-take (λ p. s.start ≤ p.offset) (j - i) (drop i ps) b) in
      omega (arith, length-take (j - i) (drop i ps), length-drop i ps, count-all (meets_offset s) mid (met mid above below), count-append (meets_offset s) (take i ps) (mid ++ drop j ps), count-append (meets_offset s) mid (drop j ps), ap (count_by (meets_offset s)) (three-parts ps i j le)) where
        both : (m n k : ℕ) → m ≤ n → n < k + 1 → (nat_le m n && nat_le n k) ≡ true
        both m n k x y = grind (arith, nat_tests)

        met : (qs : List (Placed P)) → Every (λ p. s.start ≤ p.offset) qs → Every (λ p. p.offset < s.end + 1) qs → Every (λ p. meets_offset s p ≡ true) qs
        met [] x y = tt
        met (q ∷ qs) x y = (both s.start q.offset s.end x.0 y.0, met qs x.1 y.1)

pub move-steps : (h k m s₀ s₁ s₂ s₃ : ℕ) → k ≤ m → s₁ ≤ s₀ + 2 * (h + 1) → s₂ ≤ s₁ + (h + 1) * k → s₃ ≤ s₂ + splicing k h → s₃ ≤ s₀ + 170 * (h + 1) * (m + 1)
move-steps h k m s₀ s₁ s₂ s₃ le a b c = omega (arith, mul-le-mul_left (h + 1) le)
