-- The stamps of the marks: each at most once, and below the next.
use Rattle.std.proofs.Common.{◌≡◌, ℕ, ◌+◌, ◌-◌, ◌<◌, ◌≤◌, ◌==◌, eqb, zero, suc, cond, Bool, true, false, List, [], ◌∷◌, ◌++◌, map, take, drop, refl, sym, ap, ◌∙◌, inl, inr, arith}
use Rattle.std.specs.List.{All, count_by, range_with_len}
use Rattle.std.proofs.lemmas.Bool.{cases_lt, ne_eqb}
use Rattle.std.proofs.lemmas.List.{drop-drop, map-append, take-map, drop-map}
use Rattle.std.proofs.lemmas.List.Elements.{All-nil, All-cons, All-head, All-tail, All-append, All-take, All-drop, All-weaker}
use Rattle.std.proofs.lemmas.List.Sums.{sum_by-cons, sum_by-append, sum_by-take-drop}
use Rattle.cell_units.specs.Record.{Mark, plain_mark, plain_marks}
use Rattle.display_map.specs.Replay.{holds, wrapped_at, stamps_of}

abbrev pub stamps : List Mark → List ℕ
stamps marks = map (λ m. m.stamp) marks

-- how often a number is in a list
abbrev pub times : ℕ → List ℕ → ℕ
times v xs = count_by (λ x. x == v) xs

-- each number is in the list at most once, and is below the next
pub record AreStamps (xs : List ℕ) (next : ℕ) : Type 0 where
  pub once : (v : ℕ) → times v xs ≤ 1
  pub below : All (λ x. x < next) xs

pub times-cons : (v x : ℕ) (xs : List ℕ) → times v (x ∷ xs) ≡ cond (eqb x v) 1 0 + times v xs
times-cons v x xs = sum_by-cons (λ (y : ℕ). cond (y == v) 1 0) x xs

pub times-append : (v : ℕ) (xs ys : List ℕ) → times v (xs ++ ys) ≡ times v xs + times v ys
times-append v xs ys = sum_by-append (λ (y : ℕ). cond (y == v) 1 0) xs ys

times-absent : (v : ℕ) (xs : List ℕ) → All (λ x. x ≡ v → ⊥) xs → times v xs ≡ 0
times-absent v [] h = refl
times-absent v (x ∷ xs) h =
    let here : eqb x v ≡ false = ne_eqb x v (All-head (λ (y : ℕ). y ≡ v → ⊥) x xs h) in
    let one : cond (eqb x v) 1 0 ≡ 0 = ap {B = ℕ} (λ (b : Bool). cond b 1 0) here in
    omega (arith, times-cons v x xs, one, times-absent v xs (All-tail (λ (y : ℕ). y ≡ v → ⊥) x xs h))

times-above : (v n : ℕ) (xs : List ℕ) → All (λ x. x < n) xs → n ≤ v → times v xs ≡ 0
times-above v n xs h le = times-absent v xs (All-weaker (λ (x : ℕ). x < n) (λ (x : ℕ). x ≡ v → ⊥) (λ x lt e. omega (arith, lt, e)) xs h)

range_from : (a n : ℕ) → All (λ x. a ≤ x) (range_with_len a n)
range_from a zero = All-nil (λ (x : ℕ). a ≤ x)
range_from a (suc n) =
    All-cons (λ (x : ℕ). a ≤ x) a (range_with_len (a + 1) n) (omega arith)
    (All-weaker (λ (x : ℕ). a + 1 ≤ x) (λ (x : ℕ). a ≤ x) (λ x le. omega (arith, le)) (range_with_len (a + 1) n) (range_from (a + 1) n))

-- a number below a range isn't in it
pub times-range : (v a n : ℕ) → v < a → times v (range_with_len a n) ≡ 0
times-range v a n lt =
    times-absent v (range_with_len a n)
    (All-weaker (λ (x : ℕ). a ≤ x) (λ (x : ℕ). x ≡ v → ⊥) (λ x le e. omega (arith, le, e, lt)) (range_with_len a n) (range_from a n))

range_to : (a n m : ℕ) → a + n ≤ m → All (λ x. x < m) (range_with_len a n)
range_to a zero m le = All-nil (λ (x : ℕ). x < m)
range_to a (suc n) m le = All-cons (λ (x : ℕ). x < m) a (range_with_len (a + 1) n) (omega arith) (range_to (a + 1) n m (omega arith))

one_at_most : (b : Bool) → cond b 1 0 ≤ 1
one_at_most true = omega arith
one_at_most false = omega arith

range_once : (v a n : ℕ) → times v (range_with_len a n) ≤ 1
range_once v a zero = omega arith
range_once v a (suc n) = elim (cases_lt a v) [
  | inl lt ↦
      let other : cond (eqb a v) 1 0 ≡ 0 = ap {B = ℕ} (λ (b : Bool). cond b 1 0) (ne_eqb a v (λ e. omega (arith, lt, e))) in
      omega (arith, times-cons v a (range_with_len (a + 1) n), other, range_once v (a + 1) n)
  | inr past ↦
      let none = times-absent v (range_with_len (a + 1) n)
      (All-weaker (λ (x : ℕ). a + 1 ≤ x) (λ (x : ℕ). x ≡ v → ⊥) (λ x le e. omega (arith, le, e, past)) (range_with_len (a + 1) n) (range_from (a + 1) n)) in
      omega (arith, times-cons v a (range_with_len (a + 1) n), none, one_at_most (eqb a v))
]

pub AreStamps-range : (n : ℕ) → AreStamps (range_with_len 0 n) n
AreStamps-range n = record { once = λ v. range_once v 0 n; below = range_to 0 n n (omega arith) }

without_some : (v f g : ℕ) (xs : List ℕ) → f ≤ g → times v (take f xs) + times v (drop g xs) ≤ times v xs
without_some v f g xs le =
    let one : ℕ → ℕ = λ (y : ℕ). cond (y == v) 1 0 in
    let at : f + (g - f) ≡ g = omega arith in
    let rest : drop (g - f) (drop f xs) ≡ drop g xs = drop-drop (g - f) f xs ∙ ap (λ (k : ℕ). drop k xs) at in
    omega (arith, sum_by-take-drop one xs f, sum_by-take-drop one (drop f xs) (g - f), ap (times v) rest)

-- some of them give way to the next ones
pub AreStamps-replaced : (xs : List ℕ) (next f g n : ℕ) → AreStamps xs next → f ≤ g →
    AreStamps (take f xs ++ (range_with_len next n ++ drop g xs)) (next + n)
AreStamps-replaced xs next f g n h le = record {
  once = λ v.
      let sum = times-append v (take f xs) (range_with_len next n ++ drop g xs) in
      let sum' = times-append v (range_with_len next n) (drop g xs) in
      elim (cases_lt v next) [
        | inl lt ↦
            let none = times-absent v (range_with_len next n) (All-weaker (λ (x : ℕ). next ≤ x) (λ (x : ℕ). x ≡ v → ⊥) (λ x le e. omega (arith, le, e, lt)) (range_with_len next n) (range_from next n)) in
            omega (arith, sum, sum', none, without_some v f g xs le, h.once v)
        | inr past ↦
            omega (
              arith,
              sum,
              sum',
              range_once v next n,
              times-above v next (take f xs) (All-take (λ (x : ℕ). x < next) f xs h.below) past,
              times-above v next (drop g xs) (All-drop (λ (x : ℕ). x < next) g xs h.below) past,
            )
      ];
  below =
      let P : ℕ → Type 0 = λ (x : ℕ). x < next + n in
      let old : All (λ x. x < next + n) xs = All-weaker (λ (x : ℕ). x < next) P (λ x lt. omega (arith, lt)) xs h.below in
      All-append P (take f xs) (range_with_len next n ++ drop g xs) (All-take P f xs old)
      (All-append P (range_with_len next n) (drop g xs) (range_to next n (next + n) (omega arith)) (All-drop P g xs old));
}

-- ---- of marks

stamps-fresh : (xs : List ℕ) → map (λ m. m.stamp) (map plain_mark xs) ≡ xs
stamps-fresh [] = refl
stamps-fresh (x ∷ xs) = ap (λ (l : List ℕ). x ∷ l) (stamps-fresh xs)

pub stamps-plain_marks : (next n : ℕ) → stamps (plain_marks next n) ≡ range_with_len next n
stamps-plain_marks next n = stamps-fresh (range_with_len next n)

pub stamps-replaced : (marks : List Mark) (next f g n : ℕ) →
    stamps (take f marks ++ (plain_marks next n ++ drop g marks)) ≡ take f (stamps marks) ++ (range_with_len next n ++ drop g (stamps marks))
stamps-replaced marks next f g n =
    let stamp : Mark → ℕ = λ (m : Mark). m.stamp in
    map-append stamp (take f marks) (plain_marks next n ++ drop g marks)
    ∙ ap (λ (l : List ℕ). map stamp (take f marks) ++ l) (map-append stamp (plain_marks next n) (drop g marks))
    ∙ (λ i. sym (take-map stamp f marks) i ++ (stamps-plain_marks next n i ++ sym (drop-map stamp g marks) i))

-- the stamps of a run are a part of all
pub stamps_of-is : (marks : List Mark) (first count : ℕ) → stamps_of marks first count ≡ take count (drop first (stamps marks))
stamps_of-is marks first count =
    let stamp : Mark → ℕ = λ (m : Mark). m.stamp in
    sym (ap (take count) (drop-map stamp first marks) ∙ take-map stamp count (drop first marks))

-- a landing keeps the stamps
pub stamps-wrapped_at : (width : ℕ) (held : List ℕ) (marks : List Mark) → stamps (wrapped_at width held marks) ≡ stamps marks
stamps-wrapped_at width held [] = refl
stamps-wrapped_at width held (m ∷ ms) = λ i. one (holds held m.stamp) i ∷ stamps-wrapped_at width held ms i where
  one : (b : Bool) → (cond b (record { stamp = m.stamp; width = width }) m).stamp ≡ m.stamp
  one true = refl
  one false = refl
