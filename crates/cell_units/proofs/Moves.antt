-- Where anchors and tests go when a range is replaced.
use Rattle.std.proofs.Common.{◌≡◌, ℕ, ◌+◌, ◌-◌, ◌<◌, ◌≤◌, Bool, true, false, cond, eqb, ltb, leb, refl, sym, ◌∙◌, inl, inr, arith}
use mathlib.Core.Logic.{◌⊎◌}
use mathlib.Core.Bool.{◌&&◌}
use Rattle.std.proofs.lemmas.Bool.{and_parts, cases_lt, lt-ltb, le-ltb, le-leb, lt-leb, eqb-true, cases_eq, eq-eqb, ne_eqb}
use Rattle.cell_units.specs.declared.place.Bias.{Bias}
use Rattle.cell_units.specs.declared.place.Bias.TheVariants.{Right}
use Rattle.cell_units.specs.Anchor.{is_left, move}
use Rattle.cell_units.specs.Inlaid.{Token, Byte, InlayByte, Hidden}

-- a token after the range
abbrev pub move_token : ℕ → ℕ → ℕ → Token → Token
move_token a b n (Byte o c) = Byte (move o Right a b n) c
move_token a b n (InlayByte o i c) = InlayByte (move o Right a b n) i c
move_token a b n (Hidden o) = Hidden (move o Right a b n)

pub move-below : (p : ℕ) (bias : Bias) (a b n : ℕ) → p < a → move p bias a b n ≡ p
move-below p bias a b n h = rw (lt-ltb p a h) refl

pub move-above : (p : ℕ) (bias : Bias) (a b n : ℕ) → a ≤ b → b < p → move p bias a b n ≡ p + n - (b - a)
move-above p bias a b n h l = let e : (p ≡ a → ⊥) = λ q. omega arith in rw (le-ltb p a (omega arith), ne_eqb p a e, lt-leb p b l) refl

at_start : (c : Bool) (p a n : ℕ) → (c ≡ true → p ≡ a) → (a ≤ cond c p (a + n)) × (cond c p (a + n) ≤ a + n)
at_start true p a n h = let e = h refl in (omega arith, omega arith)
at_start false p a n h = (omega arith, omega arith)

pub move-within : (p : ℕ) (bias : Bias) (a b n : ℕ) → a ≤ p → p ≤ b → (a ≤ move p bias a b n) × (move p bias a b n ≤ a + n)
move-within p bias a b n h l = rw (le-ltb p a h, le-leb p b l) (at_start (eqb p a && is_left bias) p a n (λ e. eqb-true p a (and_parts (eqb p a) (is_left bias) e).0))

-- p is in one of three places
pub data Place (p : ℕ) (bias : Bias) (a b n : ℕ) : Type 0 where
  Below : p < a → move p bias a b n ≡ p → Place p bias a b n
  Within : a ≤ p → p ≤ b → a ≤ move p bias a b n → move p bias a b n ≤ a + n → Place p bias a b n
  Above : b < p → move p bias a b n ≡ p + n - (b - a) → Place p bias a b n

pub place : (p : ℕ) (bias : Bias) (a b n : ℕ) → a ≤ b → Place p bias a b n
place p bias a b n ab = go (cases_lt p a) (cases_lt b p) where
  go : (p < a) ⊎ (a ≤ p) → (b < p) ⊎ (p ≤ b) → Place p bias a b n
  go (inl l) _ = Below l (move-below p bias a b n l)
  go (inr g) (inr l) = let w = move-within p bias a b n g l in Within g l w.0 w.1
  go (inr g) (inl l) = Above l (move-above p bias a b n ab l)

same_test : (x y o p : ℕ) → (x < o → y < p) → (y < p → x < o) → ltb x o ≡ ltb y p
same_test x y o p f g = go (cases_lt x o) where
  go : (x < o) ⊎ (o ≤ x) → ltb x o ≡ ltb y p
  go (inl l) = lt-ltb x o l ∙ sym (lt-ltb y p (f l))
  go (inr l) = le-ltb x o l ∙ sym (le-ltb y p (at (cases_lt y p))) where
    at : (y < p) ⊎ (p ≤ y) → p ≤ y
    at (inl m) = absurd (omega (arith, g m))
    at (inr m) = m

same_le : (x y o p : ℕ) → (x ≤ o → y ≤ p) → (y ≤ p → x ≤ o) → leb x o ≡ leb y p
same_le x y o p f g = go (cases_lt o x) where
  go : (o < x) ⊎ (x ≤ o) → leb x o ≡ leb y p
  go (inr l) = le-leb x o l ∙ sym (le-leb y p (f l))
  go (inl l) = lt-leb x o l ∙ sym (lt-leb y p (at (cases_lt p y))) where
    at : (p < y) ⊎ (y ≤ p) → p < y
    at (inr m) = absurd (omega (arith, g m))
    at (inl m) = m

same_eq : (x y o p : ℕ) → (x ≡ o → y ≡ p) → (y ≡ p → x ≡ o) → eqb x o ≡ eqb y p
same_eq x y o p f g = go (cases_eq x o) where
  go : (x ≡ o) ⊎ (x ≡ o → ⊥) → eqb x o ≡ eqb y p
  go (inl l) = eq-eqb x o l ∙ sym (eq-eqb y p (f l))
  go (inr l) = ne_eqb x o l ∙ sym (ne_eqb y p (λ m. l (g m)))

module _ (p : ℕ) (bias : Bias) (a b n : ℕ) (ab : a ≤ b) where
  -- before the range each order stays, after it too
  pub before_lt : (o : ℕ) → o < a → ltb (move p bias a b n) o ≡ ltb p o
  before_lt o h = go (place p bias a b n ab) where
    go : Place p bias a b n → ltb (move p bias a b n) o ≡ ltb p o
    go (Below l e) = same_test _ _ _ _ (λ x. omega arith) (λ x. omega arith)
    go (Within g l h1 h2) = same_test _ _ _ _ (λ x. omega arith) (λ x. omega arith)
    go (Above l e) = same_test _ _ _ _ (λ x. omega arith) (λ x. omega arith)

  pub before_gt : (o : ℕ) → o < a → ltb o (move p bias a b n) ≡ ltb o p
  before_gt o h = go (place p bias a b n ab) where
    go : Place p bias a b n → ltb o (move p bias a b n) ≡ ltb o p
    go (Below l e) = same_test _ _ _ _ (λ x. omega arith) (λ x. omega arith)
    go (Within g l h1 h2) = same_test _ _ _ _ (λ x. omega arith) (λ x. omega arith)
    go (Above l e) = same_test _ _ _ _ (λ x. omega arith) (λ x. omega arith)

  pub behind_lt : (o : ℕ) → b < o → ltb (move p bias a b n) (o + n - (b - a)) ≡ ltb p o
  behind_lt o h = go (place p bias a b n ab) where
    go : Place p bias a b n → ltb (move p bias a b n) (o + n - (b - a)) ≡ ltb p o
    go (Below l e) = same_test _ _ _ _ (λ x. omega arith) (λ x. omega arith)
    go (Within g l h1 h2) = same_test _ _ _ _ (λ x. omega arith) (λ x. omega arith)
    go (Above l e) = same_test _ _ _ _ (λ x. omega arith) (λ x. omega arith)

  pub behind_gt : (o : ℕ) → b ≤ o → ltb (o + n - (b - a)) (move p bias a b n) ≡ ltb o p
  behind_gt o h = go (place p bias a b n ab) where
    go : Place p bias a b n → ltb (o + n - (b - a)) (move p bias a b n) ≡ ltb o p
    go (Below l e) = same_test _ _ _ _ (λ x. omega arith) (λ x. omega arith)
    go (Within g l h1 h2) = same_test _ _ _ _ (λ x. omega arith) (λ x. omega arith)
    go (Above l e) = same_test _ _ _ _ (λ x. omega arith) (λ x. omega arith)

  pub before_le : (o : ℕ) → o < a → leb (move p bias a b n) o ≡ leb p o
  before_le o h = go (place p bias a b n ab) where
    go : Place p bias a b n → leb (move p bias a b n) o ≡ leb p o
    go (Below l e) = same_le _ _ _ _ (λ x. omega arith) (λ x. omega arith)
    go (Within g l h1 h2) = same_le _ _ _ _ (λ x. omega arith) (λ x. omega arith)
    go (Above l e) = same_le _ _ _ _ (λ x. omega arith) (λ x. omega arith)

  pub behind_le : (o : ℕ) → b ≤ o → leb (move p bias a b n) (o + n - (b - a)) ≡ leb p o
  behind_le o h = go (place p bias a b n ab) where
    go : Place p bias a b n → leb (move p bias a b n) (o + n - (b - a)) ≡ leb p o
    go (Below l e) = same_le _ _ _ _ (λ x. omega arith) (λ x. omega arith)
    go (Within g l h1 h2) = same_le _ _ _ _ (λ x. omega arith) (λ x. omega arith)
    go (Above l e) = same_le _ _ _ _ (λ x. omega arith) (λ x. omega arith)

  pub before_eq : (o : ℕ) → o < a → eqb (move p bias a b n) o ≡ eqb p o
  before_eq o h = go (place p bias a b n ab) where
    go : Place p bias a b n → eqb (move p bias a b n) o ≡ eqb p o
    go (Below l e) = same_eq _ _ _ _ (λ x. omega arith) (λ x. omega arith)
    go (Within g l h1 h2) = same_eq _ _ _ _ (λ x. omega arith) (λ x. omega arith)
    go (Above l e) = same_eq _ _ _ _ (λ x. omega arith) (λ x. omega arith)

  pub behind_eq : (o : ℕ) → b < o → eqb (move p bias a b n) (o + n - (b - a)) ≡ eqb p o
  behind_eq o h = go (place p bias a b n ab) where
    go : Place p bias a b n → eqb (move p bias a b n) (o + n - (b - a)) ≡ eqb p o
    go (Below l e) = same_eq _ _ _ _ (λ x. omega arith) (λ x. omega arith)
    go (Within g l h1 h2) = same_eq _ _ _ _ (λ x. omega arith) (λ x. omega arith)
    go (Above l e) = same_eq _ _ _ _ (λ x. omega arith) (λ x. omega arith)
