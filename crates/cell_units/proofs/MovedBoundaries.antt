-- A replacement makes a text of a text, and moves boundaries to boundaries.
use Rattle.std.proofs.Common.{◌≡◌, ◌≢◌, ℕ, ◌+◌, ◌-◌, ◌<◌, ◌≤◌, ◌==◌, ◌&&◌, leb, Bool, true, false, if◌then◌else◌, List, [], ◌∷◌, ◌++◌, zero, suc, length, take, drop, refl, sym, ap, ◌∙◌, subst, append_assoc, length-append, inl, inr, ◌⊎◌, arith}
use Rattle.std.specs.List.{All}
use Rattle.std.specs.Str.{IsCharBoundary, IsUtf8}
use Rattle.std.proofs.Math.Seq.{take-append-add}
use Rattle.std.proofs.lemmas.Bool.{cases_eq, cases_lt, eq-eqb, le-leb, le-ltb, lt-leb, lt-ltb, ne_eqb}
use Rattle.std.proofs.lemmas.List.{length-drop, length-take-le, take-append-le, take-take, take_at}
use Rattle.std.proofs.lemmas.List.Elements.{All-append}
use Rattle.std.proofs.lemmas.Str.{IsCharBoundary-from_take, IsUtf8-append, IsUtf8-between, IsUtf8-drop}
use Rattle.cell_units.specs.declared.place.Bias.{Bias}
use Rattle.cell_units.specs.Anchor.{is_left, move}
use Rattle.cell_units.specs.Text.{IsBoundary, IsText, carriage_return, clean}
use Rattle.cell_units.specs.Operation.{replaced_text}
use Rattle.cell_units.proofs.TextLaws.{clean-no_return}
use Rattle.cell_units.proofs.CutLists.{Every}
use Rattle.cell_units.proofs.FoundEntries.{All-from_Every, Every-from_All}
use Rattle.cell_units.proofs.Characters.{clean-utf8}

-- where an anchor goes
data Moved (p a b n : ℕ) (to : ℕ) : Type 0 where
  Stays : to ≡ p → p ≤ a → Moved p a b n to
  Lands : to ≡ a + n → a ≤ p → p ≤ b → Moved p a b n to
  Follows : to ≡ a + n + (p - b) → b < p → Moved p a b n to

moved : (p : ℕ) (bias : Bias) (a b n : ℕ) → a ≤ b → Moved p a b n (move p bias a b n)
moved p bias a b n le = go (cases_lt p a) (cases_eq p a) (cases_lt b p) (is_left bias) refl where
  rest : ℕ
  rest = if leb p b then a + n else p + n - (b - a)

  go : (p < a) ⊎ (a ≤ p) → (p ≡ a) ⊎ (p ≡ a → ⊥) → (b < p) ⊎ (p ≤ b) → (l : Bool) → is_left bias ≡ l → Moved p a b n (move p bias a b n)
  go (inl x) y z l e = Stays (ap (λ (t : Bool). if t then p else if (p == a) && is_left bias then p else rest) (lt-ltb p a x)) (omega (arith, x))
  go (inr x) (inl y) z true e =
      Stays (ap (λ (t : Bool). if t then p else if (p == a) && is_left bias then p else rest) (le-ltb p a x)
      ∙ (λ i. if eq-eqb p a y i && e i then p else rest)) (omega (arith, y))
  go (inr x) (inl y) z false e =
      let within : p ≤ b = omega (arith, y, le) in
      Lands (ap (λ (t : Bool). if t then p else if (p == a) && is_left bias then p else rest) (le-ltb p a x)
      ∙ (λ i. if eq-eqb p a y i && e i then p else rest)
      ∙ ap (λ (t : Bool). if t then a + n else p + n - (b - a)) (le-leb p b within)) x within
  go (inr x) (inr y) (inr z) l e =
      Lands (ap (λ (t : Bool). if t then p else if (p == a) && is_left bias then p else rest) (le-ltb p a x)
      ∙ ap (λ (t : Bool). if t && is_left bias then p else rest) (ne_eqb p a y)
      ∙ ap (λ (t : Bool). if t then a + n else p + n - (b - a)) (le-leb p b z)) x z
  go (inr x) (inr y) (inl z) l e =
      let sum : p + n - (b - a) ≡ a + n + (p - b) = omega (arith, z, le) in
      Follows (ap (λ (t : Bool). if t then p else if (p == a) && is_left bias then p else rest) (le-ltb p a x)
      ∙ ap (λ (t : Bool). if t && is_left bias then p else rest) (ne_eqb p a y)
      ∙ ap (λ (t : Bool). if t then a + n else p + n - (b - a)) (lt-leb p b z)
      ∙ sum) z

module _ (text : List ℕ) (a b : ℕ) (s : List ℕ) (utf8 : IsUtf8 text) (from : IsBoundary text a) (to : IsBoundary text b) (le : a ≤ b) (spelled : IsUtf8 s) where
  new : List ℕ
  new = replaced_text text a b s

  new-is : new ≡ take a text ++ (s ++ drop b text)
  unfolding new
  new-is = refl

  at : (o : ℕ) → IsBoundary text o → IsCharBoundary text o
  at o h = IsCharBoundary-from_take text o utf8 h.0 h.1

  -- the new text is UTF-8
  pub replaced-utf8 : IsUtf8 (replaced_text text a b s)
  replaced-utf8 = IsUtf8-append (take a text) (s ++ drop b text) from.1 (IsUtf8-append s (drop b text) spelled (IsUtf8-drop text b utf8 (at b to)))

  long : length (replaced_text text a b s) ≡ a + length s + (length text - b)
  long = omega (arith, length-append (take a text) (s ++ drop b text), length-append s (drop b text), length-take-le a text from.0, length-drop b text)

  front : length (take a text ++ s) ≡ a + length s
  front = omega (arith, length-append (take a text) s, length-take-le a text from.0)

  -- a boundary moves to one
  pub boundary-moved : (p : ℕ) (bias : Bias) → IsBoundary text p → IsBoundary (replaced_text text a b s) (move p bias a b (length s))
  boundary-moved p bias h = go (move p bias a b (length s)) (moved p bias a b (length s) le) where
    shape : replaced_text text a b s ≡ (take a text ++ s) ++ drop b text
    shape = sym (append_assoc (take a text) s (drop b text))

    go : (q : ℕ) → Moved p a b (length s) q → IsBoundary (replaced_text text a b s) q
    go q (Stays e x) =
        let is : take p (replaced_text text a b s) ≡ take p text = take-append-le p (take a text) (s ++ drop b text) (omega (arith, x, length-take-le a text from.0)) ∙ take-take p a text x in
        subst (IsBoundary (replaced_text text a b s)) (sym e) (omega (arith, long, x), subst IsUtf8 (sym is) h.1)
    go q (Lands e x y) =
        let is : take (a + length s) (replaced_text text a b s) ≡ take a text ++ s = ap (take (a + length s)) shape ∙ take_at (take a text ++ s) (drop b text) (a + length s) front in
        subst (IsBoundary (replaced_text text a b s)) (sym e) (omega (arith, long), subst IsUtf8 (sym is) (IsUtf8-append (take a text) s from.1 spelled))
    go q (Follows e x) =
        let part = take (p - b) (drop b text) in
        let n : a + length s + (p - b) ≡ length (take a text ++ s) + (p - b) = omega (arith, front) in
        let is : take (a + length s + (p - b)) (replaced_text text a b s) ≡ (take a text ++ s) ++ part =
        (λ i. take (n i) (shape i)) ∙ take-append-add (take a text ++ s) (drop b text) (p - b) in
        subst (IsBoundary (replaced_text text a b s)) (sym e)
        (omega (arith, long, x, h.0), subst IsUtf8 (sym is) (IsUtf8-append (take a text ++ s) part (IsUtf8-append (take a text) s from.1 spelled) (IsUtf8-between text b p utf8 (omega (arith, x)) (at b to) (at p h))))

no-return : (text : List ℕ) (a b : ℕ) (s : List ℕ) → All (λ x. x ≢ carriage_return) text → All (λ x. x ≢ carriage_return) s → All (λ x. x ≢ carriage_return) (replaced_text text a b s)
no-return text a b s h k =
    let P : ℕ → Type 0 = λ x. x ≢ carriage_return in
    All-append P (take a text) (s ++ drop b text) (All-from_Every P (take a text) (every-take a text (Every-from_All P text h)))
    (All-append P s (drop b text) k (All-from_Every P (drop b text) (every-drop b text (Every-from_All P text h)))) where
      every-take : (n : ℕ) (xs : List ℕ) → Every (λ x. x ≢ carriage_return) xs → Every (λ x. x ≢ carriage_return) (take n xs)
      every-take zero xs h = tt
      every-take (suc n) [] h = tt
      every-take (suc n) (x ∷ xs) h = (h.0, every-take n xs h.1)

      every-drop : (n : ℕ) (xs : List ℕ) → Every (λ x. x ≢ carriage_return) xs → Every (λ x. x ≢ carriage_return) (drop n xs)
      every-drop zero xs h = h
      every-drop (suc n) [] h = tt
      every-drop (suc n) (x ∷ xs) h = every-drop n xs h.1

-- the text after a replacement is one
pub replaced-is_text : (text : List ℕ) (a b : ℕ) (s : List ℕ) → IsText text → IsBoundary text a → IsBoundary text b → a ≤ b → IsUtf8 s → IsText (replaced_text text a b (clean s))
replaced-is_text text a b s is from to le utf8 = (
  replaced-utf8 text a b (clean s) is.0 from to le (clean-utf8 s utf8),
  no-return text a b (clean s) is.1 (clean-no_return s),
)
