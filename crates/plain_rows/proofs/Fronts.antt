-- Lists of which one begins with the other, and what comes after the last break of each.
use Rattle.std.proofs.Common.{◌≡◌, ℕ, ◌+◌, ◌-◌, ◌≤◌, Bool, true, false, cond, not, List, [], ◌∷◌, ◌++◌, length, drop, refl, sym, ap, ◌∙◌, append-nil, append_assoc, length-append, arith}
use Rattle.std.specs.List.{after_last, count_by, flat_map, prefix_len, suffix_len}
use Rattle.std.proofs.lemmas.List.{drop-append-le, drop_all, length_push, reverse-append}
use Rattle.std.proofs.lemmas.List.Concat.{flat_map-append}
use Rattle.std.proofs.lemmas.List.Sums.{sum_by-append, sum_by-cons}

-- ys begins with xs
abbrev pub IsFront : {X : Type 0} → List X → List X → Type 0
IsFront {X} xs ys = (rest : List X) × (ys ≡ xs ++ rest)

module _ {X : Type 0} where
  pub front-refl : (xs : List X) → IsFront xs xs
  front-refl xs = ([], sym (append-nil xs))

  pub front-append : (xs rest : List X) → IsFront xs (xs ++ rest)
  front-append xs rest = (rest, refl)

  pub front-trans : (xs ys zs : List X) → IsFront xs ys → IsFront ys zs → IsFront xs zs
  front-trans xs ys zs f g = (f.0 ++ g.0, g.1 ∙ ap (λ (l : List X). l ++ g.0) f.1 ∙ append_assoc xs f.0 g.0)

  -- as many pass in a prefix, or fewer
  pub count_by-front : (p : X → Bool) (xs ys : List X) → IsFront xs ys → count_by p xs ≤ count_by p ys
  count_by-front p xs ys f = omega (arith, ap (count_by p) f.1, sum_by-append (λ x. cond (p x) 1 0) xs f.0)

  pub length-front : (xs ys : List X) → IsFront xs ys → length xs ≤ length ys
  length-front xs ys f = omega (arith, ap length f.1, length-append xs f.0)

  -- one more element that doesn't pass comes after the last that does
  pub after_last-other : (p : X → Bool) (xs : List X) (x : X) → p x ≡ false → after_last p (xs ++ x ∷ []) ≡ after_last p xs ++ x ∷ []
  after_last-other p xs x e =
      let q = λ (y : X). not (p y) in
      let more : suffix_len q (xs ++ x ∷ []) ≡ 1 + suffix_len q xs =
      ap (prefix_len q) (reverse-append xs (x ∷ [])) ∙ ap (λ (b : Bool). cond (not b) (1 + suffix_len q xs) 0) e in
      let at : length (xs ++ x ∷ []) - suffix_len q (xs ++ x ∷ []) ≡ length xs - suffix_len q xs = omega (arith, more, length_push xs x) in
      ap (λ (n : ℕ). drop n (xs ++ x ∷ [])) at
      ∙ drop-append-le (length xs - suffix_len q xs) xs (x ∷ []) (omega arith)

  -- nothing comes after one that passes
  pub after_last-break : (p : X → Bool) (xs : List X) (x : X) → p x ≡ true → after_last p (xs ++ x ∷ []) ≡ []
  after_last-break p xs x e =
      let q = λ (y : X). not (p y) in
      let none : suffix_len q (xs ++ x ∷ []) ≡ 0 =
      ap (prefix_len q) (reverse-append xs (x ∷ [])) ∙ ap (λ (b : Bool). cond (not b) (1 + suffix_len q xs) 0) e in
      drop_all (length (xs ++ x ∷ []) - suffix_len q (xs ++ x ∷ [])) (xs ++ x ∷ []) (omega (arith, none))

  -- what follows without one that passes comes after the last that does
  pub after_last-append : (p : X → Bool) (xs rest : List X) → count_by p rest ≡ 0 → after_last p (xs ++ rest) ≡ after_last p xs ++ rest
  after_last-append p xs [] none = ap (after_last p) (append-nil xs) ∙ sym (append-nil (after_last p xs))
  after_last-append p xs (r ∷ rest) none =
      ap (after_last p) (sym (append_assoc xs (r ∷ []) rest))
      ∙ after_last-append p (xs ++ r ∷ []) rest (omega (arith, none, sum_by-cons (λ x. cond (p x) 1 0) r rest))
      ∙ ap (λ (l : List X). l ++ rest) (after_last-other p xs r (fails (p r) refl))
      ∙ append_assoc (after_last p xs) (r ∷ []) rest where
        fails : (b : Bool) → p r ≡ b → p r ≡ false
        fails false e = e
        fails true e = absurd (omega (arith, none, sum_by-cons (λ x. cond (p x) 1 0) r rest, ap {B = ℕ} (λ (b : Bool). cond b 1 0) e))

  -- of a prefix in which as many pass, what comes after the last is a prefix of what comes after it in the whole
  pub after_last-front : (p : X → Bool) (xs ys : List X) → IsFront xs ys → count_by p xs ≡ count_by p ys → IsFront (after_last p xs) (after_last p ys)
  after_last-front p xs ys f same =
      (f.0, ap (after_last p) f.1 ∙ after_last-append p xs f.0 (omega (arith, same, ap (count_by p) f.1, sum_by-append (λ x. cond (p x) 1 0) xs f.0)))

-- what each element gives, in a prefix
pub flat_map-front : {X Y : Type 0} (f : X → List Y) (xs ys : List X) → IsFront xs ys → IsFront (flat_map f xs) (flat_map f ys)
flat_map-front f xs ys g = (flat_map f g.0, ap (flat_map f) g.1 ∙ flat_map-append f xs g.0)
