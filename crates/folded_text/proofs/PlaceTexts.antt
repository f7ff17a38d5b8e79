-- What is at places gives the bytes there.
use Rattle.std.proofs.Common.{◌≡◌, ℕ, zero, suc, ◌+◌, ◌-◌, ◌<◌, ◌≤◌, List, [], ◌∷◌, ◌++◌, flat_map, get_or, length, map, reverse, take, drop, Option, Some, refl, sym, ap, ◌∙◌, inl, inr, ◌⊎◌, arith, length-append}
use Rattle.std.proofs.lemmas.Bool.{cases_lt}
use Rattle.std.proofs.lemmas.List.{append-nil, drop_at, length-drop, length-map, length-reverse, length-take, map-append, map-id, reverse-append, reverse-reverse, take-append-drop, take-append-le, take_at}
use Rattle.std.proofs.lemmas.List.Concat.{flat_map-append}
use Rattle.std.proofs.Math.Seq.{take-append-add}
use Rattle.cell_units.specs.Folded.{folded_to}
use Rattle.cell_units.specs.Inlaid.{Byte, Hidden, InlayByte, Token, bytes_of}
use Rattle.cell_units.specs.declared.place.Bias.TheVariants.{Right}
use Rattle.cell_units.specs.Layers.{Source, shown_text}
use Rattle.edit_patch.specs.LayerLeads.{LayerLeads, token_after, token_places}
use Rattle.edit_patch.specs.Leads.{LeadsAt, Reach}
use Rattle.edit_patch.proofs.TokenPlaces.{at_places, length-at_places}

-- ---- from the start

-- a token has as many places as bytes
size-places : (t : Token) → length (token_places t) ≡ length (bytes_of t)
size-places t = length-map (bytes_of t) (λ (b : ℕ). t)

first-place : (d t : Token) (ts : List Token) (k : ℕ) → get_or (take (suc k) (at_places (t ∷ ts))) 0 d ≡ t
first-place d (Byte o b) ts k = refl
first-place d (InlayByte o id b) ts k = refl
first-place d (Hidden o) ts k = refl

-- tokens that are moved, of which each shows as many bytes as before
module _ (moved : Token → Token) (f : Token → List ℕ) (size : (t : Token) → length (f t) ≡ length (bytes_of t))
    (same : (t : Token) → f (moved t) ≡ f t) where
  first-moved : (d t : Token) (ts : List Token) (k : ℕ) → get_or (map moved (take (suc k) (at_places (t ∷ ts)))) 0 d ≡ moved t
  first-moved d (Byte o b) ts k = refl
  first-moved d (InlayByte o id b) ts k = refl
  first-moved d (Hidden o) ts k = refl

  moved-size : (t : Token) → length (bytes_of (moved t)) ≡ length (bytes_of t)
  moved-size t = sym (size (moved t)) ∙ ap (λ (l : List ℕ). length l) (same t) ∙ size t

  step : (x : Token) (xs ys : List Token) (k : ℕ) → take k (at_places (moved x ∷ ys)) ≡ map moved (take k (at_places (x ∷ xs)))
      → ((j : ℕ) → k ≡ length (bytes_of x) + j → take j (at_places ys) ≡ map moved (take j (at_places xs)) → take j (flat_map f ys) ≡ take j (flat_map f xs))
      → take k (flat_map f (moved x ∷ ys)) ≡ take k (flat_map f (x ∷ xs))
  step x xs ys k e next = go (cases_lt (length (bytes_of x)) k) where
    n : ℕ
    n = length (bytes_of x)

    go : (n < k) ⊎ (k ≤ n) → take k (flat_map f (moved x ∷ ys)) ≡ take k (flat_map f (x ∷ xs))
    go (inr le) =
        take-append-le k (f (moved x)) (flat_map f ys) (omega (arith, le, size (moved x), moved-size x))
        ∙ ap (take k) (same x)
        ∙ sym (take-append-le k (f x) (flat_map f xs) (omega (arith, le, size x)))
    go (inl lt) =
        let j : ℕ = k - n in
        let at : k ≡ n + j = omega (arith, lt) in
        let here : k ≡ length (token_places x) + j = omega (arith, at, size-places x) in
        let there : k ≡ length (token_places (moved x)) + j = omega (arith, at, size-places (moved x), moved-size x) in
        let old : take k (at_places (x ∷ xs)) ≡ token_places x ++ take j (at_places xs) =
        ap (λ (i : ℕ). take i (at_places (x ∷ xs))) here ∙ take-append-add (token_places x) (at_places xs) j in
        let new : take k (at_places (moved x ∷ ys)) ≡ token_places (moved x) ++ take j (at_places ys) =
        ap (λ (i : ℕ). take i (at_places (moved x ∷ ys))) there ∙ take-append-add (token_places (moved x)) (at_places ys) j in
        let both : token_places (moved x) ++ take j (at_places ys) ≡ map moved (token_places x) ++ map moved (take j (at_places xs)) =
        sym new ∙ e ∙ ap (map moved) old ∙ map-append moved (token_places x) (take j (at_places xs)) in
        let rest : take j (at_places ys) ≡ map moved (take j (at_places xs)) =
        sym (drop_at (token_places (moved x)) (take j (at_places ys)) n (omega (arith, size-places (moved x), moved-size x)))
        ∙ ap (drop n) both
        ∙ drop_at (map moved (token_places x)) (map moved (take j (at_places xs))) n (omega (arith, length-map (token_places x) moved, size-places x)) in
        let old-bytes : k ≡ length (f x) + j = omega (arith, at, size x) in
        let new-bytes : k ≡ length (f (moved x)) + j = omega (arith, at, size (moved x), moved-size x) in
        ap (λ (i : ℕ). take i (flat_map f (moved x ∷ ys))) new-bytes
        ∙ take-append-add (f (moved x)) (flat_map f ys) j
        ∙ (λ i. same x i ++ next j at rest i)
        ∙ sym (take-append-add (f x) (flat_map f xs) j)
        ∙ ap (λ (i : ℕ). take i (flat_map f (x ∷ xs))) (sym old-bytes)

  pub front-bytes : (xs ys : List Token) (k : ℕ) → k ≤ length (at_places xs) → k ≤ length (at_places ys)
      → take k (at_places ys) ≡ map moved (take k (at_places xs)) → take k (flat_map f ys) ≡ take k (flat_map f xs)
  front-bytes xs ys zero le le' e = refl
  front-bytes [] ys (suc k) le le' e = absurd (omega (arith, le))
  front-bytes (x ∷ xs) [] (suc k) le le' e = absurd (omega (arith, le'))
  front-bytes (x ∷ xs) (y ∷ ys) (suc k) le le' e =
      let head : y ≡ moved x = sym (first-place y y ys k) ∙ ap (λ (l : List Token). get_or l 0 y) e ∙ first-moved y x xs k in
      ap (λ (t : Token). take (suc k) (flat_map f (t ∷ ys))) head
      ∙ step x xs ys (suc k) (ap (λ (t : Token). take (suc k) (at_places (t ∷ ys))) (sym head) ∙ e)
      (λ j at rest.
      front-bytes xs ys j
      (omega (arith, le, at, length-append (token_places x) (at_places xs), size-places x))
      (omega (arith, le', at, length-append (token_places y) (at_places ys), size-places y, ap (λ (t : Token). length (bytes_of t)) head, moved-size x))
      rest)

-- ---- from the back

flipped : {A : Type 0} (f : Token → List A) (ts : List Token) → reverse (flat_map f ts) ≡ flat_map (λ t. reverse (f t)) (reverse ts)
flipped f [] = refl
flipped f (t ∷ ts) =
    reverse-append (f t) (flat_map f ts)
    ∙ (λ i. flipped f ts i ++ sym (append-nil (reverse (f t))) i)
    ∙ sym (flat_map-append (λ u. reverse (f u)) (reverse ts) (t ∷ []))
    ∙ ap (flat_map (λ u. reverse (f u))) (sym (reverse-append (t ∷ []) ts))

places-back : (ts : List Token) → flat_map (λ t. reverse (token_places t)) ts ≡ at_places ts
places-back [] = refl
places-back (t ∷ ts) = λ i. one t i ++ places-back ts i where
  one : (t : Token) → reverse (token_places t) ≡ token_places t
  one (Byte o b) = refl
  one (InlayByte o id b) = refl
  one (Hidden o) = refl

pub places-flipped : (ts : List Token) → reverse (at_places ts) ≡ at_places (reverse ts)
places-flipped ts = flipped token_places ts ∙ places-back (reverse ts)

reverse-map : {X Y : Type 0} (f : X → Y) (xs : List X) → reverse (map f xs) ≡ map f (reverse xs)
reverse-map f [] = refl
reverse-map f (x ∷ xs) =
    reverse-append (f x ∷ []) (map f xs)
    ∙ ap (λ l. l ++ f x ∷ []) (reverse-map f xs)
    ∙ sym (map-append f (reverse xs) (x ∷ []))
    ∙ ap (map f) (sym (reverse-append (x ∷ []) xs))

-- the last of a list are the first of it from the back
taken-back : {X : Type 0} (k n : ℕ) (xs : List X) → n ≡ length (drop k xs) → take n (reverse xs) ≡ reverse (drop k xs)
taken-back k n xs e =
    ap (λ l. take n (reverse l)) (sym (take-append-drop k xs))
    ∙ ap (take n) (reverse-append (take k xs) (drop k xs))
    ∙ take_at (reverse (drop k xs)) (reverse (take k xs)) n (length-reverse (drop k xs) ∙ sym e)

module _ (moved : Token → Token) (same : (t : Token) → bytes_of (moved t) ≡ bytes_of t) where
  abbrev back-bytes : Token → List ℕ
  back-bytes t = reverse (bytes_of t)

  pub behind-bytes : (xs ys : List Token) (p q : ℕ) → p ≤ length (at_places xs) → q ≤ length (at_places ys)
      → drop q (at_places ys) ≡ map moved (drop p (at_places xs)) → drop q (flat_map bytes_of ys) ≡ drop p (flat_map bytes_of xs)
  behind-bytes xs ys p q le le' e =
      let n : ℕ = length (drop p (at_places xs)) in
      let count : n ≡ length (drop q (at_places ys)) = sym (length-map (drop p (at_places xs)) moved) ∙ ap (λ (l : List Token). length l) (sym e) in
      let old : n ≡ length (drop p (flat_map bytes_of xs)) = omega (arith, length-drop p (at_places xs), length-drop p (flat_map bytes_of xs), length-at_places xs) in
      let new : n ≡ length (drop q (flat_map bytes_of ys)) = omega (arith, count, length-drop q (at_places ys), length-drop q (flat_map bytes_of ys), length-at_places ys) in
      let places : take n (at_places (reverse ys)) ≡ map moved (take n (at_places (reverse xs))) =
      ap (take n) (sym (places-flipped ys)) ∙ taken-back q n (at_places ys) count ∙ ap reverse e ∙ reverse-map moved (drop p (at_places xs))
      ∙ ap (map moved) (sym (taken-back p n (at_places xs) refl) ∙ ap (take n) (places-flipped xs)) in
      let long : (ts : List Token) → length (at_places (reverse ts)) ≡ length (at_places ts) = λ (ts : List Token).
      ap (λ (l : List Token). length l) (sym (places-flipped ts)) ∙ length-reverse (at_places ts) in
      let bytes : take n (flat_map back-bytes (reverse ys)) ≡ take n (flat_map back-bytes (reverse xs)) =
      front-bytes moved back-bytes (λ t. length-reverse (bytes_of t)) (λ t. ap reverse (same t)) (reverse xs) (reverse ys) n
      (omega (arith, long xs, length-drop p (at_places xs)))
      (omega (arith, long ys, count, length-drop q (at_places ys))) places in
      sym (reverse-reverse (drop q (flat_map bytes_of ys)))
      ∙ ap reverse (sym (taken-back q n (flat_map bytes_of ys) new) ∙ ap (take n) (flipped bytes_of ys) ∙ bytes ∙ ap (take n) (sym (flipped bytes_of xs)) ∙ taken-back p n (flat_map bytes_of xs) old)
      ∙ reverse-reverse (drop p (flat_map bytes_of xs))

-- ---- of layers

abbrev pub tokens-of : Source → List Token
tokens-of s = folded_to s.text s.inlays s.folds (length s.text) Right

bytes-after : (shift : Option Reach) (t : Token) → bytes_of (token_after shift t) ≡ bytes_of t
bytes-after shift (Byte o b) = refl
bytes-after shift (InlayByte o id b) = refl
bytes-after shift (Hidden o) = refl

-- a replacement that leads from layer to layer leads from text to text
pub texts-lead : (shift : Option Reach) (old new : Source) (s : Reach) → LayerLeads shift old new (Some s)
    → LeadsAt (shown_text old) (shown_text new) s.start s.end s.count
texts-lead shift old new s leads =
    let within = leads.within in
    let reaches = leads.reaches in
    let size = length-at_places (tokens-of old) in
    let size' = length-at_places (tokens-of new) in
    record {
      within = omega (arith, within, size);
      reaches = omega (arith, reaches, size');
      before =
          front-bytes (λ t. t) bytes_of (λ t. refl) (λ t. refl) (tokens-of old) (tokens-of new) s.start
          (omega (arith, reaches, ap (λ (l : List Token). length l) leads.before, length-take s.start (at_places (tokens-of old)), length-take s.start (at_places (tokens-of new))))
          (omega (arith, reaches))
          (leads.before ∙ sym (map-id (take s.start (at_places (tokens-of old)))));
      behind = behind-bytes (token_after shift) (bytes-after shift) (tokens-of old) (tokens-of new) s.end (s.start + s.count) within reaches leads.behind;
    }
