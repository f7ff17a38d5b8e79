-- How long a text is once it is cleaned.
use Rattle.std.proofs.Common.{◌≡◌, ℕ, ◌+◌, ◌<◌, ◌≤◌, eqb, ◌&&◌, Bool, true, false, cond, List, [], ◌∷◌, length, drop, get_or, refl, sym, ap, subst, ◌∙◌, inl, inr, arith}
use Rattle.std.specs.List.{starts_with}
use Rattle.std.proofs.lemmas.Bool.{and_parts, cases_eq, eq-eqb, eqb-true, false≢true, ne_eqb}
use Rattle.std.proofs.lemmas.List.{drop_all, drop_more, length-map}
use Rattle.cell_units.specs.Text.{begins_with_feed, clean, without_returns_before_feeds}

flipped : (m n : ℕ) → eqb m n ≡ eqb n m
flipped m n = elim (cases_eq m n) [
  | inl e ↦ eq-eqb m n e ∙ sym (eq-eqb n m (sym e))
  | inr e ↦ ne_eqb m n e ∙ sym (ne_eqb n m (λ f. e (sym f)))
]

and-true : (b : Bool) → (b && true) ≡ b
and-true true = refl
and-true false = refl

-- the test for CR LF
begins_with_return_feed : (b : ℕ) (rest : List ℕ) → starts_with eqb (b ∷ rest) (13 ∷ 10 ∷ []) ≡ (eqb b 13 && begins_with_feed rest)
begins_with_return_feed b [] = ap (λ (t : Bool). t && false) (flipped 13 b)
begins_with_return_feed b (c ∷ rest) = λ i. flipped 13 b i && (and-true (eqb 10 c) ∙ flipped 10 c) i

one_less : (b : ℕ) (kept : List ℕ) (t : Bool) → length (cond t kept (b ∷ kept)) ≡ cond t 0 1 + length kept
one_less b kept true = omega arith
one_less b kept false = omega arith

-- a byte is lost exactly where CR LF begin
pub kept-more : (bytes : List ℕ) (i : ℕ) → i < length bytes →
    length (without_returns_before_feeds (drop i bytes))
    ≡ cond (starts_with eqb (drop i bytes) (13 ∷ 10 ∷ [])) 0 1 + length (without_returns_before_feeds (drop (i + 1) bytes))
kept-more bytes i within =
    let b = get_or bytes i 0 in
    let rest = drop (i + 1) bytes in
    let kept = without_returns_before_feeds rest in
    subst (λ (l : List ℕ). length (without_returns_before_feeds l) ≡ cond (starts_with eqb l (13 ∷ 10 ∷ [])) 0 1 + length kept) (sym (drop_more bytes i 0 within))
    (one_less b kept (eqb b 13 && begins_with_feed rest) ∙ ap (λ (t : Bool). cond t 0 1 + length kept) (sym (begins_with_return_feed b rest)))

pub kept-end : (bytes : List ℕ) (i : ℕ) → length bytes ≤ i → length (without_returns_before_feeds (drop i bytes)) ≡ 0
kept-end bytes i past = ap (λ (l : List ℕ). length (without_returns_before_feeds l)) (drop_all i bytes past)

pub length-clean : (bytes : List ℕ) → length (clean bytes) ≡ length (without_returns_before_feeds bytes)
length-clean bytes = rw length-map refl

feed_stays : (rest : List ℕ) → begins_with_feed rest ≡ true → 0 < length (without_returns_before_feeds rest)
feed_stays [] e = absurd (false≢true e)
feed_stays (c ∷ rest) e =
    let feed : c ≡ 10 = eqb-true c 10 e in
    let other : eqb c 13 ≡ false = ne_eqb c 13 (λ f. omega (arith, feed, f)) in
    subst (λ (t : Bool). 0 < length (cond (t && begins_with_feed rest) (without_returns_before_feeds rest) (c ∷ without_returns_before_feeds rest))) (sym other) (omega arith)

-- of some bytes some are left
pub kept-some : (b : ℕ) (rest : List ℕ) → 0 < length (without_returns_before_feeds (b ∷ rest))
kept-some b rest = go (eqb b 13 && begins_with_feed rest) refl where
  go : (t : Bool) → (eqb b 13 && begins_with_feed rest) ≡ t → 0 < length (cond t (without_returns_before_feeds rest) (b ∷ without_returns_before_feeds rest))
  go true e = feed_stays rest (and_parts (eqb b 13) (begins_with_feed rest) e).1
  go false e = omega arith
