-- The laws of texts.
use Rattle.std.proofs.Common.{◌≡◌, ◌≢◌, ℕ, ◌<◌, ◌==◌, ◌&&◌, not, inl, inr, Bool, true, false, ltb, if◌then◌else◌, List, [], ◌∷◌, suc, length, map, slice_index, slice_index_or, refl, ap, sym, subst, arith}
use Rattle.std.specs.Str.{IsUtf8}
use Rattle.std.proofs.lemmas.Bool.{or_cases, and_parts}
use Rattle.std.proofs.lemmas.Bool.Decides.{nat_tests}
use Rattle.std.proofs.lemmas.Str.{IsUtf8-take, IsCharBoundary-from_take}
use Rattle.std.proofs.lemmas.List.Elements.{All-map}
use Rattle.cell_units.specs.Text.{IsBoundary, begins_with_feed, carriage_return, clean, goes_on, is_boundary, line_feed, without_returns_before_feeds}
use Rattle.cell_units.specs.Laws.{HasNoReturn, TellsBoundaries}

-- what a byte becomes in a clean text
abbrev pub fed : ℕ → ℕ
fed b = if b == carriage_return then line_feed else b

fed-no_return : (b : ℕ) → fed b ≢ carriage_return
fed-no_return b = λ h. grind (arith, nat_tests, h)

pub clean-no_return : (bytes : List ℕ) → HasNoReturn (clean bytes)
clean-no_return bytes =
    All-map (λ b. b ≢ carriage_return) fed (without_returns_before_feeds bytes) (λ k d h. fed-no_return (slice_index_or (without_returns_before_feeds bytes) k d))

pub clean-same : (bytes : List ℕ) → HasNoReturn bytes → clean bytes ≡ bytes
clean-same [] none = refl
clean-same (b ∷ rest) none =
    let off : (b == carriage_return) ≡ false = grind (arith, nat_tests, none 0 b (omega arith)) in
    let tail : clean rest ≡ rest = clean-same rest (λ k d h. none (suc k) d (omega (arith, h))) in
    subst (λ (t : Bool). map fed (if t && begins_with_feed rest then without_returns_before_feeds rest else b ∷ without_returns_before_feeds rest) ≡ b ∷ rest) (sym off)
    (subst (λ (t : Bool). (if t then line_feed else b) ∷ clean rest ≡ b ∷ rest) (sym off) (ap (λ (l : List ℕ). b ∷ l) tail))

pub tells_boundaries : (text : List ℕ) → IsUtf8 text → TellsBoundaries text
tells_boundaries text utf8 o = (to, from) where
  to : is_boundary text o ≡ true → IsBoundary text o
  to h = elim (or_cases (o == length text) (ltb o (length text) && not (goes_on (slice_index text o))) h) [
    | inl e ↦ let at_end : o ≡ length text = grind (arith, nat_tests, e) in (omega (arith, at_end), IsUtf8-take text o utf8 (omega (arith, at_end), λ l b. absurd (omega (arith, at_end, l))))
    | inr l ↦
        let parts = and_parts (ltb o (length text)) (not (goes_on (slice_index text o))) l in
        let below : o < length text = grind (arith, nat_tests, parts.0) in
        (omega (arith, below), IsUtf8-take text o utf8 (omega (arith, below), λ l b. grind (arith, nat_tests, parts.1, b)))
  ]

  from : IsBoundary text o → is_boundary text o ≡ true
  from h = let b = IsCharBoundary-from_take text o utf8 h.0 h.1 in grind (arith, nat_tests, h.0, b.1)
