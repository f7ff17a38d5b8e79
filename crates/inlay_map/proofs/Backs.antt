-- From what is shown back to the text.
use Rattle.std.proofs.Common.{◌≡◌, ℕ, zero, suc, ◌+◌, ◌-◌, ◌<◌, ◌≤◌, ◌&&◌, nat_lt, nat_le, ◌⊎◌, Bool, true, false, List, [], ◌∷◌, ◌++◌, length, map, take, drop, Some, refl, sym, ap, ◌∙◌, inl, inr, arith}
use Rattle.std.specs.List.{slice_get}
use Rattle.std.proofs.lemmas.Bool.{cases_lt}
use Rattle.std.proofs.lemmas.Bool.Decides.{nat_tests}
use Rattle.std.proofs.lemmas.List.{append_assoc, length-append, length-drop, length-map, length-take}
use Rattle.cell_units.specs.declared.place.Bias.{Bias}
use Rattle.cell_units.specs.declared.place.Bias.TheVariants.{Left}
use Rattle.cell_units.specs.Inlaid.{Token, Byte, InlayByte, inlay_bytes, offset_of}
use Rattle.cell_units.specs.Layers.{inlay_source, place_of}
use Rattle.cell_units.specs.Record.{Inlay}
use Rattle.cell_units.specs.Text.{clean, line_feed}
use Rattle.splice_tree.specs.Laws.{AreShown, IsOutside}
use Rattle.splice_tree.specs.Splices.{Stretch, flipped, is_behind, measured, to_lower}
use Rattle.splice_tree.proofs.Carrying.{after, at, begin}
use Rattle.splice_tree.proofs.LawProofs.{end_reached, there_and_back}
use Rattle.inlay_map.specs.Amounts.{bytes_of}
use Rattle.inlay_map.specs.Splices.{splices_from}
use Rattle.inlay_map.proofs.Parts.{parts_from, text_tokens}
use Rattle.inlay_map.proofs.Places.{carried-place}
use Rattle.inlay_map.proofs.Spread.{IsSpread}

module _ (text : List ℕ) where
  abbrev pub stretches : ℕ → List Inlay → List Stretch
  stretches base is = map (measured bytes_of) (splices_from text base is)

  shown-all : (base : ℕ) (is : List Inlay) → AreShown (stretches base is)
  shown-all base [] = tt
  shown-all base (i ∷ is) = ((λ lt. absurd (omega (arith, lt))), shown-all i.offset is)

  outside-all : (base : ℕ) (is : List Inlay) (x : ℕ) → IsOutside (stretches base is) x
  outside-all base [] x = tt
  outside-all base (i ∷ is) x = ((λ lt. omega (arith, lt)), outside-all i.offset is (x - (i.offset - base + 0)))

  -- an offset with this place is the one that the place is carried back to
  pub back-is : (is : List Inlay) (q place : ℕ) (bias : Bias) → IsSpread text 0 is → q ≤ length text → place_of (inlay_source text is) q bias ≡ place → to_lower Left (stretches 0 is) place ≡ q
  back-is is q place bias s le e =
      ap (to_lower Left (stretches 0 is)) (sym (carried-place text bias q is s le ∙ e))
      ∙ there_and_back (stretches 0 is) bias Left q (shown-all 0 is) (outside-all 0 is q)

  -- at a splice of an inlay, from what is shown
  abbrev own : ℕ → Inlay → Stretch
  own base i = record { gap = i.offset - base; old = length (clean i.text); new = 0 }

  -- no place is carried further than it is
  pub lower-le : (base : ℕ) (is : List Inlay) (y : ℕ) → to_lower Left (stretches base is) y ≤ y
  lower-le base [] y = omega arith
  lower-le base (i ∷ is) y = go (is_behind Left (own base i) y) refl (lower-le i.offset is (y - (i.offset - base + length (clean i.text)))) where
    go : (b : Bool) → is_behind Left (own base i) y ≡ b → to_lower Left (stretches i.offset is) (y - (i.offset - base + length (clean i.text))) ≤ y - (i.offset - base + length (clean i.text))
        → to_lower Left (stretches base (i ∷ is)) y ≤ y
    go true e r = omega (arith, after Left (own base i) (map flipped (stretches i.offset is)) y e, r, end_reached Left (own base i) y e)
    go false e r = omega (arith, at Left (own base i) (map flipped (stretches i.offset is)) y e)

  -- ---- what is at a place

  at-text : (o y : ℕ) (bs : List ℕ) (rest : List Token) (t : Token) → y < length bs → slice_get (text_tokens o bs ++ rest) y ≡ Some t → offset_of t ≡ o + y
  at-text o y [] rest t lt e = absurd (omega (arith, lt))
  at-text o zero (b ∷ bs) rest t lt e = ap offset_of (sym (some-same (Byte o b) t e)) ∙ omega arith where
    some-same : (x z : Token) → Some x ≡ Some z → x ≡ z
    some-same x z p = cc
  at-text o (suc y) (b ∷ bs) rest t lt e = omega (arith, at-text (o + 1) y bs rest t (omega (arith, lt)) e)

  at-inlay : (o id y : ℕ) (bs : List ℕ) (rest : List Token) (t : Token) → y < length bs → slice_get (map (λ b. InlayByte o id b) bs ++ rest) y ≡ Some t → offset_of t ≡ o
  at-inlay o id y [] rest t lt e = absurd (omega (arith, lt))
  at-inlay o id zero (b ∷ bs) rest t lt e = ap offset_of (sym (some-same (InlayByte o id b) t e)) where
    some-same : (x z : Token) → Some x ≡ Some z → x ≡ z
    some-same x z p = cc
  at-inlay o id (suc y) (b ∷ bs) rest t lt e = at-inlay o id y bs rest t (omega (arith, lt)) e

  past : {X : Type 0} (xs ys : List X) (y n : ℕ) → length xs ≡ n → n ≤ y → slice_get (xs ++ ys) y ≡ slice_get ys (y - n)
  past [] ys y n long le = let same : y ≡ y - n = omega (arith, long) in ap (slice_get ys) same
  past (x ∷ xs) ys zero n long le = absurd (omega (arith, long, le))
  past (x ∷ xs) ys (suc y) n long le =
      let same : y - length xs ≡ suc y - n = omega (arith, long) in
      past xs ys y (length xs) refl (omega (arith, long, le)) ∙ ap (slice_get ys) same

  length-tokens : (o : ℕ) (bs : List ℕ) → length (text_tokens o bs) ≡ length bs
  length-tokens o [] = refl
  length-tokens o (b ∷ bs) = ap suc (length-tokens (o + 1) bs)

  abbrev closing : Token
  closing = Byte (length text) line_feed

  at-end : (y : ℕ) (t : Token) → slice_get (closing ∷ []) y ≡ Some t → (t ≡ closing) × (y ≡ 0)
  at-end zero t e = (sym (some-same closing t e), refl) where
    some-same : (x z : Token) → Some x ≡ Some z → x ≡ z
    some-same x z p = cc
  at-end (suc y) t e = absurd (none y e) where
    none : (k : ℕ) → slice_get [] k ≡ Some t → ⊥
    none zero p = cc
    none (suc k) p = cc

  -- the offset of what is at a place is the one that the place is carried back to
  pub offset-is : (base : ℕ) (is : List Inlay) (y : ℕ) (t : Token) → IsSpread text base is → base ≤ length text
      → slice_get (parts_from text base is ++ closing ∷ []) y ≡ Some t → base + to_lower Left (stretches base is) y ≡ offset_of t
  offset-is base [] y t s le e = elim (cases_lt y (length (drop base text))) [
    | inl lt ↦ sym (at-text base y (drop base text) (closing ∷ []) t lt e)
    | inr ge ↦
        let last = at-end (y - length (drop base text)) t (sym (past (text_tokens base (drop base text)) (closing ∷ []) y (length (drop base text)) (length-tokens base (drop base text)) ge) ∙ e) in
        omega (arith, last.1, ge, length-drop base text, le, ap offset_of last.0)
  ]
  offset-is base (i ∷ is) y t s le e =
      go (is_behind Left (own base i) y) refl (cases_lt y (i.offset - base)) (cases_lt (y - (i.offset - base)) (length (clean i.text)))
      (offset-is i.offset is (y - (i.offset - base) - length (clean i.text)) t s.3 s.1)
    where
      front : List Token
      front = text_tokens base (take (i.offset - base) (drop base text))

      rest : List Token
      rest = parts_from text i.offset is ++ closing ∷ []

      long : length front ≡ i.offset - base
      long = omega (arith, length-tokens base (take (i.offset - base) (drop base text)), length-take (i.offset - base) (drop base text), length-drop base text, s.0, s.1)

      whole : slice_get (front ++ (inlay_bytes i ++ rest)) y ≡ Some t
      whole = ap (λ l. slice_get l y) (sym (append_assoc front (inlay_bytes i ++ parts_from text i.offset is) (closing ∷ []) ∙ ap (λ l. front ++ l) (append_assoc (inlay_bytes i) (parts_from text i.offset is) (closing ∷ [])))) ∙ e

      behind : i.offset - base ≤ y → slice_get (inlay_bytes i ++ rest) (y - (i.offset - base)) ≡ Some t
      behind ge = sym (past front (inlay_bytes i ++ rest) y (i.offset - base) long ge) ∙ whole

      further : i.offset - base ≤ y → length (clean i.text) ≤ y - (i.offset - base) → slice_get rest (y - (i.offset - base) - length (clean i.text)) ≡ Some t
      further ge more =
          sym (past (inlay_bytes i) rest (y - (i.offset - base)) (length (clean i.text)) (length-map (clean i.text) (λ (b : ℕ). InlayByte i.offset i.id b)) more) ∙ behind ge

      go : (b : Bool) → is_behind Left (own base i) y ≡ b → (y < i.offset - base) ⊎ (i.offset - base ≤ y) → (y - (i.offset - base) < length (clean i.text)) ⊎ (length (clean i.text) ≤ y - (i.offset - base))
          → (slice_get rest (y - (i.offset - base) - length (clean i.text)) ≡ Some t → i.offset + to_lower Left (stretches i.offset is) (y - (i.offset - base) - length (clean i.text)) ≡ offset_of t)
          → base + to_lower Left (stretches base (i ∷ is)) y ≡ offset_of t
      go true h x z next =
          let end = end_reached Left (own base i) y h in
          let same : y - (i.offset - base) - length (clean i.text) ≡ y - (i.offset - base + length (clean i.text)) = omega arith in
          omega (arith, after Left (own base i) (map flipped (stretches i.offset is)) y h, next (further (omega (arith, end)) (omega (arith, end))), ap (to_lower Left (stretches i.offset is)) same, s.0)
      go false h (inl lt) z next =
          omega (arith, at Left (own base i) (map flipped (stretches i.offset is)) y h, at-text base y (take (i.offset - base) (drop base text)) (inlay_bytes i ++ rest) t (omega (arith, lt, length-take (i.offset - base) (drop base text), length-drop base text, s.1)) whole)
      go false h (inr ge) (inl lt) next =
          omega (arith, at Left (own base i) (map flipped (stretches i.offset is)) y h, at-inlay i.offset i.id (y - (i.offset - base)) (clean i.text) rest t lt (behind ge), s.0, ge)
      go false h (inr ge) (inr more) next =
          let none : y - (i.offset - base) - length (clean i.text) ≡ 0 = none-left (i.offset - base) (length (clean i.text)) y h in
          omega (arith, at Left (own base i) (map flipped (stretches i.offset is)) y h, next (further ge more), ap (to_lower Left (stretches i.offset is)) none, begin (map flipped (stretches i.offset is)), s.0, ge)
        where
          none-left : (g n x : ℕ) → (nat_lt g x && nat_le (g + n) x) ≡ false → x - g - n ≡ 0
          none-left g n x p = grind (arith, nat_tests)

  -- and it is one of the text where the place is one of what is shown
  pub lower-within : (base : ℕ) (is : List Inlay) (y : ℕ) → IsSpread text base is → base ≤ length text → y ≤ length (parts_from text base is) → base + to_lower Left (stretches base is) y ≤ length text
  lower-within base [] y s le in' = omega (arith, le, in', length-tokens base (drop base text), length-drop base text)
  lower-within base (i ∷ is) y s le in' =
      go (is_behind Left (own base i) y) refl (lower-within i.offset is (y - (i.offset - base + length (clean i.text))) s.3 s.1)
    where
      long : length (parts_from text base (i ∷ is)) ≡ i.offset - base + length (clean i.text) + length (parts_from text i.offset is)
      long =
          omega (
            arith,
            length-append (text_tokens base (take (i.offset - base) (drop base text))) (inlay_bytes i ++ parts_from text i.offset is),
            length-append (inlay_bytes i) (parts_from text i.offset is),
            length-map (clean i.text) (λ (b : ℕ). InlayByte i.offset i.id b),
            length-tokens base (take (i.offset - base) (drop base text)),
            length-take (i.offset - base) (drop base text),
            length-drop base text,
            s.0,
            s.1,
          )

      go : (b : Bool) → is_behind Left (own base i) y ≡ b → (y - (i.offset - base + length (clean i.text)) ≤ length (parts_from text i.offset is) → i.offset + to_lower Left (stretches i.offset is) (y - (i.offset - base + length (clean i.text))) ≤ length text)
          → base + to_lower Left (stretches base (i ∷ is)) y ≤ length text
      go true e r = omega (arith, after Left (own base i) (map flipped (stretches i.offset is)) y e, r (omega (arith, in', long)), s.0)
      go false e r = omega (arith, at Left (own base i) (map flipped (stretches i.offset is)) y e, s.0, s.1)
