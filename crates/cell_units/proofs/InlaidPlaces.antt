-- The places of a layer with inlays and without folds: an offset and the lengths of the inlays before it.
use Rattle.std.proofs.Common.{◌≡◌, ℕ, ◌+◌, ◌<◌, ◌≤◌, suc, zero, Bool, true, false, cond, ltb, leb, eqb, List, [], ◌∷◌, ◌++◌, length, map, take, get_or, filter, flat_map, refl, sym, ap, ◌∙◌, subst, inl, inr, arith, append-nil}
use Rattle.std.specs.List.{sum_by}
use Rattle.std.proofs.lemmas.Bool.{cases_order, eq-eqb, le-leb, le-ltb, lt-leb, lt-ltb, ne_eqb}
use Rattle.std.proofs.lemmas.List.{length-take-le, take_more}
use Rattle.std.proofs.lemmas.List.Sums.{sum_by-cons}
use Rattle.cell_units.specs.declared.place.Bias.{Bias}
use Rattle.cell_units.specs.declared.place.Bias.TheVariants.{Left, Right}
use Rattle.cell_units.specs.Text.{clean}
use Rattle.cell_units.specs.Record.{Inlay}
use Rattle.cell_units.specs.Inlaid.{Token, Byte, InlayByte, inlaid_place, inlay_bytes, inlays_at, show_each}
use Rattle.cell_units.specs.Folded.{folded_place, shown}
use Rattle.cell_units.specs.Layers.{inlay_source, place_of}
use Rattle.cell_units.specs.Laws.{inlaid_bytes}
use Rattle.cell_units.proofs.ShownText.{show_each-append, size, size-append}

size-inlay : (o id : ℕ) (bs : List ℕ) → size (map (InlayByte o id) bs) ≡ length bs
size-inlay o id [] = refl
size-inlay o id (b ∷ bs) = ap suc (size-inlay o id bs)

abbrev long : Inlay → ℕ
long i = length (clean i.text)

-- the inlays that pass a test have the bytes of their texts
size-inlays : (test : Inlay → Bool) (inlays : List Inlay) → size (flat_map inlay_bytes (filter test inlays)) ≡ inlaid_bytes test inlays
size-inlays test [] = refl
size-inlays test (i ∷ is) = go (test i) (size-inlays test is) where
  go : (c : Bool) → size (flat_map inlay_bytes (filter test is)) ≡ inlaid_bytes test is →
      size (flat_map inlay_bytes (cond c (i ∷ filter test is) (filter test is))) ≡ sum_by long (cond c (i ∷ filter test is) (filter test is))
  go true h = omega (arith, size-append (inlay_bytes i) (flat_map inlay_bytes (filter test is)), size-inlay i.offset i.id (clean i.text), h, sum_by-cons long i (filter test is))
  go false h = h

abbrev one : Bool → ℕ
one c = cond c 1 0

-- those that pass one of two tests that exclude each other
either : (p q r : Inlay → Bool) → ((i : Inlay) → one (r i) ≡ one (p i) + one (q i)) → (inlays : List Inlay) →
    inlaid_bytes r inlays ≡ inlaid_bytes p inlays + inlaid_bytes q inlays
either p q r h [] = refl
either p q r h (i ∷ is) = go (p i) (q i) (r i) (h i) (either p q r h is) where
  go : (a b c : Bool) → one c ≡ one a + one b → inlaid_bytes r is ≡ inlaid_bytes p is + inlaid_bytes q is →
      sum_by long (cond c (i ∷ filter r is) (filter r is)) ≡ sum_by long (cond a (i ∷ filter p is) (filter p is)) + sum_by long (cond b (i ∷ filter q is) (filter q is))
  go true true c e rest = absurd (two c e) where
    two : (c : Bool) → one c ≡ 2 → ⊥
    two true e = omega arith
    two false e = omega arith
  go true false true e rest = omega (arith, rest, sum_by-cons long i (filter r is), sum_by-cons long i (filter p is))
  go false true true e rest = omega (arith, rest, sum_by-cons long i (filter r is), sum_by-cons long i (filter q is))
  go true false false e rest = absurd (omega arith)
  go false true false e rest = absurd (omega arith)
  go false false true e rest = absurd (omega arith)
  go false false false e rest = rest

below-next : (k x : ℕ) → one (ltb x (k + 1)) ≡ one (ltb x k) + one (eqb x k)
below-next k x = elim (cases_order x k) [
  | inl e ↦ (λ i. one (lt-ltb x (k + 1) (omega (arith, e)) i)) ∙ (λ i. one (sym (le-ltb x k (omega (arith, e))) i) + one (sym (eq-eqb x k e) i))
  | inr far ↦ elim far [
    | inl l ↦ (λ i. one (lt-ltb x (k + 1) (omega (arith, l)) i)) ∙ (λ i. one (sym (lt-ltb x k l) i) + one (sym (ne_eqb x k (λ e. omega (arith, e, l))) i))
    | inr g ↦ (λ i. one (le-ltb x (k + 1) (omega (arith, g)) i)) ∙ (λ i. one (sym (le-ltb x k (omega (arith, g))) i) + one (sym (ne_eqb x k (λ e. omega (arith, e, g))) i))
  ]
]

upto-next : (k x : ℕ) → one (leb x k) ≡ one (ltb x k) + one (eqb x k)
upto-next k x = elim (cases_order x k) [
  | inl e ↦ (λ i. one (le-leb x k (omega (arith, e)) i)) ∙ (λ i. one (sym (le-ltb x k (omega (arith, e))) i) + one (sym (eq-eqb x k e) i))
  | inr far ↦ elim far [
    | inl l ↦ (λ i. one (le-leb x k (omega (arith, l)) i)) ∙ (λ i. one (sym (lt-ltb x k l) i) + one (sym (ne_eqb x k (λ e. omega (arith, e, l))) i))
    | inr g ↦ (λ i. one (lt-leb x k g i)) ∙ (λ i. one (sym (le-ltb x k (omega (arith, g))) i) + one (sym (ne_eqb x k (λ e. omega (arith, e, g))) i))
  ]
]

none-below : (inlays : List Inlay) → inlaid_bytes (λ i. ltb i.offset 0) inlays ≡ 0
none-below [] = refl
none-below (i ∷ is) = ap (λ (c : Bool). sum_by long (cond c (i ∷ filter (λ i. ltb i.offset 0) is) (filter (λ i. ltb i.offset 0) is))) (le-ltb i.offset 0 (omega arith)) ∙ none-below is

module _ (text : List ℕ) (inlays : List Inlay) where
  abbrev g : ℕ → ℕ → List Token
  g = shown inlays []

  before_more : (o : ℕ) → o < length text → size (show_each g 0 (take (o + 1) text)) ≡ size (show_each g 0 (take o text)) + size (inlays_at inlays o) + 1
  before_more o lt =
      let at : 0 + length (take o text) ≡ o = omega (arith, length-take-le o text (omega arith)) in
      let b = get_or text o 0 in
      let more : show_each g 0 (take (o + 1) text) ≡ show_each g 0 (take o text) ++ (inlays_at inlays o ++ Byte o b ∷ []) =
      ap (show_each g 0) (take_more text o 0 lt)
      ∙ show_each-append g 0 (take o text) (b ∷ [])
      ∙ (λ i. show_each g 0 (take o text) ++ append-nil (g (at i) b) i) in
      omega (arith, ap size more, size-append (show_each g 0 (take o text)) (inlays_at inlays o ++ Byte o b ∷ []), size-append (inlays_at inlays o) (Byte o b ∷ []))

  -- the left place is after the inlays at lesser offsets
  pub left-is : (o : ℕ) → o ≤ length text → place_of (inlay_source text inlays) o Left ≡ o + inlaid_bytes (λ i. ltb i.offset o) inlays
  left-is zero le = omega (arith, none-below inlays)
  left-is (suc k) le =
      let next : k + 1 ≡ suc k = omega arith in
      let more = before_more k (omega arith) in
      let rest = left-is k (omega arith) in
      let here = size-inlays (λ i. eqb i.offset k) inlays in
      let split = either (λ i. ltb i.offset k) (λ i. eqb i.offset k) (λ i. ltb i.offset (k + 1)) (λ i. below-next k i.offset) inlays in
      let all : size (show_each g 0 (take (k + 1) text)) ≡ k + 1 + inlaid_bytes (λ i. ltb i.offset (k + 1)) inlays = omega (arith, more, rest, here, split) in
      subst (λ (o : ℕ). size (show_each g 0 (take o text)) ≡ o + inlaid_bytes (λ i. ltb i.offset o) inlays) next all

  -- the right place is after those at it too
  pub right-is : (o : ℕ) → o ≤ length text → place_of (inlay_source text inlays) o Right ≡ o + inlaid_bytes (λ i. leb i.offset o) inlays
  right-is o le =
      omega (
        arith,
        left-is o le,
        size-append (show_each g 0 (take o text)) (inlays_at inlays o),
        size-inlays (λ i. eqb i.offset o) inlays,
        either (λ i. ltb i.offset o) (λ i. eqb i.offset o) (λ i. leb i.offset o) (λ i. upto-next o i.offset) inlays,
      )

-- the inlaid text is the folded text without folds
pub inlaid-unfolded : (text : List ℕ) (inlays : List Inlay) (o : ℕ) (bias : Bias) → inlaid_place text inlays o bias ≡ folded_place text inlays [] o bias
inlaid-unfolded text inlays o Left = refl
inlaid-unfolded text inlays o Right = refl
