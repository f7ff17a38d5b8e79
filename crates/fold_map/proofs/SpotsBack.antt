-- The offsets of a place: those of the place of the lower layer, and none strictly inside a placeholder.
use Rattle.std.proofs.Common.{◌≡◌, ℕ, suc, zero, ◌+◌, ◌-◌, ◌<◌, ◌≤◌, ◌⊎◌, ◌↔◌, true, false, List, [], ◌∷◌, map, length, take, Some, refl, sym, ap, ◌∙◌, subst, inl, inr, arith}
use Rattle.std.specs.List.{slice_get}
use Rattle.std.proofs.lemmas.Bool.{cases_lt, false≢true}
use Rattle.cell_units.specs.declared.place.Bias.{Bias}
use Rattle.cell_units.specs.declared.place.Bias.TheVariants.{Left, Right}
use Rattle.cell_units.specs.Record.{Fold, Inlay}
use Rattle.cell_units.specs.Folded.{inside}
use Rattle.cell_units.specs.Layers.{HasPlace, Source, place_of, unfolded}
use Rattle.cell_units.proofs.Joined.{covered_inside}
use Rattle.cell_units.proofs.ShownPlaces.{places-left_first, places-rise}
use Rattle.joined_folds.specs.declared.joined_fold.JoinedFold.{JoinedFold}
use Rattle.joined_folds.specs.JoinedLists.{AreJoined, EndBy}
use Rattle.joined_folds.proofs.JoinedLists.{covered_past, joined-order}
use Rattle.sum_core.specs.declared.load.NoLoad.{NoLoad}
use Rattle.splice_tree.specs.Laws.{AreShown, IsOutside}
use Rattle.splice_tree.specs.Splices.{Piece, Stretch, flipped, is_behind, measured, to_lower, to_upper}
use Rattle.splice_tree.proofs.Carrying.{after, kept}
use Rattle.splice_tree.proofs.LawProofs.{there_and_back}
use Rattle.sum_tree.specs.Firsts.{IsReaching}
use Rattle.fold_map.specs.declared.amount.Amount.{Amount}
use Rattle.fold_map.specs.Amounts.{bytes_of}
use Rattle.fold_map.specs.Splices.{AreSplices, splices_from}
use Rattle.fold_map.proofs.Places.{behind-left, behind-right, carried-place, low-apart}
use Rattle.fold_map.proofs.ShownSplices.{sums}

-- ---- stretches, each of which takes something out and puts something in

abbrev pub AreSome : List Stretch → Type 0
AreSome [] = Unit {0}
AreSome (s ∷ ss) = (0 < s.old) × (0 < s.new) × AreSome ss

-- how much is before the one of an index, on the one side and on the other
abbrev pub lower_to : List Stretch → ℕ → ℕ
lower_to [] n = 0
lower_to (s ∷ ss) zero = 0
lower_to (s ∷ ss) (suc n) = s.gap + s.old + lower_to ss n

abbrev pub upper_to : List Stretch → ℕ → ℕ
upper_to ss n = lower_to (map flipped ss) n

-- so much after those before the index is still in the gap
abbrev pub IsInGap : List Stretch → ℕ → ℕ → Type 0
IsInGap [] n r = Unit {0}
IsInGap (s ∷ ss) zero r = r ≤ s.gap
IsInGap (s ∷ ss) (suc n) r = IsInGap ss n r

-- so much after those before the index is strictly inside what is taken out
abbrev pub IsWithin : List Stretch → ℕ → ℕ → Type 0
IsWithin [] n r = ⊥
IsWithin (s ∷ ss) zero r = (s.gap < r) × (r < s.gap + s.old)
IsWithin (s ∷ ss) (suc n) r = IsWithin ss n r

are-shown : (ss : List Stretch) → AreSome ss → AreShown ss
are-shown [] a = tt
are-shown (s ∷ ss) a = ((λ lt. a.1), are-shown ss a.2)

outside-none : (ss : List Stretch) → IsOutside ss 0
outside-none [] = tt
outside-none (s ∷ ss) =
    let none : 0 ≡ 0 - (s.gap + s.old) = omega arith in
    ((λ lt. absurd (omega (arith, lt))), subst (IsOutside ss) none (outside-none ss))

reaches : (bias : Bias) (x g o : ℕ) → 0 < o → x ≤ g → IsReaching bias x (g + o)
reaches Left x g o some le = omega (arith, le)
reaches Right x g o some le = omega (arith, some, le)

is-behind : (bias : Bias) (s : Stretch) (x n : ℕ) → 0 < s.old → x ≡ s.gap + s.old + n → is_behind bias s x ≡ true
is-behind Left s x n some e = behind-left s.gap (s.gap + s.old) x (omega (arith, some, e)) (omega (arith, e))
is-behind Right s x n some e = behind-right (s.gap + s.old) x (omega (arith, e))

-- where a place in a gap goes
pub gap-kept : (bias : Bias) (ss : List Stretch) (n r : ℕ) → AreSome ss → IsInGap ss n r → to_upper bias ss (lower_to ss n + r) ≡ upper_to ss n + r
gap-kept bias [] n r a h = refl
gap-kept bias (s ∷ ss) zero r a h =
    let same : 0 + r ≡ r = omega arith in
    ap (to_upper bias (s ∷ ss)) same ∙ kept bias s ss r (reaches bias r s.gap s.old a.0 h) h ∙ sym same
gap-kept bias (s ∷ ss) (suc n) r a h =
    let x = s.gap + s.old + lower_to ss n + r in
    let rest : x - (s.gap + s.old) ≡ lower_to ss n + r = omega arith in
    after bias s ss x (is-behind bias s x (lower_to ss n + r) a.0 (omega arith))
    ∙ ap (λ (k : ℕ). s.gap + s.new + to_upper bias ss k) rest
    ∙ omega (arith, gap-kept bias ss n r a.2 h)

-- and it is outside of all that is taken out
pub gap-outside : (ss : List Stretch) (n r : ℕ) → AreSome ss → IsInGap ss n r → IsOutside ss (lower_to ss n + r)
gap-outside [] n r a h = tt
gap-outside (s ∷ ss) zero r a h =
    let none : 0 ≡ 0 + r - (s.gap + s.old) = omega (arith, h) in
    ((λ lt. absurd (omega (arith, lt, h))), subst (IsOutside ss) none (outside-none ss))
gap-outside (s ∷ ss) (suc n) r a h =
    let rest : lower_to ss n + r ≡ s.gap + s.old + lower_to ss n + r - (s.gap + s.old) = omega arith in
    ((λ lt. omega arith), subst (IsOutside ss) rest (gap-outside ss n r a.2 h))

-- what is strictly inside isn't
not-outside : (ss : List Stretch) (n r : ℕ) → IsWithin ss n r → IsOutside ss (lower_to ss n + r) → ⊥
not-outside [] n r h o = absurd h
not-outside (s ∷ ss) zero r h o = let le = o.0 (omega (arith, h.0)) in omega (arith, le, h.1)
not-outside (s ∷ ss) (suc n) r h o =
    let rest : s.gap + s.old + lower_to ss n + r - (s.gap + s.old) ≡ lower_to ss n + r = omega arith in
    not-outside ss n r h (subst (IsOutside ss) rest o.1)

-- what is outside goes to what is outside
carried-outside : (bias : Bias) (ss : List Stretch) (x : ℕ) → AreSome ss → IsOutside ss x → IsOutside (map flipped ss) (to_upper bias ss x)
carried-outside bias [] x a o = tt
carried-outside bias (s ∷ ss) x a o = go (cases_lt s.gap x) (carried-outside bias ss (x - (s.gap + s.old)) a.2 o.1) where
  go : (s.gap < x) ⊎ (x ≤ s.gap) → IsOutside (map flipped ss) (to_upper bias ss (x - (s.gap + s.old))) → IsOutside (map flipped (s ∷ ss)) (to_upper bias (s ∷ ss) x)
  go (inl lt) next =
      let le = o.0 lt in
      let rest = to_upper bias ss (x - (s.gap + s.old)) in
      let there : to_upper bias (s ∷ ss) x ≡ s.gap + s.new + rest = after bias s ss x (is-behind bias s x (x - (s.gap + s.old)) a.0 (omega (arith, le))) in
      let back : rest ≡ s.gap + s.new + rest - (s.gap + s.new) = omega arith in
      subst (IsOutside (map flipped (s ∷ ss))) (sym there) ((λ l. omega arith), subst (IsOutside (map flipped ss)) back next)
  go (inr le) next =
      let there : to_upper bias (s ∷ ss) x ≡ x = kept bias s ss x (reaches bias x s.gap s.old a.0 le) le in
      let none : 0 ≡ x - (s.gap + s.new) = omega (arith, le) in
      subst (IsOutside (map flipped (s ∷ ss))) (sym there) ((λ lt. absurd (omega (arith, lt, le))), subst (IsOutside (map flipped ss)) none (outside-none (map flipped ss)))

-- ---- places of offsets

module _ (text : List ℕ) (inlays : List Inlay) where
  abbrev low : Source
  low = record { text = text; inlays = inlays; folds = [] }

  abbrev ss : ℕ → List JoinedFold → List Stretch
  ss base js = map (measured bytes_of) (splices_from low base js)

  module _ (folds : List Fold) (ends : EndBy folds (length text)) where
    places-some : (base : ℕ) (js : List JoinedFold) → AreJoined folds base js (length text) → AreSome (ss base js)
    places-some base [] a = tt
    places-some base (j ∷ js) a =
        let some = a.0.some in
        let within = joined-order folds j.end js (length text) a.1 in
        (omega (arith, low-apart text inlays j.start j.end some within), omega arith, places-some j.end js a.1)

    abbrev far : ℕ → ℕ → Bias → ℕ
    far base o bias = place_of low o bias - place_of low base Left

    at-most : (o p : ℕ) (bias : Bias) → o ≤ p → p ≤ length text → place_of low o bias ≤ place_of low p Right
    at-most o p Left le within = omega (arith, places-rise low o p Left le within, places-left_first low p)
    at-most o p Right le within = places-rise low o p Right le within

    at-least : (o p : ℕ) (bias : Bias) → o ≤ p → p ≤ length text → place_of low o Left ≤ place_of low p bias
    at-least o p Left le within = places-rise low o p Left le within
    at-least o p Right le within = omega (arith, places-rise low o p Left le within, places-left_first low p)

    module _ (o : ℕ) (bias : Bias) (u : o ≤ length text) where
      behind-next : (base : ℕ) (j : JoinedFold) (js : List JoinedFold) → AreJoined folds base (j ∷ js) (length text) → j.end ≤ o
          → (place_of low j.start Right - place_of low base Left + (place_of low j.end Left - place_of low j.start Right) ≤ far base o bias)
          × (far base o bias - (place_of low j.start Right - place_of low base Left + (place_of low j.end Left - place_of low j.start Right)) ≡ far j.end o bias)
      behind-next base j js a le =
          let some = a.0.some in
          let order = a.0.order in
          let within = joined-order folds j.end js (length text) a.1 in
          let p1 = low-apart text inlays j.start j.end some within in
          let p2 = at-most base j.start Left order (omega (arith, some, within)) in
          let p3 = at-least j.end o bias le u in
          (omega (arith, p1, p2, p3), omega (arith, p1, p2, p3))

      before-next : (base : ℕ) (j : JoinedFold) (js : List JoinedFold) → AreJoined folds base (j ∷ js) (length text) → o ≤ j.start → far base o bias ≤ place_of low j.start Right - place_of low base Left
      before-next base j js a le =
          let some = a.0.some in
          let within = joined-order folds j.end js (length text) a.1 in
          omega (arith, at-most o j.start bias le (omega (arith, some, within)))

      -- an open offset has its places outside of what is hidden
      open-outside : (base : ℕ) (js : List JoinedFold) → AreJoined folds base js (length text) → base ≤ o → inside folds o ≡ false → IsOutside (ss base js) (far base o bias)
      open-outside base [] a l out = tt
      open-outside base (j ∷ js) a l out = go (cases_lt j.start o) (cases_lt o j.end) (open-outside j.end js a.1) where
        go : (j.start < o) ⊎ (o ≤ j.start) → (o < j.end) ⊎ (j.end ≤ o) → (j.end ≤ o → inside folds o ≡ false → IsOutside (ss j.end js) (far j.end o bias)) → IsOutside (ss base (j ∷ js)) (far base o bias)
        go (inl x) (inl y) next = absurd (false≢true (sym out ∙ a.0.shows.2 o x y))
        go (inl x) (inr y) next =
            let b = behind-next base j js a y in
            ((λ lt. b.0), subst (IsOutside (ss j.end js)) (sym b.1) (next y out))
        go (inr x) y next =
            let le = before-next base j js a x in
            let none : 0 ≡ far base o bias - (place_of low j.start Right - place_of low base Left + (place_of low j.end Left - place_of low j.start Right)) = omega (arith, le) in
            ((λ lt. absurd (omega (arith, le, lt))), subst (IsOutside (ss j.end js)) none (outside-none (ss j.end js)))

      -- and the other way round
      outside-open : (base : ℕ) (js : List JoinedFold) → AreJoined folds base js (length text) → base ≤ o → IsOutside (ss base js) (far base o bias) → inside folds o ≡ false
      outside-open base [] a l out = go (cases_lt o (length text)) where
        go : (o < length text) ⊎ (length text ≤ o) → inside folds o ≡ false
        go (inl x) = covered_inside folds o (a.1 o l x)
        go (inr x) = covered_inside folds o (covered_past folds (length text) o ends x)
      outside-open base (j ∷ js) a l out = go (cases_lt o j.start) (cases_lt j.start o) (cases_lt o j.end) (outside-open j.end js a.1) where
        some : j.start < j.end
        some = a.0.some

        order : base ≤ j.start
        order = a.0.order

        within : j.end ≤ length text
        within = joined-order folds j.end js (length text) a.1

        go : (o < j.start) ⊎ (j.start ≤ o) → (j.start < o) ⊎ (o ≤ j.start) → (o < j.end) ⊎ (j.end ≤ o) → (j.end ≤ o → IsOutside (ss j.end js) (far j.end o bias) → inside folds o ≡ false) → inside folds o ≡ false
        go (inl x) _ _ next = covered_inside folds o (a.0.bare o l x)
        go (inr x) (inr y) _ next = let e : j.start ≡ o = omega (arith, x, y) in subst (λ (k : ℕ). inside folds k ≡ false) e a.0.shows.1
        go (inr x) (inl y) (inr z) next = next z (subst (IsOutside (ss j.end js)) (behind-next base j js a z).1 out.1)
        go (inr x) (inl y) (inl z) next =
            let after-start = low-apart text inlays j.start o y u in
            let before-end = low-apart text inlays o j.end z within in
            let first = at-most base j.start Left order (omega (arith, some, within)) in
            let p1 = low-apart text inlays j.start j.end some within in
            let from = at-least o o bias (omega arith) u in
            let to = at-most o o bias (omega arith) u in
            let le = out.0 (omega (arith, after-start, from, first)) in
            absurd (omega (arith, le, before-end, to, first, p1, after-start, from))

-- ---- the place of a spot

-- the stretches of splices
abbrev pub bytes_in : List (Piece Amount NoLoad) → List Stretch
bytes_in ps = map (measured bytes_of) ps

pub lower-sums : (ps : List (Piece Amount NoLoad)) (n : ℕ) → lower_to (bytes_in ps) n ≡ (sums (take n ps)).lower.bytes
lower-sums [] zero = refl
lower-sums [] (suc n) = refl
lower-sums (p ∷ ps) zero = refl
lower-sums (p ∷ ps) (suc n) = ap (λ (k : ℕ). p.gap.bytes + p.old.bytes + k) (lower-sums ps n)

pub upper-sums : (ps : List (Piece Amount NoLoad)) (n : ℕ) → upper_to (bytes_in ps) n ≡ (sums (take n ps)).upper.bytes
upper-sums [] zero = refl
upper-sums [] (suc n) = refl
upper-sums (p ∷ ps) zero = refl
upper-sums (p ∷ ps) (suc n) = ap (λ (k : ℕ). p.gap.bytes + p.new.bytes + k) (upper-sums ps n)

-- in the gap before the splice of an index, or after all
pub in-gap : (ps : List (Piece Amount NoLoad)) (n r : ℕ) → ((p : Piece Amount NoLoad) → slice_get ps n ≡ Some p → r ≤ p.gap.bytes) → IsInGap (bytes_in ps) n r
in-gap [] n r h = tt
in-gap (p ∷ ps) zero r h = h p refl
in-gap (p ∷ ps) (suc n) r h = in-gap ps n r h

pub in-placeholder : (ps : List (Piece Amount NoLoad)) (n r : ℕ) (p : Piece Amount NoLoad) → slice_get ps n ≡ Some p → p.gap.bytes < r → r < p.gap.bytes + p.new.bytes
    → IsWithin (map flipped (bytes_in ps)) n r
in-placeholder [] zero r p e l u = absurd (cc)
in-placeholder [] (suc n) r p e l u = absurd (cc)
in-placeholder (q ∷ qs) zero r p e l u = subst (λ (t : Piece Amount NoLoad). (t.gap.bytes < r) × (r < t.gap.bytes + t.new.bytes)) (sym same) (l, u) where
  same : q ≡ p
  same = cc
in-placeholder (q ∷ qs) (suc n) r p e l u = in-placeholder qs n r p e l u

module _ (s : Source) (ps : List (Piece Amount NoLoad)) (are : AreSplices s ps) where
  some-out : AreSome (bytes_in ps)
  some-out = subst (λ (qs : List (Piece Amount NoLoad)). AreSome (bytes_in qs)) (sym are.spliced) (places-some s.text s.inlays s.folds are.all.0 0 are.joined are.all.1)

  zero-far : (o : ℕ) (bias : Bias) → far s.text s.inlays s.folds are.all.0 0 o bias ≡ place_of (unfolded s) o bias
  zero-far o bias = omega arith

  pub carried : (o : ℕ) (bias : Bias) → o ≤ length s.text → place_of s o bias ≡ to_upper bias (bytes_in ps) (place_of (unfolded s) o bias)
  carried o bias u = carried-place s.text s.inlays s.folds are.joined o bias are.all u ∙ ap (λ (qs : List (Piece Amount NoLoad)). to_upper bias (bytes_in qs) (place_of (unfolded s) o bias)) (sym are.spliced)

  outside-of : (o : ℕ) (bias : Bias) → o ≤ length s.text → inside s.folds o ≡ false → IsOutside (bytes_in ps) (place_of (unfolded s) o bias)
  outside-of o bias u out =
      subst (λ (qs : List (Piece Amount NoLoad)). IsOutside (bytes_in qs) (place_of (unfolded s) o bias)) (sym are.spliced)
      (subst (IsOutside (bytes_in (splices_from (unfolded s) 0 are.joined))) (zero-far o bias)
      (open-outside s.text s.inlays s.folds are.all.0 o bias u 0 are.joined are.all.1 (omega arith) out))

  open-of : (o : ℕ) (bias : Bias) → o ≤ length s.text → IsOutside (bytes_in ps) (place_of (unfolded s) o bias) → inside s.folds o ≡ false
  open-of o bias u out =
      outside-open s.text s.inlays s.folds are.all.0 o bias u 0 are.joined are.all.1 (omega arith)
      (subst (IsOutside (bytes_in (splices_from (unfolded s) 0 are.joined))) (sym (zero-far o bias))
      (subst (λ (qs : List (Piece Amount NoLoad)). IsOutside (bytes_in qs) (place_of (unfolded s) o bias)) are.spliced out))

  module _ (n r : ℕ) where
    abbrev lower : ℕ
    lower = (sums (take n ps)).lower.bytes

    abbrev upper : ℕ
    upper = (sums (take n ps)).upper.bytes

    -- a place in a gap has the offsets that it has in the lower layer
    pub offsets-below : ((p : Piece Amount NoLoad) → slice_get ps n ≡ Some p → r ≤ p.gap.bytes) → (o : ℕ) → HasPlace s (upper + r) o ↔ HasPlace (unfolded s) (lower + r) o
    offsets-below h o = (down, up) where
      gap : IsInGap (bytes_in ps) n r
      gap = in-gap ps n r h

      there : (bias : Bias) → to_upper bias (bytes_in ps) (lower + r) ≡ upper + r
      there bias = (λ i. to_upper bias (bytes_in ps) (sym (lower-sums ps n) i + r)) ∙ gap-kept bias (bytes_in ps) n r some-out gap ∙ (λ i. upper-sums ps n i + r)

      outside : IsOutside (bytes_in ps) (lower + r)
      outside = subst (λ (k : ℕ). IsOutside (bytes_in ps) (k + r)) (lower-sums ps n) (gap-outside (bytes_in ps) n r some-out gap)

      down : HasPlace s (upper + r) o → HasPlace (unfolded s) (lower + r) o
      down h =
          let u = h.0.0.0 in
          let bias = h.1 in
          let x = place_of (unfolded s) o bias in
          let back : x ≡ lower + r =
          sym (there_and_back (bytes_in ps) bias bias x (are-shown (bytes_in ps) some-out) (outside-of o bias u h.0.1))
          ∙ ap (to_lower bias (bytes_in ps)) (sym (carried o bias u) ∙ h.2 ∙ sym (there bias))
          ∙ there_and_back (bytes_in ps) bias bias (lower + r) (are-shown (bytes_in ps) some-out) outside in
          ((h.0.0, refl), bias, back)

      up : HasPlace (unfolded s) (lower + r) o → HasPlace s (upper + r) o
      up h =
          let u = h.0.0.0 in
          let bias = h.1 in
          ((h.0.0, open-of o bias u (subst (IsOutside (bytes_in ps)) (sym h.2) outside)), bias, carried o bias u ∙ ap (to_upper bias (bytes_in ps)) h.2 ∙ there bias)

    -- no offset has a place strictly inside a placeholder
    pub none-hidden : (p : Piece Amount NoLoad) → slice_get ps n ≡ Some p → p.gap.bytes < r → r < p.gap.bytes + p.new.bytes → (o : ℕ) → HasPlace s (upper + r) o → ⊥
    none-hidden p e l t o h =
        let u = h.0.0.0 in
        let bias = h.1 in
        let there : to_upper bias (bytes_in ps) (place_of (unfolded s) o bias) ≡ upper_to (bytes_in ps) n + r = sym (carried o bias u) ∙ h.2 ∙ (λ i. sym (upper-sums ps n) i + r) in
        not-outside (map flipped (bytes_in ps)) n r (in-placeholder ps n r p e l t)
        (subst (IsOutside (map flipped (bytes_in ps))) there (carried-outside bias (bytes_in ps) (place_of (unfolded s) o bias) some-out (outside-of o bias u h.0.1)))
