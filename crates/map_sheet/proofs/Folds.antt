-- The joined fold around an offset, from the offsets at its two places.
use Rattle.std.proofs.Common.{◌≡◌, ◌≤◌, ◌+◌, ◌<◌, ℕ, zero, suc, true, false, length, max, min, List, refl, sym, subst, ◌∙◌, inl, inr, arith}
use mathlib.Core.Logic.{◌⊎◌}
use Rattle.std.specs.Prelude.{None, Some}
use Rattle.std.specs.List.{Contains}
use Rattle.std.proofs.lemmas.Bool.{cases_Bool, cases_lt, false≢true}
use Rattle.std.proofs.lemmas.List.Elements.{All-contains}
use Rattle.cell_units.specs.declared.place.Bias.{Bias}
use Rattle.cell_units.specs.declared.place.Bias.TheVariants.{Left, Right}
use Rattle.cell_units.specs.Folded.{covered, inside}
use Rattle.cell_units.specs.Joined.{Chain, IsJoined, Join, One, ShowsPlaceholder}
use Rattle.cell_units.specs.Lawful.{IsFoldOf, IsWellFormed}
use Rattle.cell_units.specs.Layers.{HasPlace, IsBack, IsOpen, Source, place_of}
use Rattle.cell_units.specs.Record.{Fold}
use Rattle.cell_units.specs.Text.{IsBoundary}
use Rattle.cell_units.proofs.Joined.{IsJoined-at, IsJoined-shows, covered_by, inside_by, inside_of}
use Rattle.plain_rows.specs.SpotRows.{HidesAround}

-- the laws of places that are used
pub record PlaceLaws (s : Source) : Type 0 where
  pub rise : (o p : ℕ) (bias : Bias) → o ≤ p → p ≤ length s.text → place_of s o bias ≤ place_of s p bias
  pub left_first : (o : ℕ) → place_of s o Left ≤ place_of s o Right
  pub behind : (start end : ℕ) → IsJoined s.folds start end → start ≤ end → end ≤ length s.text → place_of s end Left ≡ place_of s start Right + 3
  pub within : (start end o : ℕ) → IsJoined s.folds start end → start < o → o < end → end ≤ length s.text →
      (place_of s o Left ≡ place_of s start Right) × (place_of s o Right ≡ place_of s start Right + 3)

-- a chain of folds hides something
chain-some : (folds : List Fold) (s e : ℕ) → Chain folds s e → s < e
chain-some folds s e (One f there some) = some
chain-some folds s e (Join s' e' c f there some over) = omega (arith, chain-some folds s' e' c, some)

-- what is strictly inside folds has a first offset before it that isn't, and a fold starts there
record IsStart (folds : List Fold) (o a : ℕ) : Type 0 where
  before : a < o
  outside : inside folds a ≡ false
  all : (k : ℕ) → a < k → k ≤ o → inside folds k ≡ true

start-of : (folds : List Fold) (o : ℕ) → inside folds o ≡ true → (a : ℕ) × IsStart folds o a
start-of folds zero h = let f = inside_of folds 0 h in absurd (omega (arith, f.2))
start-of folds (suc o) h = go (cases_Bool (inside folds o)) (start-of folds o) where
  here : (k : ℕ) → o < k → k ≤ suc o → inside folds k ≡ true
  here k lt le = let e : suc o ≡ k = omega (arith, lt, le) in subst (λ (n : ℕ). inside folds n ≡ true) e h

  more : {a : ℕ} → ((k : ℕ) → a < k → k ≤ o → inside folds k ≡ true) → (k : ℕ) → a < k → (k < suc o) ⊎ (suc o ≤ k) → k ≤ suc o → inside folds k ≡ true
  more all k lt (inl l) le = all k lt (omega (arith, l))
  more all k lt (inr g) le = here k (omega (arith, g)) le

  go : (inside folds o ≡ true) ⊎ (inside folds o ≡ false) → (inside folds o ≡ true → (a : ℕ) × IsStart folds o a) → (a : ℕ) × IsStart folds (suc o) a
  go (inl t) before =
      let r = before t in
      let is : IsStart folds o r.0 = r.1 in
      (r.0, record { before = omega (arith, is.before); outside = is.outside; all = λ k lt le. more is.all k lt (cases_lt k (suc o)) le })
  go (inr f) before = (o, record { before = omega arith; outside = f; all = λ k lt le. here k lt le })

starts-at : (folds : List Fold) (o a : ℕ) → IsStart folds o a → (f : Fold) → Contains folds f → f.start < suc a → suc a < f.end → (f.start < a) ⊎ (a ≤ f.start) → covered folds a ≡ true
starts-at folds o a is f there before behind (inl lt) = absurd (false≢true (sym is.outside ∙ inside_by folds a f there lt (omega (arith, behind))))
starts-at folds o a is f there before behind (inr le) = covered_by folds a f there (omega (arith, before)) (omega (arith, behind))

placeholder : (folds : List Fold) (o a : ℕ) → IsStart folds o a → ShowsPlaceholder folds a
placeholder folds o a is =
    let f = inside_of folds (suc a) (is.all (suc a) (omega arith) (omega (arith, is.before))) in
    (starts-at folds o a is f.0 f.1 f.2 f.3 (cases_lt f.0.start a), is.outside)

module _ (s : Source) (formed : IsWellFormed s) (laws : PlaceLaws s) where
  fold-of : (f : Fold) → Contains s.folds f → IsFoldOf s.text f
  fold-of f there = All-contains (IsFoldOf s.text) s.folds f formed.folds.each there

  ends : (a e : ℕ) → Chain s.folds a e → IsBoundary s.text a × IsBoundary s.text e
  ends a e (One f there some) = ((fold-of f there).start, (fold-of f there).end)
  ends a e (Join a' e' c f there some over) = both (ends a' e' c) (cases_lt f.start a') (cases_lt e' f.end) where
    least : IsBoundary s.text a' → (f.start < a') ⊎ (a' ≤ f.start) → IsBoundary s.text (min a' f.start)
    least at (inl lt) = let same : f.start ≡ min a' f.start = omega (arith, lt) in subst (IsBoundary s.text) same (fold-of f there).start
    least at (inr le) = let same : a' ≡ min a' f.start = omega (arith, le) in subst (IsBoundary s.text) same at

    most : IsBoundary s.text e' → (e' < f.end) ⊎ (f.end ≤ e') → IsBoundary s.text (max e' f.end)
    most at (inl lt) = let same : f.end ≡ max e' f.end = omega (arith, lt) in subst (IsBoundary s.text) same (fold-of f there).end
    most at (inr le) = let same : e' ≡ max e' f.end = omega (arith, le) in subst (IsBoundary s.text) same at

    both : IsBoundary s.text a' × IsBoundary s.text e' → (f.start < a') ⊎ (a' ≤ f.start) → (e' < f.end) ⊎ (f.end ≤ e') →
        IsBoundary s.text (min a' f.start) × IsBoundary s.text (max e' f.end)
    both rest x y = (least rest.0 x, most rest.1 y)

  record IsAround (o a e : ℕ) : Type 0 where
    joined : IsJoined s.folds a e
    starts : a < o
    behind : o < e
    start : IsOpen s a
    end : IsOpen s e

  around : (o : ℕ) → inside s.folds o ≡ true → (a : ℕ) × (e : ℕ) × IsAround o a e
  around o h =
      let r = start-of s.folds o h in
      let a = r.0 in
      let is : IsStart s.folds o a = r.1 in
      let j = IsJoined-at s.folds a (placeholder s.folds o a is) in
      let e = j.0 in
      let joined : IsJoined s.folds a e = j.1 in
      let shows = IsJoined-shows s.folds a e joined in
      let both = ends a e joined.chain in
      let behind : o < e = elim (cases_lt o e) [
        | inl lt ↦ lt
        | inr le ↦ absurd (false≢true (sym shows.3 ∙ is.all e (chain-some s.folds a e joined.chain) le))
      ] in
      (a, e, record { joined = joined; starts = is.before; behind = behind; start = (both.0, is.outside); end = (both.1, shows.3) })

  -- what is found at the two places of an offset
  module _ (o : ℕ) (boundary : IsBoundary s.text o) where
    -- inside a fold both are there, and are its ends
    module _ (a e : ℕ) (is : IsAround o a e) where
      places : (place_of s o Left ≡ place_of s a Right) × (place_of s o Right ≡ place_of s a Right + 3)
      places = laws.within a e o is.joined is.starts is.behind is.end.0.0

      far : place_of s e Left ≡ place_of s a Right + 3
      far = laws.behind a e is.joined (omega (arith, is.starts, is.behind)) is.end.0.0

      -- an open offset is not strictly between them
      apart : (p : ℕ) → IsOpen s p → (p ≤ a) ⊎ (e ≤ p)
      apart p opened = go (cases_lt a p) (cases_lt p e) where
        go : (a < p) ⊎ (p ≤ a) → (p < e) ⊎ (e ≤ p) → (p ≤ a) ⊎ (e ≤ p)
        go (inr le) _ = inl le
        go (inl lt) (inr ge) = inr ge
        go (inl lt) (inl l) = absurd (false≢true (sym opened.1 ∙ (IsJoined-shows s.folds a e is.joined).2 p lt l))

      left-place : HasPlace s (place_of s o Left) a
      left-place = (is.start, Right, sym places.0)

      right-place : HasPlace s (place_of s o Right) e
      right-place = (is.end, Left, far ∙ sym places.1)

      first-end : (found : ℕ) → IsBack s (place_of s o Left) Right (Some found) → found ≡ a
      first-end found back = go (apart found back.0.0) where
        go : (found ≤ a) ⊎ (e ≤ found) → found ≡ a
        go (inl le) = omega (arith, le, back.1 a left-place)
        go (inr ge) =
            let up = laws.rise e found Left ge back.0.0.0.0 in
            absurd (omega (arith, up, least back.0.1, back.0.2, far, places.0)) where
              least : (bias : Bias) → place_of s found Left ≤ place_of s found bias
              least Left = omega arith
              least Right = laws.left_first found

      last-end : (found : ℕ) → IsBack s (place_of s o Right) Left (Some found) → found ≡ e
      last-end found back = go (apart found back.0.0) where
        go : (found ≤ a) ⊎ (e ≤ found) → found ≡ e
        go (inr ge) = omega (arith, ge, back.1 e right-place)
        go (inl le) =
            let up = laws.rise found a Right le is.start.0.0 in
            absurd (omega (arith, up, most back.0.1, back.0.2, places.1)) where
              most : (bias : Bias) → place_of s found bias ≤ place_of s found Right
              most Right = omega arith
              most Left = laws.left_first found

      hides : HidesAround s.folds o (record { start = a; end = e })
      hides =
          let shows = IsJoined-shows s.folds a e is.joined in
          record { starts = is.starts; ends = is.behind; hides = λ p l g. shows.2 p l g; outside = (is.start.1, is.end.1) }

    -- where no offset is at one of the places, it isn't inside
    pub none-left : IsBack s (place_of s o Left) Right None → inside s.folds o ≡ false
    none-left none = go (cases_Bool (inside s.folds o)) where
      go : (inside s.folds o ≡ true) ⊎ (inside s.folds o ≡ false) → inside s.folds o ≡ false
      go (inr f) = f
      go (inl t) = let r = around o t in absurd (none r.0 (left-place r.0 r.1 r.2))

    pub none-right : IsBack s (place_of s o Right) Left None → inside s.folds o ≡ false
    none-right none = go (cases_Bool (inside s.folds o)) where
      go : (inside s.folds o ≡ true) ⊎ (inside s.folds o ≡ false) → inside s.folds o ≡ false
      go (inr f) = f
      go (inl t) = let r = around o t in absurd (none r.1 (right-place r.0 r.1 r.2))

    -- those that are found are its ends where it is between them, and else it isn't inside
    pub ends-around : (start end : ℕ) → IsBack s (place_of s o Left) Right (Some start) → IsBack s (place_of s o Right) Left (Some end) →
        start < o → o < end → HidesAround s.folds o (record { start = start; end = end })
    ends-around start end left right lt gt = go (cases_Bool (inside s.folds o)) where
      go : (inside s.folds o ≡ true) ⊎ (inside s.folds o ≡ false) → HidesAround s.folds o (record { start = start; end = end })
      go (inl t) =
          let r = around o t in
          let first = first-end r.0 r.1 r.2 start left in
          let last = last-end r.0 r.1 r.2 end right in
          subst (λ (n : ℕ). HidesAround s.folds o (record { start = start; end = n })) (sym last)
          (subst (λ (n : ℕ). HidesAround s.folds o (record { start = n; end = r.1 })) (sym first) (hides r.0 r.1 r.2))
      go (inr f) = absurd (omega (arith, left.1 o ((boundary, f), Left, refl), lt))

    pub not-around : (start end : ℕ) → IsBack s (place_of s o Left) Right (Some start) → IsBack s (place_of s o Right) Left (Some end) →
        (start < o → o < end → ⊥) → inside s.folds o ≡ false
    not-around start end left right not = go (cases_Bool (inside s.folds o)) where
      go : (inside s.folds o ≡ true) ⊎ (inside s.folds o ≡ false) → inside s.folds o ≡ false
      go (inr f) = f
      go (inl t) =
          let r = around o t in
          let is : IsAround o r.0 r.1 = r.2 in
          absurd (not (omega (arith, first-end r.0 r.1 is start left, is.starts)) (omega (arith, last-end r.0 r.1 is end right, is.behind)))
