-- Lists of joined folds, cut and joined, and what they say of each offset.
use Rattle.std.proofs.Common.{refl, ◌≡◌, ℕ, ◌<◌, ◌≤◌, suc, true, false, ltb, leb, List, [], ◌∷◌, ◌++◌, sym, ◌∙◌, subst, inl, inr, arith, ◌⊎◌, ◌||◌}
use Rattle.std.specs.List.{All, Contains}
use Rattle.std.proofs.lemmas.Bool.{cases_Bool, false≢true, cases_lt, lt-ltb, le-leb, le-ltb, lt-leb, and_from, and_left, and_right}
use Rattle.std.proofs.lemmas.List.Elements.{All-cons, All-nil}
use Rattle.cell_units.specs.Record.{Fold}
use Rattle.cell_units.specs.Folded.{inside, covered}
use Rattle.cell_units.specs.Joined.{Chain, One, Join, IsJoined, ShowsOnePlaceholder}
use Rattle.cell_units.proofs.Joined.{IsJoined-at, IsJoined-shows, covered_by, covered_inside, covered_of, inside_by, not_inside}
use Rattle.cell_units.proofs.ShownMoved.{inside_covered}
use Rattle.joined_folds.specs.declared.joined_fold.JoinedFold.{JoinedFold}
use Rattle.joined_folds.specs.JoinedLists.{AreAllJoined, AreJoined, EachIsJoined, EachIsListed, EachIsWithin, EndBy, IsBare, OneList, SameTests, covered_joined, inside_joined, joined_fold, last_end}

module _ (folds : List Fold) where
  pub bare-join : (from mid to : ℕ) → IsBare folds from mid → IsBare folds mid to → IsBare folds from to
  bare-join from mid to a b k l u = go (cases_lt k mid) where
    go : (k < mid) ⊎ (mid ≤ k) → covered folds k ≡ false
    go (inl x) = a k l x
    go (inr x) = b k x u

  pub joined-order : (from : ℕ) (js : List JoinedFold) (to : ℕ) → AreJoined folds from js to → from ≤ to
  joined-order from [] to a = a.0
  joined-order from (j ∷ js) to a = omega (arith, a.0.order, a.0.some, joined-order j.end js to a.1)

  pub joined-append : (from : ℕ) (xs ys : List JoinedFold) (mid to : ℕ) → AreJoined folds from xs mid → AreJoined folds mid ys to → AreJoined folds from (xs ++ ys) to
  joined-append from [] [] mid to a b = (omega (arith, a.0, b.0), bare-join from mid to a.1 b.1)
  joined-append from [] (y ∷ ys) mid to a b =
      (record { order = omega (arith, a.0, b.0.order); some = b.0.some; bare = bare-join from mid y.start a.1 b.0.bare; shows = b.0.shows }, b.1)
  joined-append from (x ∷ xs) ys mid to a b = (a.0, joined-append x.end xs ys mid to a.1 b)

  pub joined-front : (from : ℕ) (xs ys : List JoinedFold) (to : ℕ) → AreJoined folds from (xs ++ ys) to → AreJoined folds from xs (last_end from xs)
  joined-front from [] ys to a = (omega arith, λ k l u. absurd (omega (arith, l, u)))
  joined-front from (x ∷ xs) ys to a = (a.0, joined-front x.end xs ys to a.1)

  pub joined-back : (from : ℕ) (xs ys : List JoinedFold) (to : ℕ) → AreJoined folds from (xs ++ ys) to → AreJoined folds (last_end from xs) ys to
  joined-back from [] ys to a = a
  joined-back from (x ∷ xs) ys to a = joined-back x.end xs ys to a.1

  -- ---- what they say of each offset

  not-before : (from : ℕ) (js : List JoinedFold) (to o : ℕ) → AreJoined folds from js to → o < from → covered_joined js o ≡ false
  not-before from [] to o a h = refl
  not-before from (j ∷ js) to o a h =
      (λ i. and_left (leb j.start o) (ltb o j.end) (lt-leb j.start o (omega (arith, h, a.0.order))) i || covered_joined js o)
      ∙ not-before j.end js to o a.1 (omega (arith, h, a.0.order, a.0.some))

  pub covered-joined : (from : ℕ) (js : List JoinedFold) (to o : ℕ) → AreJoined folds from js to → from ≤ o → o < to → covered folds o ≡ covered_joined js o
  covered-joined from [] to o a l u = a.1 o l u
  covered-joined from (j ∷ js) to o a l u = go (cases_lt o j.start) (cases_lt o j.end) (covered-joined j.end js to o a.1) where
    hides : j.start ≤ o → o < j.end → covered folds o ≡ true
    hides x y = at (cases_lt j.start o) where
      at : (j.start < o) ⊎ (o ≤ j.start) → covered folds o ≡ true
      at (inl z) = inside_covered [] folds o (a.0.shows.2 o z y)
      at (inr z) = let e : j.start ≡ o = omega arith in subst (λ (k : ℕ). covered folds k ≡ true) e a.0.shows.0

    go : (o < j.start) ⊎ (j.start ≤ o) → (o < j.end) ⊎ (j.end ≤ o) → (j.end ≤ o → o < to → covered folds o ≡ covered_joined js o) → covered folds o ≡ covered_joined (j ∷ js) o
    go (inl x) _ next =
        a.0.bare o l x
        ∙ sym ((λ i. and_left (leb j.start o) (ltb o j.end) (lt-leb j.start o x) i || covered_joined js o)
        ∙ not-before j.end js to o a.1 (omega (arith, x, a.0.some)))
    go (inr x) (inl y) next = hides x y ∙ sym (λ i. and_from (leb j.start o) (ltb o j.end) (le-leb j.start o x) (lt-ltb o j.end y) i || covered_joined js o)
    go (inr x) (inr y) next = next y u ∙ sym (λ i. and_right (leb j.start o) (ltb o j.end) (le-ltb o j.end y) i || covered_joined js o)

  not-inside_before : (from : ℕ) (js : List JoinedFold) (to o : ℕ) → AreJoined folds from js to → o ≤ from → inside_joined js o ≡ false
  not-inside_before from [] to o a h = refl
  not-inside_before from (j ∷ js) to o a h =
      (λ i. and_left (ltb j.start o) (ltb o j.end) (le-ltb j.start o (omega (arith, h, a.0.order))) i || inside_joined js o)
      ∙ not-inside_before j.end js to o a.1 (omega (arith, h, a.0.order, a.0.some))

  pub inside-joined : (from : ℕ) (js : List JoinedFold) (to o : ℕ) → AreJoined folds from js to → inside folds from ≡ false → from ≤ o → o < to → inside folds o ≡ inside_joined js o
  inside-joined from [] to o a h l u = covered_inside folds o (a.1 o l u)
  inside-joined from (j ∷ js) to o a h l u = go (cases_lt o j.start) (cases_lt j.start o) (cases_lt o j.end) (inside-joined j.end js to o a.1 a.0.shows.3) where
    before : o ≤ j.start → inside_joined (j ∷ js) o ≡ false
    before x =
        (λ i. and_left (ltb j.start o) (ltb o j.end) (le-ltb j.start o x) i || inside_joined js o)
        ∙ not-inside_before j.end js to o a.1 (omega (arith, x, a.0.some))

    go : (o < j.start) ⊎ (j.start ≤ o) → (j.start < o) ⊎ (o ≤ j.start) → (o < j.end) ⊎ (j.end ≤ o) → (j.end ≤ o → o < to → inside folds o ≡ inside_joined js o) → inside folds o ≡ inside_joined (j ∷ js) o
    go (inl x) _ _ next = covered_inside folds o (a.0.bare o l x) ∙ sym (before (omega (arith, x)))
    go (inr x) (inr y) _ next = let e : j.start ≡ o = omega arith in subst (λ (k : ℕ). inside folds k ≡ false) e a.0.shows.1 ∙ sym (before y)
    go (inr x) (inl y) (inl z) next = a.0.shows.2 o y z ∙ sym (λ i. and_from (ltb j.start o) (ltb o j.end) (lt-ltb j.start o y) (lt-ltb o j.end z) i || inside_joined js o)
    go (inr x) (inl y) (inr z) next = next z u ∙ sym (λ i. and_right (ltb j.start o) (ltb o j.end) (le-ltb o j.end z) i || inside_joined js o)

  -- ---- after the last one

  pub covered_past : (n o : ℕ) → EndBy folds n → n ≤ o → covered folds o ≡ false
  covered_past n o e h = go (cases_Bool (covered folds o)) where
    go : (covered folds o ≡ true) ⊎ (covered folds o ≡ false) → covered folds o ≡ false
    go (inr x) = x
    go (inl x) =
        let r = covered_of folds o x in
        let most : r.0.end ≤ n = subst (λ (g : Fold). g.end ≤ n) (r.1).2 (e (r.1).0 r.0 (r.1).1) in
        absurd (omega (arith, most, h, r.3))

  past : (from : ℕ) (js : List JoinedFold) (to o : ℕ) → AreJoined folds from js to → to ≤ o → covered_joined js o ≡ false
  past from [] to o a h = refl
  past from (j ∷ js) to o a h =
      (λ i. and_right (leb j.start o) (ltb o j.end) (le-ltb o j.end (omega (arith, h, joined-order j.end js to a.1))) i || covered_joined js o)
      ∙ past j.end js to o a.1 h

  past_inside : (from : ℕ) (js : List JoinedFold) (to o : ℕ) → AreJoined folds from js to → to ≤ o → inside_joined js o ≡ false
  past_inside from [] to o a h = refl
  past_inside from (j ∷ js) to o a h =
      (λ i. and_right (ltb j.start o) (ltb o j.end) (le-ltb o j.end (omega (arith, h, joined-order j.end js to a.1))) i || inside_joined js o)
      ∙ past_inside j.end js to o a.1 h

  pub open_first : inside folds 0 ≡ false
  open_first = not_inside folds 0 (λ f m x y. omega (arith, x))

  pub same-inside : (n : ℕ) (js : List JoinedFold) (o : ℕ) → AreAllJoined folds n js → inside folds o ≡ inside_joined js o
  same-inside n js o a = go (cases_lt o n) where
    go : (o < n) ⊎ (n ≤ o) → inside folds o ≡ inside_joined js o
    go (inl x) = inside-joined 0 js n o a.1 open_first (omega arith) x
    go (inr x) = covered_inside folds o (covered_past n o a.0 x) ∙ sym (past_inside 0 js n o a.1 x)

  pub same-covered : (n : ℕ) (js : List JoinedFold) (o : ℕ) → AreAllJoined folds n js → covered folds o ≡ covered_joined js o
  same-covered n js o a = go (cases_lt o n) where
    go : (o < n) ⊎ (n ≤ o) → covered folds o ≡ covered_joined js o
    go (inl x) = covered-joined 0 js n o a.1 (omega arith) x
    go (inr x) = covered_past n o a.0 x ∙ sym (past 0 js n o a.1 x)

  -- ---- they are the maximal chains

  chain-some : (s e : ℕ) → Chain folds s e → s < e
  chain-some s e (One f m some) = some
  chain-some s e (Join s' e' c f m some over) = omega (arith, chain-some s' e' c, some)

  -- what begins with one placeholder ends with it
  pub one-end : (s e e' : ℕ) → s < e → s < e' → ShowsOnePlaceholder folds s e → ShowsOnePlaceholder folds s e' → e ≡ e'
  one-end s e e' some some' a b = go (cases_lt e e') (cases_lt e' e) where
    go : (e < e') ⊎ (e' ≤ e) → (e' < e) ⊎ (e ≤ e') → e ≡ e'
    go (inl x) _ = absurd (false≢true (sym a.3 ∙ b.2 e some x))
    go (inr x) (inl y) = absurd (false≢true (sym b.3 ∙ a.2 e' some' y))
    go (inr x) (inr y) = omega (arith, x, y)

  pub shown-joined : (s e : ℕ) → s < e → ShowsOnePlaceholder folds s e → IsJoined folds s e
  shown-joined s e some is =
      let r = IsJoined-at folds s (is.0, is.1) in
      let same = one-end s e r.0 some (chain-some s r.0 (r.1).chain) is (IsJoined-shows folds s r.0 r.1) in
      subst (λ (k : ℕ). IsJoined folds s k) (sym same) r.1

  all-joined : (from : ℕ) (js : List JoinedFold) (to : ℕ) → AreJoined folds from js to → All (λ j. IsJoined folds j.start j.end) js
  all-joined from [] to a = All-nil (λ (j : JoinedFold). IsJoined folds j.start j.end)
  all-joined from (j ∷ js) to a = All-cons (λ (k : JoinedFold). IsJoined folds k.start k.end) j js (shown-joined j.start j.end a.0.some a.0.shows) (all-joined j.end js to a.1)

  -- the one that hides a byte
  pub hiding : (from : ℕ) (js : List JoinedFold) (to o : ℕ) → AreJoined folds from js to → from ≤ o → o < to → covered folds o ≡ true
      → (j : JoinedFold) × Contains js j × (j.start ≤ o) × (o < j.end) × ShowsOnePlaceholder folds j.start j.end
  hiding from [] to o a l u h = absurd (false≢true (sym (a.1 o l u) ∙ h))
  hiding from (j ∷ js) to o a l u h = go (cases_lt o j.start) (cases_lt o j.end) (λ x. hiding j.end js to o a.1 x u h) where
    go : (o < j.start) ⊎ (j.start ≤ o) → (o < j.end) ⊎ (j.end ≤ o)
        → (j.end ≤ o → (i : JoinedFold) × Contains js i × (i.start ≤ o) × (o < i.end) × ShowsOnePlaceholder folds i.start i.end)
        → (i : JoinedFold) × Contains (j ∷ js) i × (i.start ≤ o) × (o < i.end) × ShowsOnePlaceholder folds i.start i.end
    go (inl x) _ next = absurd (false≢true (sym (a.0.bare o l x) ∙ h))
    go (inr x) (inl y) next = (j, (0, omega arith, refl), x, y, a.0.shows)
    go (inr x) (inr y) next = let r = next y in (r.0, (suc (r.1).0, (let lt = (r.1).1 in omega (arith, lt)), (r.1).2), r.2, r.3, r.4)

  hidden-one : (n : ℕ) (js : List JoinedFold) (o : ℕ) → AreAllJoined folds n js → covered folds o ≡ true
      → (j : JoinedFold) × Contains js j × (j.start ≤ o) × (o < j.end) × ShowsOnePlaceholder folds j.start j.end
  hidden-one n js o a h = go (cases_lt o n) where
    go : (o < n) ⊎ (n ≤ o) → (j : JoinedFold) × Contains js j × (j.start ≤ o) × (o < j.end) × ShowsOnePlaceholder folds j.start j.end
    go (inl x) = hiding 0 js n o a.1 (omega arith) x h
    go (inr x) = absurd (false≢true (sym (covered_past n o a.0 x) ∙ h))

  listed : (n : ℕ) (js : List JoinedFold) (s e : ℕ) → AreAllJoined folds n js → IsJoined folds s e → Contains js (joined_fold s e)
  listed n js s e a is = go (hidden-one n js s a shows.0) where
    shows : ShowsOnePlaceholder folds s e
    shows = IsJoined-shows folds s e is

    go : (j : JoinedFold) × Contains js j × (j.start ≤ s) × (s < j.end) × ShowsOnePlaceholder folds j.start j.end → Contains js (joined_fold s e)
    go r = at r.0 r.1 r.2 r.3 r.4 (cases_lt r.0.start s) where
      at : (j : JoinedFold) → Contains js j → j.start ≤ s → s < j.end → ShowsOnePlaceholder folds j.start j.end → (j.start < s) ⊎ (s ≤ j.start) → Contains js (joined_fold s e)
      at j m x y is' (inl z) = absurd (false≢true (sym shows.1 ∙ is'.2 s z y))
      at j m x y is' (inr z) =
          let start : j.start ≡ s = omega (arith, x, z) in
          let here : ShowsOnePlaceholder folds s j.end = subst (λ (k : ℕ). ShowsOnePlaceholder folds k j.end) start is' in
          let end : j.end ≡ e = one-end s j.end e y (chain-some s e is.chain) here shows in
          subst (Contains js) (λ i. record { start = start i; end = end i }) m

  within : (n : ℕ) (js : List JoinedFold) (f : Fold) → AreAllJoined folds n js → Contains folds f → f.start < f.end
      → (j : JoinedFold) × Contains js j × (j.start ≤ f.start) × (f.end ≤ j.end)
  within n js f a m some = go (hidden-one n js f.start a (covered_by folds f.start f m (omega arith) some)) where
    go : (j : JoinedFold) × Contains js j × (j.start ≤ f.start) × (f.start < j.end) × ShowsOnePlaceholder folds j.start j.end
        → (j : JoinedFold) × Contains js j × (j.start ≤ f.start) × (f.end ≤ j.end)
    go r = at (cases_lt r.0.end f.end) where
      at : (r.0.end < f.end) ⊎ (f.end ≤ r.0.end) → (j : JoinedFold) × Contains js j × (j.start ≤ f.start) × (f.end ≤ j.end)
      at (inl x) = absurd (false≢true (sym (r.4).3 ∙ inside_by folds r.0.end f m r.3 x))
      at (inr x) = (r.0, r.1, r.2, x)

  -- the same offsets show placeholders, so there is one list
  pub joined-one : (from : ℕ) (js ks : List JoinedFold) (to : ℕ) → AreJoined folds from js to → AreJoined folds from ks to → js ≡ ks
  joined-one from [] [] to a b = refl
  joined-one from [] (k ∷ ks) to a b = absurd (false≢true (sym (a.1 k.start b.0.order (omega (arith, b.0.some, joined-order k.end ks to b.1))) ∙ b.0.shows.0))
  joined-one from (j ∷ js) [] to a b = absurd (false≢true (sym (b.1 j.start a.0.order (omega (arith, a.0.some, joined-order j.end js to a.1))) ∙ a.0.shows.0))
  joined-one from (j ∷ js) (k ∷ ks) to a b = go (cases_lt j.start k.start) (cases_lt k.start j.start) (joined-one j.end js ks to a.1) where
    go : (j.start < k.start) ⊎ (k.start ≤ j.start) → (k.start < j.start) ⊎ (j.start ≤ k.start) → (AreJoined folds j.end ks to → js ≡ ks) → j ∷ js ≡ k ∷ ks
    go (inl x) _ next = absurd (false≢true (sym (b.0.bare j.start a.0.order x) ∙ a.0.shows.0))
    go (inr x) (inl y) next = absurd (false≢true (sym (a.0.bare k.start b.0.order y) ∙ b.0.shows.0))
    go (inr x) (inr y) next =
        let start : k.start ≡ j.start = omega arith in
        let there : ShowsOnePlaceholder folds j.start k.end = subst (λ (s : ℕ). ShowsOnePlaceholder folds s k.end) start b.0.shows in
        let end : j.end ≡ k.end = one-end j.start j.end k.end a.0.some (omega (arith, b.0.some, start)) a.0.shows there in
        let rest = next (subst (λ (o : ℕ). AreJoined folds o ks to) (sym end) b.1) in
        λ i. record { start = sym start i; end = end i } ∷ rest i

pub each-joined : EachIsJoined
each-joined folds n js a = all-joined folds 0 js n a.1

pub each-listed : EachIsListed
each-listed = listed

pub one-list : OneList
one-list folds n js ks a b = joined-one folds 0 js ks n a.1 b.1

pub each-within : EachIsWithin
each-within = within

pub same-tests : SameTests
same-tests folds n js o a = (same-inside folds n js o a, same-covered folds n js o a)
