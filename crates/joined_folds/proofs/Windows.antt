-- What a change within a window leaves of a list of joined folds.
use Rattle.std.proofs.Common.{refl, ◌≡◌, ℕ, ◌+◌, ◌-◌, ◌<◌, ◌≤◌, suc, true, false, ltb, List, [], ◌∷◌, ◌++◌, map, min, max, sym, ap, ◌∙◌, subst, inl, inr, arith, ◌⊎◌}
use Rattle.std.specs.List.{All}
use Rattle.std.proofs.lemmas.Bool.{cases_lt, lt-ltb, le-ltb}
use Rattle.cell_units.specs.Record.{Fold}
use Rattle.cell_units.specs.Folded.{inside, covered}
use Rattle.cell_units.specs.Joined.{ShowsOnePlaceholder}
use Rattle.cell_units.proofs.Joined.{covered_inside}
use Rattle.cell_units.proofs.ShownMoved.{inside_covered}
use Rattle.joined_folds.specs.declared.joined_fold.JoinedFold.{JoinedFold}
use Rattle.joined_folds.specs.declared.window.Window.{Window}
use Rattle.joined_folds.specs.JoinedLists.{AreJoined, EndBy, IsBare, first_start, last_end}
use Rattle.joined_folds.specs.Windows.{AreAlike, IsWindow, OthersStay, moved_fold, moved_on, window_of}
use Rattle.joined_folds.proofs.JoinedLists.{bare-join, covered_past, joined-append, joined-back, joined-front, joined-order, open_first}

-- ---- lists

All-head : {X : Type 0} (P : X → Type 0) (x : X) (xs : List X) → All P (x ∷ xs) → P x
All-head P x xs a = a 0 x (omega arith)

All-tail : {X : Type 0} (P : X → Type 0) (x : X) (xs : List X) → All P (x ∷ xs) → All P xs
All-tail P x xs a k d h = a (suc k) d (omega arith)

module _ (folds : List Fold) where
  -- a joined fold hides each of its bytes
  pub one-hides : (s e o : ℕ) → ShowsOnePlaceholder folds s e → s ≤ o → o < e → covered folds o ≡ true
  one-hides s e o is l u = at (cases_lt s o) where
    at : (s < o) ⊎ (o ≤ s) → covered folds o ≡ true
    at (inl x) = inside_covered [] folds o (is.2 o x u)
    at (inr x) = let e : s ≡ o = omega arith in subst (λ (k : ℕ). covered folds k ≡ true) e is.0

  -- up to the first of them no fold hides a byte
  bare-up : (p : ℕ) (js : List JoinedFold) (n q : ℕ) → AreJoined folds p js n → q ≤ n → q ≤ first_start n js → IsBare folds p q
  bare-up p [] n q a l u k x y = a.1 k x (omega (arith, y, l))
  bare-up p (j ∷ js) n q a l u k x y = a.0.bare k x (omega (arith, y, u))

  -- so they are the same from there on
  joined-from : (p : ℕ) (js : List JoinedFold) (n q : ℕ) → AreJoined folds p js n → p ≤ q → q ≤ n → q ≤ first_start n js → AreJoined folds q js n
  joined-from p [] n q a pq l u = (l, λ k x y. a.1 k (omega (arith, pq, x)) y)
  joined-from p (j ∷ js) n q a pq l u =
      (record { order = u; some = a.0.some; bare = λ k x y. a.0.bare k (omega (arith, pq, x)) y; shows = a.0.shows }, a.1)

  -- and no fold is strictly around an offset up to there
  open-up : (p : ℕ) (js : List JoinedFold) (n q : ℕ) → EndBy folds n → AreJoined folds p js n → inside folds p ≡ false → p ≤ q → q ≤ n → q ≤ first_start n js → inside folds q ≡ false
  open-up p [] n q e a out pq l u = go (cases_lt q n) where
    go : (q < n) ⊎ (n ≤ q) → inside folds q ≡ false
    go (inl x) = covered_inside folds q (a.1 q pq x)
    go (inr x) = covered_inside folds q (covered_past folds n q e x)
  open-up p (j ∷ js) n q e a out pq l u = go (cases_lt q j.start) where
    go : (q < j.start) ⊎ (j.start ≤ q) → inside folds q ≡ false
    go (inl x) = covered_inside folds q (a.0.bare q pq x)
    go (inr x) = let e : j.start ≡ q = omega arith in subst (λ (k : ℕ). inside folds k ≡ false) e a.0.shows.1

  -- they end where no fold reaches over
  end-open : (p : ℕ) (js : List JoinedFold) (to : ℕ) → AreJoined folds p js to → inside folds p ≡ false → inside folds (last_end p js) ≡ false
  end-open p [] to a out = out
  end-open p (j ∷ js) to a out = end-open j.end js to a.1 a.0.shows.3

  -- the last one, where it ends after an offset by which all of them begin
  last-one : (p : ℕ) (js : List JoinedFold) (to b : ℕ) → AreJoined folds p js to → All (λ j. j.start ≤ b) js → p ≤ b → b < last_end p js
      → (s : ℕ) × (s ≤ b) × ShowsOnePlaceholder folds s (last_end p js)
  last-one p [] to b a starts l u = absurd (omega (arith, l, u))
  last-one p (j ∷ []) to b a starts l u = (j.start, All-head (λ (i : JoinedFold). i.start ≤ b) j [] starts, a.0.shows)
  last-one p (j ∷ k ∷ ks) to b a starts l u =
      let rest = All-tail (λ (i : JoinedFold). i.start ≤ b) j (k ∷ ks) starts in
      let next : k.start ≤ b = All-head (λ (i : JoinedFold). i.start ≤ b) k ks rest in
      last-one j.end (k ∷ ks) to b a.1 rest (omega (arith, next, (a.1).0.order)) u

  pub joined-extend : (from : ℕ) (xs : List JoinedFold) (mid to : ℕ) → AreJoined folds from xs mid → mid ≤ to → IsBare folds mid to → AreJoined folds from xs to
  joined-extend from [] mid to a l b = (omega (arith, a.0, l), bare-join folds from mid to a.1 b)
  joined-extend from (x ∷ xs) mid to a l b = (a.0, joined-extend x.end xs mid to a.1 l b)

  -- between them no fold hides a byte
  not-covered : (p : ℕ) (js : List JoinedFold) (n q : ℕ) → EndBy folds n → AreJoined folds p js n → p ≤ q → q ≤ n → All (λ j. q < j.start) js → covered folds q ≡ false
  not-covered p [] n q e a pq l starts = go (cases_lt q n) where
    go : (q < n) ⊎ (n ≤ q) → covered folds q ≡ false
    go (inl x) = a.1 q pq x
    go (inr x) = covered_past folds n q e x
  not-covered p (j ∷ js) n q e a pq l starts = a.0.bare q pq (All-head (λ (i : JoinedFold). q < i.start) j js starts)

pub last-bound : (p : ℕ) (js : List JoinedFold) (b : ℕ) → p ≤ b → All (λ j. j.end ≤ b) js → last_end p js ≤ b
last-bound p [] b l a = l
last-bound p (j ∷ js) b l a = last-bound j.end js b (All-head (λ (i : JoinedFold). i.end ≤ b) j js a) (All-tail (λ (i : JoinedFold). i.end ≤ b) j js a)

-- ---- from the old folds to the new ones

module _ (old new : List Fold) (start end last : ℕ) (alike : AreAlike old new start end last) where
  -- up to an offset that is in the window's prefix
  front-stays : (p : ℕ) (js : List JoinedFold) (q : ℕ) → q ≤ start → inside new q ≡ false → AreJoined old p js q → AreJoined new p js q
  front-stays p [] q l out a = (a.0, λ k x y. alike.covered_before k (omega (arith, l, y)) ∙ a.1 k x y)
  front-stays p (j ∷ js) q l out a = (record { order = a.0.order; some = a.0.some; bare = bare; shows = (hides, start_open, reaches, end_open (cases_lt j.end q)) }, front-stays j.end js q l out a.1) where
    within : j.end ≤ q
    within = joined-order old j.end js q a.1

    bare : IsBare new p j.start
    bare k x y = alike.covered_before k (omega (arith, l, y, within, a.0.some)) ∙ a.0.bare k x y

    hides : covered new j.start ≡ true
    hides = alike.covered_before j.start (omega (arith, l, within, a.0.some)) ∙ a.0.shows.0

    start_open : inside new j.start ≡ false
    start_open = alike.inside_before j.start (omega (arith, l, within, a.0.some)) ∙ a.0.shows.1

    reaches : (o : ℕ) → j.start < o → o < j.end → inside new o ≡ true
    reaches o x y = alike.inside_before o (omega (arith, l, within, y)) ∙ a.0.shows.2 o x y

    end_open : (j.end < q) ⊎ (q ≤ j.end) → inside new j.end ≡ false
    end_open (inl x) = alike.inside_before j.end (omega (arith, l, x)) ∙ a.0.shows.3
    end_open (inr x) = let e : q ≡ j.end = omega (arith, x, within) in subst (λ (k : ℕ). inside new k ≡ false) e out

  abbrev on : ℕ → ℕ
  on k = moved_on end last k

  covered-on : (k : ℕ) → end ≤ k → covered new (on k) ≡ covered old k
  covered-on k l =
      let there : on k ≡ last + (k - end) = omega arith in
      let here : end + (k - end) ≡ k = omega arith in
      ap (covered new) there ∙ alike.covered_behind (k - end) ∙ ap (covered old) here

  inside-on : (k : ℕ) → end < k → inside new (on k) ≡ inside old k
  inside-on k l =
      let there : on k ≡ last + (k - end) = omega arith in
      let here : end + (k - end) ≡ k = omega arith in
      ap (inside new) there ∙ alike.inside_behind (k - end) (omega arith) ∙ ap (inside old) here

  bare-on : (p q : ℕ) → end ≤ p → IsBare old p q → IsBare new (on p) (on q)
  bare-on p q l a k x y =
      let o = k - last + end in
      let there : on o ≡ k = omega (arith, x, l) in
      ap (covered new) (sym there) ∙ covered-on o (omega arith) ∙ a o (omega (arith, x, l)) (omega (arith, y, x, l))

  back-moves : (p : ℕ) (js : List JoinedFold) (n : ℕ) → end ≤ p → All (λ j. end < j.start) js → AreJoined old p js n → AreJoined new (on p) (map (moved_fold end last) js) (on n)
  back-moves p [] n l starts a = (omega (arith, a.0), bare-on p n l a.1)
  back-moves p (j ∷ js) n l starts a = (
    record { order = omega (arith, a.0.order); some = omega (arith, a.0.some, from); bare = bare-on p j.start l a.0.bare; shows = (covered-on j.start (omega (arith, from)) ∙ a.0.shows.0, inside-on j.start from ∙ a.0.shows.1, reaches, inside-on j.end (omega (arith, from, a.0.some)) ∙ a.0.shows.3) },
    back-moves j.end js n (omega (arith, from, a.0.some)) (All-tail (λ (i : JoinedFold). end < i.start) j js starts) a.1,
  ) where
    from : end < j.start
    from = All-head (λ (i : JoinedFold). end < i.start) j js starts

    reaches : (k : ℕ) → on j.start < k → k < on j.end → inside new k ≡ true
    reaches k x y =
        let o = k - last + end in
        let there : on o ≡ k = omega (arith, x, from) in
        ap (inside new) (sym there) ∙ inside-on o (omega (arith, x, from)) ∙ a.0.shows.2 o (omega (arith, x, from)) (omega (arith, y, x, from))

-- ---- the window

module _ (old new : List Fold) (start end last n : ℕ) (met back : List JoinedFold) (alike : AreAlike old new start end last) (ends : EndBy old n) (within : end ≤ n)
    (met_ends : All (λ j. start < j.end) met) (met_starts : All (λ j. j.start ≤ end) met) (behind : All (λ j. end < j.start) back)
    (p : ℕ) (are : AreJoined old p (met ++ back) n) (out : inside old p ≡ false) (before : p ≤ start) where
  abbrev w : Window
  w = window_of start end last met

  from-first : w.from ≤ first_start n (met ++ back)
  from-first = go met back behind where
    go : (met back : List JoinedFold) → All (λ j. end < j.start) back → min start (first_start start met) ≤ first_start n (met ++ back)
    go [] [] b = let o = alike.order in omega (arith, o, within)
    go [] (j ∷ js) b = let x = All-head (λ (i : JoinedFold). end < i.start) j js b in let o = alike.order in omega (arith, x, o)
    go (m ∷ ms) back b = omega arith

  from-behind : p ≤ w.from
  from-behind = go met are where
    go : (met : List JoinedFold) → AreJoined old p (met ++ back) n → p ≤ min start (first_start start met)
    go [] a = omega (arith, before)
    go (m ∷ ms) a = omega (arith, before, a.0.order)

  from-within : w.from ≤ n
  from-within = let o = alike.order in omega (arith, o, within)

  from-open : inside new w.from ≡ false
  from-open = go (cases_lt w.from start) where
    none : inside old w.from ≡ false
    none = open-up old p (met ++ back) n w.from ends are out from-behind from-within from-first

    go : (w.from < start) ⊎ (start ≤ w.from) → inside new w.from ≡ false
    go (inl x) = alike.inside_before w.from x ∙ none
    go (inr x) =
        let e : start ≡ w.from = omega (arith, x) in
        subst (λ (k : ℕ). inside new k ≡ false) e (alike.start_open (subst (λ (k : ℕ). inside old k ≡ false) (sym e) none))

  from-hides : w.from < start → covered new w.from ≡ true
  from-hides l = alike.covered_before w.from l ∙ go met are met_ends l where
    go : (met : List JoinedFold) → AreJoined old p (met ++ back) n → All (λ j. start < j.end) met → min start (first_start start met) < start → covered old (min start (first_start start met)) ≡ true
    go [] a e l = absurd (omega (arith, l))
    go (m ∷ ms) a e l = one-hides old m.start m.end (min start m.start) a.0.shows (omega (arith, l)) (omega (arith, a.0.some, l))

  from-reaches : (o : ℕ) → w.from < o → o < start → inside new o ≡ true
  from-reaches o l u = alike.inside_before o u ∙ go met are met_ends l where
    go : (met : List JoinedFold) → AreJoined old p (met ++ back) n → All (λ j. start < j.end) met → min start (first_start start met) < o → inside old o ≡ true
    go [] a e l = absurd (omega (arith, l, u))
    go (m ∷ ms) a e l = let x = All-head (λ (i : JoinedFold). start < i.end) m ms e in a.0.shows.2 o (omega (arith, l, u)) (omega (arith, u, x))

  -- where those that meet the window end, before
  abbrev e : ℕ
  e = last_end p met

  abbrev t : ℕ
  t = max end (last_end end met)

  rest : AreJoined old e back n
  rest = joined-back old p met back n are

  rest-open : inside old e ≡ false
  rest-open = end-open old p met e (joined-front old p met back n are) out

  t-is : t ≡ max end e
  t-is = go met where
    go : (met : List JoinedFold) → max end (last_end end met) ≡ max end (last_end p met)
    go [] = let o = alike.order in omega (arith, o, before)
    go (m ∷ ms) = refl

  e-within : e ≤ n
  e-within = joined-order old e back n rest

  t-first : t ≤ first_start n back
  t-first = go back rest behind where
    go : (back : List JoinedFold) → AreJoined old e back n → All (λ j. end < j.start) back → t ≤ first_start n back
    go [] a b = let x = t-is in let y = e-within in omega (arith, x, y, within)
    go (j ∷ js) a b = let x = t-is in let y = All-head (λ (i : JoinedFold). end < i.start) j js b in omega (arith, x, y, a.0.order)

  t-within : t ≤ n
  t-within = let x = t-is in let y = e-within in omega (arith, x, y, within)

  t-behind : e ≤ t
  t-behind = let x = t-is in omega (arith, x)

  t-open : inside old t ≡ false
  t-open = open-up old e back n t ends rest rest-open t-behind t-within t-first

  t-rest : AreJoined old t back n
  t-rest = joined-from old e back n t rest t-behind t-within t-first

  -- the one that reaches over the window's end
  over : end < t → (s : ℕ) × (s ≤ end) × ShowsOnePlaceholder old s t
  over l =
      let x = t-is in
      let same : e ≡ t = omega (arith, x, l) in
      let o = alike.order in
      let r = last-one old p met e end (joined-front old p met back n are) met_starts (omega (arith, before, o)) (omega (arith, same, l)) in
      (r.0, r.1, subst (λ (k : ℕ). ShowsOnePlaceholder old r.0 k) same r.2)

  none-over : t ≤ end → covered old end ≡ false
  none-over l = let x = t-is in not-covered old e back n end ends rest (omega (arith, x, l)) within behind

  covered-last : covered new last ≡ covered old end
  covered-last =
      let there : last ≡ last + 0 = omega arith in
      let here : end + 0 ≡ end = omega arith in
      ap (covered new) there ∙ alike.covered_behind 0 ∙ ap (covered old) here

  to-hides : covered new last ≡ ltb last w.to
  to-hides = covered-last ∙ go (cases_lt end t) where
    go : (end < t) ⊎ (t ≤ end) → covered old end ≡ ltb last w.to
    go (inl x) = let r = over x in one-hides old r.0 t end r.2 r.1 x ∙ sym (lt-ltb last w.to (omega (arith, x)))
    go (inr x) = none-over x ∙ sym (le-ltb last w.to (omega (arith, x)))

  to-reaches : (o : ℕ) → last < o → o < w.to → inside new o ≡ true
  to-reaches o l u =
      let k = o - last + end in
      let there : moved_on end last k ≡ o = omega (arith, l) in
      let r = over (omega (arith, l, u)) in
      ap (inside new) (sym there) ∙ inside-on old new start end last alike k (omega (arith, l)) ∙ r.2.2 k (omega (arith, l, r.1)) (omega (arith, l, u))

  to-open : inside new w.to ≡ false
  to-open = go (cases_lt end t) where
    go : (end < t) ⊎ (t ≤ end) → inside new w.to ≡ false
    go (inl x) = inside-on old new start end last alike t x ∙ t-open
    go (inr x) =
        let e : last ≡ w.to = omega (arith, x) in
        subst (λ (k : ℕ). inside new k ≡ false) e (covered_inside new last (covered-last ∙ none-over x))

  is-window : IsWindow new w
  is-window = record {
    before = omega arith;
    order = alike.reach;
    behind = omega arith;
    from_open = from-open;
    from_hides = from-hides;
    from_reaches = from-reaches;
    to_hides = to-hides;
    to_reaches = to-reaches;
    to_open = to-open;
  }

  parts-join : (front fresh : List JoinedFold) → AreJoined old 0 front p → AreJoined new w.from fresh w.to → AreJoined new 0 (front ++ (fresh ++ map (moved_fold end last) back)) (moved_on end last n)
  parts-join front fresh f a =
      let front' = joined-extend old 0 front p w.from f from-behind (bare-up old p (met ++ back) n w.from are from-within from-first) in
      joined-append new 0 front (fresh ++ map (moved_fold end last) back) w.from (moved_on end last n)
      (front-stays old new start end last alike 0 front w.from (omega arith) from-open front')
      (joined-append new w.from fresh (map (moved_fold end last) back) w.to (moved_on end last n) a
      (back-moves old new start end last alike t back n (omega arith) behind t-rest))

pub others-stay : OthersStay
others-stay old new start end last n front met back alike all within ends parts =
    let p = last_end 0 front in
    let f = joined-front old 0 front (met ++ back) n all.1 in
    let r = joined-back old 0 front (met ++ back) n all.1 in
    let out = end-open old 0 front p f (open_first old) in
    let before = last-bound 0 front start (omega arith) parts.front in (
      is-window old new start end last n met back alike all.0 within parts.met_ends parts.met_starts parts.back p r out before,
      λ fresh a. (ends, parts-join old new start end last n met back alike all.0 within parts.met_ends parts.met_starts parts.back p r out before front fresh f a),
    )
