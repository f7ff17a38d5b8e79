-- Joined folds made from the folds of a window, one after another.
use Rattle.std.proofs.Common.{◌≡◌, ℕ, ◌<◌, ◌≤◌, zero, suc, Bool, true, false, cond, List, [], ◌∷◌, ◌++◌, max, sym, ap, ◌∙◌, subst, inl, inr, arith, ◌⊎◌}
use Rattle.std.specs.List.{All, AllPairs, Contains}
use Rattle.std.proofs.lemmas.Bool.{cases_Bool, cases_lt, false≢true, le-ltb, lt-ltb}
use Rattle.std.proofs.lemmas.List.Elements.{All-head, All-tail}
use Rattle.cell_units.specs.Record.{Fold}
use Rattle.cell_units.specs.Folded.{inside, covered}
use Rattle.cell_units.proofs.Joined.{covered_by, covered_of, inside_by, not_inside}
use Rattle.mark_tree.specs.declared.mark.RangeMark.{RangeMark}
use Rattle.joined_folds.specs.declared.joined_fold.JoinedFold.{JoinedFold}
use Rattle.joined_folds.specs.declared.window.Window.{Window}
use Rattle.joined_folds.specs.JoinedLists.{AreJoined, IsBare, joined_fold}
use Rattle.joined_folds.specs.Sweeps.{IsMet, fold_of, range_of, with_one}
use Rattle.joined_folds.specs.Windows.{IsWindow}
use Rattle.joined_folds.proofs.JoinedLists.{joined-append}
use Rattle.joined_folds.proofs.Windows.{joined-extend}

-- ---- lists

pub contains-cons : {X : Type 0} (x : X) (xs : List X) (y : X) → Contains (x ∷ xs) y → (x ≡ y) ⊎ Contains xs y
contains-cons x xs y (zero, below, is) = inl is
contains-cons x xs y (suc k, below, is) = inr (k, omega (arith, below), is)

pairs-head : {X : Type 0} (R : X → X → Type 0) (x : X) (xs : List X) → AllPairs R (x ∷ xs) → All (R x) xs
pairs-head R x xs a k d h = a 0 (suc k) d (omega arith) (omega (arith, h))

pairs-tail : {X : Type 0} (R : X → X → Type 0) (x : X) (xs : List X) → AllPairs R (x ∷ xs) → AllPairs R xs
pairs-tail R x xs a i j d h l = a (suc i) (suc j) d (omega (arith, h)) (omega (arith, l))

pub all-at : {X : Type 0} (P : X → Type 0) (xs : List X) (x : X) → All P xs → Contains xs x → P x
all-at P xs x a m = subst P m.2 (a m.0 x m.1)

-- one that starts before the other
abbrev pub InOrder : RangeMark → RangeMark → Type 0
InOrder r q = r.start ≤ q.start

-- a fold that meets the window or starts at its end
abbrev Meets : List Fold → Window → Fold → Type 0
Meets folds w f = Contains folds f × (f.start ≤ w.end) × (w.start < f.end)

-- The joined folds are made up to `now`, which is to be the next one, from the folds but for the rest.
pub record Swept (folds : List Fold) (w : Window) (rest : List RangeMark) (joined : List JoinedFold) (now : JoinedFold) : Type 0 where
  pub done : AreJoined folds w.from joined now.start
  pub order : now.start ≤ now.end
  pub from : now.start ≤ w.end
  pub to : w.start ≤ now.end
  pub hides : now.start < now.end → covered folds now.start ≡ true
  pub start_open : inside folds now.start ≡ false
  pub reaches : (o : ℕ) → now.start < o → o < now.end → inside folds o ≡ true
  pub each : All (IsMet folds w) rest
  pub all : (f : Fold) → Meets folds w f → (f.end ≤ now.end) ⊎ Contains rest (range_of f)
  pub in_order : AllPairs InOrder rest

-- the next one is put after the others, if it is not empty
put-open : (folds : List Fold) (from : ℕ) (joined : List JoinedFold) (now : JoinedFold) (to : ℕ) → AreJoined folds from joined now.start → now.start ≤ now.end
    → (now.start < now.end → covered folds now.start ≡ true) → inside folds now.start ≡ false → ((o : ℕ) → now.start < o → o < now.end → inside folds o ≡ true)
    → inside folds now.end ≡ false → now.end ≤ to → IsBare folds now.end to → AreJoined folds from (with_one joined now) to
put-open folds from joined now to done order hides out reaches out' le bare = go (cases_lt now.start now.end) where
  go : (now.start < now.end) ⊎ (now.end ≤ now.start) → AreJoined folds from (with_one joined now) to
  go (inl x) =
      subst (λ (b : Bool). AreJoined folds from (cond b (joined ++ now ∷ []) joined) to) (sym (lt-ltb now.start now.end x))
      (joined-append folds from joined (now ∷ []) now.start to done
      (record { order = omega arith; some = x; bare = λ k l u. absurd (omega (arith, l, u)); shows = (hides x, out, reaches, out') }, (le, bare)))
  go (inr x) =
      subst (λ (b : Bool). AreJoined folds from (cond b (joined ++ now ∷ []) joined) to) (sym (le-ltb now.start now.end x))
      (joined-extend folds from joined now.start to done (omega (arith, order, x, le)) (λ k l u. bare k (omega (arith, l, x)) u))

contains-nil : {X : Type 0} (x : X) → Contains [] x → ⊥
contains-nil x m = let l = m.1 in omega (arith, l)

module _ (folds : List Fold) (w : Window) (win : IsWindow folds w) where
  -- ---- one that starts within the open one

  module _ (r : RangeMark) (rest : List RangeMark) (joined : List JoinedFold) (now : JoinedFold) (s : Swept folds w (r ∷ rest) joined now) where
    met : IsMet folds w r
    met = All-head (IsMet folds w) r rest s.each

    abbrev further : JoinedFold
    further = joined_fold now.start (max now.end r.end)

    others : (f : Fold) → Meets folds w f → (e : ℕ) → now.end ≤ e → r.end ≤ e → (f.end ≤ e) ⊎ Contains rest (range_of f)
    others f m e le le' = go (s.all f m) where
      go : (f.end ≤ now.end) ⊎ Contains (r ∷ rest) (range_of f) → (f.end ≤ e) ⊎ Contains rest (range_of f)
      go (inl x) = inl (omega (arith, x, le))
      go (inr c) = at (contains-cons r rest (range_of f) c) where
        at : (r ≡ range_of f) ⊎ Contains rest (range_of f) → (f.end ≤ e) ⊎ Contains rest (range_of f)
        at (inl e') = let same : r.end ≡ f.end = ap (λ (q : RangeMark). q.end) e' in inl (omega (arith, same, le'))
        at (inr c') = inr c'

    pub joined-on : r.start < now.end → Swept folds w rest joined further
    joined-on l = record {
      done = s.done;
      order = let x = s.order in omega arith;
      from = s.from;
      to = let x = s.to in omega arith;
      hides = hides (cases_lt now.start now.end);
      start_open = s.start_open;
      reaches = reaches;
      each = All-tail (IsMet folds w) r rest s.each;
      all = λ f m. others f m further.end (omega arith) (omega arith);
      in_order = pairs-tail InOrder r rest s.in_order;
    } where
      hides : (now.start < now.end) ⊎ (now.end ≤ now.start) → now.start < further.end → covered folds now.start ≡ true
      hides (inl x) _ = s.hides x
      hides (inr x) y = absurd (false≢true (sym s.start_open ∙ inside_by folds now.start (fold_of r) met.fold (let o = s.order in omega (arith, l, x)) (omega (arith, x, y))))

      reaches : (o : ℕ) → now.start < o → o < further.end → inside folds o ≡ true
      reaches o x y = go (cases_lt o now.end) where
        go : (o < now.end) ⊎ (now.end ≤ o) → inside folds o ≡ true
        go (inl z) = s.reaches o x z
        go (inr z) = inside_by folds o (fold_of r) met.fold (omega (arith, l, z)) (omega (arith, y, z))

    -- ---- one that starts after it

    module _ (behind : now.end ≤ r.start) where
      -- a fold that starts before this one has ended
      ended : (f : Fold) → Contains folds f → f.start < r.start → now.end < f.end → ⊥
      ended f m l u = go (s.all f (m, let x = met.from in omega (arith, l), let x = s.to in omega (arith, u))) where
        go : (f.end ≤ now.end) ⊎ Contains (r ∷ rest) (range_of f) → ⊥
        go (inl x) = omega (arith, x, u)
        go (inr c) = at (contains-cons r rest (range_of f) c) where
          at : (r ≡ range_of f) ⊎ Contains rest (range_of f) → ⊥
          at (inl e) = let same : r.start ≡ f.start = ap (λ (q : RangeMark). q.start) e in omega (arith, same, l)
          at (inr c') = let le = all-at (λ (q : RangeMark). r.start ≤ q.start) rest (range_of f) (pairs-head InOrder r rest s.in_order) c' in omega (arith, le, l)

      bare : IsBare folds now.end r.start
      bare k l u = go (cases_Bool (covered folds k)) where
        go : (covered folds k ≡ true) ⊎ (covered folds k ≡ false) → covered folds k ≡ false
        go (inr x) = x
        go (inl x) = let f = covered_of folds k x in absurd (ended f.0 f.1 (let a = f.2 in omega (arith, a, u)) (let b = f.3 in omega (arith, b, l)))

      closed : inside folds now.end ≡ false
      closed = not_inside folds now.end (λ f m x y. ended f m (omega (arith, x, behind)) y)

      pub gone-on : Swept folds w rest (with_one joined now) (joined_fold r.start r.end)
      gone-on = record {
        done = put-open folds w.from joined now r.start s.done s.order s.hides s.start_open s.reaches closed behind bare;
        order = let x = met.some in omega arith;
        from = met.from;
        to = let x = met.to in omega arith;
        hides = λ x. covered_by folds r.start (fold_of r) met.fold (omega arith) x;
        start_open = not_inside folds r.start (λ f m x y. ended f m x (omega (arith, y, behind)));
        reaches = λ o x y. inside_by folds o (fold_of r) met.fold x y;
        each = All-tail (IsMet folds w) r rest s.each;
        all = λ f m. others f m r.end (let x = met.some in omega (arith, x, behind)) (omega arith);
        in_order = pairs-tail InOrder r rest s.in_order;
      }

  -- ---- the end

  module _ (joined : List JoinedFold) (now : JoinedFold) (s : Swept folds w [] joined now) where
    none-further : now.end ≤ w.end → (f : Fold) → Contains folds f → f.start ≤ w.end → now.end < f.end → ⊥
    none-further le f m l u = go (s.all f (m, l, let x = s.to in omega (arith, u))) where
      go : (f.end ≤ now.end) ⊎ Contains [] (range_of f) → ⊥
      go (inl x) = omega (arith, x, u)
      go (inr c) = contains-nil (range_of f) c

    not-covered : now.end ≤ w.end → (k : ℕ) → now.end ≤ k → k ≤ w.end → covered folds k ≡ false
    not-covered le k l u = go (cases_Bool (covered folds k)) where
      go : (covered folds k ≡ true) ⊎ (covered folds k ≡ false) → covered folds k ≡ false
      go (inr x) = x
      go (inl x) = let f = covered_of folds k x in absurd (none-further le f.0 f.1 (let a = f.2 in omega (arith, a, u)) (let b = f.3 in omega (arith, b, l)))

    no-more : now.end ≤ w.end → w.to ≤ w.end
    no-more le = go (cases_lt w.end w.to) where
      go : (w.end < w.to) ⊎ (w.to ≤ w.end) → w.to ≤ w.end
      go (inr x) = x
      go (inl x) = absurd (false≢true (sym (not-covered le w.end le (omega arith)) ∙ win.to_hides ∙ lt-ltb w.end w.to x))

    pub finished-over : w.end < now.end → AreJoined folds w.from (with_one joined (joined_fold now.start w.to)) w.to
    finished-over x =
        let order : now.start ≤ w.to = let a = s.from in let b = win.behind in omega arith in
        put-open folds w.from joined (joined_fold now.start w.to) w.to s.done order (λ y. s.hides (let a = s.from in omega (arith, x))) s.start_open
        reaches win.to_open (omega arith) (λ k l u. absurd (omega (arith, l, u))) where
          reaches : (o : ℕ) → now.start < o → o < w.to → inside folds o ≡ true
          reaches o l u = at (cases_lt o now.end) where
            at : (o < now.end) ⊎ (now.end ≤ o) → inside folds o ≡ true
            at (inl y) = s.reaches o l y
            at (inr y) = win.to_reaches o (omega (arith, x, y)) u

    pub finished-within : now.end ≤ w.end → AreJoined folds w.from (with_one joined now) w.to
    finished-within x =
        let same : w.to ≤ w.end = no-more x in
        let end : now.end ≤ w.to = let b = win.behind in omega (arith, x) in
        put-open folds w.from joined now w.to s.done s.order s.hides s.start_open s.reaches
        (not_inside folds now.end (λ f m y z. none-further x f m (omega (arith, x, y)) z)) end
        (λ k l u. not-covered x k l (omega (arith, u, same)))
