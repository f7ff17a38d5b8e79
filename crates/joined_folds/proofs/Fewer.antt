-- There are no more joined folds than folds: at the start of each starts a fold of its own.
use Rattle.std.proofs.Common.{refl, ◌≡◌, ℕ, ◌+◌, ◌<◌, ◌≤◌, zero, suc, Bool, true, false, cond, leb, ltb, List, [], ◌∷◌, length, count_by, sym, ap, ◌∙◌, subst, inl, inr, arith, ◌⊎◌, ◌&&◌}
use Rattle.std.specs.List.{All, Contains}
use Rattle.std.proofs.lemmas.Bool.{and_from, and_parts, cases_lt, false≢true, le-leb, leb-true, lt-ltb}
use Rattle.std.proofs.lemmas.List.Sums.{count_by-le-length}
use Rattle.cell_units.specs.Record.{Fold}
use Rattle.cell_units.specs.Folded.{covered, inside}
use Rattle.cell_units.specs.Joined.{ShowsOnePlaceholder}
use Rattle.cell_units.proofs.Joined.{covered_of, inside_by}
use Rattle.cell_units.proofs.SortedLists.{count-cons}
use Rattle.joined_folds.specs.declared.joined_fold.JoinedFold.{JoinedFold}
use Rattle.joined_folds.specs.declared.window.Window.{Window}
use Rattle.joined_folds.specs.JoinedLists.{AreAllJoined, AreJoined}
use Rattle.joined_folds.specs.Windows.{IsWindow}
use Rattle.joined_folds.proofs.JoinedLists.{joined-order}

-- ---- counts

module _ {X : Type 0} (p q : X → Bool) (weaker : (x : X) → q x ≡ true → p x ≡ true) where
  pub count-weaker : (xs : List X) → count_by q xs ≤ count_by p xs
  count-weaker [] = omega arith
  count-weaker (x ∷ xs) = go (p x) (q x) refl refl (count-cons p x xs) (count-cons q x xs) (count-weaker xs) where
    go : (a b : Bool) → p x ≡ a → q x ≡ b → count_by p (x ∷ xs) ≡ cond a 1 0 + count_by p xs → count_by q (x ∷ xs) ≡ cond b 1 0 + count_by q xs
        → count_by q xs ≤ count_by p xs → count_by q (x ∷ xs) ≤ count_by p (x ∷ xs)
    go true true e f m n h = omega (arith, m, n, h)
    go true false e f m n h = omega (arith, m, n, h)
    go false true e f m n h = absurd (false≢true (sym e ∙ weaker x f))
    go false false e f m n h = omega (arith, m, n, h)

  -- one of them passes the one test alone
  pub count-stronger : (xs : List X) (x : X) → Contains xs x → p x ≡ true → q x ≡ false → count_by q xs + 1 ≤ count_by p xs
  count-stronger [] x m e f = absurd (let l = m.1 in omega (arith, l))
  count-stronger (y ∷ ys) x (zero, below, is) e f =
      let m = count-cons p y ys ∙ ap {B = ℕ} (λ (b : Bool). cond b 1 0 + count_by p ys) (ap p is ∙ e) in
      let n = count-cons q y ys ∙ ap {B = ℕ} (λ (b : Bool). cond b 1 0 + count_by q ys) (ap q is ∙ f) in
      omega (arith, m, n, count-weaker ys)
  count-stronger (y ∷ ys) x (suc k, below, is) e f = go (p y) (q y) refl refl (count-cons p y ys) (count-cons q y ys) (count-stronger ys x (k, omega (arith, below), is) e f) where
    go : (a b : Bool) → p y ≡ a → q y ≡ b → count_by p (y ∷ ys) ≡ cond a 1 0 + count_by p ys → count_by q (y ∷ ys) ≡ cond b 1 0 + count_by q ys
        → count_by q ys + 1 ≤ count_by p ys → count_by q (y ∷ ys) + 1 ≤ count_by p (y ∷ ys)
    go true true c d m n h = omega (arith, m, n, h)
    go true false c d m n h = omega (arith, m, n, h)
    go false true c d m n h = absurd (false≢true (sym c ∙ weaker y d))
    go false false c d m n h = omega (arith, m, n, h)

module _ (folds : List Fold) where
  -- a fold starts where a joined fold does
  first-fold : (s e : ℕ) → ShowsOnePlaceholder folds s e → (f : Fold) × Contains folds f × (f.start ≡ s)
  first-fold s e is = at (covered_of folds s is.0) where
    at : (f : Fold) × (Contains folds f) × (f.start ≤ s) × (s < f.end) → (f : Fold) × Contains folds f × (f.start ≡ s)
    at r = go (cases_lt r.0.start s) where
      go : (r.0.start < s) ⊎ (s ≤ r.0.start) → (f : Fold) × Contains folds f × (f.start ≡ s)
      go (inl x) = absurd (false≢true (sym is.1 ∙ inside_by folds s r.0 r.1 x r.3))
      go (inr x) = (r.0, r.1, (let l = r.2 in omega (arith, x, l)))

  -- the folds that pass a test and start at an offset or after it
  abbrev from_on : (Fold → Bool) → ℕ → Fold → Bool
  from_on q from f = leb from f.start && q f

  further : (q : Fold → Bool) (from mid : ℕ) → from ≤ mid → (f : Fold) → from_on q mid f ≡ true → from_on q from f ≡ true
  further q from mid l f h =
      let r = and_parts (leb mid f.start) (q f) h in
      and_from (leb from f.start) (q f) (le-leb from f.start (let x = leb-true mid f.start r.0 in omega (arith, l, x))) r.1

  -- no more joined folds than folds that pass a test, where each passes it that starts with a joined fold
  pub few-passing : (q : Fold → Bool) (from : ℕ) (js : List JoinedFold) (to : ℕ) → AreJoined folds from js to
      → ((s e : ℕ) → from ≤ s → s < e → e ≤ to → ShowsOnePlaceholder folds s e → (f : Fold) → Contains folds f → f.start ≡ s → q f ≡ true)
      → length js ≤ count_by (from_on q from) folds
  few-passing q from [] to a each = omega arith
  few-passing q from (j ∷ js) to a each =
      let first = first-fold j.start j.end a.0.shows in
      let passes = each j.start j.end a.0.order a.0.some (joined-order folds j.end js to a.1) a.0.shows first.0 first.1 first.2 in
      let here = first.2 in
      let counted = and_from (leb from first.0.start) (q first.0) (le-leb from first.0.start (omega (arith, here, a.0.order))) passes in
      let rest = few-passing q j.end js to a.1 (λ s e l v u. each s e (omega (arith, l, a.0.order, a.0.some)) v u) in
      let more = count-stronger (from_on q from) (from_on q j.end) (further q from j.end (omega (arith, a.0.order, a.0.some))) folds first.0 first.1 counted (before j.end first.0 (omega (arith, here, a.0.some))) in
      omega (arith, rest, more)
    where
      before : (n : ℕ) (f : Fold) → f.start < n → from_on q n f ≡ false
      before n f l = go (leb n f.start) refl where
        go : (b : Bool) → leb n f.start ≡ b → (b && q f) ≡ false
        go true e = absurd (let x = leb-true n f.start e in omega (arith, l, x))
        go false e = refl

  -- no more joined folds than folds
  pub few-joined : (n : ℕ) (js : List JoinedFold) → AreAllJoined folds n js → length js ≤ length folds
  few-joined n js a =
      omega (arith, few-passing (λ f. true) 0 js n a.1 (λ s e l v u is f m h. refl), count_by-le-length (from_on (λ f. true) 0) folds)

  -- ---- in a window

  module _ (w : Window) (is : IsWindow folds w) where
    -- the first of them reaches the window's start
    reaches : (s e : ℕ) → w.from ≤ s → s < e → ((k : ℕ) → w.from ≤ k → k < s → covered folds k ≡ false) → ShowsOnePlaceholder folds s e → w.start ≤ e
    reaches s e l some bare shows = go (cases_lt e w.start) where
      go : (e < w.start) ⊎ (w.start ≤ e) → w.start ≤ e
      go (inr x) = x
      go (inl x) = absurd (false≢true (sym shows.3 ∙ is.from_reaches e (omega (arith, l, some)) x))

    -- and the others meet it or start at its end
    meets : All (λ (f : Fold). f.start < f.end) folds → (s e : ℕ) → w.start ≤ s → s < e → e ≤ w.to → inside folds s ≡ false → (f : Fold) → Contains folds f → f.start ≡ s → (leb f.start w.end && ltb w.start f.end) ≡ true
    meets some s e l u v out f m here = go (cases_lt w.end s) where
      long : f.start < f.end
      long = subst (λ (g : Fold). g.start < g.end) m.2 (some m.0 f m.1)

      go : (w.end < s) ⊎ (s ≤ w.end) → (leb f.start w.end && ltb w.start f.end) ≡ true
      go (inl x) = absurd (false≢true (sym out ∙ is.to_reaches s x (omega (arith, u, v))))
      go (inr x) = and_from (leb f.start w.end) (ltb w.start f.end) (le-leb f.start w.end (omega (arith, x, here))) (lt-ltb w.start f.end (omega (arith, l, here, long)))

    pub few-within : All (λ (f : Fold). f.start < f.end) folds → (js : List JoinedFold) → AreJoined folds w.from js w.to → length js ≤ count_by (λ f. leb f.start w.end && ltb w.start f.end) folds + 1
    few-within some [] a = omega arith
    few-within some (j ∷ js) a =
        let near = reaches j.start j.end a.0.order a.0.some a.0.bare a.0.shows in
        let test : Fold → Bool = λ f. leb f.start w.end && ltb w.start f.end in
        let few = few-passing test j.end js w.to a.1 (λ s e l v u shows f m here. meets some s e (omega (arith, near, l)) v u shows.1 f m here) in
        omega (arith, few, count-weaker test (from_on test j.end) (λ f h. (and_parts (leb j.end f.start) (test f) h).1) folds)
