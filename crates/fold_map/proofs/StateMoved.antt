-- Folds that a replacement of text has moved.
use Rattle.std.proofs.Common.{◌≡◌, ℕ, ◌+◌, ◌-◌, ◌<◌, ◌≤◌, ◌==◌, ◌&&◌, ◌||◌, nat_le, nat_lt, Bool, true, false, cond, List, [], ◌∷◌, filter, map, refl, sym, ap, ◌∙◌, inl, inr, ◌⊎◌, arith}
use Rattle.std.specs.List.{All, list_any}
use Rattle.std.proofs.lemmas.Bool.{cases_lt, ltb-true, true≢false}
use Rattle.std.proofs.lemmas.Bool.Decides.{nat_tests}
use Rattle.cell_units.specs.declared.place.Bias.TheVariants.{Left, Right}
use Rattle.cell_units.specs.declared.place.Shift.{Shift}
use Rattle.cell_units.specs.Anchor.{move}
use Rattle.cell_units.specs.Folded.{inside}
use Rattle.cell_units.specs.Lawful.{AreFolds, IsFoldOf}
use Rattle.cell_units.specs.Operation.{move_fold, moved_folds}
use Rattle.cell_units.specs.Record.{Fold, fold_le}
use Rattle.cell_units.specs.Sorting.{insert_by, sort_by}
use Rattle.cell_units.specs.Text.{IsBoundary}
use Rattle.cell_units.proofs.Entries.{entries-moved_some}
use Rattle.cell_units.proofs.EntryOrders.{fold_total, fold_trans}
use Rattle.cell_units.proofs.Moves.{move-above, move-below, move-within}
use Rattle.joined_folds.specs.Sweeps.{fold_of}
use Rattle.mark_tree.specs.declared.mark.RangeMark.{RangeMark}
use Rattle.mark_tree.specs.Ranges.{is_kept, move_range, moved_ranges, range_le}
use Rattle.fold_map.proofs.StateFolds.{inserted-folds}

-- ---- the folds of ranges

sorted-folds : (rs : List RangeMark) → map fold_of (sort_by range_le rs) ≡ sort_by fold_le (map fold_of rs)
sorted-folds [] = refl
sorted-folds (r ∷ rs) = inserted-folds r (sort_by range_le rs) ∙ ap (insert_by fold_le (fold_of r)) (sorted-folds rs)

module _ (s : Shift) where
  abbrev moved : Fold → Fold
  moved f = move_fold s.start s.end s.count f

  kept-folds : (rs : List RangeMark) → map fold_of (map (move_range s) (filter (is_kept s) rs)) ≡ filter (λ f. nat_lt f.start f.end) (map moved (map fold_of rs))
  kept-folds [] = refl
  kept-folds (r ∷ rs) = go (is_kept s r) (kept-folds rs) where
    go : (b : Bool) → map fold_of (map (move_range s) (filter (is_kept s) rs)) ≡ filter (λ f. nat_lt f.start f.end) (map moved (map fold_of rs))
        → map fold_of (map (move_range s) (cond b (r ∷ filter (is_kept s) rs) (filter (is_kept s) rs)))
        ≡ cond b (moved (fold_of r) ∷ filter (λ f. nat_lt f.start f.end) (map moved (map fold_of rs))) (filter (λ f. nat_lt f.start f.end) (map moved (map fold_of rs)))
    go true h = ap (λ l. moved (fold_of r) ∷ l) h
    go false h = h

  pub moved-ranges : (rs : List RangeMark) → map fold_of (moved_ranges s rs) ≡ moved_folds s.start s.end s.count (map fold_of rs)
  moved-ranges rs = sorted-folds (map (move_range s) (filter (is_kept s) rs)) ∙ ap (sort_by fold_le) (kept-folds rs)

-- where the byte after a replaced range goes
pub move-end : (a b n : ℕ) → a ≤ b → move b Right a b n ≡ a + n
move-end a b n le = go (nat_lt b a) (b == a) (nat_le b b) (grind (arith, nat_tests)) (grind (arith, nat_tests)) where
  go : (c d e : Bool) → c ≡ false → e ≡ true → cond c b (cond (d && false) b (cond e (a + n) (b + n - (b - a)))) ≡ a + n
  go true d e p q = absurd (cc)
  go false true true p q = refl
  go false false true p q = refl
  go false d false p q = absurd (cc)

-- ---- none is strictly around an end where none was

sorted-any : (p : Fold → Bool) (fs : List Fold) → list_any p fs ≡ false → list_any p (sort_by fold_le fs) ≡ false
sorted-any p [] h = refl
sorted-any p (f ∷ fs) h = go (p f) refl h (sorted-any p fs) where
  put : (g : Fold) (gs : List Fold) → p g ≡ false → list_any p gs ≡ false → list_any p (insert_by fold_le g gs) ≡ false
  put g [] e n = λ i. e i || false
  put g (k ∷ ks) e n = at (fold_le g k) (p k) refl n (put g ks e) where
    at : (b c : Bool) → p k ≡ c → (c || list_any p ks) ≡ false → (list_any p ks ≡ false → list_any p (insert_by fold_le g ks) ≡ false) → list_any p (cond b (g ∷ k ∷ ks) (k ∷ insert_by fold_le g ks)) ≡ false
    at b true pk m r = absurd (cc)
    at true false pk m r = λ i. e i || (pk i || m i)
    at false false pk m r = λ i. pk i || r m i

  go : (c : Bool) → p f ≡ c → (c || list_any p fs) ≡ false → (list_any p fs ≡ false → list_any p (sort_by fold_le fs) ≡ false) → list_any p (insert_by fold_le f (sort_by fold_le fs)) ≡ false
  go true e h r = absurd (cc)
  go false e h r = put f (sort_by fold_le fs) e (r h)

module _ (a b n : ℕ) (order : a ≤ b) where
  -- strictly around what was put in only where it was strictly around what was taken out
  not-around : (f : Fold) → (nat_lt f.start b && nat_lt b f.end) ≡ false → (nat_lt (move f.start Right a b n) (a + n) && nat_lt (a + n) (move f.end Left a b n)) ≡ false
  not-around f h = go (cases_lt f.start b) (cases_lt b f.end) where
    less : (m k : ℕ) → k ≤ m → nat_lt m k ≡ false
    less m k l = grind (arith, nat_tests)

    yes : (m k : ℕ) → m < k → nat_lt m k ≡ true
    yes m k l = grind (arith, nat_tests)

    go : (f.start < b) ⊎ (b ≤ f.start) → (b < f.end) ⊎ (f.end ≤ b) → (nat_lt (move f.start Right a b n) (a + n) && nat_lt (a + n) (move f.end Left a b n)) ≡ false
    go (inl x) (inl y) = absurd (true≢false (sym (λ i. yes f.start b x i && yes b f.end y i) ∙ h))
    go _ (inr y) = (λ i. nat_lt (move f.start Right a b n) (a + n) && less (a + n) (move f.end Left a b n) (ends (cases_lt f.end a)) i) ∙ and-false (nat_lt (move f.start Right a b n) (a + n)) where
      ends : (f.end < a) ⊎ (a ≤ f.end) → move f.end Left a b n ≤ a + n
      ends (inl z) = omega (arith, z, move-below f.end Left a b n z)
      ends (inr z) = (move-within f.end Left a b n z y).1

      and-false : (c : Bool) → (c && false) ≡ false
      and-false true = refl
      and-false false = refl
    go (inr x) (inl y) = λ i. less (move f.start Right a b n) (a + n) (starts (cases_lt b f.start)) i && nat_lt (a + n) (move f.end Left a b n) where
      starts : (b < f.start) ⊎ (f.start ≤ b) → a + n ≤ move f.start Right a b n
      starts (inl z) = omega (arith, z, order, move-above f.start Right a b n order z)
      starts (inr z) =
          let e : b ≡ f.start = omega (arith, z, x) in
          omega (arith, move-end a b n order, ap (λ k. move k Right a b n) e)

  kept-any : (fs : List Fold) → inside fs b ≡ false → list_any (λ g. nat_lt g.start (a + n) && nat_lt (a + n) g.end) (filter (λ g. nat_lt g.start g.end) (map (move_fold a b n) fs)) ≡ false
  kept-any [] h = refl
  kept-any (f ∷ fs) h = go (nat_lt f.start b && nat_lt b f.end) refl h (not-around f) (kept-any fs) where
    go : (c : Bool) → (nat_lt f.start b && nat_lt b f.end) ≡ c → (c || inside fs b) ≡ false
        → ((nat_lt f.start b && nat_lt b f.end) ≡ false → (nat_lt (move f.start Right a b n) (a + n) && nat_lt (a + n) (move f.end Left a b n)) ≡ false)
        → (inside fs b ≡ false → list_any (λ g. nat_lt g.start (a + n) && nat_lt (a + n) g.end) (filter (λ g. nat_lt g.start g.end) (map (move_fold a b n) fs)) ≡ false)
        → list_any (λ g. nat_lt g.start (a + n) && nat_lt (a + n) g.end) (filter (λ g. nat_lt g.start g.end) (map (move_fold a b n) (f ∷ fs))) ≡ false
    go true e m out rest = absurd (cc)
    go false e m out rest = at (nat_lt (move f.start Right a b n) (move f.end Left a b n)) (out e) (rest m) where
      at : (d : Bool) → (nat_lt (move f.start Right a b n) (a + n) && nat_lt (a + n) (move f.end Left a b n)) ≡ false
          → list_any (λ g. nat_lt g.start (a + n) && nat_lt (a + n) g.end) (filter (λ g. nat_lt g.start g.end) (map (move_fold a b n) fs)) ≡ false
          → list_any (λ g. nat_lt g.start (a + n) && nat_lt (a + n) g.end) (cond d (move_fold a b n f ∷ filter (λ g. nat_lt g.start g.end) (map (move_fold a b n) fs)) (filter (λ g. nat_lt g.start g.end) (map (move_fold a b n) fs))) ≡ false
      at true p q = λ i. p i || q i
      at false p q = q

  pub end-open : (fs : List Fold) → inside fs b ≡ false → inside (moved_folds a b n fs) (a + n) ≡ false
  end-open fs h = sorted-any (λ g. nat_lt g.start (a + n) && nat_lt (a + n) g.end) (filter (λ g. nat_lt g.start g.end) (map (move_fold a b n) fs)) (kept-any fs h)

-- ---- they fit the new text

pub moved-lawful : (text new : List ℕ) (a b n : ℕ) (fs : List Fold) → AreFolds text fs → All (λ f. IsBoundary new f.start × IsBoundary new f.end) (moved_folds a b n fs) → AreFolds new (moved_folds a b n fs)
moved-lawful text new a b n fs are stand =
    let kept = entries-moved_some fold_le fold_total fold_trans (λ f. f.id) (IsFoldOf text) (λ f. Unit {0}) (λ f. f.start < f.end) (move_fold a b n) (λ f. nat_lt f.start f.end) (λ f. refl)
    (λ f h. tt) (λ f h k. ltb-true f.start f.end k) fs are in
    record {
      in_order = kept.in_order;
      distinct = kept.distinct;
      few = kept.few;
      each = λ k d l. let s = stand k d l in record { start = s.0; end = s.1; some = kept.each k d l };
    }
