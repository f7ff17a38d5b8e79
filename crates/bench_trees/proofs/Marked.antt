-- How far marks go, whatever is added and moved.
use Rattle.std.proofs.Common.{◌≡◌, ℕ, ◌+◌, ◌-◌, ◌≤◌, ◌==◌, ◌&&◌, nat_lt, nat_le, Bool, true, false, cond, List, [], ◌∷◌, map, refl, arith}
use Rattle.std.specs.List.{All}
use Rattle.std.proofs.lemmas.List.Elements.{All-nil, All-cons, All-head, All-tail}
use Rattle.std.proofs.lemmas.Bool.Decides.{nat_tests}
use Rattle.cell_units.specs.declared.place.Bias.{Bias}
use Rattle.cell_units.specs.declared.place.Shift.{Shift}
use Rattle.cell_units.specs.Anchor.{move, is_left}
use Rattle.cell_units.specs.Sorting.{insert_by}
use Rattle.mark_tree.specs.declared.mark.Mark.{Mark}
use Rattle.mark_tree.specs.Marks.{mark_le, move_mark, moved_marks}
use Rattle.mark_tree.proofs.Sorting.{every-insert, every-sort}
use Rattle.mark_tree.proofs.Changing.{every-from_all, all-from_every}

-- an anchor goes no further than what is put in
move-at_most : (p : ℕ) (bias : Bias) (a b n : ℕ) → move p bias a b n ≤ p + n
move-at_most p bias a b n = go (nat_lt p a) ((p == a) && is_left bias) (nat_le p b) (λ e. not_below e) where
  not_below : nat_lt p a ≡ false → a ≤ p
  not_below e = grind (arith, nat_tests)

  go : (c d e : Bool) → (c ≡ false → a ≤ p) → cond c p (cond d p (cond e (a + n) (p + n - (b - a)))) ≤ p + n
  go true d e above = omega arith
  go false true e above = omega arith
  go false false true above = omega (arith, above refl)
  go false false false above = omega arith

module _ {P : Type 0} where
  abbrev pub AreWithin : ℕ → List (Mark P) → Type 0
  AreWithin k ms = All (λ m. m.offset ≤ k) ms

  pub within-added : (k : ℕ) (m : Mark P) (ms : List (Mark P)) → m.offset ≤ k → AreWithin k ms → AreWithin k (insert_by mark_le m ms)
  within-added k m ms le a =
      all-from_every (λ x. x.offset ≤ k) (insert_by mark_le m ms) (every-insert mark_le (λ x. x.offset ≤ k) m ms le (every-from_all (λ x. x.offset ≤ k) ms a))

  pub within-moved : (k l : ℕ) (s : Shift) (ms : List (Mark P)) → k + s.count ≤ l → AreWithin k ms → AreWithin l (map (move_mark s) ms)
  within-moved k l s [] le a = All-nil (λ m. m.offset ≤ l)
  within-moved k l s (m ∷ ms) le a =
      let here = All-head (λ x. x.offset ≤ k) m ms a in
      All-cons (λ x. x.offset ≤ l) (move_mark s m) (map (move_mark s) ms) (omega (arith, here, move-at_most m.offset m.bias s.start s.end s.count)) (within-moved k l s ms le (All-tail (λ x. x.offset ≤ k) m ms a))

  pub within-sorted : (k l : ℕ) (s : Shift) (ms : List (Mark P)) → k + s.count ≤ l → AreWithin k ms → AreWithin l (moved_marks s ms)
  within-sorted k l s ms le a =
      all-from_every (λ x. x.offset ≤ l) (moved_marks s ms) (every-sort mark_le (λ x. x.offset ≤ l) (map (move_mark s) ms) (every-from_all (λ x. x.offset ≤ l) (map (move_mark s) ms) (within-moved k l s ms le a)))
