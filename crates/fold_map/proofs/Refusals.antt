-- Why a fold is refused.
use Rattle.std.proofs.Common.{◌≡◌, ℕ, ◌<◌, ◌≤◌, ◌==◌, not, nat_le, Bool, true, false, cond, List, [], ◌∷◌, length, map, Option, Some, None, refl, sym, ap, arith, ◌||◌}
use Rattle.std.specs.List.{list_any}
use Rattle.std.specs.Str.{IsUtf8}
use Rattle.std.proofs.lemmas.Bool.Decides.{nat_tests}
use Rattle.cell_units.specs.declared.limits.TheConstants.{ENTRY_LIMIT}
use Rattle.cell_units.specs.declared.fault.Refusal.{Refusal}
use Rattle.cell_units.specs.declared.fault.Refusal.TheVariants.{BadRange, IdInUse, TooLong}
use Rattle.cell_units.specs.Layers.{Source}
use Rattle.cell_units.specs.Text.{IsBoundary, is_boundary}
use Rattle.cell_units.proofs.TextLaws.{tells_boundaries}
use Rattle.joined_folds.specs.Sweeps.{fold_of}
use Rattle.mark_tree.specs.declared.mark.RangeMark.{RangeMark}
use Rattle.mark_tree.specs.Ranges.{has_range_id}
use Rattle.fold_map.specs.Snapshots.{fold_refusal, is_range}

-- the folds of a tree have an id where its ranges do
pub same-ids : (id : ℕ) (ranges : List RangeMark) → list_any (has_range_id id) ranges ≡ list_any (λ f. f.id == id) (map fold_of ranges)
same-ids id [] = refl
same-ids id (r ∷ rs) = ap (λ (b : Bool). (r.id == id) || b) (same-ids id rs)

-- the test finds boundaries of a text that is UTF-8
pub boundary-test : (text : List ℕ) (o : ℕ) (b : Bool) → IsUtf8 text → (b ≡ true → IsBoundary text o) → (IsBoundary text o → b ≡ true) → b ≡ is_boundary text o
boundary-test text o b utf8 to from = go b (is_boundary text o) to from (tells_boundaries text utf8 o).0 (tells_boundaries text utf8 o).1 where
  go : (b c : Bool) → (b ≡ true → IsBoundary text o) → (IsBoundary text o → b ≡ true) → (c ≡ true → IsBoundary text o) → (IsBoundary text o → c ≡ true) → b ≡ c
  go true true _ _ _ _ = refl
  go true false to _ _ back = sym (back (to refl))
  go false true _ from is _ = from (is refl)
  go false false _ _ _ _ = refl

module _ (s : Source) (id start end : ℕ) where
  abbrev chain : Bool → Bool → Bool → Option Refusal
  chain a b c = cond a (Some IdInUse) (cond (not b) (Some BadRange) (cond c (Some TooLong) None))

  chained : (a b c : Bool) → list_any (λ f. f.id == id) s.folds ≡ a → is_range s.text start end ≡ b → nat_le ENTRY_LIMIT (length s.folds) ≡ c → chain a b c ≡ fold_refusal s id start end
  chained a b c p q r = λ i. chain (sym p i) (sym q i) (sym r i)

  pub refused-id : list_any (λ f. f.id == id) s.folds ≡ true → Some IdInUse ≡ fold_refusal s id start end
  refused-id p = chained true (is_range s.text start end) (nat_le ENTRY_LIMIT (length s.folds)) p refl refl

  pub refused-range : list_any (λ f. f.id == id) s.folds ≡ false → is_range s.text start end ≡ false → Some BadRange ≡ fold_refusal s id start end
  refused-range p q = chained false false (nat_le ENTRY_LIMIT (length s.folds)) p q refl

  full : (k n : ℕ) → k ≤ n → nat_le k n ≡ true
  full k n e = grind (arith, nat_tests)

  room : (k n : ℕ) → n < k → nat_le k n ≡ false
  room k n e = grind (arith, nat_tests)

  pub refused-many : list_any (λ f. f.id == id) s.folds ≡ false → is_range s.text start end ≡ true → ENTRY_LIMIT ≤ length s.folds → Some TooLong ≡ fold_refusal s id start end
  refused-many p q e = chained false true true p q (full ENTRY_LIMIT (length s.folds) e)

  pub not-refused : list_any (λ f. f.id == id) s.folds ≡ false → is_range s.text start end ≡ true → length s.folds < ENTRY_LIMIT → None ≡ fold_refusal s id start end
  not-refused p q e = chained false true false p q (room ENTRY_LIMIT (length s.folds) e)
