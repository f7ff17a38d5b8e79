-- The order of sizes: by the bytes, then by the line feeds, then by the chunks.
use Rattle.std.specs.Prelude.{◌≡◌, ℕ, ◌+◌, ◌≤◌, Bool, true, false, cond, nat_lt, ◌==◌, refl}
use Rattle.std.specs.Ordering.{is_gt, nat_cmp, on, then_cmp, ordering_then}
use Rattle.std.specs.declared.cmp.Ordering.{Ordering}
use Rattle.std.specs.declared.cmp.Ordering.TheVariants.{Less, Equal, Greater}
use Rattle.std.proofs.Common.{le-add_left, le-add_right, subst, sym}
use Rattle.std.proofs.Math.Nat.{le_antisymm}
use Rattle.std.proofs.lemmas.Bool.{eq-eqb, ltb-false}
use Rattle.sum_core.specs.Sums.{DimensionLaws}
use Rattle.sum_core.proofs.Counts.{count-left_not_greater, count-right_not_greater}
use Rattle.text_rope.specs.Sizes.{SizeFits, joined_size}
use Rattle.text_rope.specs.declared.chunk.TextSize.{TextSize}

abbrev pub size_cmp : TextSize → TextSize → Ordering
size_cmp = then_cmp (on (λ s. s.bytes) nat_cmp) (then_cmp (on (λ s. s.feeds) nat_cmp) (on (λ s. s.chunks) nat_cmp))

by_tests : (less equal : Bool) (rest : Ordering) → (less ≡ false → equal ≡ true) → is_gt rest ≡ false → is_gt (ordering_then (cond less Less (cond equal Equal Greater)) rest) ≡ false
by_tests true equal rest h e = refl
by_tests false equal rest h e = subst (λ (t : Bool). is_gt (ordering_then (cond t Equal Greater) rest) ≡ false) (sym (h refl)) e

-- a first number that is no greater, and then others that are no greater
pub then_not_greater : (m n : ℕ) (rest : Ordering) → m ≤ n → is_gt rest ≡ false → is_gt (ordering_then (nat_cmp m n) rest) ≡ false
then_not_greater m n rest le e = by_tests (nat_lt m n) (m == n) rest (λ f. eq-eqb m n (le_antisymm le (ltb-false m n f))) e

pub size_dimension : DimensionLaws joined_size SizeFits joined_size (λ a b. SizeFits (joined_size a b)) (λ s. s) size_cmp
size_dimension = record {
  of_joined = λ x y. refl;
  fits_joined = λ x y f. f;
  left_not_greater = λ x y f. then_not_greater x.bytes (x.bytes + y.bytes) _ (le-add_right x.bytes y.bytes) (then_not_greater x.feeds (x.feeds + y.feeds) _ (le-add_right x.feeds y.feeds) (count-left_not_greater x.chunks y.chunks));
  right_not_greater = λ x y f. then_not_greater y.bytes (x.bytes + y.bytes) _ (le-add_left y.bytes x.bytes) (then_not_greater y.feeds (x.feeds + y.feeds) _ (le-add_left y.feeds x.feeds) (count-right_not_greater x.chunks y.chunks));
}
