-- A longer prefix reaches what a shorter one does.
use Rattle.std.proofs.Common.{◌≡◌, ℕ, ◌+◌, ◌<◌, ◌≤◌, Bool, true, false, List, length, ap, ◌∙◌, sym, refl, arith, Option, Some, None, MatchOption}
use Rattle.std.specs.Ordering.{is_gt, is_lt, is_le}
use Rattle.std.specs.declared.cmp.Ordering.{Ordering}
use Rattle.std.specs.declared.cmp.Ordering.TheVariants.{Less, Equal, Greater}
use Rattle.std.specs.Cmp.{IsTotalOrder, upto, alike_right}
use Rattle.cell_units.specs.declared.place.Bias.{Bias}
use Rattle.cell_units.specs.declared.place.Bias.TheVariants.{Left, Right}
use Rattle.sum_core.specs.Sums.{SummaryLaws, DimensionLaws, total}
use Rattle.sum_tree.specs.Cursors.{measure_to, is_reached, IsSought}
use Rattle.sum_tree.specs.inside.Paths.{is_met, IsFound}
use Rattle.sum_tree.specs.declared.path.Aim.TheVariants.{Sum}
use Rattle.sum_tree.specs.declared.path.Found.{Found}
use Rattle.sum_tree.proofs.Prefixes.{measure-not_greater}

le-not_gt : (o : Ordering) → is_le o ≡ true → is_gt o ≡ false
le-not_gt Less e = refl
le-not_gt Equal e = refl
le-not_gt Greater e = cc

not_gt-le : (o : Ordering) → is_gt o ≡ false → is_le o ≡ true
not_gt-le Less e = refl
not_gt-le Equal e = refl
not_gt-le Greater e = cc

is-Less : (o : Ordering) → is_lt o ≡ true → o ≡ Less
is-Less Less e = refl
is-Less Equal e = cc
is-Less Greater e = cc

module _ {D : Type 0} (cmp : D → D → Ordering) (o : IsTotalOrder cmp) where
  below-not_greater : (t x y : D) (r : Ordering) → cmp x y ≡ r → is_gt r ≡ false → cmp t x ≡ Less → cmp t y ≡ Less
  below-not_greater t x y Less e g l = o.trans t x y l e
  below-not_greater t x y Equal e g l = sym (alike_right o x y t e) ∙ l
  below-not_greater t x y Greater e g l = cc

  reached-later : (bias : Bias) (t x y : D) → is_gt (cmp x y) ≡ false → is_reached cmp bias t x ≡ true → is_reached cmp bias t y ≡ true
  reached-later Left t x y g r = not_gt-le (cmp t y) (upto o t x y (le-not_gt (cmp t x) r) g)
  reached-later Right t x y g r = ap is_lt (below-not_greater t x y (cmp x y) refl g (is-Less (cmp t x) r))

  unreached-before : (bias : Bias) (t x y : D) (b : Bool) → is_reached cmp bias t x ≡ b → is_gt (cmp x y) ≡ false → is_reached cmp bias t y ≡ false → is_reached cmp bias t x ≡ false
  unreached-before bias t x y false e g n = e
  unreached-before bias t x y true e g n = absurd-bool (sym (reached-later bias t x y g e) ∙ n)
    where
      absurd-bool : {A : Type 0} → true ≡ false → A
      absurd-bool p = cc

module _ {T S D : Type 0} (empty : S) (joined : S → S → S) (fits : S → Type 0) (summary : T → S) (laws : SummaryLaws empty joined fits) (jw : D → D → D) (fw : D → D → Type 0) (measure : S → D) (cmp : D → D → Ordering) (dim : DimensionLaws joined fits jw fw measure cmp) (o : IsTotalOrder cmp) where
  unreached : (all : List T) (target : D) (bias : Bias) (n : ℕ) → fits (total empty joined summary all) → n ≤ length all → (0 < n → is_reached cmp bias target (measure_to empty joined summary measure all n) ≡ false) → (k : ℕ) → 1 ≤ k → k ≤ n → is_reached cmp bias target (measure_to empty joined summary measure all k) ≡ false
  unreached all target bias n f le none k some low =
      unreached-before cmp o bias target (measure_to empty joined summary measure all k) (measure_to empty joined summary measure all n) _ refl
      (measure-not_greater empty joined fits summary laws jw fw measure cmp dim all k n f low le) (none (omega arith))

  pub sought-item : (all : List T) (target : D) (bias : Bias) (n place : ℕ) → fits (total empty joined summary all) → n < length all → (0 < n → is_reached cmp bias target (measure_to empty joined summary measure all n) ≡ false) → is_reached cmp bias target (measure_to empty joined summary measure all (n + 1)) ≡ true → place ≡ n + 1 → IsSought empty joined summary measure cmp all target bias place
  sought-item all target bias n place f lt none met is =
      record {
        past_start = omega (arith, is);
        at_most_past_end = omega (arith, is, lt);
        none_before = λ k some low. unreached all target bias n f (omega (arith, lt)) none k some (omega (arith, is, low));
        reached = λ _. ap (λ j. is_reached cmp bias target (measure_to empty joined summary measure all j)) is ∙ met;
      }

  pub sought-end : (all : List T) (target : D) (bias : Bias) (place : ℕ) → fits (total empty joined summary all) → (0 < length all → is_reached cmp bias target (measure_to empty joined summary measure all (length all)) ≡ false) → place ≡ length all + 1 → IsSought empty joined summary measure cmp all target bias place
  sought-end all target bias place f none is =
      record {
        past_start = omega (arith, is);
        at_most_past_end = omega (arith, is);
        none_before = λ k some low. unreached all target bias (length all) f (omega arith) none k some (omega (arith, is, low));
        reached = λ le. absurd (omega (arith, is, le));
      }

  pub sought-by : (r : Option (Found T D S)) (all : List T) (target : D) (bias : Bias) (place : ℕ) → fits (total empty joined summary all) → MatchOption r (0 < length all → is_met cmp (Sum target bias) (length all) (measure_to empty joined summary measure all (length all)) ≡ false) (λ f. IsFound empty joined summary measure cmp all (Sum target bias) f) → MatchOption r (place ≡ length all + 1) (λ f. place ≡ f.index + 1) → IsSought empty joined summary measure cmp all target bias place
  sought-by None all target bias place f found is = sought-end all target bias place f found is
  sought-by (Some k) all target bias place f found is =
      sought-item all target bias k.index place f found.item.within
      (λ lt. ap (is_reached cmp bias target) (sym found.item.start_is) ∙ found.not_before lt)
      (ap (is_reached cmp bias target) (sym found.item.end_is) ∙ found.met) is
