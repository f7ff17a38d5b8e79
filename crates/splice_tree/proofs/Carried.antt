-- What the two conversions return.
use Rattle.std.proofs.Common.{ℕ, ◌≡◌, ◌+◌, ◌-◌, ◌∷◌, ◌∙◌, ap, subst, sym, take, map, MatchOption, List, Option}
use Rattle.std.specs.Borrow.{Bor}
use Rattle.std.specs.List.{slice_get}
use Rattle.std.specs.Option.{option_copied}
use Rattle.cell_units.specs.declared.place.Bias.{Bias}
use Rattle.sum_core.specs.Sums.{total}
use Rattle.sum_core.specs.Measures.{CountLaws}
use Rattle.sum_tree.specs.Firsts.{IsFirst, IsReaching}
use Rattle.splice_tree.specs.Sides.{none, both}
use Rattle.splice_tree.specs.Splices.{Piece, Stretch, flipped, piece_sum, measured, to_upper, to_lower}
use Rattle.splice_tree.specs.declared.sides.Sides.{Sides}
use Rattle.splice_tree.proofs.Passing.{carried, map-map}

module _ {S P : Type 0} (empty : S) (joined : S → S → S) (number : S → ℕ) (laws : CountLaws empty joined number) where
  pub up : (bias : Bias) (items : List (Piece S P)) (n x w low up : ℕ) (before : Sides S) (o : Option (Bor (Piece S P)))
      → IsFirst (none empty) (both joined) (piece_sum {P = P} joined) (λ s. number s.lower) items x bias n
      → before ≡ total (none empty) (both joined) (piece_sum joined) (take n items)
      → option_copied o ≡ slice_get items n
      → low ≡ number before.lower → up ≡ number before.upper
      → MatchOption o (w ≡ x - low) (λ b. (ss : List Stretch) → IsReaching bias (x - low) (number b.now.gap + number b.now.old) → w ≡ to_upper bias (measured number b.now ∷ ss) (x - low))
      → up + w ≡ to_upper bias (map (measured number) items) x
  up bias items n x w lo hi before o first is e low-is up-is m =
      ap (λ k. k + w) (up-is ∙ ap (λ (s : Sides S). number s.upper) is)
      ∙ carried (none empty) (both joined) (piece_sum joined) (λ s. number s.lower) (λ s. number s.upper) (measured number)
      laws.none laws.none (λ a b. laws.adds a.lower b.lower) (λ a b. laws.adds a.upper b.upper) (λ p. laws.adds p.gap p.old) (λ p. laws.adds p.gap p.new)
      bias items n x w o first.short first.within first.reaching e
      (subst (λ k. MatchOption o (w ≡ x - k) (λ b. (ss : List Stretch) → IsReaching bias (x - k) (number b.now.gap + number b.now.old) → w ≡ to_upper bias (measured number b.now ∷ ss) (x - k)))
      (low-is ∙ ap (λ (s : Sides S). number s.lower) is) m)

  pub down : (bias : Bias) (items : List (Piece S P)) (n x w low up : ℕ) (before : Sides S) (o : Option (Bor (Piece S P)))
      → IsFirst (none empty) (both joined) (piece_sum {P = P} joined) (λ s. number s.upper) items x bias n
      → before ≡ total (none empty) (both joined) (piece_sum joined) (take n items)
      → option_copied o ≡ slice_get items n
      → up ≡ number before.upper → low ≡ number before.lower
      → MatchOption o (w ≡ x - up) (λ b. (ss : List Stretch) → IsReaching bias (x - up) (number b.now.gap + number b.now.new) → w ≡ to_upper bias (flipped (measured number b.now) ∷ ss) (x - up))
      → low + w ≡ to_lower bias (map (measured number) items) x
  down bias items n x w lo hi before o first is e up-is low-is m =
      ap (λ k. k + w) (low-is ∙ ap (λ (s : Sides S). number s.lower) is)
      ∙ carried (none empty) (both joined) (piece_sum joined) (λ s. number s.upper) (λ s. number s.lower) (λ p. flipped (measured number p))
      laws.none laws.none (λ a b. laws.adds a.upper b.upper) (λ a b. laws.adds a.lower b.lower) (λ p. laws.adds p.gap p.new) (λ p. laws.adds p.gap p.old)
      bias items n x w o first.short first.within first.reaching e
      (subst (λ k. MatchOption o (w ≡ x - k) (λ b. (ss : List Stretch) → IsReaching bias (x - k) (number b.now.gap + number b.now.new) → w ≡ to_upper bias (flipped (measured number b.now) ∷ ss) (x - k)))
      (up-is ∙ ap (λ (s : Sides S). number s.upper) is) m)
      ∙ ap (λ l. to_upper bias l x) (sym (map-map flipped (measured number) items))
