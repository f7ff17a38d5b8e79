-- The stops of blocks that are all shown, and what is shown where all are.
use Rattle.std.proofs.Common.{◌≡◌, ℕ, ◌+◌, ◌^◌, ◌<◌, ◌==◌, Bool, true, false, cond, List, [], ◌∷◌, Option, Some, None, length, map, refl, ap, ◌∙◌, arith, inl, inr}
use Rattle.std.specs.Option.{is_some}
use Rattle.std.proofs.lemmas.List.Sums.{sum_by-cons}
use Rattle.cell_units.specs.declared.place.Side.{Side}
use Rattle.cell_units.specs.declared.place.Side.TheVariants.{Above, Below}
use Rattle.cell_units.specs.Layers.{Source}
use Rattle.cell_units.specs.Rows.{HaveRows, all_rows}
use Rattle.mark_tree.proofs.Changing.{all-from_every, every-from_all}
use Rattle.mark_tree.proofs.Sorting.{Every}
use Rattle.block_map.specs.Follows.{block_height}
use Rattle.block_map.specs.Maps.{BlockState, Kept, placed, stop_of}
use Rattle.block_map.specs.Stops.{Stop, all_stop_rows}
use Rattle.block_map.specs.inside.ShownStops.{AreShown, row_or_none, shown_between, shown_stop}
use Rattle.block_map.specs.inside.Sides.{ArePaired, BlockMark, IsOf, kept, kept_of, shown_at}
use Rattle.block_map.specs.inside.TwoSides.{IsState, WasAtLine}
use Rattle.block_map.specs.inside.Zones.{IsAboveLine, IsBelowLine, IsBetween}

abbrev IsSeen : Kept → Type 0
IsSeen k = is_some k.row ≡ true

-- a stop with lines is that of its block
shown-one : (m : BlockMark) (s : Stop) → IsOf m s → is_some (shown_at s) ≡ true → s ≡ shown_stop (kept m s)
shown-one m s of e = go (length s.lines == 0) refl e where
  not-empty : (length s.lines == 0) ≡ true → (length s.lines == 0) ≡ false → ⊥
  not-empty a b = cc

  go : (b : Bool) → (length s.lines == 0) ≡ b → is_some (cond b None (Some s.row)) ≡ true → s ≡ record { row = row_or_none (cond b None (Some s.row)); lines = m.load }
  go true is e = absurd (cc)
  go false is e =
      let load : s.lines ≡ m.load = elim of.lines [
        | inl f ↦ f
        | inr f ↦ absurd (not-empty (ap (λ (l : List (List ℕ)). length l == 0) f) is)
      ] in
      λ i. record { row = s.row; lines = load i }

pub stops-shown : (ms : List BlockMark) (ss : List Stop) → ArePaired ms ss → AreShown (kept_of ms ss) → ss ≡ map shown_stop (kept_of ms ss)
stops-shown ms ss pairs shown = go ms ss pairs (every-from_all IsSeen (kept_of ms ss) shown) where
  go : (ms : List BlockMark) (ss : List Stop) → ArePaired ms ss → Every IsSeen (kept_of ms ss) → ss ≡ map shown_stop (kept_of ms ss)
  go [] [] p a = refl
  go [] (s ∷ ss) p a = absurd p
  go (m ∷ ms) [] p a = absurd p
  go (m ∷ ms) (s ∷ ss) p a = λ i. shown-one m s p.0 a.0 i ∷ go ms ss p.1 a.1 i

-- ---- what is shown

heights-shown : (ks : List Kept) → all_stop_rows (map shown_stop ks) ≡ block_height ks
heights-shown [] = refl
heights-shown (k ∷ ks) = omega (arith, sum_by-cons (λ (s : Stop). length s.lines) (shown_stop k) (map shown_stop ks), sum_by-cons (λ (k : Kept). length k.lines) k ks, heights-shown ks)

module _ (lines : List (List (List ℕ))) where
  each-above : (ks : List Kept) → Every (WasAtLine lines Above) ks → Every IsSeen ks → Every (IsAboveLine lines) (map shown_stop ks)
  each-above [] a b = tt
  each-above (k ∷ ks) a b = (one k.row refl b.0, each-above ks a.1 b.1) where
    one : (o : Option ℕ) → k.row ≡ o → is_some o ≡ true → IsAboveLine lines (shown_stop k)
    one None e f = absurd (cc)
    one (Some r) e f = let w = a.0 r e in (w.0, w.1, ap row_or_none e ∙ w.2)

  each-below : (ks : List Kept) → Every (WasAtLine lines Below) ks → Every IsSeen ks → Every (IsBelowLine lines) (map shown_stop ks)
  each-below [] a b = tt
  each-below (k ∷ ks) a b = (one k.row refl b.0, each-below ks a.1 b.1) where
    one : (o : Option ℕ) → k.row ≡ o → is_some o ≡ true → IsBelowLine lines (shown_stop k)
    one None e f = absurd (cc)
    one (Some r) e f = let w = a.0 r e in (w.0, w.1, ap row_or_none e ∙ w.2)

-- blocks that are all shown are between the lines
pub are-between : (s : BlockState) → IsState s → HaveRows s.lines → AreShown s.above → AreShown s.below
    → length (all_rows s.lines) + (block_height s.above + block_height s.below) < 2 ^ 32 → IsBetween (shown_between s)
are-between s state have above below sizes = record {
  rows = have;
  above = all-from_every (IsAboveLine s.lines) (map shown_stop s.above)
      (each-above s.lines s.above (every-from_all (WasAtLine s.lines Above) s.above state.above) (every-from_all IsSeen s.above above));
  below = all-from_every (IsBelowLine s.lines) (map shown_stop s.below)
      (each-below s.lines s.below (every-from_all (WasAtLine s.lines Below) s.below state.below) (every-from_all IsSeen s.below below));
  fits = omega (arith, heights-shown s.above, heights-shown s.below, sizes);
}

-- ---- blocks at their lines

module _ (source : Source) (lines : List (List (List ℕ))) (side : Side) where
  pub placed-shown : (ks : List Kept) → AreShown (map (placed source lines side) ks)
  placed-shown ks = all-from_every IsSeen (map (placed source lines side) ks) (go ks) where
    go : (ks : List Kept) → Every IsSeen (map (placed source lines side) ks)
    go [] = tt
    go (k ∷ ks) = (refl, go ks)

  pub placed-stops : (ks : List Kept) → map shown_stop (map (placed source lines side) ks) ≡ map (stop_of source lines side) ks
  placed-stops [] = refl
  placed-stops (k ∷ ks) = ap (λ (l : List Stop). stop_of source lines side k ∷ l) (placed-stops ks)

  pub heights-placed : (ks : List Kept) → block_height (map (placed source lines side) ks) ≡ block_height ks
  heights-placed [] = refl
  heights-placed (k ∷ ks) =
      omega (arith, sum_by-cons (λ (k : Kept). length k.lines) (placed source lines side k) (map (placed source lines side) ks), sum_by-cons (λ (k : Kept). length k.lines) k ks, heights-placed ks)
