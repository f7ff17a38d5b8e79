-- Positions in order, and splices from them.
use Rattle.std.proofs.Common.{◌≡◌, ℕ, ◌+◌, ◌<◌, ◌≤◌, List, [], ◌∷◌, ◌++◌, length, drop, get_or, refl, sym, ap, subst, arith}
use Rattle.std.proofs.lemmas.List.{drop_more}
use Rattle.cell_units.specs.declared.place.Bias.{Bias}
use Rattle.cell_units.specs.declared.place.Bias.TheVariants.{Left, Right}
use Rattle.cell_units.specs.Lawful.{IsWellFormed}
use Rattle.cell_units.specs.Layers.{Source, place_of, shown_text, unfolded}
use Rattle.cell_units.specs.Text.{IsBoundary, row_of}
use Rattle.cell_units.proofs.LineSpans.{place-line}
use Rattle.cell_units.proofs.ShownPlaces.{places-left_first, places-rise}
use Rattle.cell_units.proofs.Sources.{ends_open}
use Rattle.sum_core.specs.declared.load.NoLoad.{NoLoad}
use Rattle.splice_tree.specs.Splices.{Piece}
use Rattle.joined_folds.specs.declared.joined_fold.JoinedFold.{JoinedFold}
use Rattle.joined_folds.specs.JoinedLists.{last_end}
use Rattle.fold_map.specs.declared.amount.Amount.{Amount}
use Rattle.fold_map.specs.Amounts.{line_at}
use Rattle.fold_map.specs.Positions.{AreInText, IsBefore, position_of}
use Rattle.fold_map.specs.Splices.{splice_of, splices_from}
use Rattle.fold_map.proofs.Places.{low-apart}
use Rattle.fold_map.proofs.Sums.{lines-left_first, lines-right_left, lines-rise}

-- the row of an offset's place is its line
pub row-line : (s : Source) → IsWellFormed s → (o : ℕ) (bias : Bias) → o ≤ length s.text → row_of (shown_text s) (place_of s o bias) ≡ line_at s o bias
row-line s is o bias u = place-line s (ends_open s is) o bias u

pub unfold-same : (s : Source) → s.folds ≡ [] → s ≡ unfolded s
unfold-same s bare i = record { text = s.text; inlays = s.inlays; folds = bare i }

module _ (s : Source) (bare : s.folds ≡ []) where
  -- from before the inlays at an offset to after those at one that isn't before it
  pub left-right : (o p : ℕ) → o ≤ p → p ≤ length s.text → IsBefore (position_of s o Left) (position_of s p Right)
  left-right o p l u =
      subst (λ (v : Source). IsBefore (position_of v o Left) (position_of v p Right)) (sym (unfold-same s bare))
      (record {
        offsets = l;
        places = let a = places-rise (unfolded s) o p Left l u in let b = places-left_first (unfolded s) p in omega (arith, a, b);
        lines = let a = lines-rise s.text s.inlays o p Left l u in let b = lines-left_first s.text s.inlays p u in omega (arith, a, b);
      })

  -- from after the inlays at an offset to before those at a later one
  pub right-left : (o p : ℕ) → o < p → p ≤ length s.text → IsBefore (position_of s o Right) (position_of s p Left)
  right-left o p l u =
      subst (λ (v : Source). IsBefore (position_of v o Right) (position_of v p Left)) (sym (unfold-same s bare))
      (record {
        offsets = omega (arith, l);
        places = let a = low-apart s.text s.inlays o p l u in omega (arith, a);
        lines = lines-right_left s.text s.inlays o p l u;
      })

pub base-at : (s : Source) (base : ℕ) (js : List JoinedFold) → AreInText s base js → IsBoundary s.text base
base-at s base [] a = a
base-at s base (j ∷ js) a = a.0.base_at

-- ---- one more

pub last-more : (base : ℕ) (xs : List JoinedFold) (j : JoinedFold) → last_end base (xs ++ j ∷ []) ≡ j.end
last-more base [] j = refl
last-more base (x ∷ xs) j = last-more x.end xs j

pub splices-more : (s : Source) (base : ℕ) (xs : List JoinedFold) (j : JoinedFold) → splices_from s base (xs ++ j ∷ []) ≡ splices_from s base xs ++ splice_of s (last_end base xs) j ∷ []
splices-more s base [] j = refl
splices-more s base (x ∷ xs) j = ap (λ (ps : List (Piece Amount NoLoad)). splice_of s base x ∷ ps) (splices-more s x.end xs j)

-- the first that is left
pub next-one : (s : Source) (base : ℕ) (js : List JoinedFold) (i : ℕ) (d : JoinedFold) → i < length js → AreInText s base (drop i js) → AreInText s base (get_or js i d ∷ drop (i + 1) js)
next-one s base js i d l a = subst (AreInText s base) (drop_more js i d l) a
