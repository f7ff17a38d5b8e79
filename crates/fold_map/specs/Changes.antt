-- What a change of folds or of the lower layer keeps of a source.
use Rattle.std.specs.Prelude.{ℕ, ◌≡◌, ◌<◌, ◌≤◌, List, length}
use Rattle.cell_units.specs.declared.place.Bias.{Bias}
use Rattle.cell_units.specs.declared.place.Bias.TheVariants.{Left, Right}
use Rattle.cell_units.specs.Lawful.{IsWellFormed}
use Rattle.cell_units.specs.Layers.{Source, unfolded}
use Rattle.cell_units.specs.Text.{IsBoundary}
use Rattle.joined_folds.specs.declared.joined_fold.JoinedFold.{JoinedFold}
use Rattle.joined_folds.specs.Windows.{AreAlike, moved_on}
use Rattle.fold_map.specs.declared.amount.Amount.{Amount}
use Rattle.fold_map.specs.declared.met.Change.{Change}
use Rattle.fold_map.specs.Amounts.{amount_between}
use Rattle.fold_map.specs.Positions.{position_of}
use Rattle.fold_map.specs.Snapshots.{PlacesFit}

-- Layers that are the same but from one offset to another, of which the second went to `last`. Positions before stay,
-- and those after are as far from each other.
pub record AreSameAround (old new : Source) (start end last : ℕ) : Type 0 where
  pub left : (o : ℕ) → o ≤ start → position_of new o Left ≡ position_of old o Left
  pub right : (o : ℕ) → o < start → position_of new o Right ≡ position_of old o Right
  pub behind : (o p : ℕ) (b b' : Bias) → end < o → o ≤ p → p ≤ length old.text
      → amount_between new (moved_on end last o) b (moved_on end last p) b' ≡ amount_between old o b p b'

-- A change of a source within its range.
pub record IsChange (old new : Source) (c : Change) : Type 0 where
  pub formed : IsWellFormed new
  pub fits : PlacesFit new
  pub within : c.end ≤ length old.text
  pub text : length new.text ≡ moved_on c.end c.last (length old.text)
  pub alike : AreAlike old.folds new.folds c.start c.end c.last
  pub around : AreSameAround (unfolded old) (unfolded new) c.start c.end c.last

-- a joined fold after a change, which is not before an offset once it has moved
pub record IsMovedNext (text : List ℕ) (base : ℕ) (c : Change) (j : JoinedFold) : Type 0 where
  pub behind : c.end ≤ j.start
  pub boundary : IsBoundary text (moved_on c.end c.last j.start)
  pub order : base ≤ moved_on c.end c.last j.start

-- how much of the layer is shown from an offset up to that
abbrev pub IsGapTo : Source → ℕ → Change → Amount → JoinedFold → Type 0
IsGapTo layer base c gap j = gap ≡ amount_between layer base Left (moved_on c.end c.last j.start) Right
