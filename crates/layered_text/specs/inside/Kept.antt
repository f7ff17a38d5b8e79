-- What a layered text keeps, and both of its maps before they show a change.
use Rattle.std.specs.Prelude.{◌≡◌, ℕ, List, Option, None, option_map}
use Rattle.cell_units.specs.declared.place.Shift.{Shift}
use Rattle.cell_units.specs.Lawful.{IsAllowed}
use Rattle.cell_units.specs.Layers.{Source, unfolded}
use Rattle.cell_units.specs.Operation.{Operation, operated}
use Rattle.cell_units.specs.Touched.{EachLine, NoLine, Rows, Touched, touched}
use Rattle.edit_patch.specs.Leads.{reach_of}
use Rattle.inlay_map.specs.Maps.{InlayState}
use Rattle.fold_map.specs.Maps.{FoldState, state_of}
use Rattle.folded_text.specs.Answered.{folds_told, inlays_told, text_shift}
use Rattle.layered_text.specs.Layered.{record_of}

-- the map of inlays of a source, all of which was shown
abbrev pub inlays_of : Source → InlayState
inlays_of s = record { current = unfolded s; shown = unfolded s; pending = None }

-- Both maps have what the source has, and all of it was shown.
pub record IsLayered (rope : List ℕ) (inlays : InlayState) (inlaid : Source) (folds : FoldState) (layer : Source) : Type 0 where
  pub rope_is : rope ≡ layer.text
  pub inlays_are : inlays ≡ inlays_of layer
  pub inlaid_is : inlaid ≡ unfolded layer
  pub folds_are : folds ≡ state_of layer

-- lines of rows are touched
abbrev pub AreRows : Touched → Type 0
AreRows (Rows before after) = Unit {0}
AreRows NoLine = ⊥
AreRows EachLine = ⊥

-- The text is the one after the operation, and both maps of the source were given that and show it next.
pub record AreTold (operation : Operation) (s : Source) (rope : List ℕ) (inlays : InlayState) (folds : FoldState) (shift : Option Shift)
    : Type 0 where
  pub allowed : IsAllowed operation (record_of s)
  pub rows : AreRows (touched operation (record_of s))
  pub rope_is : rope ≡ (operated operation (record_of s)).text
  pub inlays_are : inlays ≡ inlays_told operation (record_of s)
  pub folds_are : folds ≡ folds_told operation (record_of s)
  pub shift_is : option_map reach_of shift ≡ text_shift operation

-- some operation was given to both
abbrev pub WereTold : Source → List ℕ → InlayState → FoldState → Option Shift → Type 0
WereTold s rope inlays folds shift = (operation : Operation) × AreTold operation s rope inlays folds shift
