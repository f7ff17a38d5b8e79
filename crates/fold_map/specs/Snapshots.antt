-- What a fold map shows at one moment.
use Rattle.std.specs.Prelude.{ℕ, ◌≡◌, ◌<◌, ◌^◌, ◌==◌, ◌&&◌, nat_le, nat_lt, Bool, not, if◌then◌else◌, List, [], length, Option, Some, None}
use Rattle.std.specs.List.{list_any}
use Rattle.cell_units.specs.declared.limits.TheConstants.{ENTRY_LIMIT}
use Rattle.cell_units.specs.declared.fault.Refusal.{Refusal}
use Rattle.cell_units.specs.declared.fault.Refusal.TheVariants.{BadRange, IdInUse, TooLong, UnknownId}
use Rattle.cell_units.specs.Layers.{Source, shown_text}
use Rattle.cell_units.specs.Lawful.{AreFolds, IsWellFormed}
use Rattle.cell_units.specs.Record.{Fold}
use Rattle.cell_units.specs.Text.{is_boundary}
use Rattle.joined_folds.specs.declared.joined_fold.JoinedFold.{JoinedFold}
use Rattle.joined_folds.specs.JoinedLists.{AreAllJoined}
use Rattle.sum_core.specs.declared.load.NoLoad.{NoLoad}
use Rattle.splice_tree.specs.Splices.{Piece}
use Rattle.fold_map.specs.declared.amount.Amount.{Amount}
use Rattle.fold_map.specs.Splices.{AreSplices}

-- a layer's text and inlays under other folds
abbrev pub with_folds : Source → List Fold → Source
with_folds layer folds = record { text = layer.text; inlays = layer.inlays; folds = folds }

-- every place of what is shown is a u32
abbrev pub PlacesFit : Source → Type 0
PlacesFit source = length (shown_text source) < 2 ^ 32

-- A text with inlays and folds that fit it, of which every place is a u32. Its joined folds are a list.
pub record IsLawful (s : Source) : Type 0 where
  pub formed : IsWellFormed s
  pub fits : PlacesFit s
  pub joined : List JoinedFold
  pub all : AreAllJoined s.folds (length s.text) joined

-- A layer without folds, folds that fit it, and their splices.
pub record IsSnapshot (layer : Source) (folds : List Fold) (splices : List (Piece Amount NoLoad)) : Type 0 where
  pub bare : layer.folds ≡ []
  pub lawful : AreFolds layer.text folds
  pub fits : PlacesFit (with_folds layer folds)
  pub spliced : AreSplices (with_folds layer folds) splices

-- ---- refusals

-- the offsets are boundaries of the text, the first before the second
abbrev pub is_range : List ℕ → ℕ → ℕ → Bool
is_range text start end = nat_lt start end && (is_boundary text start && is_boundary text end)

-- why a fold isn't added, if it isn't
abbrev pub fold_refusal : Source → ℕ → ℕ → ℕ → Option Refusal
fold_refusal source id start end =
    if list_any (λ f. f.id == id) source.folds then Some IdInUse
    else (if not (is_range source.text start end) then Some BadRange
    else (if nat_le ENTRY_LIMIT (length source.folds) then Some TooLong else None))

-- why no fold of the id is removed, if none is
abbrev pub unfold_refusal : Source → ℕ → Option Refusal
unfold_refusal source id = if list_any (λ f. f.id == id) source.folds then None else Some UnknownId
