-- Inlays as splices: before each its distance from the one before it, and in no bytes' place its text.
use Rattle.std.specs.Prelude.{◌≡◌, ℕ, zero, suc, ◌+◌, ◌≤◌, List, [], ◌∷◌, ◌++◌, length, take, drop}
use Rattle.cell_units.specs.declared.place.Bias.{Bias}
use Rattle.cell_units.specs.Text.{clean}
use Rattle.cell_units.specs.Layers.{Source}
use Rattle.cell_units.specs.Record.{Inlay}
use Rattle.mark_tree.specs.declared.mark.Mark.{Mark}
use Rattle.sum_core.specs.declared.load.NoLoad.{NoLoad}
use Rattle.splice_tree.specs.Splices.{Piece, with_first_gap}
use Rattle.inlay_map.specs.declared.amount.Amount.{Amount}
use Rattle.inlay_map.specs.Amounts.{amount_between, amount_of, nothing}

-- the inlay of a mark
abbrev pub inlay_of : Mark (List ℕ) → Inlay
inlay_of m = record { offset = m.offset; bias = m.bias; id = m.id; text = m.load }

abbrev pub inlay_with : ℕ → Bias → ℕ → List ℕ → Inlay
inlay_with offset bias id text = record { offset = offset; bias = bias; id = id; text = text }

-- an inlay after the offset `base`
abbrev pub splice_of : List ℕ → ℕ → Inlay → Piece Amount NoLoad
splice_of text base i = record { gap = amount_between text base i.offset; old = nothing; new = amount_of (clean i.text); load = record {} }

-- inlays in order, the first of them after the offset `base`
abbrev pub splices_from : List ℕ → ℕ → List Inlay → List (Piece Amount NoLoad)
splices_from text base [] = []
splices_from text base (i ∷ is) = splice_of text base i ∷ splices_from text i.offset is

-- those of all inlays of a source
abbrev pub splices_of : Source → List (Piece Amount NoLoad)
splices_of s = splices_from s.text 0 s.inlays

-- the same splices but for the gap before the first
abbrev pub AreSameButForGap : List (Piece Amount NoLoad) → List (Piece Amount NoLoad) → Type 0
AreSameButForGap ps qs = (gap : Amount) → with_first_gap gap ps ≡ with_first_gap gap qs

-- the offset after which the inlay of an index comes: that of the one before it
abbrev pub base_at : ℕ → List Inlay → ℕ → ℕ
base_at base is zero = base
base_at base [] (suc k) = base
base_at base (i ∷ is) (suc k) = base_at i.offset is k

-- how much text is before the gap of the inlay of an index
abbrev pub before_at : Source → ℕ → Amount
before_at s at = amount_between s.text 0 (base_at 0 s.inlays at)

-- ---- one inlay more, or less

-- it was put before the inlay of the index
pub record IsPut (i : Inlay) (before after : List Inlay) (index : ℕ) : Type 0 where
  pub within : index ≤ length before
  pub place : after ≡ take index before ++ i ∷ drop index before

-- the inlays without that of the index
abbrev pub without_at : ℕ → List Inlay → List Inlay
without_at index inlays = take index inlays ++ drop (index + 1) inlays
