-- Which lines a `sync` replaces where one thing changed since the last one.
use Rattle.std.specs.Prelude.{ℕ, ◌≡◌, ◌+◌, ◌<◌, ◌≤◌, ◌↔◌, length, option_map, Option, Some, None}
use Rattle.std.specs.List.{Contains}
use Rattle.cell_units.specs.declared.place.Shift.{Shift}
use Rattle.cell_units.specs.BufferLines.{line_end, line_start}
use Rattle.cell_units.specs.Laws.{HasRow}
use Rattle.cell_units.specs.Lawful.{IsWellFormed}
use Rattle.cell_units.specs.Layers.{Source, shown_lines, shown_text, span_of, unfolded}
use Rattle.cell_units.specs.Record.{Fold}
use Rattle.cell_units.specs.Text.{row_of}
use Rattle.edit_patch.specs.Leads.{reach_of}
use Rattle.fold_map.specs.Maps.{FoldState, folded_up, opened_up, state_of}
use Rattle.fold_map.specs.Snapshots.{fold_refusal}
use Rattle.fold_map.specs.Synced.{Follows, IsSynced}

-- The line begins at the last of the places or before it, and ends at the first or after it: they meet it.
pub record MeetsLine (s : Source) (first last line : ℕ) : Type 0 where
  pub there : line < length (shown_lines s)
  pub start : line_start (shown_text s) line ≤ last
  pub end : first ≤ line_end (shown_text s) line

-- two spans have a row in common
abbrev pub SpansMeet : ℕ × ℕ → ℕ × ℕ → Type 0
SpansMeet s t = (row : ℕ) × HasRow s row × HasRow t row

-- a line whose span meets the span of a line of the lower layer that places of that meet
pub record IsOverMet (s layer : Source) (first last line : ℕ) : Type 0 where
  pub there : line < length (shown_lines s)
  pub lower : ℕ
  pub met : MeetsLine layer first last lower
  pub spans : SpansMeet (span_of s line) (span_of layer lower)

-- a line whose span meets a row from that of a fold's start to that of its end
pub record HasRowOf (s : Source) (f : Fold) (line : ℕ) : Type 0 where
  pub there : line < length (shown_lines s)
  pub spans : SpansMeet (span_of s line) (row_of s.text f.start, row_of s.text f.end)

-- What is replaced meets exactly these lines of those before it, and what is there then exactly these of those after
-- it.
pub record MeetsJust (before after : Source) (s : Shift) (Old New : ℕ → Type 0) : Type 0 where
  pub before_it : (line : ℕ) → MeetsLine before s.start s.end line ↔ Old line
  pub after_it : (line : ℕ) → MeetsLine after s.start (s.start + s.count) line ↔ New line

-- ---- one change since a `sync`, which left `state_of` of what it made

-- a `sync` of a map that returns a replacement
pub record Syncs (map : FoldState) (layer : Source) (shift below : Option Shift) (made : Source) (answer : Shift) : Type 0 where
  pub well_formed : IsWellFormed layer
  pub follows : Follows map.current layer (option_map reach_of shift) (option_map reach_of below)
  pub synced : let replaced = option_map reach_of shift in
      IsSynced layer replaced (option_map reach_of below) map made (Some (reach_of answer))

-- a fold is added: the lines of its rows
abbrev pub FoldedMeets : Type 0
FoldedMeets = (source layer made : Source) (f : Fold) (answer : Shift) → IsWellFormed source
    → fold_refusal source f.id f.start f.end ≡ None
    → Syncs (folded_up f (state_of source)) layer None None made answer
    → MeetsJust source made answer (HasRowOf source f) (HasRowOf made f)

-- a fold is removed: the lines of its rows
abbrev pub OpenedMeets : Type 0
OpenedMeets = (source layer made : Source) (f : Fold) (answer : Shift) → IsWellFormed source
    → Contains source.folds f
    → Syncs (opened_up f (state_of source)) layer None None made answer
    → MeetsJust source made answer (HasRowOf source f) (HasRowOf made f)

-- the text of the lower layer is replaced: the lines over those of its lines that this meets
abbrev pub ReplacedMeets : Type 0
ReplacedMeets = (source layer made : Source) (shift : Option Shift) (below answer : Shift)
    → IsWellFormed source
    → Syncs (state_of source) layer shift (Some below) made answer
    → let old = unfolded source in
    MeetsJust source made answer
    (IsOverMet source old below.start below.end)
    (IsOverMet made layer below.start (below.start + below.count))
