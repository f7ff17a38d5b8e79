-- The lines of a layer at a tab size, and what a map of them is seen as.
use Rattle.std.specs.Prelude.{◌≡◌, ℕ, ◌+◌, ◌-◌, ◌≤◌, List, map, length, Option, Some, None, unwrap_or}
use Rattle.cell_units.specs.declared.place.Shift.{Shift}
use Rattle.cell_units.specs.Layers.{Source, shown_lines, shown_text}
use Rattle.cell_units.specs.Text.{row_of}
use Rattle.cell_line.specs.declared.element.Element.{Element}
use Rattle.cell_line.specs.Elements.{elements_of}
use Rattle.edit_patch.specs.Leads.{LeadsAt, LeadsBy}

-- the elements of each line of a layer at a tab size
abbrev pub lines_at : Source → ℕ → List (List Element)
lines_at source tab = map (λ pieces. elements_of pieces tab) (shown_lines source)

-- of each line the texts of its pieces
abbrev pub line_texts : Source → List (List (List ℕ))
line_texts source = map (λ pieces. map (λ piece. piece.text) pieces) (shown_lines source)

-- The layer of the last snapshot, the tab size, and the tab size of that snapshot where it was set since.
pub record Tabbed : Type 0 where
  pub source : Source
  pub tab : ℕ
  pub before : Option ℕ

-- the lines of the last snapshot
abbrev pub last_lines : Tabbed → List (List Element)
last_lines m = lines_at m.source (unwrap_or m.before m.tab)

-- ---- the lines that a replacement of the layer's text meets

-- the first one: that of its start
abbrev pub first_met : Source → Shift → ℕ
first_met old s = row_of (shown_text old) s.start

-- how many lines there are up to the last one: that of its end, before the replacement and after it
abbrev pub old_reach : Source → Shift → ℕ
old_reach old s = row_of (shown_text old) s.end + 1

abbrev pub new_reach : Source → Shift → ℕ
new_reach new s = row_of (shown_text new) (s.start + s.count) + 1

-- a replacement lies within two texts, and begins in lines of one number
pub record LiesWithin (old new : List ℕ) (start end count : ℕ) : Type 0 where
  pub within : end ≤ length old
  pub reaches : start + count ≤ length new
  pub first : row_of new start ≡ row_of old start

-- The replacement lies within the texts of both layers and begins in lines of one number. The lines that it doesn't
-- meet have pieces of the same texts in both.
abbrev pub LinesFollow : Source → Source → Option Shift → Type 0
LinesFollow old new None = line_texts new ≡ line_texts old
LinesFollow old new (Some s) =
    LiesWithin (shown_text old) (shown_text new) s.start s.end s.count
    × LeadsAt (line_texts old) (line_texts new) (first_met old s) (old_reach old s) (new_reach new s - first_met old s)

-- ---- the lines that are made anew

pub record IsShift (start end reach : ℕ) (s : Shift) : Type 0 where
  pub start_is : s.start ≡ start
  pub end_is : s.end ≡ end
  pub reach_is : s.start + s.count ≡ reach

-- exactly the lines that the replacement meets
abbrev pub AreMet : Source → Source → Option Shift → Option Shift → Type 0
AreMet old new None None = Unit {0}
AreMet old new (Some s) (Some lines) = IsShift (first_met old s) (old_reach old s) (new_reach new s) lines
AreMet old new None (Some lines) = ⊥
AreMet old new (Some s) None = ⊥

-- all lines
abbrev pub AreAll : Source → Source → Option Shift → Type 0
AreAll old new None = ⊥
AreAll old new (Some lines) = IsShift 0 (length (shown_lines old)) (length (shown_lines new)) lines

-- all where the tab size was set since the last snapshot, and else those that the replacement meets
abbrev pub AreReplaced : Option ℕ → Source → Source → Option Shift → Option Shift → Type 0
AreReplaced None old new below lines = AreMet old new below lines
AreReplaced (Some tab) old new below lines = AreAll old new lines

-- the map shows the new layer, and what is returned leads from the lines of its last snapshot to those of this one
pub record IsSynced (old : Tabbed) (new : Source) (below : Option Shift) (after : Tabbed) (lines : List (List Element)) (answer : Option Shift) : Type 0 where
  pub map : after ≡ record { source = new; tab = old.tab; before = None }
  pub lines_are : lines ≡ lines_at new old.tab
  pub replaced : AreReplaced old.before old.source new below answer
  pub leads : LeadsBy (last_lines old) lines answer
