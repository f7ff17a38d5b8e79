-- A line of texts, along which undo and redo go.
use Rattle.std.specs.Prelude.{ℕ, ◌==◌, if◌then◌else◌, List, [], ◌∷◌, length}
use Rattle.display_sheet.specs.declared.change.Splice.{Splice}
use Rattle.display_sheet.specs.Changes.{batch}
use Rattle.undo_line.specs.Inverse.{Leads, text_after}
use Rattle.undo_line.specs.UndoParts.{UndoParts}

-- the present text, with those before it and those that were taken back, each list from the nearest on
pub record TextLine : Type 0 where
  pub past : List (List ℕ)
  pub present : List ℕ
  pub future : List (List ℕ)

-- the line of a text that was just opened
abbrev pub opened_line : List ℕ → TextLine
opened_line text = record { past = []; present = text; future = [] }

-- after an accepted edit. One without an operation changes nothing
abbrev pub edited : List Splice → TextLine → TextLine
edited splices line =
    if length (batch splices) == 0 then line
    else record { past = line.present ∷ line.past; present = text_after line.present splices; future = [] }

-- after the step to the nearest past text, if there is one
abbrev pub gone_back : List (List ℕ) → TextLine → TextLine
gone_back [] line = line
gone_back (text ∷ past) line = record { past = past; present = text; future = line.present ∷ line.future }

-- after an undo
abbrev pub undone : TextLine → TextLine
undone line = gone_back line.past line

-- after the step to the nearest future text, if there is one
abbrev pub gone_forth : List (List ℕ) → TextLine → TextLine
gone_forth [] line = line
gone_forth (text ∷ future) line = record { past = line.present ∷ line.past; present = text; future = future }

-- after a redo
abbrev pub redone : TextLine → TextLine
redone line = gone_forth line.future line

-- each batch leads to the next text: the first from the given text, and each other from the text before it
abbrev pub LeadAlong : List ℕ → List (List Splice) → List (List ℕ) → Type 0
LeadAlong text [] [] = Unit {0}
LeadAlong text [] (next ∷ texts) = ⊥
LeadAlong text (splices ∷ batches) [] = ⊥
LeadAlong text (splices ∷ batches) (next ∷ texts) = Leads text splices next × LeadAlong next batches texts

-- an undo line beside a line of texts: its batches lead from the present text to those before it, and to those after
pub record IsLineOf (undo : UndoParts) (line : TextLine) : Type 0 where
  pub back : LeadAlong line.present undo.past line.past
  pub forth : LeadAlong line.present undo.future line.future
