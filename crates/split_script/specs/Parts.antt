-- The part of each view: what the lines of a script are to it.
use Rattle.std.specs.Prelude.{ℕ, ◌==◌, if◌then◌else◌, fold, List, [], ◌∷◌, length, slice_get, Option, Some, None, option_map}
use Rattle.std.specs.List.{filter_map}
use Rattle.display_sheet.specs.declared.change.Splice.{Splice}
use Rattle.display_sheet.specs.Changes.{batch}
use Rattle.edit_script.specs.declared.asked.Form.TheVariants.{First}
use Rattle.script_runner.specs.Entries.{Bytes, Edited, Entry}
use Rattle.undo_line.specs.Inverse.{inverse, text_after}
use Rattle.split_script.specs.Lines.{Own, SplitLine}
use Rattle.split_script.specs.Met.{Edits, Met, Redoes, Stays, Step, Undoes, step_of}

-- ---- the batches that undo and redo do

-- the present text, with what takes the edits before it back, and what does those again that were taken back, each list
-- from the nearest on
pub record BatchLine : Type 0 where
  pub past : List (List Splice)
  pub present : List ℕ
  pub future : List (List Splice)

-- after an accepted edit. One without an operation changes nothing
abbrev pub edited : List Splice → BatchLine → BatchLine
edited splices line =
    if length (batch splices) == 0 then line
    else record {
      past = inverse line.present splices ∷ line.past;
      present = text_after line.present splices;
      future = [];
    }

-- after an undo, by the inverse of the nearest edit, which has an inverse too
abbrev pub gone_back : List (List Splice) → BatchLine → BatchLine
gone_back [] line = line
gone_back (back ∷ past) line =
    record { past = past; present = text_after line.present back; future = inverse line.present back ∷ line.future }

-- after a redo
abbrev pub gone_forth : List (List Splice) → BatchLine → BatchLine
gone_forth [] line = line
gone_forth (again ∷ future) line =
    record { past = inverse line.present again ∷ line.past; present = text_after line.present again; future = future }

abbrev pub stepped : BatchLine → Step → BatchLine
stepped line (Edits splices) = edited splices line
stepped line Undoes = gone_back line.past line
stepped line Redoes = gone_forth line.future line
stepped line Stays = line

-- the line of batches after steps
abbrev pub batch_line : List ℕ → List Step → BatchLine
batch_line text steps = fold stepped (record { past = []; present = text; future = [] }) steps

-- the batch that a step does, if it does one
abbrev pub batch_of : BatchLine → Step → Option (List Splice)
batch_of line (Edits splices) = Some splices
batch_of line Undoes = slice_get line.past 0
batch_of line Redoes = slice_get line.future 0
batch_of line Stays = None

-- ---- parts

-- what a line is to a view, given the batch that reaches all views: bytes of its own, an edit, or nothing
abbrev pub entry_for : ℕ → Option (List Splice) → SplitLine → Option Entry
entry_for view reaches (Own own bytes) = if own == view then Some (Bytes First bytes) else option_map Edited reaches
entry_for view reaches _ = option_map Edited reaches

-- ... with the line's number
abbrev pub entry_of : List ℕ → ℕ → Met → Option (ℕ × Entry)
entry_of text view m =
    option_map (λ entry. (m.number, entry)) (entry_for view (batch_of (batch_line text m.past) (step_of m)) m.line)

-- the part of a view: an entry for each line that is something to it
abbrev pub part_of : List ℕ → ℕ → List Met → List (ℕ × Entry)
part_of text view lines = filter_map (entry_of text view) lines
