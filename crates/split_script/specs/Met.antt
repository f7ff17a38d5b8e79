-- What the lines of a script ask of the line of texts, given the histories of the views.
use Rattle.std.specs.Prelude.{ℕ, ◌≡◌, nat_le, Bool, true, false, if◌then◌else◌, fold, map, List, [], ◌∷◌, ◌++◌, Option, Some, None}
use Rattle.std.specs.List.{AllByRecursion, enumerate_from, list_any}
use Rattle.cell_units.specs.Operation as operations
use Rattle.display_sheet.specs.declared.change.Splice.{Splice}
use Rattle.display_sheet.specs.Changes.{ChangeParts, Edit, One, splice_of}
use Rattle.display_map.specs.Events.{Event, Line}
use Rattle.display_map.specs.Replay.{History, present_of}
use Rattle.edit_script.specs.declared.asked.Form.TheVariants.{First}
use Rattle.edit_script.specs.Commands.{Apply}
use Rattle.edit_script.specs.Verdict.{Accepted, Verdict, verdict}
use Rattle.split_views.specs.Views.{history_of}
use Rattle.undo_line.specs.TextLines.{TextLine, edited, opened_line, redone, undone}
use Rattle.split_script.specs.Lines.{Astray, Own, Redo, Skipped, SplitLine, Undo, split_line}

-- ---- the verdict on a line

abbrev pub is_line_from : ℕ → Event → Bool
is_line_from number (Line n) = nat_le number n
is_line_from number _ = false

abbrev pub events_before : ℕ → List Event → List Event
events_before number [] = []
events_before number (e ∷ events) = if is_line_from number e then [] else e ∷ events_before number events

-- the history before its lines from a number on
abbrev pub before_line : ℕ → History → History
before_line number h = record { opening = h.opening; events = events_before number h.events }

-- the verdict of a view on bytes, after a history
abbrev pub verdict_on : History → List ℕ → Verdict
verdict_on before bytes = verdict First (present_of before) bytes

-- ---- steps along the line of texts

-- the batch that a change is, if it is an edit
abbrev pub splices_in : ChangeParts → Option (List Splice)
splices_in (Edit splices) = Some splices
splices_in (One (operations.Replace start end text)) = Some (splice_of start end text ∷ [])
splices_in (One operation) = None

-- an accepted edit
abbrev pub edit_in : Verdict → Option (List Splice)
edit_in (Accepted (Apply change)) = splices_in change
edit_in _ = None

-- what a line asks of the line of texts
pub data Step : Type 0 where
  Edits : List Splice → Step
  Undoes : Step
  Redoes : Step
  Stays : Step

abbrev pub editing : Option (List Splice) → Step
editing None = Stays
editing (Some splices) = Edits splices

abbrev pub step_for : History → SplitLine → Step
step_for before (Own view bytes) = editing (edit_in (verdict_on before bytes))
step_for before Undo = Undoes
step_for before Redo = Redoes
step_for before Skipped = Stays
step_for before Astray = Stays

abbrev pub stepped : TextLine → Step → TextLine
stepped line (Edits splices) = edited splices line
stepped line Undoes = undone line
stepped line Redoes = redone line
stepped line Stays = line

-- the line of texts after steps
abbrev pub text_line : List ℕ → List Step → TextLine
text_line text steps = fold stepped (opened_line text) steps

-- ---- lines that are met

-- a line of a script, with its number, the history of its view before it, and the steps of the lines before it
pub record Met : Type 0 where
  pub number : ℕ
  pub line : SplitLine
  pub before : History
  pub past : List Step

abbrev pub nothing : History
nothing = record { opening = []; events = [] }

-- what a line's view has before it. A line of no view has nothing
abbrev pub before_own : List History → ℕ → SplitLine → History
before_own histories number (Own view bytes) = before_line number (history_of histories view)
before_own histories number line = nothing

abbrev pub met_at : List History → List Step → ℕ × SplitLine → Met
met_at histories past l = record { number = l.0; line = l.1; before = before_own histories l.0 l.1; past = past }

abbrev pub step_of : Met → Step
step_of m = step_for m.before m.line

-- the steps of the lines up to this one
abbrev pub steps_through : Met → List Step
steps_through m = m.past ++ step_of m ∷ []

-- lines that are met after some steps
abbrev pub met_from : List History → List Step → List (ℕ × SplitLine) → List Met
met_from histories past [] = []
met_from histories past (l ∷ lines) =
    met_at histories past l ∷ met_from histories (steps_through (met_at histories past l)) lines

-- the steps of lines, and of those before them
abbrev pub steps_from : List History → List Step → List (ℕ × SplitLine) → List Step
steps_from histories past [] = past
steps_from histories past (l ∷ lines) = steps_from histories (steps_through (met_at histories past l)) lines

abbrev pub steps_of : List History → List (ℕ × SplitLine) → List Step
steps_of histories lines = steps_from histories [] lines

-- the lines of a script as they are met
abbrev pub met : List History → List (ℕ × SplitLine) → List Met
met histories lines = met_from histories [] lines

-- the lines of a script for so many views, numbered from 1
abbrev pub numbered : ℕ → List (List ℕ) → List (ℕ × SplitLine)
numbered views lines = enumerate_from 1 (map (split_line views) lines)

-- ---- histories that grow

-- some line from a number on is among the events
abbrev pub has_line_from : ℕ → List Event → Bool
has_line_from number events = list_any (is_line_from number) events

-- the history of a line's view has that line, or a later one
abbrev pub OwnIsThere : List History → ℕ → SplitLine → Type 0
OwnIsThere histories number (Own view bytes) = has_line_from number (history_of histories view).events ≡ true
OwnIsThere histories number line = Unit {0}

abbrev pub HaveOwnLines : List History → List (ℕ × SplitLine) → Type 0
HaveOwnLines histories lines = AllByRecursion (λ l. OwnIsThere histories l.0 l.1) lines
