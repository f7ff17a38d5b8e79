-- What a script for several views prints, and which of its lines are refused.
use Rattle.std.specs.Prelude.{ℕ, nat_lt, not, Bool, true, false, if◌then◌else◌, List, [], ◌∷◌, length, map, flat_map}
use Rattle.std.specs.List.{list_any}
use Rattle.cell_units.specs.declared.fault.Refusal.TheVariants.{NotCommand, NothingThere}
use Rattle.display_map.specs.Replay.{History}
use Rattle.edit_script.specs.Printed.{refusal_text}
use Rattle.edit_script.specs.Verdict.{Accepted, Refused, Verdict}
use Rattle.script_runner.specs.Output.{printed, verdict_lines}
use Rattle.undo_line.specs.TextLines.{TextLine}
use Rattle.split_script.specs.Lines.{Astray, Own, Redo, Skipped, SplitLine, Undo, prefixed}
use Rattle.split_script.specs.Met.{Met, text_line, verdict_on}

-- there is a text to go back to, or forth to
abbrev pub may_undo : TextLine → Bool
may_undo line = nat_lt 0 (length line.past)

abbrev pub may_redo : TextLine → Bool
may_redo line = nat_lt 0 (length line.future)

abbrev pub nothing_there : Bool → List (List ℕ)
nothing_there there = if there then [] else refusal_text NothingThere ∷ []

-- what a line is answered with, given the line of texts
abbrev pub lines_for : TextLine → History → SplitLine → List (List ℕ)
lines_for texts before (Own view bytes) = map (prefixed view) (verdict_lines before (verdict_on before bytes))
lines_for texts before Undo = nothing_there (may_undo texts)
lines_for texts before Redo = nothing_there (may_redo texts)
lines_for texts before Skipped = []
lines_for texts before Astray = refusal_text NotCommand ∷ []

abbrev pub lines_of : List ℕ → Met → List (List ℕ)
lines_of text m = lines_for (text_line text m.past) m.before m.line

-- the bytes that lines are answered with
abbrev pub answered : List ℕ → List Met → List ℕ
answered text lines = printed (flat_map (lines_of text) lines)

-- ---- refused lines

abbrev pub is_refused : Verdict → Bool
is_refused (Refused refusal) = true
is_refused (Accepted command) = false

abbrev pub refuses_for : TextLine → History → SplitLine → Bool
refuses_for texts before (Own view bytes) = is_refused (verdict_on before bytes)
refuses_for texts before Undo = not (may_undo texts)
refuses_for texts before Redo = not (may_redo texts)
refuses_for texts before Skipped = false
refuses_for texts before Astray = true

abbrev pub refuses : List ℕ → Met → Bool
refuses text m = refuses_for (text_line text m.past) m.before m.line

-- some line is refused: by its view, as an undo or redo without a text to take, or as a line of no view
abbrev pub has_refused : List ℕ → List Met → Bool
has_refused text lines = list_any (refuses text) lines
