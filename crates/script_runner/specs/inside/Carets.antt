-- The lines that an answer about a caret has.
use Rattle.std.specs.Prelude.{ℕ, List, [], ◌∷◌}
use Rattle.script_runner.specs.declared.carets.CaretAnswer.{CaretAnswer}
use Rattle.script_runner.specs.declared.carets.CaretAnswer.TheVariants.{Moved, Selected}
use Rattle.script_runner.specs.CaretLines.{caret_line, selection_lines}

abbrev pub lines_of : CaretAnswer → List (List ℕ)
lines_of (Moved caret) = caret_line caret ∷ []
lines_of (Selected selection) = selection_lines selection.start selection.end selection.spans.items
