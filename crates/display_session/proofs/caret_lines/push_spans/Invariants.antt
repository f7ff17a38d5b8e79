-- The text has the lines of the spans so far.
use Rattle.std.proofs.Common.{◌≡◌, ◌++◌, take, map}
use Rattle.std.specs.Prelude.{string_bytes}
use Rattle.display_session.specs.Answers.{printed}
use Rattle.display_session.specs.CaretLines.{span_line}
use Rattle.display_session.proofs.caret_lines.push_spans.Given as goal

abbrev pub invariant-loop-span : goal.invariant-loop-span
invariant-loop-span l = string_bytes l.text ≡ string_bytes l.initial.text ++ printed (map span_line (take l.span-index l.spans))
