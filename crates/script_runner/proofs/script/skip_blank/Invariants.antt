-- The lines before `rest` are blank.
use Rattle.std.proofs.Common.{◌≡◌, ◌+◌, ◌≤◌, length}
use Rattle.edit_script.specs.Script.{form_of, asking_from}
use Rattle.script_runner.specs.Entries.{script_lines}
use Rattle.script_runner.proofs.script.skip_blank.Given as goal

abbrev pub invariant-loop-line : goal.invariant-loop-line
invariant-loop-line l =
    record {
      form : form_of (script_lines l.initial.rest) ≡ form_of (script_lines l.rest);
      asking : asking_from 1 (script_lines l.initial.rest) ≡ asking_from (l.passed + 1) (script_lines l.rest);
      within : l.passed + length l.rest ≤ length l.initial.rest;
    }

abbrev pub decreases-loop-line : goal.decreases-loop-line
decreases-loop-line l = length l.rest
