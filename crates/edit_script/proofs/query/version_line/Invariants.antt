-- The runs before the index are in the line.
use Rattle.std.proofs.Common.{◌≡◌, take, string_bytes}
use Rattle.display_map.specs.Replay.{versions_of}
use Rattle.edit_script.specs.Printed.{version_line}
use Rattle.edit_script.proofs.query.version_line.Given as goal

abbrev pub invariant-loop-run : goal.invariant-loop-run
invariant-loop-run l = string_bytes l.line ≡ version_line (versions_of l.view.events) (take l.run-index l.run-items)
