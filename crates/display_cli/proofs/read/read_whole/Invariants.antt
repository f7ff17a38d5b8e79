-- What was read is a front of what is told, and the reads so far stand in order.
use Rattle.std.proofs.Common.{◌+◌, ◌-◌, ◌<◌, ◌≤◌, length}
use Rattle.display_cli.specs.inside.Reading.{HasFront}
use Rattle.display_cli.proofs.NameRead.{ReadsUpTo}
use Rattle.display_cli.proofs.read.read_whole.Given as goal

abbrev pub invariant-loop-part : goal.invariant-loop-part
invariant-loop-part g l =
    record {
      room : 0 < length l.room.items;
      within : length l.bytes.items ≤ l.limit + 1;
      front : HasFront ((g.I.Inputs.state l.initial.inputs).told l.name) l.bytes.items;
      reads : ReadsUpTo l.part l.name l.limit (length l.bytes.items) (g.I.Inputs.state l.initial.inputs) (g.I.Inputs.state l.inputs);
    }

abbrev pub decreases-loop-part : goal.decreases-loop-part
decreases-loop-part g l = (l.limit + 1) - length l.bytes.items
