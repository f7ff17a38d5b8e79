use Rattle.std.proofs.Common.{◌≡◌}
use Rattle.test_displays.proofs.views.prepare.Given as goal

abbrev pub invariant-loop-op : goal.invariant-loop-op
invariant-loop-op l = l.display.opening ≡ l.fn.display.opening
