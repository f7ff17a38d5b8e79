use Rattle.display_sheet.specs.Landing.{lists_of}
use Rattle.display_sheet.proofs.LandedCounts.{HaveLanded}
use Rattle.display_sheet.proofs.landing.landed.Given as goal

abbrev pub invariant-loop-i : goal.invariant-loop-i
invariant-loop-i l = HaveLanded l.width l.lines (lists_of l.cuts) l.i l.wraps l.landed
