-- One replacement in the place of two.
use Rattle.std.specs.Prelude.{◌+◌, ◌-◌, ◌<◌, ◌≤◌, ◌^◌, min, max, Option, Some, None}
use Rattle.cell_units.specs.Layers.{Source}
use Rattle.edit_patch.specs.LayerLeads.{LayerLeads}
use Rattle.edit_patch.specs.Leads.{Reach}

-- The replacement that covers both, of which the second replaces what the first has left: it reaches over what either
-- replaced.
abbrev pub covering : Reach → Reach → Reach
covering first second =
    let start = min first.start second.start in
    let end = max (first.start + first.count) second.end in
    record {
      start = start;
      end = end - (first.start + first.count) + first.end;
      count = second.start + second.count + (end - second.end) - start;
    }

-- where the first ends then, and both ends of the one that covers both, fit a u32
pub record CoverFits (first second : Reach) : Type 0 where
  pub replaced : first.start + first.count < 2 ^ 32
  pub old : (covering first second).end < 2 ^ 32
  pub new : (covering first second).start + (covering first second).count < 2 ^ 32

-- the same where either may be missing
abbrev pub with_pending : Option Reach → Option Reach → Option Reach
with_pending None second = second
with_pending (Some first) None = Some first
with_pending (Some first) (Some second) = Some (covering first second)

-- One replacement of a layer's text leads to a second layer while the buffer's text stays, and another leads from that
-- to a third. Then the one that covers both leads from the first layer to the third.
abbrev pub CoverLeads : Type 0
CoverLeads = (shift : Option Reach) (a b c : Source) (first second : Reach) → first.start ≤ first.end → second.start ≤ second.end
    → LayerLeads None a b (Some first) → LayerLeads shift b c (Some second) → LayerLeads shift a c (Some (covering first second))
