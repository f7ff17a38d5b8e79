use Rattle.std.proofs.Common.{refl}
use Rattle.display_sheet.specs.LineStep.{line_step}
use Rattle.display_map.specs.Replay.{replayed}
use Rattle.display_map.proofs.WorkedPatches.{changed-back, above-taken}
use Rattle.display_map.proofs.laws.worked_line_patches.Goals as goal

pub returns-clause-changed_back : goal.returns-clause-changed_back
unfolding replayed line_step
returns-clause-changed_back c = (changed-back, refl)

pub returns-clause-line_above_taken_away : goal.returns-clause-line_above_taken_away
unfolding replayed line_step
returns-clause-line_above_taken_away c = (above-taken, refl)
