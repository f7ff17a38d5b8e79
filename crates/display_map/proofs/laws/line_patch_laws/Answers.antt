use Rattle.display_map.proofs.PatchesByStamp.{came-by_stamp, some-line_patch}
use Rattle.display_map.proofs.laws.line_patch_laws.Goals as goal

pub returns-clause-exists : goal.returns-clause-exists
returns-clause-exists c = some-line_patch

pub returns-clause-came : goal.returns-clause-came
returns-clause-came c = came-by_stamp
