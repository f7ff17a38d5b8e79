use Rattle.wrapped_lines.proofs.KeptLines.{kept-lines}
use Rattle.wrapped_lines.proofs.SetMarks.{are-set}
use Rattle.wrapped_lines.proofs.laws.landing_laws.Goals as goal

pub returns-clause-marks : goal.returns-clause-marks
returns-clause-marks c = are-set

pub returns-clause-kept : goal.returns-clause-kept
returns-clause-kept c = kept-lines
