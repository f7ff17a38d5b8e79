use Rattle.edit_script.proofs.Verdicts.{verdict-unread, verdict-read, verdict-caret}
use Rattle.edit_script.proofs.laws.verdict_laws.Goals as goal

pub returns-clause-unread : goal.returns-clause-unread
returns-clause-unread c = verdict-unread

pub returns-clause-read : goal.returns-clause-read
returns-clause-read c = verdict-read

pub returns-clause-caret : goal.returns-clause-caret
returns-clause-caret c = verdict-caret
