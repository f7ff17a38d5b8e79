use Rattle.split_views.proofs.Idle.{idle-appended_in, idle-changed, idle-opened}
use Rattle.split_views.proofs.laws.idle_laws.Goals as goal

pub returns-clause-opened : goal.returns-clause-opened
returns-clause-opened c = idle-opened

pub returns-clause-changed : goal.returns-clause-changed
returns-clause-changed c = idle-changed

pub returns-clause-appended : goal.returns-clause-appended
returns-clause-appended c = idle-appended_in
