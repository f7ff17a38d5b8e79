-- The run that is sent is out, and no other; or no line waits.
use Rattle.display_session.proofs.LoneDisplays.{none-sent, one-sent}
use Rattle.display_session.proofs.Watches.{watched-sent}
use Rattle.display_map.proofs.Sent.{display_sent}
use Rattle.display_session.proofs.lone.send.Goals as goal

pub returns-in-Some-clause-kept : goal.returns-in-Some-clause-kept
returns-in-Some-clause-kept c =
    one-sent c.job_laws.ensures.sent c.args.display.now c.take_run.new.self c.in_ok-job.field-0 c.in-Some.job c.in-Some.is c.in_ok-job.ensures.taken c.requires.kept

pub returns-in-None-clause-settled : goal.returns-in-None-clause-settled
returns-in-None-clause-settled c =
    none-sent c.args.display.now c.take_run.new.self c.in_ok-job.field-0 c.in-None.is c.in_ok-job.ensures.taken c.requires.kept

pub take_run-requires-send-S-Held : goal.take_run-requires-send-S-Held
take_run-requires-send-S-Held _ _ = search display_sent depth 12 fits 4000

pub take_run-requires-sync-S-Held : goal.take_run-requires-sync-S-Held
take_run-requires-sync-S-Held _ _ = search display_sent depth 12 fits 4000

pub returns-in-Some-clause-watched : goal.returns-in-Some-clause-watched
returns-in-Some-clause-watched c = watched-sent c.args.display.now c.take_run.new.self c.in_ok-job.field-0 c.in_ok-job.ensures.taken
