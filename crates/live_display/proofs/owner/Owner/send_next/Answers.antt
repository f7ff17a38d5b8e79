-- A run is sent as the next job, which the crew has out from then on.
use Rattle.std.proofs.Common.{sym, subst, ◌∙◌}
use Rattle.display_map.specs.Sending.{IsSent}
use Rattle.live_display.specs.Stepping.{HasSent}
use Rattle.live_display.proofs.Outs.{next-is-free}
use Rattle.live_display.proofs.Steps.{halted-none, has-sent, taken-sent, team-sent, team-same, roomy}
use Rattle.display_map.proofs.Sent.{display_sent}
use Rattle.live_display.proofs.owner.Owner.send_next.Goals as goal

pub hand_out-requires-clause-free : goal.hand_out-requires-clause-free
hand_out-requires-clause-free g c =
    let sent : IsSent c.args.self.now.display c.take_run.new.self c.in-Ok-Some.job =
    taken-sent c.args.self.now.display c.take_run.new.self c.in-Ok-Some.field-0 c.in-Ok-Some.job c.in-Ok-Some.field-0-is c.in-Ok-Some.ensures.taken in
    next-is-free c.args.self.now.display c.args.self.now.crew.out c.in-Ok-Some.job.number sent.number_is c.requires.jobs

pub returns-in-Ok-Some-clause-sent : goal.returns-in-Ok-Some-clause-sent
returns-in-Ok-Some-clause-sent g c =
    let sent : IsSent c.args.self.now.display c.take_run.new.self c.in-Ok-Some.job =
    taken-sent c.args.self.now.display c.take_run.new.self c.in-Ok-Some.field-0 c.in-Ok-Some.job c.in-Ok-Some.field-0-is c.in-Ok-Some.ensures.taken in
    subst (λ b. HasSent c.args.self.now c.hand_out.new.self b) (sym c.hand_out.ensures.taken)
    (has-sent c.args.self.now c.hand_out.new.self c.in-Ok-Some.job
    (subst (λ h. IsSent c.args.self.now.display h c.in-Ok-Some.job) (sym c.hand_out.ensures.display) sent)
    c.requires (roomy c.args.self.now.crew.out c.args.self.now.crew.workers (sym c.is_full.ensures ∙ c.if-is_full.false) c.requires.few)
    c.in_ok-check_room.ensures.room)

pub returns-in-Ok-Some-clause-owned : goal.returns-in-Ok-Some-clause-owned
returns-in-Ok-Some-clause-owned g c =
    let sent : IsSent c.args.self.now.display c.take_run.new.self c.in-Ok-Some.job =
    taken-sent c.args.self.now.display c.take_run.new.self c.in-Ok-Some.field-0 c.in-Ok-Some.job c.in-Ok-Some.field-0-is c.in-Ok-Some.ensures.taken in
    team-same _ _ _ _ _ _ _ _ c.hand_out.ensures.display c.hand_out.ensures.out c.hand_out.ensures.workers c.hand_out.ensures.writer
    (team-sent c.job_laws.ensures.stays c.job_laws.ensures.sent c.args.self.now c.take_run.new.self c.in-Ok-Some.job sent
    (roomy c.args.self.now.crew.out c.args.self.now.crew.workers (sym c.is_full.ensures ∙ c.if-is_full.false) c.requires.few) c.requires)

pub returns-in-Err-clause-halted : goal.returns-in-Err-clause-halted
returns-in-Err-clause-halted g c =
    halted-none c.args.self.now.crew.workers c.args.self.now.display c.take_run.new.self c.in-Err.ensures.unchanged c.in_ok-check_room.ensures.room

pub is_full-requires-send-N : goal.is_full-requires-send-N
is_full-requires-send-N _ _ _ = search display_sent depth 12 fits 4000

pub is_full-requires-sync-N : goal.is_full-requires-sync-N
is_full-requires-sync-N _ _ _ = search display_sent depth 12 fits 4000

pub take_run-requires-send-S-Held : goal.take_run-requires-send-S-Held
take_run-requires-send-S-Held _ _ _ = search display_sent depth 12 fits 4000

pub take_run-requires-sync-S-Held : goal.take_run-requires-sync-S-Held
take_run-requires-sync-S-Held _ _ _ = search display_sent depth 12 fits 4000
