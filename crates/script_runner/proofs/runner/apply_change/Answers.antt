-- The journal grew, so there was an operation, and its version is published.
use Rattle.std.proofs.Common.{false, inl, inr, refl, ◌∙◌}
use Rattle.display_sheet.specs.Changes.{ops_of}
use Rattle.display_map.specs.Events.{event_limit}
use Rattle.script_runner.specs.Going.{IsWithinChange}
use Rattle.script_runner.proofs.Lines.{changed-more}
use Rattle.script_runner.proofs.Ready.{ready-done, ready-published, ready-same}
use Rattle.script_runner.proofs.Results.{on-err}
use Rattle.script_runner.proofs.runner.apply_change.Goals as goal

pub returns-in_err-publish-clause-stopped : goal.returns-in_err-publish-clause-stopped
returns-in_err-publish-clause-stopped g c =
    on-err c.from_residual.result (IsWithinChange c.args.owner.now.display c.args.change.now c.publish.new.self.display) (elim c.in_err-publish.ensures.unshown [
      | inl e ↦ inr (c.in-Ok.ensures.accepted, inl (e ∙ c.in-Ok.ensures.done))
      | inr e ↦ inr (
        c.in-Ok.ensures.accepted,
        inr (changed-more c.args.owner.now.display c.apply.new.self.display c.publish.new.self.display
            (ops_of c.args.change.now) c.room-room.result c.room.result event_limit c.in-Ok.ensures.done e c.room-room.ensures c.room.ensures c.if-room.true),
      )
    ])

pub returns-in_ok-publish-clause-changed : goal.returns-in_ok-publish-clause-changed
returns-in_ok-publish-clause-changed g c = (
  c.in-Ok.ensures.accepted,
  changed-more c.args.owner.now.display c.apply.new.self.display c.publish.new.self.display (ops_of c.args.change.now) c.room-room.result c.room.result
      event_limit c.in-Ok.ensures.done c.in_ok-publish.ensures.published c.room-room.ensures c.room.ensures c.if-room.true,
)

pub returns-in-Err-Refused-clause-ready : goal.returns-in-Err-Refused-clause-ready
returns-in-Err-Refused-clause-ready g c =
    ready-same c.args.owner.now c.apply.new.self c.in-Err-Refused.ensures.unchanged c.requires.ready c.apply.ensures.owned

pub returns-else-room-clause-ready : goal.returns-else-room-clause-ready
returns-else-room-clause-ready g c =
    ready-done c.args.owner.now c.apply.new.self (ops_of c.args.change.now) c.in-Ok.ensures.done c.requires.ready c.apply.ensures.owned

pub returns-in_ok-publish-clause-ready : goal.returns-in_ok-publish-clause-ready
returns-in_ok-publish-clause-ready g c =
    ready-published c.apply.new.self c.publish.new.self false c.in_ok-publish.ensures.published
    (ready-done c.args.owner.now c.apply.new.self (ops_of c.args.change.now) c.in-Ok.ensures.done c.requires.ready c.apply.ensures.owned)
    (c.in_ok-publish.ensures.owned refl)
