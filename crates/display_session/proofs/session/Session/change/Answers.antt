-- Marks stay at boundaries, and a session whose display didn't change is the same.
use Rattle.std.proofs.Common.{ap, ◌∙◌}
use Rattle.display_map.specs.Replay.{present_of}
use Rattle.display_sheet.specs.Changes.{ops_of}
use Rattle.display_session.specs.HostMarks.{are_placed}
use Rattle.display_session.proofs.PlacedMarks.{placed-moved}
use Rattle.display_session.proofs.SameSessions.{on-err, same-session}
use Rattle.display_session.proofs.session.Session.change.Goals as goal

pub returns-in_err-apply-clause-unchanged : goal.returns-in_err-apply-clause-unchanged
returns-in_err-apply-clause-unchanged c =
    on-err c.from_residual-in_err-apply.result _ (same-session c.args.self.now c.apply.new.self c.apply.new.watch _ _ c.in_err-apply.ensures.unchanged c.in_err-apply.ensures.kept)

pub invariant_of-self-2 : goal.invariant_of-self-2
invariant_of-self-2 c =
    let s = c.args.self.now in
    let after = placed-moved s.display c.apply.new.self (ops_of c.args.change.now) s.marks c.lawful.ensures c.lawful-2.ensures c.in_ok-apply.ensures.done s.placed in
    record {
      placed = ap (are_placed (present_of c.apply.new.self).text) (c.in_ok-marks.ensures (present_of s.display) c.in_ok-apply.ensures.accepted) ∙ after;
      watched = c.apply.ensures.watched;
    }
