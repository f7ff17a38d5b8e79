-- A splice that can't be done is one of an edit that is refused.
use Rattle.std.proofs.Common.{ℕ, ◌-◌, ◌<◌, length, subst, arith}
use Rattle.std.specs.Prelude.{Option, IfNone, ◌⊎◌}
use Rattle.cell_units.specs.Text.{clean}
use Rattle.display_map.proofs.DidEvents.{one_before}
use Rattle.display_session.proofs.MovedMarks.{none-stuck}
use Rattle.display_session.proofs.host_marks.moved_over.Goals as goal

pub returns-in_default : goal.returns-in_default
returns-in_default c r e =
    let splices = c.args.splices.now in
    let i = c.loop-i.i in
    let x = c.index-splices-i.result in
    absurd (none-stuck r splices (i - 1) i x c.loop-i.room e (one_before splices i x (omega arith) (omega arith) c.index-splices-i.is) c.loop-i.invariant.left
    (subst (λ (o : Option ℕ). IfNone o ((c.loop-i.room < length (clean x.text)) ⊎ (x.end < x.start))) c.in_default.is c.in_ok-left.ensures.none))
