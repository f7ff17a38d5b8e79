-- No mark moves further than by what is put in.
use Rattle.std.proofs.Common.{◌-◌, sym, subst, arith}
use Rattle.display_session.proofs.MovedMarks.{AreBelow, moved-below, moved-fits}
use Rattle.display_session.proofs.host_marks.move_over.Goals as goal

pub apply-requires : goal.apply-requires
apply-requires c = record {
  fits =
      let s = c.new-shift.result in
      moved-fits s c.args.room c.args.marks.now s.ordered (omega (arith, c.new-shift.ensures.count, c.if-count-room.false)) c.requires.within c.requires.small;
}

pub returns-clause-within : goal.returns-clause-within
returns-clause-within c =
    let s = c.new-shift.result in
    let left = c.args.room - c.len-count.result in
    subst (AreBelow left) (sym c.in_ok-apply.ensures.ok)
    (moved-below s c.args.room c.args.marks.now s.ordered (omega (arith, c.new-shift.ensures.count, c.if-count-room.false)) c.requires.within left
    (omega (arith, c.new-shift.ensures.count, c.if-count-room.false)))
