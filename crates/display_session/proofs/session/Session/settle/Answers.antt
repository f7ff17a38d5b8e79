-- Wrapping leaves the text, and so where marks may be.
use Rattle.display_session.proofs.PlacedMarks.{placed-wrapped, settled-wrapped}
use Rattle.display_session.proofs.session.Session.settle.Goals as goal

pub invariant_of-self : goal.invariant_of-self
invariant_of-self c = record {
  placed = placed-wrapped c.args.self.now.display c.settle.new.self c.args.self.now.marks
      (settled-wrapped c.args.self.now.display c.settle.new.self c.settle.result c.settle.ensures.settled c.settle.ensures.wrapped) c.args.self.now.placed;
  watched = c.settle.ensures.watched;
}
