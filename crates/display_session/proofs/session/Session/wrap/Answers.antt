-- Wrapping leaves the text, and so where marks may be.
use Rattle.display_session.proofs.PlacedMarks.{placed-wrapped}
use Rattle.display_session.proofs.session.Session.wrap.Goals as goal

pub invariant_of-self : goal.invariant_of-self
invariant_of-self c = record {
  placed = placed-wrapped c.args.self.now.display c.wrap.new.self c.args.self.now.marks c.wrap.ensures.wrapped c.args.self.now.placed;
  watched = c.wrap.ensures.watched;
}
