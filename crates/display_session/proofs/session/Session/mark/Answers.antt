-- The mark at the place of the id is the one that is found.
use Rattle.std.proofs.Common.{sym, ◌∙◌}
use Rattle.mark_tree.specs.Marks.{mark_with}
use Rattle.display_session.proofs.FoundMarks.{found-at, found-none}
use Rattle.display_session.proofs.session.Session.mark.Goals as goal

pub returns-in_err-at : goal.returns-in_err-at
returns-in_err-at c = c.from_residual.ensures ∙ found-none c.args.id c.args.self.now.marks (sym c.in_err-at.ensures.place)

pub returns : goal.returns
returns c =
    let m = c.in_ok-mark.mark in
    found-at c.args.id c.args.self.now.marks c.in_ok-at.at (mark_with m.0 m.1 m.2 m.3.now) (sym c.in_ok-at.ensures.place) c.in_ok-mark.ensures.mark
