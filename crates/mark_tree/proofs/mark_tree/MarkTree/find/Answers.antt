use Rattle.std.proofs.Common.{◌≡◌, ◌∙◌, ap, sym, length, position, arith}
use Rattle.mark_tree.specs.Marks.{has_id}
use Rattle.mark_tree.specs.Views.{mark_of}
use Rattle.mark_tree.proofs.MarkViews.{position-of}
use Rattle.mark_tree.proofs.Moved.{length-map}
use Rattle.mark_tree.proofs.mark_tree.MarkTree.find.Goals as goal

pub returns-clause-place : goal.returns-clause-place
returns-clause-place g c = c.find_id.ensures.found ∙ position-of c.args.id c.self.inside.marks ∙ ap (position (has_id c.args.id)) c.self.view_is

pub returns-clause-steps : goal.returns-clause-steps
returns-clause-steps g c =
    let same : length c.self.inside.marks ≡ length c.args.self.now = sym (length-map mark_of c.self.inside.marks) ∙ ap length c.self.view_is in
    omega (arith, same, c.find_id.ensures.steps)
