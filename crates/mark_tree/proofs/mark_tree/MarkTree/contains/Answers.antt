use Rattle.std.proofs.Common.{◌≡◌, ◌∙◌, ap, sym, length, arith}
use Rattle.std.specs.List.{list_any}
use Rattle.mark_tree.specs.Marks.{has_id}
use Rattle.mark_tree.specs.Views.{mark_of}
use Rattle.mark_tree.proofs.MarkViews.{any-of}
use Rattle.mark_tree.proofs.Moved.{length-map}
use Rattle.mark_tree.proofs.mark_tree.MarkTree.contains.Goals as goal

pub returns-clause-value : goal.returns-clause-value
returns-clause-value g c = c.is_some.ensures ∙ c.find_id.ensures.any ∙ any-of c.args.id c.self.inside.marks ∙ ap (list_any (has_id c.args.id)) c.self.view_is

pub returns-clause-steps : goal.returns-clause-steps
returns-clause-steps g c =
    let same : length c.self.inside.marks ≡ length c.args.self.now = sym (length-map mark_of c.self.inside.marks) ∙ ap length c.self.view_is in
    omega (arith, same, c.find_id.ensures.steps)
