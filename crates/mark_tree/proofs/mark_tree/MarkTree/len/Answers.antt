use Rattle.std.proofs.Common.{◌∙◌, ap, sym, subst, length}
use Rattle.mark_tree.specs.Marks.{IsMarkList}
use Rattle.mark_tree.specs.Views.{mark_of}
use Rattle.mark_tree.proofs.MarkViews.{lawful-of}
use Rattle.mark_tree.proofs.Moved.{length-map}
use Rattle.mark_tree.proofs.mark_tree.MarkTree.len.Goals as goal

pub returns-clause-len : goal.returns-clause-len
returns-clause-len g c = c.len.ensures.len ∙ sym (length-map mark_of c.self.inside.marks) ∙ ap length c.self.view_is

pub returns-clause-lawful : goal.returns-clause-lawful
returns-clause-lawful g c = subst IsMarkList c.self.view_is (lawful-of c.self.inside.marks c.self.invariant c.len.ensures.codable)
