use Rattle.std.proofs.Common.{◌≤◌, ◌∙◌, ap, sym, length, arith}
use Rattle.std.specs.List.{slice_get}
use Rattle.mark_tree.specs.Entries.{placed_at}
use Rattle.mark_tree.specs.Views.{mark_of}
use Rattle.mark_tree.proofs.MarkViews.{slice_get-of}
use Rattle.mark_tree.proofs.Moved.{length-map}
use Rattle.mark_tree.proofs.mark_tree.MarkTree.get.Goals as goal

pub returns-in_err-found-clause-mark : goal.returns-in_err-found-clause-mark
returns-in_err-found-clause-mark g c =
    let past : length c.args.self.now ≤ c.args.at = omega (arith, c.in_err-found.ensures.found, length-map mark_of c.self.inside.marks, ap length c.self.view_is) in
    rw c.from_residual.ensures past

pub returns-in_err-found-clause-steps : goal.returns-in_err-found-clause-steps
returns-in_err-found-clause-steps g c h few =
    c.get.ensures.steps h (omega (arith, few, length-map mark_of c.self.inside.marks, ap length c.self.view_is))

pub returns-clause-mark : goal.returns-clause-mark
returns-clause-mark g c =
    ap (λ l. slice_get l c.args.at) (sym c.self.view_is)
    ∙ slice_get-of c.self.inside.marks c.args.at (placed_at c.in_ok-found.found.offset c.in_ok-found.found.entry.now) c.in_ok-found.ensures.found

pub returns-clause-steps : goal.returns-clause-steps
returns-clause-steps g c h few =
    c.get.ensures.steps h (omega (arith, few, length-map mark_of c.self.inside.marks, ap length c.self.view_is))
