use Rattle.std.proofs.Common.{◌∙◌, ap, sym, subst}
use Rattle.std.specs.List.{position}
use Rattle.sum_core.specs.Nodes.{items_of}
use Rattle.sum_tree.specs.inside.Trees.{IsHeld, items_held}
use Rattle.sum_tree.proofs.Positions.{position-none}
use Rattle.sum_tree.proofs.sum_tree.SumTree.position.Goals as goal

pub returns-then-not-may_pass_in-clause-place : goal.returns-then-not-may_pass_in-clause-place
returns-then-not-may_pass_in-clause-place g c =
    let m = g.T.Sum.Summary in
    let p = g.Q.Probe.is_passed c.args.probe.now in
    let items = items_of c.in-Some.tree.node in
    let held = subst (IsHeld m.empty m.joined g.T.Item.summary m.fits) c.in-Some.is c.self.invariant in
    let none = ap (g.Q.Probe.may_pass c.args.probe.now) (sym held.tree.sum_is) ∙ sym c.may_pass_in.ensures ∙ c.if-not-may_pass_in.true in
    position-none p items (g.met.Q.Probe.may_skip c.args.probe.now items none)
    ∙ ap (position p) (ap items_held (sym c.in-Some.is) ∙ c.self.view_is)
