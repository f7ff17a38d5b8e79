use Rattle.std.proofs.Common.{ap, ◌∙◌, sym, map}
use Rattle.sum_core.specs.Nodes.{entries_of, child_value, inner}
use Rattle.sum_core.proofs.Levels.{seen, if_ok}
use Rattle.sum_tree.proofs.Pieces.{opened}
use Rattle.sum_tree.proofs.open.copy_inner.Goals as goal

pub returns-clause-opened : goal.returns-clause-opened
returns-clause-opened g c =
    let m = g.T.Sum.Summary in
    if_ok c.copy_children.result _ _
    (λ v e. opened m.empty m.joined g.T.Item.summary c.args.height (entries_of c.args.node.now) (map child_value v.items) c.requires.lawful
    (seen c.entries.result.now (entries_of c.args.node.now) c.in-Inner.children c.deref.result.now c.entries.ensures.value c.in-Inner.is c.deref.ensures.value ∙ ap inner (sym e)))
    c.copy_children.ensures
