use Rattle.sum_core.specs.Nodes.{entries_of}
use Rattle.sum_core.proofs.Heights.{root-holds, low-at, at-most}
use Rattle.sum_core.proofs.laws.root_holds_many.Goals as goal

pub returns-clause-many : goal.returns-clause-many
returns-clause-many g c =
    let m = g.T.Sum.Summary in
    root-holds m.empty m.joined g.T.Item.summary c.args.height (entries_of c.args.root.now) c.requires

pub returns-clause-low : goal.returns-clause-low
returns-clause-low g c h few =
    let m = g.T.Sum.Summary in
    low-at m.empty m.joined g.T.Item.summary c.args.height (entries_of c.args.root.now) h c.requires few

pub returns-clause-at_most : goal.returns-clause-at_most
returns-clause-at_most g c =
    let m = g.T.Sum.Summary in
    at-most m.empty m.joined g.T.Item.summary c.args.height (entries_of c.args.root.now) c.requires.lawful
