use Rattle.wrap_map.proofs.Parts.{found-none, found-some, not-past, stood-found}
use Rattle.wrap_map.proofs.stretches.stretch_of.Goals as goal

pub unreachable-requires : goal.unreachable-requires
unreachable-requires c =
    let f = c.find.result in
    not-past c.args.tree.now c.args.line f.index c.find.ensures.first c.requires (found-none c.args.tree.now f.index f.item c.find.ensures.item c.in-None.is)

pub returns-clause-stood : goal.returns-clause-stood
returns-clause-stood c =
    let f = c.find.result in
    stood-found c.args.tree.now c.args.line f.index c.in-Some.stretch.now c.find.ensures.first
    (found-some c.args.tree.now f.index f.item c.in-Some.stretch c.find.ensures.item c.in-Some.is)
