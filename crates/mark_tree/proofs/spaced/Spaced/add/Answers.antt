use Rattle.std.proofs.Common.{sym, ◌∙◌, length}
use Rattle.mark_tree.proofs.Changing.{add-steps}
use Rattle.mark_tree.proofs.spaced.Spaced.add.Goals as goal

pub put-requires-clause-fresh : goal.put-requires-clause-fresh
put-requires-clause-fresh g c = sym c.find_id.ensures.any ∙ sym c.is_some.ensures ∙ c.if-is_some.false

pub returns-clause-fresh : goal.returns-clause-fresh
returns-clause-fresh g c = sym c.find_id.ensures.any ∙ sym c.is_some.ensures ∙ c.if-is_some.false

pub returns-clause-steps : goal.returns-clause-steps
returns-clause-steps g c h few =
    add-steps h (length c.args.self.now) c.args.steps.now c.find_id.new.steps c.put.new.steps c.find_id.ensures.steps (c.put.ensures.steps h few)
