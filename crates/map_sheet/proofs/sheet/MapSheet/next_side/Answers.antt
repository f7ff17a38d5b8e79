use Rattle.std.proofs.Common.{sym, ◌∙◌}
use Rattle.map_sheet.proofs.ListedBlocks.{above-next, below-next, below-only}
use Rattle.map_sheet.proofs.sheet.MapSheet.next_side.Goals as goal

pub returns-then-comes_first-clause-next : goal.returns-then-comes_first-clause-next
returns-then-comes_first-clause-next c =
    above-next c.args.self.now c.args.above c.args.below c.in-Some.x.0 c.in-Some.x.1 c.in-Some-y.y.0 c.in-Some-y.y.1
    (sym c.key-x.ensures.key ∙ c.in-Some.is) (sym c.key-y.ensures.key ∙ c.in-Some-y.is) (sym c.comes_first.ensures ∙ c.if-comes_first.true)

pub returns-else-comes_first-clause-next : goal.returns-else-comes_first-clause-next
returns-else-comes_first-clause-next c =
    below-next c.args.self.now c.args.above c.args.below c.in-Some.x.0 c.in-Some.x.1 c.in-Some-y.y.0 c.in-Some-y.y.1
    (sym c.key-x.ensures.key ∙ c.in-Some.is) (sym c.key-y.ensures.key ∙ c.in-Some-y.is) (sym c.comes_first.ensures ∙ c.if-comes_first.false)

pub returns-in_default-clause-next : goal.returns-in_default-clause-next
returns-in_default-clause-next c =
    below-only c.blocked_laws.ensures.many c.args.self.now c.args.above c.args.below c.requires (sym c.in_default.ensures.key)
