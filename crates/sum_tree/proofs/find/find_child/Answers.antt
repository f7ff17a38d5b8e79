use Rattle.std.proofs.Common.{◌≡◌, ◌+◌, ◌≤◌, ap, map, take, arith, length}
use Rattle.std.proofs.lemmas.List.{length-map, take_all}
use Rattle.sum_core.specs.Nodes.{child_value, items_under, IsLawful}
use Rattle.sum_core.proofs.Children.{children-at, items-taken, taken-small}
use Rattle.sum_tree.proofs.find.find_child.Goals as goal

pub overflow_add-next : goal.overflow_add-next
overflow_add-next g c =
    let m = g.T.Sum.Summary in
    let k = c.index-children-index.result in
    let i = c.loop-index.index in
    let here = children-at m.empty m.joined g.T.Item.summary (IsLawful m.empty m.joined g.T.Item.summary c.args.below) 6 c.args.children.now i k c.loop-index-test.true c.index-children-index.is c.requires.children in
    omega (arith, here.count_is, items-taken c.args.children.now i k c.loop-index-test.true c.index-children-index.is, taken-small (map child_value c.args.children.now) (i + 1), c.loop-index.invariant.offset, c.requires.small)

pub returns-then-at-next-clause-high : goal.returns-then-at-next-clause-high
returns-then-at-next-clause-high g c =
    let m = g.T.Sum.Summary in
    let k = c.index-children-index.result in
    let i = c.loop-index.index in
    let here = children-at m.empty m.joined g.T.Item.summary (IsLawful m.empty m.joined g.T.Item.summary c.args.below) 6 c.args.children.now i k c.loop-index-test.true c.index-children-index.is c.requires.children in
    omega (arith, here.count_is, items-taken c.args.children.now i k c.loop-index-test.true c.index-children-index.is, c.loop-index.invariant.offset, c.if-at-next.true)

pub loop-index-preserved : goal.loop-index-preserved
loop-index-preserved g c =
    let m = g.T.Sum.Summary in
    let k = c.index-children-index.result in
    let i = c.loop-index.index in
    let here = children-at m.empty m.joined g.T.Item.summary (IsLawful m.empty m.joined g.T.Item.summary c.args.below) 6 c.args.children.now i k c.loop-index-test.true c.index-children-index.is c.requires.children in
    record {
      offset = omega (arith, here.count_is, items-taken c.args.children.now i k c.loop-index-test.true c.index-children-index.is, c.loop-index.invariant.offset);
      low = omega arith;
      past = λ _. omega arith;
    }

pub unreachable-requires : goal.unreachable-requires
unreachable-requires g c =
    let cs = map child_value c.args.children.now in
    let n : length cs ≤ c.loop-index.index = omega (arith, length-map c.args.children.now child_value, c.loop-index-test.false) in
    let all : length (items_under (take c.loop-index.index cs)) ≡ length (items_under cs) = ap (λ l. length (items_under l)) (take_all c.loop-index.index cs n) in
    omega (arith, all, c.loop-index.invariant.offset, c.loop-index.invariant.past, c.requires.within, c.requires.some)
