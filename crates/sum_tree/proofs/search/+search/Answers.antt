use Rattle.std.proofs.Common.{◌∙◌, ◌++◌, ◌+◌, ◌≤◌, ap, sym, not, arith, length, map, take, drop}
use Rattle.std.specs.List.{position_or_len}
use Rattle.std.proofs.lemmas.List.{length-map, take_all}
use Rattle.std.proofs.lemmas.List.Sums.{prefix_len-le-length}
use Rattle.sum_core.specs.Nodes.{IsLawful, child_value, entries_of, items_in, items_under, width}
use Rattle.sum_core.proofs.Children.{children-at, items-split, items-taken, taken-small}
use Rattle.sum_core.proofs.Heights.{some-below}
use Rattle.sum_core.proofs.Levels.{seen, items-seen, lawful_below, inner-high}
use Rattle.sum_tree.proofs.Positions.{position-in, position-missed, position-past, taken-more, many-below}
use Rattle.sum_tree.proofs.search.+search.Goals as goal

pub before_below-before_under-requires : goal.before_below-before_under-requires
before_below-before_under-requires g t c κs within =
    let m = g.T.Sum.Summary in
    let e = entries_of c.args.node.now in
    let cs = map child_value c.deref-in-Inner.result.now in
    let is = seen c.entries.result.now e c.in-Inner.children c.deref-in-Inner.result.now c.entries.ensures.value c.in-Inner.is c.deref-in-Inner.ensures.value in
    let kept = (lawful_below m.empty m.joined g.T.Item.summary c.args.height e cs c.requires.lawful is).1 in
    let high = inner-high m.empty m.joined g.T.Item.summary c.args.height e cs c.requires.lawful is in
    (omega (arith, high), (within.0, (within.1.0, (within.1.1, (kept, omega (arith, ap length (items-seen e cs is), c.requires.small))))))

pub before_below-returns-in-Inner-clause-place : goal.before_below-returns-in-Inner-clause-place
before_below-returns-in-Inner-clause-place g t c =
    let e = entries_of c.args.node.now in
    let is = seen c.entries.result.now e c.in-Inner.children c.deref-in-Inner.result.now c.entries.ensures.value c.in-Inner.is c.deref-in-Inner.ensures.value in
    c.before_under.ensures.place
    ∙ ap (position_or_len (g.Q.Probe.is_passed c.args.probe.now)) (sym (items-seen e (map child_value c.deref-in-Inner.result.now) is))

pub before_below-returns-in-Inner-clause-steps : goal.before_below-returns-in-Inner-clause-steps
before_below-returns-in-Inner-clause-steps g t c =
    let e = entries_of c.args.node.now in
    let is = seen c.entries.result.now e c.in-Inner.children c.deref-in-Inner.result.now c.entries.ensures.value c.in-Inner.is c.deref-in-Inner.ensures.value in
    omega (arith, c.before_under.ensures.steps, c.entries.ensures.ticks, ap length (items-seen e (map child_value c.deref-in-Inner.result.now) is))

pub before_below-returns-in-Inner-clause-wide : goal.before_below-returns-in-Inner-clause-wide
before_below-returns-in-Inner-clause-wide g t c two =
    let e = entries_of c.args.node.now in
    let cs = map child_value c.deref-in-Inner.result.now in
    let is = seen c.entries.result.now e c.in-Inner.children c.deref-in-Inner.result.now c.entries.ensures.value c.in-Inner.is c.deref-in-Inner.ensures.value in
    omega (arith, two, ap width is, length-map c.deref-in-Inner.result.now child_value, c.before_under.ensures.steps, c.entries.ensures.ticks, ap length (items-seen e cs is))

pub before_under-before_in-within-requires : goal.before_under-before_in-within-requires
before_under-before_in-within-requires g t c κs within =
    let m = g.T.Sum.Summary in
    let i = c.loop-child.child-index in
    let k = c.child-item.result in
    let here = children-at m.empty m.joined g.T.Item.summary (IsLawful m.empty m.joined g.T.Item.summary c.args.below) 6 c.args.children.now i k c.loop-child-test.true c.child-item.is c.requires.children in
    let cs = map child_value c.args.children.now in
    (omega arith, (within.0, (within.1.0, (within.1.1, (here, omega (arith, items-taken c.args.children.now i k c.loop-child-test.true c.child-item.is, taken-small cs (i + 1), c.requires.small))))))

pub before_in-before_below-requires : goal.before_in-before_below-requires
before_in-before_below-requires g t c κs within =
    (omega arith, (within.0, (within.1.0, (within.1.1, (c.requires.child.below, c.requires.small)))))

pub before_in-returns-then-may_pass_in-clause-steps : goal.before_in-returns-then-may_pass_in-clause-steps
before_in-returns-then-may_pass_in-clause-steps g t c = c.before_below.ensures.wide c.requires.child.wide

pub before_in-returns-else-may_pass_in-clause-place : goal.before_in-returns-else-may_pass_in-clause-place
before_in-returns-else-may_pass_in-clause-place g t c =
    let k = child_value c.args.child.now in
    c.requires.child.count_is
    ∙ sym (position-missed (g.Q.Probe.is_passed c.args.probe.now) (items_in k.2)
    (g.met.Q.Probe.may_skip c.args.probe.now (items_in k.2)
    (ap (g.Q.Probe.may_pass c.args.probe.now) (sym c.requires.child.sum_is) ∙ sym c.may_pass_in.ensures ∙ c.if-may_pass_in.false)))

pub before_in-returns-else-may_pass_in-clause-steps : goal.before_in-returns-else-may_pass_in-clause-steps
before_in-returns-else-may_pass_in-clause-steps g t c =
    let m = g.T.Sum.Summary in
    let k = child_value c.args.child.now in
    omega (arith, some-below m.empty m.joined g.T.Item.summary c.args.below k.2 c.requires.child.below c.requires.child.wide)

pub before_under-overflow_add-result : goal.before_under-overflow_add-result
before_under-overflow_add-result g t c =
    let m = g.T.Sum.Summary in
    let i = c.loop-child.child-index in
    let k = c.child-item.result in
    let here = children-at m.empty m.joined g.T.Item.summary (IsLawful m.empty m.joined g.T.Item.summary c.args.below) 6 c.args.children.now i k c.loop-child-test.true c.child-item.is c.requires.children in
    omega (arith, here.count_is, c.if-within-child.true, items-taken c.args.children.now i k c.loop-child-test.true c.child-item.is, taken-small (map child_value c.args.children.now) (i + 1), c.loop-child.invariant.before, c.requires.small)

pub before_under-overflow_add-before : goal.before_under-overflow_add-before
before_under-overflow_add-before g t c =
    let m = g.T.Sum.Summary in
    let i = c.loop-child.child-index in
    let k = c.child-item.result in
    let here = children-at m.empty m.joined g.T.Item.summary (IsLawful m.empty m.joined g.T.Item.summary c.args.below) 6 c.args.children.now i k c.loop-child-test.true c.child-item.is c.requires.children in
    omega (arith, here.count_is, items-taken c.args.children.now i k c.loop-child-test.true c.child-item.is, taken-small (map child_value c.args.children.now) (i + 1), c.loop-child.invariant.before, c.requires.small)

pub before_under-returns-then-within-child-clause-place : goal.before_under-returns-then-within-child-clause-place
before_under-returns-then-within-child-clause-place g t c =
    let m = g.T.Sum.Summary in
    let p = g.Q.Probe.is_passed c.args.probe.now in
    let i = c.loop-child.child-index in
    let k = c.child-item.result in
    let cs = map child_value c.args.children.now in
    let here = children-at m.empty m.joined g.T.Item.summary (IsLawful m.empty m.joined g.T.Item.summary c.args.below) 6 c.args.children.now i k c.loop-child-test.true c.child-item.is c.requires.children in
    let before = items_under (take i cs) in
    let own = items_in (child_value k).2 in
    let rest = items_under (drop (i + 1) cs) in
    omega (
      arith,
      ap (position_or_len p) (items-split c.args.children.now i k c.loop-child-test.true c.child-item.is),
      position-past p before (own ++ rest) c.loop-child.invariant.none,
      position-in p own rest (omega (arith, here.count_is, c.if-within-child.true, c.before_in-within.ensures.place)),
      c.before_in-within.ensures.place,
      c.loop-child.invariant.before,
    )

pub before_under-returns-then-within-child-clause-steps : goal.before_under-returns-then-within-child-clause-steps
before_under-returns-then-within-child-clause-steps g t c =
    let m = g.T.Sum.Summary in
    let i = c.loop-child.child-index in
    let k = c.child-item.result in
    let here = children-at m.empty m.joined g.T.Item.summary (IsLawful m.empty m.joined g.T.Item.summary c.args.below) 6 c.args.children.now i k c.loop-child-test.true c.child-item.is c.requires.children in
    omega (
      arith,
      c.before_in-within.ensures.steps,
      c.loop-child.invariant.steps,
      many-below m.empty m.joined g.T.Item.summary c.args.below c.args.children.now i k c.loop-child-test.true c.child-item.is c.requires.children,
    )

pub before_under-loop-child-preserved : goal.before_under-loop-child-preserved
before_under-loop-child-preserved g t c =
    let m = g.T.Sum.Summary in
    let p = g.Q.Probe.is_passed c.args.probe.now in
    let i = c.loop-child.child-index in
    let k = c.child-item.result in
    let cs = map child_value c.args.children.now in
    let here = children-at m.empty m.joined g.T.Item.summary (IsLawful m.empty m.joined g.T.Item.summary c.args.below) 6 c.args.children.now i k c.loop-child-test.true c.child-item.is c.requires.children in
    let before = items_under (take i cs) in
    let own = items_in (child_value k).2 in
    let taken = items-taken c.args.children.now i k c.loop-child-test.true c.child-item.is in
    record {
      before = omega (arith, here.count_is, taken, c.loop-child.invariant.before);
      none = omega (
        arith,
        taken,
        ap (position_or_len p) (taken-more c.args.children.now i k c.loop-child-test.true c.child-item.is),
        position-past p before own c.loop-child.invariant.none,
        here.count_is,
        c.if-within-child.false,
        c.before_in-within.ensures.place,
      );
      counted = omega arith;
      steps = omega (arith, taken, c.before_in-within.ensures.steps, c.loop-child.invariant.steps);
    }

pub before_under-returns-clause-place : goal.before_under-returns-clause-place
before_under-returns-clause-place g t c =
    let p = g.Q.Probe.is_passed c.args.probe.now in
    let cs = map child_value c.args.children.now in
    let n : length cs ≤ c.loop-child.child-index = omega (arith, length-map c.args.children.now child_value, c.loop-child-test.false) in
    let all = take_all c.loop-child.child-index cs n in
    omega (
      arith,
      ap (λ l. length (items_under l)) all,
      ap (λ l. position_or_len p (items_under l)) all,
      c.loop-child.invariant.before,
      c.loop-child.invariant.none,
      prefix_len-le-length (λ x. not (p x)) (items_under cs),
    )
