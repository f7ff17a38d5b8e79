use Rattle.std.proofs.Common.{◌+◌, ◌∙◌, ap, sym, subst, map, drop, arith, length, length-append}
use Rattle.sum_core.specs.Sums.{total}
use Rattle.sum_core.specs.Nodes.{child_value, items_in, items_under, IsLawful}
use Rattle.sum_core.proofs.Children.{children-at, items-opened, fits-split, same-split}
use Rattle.sum_tree.proofs.pack.sum_children.Goals as goal

pub plus-sum-requires : goal.plus-sum-requires
plus-sum-requires g c =
    let m = g.T.Sum.Summary in
    let k = c.child-item.result in
    let i = c.loop-child.child-index in
    let here = children-at m.empty m.joined g.T.Item.summary (IsLawful m.empty m.joined g.T.Item.summary c.args.below) 6 c.args.children.now i k c.loop-child-test.true c.child-item.is c.requires.children in
    let parts = items-opened c.args.children.now i k c.loop-child-test.true c.child-item.is in
    g.met.T.Sum.Summary.laws.left_fits _ _ (fits-split m.empty m.joined m.fits g.T.Item.summary g.met.T.Sum.Summary.laws c.loop-child.sum (child_value k).0 _ (items_in (child_value k).2) (items_under (drop (i + 1) (map child_value c.args.children.now))) parts here.sum_is c.loop-child.invariant.fits)

pub overflow_add-count : goal.overflow_add-count
overflow_add-count g c =
    let m = g.T.Sum.Summary in
    let k = c.child-item.result in
    let i = c.loop-child.child-index in
    let here = children-at m.empty m.joined g.T.Item.summary (IsLawful m.empty m.joined g.T.Item.summary c.args.below) 6 c.args.children.now i k c.loop-child-test.true c.child-item.is c.requires.children in
    let parts = items-opened c.args.children.now i k c.loop-child-test.true c.child-item.is in
    omega (arith, here.count_is, ap length parts, length-append (items_in (child_value k).2) (items_under (drop (i + 1) (map child_value c.args.children.now))), c.loop-child.invariant.count, c.requires.small)

pub loop-child-preserved : goal.loop-child-preserved
loop-child-preserved g c =
    let m = g.T.Sum.Summary in
    let k = c.child-item.result in
    let i = c.loop-child.child-index in
    let rest = items_under (drop (i + 1) (map child_value c.args.children.now)) in
    let here = children-at m.empty m.joined g.T.Item.summary (IsLawful m.empty m.joined g.T.Item.summary c.args.below) 6 c.args.children.now i k c.loop-child-test.true c.child-item.is c.requires.children in
    let parts = items-opened c.args.children.now i k c.loop-child-test.true c.child-item.is in
    record {
      fits = subst (λ s. m.fits (m.joined s (total m.empty m.joined g.T.Item.summary rest))) (sym c.plus-sum.ensures) (fits-split m.empty m.joined m.fits g.T.Item.summary g.met.T.Sum.Summary.laws c.loop-child.sum (child_value k).0 _ (items_in (child_value k).2) rest parts here.sum_is c.loop-child.invariant.fits);
      same = ap (λ s. m.joined s (total m.empty m.joined g.T.Item.summary rest)) c.plus-sum.ensures ∙ sym (same-split m.empty m.joined m.fits g.T.Item.summary g.met.T.Sum.Summary.laws c.loop-child.sum (child_value k).0 _ (items_in (child_value k).2) rest parts here.sum_is) ∙ c.loop-child.invariant.same;
      count = omega (arith, here.count_is, ap length parts, length-append (items_in (child_value k).2) rest, c.loop-child.invariant.count);
    }
