use Rattle.std.proofs.Common.{◌<◌, ◌*◌, ◌^◌, ◌+◌, sym, subst, arith, take, drop, length, ap}
use Rattle.std.proofs.lemmas.List.{take-append-drop}
use Rattle.sum_core.specs.Sums.{total}
use Rattle.sum_core.specs.Nodes.{entries_of, items_of}
use Rattle.sum_core.proofs.Children.{fits-left, fits-right}
use Rattle.sum_core.proofs.Heights.{low-at}
use Rattle.sum_tree.specs.inside.Trees.{IsHeld, items_held}
use Rattle.sum_tree.proofs.Melds.{small-left, small-right}
use Rattle.sum_tree.proofs.sum_tree.SumTree.split_off.Goals as goal

pub returns-in_err-parts-clause-steps : goal.returns-in_err-parts-clause-steps
returns-in_err-parts-clause-steps g c h few =
    let m = g.T.Sum.Summary in
    let held = subst (IsHeld m.empty m.joined g.T.Item.summary m.fits) c.in-Some.is c.self.invariant in
    let few' : length (items_of c.in-Some.tree.node) < 2 * 6 ^ (h + 1) = omega (arith, few, ap length c.self.view_is, ap (λ o. length (items_held o)) c.in-Some.is) in
    let low = low-at m.empty m.joined g.T.Item.summary c.in-Some.tree.height (entries_of c.in-Some.tree.node) h held.tree.root few' in
    omega (arith, low, c.in_err-parts.ensures.steps)

pub returns-clause-steps : goal.returns-clause-steps
returns-clause-steps g c h few =
    let m = g.T.Sum.Summary in
    let held = subst (IsHeld m.empty m.joined g.T.Item.summary m.fits) c.in-Some.is c.self.invariant in
    let few' : length (items_of c.in-Some.tree.node) < 2 * 6 ^ (h + 1) = omega (arith, few, ap length c.self.view_is, ap (λ o. length (items_held o)) c.in-Some.is) in
    let low = low-at m.empty m.joined g.T.Item.summary c.in-Some.tree.height (entries_of c.in-Some.tree.node) h held.tree.root few' in
    omega (arith, low, c.in_ok-parts.ensures.steps)

pub invariant_of-self : goal.invariant_of-self
invariant_of-self g c =
    let m = g.T.Sum.Summary in
    let held = subst (IsHeld m.empty m.joined g.T.Item.summary m.fits) c.in-Some.is c.self.invariant in
    let all = items_of c.in-Some.tree.node in
    let is = c.in_ok-parts.ensures.left.items_is in
    let e = sym (take-append-drop c.args.at all) in
    record {
      tree = c.in_ok-parts.ensures.left.tree;
      sum_fits = subst (λ l. m.fits (total m.empty m.joined g.T.Item.summary l)) (sym is) (fits-left m.empty m.joined m.fits g.T.Item.summary g.met.T.Sum.Summary.laws all (take c.args.at all) (drop c.args.at all) e held.sum_fits);
      small = subst (λ l. length l < 4294967296) (sym is) (small-left 4294967296 all (take c.args.at all) (drop c.args.at all) e held.small);
    }

pub invariant_of-result-2 : goal.invariant_of-result-2
invariant_of-result-2 g c =
    let m = g.T.Sum.Summary in
    let held = subst (IsHeld m.empty m.joined g.T.Item.summary m.fits) c.in-Some.is c.self.invariant in
    let all = items_of c.in-Some.tree.node in
    let is = c.in_ok-parts.ensures.right.items_is in
    let e = sym (take-append-drop c.args.at all) in
    record {
      tree = c.in_ok-parts.ensures.right.tree;
      sum_fits = subst (λ l. m.fits (total m.empty m.joined g.T.Item.summary l)) (sym is) (fits-right m.empty m.joined m.fits g.T.Item.summary g.met.T.Sum.Summary.laws all (take c.args.at all) (drop c.args.at all) e held.sum_fits);
      small = subst (λ l. length l < 4294967296) (sym is) (small-right 4294967296 all (take c.args.at all) (drop c.args.at all) e held.small);
    }
