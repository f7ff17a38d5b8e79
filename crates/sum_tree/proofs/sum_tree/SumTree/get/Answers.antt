use Rattle.std.proofs.Common.{◌<◌, ◌≤◌, ◌^◌, ◌*◌, ◌+◌, ap, sym, subst, inl, inr, arith, length}
use Rattle.std.proofs.Math.Nat.{pow-le-pow_right}
use Rattle.std.proofs.lemmas.Bool.{cases_lt}
use Rattle.std.proofs.lemmas.Option.{slice_get_past}
use Rattle.sum_core.specs.Nodes.{entries_of, items_of}
use Rattle.sum_core.proofs.Heights.{at-most, low-at}
use Rattle.sum_tree.specs.inside.Trees.{IsHeld, items_held}
use Rattle.sum_tree.proofs.sum_tree.SumTree.get.Goals as goal

pub returns-then-at-tree-clause-steps : goal.returns-then-at-tree-clause-steps
returns-then-at-tree-clause-steps g c h few =
    let m = g.T.Sum.Summary in
    let held = subst (IsHeld m.empty m.joined g.T.Item.summary m.fits) c.in-Some.is c.self.invariant in
    let few' : length (items_of c.in-Some.tree.node) < 2 * 6 ^ (h + 1) = omega (arith, few, ap length c.self.view_is, ap (λ o. length (items_held o)) c.in-Some.is) in
    let low = low-at m.empty m.joined g.T.Item.summary c.in-Some.tree.height (entries_of c.in-Some.tree.node) h held.tree.root few' in
    omega (arith, low, c.item_at.ensures.steps)

pub returns-else-at-tree-clause-item : goal.returns-else-at-tree-clause-item
returns-else-at-tree-clause-item g c =
    let m = g.T.Sum.Summary in
    let held = subst (IsHeld m.empty m.joined g.T.Item.summary m.fits) c.in-Some.is c.self.invariant in
    sym (slice_get_past c.args.self.now c.args.at (omega (arith, held.tree.count_is, ap length c.self.view_is, ap (λ o. length (items_held o)) c.in-Some.is)))

pub returns-then-at-tree-clause-opened : goal.returns-then-at-tree-clause-opened
returns-then-at-tree-clause-opened g c within h wide =
    let m = g.T.Sum.Summary in
    let held = subst (IsHeld m.empty m.joined g.T.Item.summary m.fits) c.in-Some.is c.self.invariant in
    let most = at-most m.empty m.joined g.T.Item.summary c.in-Some.tree.height (entries_of c.in-Some.tree.node) held.tree.root.lawful in
    let size = ap (λ o. length (items_held o)) c.in-Some.is in
    elim (cases_lt h (c.in-Some.tree.height + 1)) [
      | inl low ↦ omega (arith, c.item_at.ensures.opened, low)
      | inr high ↦
          let wider : 12 ^ (c.in-Some.tree.height + 1) ≤ 12 ^ h = pow-le-pow_right (omega arith) high in
          absurd (omega (arith, most, wide, size, ap length c.self.view_is, wider))
    ]
