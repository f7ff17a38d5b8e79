use Rattle.std.proofs.Common.{sym, subst, arith, map, refl}
use Rattle.sum_tree.proofs.Melds.{small-left, small-right}
use Rattle.sum_core.specs.Nodes.{child_value, entries_of, items_of}
use Rattle.sum_tree.specs.inside.Parts.{IsRaisable}
use Rattle.sum_tree.proofs.Raises.{raisable}
use Rattle.sum_core.proofs.Heights.{low-root}
use Rattle.sum_tree.proofs.trees.join.Goals as goal

pub raise-requires-clause-pieces : goal.raise-requires-clause-pieces
raise-requires-clause-pieces g c =
    let m = g.T.Sum.Summary in
    subst (λ h. IsRaisable m.empty m.joined g.T.Item.summary h (map child_value c.in_ok-pieces.pieces.items)) (sym c.max.ensures)
    (raisable m.empty m.joined g.T.Item.summary c.args.left.now.height c.args.right.now.height (entries_of c.args.left.now.node) (entries_of c.args.right.now.node) (map child_value c.in_ok-pieces.pieces.items) c.requires.left.root c.requires.right.root c.in_ok-pieces.ensures.melded)

pub raise-requires-clause-low : goal.raise-requires-clause-low
raise-requires-clause-low g c =
    let m = g.T.Sum.Summary in
    let a = low-root m.empty m.joined g.T.Item.summary c.args.left.now.height (entries_of c.args.left.now.node) c.requires.left.root (small-left _ _ (items_of c.args.left.now.node) (items_of c.args.right.now.node) refl c.requires.small) in
    let b = low-root m.empty m.joined g.T.Item.summary c.args.right.now.height (entries_of c.args.right.now.node) c.requires.right.root (small-right _ _ (items_of c.args.left.now.node) (items_of c.args.right.now.node) refl c.requires.small) in
    omega (arith, a, b, c.max.ensures)

pub returns-in_err-pieces-clause-steps : goal.returns-in_err-pieces-clause-steps
returns-in_err-pieces-clause-steps g c =
    let m = g.T.Sum.Summary in
    let a = low-root m.empty m.joined g.T.Item.summary c.args.left.now.height (entries_of c.args.left.now.node) c.requires.left.root (small-left _ _ (items_of c.args.left.now.node) (items_of c.args.right.now.node) refl c.requires.small) in
    let b = low-root m.empty m.joined g.T.Item.summary c.args.right.now.height (entries_of c.args.right.now.node) c.requires.right.root (small-right _ _ (items_of c.args.left.now.node) (items_of c.args.right.now.node) refl c.requires.small) in
    omega (arith, a, b)

pub returns-clause-steps : goal.returns-clause-steps
returns-clause-steps g c =
    let m = g.T.Sum.Summary in
    let a = low-root m.empty m.joined g.T.Item.summary c.args.left.now.height (entries_of c.args.left.now.node) c.requires.left.root (small-left _ _ (items_of c.args.left.now.node) (items_of c.args.right.now.node) refl c.requires.small) in
    let b = low-root m.empty m.joined g.T.Item.summary c.args.right.now.height (entries_of c.args.right.now.node) c.requires.right.root (small-right _ _ (items_of c.args.left.now.node) (items_of c.args.right.now.node) refl c.requires.small) in
    omega (arith, a, b, c.in_ok-pieces.ensures.steps)
