use Rattle.std.proofs.Common.{◌≡◌, ◌+◌, ◌-◌, ◌<◌, ◌≤◌, ◌∙◌, ap, subst, arith, map, length, vec_len}
use Rattle.std.proofs.lemmas.List.{length-map}
use Rattle.sum_core.specs.Nodes.{child_value}
use Rattle.sum_core.proofs.Children.{first-out}
use Rattle.sum_tree.proofs.Raises.{raised-one, rooted}
use Rattle.sum_tree.specs.inside.Nodes.{AreChildren}
use Rattle.sum_tree.specs.inside.Trees.{IsTreeOf}
use Rattle.sum_tree.proofs.trees.raise.Goals as goal

pub returns-then-len-eq1-clause-raised : goal.returns-then-len-eq1-clause-raised
returns-then-len-eq1-clause-raised g c =
    let m = g.T.Sum.Summary in
    let xs = c.args.pieces.items in
    let lt : 0 < length xs = omega (arith, c.remove-child.ensures.len) in
    let one : length (map child_value xs) ≡ 1 = length-map xs child_value ∙ omega arith in
    raised-one m.empty m.joined g.T.Item.summary c.args.height (map child_value c.remove-child.new.self.items) (map child_value xs) (child_value c.remove-child.result) c.over.result c.over.ensures.node c.over.ensures.height one
    (ap (map child_value) (first-out xs c.remove-child.new.self.items _ lt c.remove-child.ensures.value c.remove-child.ensures.items)) c.requires.pieces

pub make_inner-requires-clause-children : goal.make_inner-requires-clause-children
make_inner-requires-clause-children g c =
    let xs = c.args.pieces.items in
    let two : 2 ≤ length (map child_value xs) = omega (arith, c.requires.pieces.some, length-map xs child_value, c.if-len-eq1.false, c.len.ensures) in
    let below : c.args.height ≡ c.args.height + 1 - 1 = omega arith in
    subst (λ h. AreChildren g.T.Item g.T.Sum.Summary h xs) below (c.requires.pieces.both two)

pub make_inner-requires-clause-room : goal.make_inner-requires-clause-room
make_inner-requires-clause-room g c = omega (arith, c.requires.pieces.few, length-map c.args.pieces.items child_value)

pub returns-in_ok-top-clause-raised : goal.returns-in_ok-top-clause-raised
returns-in_ok-top-clause-raised g c =
    let m = g.T.Sum.Summary in
    let xs = c.args.pieces.items in
    let two : 2 ≤ vec_len c.args.pieces = omega (arith, c.requires.pieces.some, length-map xs child_value, c.if-len-eq1.false, c.len.ensures) in
    let k = c.in_ok-top.ensures.kept in
    let t = c.over-else-len-eq1 in
    subst (IsTreeOf m.empty m.joined g.T.Item.summary t.result) c.in_ok-top.ensures.items
    (rooted m.empty m.joined g.T.Item.summary (c.args.height + 1) (vec_len c.args.pieces) (child_value c.in_ok-top.top) t.result t.ensures.node t.ensures.height (record { lawful = k.below; two = λ _. omega (arith, k.wide, two) }) k)
