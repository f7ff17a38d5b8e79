use Rattle.std.proofs.Common.{◌≤◌, arith, vec_len, length, map, ap, length-append, le_trans}
use Rattle.sum_core.specs.Nodes.{child_value, items_under}
use Rattle.sum_core.proofs.Levels.{if_ok}
use Rattle.sum_core.proofs.Children.{fits-left, fits-right, values-append, items-append, children-left, children-right}
use Rattle.sum_tree.proofs.Pieces.{packed-one, packed-two}
use Rattle.sum_tree.proofs.pack.pack_children.Goals as goal

pub make_inner-requires-else-len-le-MOST-clause-children : goal.make_inner-requires-else-len-le-MOST-clause-children
make_inner-requires-else-len-le-MOST-clause-children g c =
    let m = g.T.Sum.Summary in
    let e = c.in_ok-front.ensures.joined in
    children-left m.empty m.joined g.T.Item.summary _ 6 (map child_value c.args.children.items) (map child_value c.in_ok-front.front.items) (map child_value c.in_ok-front.back.items) (values-append c.args.children.items c.in_ok-front.front.items c.in_ok-front.back.items e) c.requires.children

pub make_inner-requires-else-len-le-MOST-clause-fits : goal.make_inner-requires-else-len-le-MOST-clause-fits
make_inner-requires-else-len-le-MOST-clause-fits g c =
    let m = g.T.Sum.Summary in
    let e = c.in_ok-front.ensures.joined in
    fits-left m.empty m.joined m.fits g.T.Item.summary g.met.T.Sum.Summary.laws (items_under (map child_value c.args.children.items)) (items_under (map child_value c.in_ok-front.front.items)) (items_under (map child_value c.in_ok-front.back.items)) (items-append c.args.children.items c.in_ok-front.front.items c.in_ok-front.back.items e) c.requires.fits

pub make_inner-requires-else-len-le-MOST-clause-small : goal.make_inner-requires-else-len-le-MOST-clause-small
make_inner-requires-else-len-le-MOST-clause-small g c =
    let e = c.in_ok-front.ensures.joined in
    omega (arith, ap length (items-append c.args.children.items c.in_ok-front.front.items c.in_ok-front.back.items e), length-append (items_under (map child_value c.in_ok-front.front.items)) (items_under (map child_value c.in_ok-front.back.items)), c.requires.small)

pub make_inner-requires-else-len-le-MOST-2-clause-children : goal.make_inner-requires-else-len-le-MOST-2-clause-children
make_inner-requires-else-len-le-MOST-2-clause-children g c =
    let m = g.T.Sum.Summary in
    let e = c.in_ok-front.ensures.joined in
    children-right m.empty m.joined g.T.Item.summary _ 6 (map child_value c.args.children.items) (map child_value c.in_ok-front.front.items) (map child_value c.in_ok-front.back.items) (values-append c.args.children.items c.in_ok-front.front.items c.in_ok-front.back.items e) c.requires.children

pub make_inner-requires-else-len-le-MOST-2-clause-fits : goal.make_inner-requires-else-len-le-MOST-2-clause-fits
make_inner-requires-else-len-le-MOST-2-clause-fits g c =
    let m = g.T.Sum.Summary in
    let e = c.in_ok-front.ensures.joined in
    fits-right m.empty m.joined m.fits g.T.Item.summary g.met.T.Sum.Summary.laws (items_under (map child_value c.args.children.items)) (items_under (map child_value c.in_ok-front.front.items)) (items_under (map child_value c.in_ok-front.back.items)) (items-append c.args.children.items c.in_ok-front.front.items c.in_ok-front.back.items e) c.requires.fits

pub make_inner-requires-else-len-le-MOST-2-clause-small : goal.make_inner-requires-else-len-le-MOST-2-clause-small
make_inner-requires-else-len-le-MOST-2-clause-small g c =
    let e = c.in_ok-front.ensures.joined in
    omega (arith, ap length (items-append c.args.children.items c.in_ok-front.front.items c.in_ok-front.back.items e), length-append (items_under (map child_value c.in_ok-front.front.items)) (items_under (map child_value c.in_ok-front.back.items)), c.requires.small)

pub returns-in_ok-right-clause-packed : goal.returns-in_ok-right-clause-packed
returns-in_ok-right-clause-packed g c =
    let m = g.T.Sum.Summary in
    let e = c.in_ok-front.ensures.joined in
    let w : 6 ≤ vec_len c.in_ok-front.front = omega (arith, c.in_ok-front.ensures.front) in
    let v : 6 ≤ vec_len c.in_ok-front.back = omega (arith, c.in_ok-front.ensures.front, ap length c.in_ok-front.ensures.joined, length-append c.in_ok-front.front.items c.in_ok-front.back.items) in
    if_ok c.two.result _ _
    (λ p is. packed-two m.empty m.joined g.T.Item.summary c.args.height _ _ _ _ _ (items_under (map child_value c.in_ok-front.front.items)) (items_under (map child_value c.in_ok-front.back.items)) _ _ is c.in_ok-left.ensures.kept c.in_ok-right.ensures.kept w v (omega arith) c.in_ok-left.ensures.items c.in_ok-right.ensures.items (items-append c.args.children.items c.in_ok-front.front.items c.in_ok-front.back.items e))
    c.two.ensures

pub returns-in_err-only-clause-steps : goal.returns-in_err-only-clause-steps
returns-in_err-only-clause-steps g c = omega (arith, c.in_err-only.ensures.steps)

pub returns-in_ok-only-clause-steps : goal.returns-in_ok-only-clause-steps
returns-in_ok-only-clause-steps g c = omega (arith, c.in_ok-only.ensures.steps)

pub returns-in_err-left-clause-steps : goal.returns-in_err-left-clause-steps
returns-in_err-left-clause-steps g c = omega (arith, c.in_err-left.ensures.steps)

pub returns-in_err-right-clause-counted : goal.returns-in_err-right-clause-counted
returns-in_err-right-clause-counted g c = le_trans c.in_ok-left.ensures.counted c.in_err-right.ensures.counted

pub returns-in_err-right-clause-steps : goal.returns-in_err-right-clause-steps
returns-in_err-right-clause-steps g c = omega (arith, c.in_ok-left.ensures.steps, c.in_err-right.ensures.steps)

pub returns-in_ok-right-clause-counted : goal.returns-in_ok-right-clause-counted
returns-in_ok-right-clause-counted g c = le_trans c.in_ok-left.ensures.counted c.in_ok-right.ensures.counted

pub returns-in_ok-right-clause-steps : goal.returns-in_ok-right-clause-steps
returns-in_ok-right-clause-steps g c = omega (arith, c.in_ok-left.ensures.steps, c.in_ok-right.ensures.steps)

pub returns-in_ok-only-clause-packed : goal.returns-in_ok-only-clause-packed
returns-in_ok-only-clause-packed g c =
    let m = g.T.Sum.Summary in
    if_ok c.one.result _ _
    (λ p is. packed-one m.empty m.joined g.T.Item.summary c.args.height (vec_len c.args.children) _ (child_value c.in_ok-only.only) _ _ is c.in_ok-only.ensures.kept (omega arith) c.in_ok-only.ensures.items)
    c.one.ensures

pub make_inner-requires-else-len-le-MOST-clause-room : goal.make_inner-requires-else-len-le-MOST-clause-room
make_inner-requires-else-len-le-MOST-clause-room g c = omega (arith, c.in_ok-front.ensures.front, c.requires.room)

pub make_inner-requires-else-len-le-MOST-2-clause-room : goal.make_inner-requires-else-len-le-MOST-2-clause-room
make_inner-requires-else-len-le-MOST-2-clause-room g c =
    omega (arith, c.in_ok-front.ensures.front, c.requires.room, ap length c.in_ok-front.ensures.joined, length-append c.in_ok-front.front.items c.in_ok-front.back.items)
