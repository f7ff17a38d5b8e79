use Rattle.std.proofs.Common.{◌≡◌, ◌+◌, ◌<◌, ◌^◌, ap, sym, subst, arith, map, length, length-append, vec_len}
use Rattle.sum_core.specs.Nodes.{IsChildList, child_value}
use Rattle.sum_core.proofs.Children.{values-append, items-append, children-append}
use Rattle.sum_core.specs.Sums.{total}
use Rattle.sum_core.proofs.Levels.{if_ok}
use Rattle.sum_tree.proofs.Melds.{packed-as}
use Rattle.sum_tree.proofs.pack.pack_joined.Goals as goal

pub pack_children-requires-clause-children : goal.pack_children-requires-clause-children
pack_children-requires-clause-children g c =
    let m = g.T.Sum.Summary in
    let e = values-append c.append.new.self.items c.args.front.items c.args.back.items c.in_ok-append.ensures.items in
    subst (IsChildList m.empty m.joined g.T.Item.summary _ 6) (sym e)
    (children-append m.empty m.joined g.T.Item.summary _ 6 (map child_value c.args.front.items) (map child_value c.args.back.items) c.requires.front c.requires.back)

pub pack_children-requires-clause-room : goal.pack_children-requires-clause-room
pack_children-requires-clause-room g c =
    omega (arith, ap length c.in_ok-append.ensures.items, length-append c.args.front.items c.args.back.items, c.requires.room)

pub pack_children-requires-clause-fits : goal.pack_children-requires-clause-fits
pack_children-requires-clause-fits g c =
    let m = g.T.Sum.Summary in
    subst (λ l. m.fits (total m.empty m.joined g.T.Item.summary l)) (sym (items-append c.append.new.self.items c.args.front.items c.args.back.items c.in_ok-append.ensures.items)) c.requires.fits

pub pack_children-requires-clause-small : goal.pack_children-requires-clause-small
pack_children-requires-clause-small g c =
    subst (λ l. length l < 2 ^ 32) (sym (items-append c.append.new.self.items c.args.front.items c.args.back.items c.in_ok-append.ensures.items)) c.requires.small

pub returns-clause-packed : goal.returns-clause-packed
returns-clause-packed g c =
    let m = g.T.Sum.Summary in
    let e = c.in_ok-append.ensures.items in
    let n : vec_len c.append.new.self ≡ vec_len c.args.front + vec_len c.args.back = omega (arith, ap length e, length-append c.args.front.items c.args.back.items) in
    if_ok c.pack_children.result _ _
    (λ v is. packed-as m.empty m.joined g.T.Item.summary c.args.height _ _ _ _ _ n (items-append c.append.new.self.items c.args.front.items c.args.back.items e) is)
    c.pack_children.ensures.packed
