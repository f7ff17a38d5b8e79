use Rattle.std.proofs.Common.{◌≡◌, ◌<◌, ap, sym, subst, length, arith, ◌+◌, ◌^◌, vec_len, le_trans}
use Rattle.std.proofs.lemmas.List.{length-map}
use Rattle.sum_core.specs.Sums.{total}
use Rattle.sum_core.specs.Nodes.{entries_of, child_value, contents, width}
use Rattle.sum_core.proofs.Levels.{if_ok}
use Rattle.sum_tree.proofs.Melds.{level-items, packed-as}
use Rattle.sum_tree.proofs.joins.meld_level.Goals as goal

pub pack_joined-requires-clause-fits : goal.pack_joined-requires-clause-fits
pack_joined-requires-clause-fits g c =
    let m = g.T.Sum.Summary in
    subst (λ l. m.fits (total m.empty m.joined g.T.Item.summary l))
    (level-items m.empty m.joined g.T.Item.summary c.args.height (entries_of c.args.left.now) (entries_of c.args.right.now) _ _ c.in_ok-front.ensures.opened c.in_ok-back.ensures.opened) c.requires.fits

pub pack_joined-requires-clause-small : goal.pack_joined-requires-clause-small
pack_joined-requires-clause-small g c =
    let m = g.T.Sum.Summary in
    subst (λ l. length l < 2 ^ 32)
    (level-items m.empty m.joined g.T.Item.summary c.args.height (entries_of c.args.left.now) (entries_of c.args.right.now) _ _ c.in_ok-front.ensures.opened c.in_ok-back.ensures.opened) c.requires.small

pub returns-in_ok-back-clause-packed : goal.returns-in_ok-back-clause-packed
returns-in_ok-back-clause-packed g c =
    let m = g.T.Sum.Summary in
    let o = c.in_ok-front.ensures.opened in
    let p = c.in_ok-back.ensures.opened in
    let n : vec_len c.in_ok-front.front + vec_len c.in_ok-back.back ≡ width (contents (entries_of c.args.left.now)) + width (contents (entries_of c.args.right.now)) = omega (arith, ap width o.shows, ap width p.shows, length-map c.in_ok-front.front.items child_value, length-map c.in_ok-back.back.items child_value) in
    if_ok c.pack_joined.result _ _
    (λ v is. packed-as m.empty m.joined g.T.Item.summary c.args.height _ _ _ _ _ n (sym (level-items m.empty m.joined g.T.Item.summary c.args.height (entries_of c.args.left.now) (entries_of c.args.right.now) _ _ o p)) is)
    c.pack_joined.ensures.packed

pub returns-in_err-items-clause-steps : goal.returns-in_err-items-clause-steps
returns-in_err-items-clause-steps g c = omega (arith, c.in_err-items.ensures.steps)

pub returns-in_err-more-clause-counted : goal.returns-in_err-more-clause-counted
returns-in_err-more-clause-counted g c = le_trans c.in_ok-items.ensures.counted c.in_err-more.ensures.counted

pub returns-in_err-more-clause-steps : goal.returns-in_err-more-clause-steps
returns-in_err-more-clause-steps g c = omega (arith, c.in_ok-items.ensures.steps, c.in_err-more.ensures.steps)

pub returns-in_err-append-clause-counted : goal.returns-in_err-append-clause-counted
returns-in_err-append-clause-counted g c = le_trans c.in_ok-items.ensures.counted c.in_ok-more.ensures.counted

pub returns-in_err-append-clause-steps : goal.returns-in_err-append-clause-steps
returns-in_err-append-clause-steps g c = omega (arith, c.in_ok-items.ensures.steps, c.in_ok-more.ensures.steps)

pub returns-in_ok-append-clause-counted : goal.returns-in_ok-append-clause-counted
returns-in_ok-append-clause-counted g c =
    le_trans c.in_ok-items.ensures.counted (le_trans c.in_ok-more.ensures.counted c.pack_items.ensures.counted)

pub returns-in_ok-append-clause-steps : goal.returns-in_ok-append-clause-steps
returns-in_ok-append-clause-steps g c = omega (arith, c.in_ok-items.ensures.steps, c.in_ok-more.ensures.steps, c.pack_items.ensures.steps)

pub returns-in_err-front-clause-steps : goal.returns-in_err-front-clause-steps
returns-in_err-front-clause-steps g c = omega (arith, c.in_err-front.ensures.steps)

pub returns-in_err-back-clause-counted : goal.returns-in_err-back-clause-counted
returns-in_err-back-clause-counted g c = le_trans c.in_ok-front.ensures.counted c.in_err-back.ensures.counted

pub returns-in_err-back-clause-steps : goal.returns-in_err-back-clause-steps
returns-in_err-back-clause-steps g c = omega (arith, c.in_ok-front.ensures.steps, c.in_err-back.ensures.steps)

pub returns-in_ok-back-clause-counted : goal.returns-in_ok-back-clause-counted
returns-in_ok-back-clause-counted g c =
    le_trans c.in_ok-front.ensures.counted (le_trans c.in_ok-back.ensures.counted c.pack_joined.ensures.counted)

pub returns-in_ok-back-clause-steps : goal.returns-in_ok-back-clause-steps
returns-in_ok-back-clause-steps g c = omega (arith, c.in_ok-front.ensures.steps, c.in_ok-back.ensures.steps, c.pack_joined.ensures.steps)
