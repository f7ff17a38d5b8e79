use Rattle.std.proofs.Common.{◌<◌, ◌++◌, ◌∙◌, ap, sym, subst, arith, length, length-append, append_assoc, le_trans}
use Rattle.sum_core.specs.Sums.{total}
use Rattle.sum_core.specs.Nodes.{items_of}
use Rattle.sum_core.proofs.Children.{cut, fits-left, fits-right}
use Rattle.sum_tree.proofs.trees.+build_last.Goals as goal

pub pack_items-requires-clause-fits : goal.pack_items-requires-clause-fits
pack_items-requires-clause-fits g t c =
    let m = g.T.Sum.Summary in
    let e = cut _ c.args.items.now.items c.split_off.new.self.items c.in_ok-last.last.items c.in_ok-last.ensures.items c.in_ok-last.ensures.tail in
    fits-right m.empty m.joined m.fits g.T.Item.summary g.met.T.Sum.Summary.laws _ _ _ e c.requires.fits

pub raise-requires-clause-fits : goal.raise-requires-clause-fits
raise-requires-clause-fits g t c =
    let m = g.T.Sum.Summary in
    let e = cut _ c.args.items.now.items c.split_off.new.self.items c.in_ok-last.last.items c.in_ok-last.ensures.items c.in_ok-last.ensures.tail in
    subst (λ l. m.fits (total m.empty m.joined g.T.Item.summary l)) (sym c.in_ok-pieces.ensures.packed.items_is)
    (fits-right m.empty m.joined m.fits g.T.Item.summary g.met.T.Sum.Summary.laws _ _ _ e c.requires.fits)

pub build_last-requires-else-count-le24 : goal.build_last-requires-else-count-le24
build_last-requires-else-count-le24 g t c κs within =
    let m = g.T.Sum.Summary in
    let e = c.in_ok-right.ensures.items in
    let n = ap length e ∙ length-append c.build_last.new.items.items (items_of c.in_ok-right.right.node) in
    (omega arith, (within.0, (within.1, (omega (arith, n, c.in_ok-right.ensures.count), (fits-left m.empty m.joined m.fits g.T.Item.summary g.met.T.Sum.Summary.laws _ _ _ e c.requires.fits, omega (arith, n))))))

pub join-requires-clause-fits : goal.join-requires-clause-fits
join-requires-clause-fits g t c =
    let m = g.T.Sum.Summary in
    let e = c.in_ok-right.ensures.items ∙ ap (λ l. l ++ items_of c.in_ok-right.right.node) c.in_ok-left.ensures.items ∙ append_assoc c.build_last-else-count-le24.new.items.items (items_of c.in_ok-left.left.node) (items_of c.in_ok-right.right.node) in
    fits-right m.empty m.joined m.fits g.T.Item.summary g.met.T.Sum.Summary.laws _ _ _ e c.requires.fits

pub returns-in_err-pieces-clause-steps : goal.returns-in_err-pieces-clause-steps
returns-in_err-pieces-clause-steps g t c = omega (arith, c.in_err-pieces.ensures.steps)

pub returns-in_err-pieces-clause-many : goal.returns-in_err-pieces-clause-many
returns-in_err-pieces-clause-many g t c enough = omega (arith, enough, c.in_err-pieces.ensures.steps)

pub returns-in_ok-pieces-clause-counted : goal.returns-in_ok-pieces-clause-counted
returns-in_ok-pieces-clause-counted g t c = le_trans c.in_ok-pieces.ensures.counted c.raise.ensures.counted

pub returns-in_ok-pieces-clause-steps : goal.returns-in_ok-pieces-clause-steps
returns-in_ok-pieces-clause-steps g t c = omega (arith, c.in_ok-pieces.ensures.steps, c.raise.ensures.steps)

pub returns-in_ok-pieces-clause-many : goal.returns-in_ok-pieces-clause-many
returns-in_ok-pieces-clause-many g t c enough = omega (arith, enough, c.in_ok-pieces.ensures.steps, c.raise.ensures.steps)

pub returns-in_err-right-clause-steps : goal.returns-in_err-right-clause-steps
returns-in_err-right-clause-steps g t c = omega (arith, c.in_err-right.ensures.steps)

pub returns-in_err-right-clause-many : goal.returns-in_err-right-clause-many
returns-in_err-right-clause-many g t c enough =
    let high : 24 < c.args.count = c.if-count-le24.false in
    let one = c.in_err-right.ensures.many (omega (arith, high)) in
    omega (arith, one)

pub returns-in_err-left-clause-counted : goal.returns-in_err-left-clause-counted
returns-in_err-left-clause-counted g t c = le_trans c.in_ok-right.ensures.counted c.in_err-left.ensures.counted

pub returns-in_err-left-clause-steps : goal.returns-in_err-left-clause-steps
returns-in_err-left-clause-steps g t c =
    let high : 24 < c.args.count = c.if-count-le24.false in
    let one = c.in_ok-right.ensures.many (omega (arith, high)) in
    let two = c.in_err-left.ensures.many (omega (arith, high)) in
    omega (arith, one, two)

pub returns-in_err-left-clause-many : goal.returns-in_err-left-clause-many
returns-in_err-left-clause-many g t c enough =
    let high : 24 < c.args.count = c.if-count-le24.false in
    let one = c.in_ok-right.ensures.many (omega (arith, high)) in
    let two = c.in_err-left.ensures.many (omega (arith, high)) in
    omega (arith, one, two)

pub returns-in_ok-left-clause-counted : goal.returns-in_ok-left-clause-counted
returns-in_ok-left-clause-counted g t c =
    le_trans c.in_ok-right.ensures.counted (le_trans c.in_ok-left.ensures.counted c.join.ensures.counted)

pub returns-in_ok-left-clause-steps : goal.returns-in_ok-left-clause-steps
returns-in_ok-left-clause-steps g t c =
    let high : 24 < c.args.count = c.if-count-le24.false in
    let one = c.in_ok-right.ensures.many (omega (arith, high)) in
    let two = c.in_ok-left.ensures.many (omega (arith, high)) in
    let three = c.join.ensures.steps in
    omega (arith, one, two, three)

pub returns-in_ok-left-clause-many : goal.returns-in_ok-left-clause-many
returns-in_ok-left-clause-many g t c enough =
    let high : 24 < c.args.count = c.if-count-le24.false in
    let one = c.in_ok-right.ensures.many (omega (arith, high)) in
    let two = c.in_ok-left.ensures.many (omega (arith, high)) in
    let three = c.join.ensures.steps in
    omega (arith, one, two, three)
