use Rattle.std.proofs.Common.{◌≡◌, ◌+◌, ◌-◌, ◌∙◌, ap, sym, refl, get_or, arith, map, take, drop, length, le_trans}
use Rattle.std.proofs.lemmas.Option.{slice_get_read}
use Rattle.sum_core.specs.Nodes.{entries_of, child_value, items_of, items_in, items_under, IsLawful, contents}
use Rattle.sum_core.proofs.Levels.{seen, items-seen, items-leaf, lawful_below, inner-high, contents-Leaf}
use Rattle.sum_core.proofs.Children.{items-split, items-taken, children-at, taken-small}
use Rattle.sum_tree.proofs.Places.{slice_get_within_part}
use Rattle.sum_tree.proofs.find.+item_at.Goals as goal

pub find_child-found-requires-clause-children : goal.find_child-found-requires-clause-children
find_child-found-requires-clause-children g t c =
    let m = g.T.Sum.Summary in
    let is = seen c.entries.result.now (entries_of c.args.node.now) c.in-Inner.children c.deref.result.now c.entries.ensures.value c.in-Inner.is c.deref.ensures.value in
    (lawful_below m.empty m.joined g.T.Item.summary c.args.height (entries_of c.args.node.now) (map child_value c.deref.result.now) c.requires.lawful is).1

pub find_child-found-requires-clause-within : goal.find_child-found-requires-clause-within
find_child-found-requires-clause-within g t c =
    let is = seen c.entries.result.now (entries_of c.args.node.now) c.in-Inner.children c.deref.result.now c.entries.ensures.value c.in-Inner.is c.deref.ensures.value in
    omega (arith, ap length (items-seen (entries_of c.args.node.now) (map child_value c.deref.result.now) is))

pub find_child-found-requires-clause-small : goal.find_child-found-requires-clause-small
find_child-found-requires-clause-small g t c =
    let is = seen c.entries.result.now (entries_of c.args.node.now) c.in-Inner.children c.deref.result.now c.entries.ensures.value c.in-Inner.is c.deref.ensures.value in
    omega (arith, ap length (items-seen (entries_of c.args.node.now) (map child_value c.deref.result.now) is))

pub item_at-requires : goal.item_at-requires
item_at-requires g t c κs within =
    let m = g.T.Sum.Summary in
    let xs = c.deref.result.now in
    let i = c.find_child-found.result.0 in
    let k = c.index-in-Inner.result.now in
    let is : k ≡ get_or xs i k = c.index-in-Inner.ensures ∙ ap (λ l. get_or l i k) (sym c.deref.ensures.value) in
    let shows = seen c.entries.result.now (entries_of c.args.node.now) c.in-Inner.children xs c.entries.ensures.value c.in-Inner.is c.deref.ensures.value in
    let kept = (lawful_below m.empty m.joined g.T.Item.summary c.args.height (entries_of c.args.node.now) (map child_value xs) c.requires.lawful shows).1 in
    let here = children-at m.empty m.joined g.T.Item.summary (IsLawful m.empty m.joined g.T.Item.summary (c.args.height - 1)) 6 xs i k c.find_child-found.ensures.index is kept in
    let taken = items-taken xs i k c.find_child-found.ensures.index is in
    let few = taken-small (map child_value xs) (i + 1) in
    let all = ap length (items-seen (entries_of c.args.node.now) (map child_value xs) shows) in
    let f = c.find_child-found.ensures in
    let high = inner-high m.empty m.joined g.T.Item.summary c.args.height (entries_of c.args.node.now) (map child_value xs) c.requires.lawful shows in
    (omega (arith, high), (within.0, (within.1, (here.below, (omega (arith, taken, f.offset, f.not_at_start, f.high), omega (arith, taken, few, all, c.requires.small))))))

pub returns-in-Leaf-clause-item : goal.returns-in-Leaf-clause-item
returns-in-Leaf-clause-item g t c =
    let all = items-leaf (entries_of c.args.node.now) c.in-Leaf.items.items (ap contents (sym c.entries.ensures.value ∙ c.in-Leaf.is) ∙ contents-Leaf c.in-Leaf.items) in
    slice_get_read (items_of c.args.node.now) (length (items_of c.args.node.now)) c.args.at c.index.result.now refl c.requires.within
    (c.index.ensures ∙ ap (λ l. get_or l c.args.at c.index.result.now) (sym all))

pub returns-in-Inner-clause-item : goal.returns-in-Inner-clause-item
returns-in-Inner-clause-item g t c =
    let xs = c.deref.result.now in
    let i = c.find_child-found.result.0 in
    let k = c.index-in-Inner.result.now in
    let is : k ≡ get_or xs i k = c.index-in-Inner.ensures ∙ ap (λ l. get_or l i k) (sym c.deref.ensures.value) in
    let shows = seen c.entries.result.now (entries_of c.args.node.now) c.in-Inner.children xs c.entries.ensures.value c.in-Inner.is c.deref.ensures.value in
    let f = c.find_child-found.ensures in
    slice_get_within_part (items_of c.args.node.now) (items_under (take i (map child_value xs))) (items_in (child_value k).2) (items_under (drop (i + 1) (map child_value xs))) c.args.at c.find_child-found.result.1 c.item_at.result.now
    (items-seen (entries_of c.args.node.now) (map child_value xs) shows ∙ items-split xs i k f.index is)
    f.offset (omega (arith, f.not_at_start)) c.item_at.ensures.item

pub returns-in-Inner-clause-counted : goal.returns-in-Inner-clause-counted
returns-in-Inner-clause-counted g t c = le_trans c.entries.ensures.counted c.item_at.ensures.counted

pub returns-in-Inner-clause-steps : goal.returns-in-Inner-clause-steps
returns-in-Inner-clause-steps g t c =
    let m = g.T.Sum.Summary in
    let is = seen c.entries.result.now (entries_of c.args.node.now) c.in-Inner.children c.deref.result.now c.entries.ensures.value c.in-Inner.is c.deref.ensures.value in
    let high = inner-high m.empty m.joined g.T.Item.summary c.args.height (entries_of c.args.node.now) (map child_value c.deref.result.now) c.requires.lawful is in
    omega (arith, high, c.entries.ensures.ticks, c.item_at.ensures.steps)

pub returns-in-Inner-clause-opened : goal.returns-in-Inner-clause-opened
returns-in-Inner-clause-opened g t c =
    let m = g.T.Sum.Summary in
    let is = seen c.entries.result.now (entries_of c.args.node.now) c.in-Inner.children c.deref.result.now c.entries.ensures.value c.in-Inner.is c.deref.ensures.value in
    let high = inner-high m.empty m.joined g.T.Item.summary c.args.height (entries_of c.args.node.now) (map child_value c.deref.result.now) c.requires.lawful is in
    omega (arith, high, c.entries.ensures.ticks, c.item_at.ensures.opened)
