use Rattle.std.proofs.Common.{◌≡◌, ◌+◌, ◌-◌, ◌++◌, ◌∙◌, ap, sym, subst, arith, map, take, drop, get_or, length}
use Rattle.sum_core.specs.Nodes.{contents, inner, child_value, items_in, items_under, IsLawful}
use Rattle.sum_core.proofs.Children.{children-at, items-taken}
use Rattle.sum_core.proofs.Levels.{contents-Inner, items-seen, lawful_below}
use Rattle.sum_tree.specs.inside.Paths.{items_seen}
use Rattle.sum_tree.proofs.Descents.{child-ahead, child-within}
use Rattle.sum_tree.proofs.Prefixes.{drop-past}
use Rattle.sum_tree.proofs.path.Path.child_with.Goals as goal

pub find_child-found-requires-clause-children : goal.find_child-found-requires-clause-children
find_child-found-requires-clause-children g c =
    let m = g.T.Sum.Summary in
    let all = items_seen c.args.self.now.root in
    let e = c.args.top.now.entries.now in
    let n = c.args.top.now.first in
    let rest = drop (n + c.args.top.now.count) all in
    let xs = c.deref.result.now in
    let shows : contents e ≡ inner (map child_value xs) = ap contents c.in-Inner.is ∙ contents-Inner c.in-Inner.children ∙ ap (λ l. inner (map child_value l)) (sym c.deref.ensures.value) in
    (lawful_below m.empty m.joined g.T.Item.summary c.args.top.now.height e (map child_value xs) c.requires.place.lawful shows).1

pub find_child-found-requires-clause-within : goal.find_child-found-requires-clause-within
find_child-found-requires-clause-within g c =
    let m = g.T.Sum.Summary in
    let all = items_seen c.args.self.now.root in
    let e = c.args.top.now.entries.now in
    let n = c.args.top.now.first in
    let rest = drop (n + c.args.top.now.count) all in
    let xs = c.deref.result.now in
    let shows : contents e ≡ inner (map child_value xs) = ap contents c.in-Inner.is ∙ contents-Inner c.in-Inner.children ∙ ap (λ l. inner (map child_value l)) (sym c.deref.ensures.value) in
    omega (arith, c.requires.around, c.requires.place.count_is, ap length (items-seen e (map child_value xs) shows))

pub find_child-found-requires-clause-small : goal.find_child-found-requires-clause-small
find_child-found-requires-clause-small g c =
    let m = g.T.Sum.Summary in
    let all = items_seen c.args.self.now.root in
    let e = c.args.top.now.entries.now in
    let n = c.args.top.now.first in
    let rest = drop (n + c.args.top.now.count) all in
    let xs = c.deref.result.now in
    let shows : contents e ≡ inner (map child_value xs) = ap contents c.in-Inner.is ∙ contents-Inner c.in-Inner.children ∙ ap (λ l. inner (map child_value l)) (sym c.deref.ensures.value) in
    omega (arith, c.requires.path.small, c.requires.place.within, c.requires.place.count_is, ap length (items-seen e (map child_value xs) shows))

pub returns-clause-place : goal.returns-clause-place
returns-clause-place g c =
    let m = g.T.Sum.Summary in
    let all = items_seen c.args.self.now.root in
    let e = c.args.top.now.entries.now in
    let n = c.args.top.now.first in
    let rest = drop (n + c.args.top.now.count) all in
    let xs = c.deref.result.now in
    let shows : contents e ≡ inner (map child_value xs) = ap contents c.in-Inner.is ∙ contents-Inner c.in-Inner.children ∙ ap (λ l. inner (map child_value l)) (sym c.deref.ensures.value) in
    let b = lawful_below m.empty m.joined g.T.Item.summary c.args.top.now.height e (map child_value xs) c.requires.place.lawful shows in
    let i = c.find_child-found.result.0 in
    let k = c.index-child.result.now in
    let f = c.find_child-found.ensures in
    let is : k ≡ get_or xs i k = c.index-child.ensures ∙ ap (λ l. get_or l i k) (sym c.deref.ensures.value) in
    let here = children-at m.empty m.joined g.T.Item.summary (IsLawful m.empty m.joined g.T.Item.summary (c.args.top.now.height - 1)) 6 xs i k f.index is b.1 in
    let first = n + c.find_child-found.result.1 in
    let first_is : first ≡ n + length (items_under (take i (map child_value xs))) = omega (arith, f.offset) in
    let ahead = child-ahead all rest e xs n first i k c.requires.place.below shows f.index is first_is in
    record {
      lawful = subst (IsLawful m.empty m.joined g.T.Item.summary (c.args.top.now.height - 1)) (sym c.entries.ensures.value) here.below;
      below = ahead
          ∙ ap (λ l. items_in (child_value k).2 ++ l) (sym (drop-past all (items_in (child_value k).2) _ first ahead))
          ∙ ap (λ j. items_in (child_value k).2 ++ drop (first + j) all) (sym here.count_is)
          ∙ ap (λ v. items_in v ++ drop (first + c.index-child.result.now.count) all) (sym c.entries.ensures.value);
      count_is = here.count_is ∙ ap (λ v. length (items_in v)) (sym c.entries.ensures.value);
      within = child-within all e xs n c.args.top.now.count first i c.index-child.result.now.count k c.requires.place.within c.requires.place.count_is shows f.index is here.count_is first_is;
    }

pub returns-clause-around : goal.returns-clause-around
returns-clause-around g c =
    let m = g.T.Sum.Summary in
    let all = items_seen c.args.self.now.root in
    let e = c.args.top.now.entries.now in
    let n = c.args.top.now.first in
    let rest = drop (n + c.args.top.now.count) all in
    let xs = c.deref.result.now in
    let shows : contents e ≡ inner (map child_value xs) = ap contents c.in-Inner.is ∙ contents-Inner c.in-Inner.children ∙ ap (λ l. inner (map child_value l)) (sym c.deref.ensures.value) in
    let b = lawful_below m.empty m.joined g.T.Item.summary c.args.top.now.height e (map child_value xs) c.requires.place.lawful shows in
    let i = c.find_child-found.result.0 in
    let k = c.index-child.result.now in
    let f = c.find_child-found.ensures in
    let is : k ≡ get_or xs i k = c.index-child.ensures ∙ ap (λ l. get_or l i k) (sym c.deref.ensures.value) in
    let here = children-at m.empty m.joined g.T.Item.summary (IsLawful m.empty m.joined g.T.Item.summary (c.args.top.now.height - 1)) 6 xs i k f.index is b.1 in
    let first = n + c.find_child-found.result.1 in
    let first_is : first ≡ n + length (items_under (take i (map child_value xs))) = omega (arith, f.offset) in
    let taken = items-taken xs i k f.index is in
    (omega (arith, c.requires.around, f.not_at_start), omega (arith, c.requires.around, taken, f.offset, f.high, here.count_is))

pub returns-clause-height : goal.returns-clause-height
returns-clause-height g c = omega (arith, c.requires.is_inner)

pub returns-clause-counted : goal.returns-clause-counted
returns-clause-counted g c = c.entries.ensures.counted

pub returns-clause-steps : goal.returns-clause-steps
returns-clause-steps g c = omega (arith, c.entries.ensures.ticks)
