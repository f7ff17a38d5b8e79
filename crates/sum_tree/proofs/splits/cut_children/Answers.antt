use Rattle.std.proofs.Common.{◌≡◌, ◌+◌, ◌<◌, ◌≤◌, ◌∙◌, ◌++◌, ap, sym, subst, map, take, arith, length}
use Rattle.std.proofs.lemmas.List.{length-map}
use Rattle.sum_core.specs.Nodes.{child_value, entries_of, items_under}
use Rattle.sum_core.proofs.Levels.{items-seen}
use Rattle.sum_core.proofs.Children.{cut, first-out, values-append}
use Rattle.sum_tree.proofs.Pieces.{cut-at}
use Rattle.sum_tree.proofs.splits.cut_children.Goals as goal

pub find_child-found-requires-clause-within : goal.find_child-found-requires-clause-within
find_child-found-requires-clause-within g c =
    let e = items-seen (entries_of c.args.node.now) (map child_value c.in_ok-before.before.items) c.in_ok-before.ensures.opened.shows in
    subst (λ l. c.args.at ≤ length l) (e ∙ ap (λ l. items_under (map child_value l)) (sym c.deref.ensures.value)) c.requires.within

pub find_child-found-requires-clause-small : goal.find_child-found-requires-clause-small
find_child-found-requires-clause-small g c =
    let e = items-seen (entries_of c.args.node.now) (map child_value c.in_ok-before.before.items) c.in_ok-before.ensures.opened.shows in
    subst (λ l. length l < 4294967296) (e ∙ ap (λ l. items_under (map child_value l)) (sym c.deref.ensures.value)) c.requires.small

pub returns-clause-cut : goal.returns-clause-cut
returns-clause-cut g c =
    let m = g.T.Sum.Summary in
    let xs = c.in_ok-before.before.items in
    let i = c.find_child-found.result.0 in
    let B = c.split_off.new.self.items in
    let Y = c.in_ok-after.after.items in
    let A = c.remove-child.new.self.items in
    let lt : 0 < length Y = omega (arith, c.remove-child.ensures.len) in
    let e : xs ≡ B ++ Y = cut i xs B Y c.in_ok-after.ensures.items c.in_ok-after.ensures.tail in
    let f = first-out Y A _ lt c.remove-child.ensures.value c.remove-child.ensures.items in
    let n : length (map child_value B) ≡ i = length-map B child_value ∙ omega (arith, c.in_ok-after.ensures.len) in
    let same = ap (map child_value) c.deref.ensures.value in
    cut-at m.empty m.joined g.T.Item.summary c.args.height (entries_of c.args.node.now) (map child_value xs) (map child_value B) (map child_value A) (child_value c.remove-child.result) c.args.at c.find_child-found.result.1 i c.in_ok-before.ensures.opened
    (values-append xs B Y e ∙ ap (λ l. map child_value B ++ map child_value l) f) n
    (c.find_child-found.ensures.offset ∙ ap (λ l. length (items_under (take i l))) same)
    c.find_child-found.ensures.low
    (subst (λ l. c.args.at ≤ length (items_under (take (i + 1) l))) same c.find_child-found.ensures.high)
