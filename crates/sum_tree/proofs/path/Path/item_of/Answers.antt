use Rattle.std.proofs.Common.{◌≡◌, ◌+◌, ◌-◌, ◌<◌, ◌++◌, ◌∙◌, ap, sym, arith, drop, length}
use Rattle.std.specs.List.{slice_get}
use Rattle.sum_core.specs.Nodes.{contents, items_in}
use Rattle.sum_core.proofs.Levels.{contents-Leaf, items-leaf}
use Rattle.sum_tree.specs.inside.Paths.{items_seen}
use Rattle.sum_tree.proofs.Places.{slice_get-ahead}
use Rattle.sum_tree.proofs.Prefixes.{item-ahead}
use Rattle.sum_tree.proofs.path.Path.item_of.Goals as goal

pub returns : goal.returns
returns g c =
    let all = items_seen c.args.self.now.root in
    let e = c.args.top.now.entries.now in
    let n = c.args.top.now.first in
    let rest = drop (n + c.args.top.now.count) all in
    let xs = c.in-Leaf.items.items in
    let x = c.index.result.now in
    let i = c.args.index - n in
    let leaf_is : items_in e ≡ xs = items-leaf e xs (ap contents c.in-Leaf.is ∙ contents-Leaf c.in-Leaf.items) in
    let below : drop n all ≡ xs ++ rest = c.requires.place.below ∙ ap (λ l. l ++ rest) leaf_is in
    let lt : i < length xs = omega (arith, c.requires.around, c.requires.place.count_is, ap length leaf_is) in
    let k : n + i ≡ c.args.index = omega (arith, c.requires.around) in
    record {
      item = ap (slice_get all) (sym k) ∙ slice_get-ahead all (n + i) x (drop (i + 1) xs ++ rest) (item-ahead all xs rest n i x below lt c.index.ensures);
    }
