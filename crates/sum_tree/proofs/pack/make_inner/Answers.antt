use Rattle.std.proofs.Common.{◌≡◌, ◌∙◌, ap, sym, map, arith, length}
use Rattle.std.proofs.lemmas.List.{length-map}
use Rattle.sum_core.specs.Sums.{total}
use Rattle.sum_core.specs.Nodes.{entries_of, child_value, inner, contents, items_under, width, items_in}
use Rattle.sum_core.proofs.Levels.{contents-Inner, items-seen, lawful_above}
use Rattle.sum_tree.proofs.pack.make_inner.Goals as goal

pub returns-in-Ok-clause-kept : goal.returns-in-Ok-clause-kept
returns-in-Ok-clause-kept g c =
    let m = g.T.Sum.Summary in
    let e = entries_of c.in-Ok.node in
    let cs = map child_value c.args.children.items in
    let is : contents e ≡ inner cs = ap contents c.in-Ok.ensures.ok ∙ contents-Inner c.args.children in
    let n : length cs ≡ length c.args.children.items = length-map c.args.children.items child_value in
    let all : items_in e ≡ items_under cs = items-seen e cs is in
    let children = ap (λ l. items_under (map child_value l)) c.deref.ensures.value in
    record {
      below = lawful_above m.empty m.joined g.T.Item.summary c.args.height e cs c.requires.is_inner is (omega (arith, n, c.requires.room)) c.requires.children;
      wide = omega (arith, ap width is, n);
      sum_is = c.sum_children-summed.ensures.sum ∙ ap (total m.empty m.joined g.T.Item.summary) (children ∙ sym all);
      count_is = c.sum_children-summed.ensures.count ∙ ap length (children ∙ sym all);
    }

pub returns-in-Ok-clause-items : goal.returns-in-Ok-clause-items
returns-in-Ok-clause-items g c =
    items-seen (entries_of c.in-Ok.node) (map child_value c.args.children.items) (ap contents c.in-Ok.ensures.ok ∙ contents-Inner c.args.children)

pub returns-in-Ok-clause-steps : goal.returns-in-Ok-clause-steps
returns-in-Ok-clause-steps g c = omega (arith, c.in-Ok.ensures.ticks)
