use Rattle.std.proofs.Common.{◌≡◌, ◌+◌, ◌-◌, ◌∙◌, ap, sym, subst, arith}
use Rattle.sum_tree.specs.Cursors.{measure_to}
use Rattle.sum_tree.specs.inside.Paths.{IsItem, items_seen}
use Rattle.sum_tree.proofs.Places.{last_of-next}
use Rattle.sum_tree.proofs.cursor.Cursor.settle.Goals as goal

pub invariant_of-self-in-Some : goal.invariant_of-self-in-Some
invariant_of-self-in-Some g c =
    let m = g.T.Sum.Summary in
    let d = g.D.Dimension in
    let all = items_seen c.self.inside.path.root in
    let n = c.in-Some.found.index in
    let item = subst (λ l. IsItem m.empty m.joined g.T.Item.summary d.measure l c.in-Some.found) (sym (ap (λ s. s.items) c.self.view_is)) (rw c.in-Some.is at c.requires) in
    let k : n ≡ n + 1 - 1 = omega arith in
    record {
      path_is = c.self.invariant.path_is;
      within = omega (arith, item.within);
      item_is = sym (last_of-next all n ∙ item.item_is);
      start_is = item.start_is ∙ ap (measure_to m.empty m.joined g.T.Item.summary d.measure all) k;
      end_is = item.end_is;
    }
