use Rattle.std.proofs.Common.{◌≡◌, ◌*◌, ◌^◌, ◌+◌, ◌-◌, ◌<◌, ◌∙◌, ap, sym, subst, arith, length, le-add_right}
use Rattle.sum_tree.specs.Cursors.{last_of, measure_to}
use Rattle.sum_tree.specs.inside.Paths.{items_seen}
use Rattle.sum_tree.proofs.PlaceLists.{seen-at}
use Rattle.sum_tree.proofs.Places.{last_of-next}
use Rattle.sum_tree.proofs.Prefixes.{measure-next, measure-next-fits}
use Rattle.sum_tree.proofs.cursor.Cursor.next.Goals as goal

pub returns-then-index-count-clause-steps : goal.returns-then-index-count-clause-steps
returns-then-index-count-clause-steps g c h few =
    let m = g.T.Sum.Summary in
    let few' : length (items_seen c.self.inside.path.root) < 2 * 6 ^ (h + 1) = omega (arith, few, ap (λ s. length s.items) c.self.view_is) in
    omega (arith, c.go_to-item.ensures.steps, seen-at m.empty m.joined g.T.Item.summary c.self.inside.path.root h c.self.invariant.path_is.tree few')

pub plus-self-inside-requires : goal.plus-self-inside-requires
plus-self-inside-requires g c =
    let m = g.T.Sum.Summary in
    let d = g.D.Dimension in
    subst (d.fits_with c.self.inside.end) (sym (c.of.ensures ∙ ap d.measure c.sum.ensures))
    (measure-next-fits m.empty m.joined m.fits g.T.Item.summary g.met.T.Sum.Summary.laws d.joined_with d.fits_with d.measure g.D.Ord.cmp g.met.D.Dimension.dimension_laws
    (items_seen c.self.inside.path.root) c.self.inside.place c.go_to-item.result.now c.self.inside.end c.self.invariant.path_is.sum_fits c.go_to-item.ensures.item c.self.invariant.end_is)

pub invariant_of-self : goal.invariant_of-self
invariant_of-self g c =
    let m = g.T.Sum.Summary in
    let d = g.D.Dimension in
    let all = items_seen c.self.inside.path.root in
    let n = c.self.inside.place in
    let next = measure-next m.empty m.joined m.fits g.T.Item.summary g.met.T.Sum.Summary.laws d.joined_with d.fits_with d.measure g.D.Ord.cmp g.met.D.Dimension.dimension_laws
    all n c.go_to-item.result.now c.self.inside.end c.self.invariant.path_is.sum_fits c.go_to-item.ensures.item c.self.invariant.end_is in
    let k : n ≡ n + 1 - 1 = omega arith in
    let same : all ≡ items_seen c.go_to-item.new.self.root = ap items_seen (sym c.go_to-item.ensures.root) in
    record {
      path_is = c.go_to-item.ensures.path;
      within = omega (arith, ap length same);
      item_is = sym (ap (λ l. last_of l (n + 1)) (sym same) ∙ last_of-next all n ∙ c.go_to-item.ensures.item);
      start_is = c.self.invariant.end_is ∙ ap (measure_to m.empty m.joined g.T.Item.summary d.measure all) k ∙ ap (λ l. measure_to m.empty m.joined g.T.Item.summary d.measure l (n + 1 - 1)) same;
      end_is = c.plus-self-inside.ensures ∙ ap (d.joined_with c.self.inside.end) (c.of.ensures ∙ ap d.measure c.sum.ensures) ∙ sym next ∙ ap (λ l. measure_to m.empty m.joined g.T.Item.summary d.measure l (n + 1)) same;
    }

pub returns-then-index-count-clause-counted : goal.returns-then-index-count-clause-counted
returns-then-index-count-clause-counted g c = c.go_to-item.ensures.counted

pub returns-else-index-count-clause-steps : goal.returns-else-index-count-clause-steps
returns-else-index-count-clause-steps g c h few = le-add_right _ _
