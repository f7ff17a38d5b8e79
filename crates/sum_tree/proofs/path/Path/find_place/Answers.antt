use Rattle.std.proofs.Common.{◌≡◌, ◌+◌, ◌-◌, ◌++◌, ◌∙◌, ap, sym, subst, arith, length, drop, take, map}
use Rattle.std.proofs.lemmas.List.{length-map, take_all}
use Rattle.sum_core.specs.Sums.{total}
use Rattle.sum_core.specs.Nodes.{child_value, items_in, items_under, IsLawful}
use Rattle.sum_core.proofs.Children.{children-at}
use Rattle.sum_core.proofs.Heights.{some-below}
use Rattle.sum_core.proofs.Levels.{lawful_below, inner-high, items-seen}
use Rattle.sum_tree.specs.Cursors.{measure_to}
use Rattle.sum_tree.specs.inside.Paths.{is_met, items_seen}
use Rattle.sum_tree.proofs.Descents.{child-ahead, child-end, child-within}
use Rattle.sum_tree.proofs.Prefixes.{measure-more, measure-more-fits, drop-past}
use Rattle.sum_tree.proofs.path.Path.find_place.Goals as goal

pub overflow_add-last : goal.overflow_add-last
overflow_add-last g c =
    let m = g.T.Sum.Summary in
    let all = items_seen c.args.self.now.root in
    let e = c.args.top.now.entries.now in
    let n = c.args.top.now.first in
    let i = c.loop-child.child-index in
    let k = c.child-item.result in
    let b = lawful_below m.empty m.joined g.T.Item.summary c.args.top.now.height e (map child_value c.args.children.now) c.requires.place.lawful c.requires.children in
    let here = children-at m.empty m.joined g.T.Item.summary (IsLawful m.empty m.joined g.T.Item.summary (c.args.top.now.height - 1)) 6 c.args.children.now i k c.loop-child-test.true c.child-item.is b.1 in
    omega (arith, c.requires.path.small, child-within all e c.args.children.now n c.args.top.now.count c.loop-child.first i c.child-item.result.count k c.requires.place.within c.requires.place.count_is c.requires.children c.loop-child-test.true c.child-item.is here.count_is c.loop-child.invariant.first_is)

pub plus-end-requires : goal.plus-end-requires
plus-end-requires g c =
    let m = g.T.Sum.Summary in
    let all = items_seen c.args.self.now.root in
    let e = c.args.top.now.entries.now in
    let n = c.args.top.now.first in
    let i = c.loop-child.child-index in
    let k = c.child-item.result in
    let b = lawful_below m.empty m.joined g.T.Item.summary c.args.top.now.height e (map child_value c.args.children.now) c.requires.place.lawful c.requires.children in
    let here = children-at m.empty m.joined g.T.Item.summary (IsLawful m.empty m.joined g.T.Item.summary (c.args.top.now.height - 1)) 6 c.args.children.now i k c.loop-child-test.true c.child-item.is b.1 in
    let d = g.D.Dimension in
    let rest = drop (n + c.args.top.now.count) all in
    let ahead = child-ahead all rest e c.args.children.now n c.loop-child.first i k c.requires.place.below c.requires.children c.loop-child-test.true c.child-item.is c.loop-child.invariant.first_is in
    subst (d.fits_with c.loop-child.start) (sym (c.of.ensures ∙ ap d.measure here.sum_is))
    (subst (λ v. d.fits_with v (d.measure (total m.empty m.joined g.T.Item.summary (items_in (child_value k).2)))) (sym c.loop-child.invariant.start_is)
    (measure-more-fits m.empty m.joined m.fits g.T.Item.summary g.met.T.Sum.Summary.laws d.joined_with d.fits_with d.measure g.D.Ord.cmp g.met.D.Dimension.dimension_laws all (items_in (child_value k).2) _ c.loop-child.first c.requires.path.sum_fits ahead))

pub overflow_sub-place : goal.overflow_sub-place
overflow_sub-place g c =
    let m = g.T.Sum.Summary in
    inner-high m.empty m.joined g.T.Item.summary c.args.top.now.height c.args.top.now.entries.now (map child_value c.args.children.now) c.requires.place.lawful c.requires.children

pub returns-then-is_met-clause-height : goal.returns-then-is_met-clause-height
returns-then-is_met-clause-height g c =
    let m = g.T.Sum.Summary in
    omega (arith, inner-high m.empty m.joined g.T.Item.summary c.args.top.now.height c.args.top.now.entries.now (map child_value c.args.children.now) c.requires.place.lawful c.requires.children)

pub returns-then-is_met-clause-found : goal.returns-then-is_met-clause-found
returns-then-is_met-clause-found g c =
    let m = g.T.Sum.Summary in
    let all = items_seen c.args.self.now.root in
    let e = c.args.top.now.entries.now in
    let n = c.args.top.now.first in
    let i = c.loop-child.child-index in
    let k = c.child-item.result in
    let b = lawful_below m.empty m.joined g.T.Item.summary c.args.top.now.height e (map child_value c.args.children.now) c.requires.place.lawful c.requires.children in
    let here = children-at m.empty m.joined g.T.Item.summary (IsLawful m.empty m.joined g.T.Item.summary (c.args.top.now.height - 1)) 6 c.args.children.now i k c.loop-child-test.true c.child-item.is b.1 in
    let d = g.D.Dimension in
    let rest = drop (n + c.args.top.now.count) all in
    let ahead = child-ahead all rest e c.args.children.now n c.loop-child.first i k c.requires.place.below c.requires.children c.loop-child-test.true c.child-item.is c.loop-child.invariant.first_is in
    let end : c.plus-end.result ≡ measure_to m.empty m.joined g.T.Item.summary d.measure all (c.loop-child.first + c.child-item.result.count) =
    c.plus-end.ensures
    ∙ ap (λ v. d.joined_with v c.of.result) c.loop-child.invariant.start_is
    ∙ ap (d.joined_with (measure_to m.empty m.joined g.T.Item.summary d.measure all c.loop-child.first)) (c.of.ensures ∙ ap d.measure here.sum_is)
    ∙ sym (measure-more m.empty m.joined m.fits g.T.Item.summary g.met.T.Sum.Summary.laws d.joined_with d.fits_with d.measure g.D.Ord.cmp g.met.D.Dimension.dimension_laws all (items_in (child_value k).2) _ c.loop-child.first c.requires.path.sum_fits ahead)
    ∙ ap (λ j. measure_to m.empty m.joined g.T.Item.summary d.measure all (c.loop-child.first + j)) (sym here.count_is) in
    record {
      place = record {
        lawful = subst (IsLawful m.empty m.joined g.T.Item.summary (c.args.top.now.height - 1)) (sym c.entries.ensures.value) here.below;
        below = ahead
            ∙ ap (λ l. items_in (child_value k).2 ++ l) (sym (drop-past all (items_in (child_value k).2) _ c.loop-child.first ahead))
            ∙ ap (λ j. items_in (child_value k).2 ++ drop (c.loop-child.first + j) all) (sym here.count_is)
            ∙ ap (λ f. items_in f ++ drop (c.loop-child.first + c.child-item.result.count) all) (sym c.entries.ensures.value);
        count_is = here.count_is ∙ ap (λ f. length (items_in f)) (sym c.entries.ensures.value);
        within = child-within all e c.args.children.now n c.args.top.now.count c.loop-child.first i c.child-item.result.count k c.requires.place.within c.requires.place.count_is c.requires.children c.loop-child-test.true c.child-item.is here.count_is c.loop-child.invariant.first_is;
      };
      start_is = c.loop-child.invariant.start_is;
      some = omega (arith, here.count_is, some-below m.empty m.joined g.T.Item.summary (c.args.top.now.height - 1) (child_value k).2 here.below here.wide);
      not_before = c.loop-child.invariant.not_before;
      met = ap (is_met g.D.Ord.cmp c.args.aim.now (c.loop-child.first + c.child-item.result.count)) (sym end) ∙ sym c.is_met.ensures ∙ c.if-is_met.true;
    }

pub loop-child-preserved : goal.loop-child-preserved
loop-child-preserved g c =
    let m = g.T.Sum.Summary in
    let all = items_seen c.args.self.now.root in
    let e = c.args.top.now.entries.now in
    let n = c.args.top.now.first in
    let i = c.loop-child.child-index in
    let k = c.child-item.result in
    let b = lawful_below m.empty m.joined g.T.Item.summary c.args.top.now.height e (map child_value c.args.children.now) c.requires.place.lawful c.requires.children in
    let here = children-at m.empty m.joined g.T.Item.summary (IsLawful m.empty m.joined g.T.Item.summary (c.args.top.now.height - 1)) 6 c.args.children.now i k c.loop-child-test.true c.child-item.is b.1 in
    let d = g.D.Dimension in
    let rest = drop (n + c.args.top.now.count) all in
    let ahead = child-ahead all rest e c.args.children.now n c.loop-child.first i k c.requires.place.below c.requires.children c.loop-child-test.true c.child-item.is c.loop-child.invariant.first_is in
    let end : c.plus-end.result ≡ measure_to m.empty m.joined g.T.Item.summary d.measure all (c.loop-child.first + c.child-item.result.count) =
    c.plus-end.ensures
    ∙ ap (λ v. d.joined_with v c.of.result) c.loop-child.invariant.start_is
    ∙ ap (d.joined_with (measure_to m.empty m.joined g.T.Item.summary d.measure all c.loop-child.first)) (c.of.ensures ∙ ap d.measure here.sum_is)
    ∙ sym (measure-more m.empty m.joined m.fits g.T.Item.summary g.met.T.Sum.Summary.laws d.joined_with d.fits_with d.measure g.D.Ord.cmp g.met.D.Dimension.dimension_laws all (items_in (child_value k).2) _ c.loop-child.first c.requires.path.sum_fits ahead)
    ∙ ap (λ j. measure_to m.empty m.joined g.T.Item.summary d.measure all (c.loop-child.first + j)) (sym here.count_is) in
    record {
      first_is = child-end c.args.children.now n c.loop-child.first i c.child-item.result.count k c.loop-child-test.true c.child-item.is here.count_is c.loop-child.invariant.first_is;
      start_is = end;
      counted = c.loop-child.invariant.counted;
      steps = c.loop-child.invariant.steps;
      not_before = λ _. sym c.is_met.ensures ∙ c.if-is_met.false;
    }

pub returns-clause-found : goal.returns-clause-found
returns-clause-found g c =
    let m = g.T.Sum.Summary in
    let all = items_seen c.args.self.now.root in
    let cs = map child_value c.args.children.now in
    let whole : take c.loop-child.child-index cs ≡ cs = take_all c.loop-child.child-index cs (omega (arith, length-map c.args.children.now child_value, c.loop-child-test.false)) in
    let k : c.loop-child.first ≡ c.args.top.now.first + c.args.top.now.count =
    omega (arith, c.loop-child.invariant.first_is, ap (λ l. length (items_under l)) whole, ap length (items-seen c.args.top.now.entries.now cs c.requires.children), c.requires.place.count_is) in
    λ lt. ap (is_met g.D.Ord.cmp c.args.aim.now (c.args.top.now.first + c.args.top.now.count)) (ap (measure_to m.empty m.joined g.T.Item.summary g.D.Dimension.measure all) (sym k) ∙ sym c.loop-child.invariant.start_is)
    ∙ ap (λ j. is_met g.D.Ord.cmp c.args.aim.now j c.loop-child.start) (sym k) ∙ c.loop-child.invariant.not_before (omega (arith, k, lt))
