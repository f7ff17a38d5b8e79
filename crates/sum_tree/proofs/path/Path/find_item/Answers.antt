use Rattle.std.proofs.Common.{◌≡◌, ◌+◌, ◌++◌, ◌∙◌, ap, sym, subst, arith, length, drop}
use Rattle.sum_tree.specs.Cursors.{measure_to}
use Rattle.sum_tree.specs.inside.Paths.{is_met, items_seen}
use Rattle.sum_tree.proofs.Prefixes.{measure-item, measure-item-fits, item-ahead}
use Rattle.sum_tree.proofs.Places.{slice_get-ahead}
use Rattle.sum_tree.proofs.path.Path.find_item.Goals as goal

pub plus-end-requires : goal.plus-end-requires
plus-end-requires g c =
    let m = g.T.Sum.Summary in
    let d = g.D.Dimension in
    let all = items_seen c.args.self.now.root in
    let below : drop c.args.top.now.first all ≡ c.args.items.now ++ drop (c.args.top.now.first + c.args.top.now.count) all = c.requires.place.below ∙ ap (λ l. l ++ drop (c.args.top.now.first + c.args.top.now.count) all) c.requires.items in
    subst (d.fits_with c.loop-offset.start) (sym (c.of.ensures ∙ ap d.measure c.sum.ensures))
    (measure-item-fits m.empty m.joined m.fits g.T.Item.summary g.met.T.Sum.Summary.laws d.joined_with d.fits_with d.measure g.D.Ord.cmp g.met.D.Dimension.dimension_laws
    all c.args.items.now _ c.args.top.now.first c.loop-offset.offset c.index-items-offset.result c.loop-offset.start c.requires.path.sum_fits below c.loop-offset-test.true c.index-items-offset.is c.loop-offset.invariant.start_is)

pub returns-then-is_met : goal.returns-then-is_met
returns-then-is_met g c =
    let m = g.T.Sum.Summary in
    let d = g.D.Dimension in
    let all = items_seen c.args.self.now.root in
    let n = c.args.top.now.first in
    let i = c.loop-offset.offset in
    let rest = drop (n + c.args.top.now.count) all in
    let below : drop n all ≡ c.args.items.now ++ rest = c.requires.place.below ∙ ap (λ l. l ++ rest) c.requires.items in
    let end = measure-item m.empty m.joined m.fits g.T.Item.summary g.met.T.Sum.Summary.laws d.joined_with d.fits_with d.measure g.D.Ord.cmp g.met.D.Dimension.dimension_laws
    all c.args.items.now rest n i c.index-items-offset.result c.loop-offset.start c.requires.path.sum_fits below c.loop-offset-test.true c.index-items-offset.is c.loop-offset.invariant.start_is in
    let k : (n + i) + 1 ≡ n + (i + 1) = omega arith in
    record {
      found = record {
        item = record {
          within = omega (arith, c.requires.place.within, c.requires.place.count_is, ap length c.requires.items);
          item_is = slice_get-ahead all (n + i) c.index-items-offset.result _ (item-ahead all c.args.items.now rest n i c.index-items-offset.result below c.loop-offset-test.true c.index-items-offset.is);
          start_is = c.loop-offset.invariant.start_is;
          end_is = c.plus-end.ensures ∙ ap (d.joined_with c.loop-offset.start) (c.of.ensures ∙ ap d.measure c.sum.ensures) ∙ sym end ∙ ap (measure_to m.empty m.joined g.T.Item.summary d.measure all) (sym k);
        };
        not_before = c.loop-offset.invariant.not_before;
        met = sym c.is_met.ensures ∙ c.if-is_met.true;
      };
    }

pub loop-offset-preserved : goal.loop-offset-preserved
loop-offset-preserved g c =
    let m = g.T.Sum.Summary in
    let d = g.D.Dimension in
    let all = items_seen c.args.self.now.root in
    let n = c.args.top.now.first in
    let i = c.loop-offset.offset in
    let rest = drop (n + c.args.top.now.count) all in
    let below : drop n all ≡ c.args.items.now ++ rest = c.requires.place.below ∙ ap (λ l. l ++ rest) c.requires.items in
    let end = measure-item m.empty m.joined m.fits g.T.Item.summary g.met.T.Sum.Summary.laws d.joined_with d.fits_with d.measure g.D.Ord.cmp g.met.D.Dimension.dimension_laws
    all c.args.items.now rest n i c.index-items-offset.result c.loop-offset.start c.requires.path.sum_fits below c.loop-offset-test.true c.index-items-offset.is c.loop-offset.invariant.start_is in
    let k : (n + i) + 1 ≡ n + (i + 1) = omega arith in
    record {
      start_is = c.plus-end.ensures ∙ ap (d.joined_with c.loop-offset.start) (c.of.ensures ∙ ap d.measure c.sum.ensures) ∙ sym end;
      not_before = λ _. ap (λ j. is_met g.D.Ord.cmp c.args.aim.now j c.plus-end.result) (sym k) ∙ sym c.is_met.ensures ∙ c.if-is_met.false;
    }

pub returns : goal.returns
returns g c =
    let m = g.T.Sum.Summary in
    let d = g.D.Dimension in
    let all = items_seen c.args.self.now.root in
    let k : c.args.top.now.first + c.loop-offset.offset ≡ c.args.top.now.first + c.args.top.now.count = omega (arith, c.requires.place.count_is, ap length c.requires.items, c.loop-offset-test.false, c.loop-offset.auto.offset-end) in
    record {
      found = λ lt. ap (is_met g.D.Ord.cmp c.args.aim.now (c.args.top.now.first + c.args.top.now.count)) (ap (measure_to m.empty m.joined g.T.Item.summary d.measure all) (sym k) ∙ sym c.loop-offset.invariant.start_is)
          ∙ ap (λ j. is_met g.D.Ord.cmp c.args.aim.now j c.loop-offset.start) (sym k) ∙ c.loop-offset.invariant.not_before (omega (arith, k, lt));
    }
