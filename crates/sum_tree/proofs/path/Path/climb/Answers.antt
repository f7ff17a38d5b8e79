use Rattle.std.proofs.Common.{◌∙◌, ap, subst}
use Rattle.sum_tree.specs.inside.Paths.{IsPlace, items_seen, height_seen}
use Rattle.sum_tree.proofs.PlaceLists.{path-pop, path-last}
use Rattle.sum_tree.proofs.path.Path.climb.Goals as goal

pub returns-then-holds-clause-path : goal.returns-then-holds-clause-path
returns-then-holds-clause-path g c =
    let m = g.T.Sum.Summary in
    path-pop m.empty m.joined g.T.Item.summary m.fits c.loop-place.self c.pop.new.self _ c.loop-place.invariant.path c.pop.ensures.items c.pop.ensures.capacity

pub loop-place-preserved : goal.loop-place-preserved
loop-place-preserved g c =
    let m = g.T.Sum.Summary in
    record {
      path = path-pop m.empty m.joined g.T.Item.summary m.fits c.loop-place.self c.pop.new.self _ c.loop-place.invariant.path c.pop.ensures.items c.pop.ensures.capacity;
      root = c.loop-place.invariant.root;
    }

pub returns-clause-path : goal.returns-clause-path
returns-clause-path g c =
    let m = g.T.Sum.Summary in
    path-pop m.empty m.joined g.T.Item.summary m.fits c.loop-place.self c.pop.new.self _ c.loop-place.invariant.path c.pop.ensures.items c.pop.ensures.capacity

pub returns-then-holds-clause-place : goal.returns-then-holds-clause-place
returns-then-holds-clause-place g c =
    let m = g.T.Sum.Summary in
    let items = rw c.in-Some-Some.field-0-is at c.in-Some-Some.ensures.items in
    subst (λ r. IsPlace m.empty m.joined g.T.Item.summary (items_seen r) c.in-Some-Some.place) c.loop-place.invariant.root
    (path-last m.empty m.joined g.T.Item.summary m.fits c.loop-place.self c.pop.new.self.items c.in-Some-Some.place c.loop-place.invariant.path items).0

pub returns-then-holds-clause-height : goal.returns-then-holds-clause-height
returns-then-holds-clause-height g c =
    let m = g.T.Sum.Summary in
    let items = rw c.in-Some-Some.field-0-is at c.in-Some-Some.ensures.items in
    (path-last m.empty m.joined g.T.Item.summary m.fits c.loop-place.self c.pop.new.self.items c.in-Some-Some.place c.loop-place.invariant.path items).1
    ∙ ap height_seen c.loop-place.invariant.root
