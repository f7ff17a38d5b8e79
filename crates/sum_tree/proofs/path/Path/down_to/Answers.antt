use Rattle.std.proofs.Common.{◌∷◌, [], ap, arith, length, length-append, Some}
use Rattle.sum_tree.proofs.PlaceLists.{path-push, path-room}
use Rattle.sum_tree.proofs.path.Path.down_to.Goals as goal

pub push_reserved-requires : goal.push_reserved-requires
push_reserved-requires g c =
    let m = g.T.Sum.Summary in
    (omega arith, path-room m.empty m.joined g.T.Item.summary m.fits c.loop-top.self c.loop-top.top.height c.loop-top.invariant.path c.loop-top.invariant.height)

pub push_reserved-requires-2 : goal.push_reserved-requires-2
push_reserved-requires-2 g c =
    let m = g.T.Sum.Summary in
    (omega arith, path-room m.empty m.joined g.T.Item.summary m.fits c.loop-top.self c.loop-top.top.height c.loop-top.invariant.path c.loop-top.invariant.height)

pub returns-clause-path : goal.returns-clause-path
returns-clause-path g c =
    let m = g.T.Sum.Summary in
    path-push m.empty m.joined g.T.Item.summary m.fits c.loop-top.self c.push_reserved-2.new.self c.loop-top.top c.loop-top.invariant.path c.loop-top.invariant.place c.loop-top.invariant.height c.push_reserved-2.ensures.items c.push_reserved-2.ensures.capacity

pub loop-top-preserved : goal.loop-top-preserved
loop-top-preserved g c =
    let m = g.T.Sum.Summary in
    let n = c.child_with-next.ensures in
    record {
      path = path-push m.empty m.joined g.T.Item.summary m.fits c.loop-top.self c.push_reserved.new.self c.loop-top.top c.loop-top.invariant.path c.loop-top.invariant.place c.loop-top.invariant.height c.push_reserved.ensures.items c.push_reserved.ensures.capacity;
      root = c.loop-top.invariant.root;
      place = n.place;
      height = omega (arith, n.height, c.loop-top.invariant.height, ap length c.push_reserved.ensures.items, length-append c.loop-top.self.places.items (Some c.loop-top.top ∷ []));
      around = n.around;
      counted = omega (arith, n.counted);
      steps = omega (arith, n.height, n.steps, c.loop-top.invariant.steps);
    }
