use Rattle.std.proofs.Common.{◌≡◌, ◌∷◌, [], ap, arith, length, length-append, Some, Bool, true, false}
use Rattle.sum_tree.proofs.PlaceLists.{path-push, path-room}
use Rattle.sum_tree.proofs.path.Path.descend.Goals as goal

pub push_reserved-requires : goal.push_reserved-requires
push_reserved-requires g c =
    let m = g.T.Sum.Summary in
    (omega arith, path-room m.empty m.joined g.T.Item.summary m.fits c.loop-top.self c.loop-top.top.height c.loop-top.invariant.path c.loop-top.invariant.height)

pub push_reserved-requires-2 : goal.push_reserved-requires-2
push_reserved-requires-2 g c =
    let m = g.T.Sum.Summary in
    (omega arith, path-room m.empty m.joined g.T.Item.summary m.fits c.loop-top.self c.loop-top.top.height c.loop-top.invariant.path c.loop-top.invariant.height)

pub returns-in-None-clause-path : goal.returns-in-None-clause-path
returns-in-None-clause-path g c =
    let m = g.T.Sum.Summary in
    path-push m.empty m.joined g.T.Item.summary m.fits c.loop-top.self c.push_reserved.new.self c.loop-top.top c.loop-top.invariant.path c.loop-top.invariant.place c.loop-top.invariant.height c.push_reserved.ensures.items c.push_reserved.ensures.capacity

pub returns-clause-path : goal.returns-clause-path
returns-clause-path g c =
    let m = g.T.Sum.Summary in
    path-push m.empty m.joined g.T.Item.summary m.fits c.loop-top.self c.push_reserved-2.new.self c.loop-top.top c.loop-top.invariant.path c.loop-top.invariant.place c.loop-top.invariant.height c.push_reserved-2.ensures.items c.push_reserved-2.ensures.capacity

clash : {A : Type 0} (b : Bool) → b ≡ true → b ≡ false → A
clash b p q = cc

pub loop-top-preserved : goal.loop-top-preserved
loop-top-preserved g c =
    let m = g.T.Sum.Summary in
    let a = c.in-Some.ensures.found in
    record {
      path = path-push m.empty m.joined g.T.Item.summary m.fits c.loop-top.self c.push_reserved.new.self c.loop-top.top c.loop-top.invariant.path c.loop-top.invariant.place c.loop-top.invariant.height c.push_reserved.ensures.items c.push_reserved.ensures.capacity;
      root = c.loop-top.invariant.root;
      place = a.place;
      height = omega (arith, c.in-Some.ensures.height, c.loop-top.invariant.height, ap length c.push_reserved.ensures.items, length-append c.loop-top.self.places.items (Some c.loop-top.top ∷ []));
      start_is = a.start_is;
      not_before = a.not_before;
      ended = λ none. clash _ a.met (none (omega (arith, a.some)));
      counted = omega (arith, c.in-Some.ensures.counted);
      steps = omega (arith, c.in-Some.ensures.height, c.in-Some.ensures.steps, c.loop-top.invariant.steps);
    }
