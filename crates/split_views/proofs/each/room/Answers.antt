use Rattle.std.proofs.Common.{[], arith}
use Rattle.split_views.proofs.Rooms.{before-here, not-over, of-all, over-all, within-limit, within-more}
use Rattle.split_views.proofs.each.room.Goals as goal

pub loop-display-preserved : goal.loop-display-preserved
loop-display-preserved g c =
    let hs = c.args.displays.now in
    let i = c.loop-display.display-index in
    let h = c.display-item.result in
    let lt = c.loop-display-test.true in
    record {
      within = within-more hs i c.loop-display.room c.room.result c.min-room.result h lt c.display-item.is c.room.ensures
          (omega (arith, c.min-room.ensures)) (omega (arith, c.min-room.ensures)) c.loop-display.invariant.within;
      greatest = λ n few all.
          let before = c.loop-display.invariant.greatest n few (before-here hs i n all) in
          let here = not-over hs i n c.room.result h lt c.display-item.is c.room.ensures all in
          omega (arith, c.min-room.ensures, before, here);
    }

pub returns-clause-within : goal.returns-clause-within
returns-clause-within g c =
    over-all c.args.displays.now c.loop-display.display-index c.loop-display.room (omega (arith, c.loop-display-test.false)) c.loop-display.invariant.within

pub returns-clause-greatest : goal.returns-clause-greatest
returns-clause-greatest g c = λ n all.
    let hs = c.args.displays.now in
    c.loop-display.invariant.greatest n (within-limit hs n (record { opening = []; events = [] }) c.requires all)
    (of-all hs c.loop-display.display-index n (omega (arith, c.loop-display-test.false)) all)
