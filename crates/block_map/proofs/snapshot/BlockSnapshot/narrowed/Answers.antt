use Rattle.std.proofs.Common.{◌≡◌, ◌+◌, ◌-◌, ◌<◌, max, min, arith}
use Rattle.block_map.specs.inside.Zones.{zone_start}
use Rattle.block_map.proofs.CutWindows.{left-above, left-below}
use Rattle.block_map.proofs.snapshot.BlockSnapshot.narrowed.Goals as goal

pub returns-then-start-row-clause-window : goal.returns-then-start-row-clause-window
returns-then-start-row-clause-window g c =
    let b = c.args.self.now in
    let w = c.requires.window in
    let first = c.args.guess - c.min.result in
    let past : c.args.row < zone_start b c.args.guess = omega (arith, c.requires.start.row, c.if-start-row.true) in
    let is : first ≡ c.args.guess - min (zone_start b c.args.guess - c.args.row) c.args.guess = omega (arith, c.min.ensures, c.requires.start.row) in
    let most : c.max.result ≡ max c.args.window.next first = omega (arith, c.max.ensures) in
    record {
      order = omega (arith, w.order, most);
      some = omega (arith, most, is, c.requires.from);
      within = omega (arith, w.within, c.requires.upto);
      begins = w.begins;
      above = w.above;
      before = w.before;
      behind = c.if-start-row.true;
      ends = omega (arith, c.requires.start.row);
      left_out = left-below b c.args.row c.args.window.low c.args.window.next c.args.guess first c.max.result w.left_out past is most;
    }

pub returns-then-behind-window-clause-window : goal.returns-then-behind-window-clause-window
returns-then-behind-window-clause-window g c =
    let b = c.args.self.now in
    let w = c.requires.window in
    let behind = c.args.guess + (c.args.row - c.args.start.row) + 1 in
    let same : behind ≡ c.args.guess + (c.args.row - c.args.start.row) + 1 = omega arith in
    record {
      order = omega arith;
      some = omega arith;
      within = omega (arith, w.within, c.if-behind-window.true);
      begins = omega (arith, c.requires.start.row);
      above = c.requires.start.above;
      before = c.if-start-row.false;
      behind = omega arith;
      ends = left-above b c.args.row c.args.guess c.args.start.row behind c.requires.start.row c.if-start-row.false same;
      left_out = λ out. absurd (omega (arith, out));
    }
