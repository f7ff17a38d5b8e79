use Rattle.std.proofs.Common.{◌+◌, ◌-◌, ◌*◌, arith}
use Rattle.std.proofs.lemmas.Bool.{false≢true}
use Rattle.block_map.proofs.CutWindows.{found-zone, halved, whole-window}
use Rattle.block_map.proofs.RowsInZones.{steps-more}
use Rattle.block_map.proofs.ZoneStarts.{upto-before_next}
use Rattle.block_map.proofs.snapshot.BlockSnapshot.place_of.Goals as goal

pub seek-init : goal.seek-init
seek-init g c = record {
  window = whole-window c.args.self.now c.text_rows.ensures.lawful c.args.row c.text_rows.result c.row_count.result c.requires c.text_rows.ensures.count c.row_count.ensures;
  opened = omega (arith, c.saturating_mul-room.ensures, c.text_rows.type_inv);
  left = 32;
  few = omega arith;
  room = omega (arith, c.saturating_mul-room.type_inv);
  counted = omega arith;
  steps = λ h few. omega arith;
}

pub seek-preserved : goal.seek-preserved
seek-preserved g c =
    let left = c.seek.invariant.left in
    let next = halved c.seek.room left (omega (arith, c.seek-test.true, c.seek.invariant.opened)) c.seek.invariant.room in
    record {
      window = c.narrowed-window.ensures.window;
      opened = omega (arith, c.narrowed-window.ensures.cut, c.guess-guess.ensures.open_before, c.guess-guess.ensures.open_behind);
      left = left - 1;
      few = omega (arith, c.seek.invariant.few);
      room = next.1;
      counted = omega (arith, c.seek.invariant.counted, c.zone_start-start.ensures.counted);
      steps = λ h few. steps-more (2 * (h + 1)) (32 - left) (32 - (left - 1)) c.args.steps.now c.seek.steps c.zone_start-start.new.steps (omega (arith, next.0, c.seek.invariant.few)) (c.seek.invariant.steps h few) (c.zone_start-start.ensures.steps h few);
    }

pub returns-clause-zone : goal.returns-clause-zone
returns-clause-zone g c = found-zone c.args.self.now c.args.row c.seek.window c.seek.invariant.window c.seek-test.false

pub returns-clause-place : goal.returns-clause-place
returns-clause-place g c =
    let b = c.args.self.now in
    let w = c.seek.invariant.window in
    record {
      there = (found-zone b c.args.row c.seek.window w c.seek-test.false).there;
      above = w.above;
      below = omega (arith, w.begins, w.above, upto-before_next c.seek.window.low b.below);
      plain = λ plain. absurd (false≢true plain);
    }

pub returns-in-Some-clause-place : goal.returns-in-Some-clause-place
returns-in-Some-clause-place g c =
    (c.in-Some.ensures.place c.args.self.now c.guess-guess.result c.zone_start-start.ensures.start c.text_rows.ensures.lawful c.requires).1

pub returns-in-Some-clause-steps : goal.returns-in-Some-clause-steps
returns-in-Some-clause-steps g c h few =
    let left = c.seek.invariant.left in
    let next = halved c.seek.room left (omega (arith, c.seek-test.true, c.seek.invariant.opened)) c.seek.invariant.room in
    omega (
      arith,
      steps-more (2 * (h + 1)) (32 - left) 32 c.args.steps.now c.seek.steps c.zone_start-start.new.steps (omega (arith, next.0, c.seek.invariant.few)) (c.seek.invariant.steps h few) (c.zone_start-start.ensures.steps h few),
    )
