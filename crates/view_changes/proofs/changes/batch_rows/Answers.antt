use Rattle.std.proofs.Common.{◌≡◌, ℕ, List, drop, length, sym, ap, ◌∙◌, arith}
use Rattle.display_sheet.specs.Shown.{unstamped}
use Rattle.display_map.specs.Events.{Event}
use Rattle.display_map.specs.Replay.{replayed, state_of}
use Rattle.display_map.specs.Splicing.{did_events}
use Rattle.view_changes.specs.Events.{covered}
use Rattle.view_changes.proofs.Batches.{covers-next, none-covered, none-done, now-after, now-allowed, now-next, passed, short-now, led-first, true-then}
use Rattle.view_changes.proofs.Histories.{fits-after}
use Rattle.view_changes.proofs.changes.batch_rows.Goals as goal

pub splices-init : goal.splices-init
splices-init c =
    let h = c.args.before.now in
    let splices = c.args.splices.now in
    record {
      state = none-done (state_of h) splices (length splices) (omega arith) c.in_ok-now.now (c.in_ok-now.ensures ∙ c.sheet.ensures);
      covers = none-covered c.args.since (state_of h) splices (length splices) (omega arith);
      counted = omega arith;
    }

pub replaced-requires-clause-allowed : goal.replaced-requires-clause-allowed
replaced-requires-clause-allowed c =
    let h = c.args.before.now in
    now-allowed (state_of h) c.lawful.ensures.lawful c.lawful.ensures.short c.args.splices.now c.requires.accepted (fits-after h (did_events c.args.splices.now) c.requires.lawful)
    c.splices.i c.index-splices-i.result (omega arith) (omega arith) c.index-splices-i.is (sym c.is_operation.ensures.operation ∙ c.if-is_operation.true)
    c.splices.now c.splices.invariant.state

pub replaced-requires-clause-fits : goal.replaced-requires-clause-fits
replaced-requires-clause-fits c =
    let h = c.args.before.now in
    short-now (state_of h) c.lawful.ensures.lawful c.lawful.ensures.short c.args.splices.now c.requires.accepted (fits-after h (did_events c.args.splices.now) c.requires.lawful)
    c.splices.i c.index-splices-i.result (omega arith) (omega arith) c.index-splices-i.is (sym c.is_operation.ensures.operation ∙ c.if-is_operation.true)
    c.splices.now c.splices.invariant.state

pub spliced_rows-then-requires-clause-allowed : goal.spliced_rows-then-requires-clause-allowed
spliced_rows-then-requires-clause-allowed c =
    let h = c.args.before.now in
    now-allowed (state_of h) c.lawful.ensures.lawful c.lawful.ensures.short c.args.splices.now c.requires.accepted (fits-after h (did_events c.args.splices.now) c.requires.lawful)
    c.splices.i c.index-splices-i.result (omega arith) (omega arith) c.index-splices-i.is (sym c.is_operation.ensures.operation ∙ c.if-is_operation.true)
    c.splices.now c.splices.invariant.state

pub spliced_rows-then-requires-clause-after : goal.spliced_rows-then-requires-clause-after
spliced_rows-then-requires-clause-after c =
    let h = c.args.before.now in
    now-after (state_of h) c.lawful.ensures.lawful c.lawful.ensures.short c.args.splices.now c.requires.accepted (fits-after h (did_events c.args.splices.now) c.requires.lawful)
    c.splices.i c.index-splices-i.result (omega arith) (omega arith) c.index-splices-i.is (sym c.is_operation.ensures.operation ∙ c.if-is_operation.true)
    c.splices.now c.in_ok-after.after c.splices.invariant.state c.lawful-then-is_operation.ensures.plain c.in_ok-after._lines c.in_ok-after.ensures.done

pub covering_of-rows-requires-clause-first : goal.covering_of-rows-requires-clause-first
covering_of-rows-requires-clause-first c =
    let h = c.args.before.now in
    led-first (state_of h) c.lawful.ensures.lawful c.lawful.ensures.short c.args.splices.now c.requires.accepted (fits-after h (did_events c.args.splices.now) c.requires.lawful)
    c.splices.i c.index-splices-i.result (omega arith) (omega arith) c.index-splices-i.is (sym c.is_operation.ensures.operation ∙ c.if-is_operation.true)
    c.splices.now c.in_ok-after.after c.splices.invariant.state c.lawful-then-is_operation.ensures.plain c.in_ok-after._lines c.in_ok-after.ensures.done
    c.args.since c.splices.rows c.spliced_rows-then.result c.splices.invariant.covers c.lawful-then-is_operation.ensures.lawful c.spliced_rows-then.ensures.rows c.requires.since

pub covering_of-rows-requires-clause-then : goal.covering_of-rows-requires-clause-then
covering_of-rows-requires-clause-then c =
    let h = c.args.before.now in
    true-then (state_of h) c.lawful.ensures.lawful c.lawful.ensures.short c.args.splices.now c.requires.accepted (fits-after h (did_events c.args.splices.now) c.requires.lawful)
    c.splices.i c.index-splices-i.result (omega arith) (omega arith) c.index-splices-i.is (sym c.is_operation.ensures.operation ∙ c.if-is_operation.true)
    c.splices.now c.in_ok-after.after c.splices.invariant.state c.lawful-then-is_operation.ensures.plain c.in_ok-after._lines c.in_ok-after.ensures.done
    c.args.since c.splices.rows c.spliced_rows-then.result c.splices.invariant.covers c.lawful-then-is_operation.ensures.lawful c.spliced_rows-then.ensures.rows

pub splices-preserved-then-is_operation : goal.splices-preserved-then-is_operation
splices-preserved-then-is_operation c =
    let h = c.args.before.now in
    record {
      state = now-next (state_of h) c.lawful.ensures.lawful c.lawful.ensures.short c.args.splices.now c.requires.accepted (fits-after h (did_events c.args.splices.now) c.requires.lawful)
          c.splices.i c.index-splices-i.result (omega arith) (omega arith) c.index-splices-i.is (sym c.is_operation.ensures.operation ∙ c.if-is_operation.true)
          c.splices.now c.in_ok-after.after c.splices.invariant.state c.lawful-then-is_operation.ensures.plain c.in_ok-after._lines c.in_ok-after.ensures.done;
      covers =
          c.covering_of-rows.ensures
          ∙ covers-next (state_of h) c.lawful.ensures.lawful c.lawful.ensures.short c.args.splices.now c.requires.accepted (fits-after h (did_events c.args.splices.now) c.requires.lawful)
          c.splices.i c.index-splices-i.result (omega arith) (omega arith) c.index-splices-i.is (sym c.is_operation.ensures.operation ∙ c.if-is_operation.true)
          c.splices.now c.in_ok-after.after c.splices.invariant.state c.lawful-then-is_operation.ensures.plain c.in_ok-after._lines c.in_ok-after.ensures.done
          c.args.since c.splices.rows c.spliced_rows-then.result c.splices.invariant.covers c.lawful-then-is_operation.ensures.lawful c.spliced_rows-then.ensures.rows;
      counted = omega (arith, c.splices.invariant.counted, c.in_ok-after.ensures.counted, c.spliced_rows-then.ensures.counted);
    }

pub splices-preserved : goal.splices-preserved
splices-preserved c =
    let h = c.args.before.now in
    let same = passed (state_of h) c.lawful.ensures.lawful c.lawful.ensures.short c.args.splices.now c.requires.accepted (fits-after h (did_events c.args.splices.now) c.requires.lawful)
    c.splices.i c.index-splices-i.result (omega arith) (omega arith) c.index-splices-i.is (sym c.is_operation.ensures.operation ∙ c.if-is_operation.false) in
    record {
      state = c.splices.invariant.state ∙ ap (λ (events : List Event). unstamped (replayed (state_of h) events).present) same;
      covers = c.splices.invariant.covers ∙ ap (λ (events : List Event). covered c.args.since events (state_of h)) same;
      counted = c.splices.invariant.counted;
    }

pub returns-clause-rows : goal.returns-clause-rows
returns-clause-rows c =
    let none : c.splices.i ≡ 0 = omega (arith, c.splices-test.false) in
    c.splices.invariant.covers ∙ ap (λ (n : ℕ). covered c.args.since (did_events (drop n c.args.splices.now)) (state_of c.args.before.now)) none
