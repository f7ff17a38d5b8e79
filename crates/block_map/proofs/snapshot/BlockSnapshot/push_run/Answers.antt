use Rattle.std.proofs.Common.{◌≡◌, ◌∙◌, ℕ, suc, ◌+◌, ◌-◌, ◌≤◌, List, ◌++◌, drop, length, take, ap, arith}
use Rattle.plain_rows.specs.Rows.{Row}
use Rattle.block_map.specs.Between.{rows_between}
use Rattle.plain_rows.specs.ShownRows.{shown_rows}
use Rattle.block_map.specs.Stops.{texts_at}
use Rattle.block_map.proofs.RowRuns.{above-window, below-window, on-err}
use Rattle.block_map.proofs.RowsInZones.{in-zone}
use Rattle.block_map.proofs.StepSums.{run-steps}
use Rattle.block_map.proofs.ZoneStarts.{length-zone}
use Rattle.block_map.proofs.snapshot.BlockSnapshot.push_run.Goals as goal

pub returns-in_err-push_above-clause-steps_err : goal.returns-in_err-push_above-clause-steps_err
returns-in_err-push_above-clause-steps_err g c =
    on-err c.from_residual.result _ (λ h few.
    let n = c.min-to.result - c.place_of-place.result.at in
    run-steps h n (c.args.end - c.args.row) c.args.steps.now c.place_of-place.new.steps c.rows_above-above.new.steps c.push_above.new.steps
    (omega (arith, c.min-to.ensures, c.if-place-above.true, c.requires.some)) (omega (arith, c.min-to.ensures))
    (c.place_of-place.ensures.steps h few) (c.rows_above-above.ensures.steps h few) (omega (arith, c.push_above.ensures.steps h few)))

pub returns-then-place-above-clause-rows : goal.returns-then-place-above-clause-rows
returns-then-place-above-clause-rows g c =
    let b = c.args.self.now in
    let t = c.place_of-place.result.text_row in
    let at = c.place_of-place.result.at in
    let n = c.min-to.result - at in
    let count : n ≡ c.args.row + n - c.args.row = omega arith in
    c.in_ok-push_above.ensures.rows
    ∙ ap (λ (l : List Row). shown_rows c.args.shown.now.items ++ l)
    (above-window b c.text_rows-count.ensures.lawful c.args.row t at c.place_of-place.ensures.zone n (omega (arith, c.min-to.ensures, c.rows_above-above.ensures.count, c.if-place-above.true))
    ∙ ap (λ (k : ℕ). take k (drop c.args.row (rows_between b))) count)

pub push_below-requires-clause-order : goal.push_below-requires-clause-order
push_below-requires-clause-order g c =
    omega (
      arith,
      c.min-to-then-place-above-2.ensures,
      in-zone c.args.self.now c.text_rows-count.ensures.lawful c.args.row c.place_of-place.result.text_row c.place_of-place.result.at c.place_of-place.ensures.zone,
      length-zone c.args.self.now c.place_of-place.result.text_row,
      c.rows_above-above.ensures.count,
      c.rows_below.ensures.count,
      c.if-place-above-2.true,
    )

pub returns-in_err-push_below-clause-steps_err : goal.returns-in_err-push_below-clause-steps_err
returns-in_err-push_below-clause-steps_err g c =
    on-err c.from_residual-in_err-push_below.result _ (λ h few.
    let from = c.place_of-place.result.at - c.rows_above-above.result - 1 in
    let n = c.min-to-then-place-above-2.result - from in
    let within = in-zone c.args.self.now c.text_rows-count.ensures.lawful c.args.row c.place_of-place.result.text_row c.place_of-place.result.at c.place_of-place.ensures.zone in
    let size = length-zone c.args.self.now c.place_of-place.result.text_row in
    run-steps h n (c.args.end - c.args.row) c.args.steps.now c.place_of-place.new.steps c.rows_above-above.new.steps c.push_below.new.steps
    (omega (arith, c.min-to-then-place-above-2.ensures, c.if-place-above-2.true, c.requires.some, within, size, c.rows_above-above.ensures.count, c.rows_below.ensures.count)) (omega (arith, c.min-to-then-place-above-2.ensures))
    (c.place_of-place.ensures.steps h few) (c.rows_above-above.ensures.steps h few)
    (omega (arith, c.rows_below.ensures.steps h few, c.push_below.ensures.steps h few)))

pub overflow_sub-result-then-place-above-2 : goal.overflow_sub-result-then-place-above-2
overflow_sub-result-then-place-above-2 g c =
    omega (
      arith,
      c.min-to-then-place-above-2.ensures,
      in-zone c.args.self.now c.text_rows-count.ensures.lawful c.args.row c.place_of-place.result.text_row c.place_of-place.result.at c.place_of-place.ensures.zone,
      length-zone c.args.self.now c.place_of-place.result.text_row,
      c.rows_above-above.ensures.count,
      c.rows_below.ensures.count,
      c.if-place-above-2.true,
    )

pub returns-then-place-above-2-clause-some : goal.returns-then-place-above-2-clause-some
returns-then-place-above-2-clause-some g c =
    let within = in-zone c.args.self.now c.text_rows-count.ensures.lawful c.args.row c.place_of-place.result.text_row c.place_of-place.result.at c.place_of-place.ensures.zone in
    let size = length-zone c.args.self.now c.place_of-place.result.text_row in (
      omega (arith, c.min-to-then-place-above-2.ensures, c.if-place-above-2.true, c.requires.some, within, size, c.rows_above-above.ensures.count, c.rows_below.ensures.count),
      omega (arith, c.min-to-then-place-above-2.ensures, c.requires.some),
    )

pub returns-then-place-above-2-clause-rows : goal.returns-then-place-above-2-clause-rows
returns-then-place-above-2-clause-rows g c =
    let b = c.args.self.now in
    let t = c.place_of-place.result.text_row in
    let at = c.place_of-place.result.at in
    let from = at - c.rows_above-above.result - 1 in
    let n = c.min-to-then-place-above-2.result - from in
    let index : at ≡ length (texts_at t b.above) + suc from = omega (arith, c.rows_above-above.ensures.count, c.if-place-above-2.true) in
    let count : n ≡ c.args.row + n - c.args.row = omega arith in
    let within = in-zone b c.text_rows-count.ensures.lawful c.args.row t at c.place_of-place.ensures.zone in
    let few : from + n ≤ length (texts_at (t + 1) b.below) =
    omega (arith, c.min-to-then-place-above-2.ensures, within, length-zone b t, c.rows_above-above.ensures.count, c.rows_below.ensures.count, c.if-place-above-2.true) in
    c.in_ok-push_below.ensures.rows
    ∙ ap (λ (l : List Row). shown_rows c.args.shown.now.items ++ l)
    (below-window b c.text_rows-count.ensures.lawful c.args.row t at c.place_of-place.ensures.zone from n index few
    ∙ ap (λ (k : ℕ). take k (drop c.args.row (rows_between b))) count)

pub returns-then-place-above-2-clause-steps : goal.returns-then-place-above-2-clause-steps
returns-then-place-above-2-clause-steps g c h few =
    let from = c.place_of-place.result.at - c.rows_above-above.result - 1 in
    let n = c.min-to-then-place-above-2.result - from in
    let within = in-zone c.args.self.now c.text_rows-count.ensures.lawful c.args.row c.place_of-place.result.text_row c.place_of-place.result.at c.place_of-place.ensures.zone in
    let size = length-zone c.args.self.now c.place_of-place.result.text_row in
    run-steps h n (c.args.row + n - c.args.row) c.args.steps.now c.place_of-place.new.steps c.rows_above-above.new.steps c.push_below.new.steps
    (omega (arith, c.min-to-then-place-above-2.ensures, c.if-place-above-2.true, c.requires.some, within, size, c.rows_above-above.ensures.count, c.rows_below.ensures.count)) (omega arith)
    (c.place_of-place.ensures.steps h few) (c.rows_above-above.ensures.steps h few)
    (omega (arith, c.rows_below.ensures.steps h few, c.push_below.ensures.steps h few))

pub returns-in_err-push_lines-clause-steps_err : goal.returns-in_err-push_lines-clause-steps_err
returns-in_err-push_lines-clause-steps_err g c =
    on-err c.from_residual-in_err-push_lines.result _ (λ h few.
    run-steps h 1 (c.args.end - c.args.row) c.args.steps.now c.place_of-place.new.steps c.rows_above-above.new.steps c.clear_to-clear.new.steps
    (omega arith) (omega (arith, c.requires.some))
    (c.place_of-place.ensures.steps h few) (c.rows_above-above.ensures.steps h few) (omega (arith, c.clear_to-clear.ensures.steps h few)))
