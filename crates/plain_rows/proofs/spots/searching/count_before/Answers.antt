use Rattle.std.proofs.Common.{ℕ, ◌+◌, ◌-◌, ◌/◌, ◌<◌, arith, sym, ◌∙◌}
use Rattle.plain_rows.proofs.SpotPositions.{boundary-within}
use Rattle.plain_rows.proofs.SpotSearches.{after-low, before-last, behind-from, boundary-is}
use Rattle.plain_rows.proofs.spots.searching.count_before.Goals as goal

pub is_shown_before-requires-clause-boundary : goal.is_shown_before-requires-clause-boundary
is_shown_before-requires-clause-boundary g c =
    boundary-is (g.R.SpotRows.kept c.args.rows.now) c.requires.lawful c.boundary_upto-last.result c.boundary_upto-last.ensures.last.1

pub loop-low-preserved-then-is_shown_before : goal.loop-low-preserved-then-is_shown_before
loop-low-preserved-then-is_shown_before g c =
    let r = g.R.SpotRows.kept c.args.rows.now in
    let low = c.loop-low.low in
    let high = c.loop-low.high in
    let middle : ℕ = low + (high - low) / 2 in
    let less : middle < high = omega (arith, c.loop-low-test.true) in
    record {
      order = omega (arith, less);
      within = c.loop-low.invariant.within;
      before =
          before-last r c.requires.lawful c.args.bias c.args.aim.now.spot c.args.side middle c.boundary_upto-last.result c.boundary_upto-last.ensures.last
          (sym c.is_shown_before.ensures.value ∙ c.if-is_shown_before.true);
      behind = c.loop-low.invariant.behind;
      counted = omega (arith, c.loop-low.invariant.counted, c.boundary_upto-last.ensures.counted, c.is_shown_before.ensures.counted);
    }

pub loop-low-preserved : goal.loop-low-preserved
loop-low-preserved g c =
    let r = g.R.SpotRows.kept c.args.rows.now in
    let low = c.loop-low.low in
    let high = c.loop-low.high in
    let middle : ℕ = low + (high - low) / 2 in
    let less : middle < high = omega (arith, c.loop-low-test.true) in
    let last = c.boundary_upto-last.ensures.last in
    let shown = sym c.is_shown_before.ensures.value ∙ c.if-is_shown_before.false in
    let bias = c.args.bias in
    let d = c.args.aim.now.spot in
    record {
      order = after-low r c.requires.lawful bias d c.args.side low c.boundary_upto-last.result c.loop-low.invariant.before last.1 shown;
      within = omega (arith, less, last.0, c.loop-low.invariant.within);
      before = c.loop-low.invariant.before;
      behind = λ o ge at. behind-from r c.requires.lawful bias d c.args.side c.boundary_upto-last.result o ge (boundary-within r.text o at) shown;
      counted = omega (arith, c.loop-low.invariant.counted, c.boundary_upto-last.ensures.counted, c.is_shown_before.ensures.counted);
    }
