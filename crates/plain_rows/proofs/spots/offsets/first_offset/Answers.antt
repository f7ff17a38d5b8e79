use Rattle.std.proofs.Common.{◌≡◌, true, inl, inr, arith, sym, ◌∙◌}
use Rattle.std.proofs.lemmas.Bool.{and_from, and_left, and_right, cases_lt}
use Rattle.cell_units.specs.Text.{is_boundary}
use Rattle.plain_rows.specs.Spots.{is_open, show}
use Rattle.plain_rows.proofs.SpotOffsets.{at-spot, first-found, none-before, none-behind, none-upto, none-upto_end, offset-at}
use Rattle.plain_rows.proofs.SpotPositions.{boundary-within}
use Rattle.plain_rows.proofs.SpotSearches.{boundary-is, own-line}
use Rattle.plain_rows.proofs.spots.offsets.first_offset.Goals as goal

pub loop-offset-init : goal.loop-offset-init
loop-offset-init g c =
    let r = g.R.SpotRows.kept c.args.rows.now in
    let parted = c.count_before-offset.ensures.parts in
    record {
      none = none-before r c.args.bias c.args.aim.now.spot c.count_before-offset.result parted;
      after = parted.behind;
      counted = omega arith;
    }

pub loop-offset-preserved-then-not-is_boundary : goal.loop-offset-preserved-then-not-is_boundary
loop-offset-preserved-then-not-is_boundary g c =
    let r = g.R.SpotRows.kept c.args.rows.now in
    let o = c.loop-offset.offset in
    let bias = c.args.bias in
    let inv = c.loop-offset.invariant in
    record {
      none = none-upto r bias c.args.aim.now.spot o (and_left (is_boundary r.text o) (is_open r o bias) (sym c.is_boundary.ensures.test ∙ c.if-not-is_boundary.true)) inv.none;
      after = λ p ge at. inv.after p (omega (arith, ge)) at;
      counted = omega (arith, inv.counted, c.is_boundary.ensures.counted);
    }

pub fold_around-requires : goal.fold_around-requires
fold_around-requires g c =
    boundary-is (g.R.SpotRows.kept c.args.rows.now) c.requires.lawful c.loop-offset.offset (sym c.is_boundary.ensures.test ∙ c.if-not-is_boundary.false)

pub loop-offset-smaller-in-Some : goal.loop-offset-smaller-in-Some
loop-offset-smaller-in-Some g c = omega (arith, c.in-Some.ensures.around.ends, c.loop-offset-test.true)

pub loop-offset-preserved-in-Some : goal.loop-offset-preserved-in-Some
loop-offset-preserved-in-Some g c =
    let r = g.R.SpotRows.kept c.args.rows.now in
    let around = c.in-Some.ensures.around in
    let inv = c.loop-offset.invariant in
    record {
      none =
          none-upto_end r c.args.bias c.args.aim.now.spot c.loop-offset.offset c.in-Some.fold.end
          (λ p ge lt. around.hides p (omega (arith, around.starts, ge)) lt) inv.none;
      after = λ p ge at. inv.after p (omega (arith, around.ends, ge)) at;
      counted = omega (arith, inv.counted, c.is_boundary.ensures.counted, c.in-Some.ensures.counted);
    }

pub is_open-requires-clause-boundary : goal.is_open-requires-clause-boundary
is_open-requires-clause-boundary g c =
    boundary-is (g.R.SpotRows.kept c.args.rows.now) c.requires.lawful c.loop-offset.offset (sym c.is_boundary.ensures.test ∙ c.if-not-is_boundary.false)

pub returns-then-is_open-clause-first : goal.returns-then-is_open-clause-first
returns-then-is_open-clause-first g c =
    let r = g.R.SpotRows.kept c.args.rows.now in
    let o = c.loop-offset.offset in
    let bias = c.args.bias in
    let aim = c.args.aim.now in
    let is = c.requires in
    let at : is_boundary r.text o ≡ true = sym c.is_boundary.ensures.test ∙ c.if-not-is_boundary.false in
    let inv = c.loop-offset.invariant in
    let shown = at-spot (show r o bias) aim.spot (inv.after o (omega arith) at) (c.count_before-end.ensures.parts.before o c.loop-offset-test.true at) in
    let test = c.is_open.ensures.value (own-line r is.lawful is.short aim is o bias (boundary-within r.text o at) shown) c.in_default.ensures.around in
    first-found r bias aim.spot o (offset-at r bias aim.spot o (and_from (is_boundary r.text o) (is_open r o bias) at (sym test ∙ c.if-is_open.true)) shown) inv.none

pub loop-offset-preserved : goal.loop-offset-preserved
loop-offset-preserved g c =
    let r = g.R.SpotRows.kept c.args.rows.now in
    let o = c.loop-offset.offset in
    let bias = c.args.bias in
    let aim = c.args.aim.now in
    let is = c.requires in
    let at : is_boundary r.text o ≡ true = sym c.is_boundary.ensures.test ∙ c.if-not-is_boundary.false in
    let inv = c.loop-offset.invariant in
    let shown = at-spot (show r o bias) aim.spot (inv.after o (omega arith) at) (c.count_before-end.ensures.parts.before o c.loop-offset-test.true at) in
    let test = c.is_open.ensures.value (own-line r is.lawful is.short aim is o bias (boundary-within r.text o at) shown) c.in_default.ensures.around in
    record {
      none = none-upto r bias aim.spot o (and_right (is_boundary r.text o) (is_open r o bias) (sym test ∙ c.if-is_open.false)) inv.none;
      after = λ p ge at. inv.after p (omega (arith, ge)) at;
      counted = omega (arith, inv.counted, c.is_boundary.ensures.counted, c.in_default.ensures.counted, c.is_open.ensures.counted);
    }

pub returns-clause-first : goal.returns-clause-first
returns-clause-first g c = λ o at.
    let r = g.R.SpotRows.kept c.args.rows.now in
    elim (cases_lt o c.loop-offset.offset) [
      | inl lt ↦ c.loop-offset.invariant.none o lt at
      | inr ge ↦
          none-behind r c.args.bias c.args.aim.now.spot c.count_before-end.result c.count_before-end.ensures.parts o (omega (arith, ge, c.loop-offset-test.false)) at
    ]
