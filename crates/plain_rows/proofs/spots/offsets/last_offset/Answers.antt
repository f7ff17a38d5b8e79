use Rattle.std.proofs.Common.{◌≡◌, ℕ, ◌-◌, ◌<◌, true, inl, inr, arith, sym, ◌∙◌}
use Rattle.std.proofs.lemmas.Bool.{and_from, and_left, and_right, cases_lt}
use Rattle.cell_units.specs.Text.{is_boundary}
use Rattle.plain_rows.specs.Spots.{is_open, show}
use Rattle.plain_rows.proofs.SpotOffsets.{at-spot, last-found, none-before, none-behind, none-from, none-from_start, offset-at}
use Rattle.plain_rows.proofs.SpotPositions.{boundary-within}
use Rattle.plain_rows.proofs.SpotSearches.{boundary-is, own-line}
use Rattle.plain_rows.proofs.spots.offsets.last_offset.Goals as goal

pub loop-end-init : goal.loop-end-init
loop-end-init g c =
    let r = g.R.SpotRows.kept c.args.rows.now in
    let parted = c.count_before-end.ensures.parts in
    record {
      none = none-behind r c.args.bias c.args.aim.now.spot c.count_before-end.result parted;
      before = parted.before;
      counted = omega arith;
    }

pub loop-end-preserved-then-not-is_boundary : goal.loop-end-preserved-then-not-is_boundary
loop-end-preserved-then-not-is_boundary g c =
    let r = g.R.SpotRows.kept c.args.rows.now in
    let o : ℕ = c.loop-end.end - 1 in
    let bias = c.args.bias in
    let inv = c.loop-end.invariant in
    record {
      none =
          none-from r bias c.args.aim.now.spot o (and_left (is_boundary r.text o) (is_open r o bias) (sym c.is_boundary.ensures.test ∙ c.if-not-is_boundary.true))
          (λ p lt. inv.none p (omega (arith, lt, c.loop-end-test.true)));
      before = λ p lt at. inv.before p (omega (arith, lt)) at;
      counted = omega (arith, inv.counted, c.is_boundary.ensures.counted);
    }

pub fold_around-requires : goal.fold_around-requires
fold_around-requires g c =
    boundary-is (g.R.SpotRows.kept c.args.rows.now) c.requires.lawful (c.loop-end.end - 1) (sym c.is_boundary.ensures.test ∙ c.if-not-is_boundary.false)

pub overflow_add-end : goal.overflow_add-end
overflow_add-end g c = omega (arith, c.in-Some.ensures.around.starts, c.loop-end.auto.end-fits)

pub loop-end-smaller-in-Some : goal.loop-end-smaller-in-Some
loop-end-smaller-in-Some g c = omega (arith, c.in-Some.ensures.around.starts, c.loop-end-test.true)

pub loop-end-preserved-in-Some : goal.loop-end-preserved-in-Some
loop-end-preserved-in-Some g c =
    let r = g.R.SpotRows.kept c.args.rows.now in
    let around = c.in-Some.ensures.around in
    let inv = c.loop-end.invariant in
    record {
      none = λ p ge.
          none-from_start r c.args.bias c.args.aim.now.spot c.in-Some.fold.start (c.loop-end.end - 1)
          (λ q lt le. around.hides q lt (omega (arith, around.ends, le))) (λ q lt. inv.none q (omega (arith, lt))) p (omega (arith, ge));
      before = λ p lt at. inv.before p (omega (arith, around.starts, lt)) at;
      counted = omega (arith, inv.counted, c.is_boundary.ensures.counted, c.in-Some.ensures.counted);
    }

pub is_open-requires-clause-boundary : goal.is_open-requires-clause-boundary
is_open-requires-clause-boundary g c =
    boundary-is (g.R.SpotRows.kept c.args.rows.now) c.requires.lawful (c.loop-end.end - 1) (sym c.is_boundary.ensures.test ∙ c.if-not-is_boundary.false)

pub returns-then-is_open-clause-last : goal.returns-then-is_open-clause-last
returns-then-is_open-clause-last g c =
    let r = g.R.SpotRows.kept c.args.rows.now in
    let o : ℕ = c.loop-end.end - 1 in
    let bias = c.args.bias in
    let aim = c.args.aim.now in
    let is = c.requires in
    let at : is_boundary r.text o ≡ true = sym c.is_boundary.ensures.test ∙ c.if-not-is_boundary.false in
    let more : c.count_before-start.result < c.loop-end.end = c.loop-end-test.true in
    let inv = c.loop-end.invariant in
    let shown = at-spot (show r o bias) aim.spot (c.count_before-start.ensures.parts.behind o (omega (arith, more)) at) (inv.before o (omega (arith, more)) at) in
    let test = c.is_open.ensures.value (own-line r is.lawful is.short aim is o bias (boundary-within r.text o at) shown) c.in_default.ensures.around in
    last-found r bias aim.spot o (offset-at r bias aim.spot o (and_from (is_boundary r.text o) (is_open r o bias) at (sym test ∙ c.if-is_open.true)) shown)
    (λ p lt. inv.none p (omega (arith, lt, more)))

pub loop-end-preserved : goal.loop-end-preserved
loop-end-preserved g c =
    let r = g.R.SpotRows.kept c.args.rows.now in
    let o : ℕ = c.loop-end.end - 1 in
    let bias = c.args.bias in
    let aim = c.args.aim.now in
    let is = c.requires in
    let at : is_boundary r.text o ≡ true = sym c.is_boundary.ensures.test ∙ c.if-not-is_boundary.false in
    let more : c.count_before-start.result < c.loop-end.end = c.loop-end-test.true in
    let inv = c.loop-end.invariant in
    let shown = at-spot (show r o bias) aim.spot (c.count_before-start.ensures.parts.behind o (omega (arith, more)) at) (inv.before o (omega (arith, more)) at) in
    let test = c.is_open.ensures.value (own-line r is.lawful is.short aim is o bias (boundary-within r.text o at) shown) c.in_default.ensures.around in
    record {
      none = none-from r bias aim.spot o (and_right (is_boundary r.text o) (is_open r o bias) (sym test ∙ c.if-is_open.false)) (λ p lt. inv.none p (omega (arith, lt, more)));
      before = λ p lt at. inv.before p (omega (arith, lt)) at;
      counted = omega (arith, inv.counted, c.is_boundary.ensures.counted, c.in_default.ensures.counted, c.is_open.ensures.counted);
    }

pub returns-clause-last : goal.returns-clause-last
returns-clause-last g c = λ o at.
    let r = g.R.SpotRows.kept c.args.rows.now in
    elim (cases_lt o c.count_before-start.result) [
      | inl lt ↦ none-before r c.args.bias c.args.aim.now.spot c.count_before-start.result c.count_before-start.ensures.parts o lt at
      | inr ge ↦ c.loop-end.invariant.none o (omega (arith, ge, c.loop-end-test.false)) at
    ]
