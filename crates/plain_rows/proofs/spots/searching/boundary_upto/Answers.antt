use Rattle.std.proofs.Common.{arith, sym, ◌∙◌}
use Rattle.plain_rows.proofs.SpotSearches.{first-boundary}
use Rattle.plain_rows.proofs.spots.searching.boundary_upto.Goals as goal

pub returns-then-is_boundary-clause-last : goal.returns-then-is_boundary-clause-last
returns-then-is_boundary-clause-last g c = (
  omega (arith, c.loop-offset.invariant.order),
  sym c.is_boundary.ensures.test ∙ c.if-is_boundary.true,
  λ o past lt. c.loop-offset.invariant.none o past (omega (arith, lt)),
)

pub returns-clause-last : goal.returns-clause-last
returns-clause-last g c = (
  omega arith,
  first-boundary (g.R.SpotRows.kept c.args.rows.now) c.text_len.ensures.lawful,
  λ o past lt. c.loop-offset.invariant.none o (omega (arith, past, c.loop-offset-test.false)) (omega (arith, lt)),
)
