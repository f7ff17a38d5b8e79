use Rattle.std.proofs.Common.{sym, ◌∙◌, arith}
use Rattle.plain_rows.proofs.SpotPositions.{boundary-within}
use Rattle.plain_rows.proofs.SpotSearches.{before-upto, boundary-is}
use Rattle.plain_rows.proofs.spots.searching.low_near.Goals as goal

pub is_shown_before-requires-clause-boundary : goal.is_shown_before-requires-clause-boundary
is_shown_before-requires-clause-boundary g c = boundary-is (g.R.SpotRows.kept c.args.rows.now) c.requires.lawful c.in-Some.last c.in-Some.ensures.last.1

pub returns-then-is_shown_before-clause-before : goal.returns-then-is_shown_before-clause-before
returns-then-is_shown_before-clause-before g c = λ o lt at.
    let r = g.R.SpotRows.kept c.args.rows.now in
    let last = c.in-Some.last in
    before-upto r c.requires.lawful c.args.bias c.args.aim.now.spot c.args.side last o (omega (arith, lt)) (boundary-within r.text last c.in-Some.ensures.last.1)
    (sym c.is_shown_before.ensures.value ∙ c.if-is_shown_before.true)
