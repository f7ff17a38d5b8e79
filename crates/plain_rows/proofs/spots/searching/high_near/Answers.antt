use Rattle.std.proofs.Common.{sym, ◌∙◌}
use Rattle.plain_rows.proofs.SpotPositions.{boundary-within}
use Rattle.plain_rows.proofs.SpotSearches.{behind-from, boundary-is}
use Rattle.plain_rows.proofs.spots.searching.high_near.Goals as goal

pub is_shown_before-requires-clause-boundary : goal.is_shown_before-requires-clause-boundary
is_shown_before-requires-clause-boundary g c = boundary-is (g.R.SpotRows.kept c.args.rows.now) c.requires.lawful c.in-Some.next c.in-Some.ensures.first.1

pub returns-else-is_shown_before-clause-behind : goal.returns-else-is_shown_before-clause-behind
returns-else-is_shown_before-clause-behind g c = λ o ge at.
    let r = g.R.SpotRows.kept c.args.rows.now in
    behind-from r c.requires.lawful c.args.bias c.args.aim.now.spot c.args.side c.in-Some.next o ge (boundary-within r.text o at)
    (sym c.is_shown_before.ensures.value ∙ c.if-is_shown_before.false)
