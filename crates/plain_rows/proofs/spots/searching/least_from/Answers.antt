use Rattle.plain_rows.proofs.SpotSearches.{boundary-is, least-by, no-least}
use Rattle.plain_rows.proofs.spots.searching.least_from.Goals as goal

pub shown_at-requires-clause-boundary : goal.shown_at-requires-clause-boundary
shown_at-requires-clause-boundary g c = boundary-is (g.R.SpotRows.kept c.args.rows.now) c.requires.lawful c.in-Some.offset c.in-Some.ensures.first.1

pub returns-in_ok-shown_at-in-Some-clause-spot : goal.returns-in_ok-shown_at-in-Some-clause-spot
returns-in_ok-shown_at-in-Some-clause-spot g c =
    least-by (g.R.SpotRows.kept c.args.rows.now) c.requires.lawful c.args.bias c.args.aim.now.spot c.count_before-count.result c.in-Some.offset c.in_ok-shown_at-in-Some.field-0
    c.count_before-count.ensures.parts c.in-Some.ensures.first c.in_ok-shown_at-in-Some.ensures.spot

pub returns-in-None-clause-spot : goal.returns-in-None-clause-spot
returns-in-None-clause-spot g c =
    no-least (g.R.SpotRows.kept c.args.rows.now) c.requires.lawful c.args.bias c.args.aim.now.spot c.count_before-count.result c.count_before-count.ensures.parts c.in-None.ensures.first
