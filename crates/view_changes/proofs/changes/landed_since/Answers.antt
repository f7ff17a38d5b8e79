use Rattle.view_changes.proofs.Histories.{covers-landing, led-here, true-landing}
use Rattle.view_changes.proofs.changes.landed_since.Goals as goal

pub covering_of-requires-clause-first : goal.covering_of-requires-clause-first
covering_of-requires-clause-first c = led-here c.args.before.now c.sheet.result.now c.sheet.ensures c.args.since c.requires.since

pub covering_of-requires-clause-then : goal.covering_of-requires-clause-then
covering_of-requires-clause-then c =
    true-landing c.args.before.now c.requires.landed.0 c.lawful.ensures c.sheet.result.now c.args.after.now c.sheet.ensures c.requires.landed.1
    c.landed_rows-then.result (c.landed_rows-then.ensures.rows c.requires.landed.0 c.requires.landed.1)

pub returns-clause-rows : goal.returns-clause-rows
returns-clause-rows c job after =
    covers-landing c.args.before.now job c.lawful.ensures c.sheet.result.now c.args.after.now c.sheet.ensures after
    c.landed_rows-then.result (c.landed_rows-then.ensures.rows job after) c.args.since c.covering_of.result c.covering_of.ensures
