use Rattle.view_changes.proofs.FoundRows.{by-below}
use Rattle.view_changes.proofs.own_rows.own_rows.Goals as goal

pub returns-in-None-clause-rows : goal.returns-in-None-clause-rows
returns-in-None-clause-rows c = by-below c.args.sheet.now c.args.id c.in-None.ensures.rows c.rows_on-in-None.result c.rows_on-in-None.ensures.rows
