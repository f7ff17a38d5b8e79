use Rattle.view_changes.proofs.Histories.{as-many-here, landed-came, landed-within, by-landing}
use Rattle.view_changes.proofs.changes.landed_rows.Goals as goal

pub landed_lines-lines-requires : goal.landed_lines-lines-requires
landed_lines-lines-requires c =
    as-many-here c.args.before.now c.requires.0 c.lawful.ensures c.sheet-sheet.result.now c.args.after.now c.sheet-sheet.ensures c.requires.1

pub rows_of_lines-requires-clause-replaced : goal.rows_of_lines-requires-clause-replaced
rows_of_lines-requires-clause-replaced c =
    landed-within c.args.before.now c.requires.0 c.lawful.ensures c.sheet-sheet.result.now c.args.after.now c.sheet-sheet.ensures c.requires.1
    c.landed_lines-lines.result c.landed_lines-lines.ensures.lines

pub rows_of_lines-requires-clause-came : goal.rows_of_lines-requires-clause-came
rows_of_lines-requires-clause-came c =
    landed-came c.args.before.now c.requires.0 c.lawful.ensures c.sheet-sheet.result.now c.args.after.now c.sheet-sheet.ensures c.requires.1
    c.landed_lines-lines.result c.landed_lines-lines.ensures.lines

pub returns-clause-rows : goal.returns-clause-rows
returns-clause-rows c job after =
    by-landing c.args.before.now job c.lawful.ensures c.sheet-sheet.result.now c.args.after.now c.sheet-sheet.ensures after
    c.landed_lines-lines.result c.landed_lines-lines.ensures.lines c.rows_of_lines.result c.rows_of_lines.ensures.rows
