-- The lines are those of the rows that the replacement touches.
use Rattle.display_sheet.specs.Changes.{replacement}
use Rattle.view_changes.proofs.Reached.{found-came, found-within, replaces-found}
use Rattle.view_changes.proofs.Reaching.{by-replacement}
use Rattle.view_changes.proofs.operations.spliced_rows.Goals as goal

pub rows_of_lines-requires-clause-replaced : goal.rows_of_lines-requires-clause-replaced
rows_of_lines-requires-clause-replaced c =
    let s = c.args.splice.now in
    let ok = c.requires.allowed in
    found-within (replacement s) c.args.before.now c.args.after.now c.lawful.ensures.lawful c.lawful-2.ensures.lawful ok c.requires.after s.start s.end
    (by-replacement c.args.before.now s.start s.end s.text ok) c.lines_between-lines.result c.lines_between-lines.ensures.lines

pub rows_of_lines-requires-clause-came : goal.rows_of_lines-requires-clause-came
rows_of_lines-requires-clause-came c =
    let s = c.args.splice.now in
    let ok = c.requires.allowed in
    found-came (replacement s) c.args.before.now c.args.after.now c.lawful.ensures.lawful c.lawful-2.ensures.lawful ok c.requires.after s.start s.end
    (by-replacement c.args.before.now s.start s.end s.text ok) c.lines_between-lines.result c.lines_between-lines.ensures.lines

pub returns-clause-rows : goal.returns-clause-rows
returns-clause-rows c =
    let s = c.args.splice.now in
    let ok = c.requires.allowed in
    replaces-found (replacement s) c.args.before.now c.args.after.now c.lawful.ensures.lawful c.lawful-2.ensures.lawful ok c.requires.after s.start s.end
    (by-replacement c.args.before.now s.start s.end s.text ok) c.lines_between-lines.result c.lines_between-lines.ensures.lines
    c.rows_of_lines.result c.rows_of_lines.ensures.rows
