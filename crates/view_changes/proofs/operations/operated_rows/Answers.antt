use Rattle.std.proofs.Common.{sym, ap, ◌∙◌}
use Rattle.cell_units.specs.Operation.{Operation}
use Rattle.display_sheet.specs.Changes.{operation_of}
use Rattle.view_changes.specs.Operations.{rows_replaced}
use Rattle.view_changes.proofs.BlockRows.{brought-by, new-there-by, taken, taken-none}
use Rattle.view_changes.proofs.Reached.{found-came, found-within, replaces-all, replaces-found, replaces-none}
use Rattle.view_changes.proofs.operations.operated_rows.Goals as goal

pub lines_between-lines-requires-clause-start : goal.lines_between-lines-requires-clause-start
lines_between-lines-requires-clause-start c = c.in-Rows.ensures.reach.start

pub lines_between-lines-requires-clause-end : goal.lines_between-lines-requires-clause-end
lines_between-lines-requires-clause-end c = c.in-Rows.ensures.reach.end

pub rows_of_lines-requires-clause-replaced : goal.rows_of_lines-requires-clause-replaced
rows_of_lines-requires-clause-replaced c =
    found-within (operation_of c.args.op.now) c.args.before.now c.args.after.now c.lawful.ensures.lawful c.lawful-2.ensures.lawful c.requires.allowed c.requires.after c.in-Rows.start c.in-Rows.end
    c.in-Rows.ensures.reach c.lines_between-lines.result c.lines_between-lines.ensures.lines

pub rows_of_lines-requires-clause-came : goal.rows_of_lines-requires-clause-came
rows_of_lines-requires-clause-came c =
    found-came (operation_of c.args.op.now) c.args.before.now c.args.after.now c.lawful.ensures.lawful c.lawful-2.ensures.lawful c.requires.allowed c.requires.after c.in-Rows.start c.in-Rows.end
    c.in-Rows.ensures.reach c.lines_between-lines.result c.lines_between-lines.ensures.lines

pub returns-in-Rows-clause-rows : goal.returns-in-Rows-clause-rows
returns-in-Rows-clause-rows c =
    replaces-found (operation_of c.args.op.now) c.args.before.now c.args.after.now c.lawful.ensures.lawful c.lawful-2.ensures.lawful c.requires.allowed c.requires.after c.in-Rows.start c.in-Rows.end
    c.in-Rows.ensures.reach c.lines_between-lines.result c.lines_between-lines.ensures.lines c.rows_of_lines.result c.rows_of_lines.ensures.rows

pub returns-in-EachLine-clause-rows : goal.returns-in-EachLine-clause-rows
returns-in-EachLine-clause-rows c =
    replaces-all (operation_of c.args.op.now) c.args.before.now c.args.after.now c.lawful.ensures.lawful c.lawful-2.ensures.lawful c.requires.allowed c.requires.after
    c.in-EachLine.ensures.reach c.all_rows.result c.all_rows.ensures.rows

pub returns-in-NoLine-clause-rows : goal.returns-in-NoLine-clause-rows
returns-in-NoLine-clause-rows c =
    replaces-none (operation_of c.args.op.now) c.args.before.now c.args.after.now c.lawful.ensures.lawful c.lawful-2.ensures.lawful c.requires.allowed c.requires.after
    c.in-NoLine.ensures.reach.0 c.in-NoLine.ensures.reach.1

pub unreachable-requires : goal.unreachable-requires
unreachable-requires c =
    new-there-by (operation_of c.args.op.now) c.args.before.now c.args.after.now c.lawful.ensures.lawful c.lawful-2.ensures.lawful c.lawful.ensures.plain c.requires.allowed c.requires.after
    c.in-NewBlock.id c.in-NewBlock.ensures.reach c.in-None.ensures.rows

pub returns-in-Some-clause-rows : goal.returns-in-Some-clause-rows
returns-in-Some-clause-rows c =
    brought-by (operation_of c.args.op.now) c.args.before.now c.args.after.now c.lawful.ensures.lawful c.lawful-2.ensures.lawful c.lawful.ensures.plain c.requires.allowed c.requires.after
    c.in-NewBlock.id c.in-NewBlock.ensures.reach c.in-Some.from c.in-Some.count c.in-Some.ensures.rows

pub returns-in-Some-own_rows-clause-rows : goal.returns-in-Some-own_rows-clause-rows
returns-in-Some-own_rows-clause-rows c =
    let r = c.args.before.now in
    taken r c.lawful.ensures.lawful c.in-OldBlock.id c.in-Some-own_rows.from c.in-Some-own_rows.count c.in-Some-own_rows.ensures.rows
    ∙ ap (λ (o : Operation). rows_replaced o r) (sym c.in-OldBlock.ensures.reach)

pub returns-in-None-own_rows-clause-rows : goal.returns-in-None-own_rows-clause-rows
returns-in-None-own_rows-clause-rows c =
    let r = c.args.before.now in
    taken-none r c.lawful.ensures.lawful c.in-OldBlock.id c.in-None-own_rows.ensures.rows
    ∙ ap (λ (o : Operation). rows_replaced o r) (sym c.in-OldBlock.ensures.reach)
