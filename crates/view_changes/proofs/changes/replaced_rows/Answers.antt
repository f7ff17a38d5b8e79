use Rattle.std.proofs.Common.{sym, ◌∙◌}
use Rattle.view_changes.proofs.Histories.{led-here, splice-after, splice-allowed, splice-covers, splice-none, splice-true}
use Rattle.view_changes.proofs.changes.replaced_rows.Goals as goal

pub spliced_rows-then-requires-clause-allowed : goal.spliced_rows-then-requires-clause-allowed
spliced_rows-then-requires-clause-allowed c =
    splice-allowed c.args.before.now c.args.splice.now c.lawful.ensures c.requires.lawful c.sheet-sheet.result.now c.args.after.now c.sheet-sheet.ensures c.requires.after
    (sym c.is_operation.ensures.operation ∙ c.if-is_operation.true)

pub spliced_rows-then-requires-clause-after : goal.spliced_rows-then-requires-clause-after
spliced_rows-then-requires-clause-after c =
    splice-after c.args.before.now c.args.splice.now c.lawful.ensures c.requires.lawful c.sheet-sheet.result.now c.args.after.now c.sheet-sheet.ensures c.requires.after
    (sym c.is_operation.ensures.operation ∙ c.if-is_operation.true)

pub covering_of-requires-clause-first : goal.covering_of-requires-clause-first
covering_of-requires-clause-first c = led-here c.args.before.now c.sheet-sheet.result.now c.sheet-sheet.ensures c.args.since c.requires.since

pub covering_of-requires-clause-then : goal.covering_of-requires-clause-then
covering_of-requires-clause-then c =
    splice-true c.args.before.now c.args.splice.now c.lawful.ensures c.requires.lawful c.sheet-sheet.result.now c.args.after.now c.sheet-sheet.ensures c.requires.after
    (sym c.is_operation.ensures.operation ∙ c.if-is_operation.true) c.spliced_rows-then.result c.spliced_rows-then.ensures.rows

pub returns-then-is_operation-clause-rows : goal.returns-then-is_operation-clause-rows
returns-then-is_operation-clause-rows c =
    splice-covers c.args.before.now c.args.splice.now c.lawful.ensures c.requires.lawful c.sheet-sheet.result.now c.args.after.now c.sheet-sheet.ensures c.requires.after
    (sym c.is_operation.ensures.operation ∙ c.if-is_operation.true) c.spliced_rows-then.result c.spliced_rows-then.ensures.rows
    c.args.since c.covering_of.result c.covering_of.ensures

pub returns-else-is_operation-clause-rows : goal.returns-else-is_operation-clause-rows
returns-else-is_operation-clause-rows c = splice-none c.args.before.now c.args.splice.now c.args.since (sym c.is_operation.ensures.operation ∙ c.if-is_operation.false)
