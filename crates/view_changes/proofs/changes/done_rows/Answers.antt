use Rattle.display_sheet.specs.Changes.{operation_of}
use Rattle.view_changes.proofs.Histories.{after-here, allowed-here, covers-one, led-here, true-here}
use Rattle.view_changes.proofs.changes.done_rows.Goals as goal

pub operated_rows-then-requires-clause-allowed : goal.operated_rows-then-requires-clause-allowed
operated_rows-then-requires-clause-allowed c =
    allowed-here c.args.before.now (operation_of c.args.op.now) c.lawful.ensures c.requires.lawful c.sheet-sheet.result.now c.args.after.now c.sheet-sheet.ensures c.requires.after

pub operated_rows-then-requires-clause-after : goal.operated_rows-then-requires-clause-after
operated_rows-then-requires-clause-after c =
    after-here c.args.before.now (operation_of c.args.op.now) c.lawful.ensures c.requires.lawful c.sheet-sheet.result.now c.args.after.now c.sheet-sheet.ensures c.requires.after

pub covering_of-requires-clause-first : goal.covering_of-requires-clause-first
covering_of-requires-clause-first c = led-here c.args.before.now c.sheet-sheet.result.now c.sheet-sheet.ensures c.args.since c.requires.since

pub covering_of-requires-clause-then : goal.covering_of-requires-clause-then
covering_of-requires-clause-then c =
    true-here c.args.before.now (operation_of c.args.op.now) c.lawful.ensures c.requires.lawful c.sheet-sheet.result.now c.args.after.now c.sheet-sheet.ensures c.requires.after
    c.operated_rows-then.result c.operated_rows-then.ensures.rows

pub returns-clause-rows : goal.returns-clause-rows
returns-clause-rows c =
    covers-one c.args.before.now (operation_of c.args.op.now) c.lawful.ensures c.requires.lawful c.sheet-sheet.result.now c.args.after.now c.sheet-sheet.ensures c.requires.after
    c.operated_rows-then.result c.operated_rows-then.ensures.rows c.args.since c.covering_of.result c.covering_of.ensures
