use Rattle.std.proofs.Common.{ap, ◌∙◌, arith}
use Rattle.std.specs.Arc.{arc_value}
use Rattle.wrap_map.specs.Standing.{shown_rows}
use Rattle.map_sheet.proofs.Steps.{step-followed, step-operated, step-shows, step-some}
use Rattle.map_sheet.proofs.Sent.{sheet_sent}
use Rattle.map_sheet.proofs.sheet.MapSheet.rewrapped.Goals as goal

pub rows-requires-send-L : goal.rows-requires-send-L
rows-requires-send-L _ _ = search sheet_sent depth 12 fits 4000

pub rows-requires-sync-L : goal.rows-requires-sync-L
rows-requires-sync-L _ _ = search sheet_sent depth 12 fits 4000

pub after-requires-send-R : goal.after-requires-send-R
after-requires-send-R _ _ = search sheet_sent depth 12 fits 4000

pub after-requires-sync-R : goal.after-requires-sync-R
after-requires-sync-R _ _ = search sheet_sent depth 12 fits 4000

pub after-requires-send-P : goal.after-requires-send-P
after-requires-send-P _ _ = search sheet_sent depth 12 fits 4000

pub after-requires-sync-P : goal.after-requires-sync-P
after-requires-sync-P _ _ = search sheet_sent depth 12 fits 4000

pub after-requires-after_bounds : goal.after-requires-after_bounds
after-requires-after_bounds c κs =
    step-followed c.args.self.now c.lawful.ensures.lawful c.lawful.ensures.short c.lawful.ensures.plain
    (arc_value c.args.text) c.args.made.lines c.args.made.run c.args.made.rows c.args.shift
    c.blocked.result.now c.blocked.ensures c.layer.result.now (c.layer.ensures ∙ c.deref.ensures)
    (shown_rows c.in_ok-rows.rows) (c.in_ok-rows.ensures ∙ ap shown_rows c.rows.ensures)
    c.followed_laws.ensures.operations c.blocked_laws.ensures.places c.requires

pub assembled-requires : goal.assembled-requires
assembled-requires c =
    step-some c.args.self.now c.lawful.ensures.lawful c.lawful.ensures.short c.lawful.ensures.plain
    (arc_value c.args.text) c.args.made.lines c.args.made.run c.args.made.rows c.args.shift
    c.blocked.result.now c.blocked.ensures c.layer.result.now (c.layer.ensures ∙ c.deref.ensures)
    (shown_rows c.in_ok-rows.rows) (c.in_ok-rows.ensures ∙ ap shown_rows c.rows.ensures)
    c.blocked_laws.ensures.moves c.in_ok-blocks.blocks c.in_ok-blocks.ensures.made c.requires

pub returns-clause-done : goal.returns-clause-done
returns-clause-done c operation relaid =
    step-operated c.args.self.now c.lawful.ensures.lawful c.lawful.ensures.short c.lawful.ensures.plain
    (arc_value c.args.text) c.args.made.lines c.args.made.run c.args.made.rows c.args.shift
    c.blocked.result.now c.blocked.ensures c.layer.result.now (c.layer.ensures ∙ c.deref.ensures)
    (shown_rows c.in_ok-rows.rows) (c.in_ok-rows.ensures ∙ ap shown_rows c.rows.ensures)
    c.blocked_laws.ensures.moves c.in_ok-blocks.blocks c.in_ok-blocks.ensures.made
    c.in_ok-sheet.sheet c.in_ok-sheet.ensures c.spliced-splice.result c.spliced-splice.ensures.first c.spliced-splice.ensures.end c.spliced-splice.ensures.count
    operation relaid

pub returns-in_err-rows-clause-steps : goal.returns-in_err-rows-clause-steps
returns-in_err-rows-clause-steps c operation relaid h before = omega arith

pub returns-in_err-blocks-clause-steps : goal.returns-in_err-blocks-clause-steps
returns-in_err-blocks-clause-steps c =
    step-shows c.args.self.now c.lawful.ensures.lawful c.lawful.ensures.short c.lawful.ensures.plain
    (arc_value c.args.text) c.args.made.lines c.args.made.run c.args.made.rows c.args.shift
    c.blocked.result.now c.blocked.ensures c.layer.result.now (c.layer.ensures ∙ c.deref.ensures)
    (shown_rows c.in_ok-rows.rows) (c.in_ok-rows.ensures ∙ ap shown_rows c.rows.ensures)
    c.blocked_laws.ensures.places c.blocked_laws.ensures.many c.args.steps.now c.after.new.steps c.after.ensures.steps

pub returns-in_err-sheet-clause-steps : goal.returns-in_err-sheet-clause-steps
returns-in_err-sheet-clause-steps c =
    step-shows c.args.self.now c.lawful.ensures.lawful c.lawful.ensures.short c.lawful.ensures.plain
    (arc_value c.args.text) c.args.made.lines c.args.made.run c.args.made.rows c.args.shift
    c.blocked.result.now c.blocked.ensures c.layer.result.now (c.layer.ensures ∙ c.deref.ensures)
    (shown_rows c.in_ok-rows.rows) (c.in_ok-rows.ensures ∙ ap shown_rows c.rows.ensures)
    c.blocked_laws.ensures.places c.blocked_laws.ensures.many c.args.steps.now c.after.new.steps c.after.ensures.steps

pub returns-clause-steps : goal.returns-clause-steps
returns-clause-steps c =
    step-shows c.args.self.now c.lawful.ensures.lawful c.lawful.ensures.short c.lawful.ensures.plain
    (arc_value c.args.text) c.args.made.lines c.args.made.run c.args.made.rows c.args.shift
    c.blocked.result.now c.blocked.ensures c.layer.result.now (c.layer.ensures ∙ c.deref.ensures)
    (shown_rows c.in_ok-rows.rows) (c.in_ok-rows.ensures ∙ ap shown_rows c.rows.ensures)
    c.blocked_laws.ensures.places c.blocked_laws.ensures.many c.args.steps.now c.after.new.steps c.after.ensures.steps
