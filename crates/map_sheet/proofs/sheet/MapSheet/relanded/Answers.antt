use Rattle.std.proofs.Common.{ap, ◌∙◌, arith}
use Rattle.std.specs.Arc.{arc_value}
use Rattle.wrap_map.specs.Standing.{shown_rows}
use Rattle.map_sheet.proofs.Landed as landed
use Rattle.map_sheet.proofs.Steps.{land-followed, land-keeps, land-shows}
use Rattle.map_sheet.proofs.Sent.{sheet_sent}
use Rattle.map_sheet.proofs.sheet.MapSheet.relanded.Goals as goal

pub rows-requires-send-L : goal.rows-requires-send-L
rows-requires-send-L _ _ = search sheet_sent depth 12 fits 4000

pub rows-requires-sync-L : goal.rows-requires-sync-L
rows-requires-sync-L _ _ = search sheet_sent depth 12 fits 4000

pub after-requires-send-R : goal.after-requires-send-R
after-requires-send-R _ _ = search sheet_sent depth 12 fits 4000

pub after-requires-sync-R : goal.after-requires-sync-R
after-requires-sync-R _ _ = search sheet_sent depth 12 fits 4000

pub after-requires-send-P : goal.after-requires-send-P
after-requires-send-P _ _ = search sheet_sent depth 12 fits 4000

pub after-requires-sync-P : goal.after-requires-sync-P
after-requires-sync-P _ _ = search sheet_sent depth 12 fits 4000

pub after-requires-after_bounds : goal.after-requires-after_bounds
after-requires-after_bounds c κs =
    land-followed c.args.self.now c.lawful.ensures.lawful c.lawful.ensures.short c.lawful.ensures.plain
    c.args.places.now c.args.made.lines c.args.made.rows c.requires
    c.blocked.result.now c.blocked.ensures c.layer-layer.result.now (c.layer-layer.ensures ∙ c.text.ensures)
    (shown_rows c.in_ok-rows.rows) (c.in_ok-rows.ensures ∙ ap shown_rows c.rows.ensures)
    c.followed_laws.ensures.rows c.blocked_laws.ensures.places

pub assembled-requires : goal.assembled-requires
assembled-requires c =
    let r = c.args.self.now in (
      landed.after r c.lawful.ensures.lawful c.lawful.ensures.short c.args.places.now c.args.made.lines c.args.made.rows c.requires,
      land-keeps r c.lawful.ensures.lawful c.lawful.ensures.short c.lawful.ensures.plain
          c.args.places.now c.args.made.lines c.args.made.rows c.requires
          c.blocked.result.now c.blocked.ensures c.layer-layer.result.now (c.layer-layer.ensures ∙ c.text.ensures)
          (shown_rows c.in_ok-rows.rows) (c.in_ok-rows.ensures ∙ ap shown_rows c.rows.ensures)
          c.blocked_laws.ensures.moves (arc_value c.in_ok-text.text) c.in_ok-text.ensures c.in_ok-blocks.blocks c.in_ok-blocks.ensures.made,
    )

pub returns-clause-landed : goal.returns-clause-landed
returns-clause-landed c =
    let r = c.args.self.now in
    c.assembled.ensures
    (landed.after r c.lawful.ensures.lawful c.lawful.ensures.short c.args.places.now c.args.made.lines c.args.made.rows c.requires)
    (land-keeps r c.lawful.ensures.lawful c.lawful.ensures.short c.lawful.ensures.plain
    c.args.places.now c.args.made.lines c.args.made.rows c.requires
    c.blocked.result.now c.blocked.ensures c.layer-layer.result.now (c.layer-layer.ensures ∙ c.text.ensures)
    (shown_rows c.in_ok-rows.rows) (c.in_ok-rows.ensures ∙ ap shown_rows c.rows.ensures)
    c.blocked_laws.ensures.moves (arc_value c.in_ok-text.text) c.in_ok-text.ensures c.in_ok-blocks.blocks c.in_ok-blocks.ensures.made)

pub returns-in_err-rows-clause-steps : goal.returns-in_err-rows-clause-steps
returns-in_err-rows-clause-steps c h before = omega arith

pub returns-in_err-blocks-clause-steps : goal.returns-in_err-blocks-clause-steps
returns-in_err-blocks-clause-steps c =
    land-shows c.args.self.now c.lawful.ensures.lawful c.lawful.ensures.short c.lawful.ensures.plain
    c.args.places.now c.args.made.lines c.args.made.rows c.requires
    c.blocked.result.now c.blocked.ensures c.layer-layer.result.now (c.layer-layer.ensures ∙ c.text.ensures)
    (shown_rows c.in_ok-rows.rows) (c.in_ok-rows.ensures ∙ ap shown_rows c.rows.ensures)
    c.blocked_laws.ensures.places c.blocked_laws.ensures.many c.args.steps.now c.after.new.steps c.after.ensures.steps

pub returns-in_err-text-clause-steps : goal.returns-in_err-text-clause-steps
returns-in_err-text-clause-steps c =
    land-shows c.args.self.now c.lawful.ensures.lawful c.lawful.ensures.short c.lawful.ensures.plain
    c.args.places.now c.args.made.lines c.args.made.rows c.requires
    c.blocked.result.now c.blocked.ensures c.layer-layer.result.now (c.layer-layer.ensures ∙ c.text.ensures)
    (shown_rows c.in_ok-rows.rows) (c.in_ok-rows.ensures ∙ ap shown_rows c.rows.ensures)
    c.blocked_laws.ensures.places c.blocked_laws.ensures.many c.args.steps.now c.after.new.steps c.after.ensures.steps

pub returns-clause-steps : goal.returns-clause-steps
returns-clause-steps c =
    land-shows c.args.self.now c.lawful.ensures.lawful c.lawful.ensures.short c.lawful.ensures.plain
    c.args.places.now c.args.made.lines c.args.made.rows c.requires
    c.blocked.result.now c.blocked.ensures c.layer-layer.result.now (c.layer-layer.ensures ∙ c.text.ensures)
    (shown_rows c.in_ok-rows.rows) (c.in_ok-rows.ensures ∙ ap shown_rows c.rows.ensures)
    c.blocked_laws.ensures.places c.blocked_laws.ensures.many c.args.steps.now c.after.new.steps c.after.ensures.steps
