use Rattle.std.proofs.Common.{ap, ◌∙◌}
use Rattle.block_map.specs.Between.{rows_between}
use Rattle.block_map.specs.inside.ShownStops.{shown_between}
use Rattle.map_sheet.proofs.Sent.{sheet_sent}
use Rattle.map_sheet.proofs.sheet.MapSheet.shown.Goals as goal

pub returns-clause-shown : goal.returns-clause-shown
returns-clause-shown c = c.shown.ensures ∙ ap shown_between c.blocked.ensures

pub returns-clause-rows : goal.returns-clause-rows
returns-clause-rows c = ap rows_between (c.shown.ensures ∙ ap shown_between c.blocked.ensures) ∙ c.blocked_laws.ensures.rows c.args.self.now c.lawful.ensures.lawful

pub shown-requires-send-R : goal.shown-requires-send-R
shown-requires-send-R c κs = search sheet_sent depth 12 fits 4000

pub shown-requires-sync-R : goal.shown-requires-sync-R
shown-requires-sync-R c κs = search sheet_sent depth 12 fits 4000
