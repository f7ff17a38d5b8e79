use Rattle.std.proofs.Common.{◌∙◌, rules}
use Rattle.cell_units.specs.Operation.{RemoveBlock}
use Rattle.map_sheet.proofs.BlockSteps.{blocks-stand, unblock-accepted, unblock-made, unblock-refused}
use Rattle.map_sheet.proofs.BlockWorks.{unblock-works}
use Rattle.map_sheet.proofs.Sent.{sheet_sent}
use Rattle.map_sheet.proofs.sheet.MapSheet.without_block.Goals as goal

pub without_block-requires-send-R : goal.without_block-requires-send-R
without_block-requires-send-R _ _ = search sheet_sent depth 12 fits 4000

pub without_block-requires-sync-R : goal.without_block-requires-sync-R
without_block-requires-sync-R _ _ = search sheet_sent depth 12 fits 4000

pub without_block-requires-send-P : goal.without_block-requires-send-P
without_block-requires-send-P _ _ = search sheet_sent depth 12 fits 4000

pub without_block-requires-sync-P : goal.without_block-requires-sync-P
without_block-requires-sync-P _ _ = search sheet_sent depth 12 fits 4000

pub without_block-requires-after_bounds : goal.without_block-requires-after_bounds
without_block-requires-after_bounds c κs =
    blocks-stand c.args.self.now c.lawful.ensures.lawful c.lawful.ensures.short c.blocked.result.now c.blocked.ensures c.layer.result.now (c.layer.ensures ∙ c.text.ensures)
    c.blocked_laws.ensures.places

pub reblocked-requires : goal.reblocked-requires
reblocked-requires c = (
  RemoveBlock c.args.id,
  unblock-made c.args.self.now c.lawful.ensures.lawful c.lawful.ensures.short c.blocked.result.now c.blocked.ensures c.layer.result.now (c.layer.ensures ∙ c.text.ensures)
      c.blocked_laws.ensures.ids c.args.id c.blocked_laws.ensures.takes c.in_ok-blocks.blocks c.in_ok-blocks.ensures.made,
)

pub returns-clause-made : goal.returns-clause-made
returns-clause-made c = (
  unblock-accepted c.args.self.now c.lawful.ensures.lawful c.lawful.ensures.short c.blocked.result.now c.blocked.ensures c.layer.result.now (c.layer.ensures ∙ c.text.ensures)
      c.blocked_laws.ensures.ids c.args.id c.in_ok-blocks.ensures.accepted,
  tt,
  c.in_ok-reblocked.ensures (RemoveBlock c.args.id)
      (unblock-made c.args.self.now c.lawful.ensures.lawful c.lawful.ensures.short c.blocked.result.now c.blocked.ensures c.layer.result.now (c.layer.ensures ∙ c.text.ensures)
      c.blocked_laws.ensures.ids c.args.id c.blocked_laws.ensures.takes c.in_ok-blocks.blocks c.in_ok-blocks.ensures.made),
)

pub returns-in_err-blocks-clause-made : goal.returns-in_err-blocks-clause-made
returns-in_err-blocks-clause-made c =
    let refused = unblock-refused c.args.self.now c.lawful.ensures.lawful c.lawful.ensures.short c.blocked.result.now c.blocked.ensures c.layer.result.now (c.layer.ensures ∙ c.text.ensures)
    c.blocked_laws.ensures.ids c.args.id c.in_err-blocks.field-0.0 c.in_err-blocks.ensures.refused in
    search (rules, refused)

pub returns-in_err-reblocked-clause-made : goal.returns-in_err-reblocked-clause-made
returns-in_err-reblocked-clause-made c =
    let none = unblock-accepted c.args.self.now c.lawful.ensures.lawful c.lawful.ensures.short c.blocked.result.now c.blocked.ensures c.layer.result.now (c.layer.ensures ∙ c.text.ensures)
    c.blocked_laws.ensures.ids c.args.id c.in_ok-blocks.ensures.accepted in
    search (rules, none)

pub returns-in_err-blocks-clause-steps : goal.returns-in_err-blocks-clause-steps
returns-in_err-blocks-clause-steps c =
    unblock-works c.args.self.now c.blocked.result.now c.blocked.ensures c.blocked_laws.ensures.many c.args.steps.now c.without_block.new.steps
    c.args.id c.without_block.ensures.steps

pub returns-in_err-reblocked-clause-steps : goal.returns-in_err-reblocked-clause-steps
returns-in_err-reblocked-clause-steps c =
    unblock-works c.args.self.now c.blocked.result.now c.blocked.ensures c.blocked_laws.ensures.many c.args.steps.now c.without_block.new.steps
    c.args.id c.without_block.ensures.steps

pub returns-clause-steps : goal.returns-clause-steps
returns-clause-steps c =
    unblock-works c.args.self.now c.blocked.result.now c.blocked.ensures c.blocked_laws.ensures.many c.args.steps.now c.without_block.new.steps
    c.args.id c.without_block.ensures.steps
