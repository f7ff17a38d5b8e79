use Rattle.std.proofs.Common.{◌∙◌, rules}
use Rattle.cell_units.specs.Operation.{AddBlock}
use Rattle.map_sheet.proofs.BlockSteps.{block-accepted, block-made, block-refused, blocks-stand}
use Rattle.map_sheet.proofs.BlockWorks.{block-works}
use Rattle.map_sheet.proofs.Sent.{sheet_sent}
use Rattle.map_sheet.proofs.sheet.MapSheet.with_block.Goals as goal

pub with_block-requires-send-R : goal.with_block-requires-send-R
with_block-requires-send-R _ _ = search sheet_sent depth 12 fits 4000

pub with_block-requires-sync-R : goal.with_block-requires-sync-R
with_block-requires-sync-R _ _ = search sheet_sent depth 12 fits 4000

pub with_block-requires-send-P : goal.with_block-requires-send-P
with_block-requires-send-P _ _ = search sheet_sent depth 12 fits 4000

pub with_block-requires-sync-P : goal.with_block-requires-sync-P
with_block-requires-sync-P _ _ = search sheet_sent depth 12 fits 4000

pub with_block-requires-after_bounds : goal.with_block-requires-after_bounds
with_block-requires-after_bounds c κs =
    blocks-stand c.args.self.now c.lawful.ensures.lawful c.lawful.ensures.short c.blocked.result.now c.blocked.ensures c.layer.result.now (c.layer.ensures ∙ c.text.ensures)
    c.blocked_laws.ensures.places

pub reblocked-requires : goal.reblocked-requires
reblocked-requires c = (
  AddBlock c.args.row c.args.id c.args.side c.args.lines.now,
  block-made c.args.self.now c.lawful.ensures.lawful c.lawful.ensures.short c.blocked.result.now c.blocked.ensures c.layer.result.now (c.layer.ensures ∙ c.text.ensures)
      c.blocked_laws.ensures.ids c.blocked_laws.ensures.many c.args.row c.args.id c.row_start-offset.result c.args.side c.args.lines.now c.row_start-offset.ensures.start c.row_start-offset.ensures.past
      c.blocked_laws.ensures.adds c.are_texts.ensures c.in_ok-blocks.ensures.accepted c.in_ok-blocks.blocks c.in_ok-blocks.ensures.made,
)

pub returns-clause-made : goal.returns-clause-made
returns-clause-made c =
    let re = block-made c.args.self.now c.lawful.ensures.lawful c.lawful.ensures.short c.blocked.result.now c.blocked.ensures c.layer.result.now (c.layer.ensures ∙ c.text.ensures)
    c.blocked_laws.ensures.ids c.blocked_laws.ensures.many c.args.row c.args.id c.row_start-offset.result c.args.side c.args.lines.now c.row_start-offset.ensures.start c.row_start-offset.ensures.past
    c.blocked_laws.ensures.adds c.are_texts.ensures c.in_ok-blocks.ensures.accepted c.in_ok-blocks.blocks c.in_ok-blocks.ensures.made in (
      block-accepted c.args.self.now c.lawful.ensures.lawful c.lawful.ensures.short c.blocked.result.now c.blocked.ensures c.layer.result.now (c.layer.ensures ∙ c.text.ensures)
          c.blocked_laws.ensures.ids c.blocked_laws.ensures.many c.args.row c.args.id c.row_start-offset.result c.args.side c.args.lines.now c.row_start-offset.ensures.start c.row_start-offset.ensures.past
          c.in_ok-blocks.ensures.accepted,
      re.allowed,
      c.in_ok-reblocked.ensures (AddBlock c.args.row c.args.id c.args.side c.args.lines.now) re,
    )

pub returns-in_err-blocks-clause-made : goal.returns-in_err-blocks-clause-made
returns-in_err-blocks-clause-made c =
    let refused = block-refused c.args.self.now c.lawful.ensures.lawful c.lawful.ensures.short c.blocked.result.now c.blocked.ensures c.layer.result.now (c.layer.ensures ∙ c.text.ensures)
    c.blocked_laws.ensures.ids c.blocked_laws.ensures.many c.args.row c.args.id c.row_start-offset.result c.args.side c.args.lines.now c.row_start-offset.ensures.start c.row_start-offset.ensures.past
    c.in_err-blocks.field-0.0 c.in_err-blocks.ensures.refused in
    search (rules, refused)

pub returns-in_err-reblocked-clause-made : goal.returns-in_err-reblocked-clause-made
returns-in_err-reblocked-clause-made c =
    let none = block-accepted c.args.self.now c.lawful.ensures.lawful c.lawful.ensures.short c.blocked.result.now c.blocked.ensures c.layer.result.now (c.layer.ensures ∙ c.text.ensures)
    c.blocked_laws.ensures.ids c.blocked_laws.ensures.many c.args.row c.args.id c.row_start-offset.result c.args.side c.args.lines.now c.row_start-offset.ensures.start c.row_start-offset.ensures.past
    c.in_ok-blocks.ensures.accepted in
    search (rules, none)

pub returns-in_err-blocks-clause-steps : goal.returns-in_err-blocks-clause-steps
returns-in_err-blocks-clause-steps c =
    block-works c.args.self.now c.blocked.result.now c.blocked.ensures c.blocked_laws.ensures.many c.args.steps.now c.with_block.new.steps
    c.args.row c.args.id c.args.side c.args.lines.now c.with_block.ensures.steps

pub returns-in_err-reblocked-clause-steps : goal.returns-in_err-reblocked-clause-steps
returns-in_err-reblocked-clause-steps c =
    block-works c.args.self.now c.blocked.result.now c.blocked.ensures c.blocked_laws.ensures.many c.args.steps.now c.with_block.new.steps
    c.args.row c.args.id c.args.side c.args.lines.now c.with_block.ensures.steps

pub returns-clause-steps : goal.returns-clause-steps
returns-clause-steps c =
    block-works c.args.self.now c.blocked.result.now c.blocked.ensures c.blocked_laws.ensures.many c.args.steps.now c.with_block.new.steps
    c.args.row c.args.id c.args.side c.args.lines.now c.with_block.ensures.steps
