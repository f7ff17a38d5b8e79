use Rattle.std.proofs.Common.{sym, ◌∙◌}
use Rattle.std.specs.Prelude.{Some}
use Rattle.map_sheet.proofs.ListedBlocks.{block-there, here}
use Rattle.map_sheet.proofs.Sent.{sheet_sent}
use Rattle.map_sheet.proofs.sheet.MapSheet.block_at.Goals as goal

pub returns-clause-block : goal.returns-clause-block
returns-clause-block c =
    here c.args.self.now c.blocked.result.now c.blocked.ensures c.args.side c.args.at c.in-Some.offset c.in-Some.id c.in-Some.lines.now c.in-Some.ensures.block
    ∙ (λ i. Some (record { offset = c.in-Some.offset; id = c.in-Some.id; side = c.args.side; lines = sym c.in_ok-lines.ensures.same i }))

pub unreachable-requires : goal.unreachable-requires
unreachable-requires c =
    block-there c.args.self.now c.blocked.result.now c.blocked.ensures c.args.side c.args.at c.requires c.in_default.ensures.block

pub block-requires-send-R : goal.block-requires-send-R
block-requires-send-R c κs = search sheet_sent depth 12 fits 4000

pub block-requires-sync-R : goal.block-requires-sync-R
block-requires-sync-R c κs = search sheet_sent depth 12 fits 4000
