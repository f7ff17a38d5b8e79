use Rattle.map_sheet.proofs.ListedBlocks.{key-found, key-missing}
use Rattle.map_sheet.proofs.Sent.{sheet_sent}
use Rattle.map_sheet.proofs.sheet.MapSheet.key.Goals as goal

pub returns-in_default-clause-key : goal.returns-in_default-clause-key
returns-in_default-clause-key c = key-missing c.args.self.now c.blocked.result.now c.blocked.ensures c.args.side c.args.at c.in_default.ensures.block

pub returns-clause-key : goal.returns-clause-key
returns-clause-key c =
    key-found c.args.self.now c.blocked.result.now c.blocked.ensures c.args.side c.args.at c.in-Some.offset c.in-Some.id c.in-Some._lines.now c.in-Some.ensures.block

pub block-requires-send-R : goal.block-requires-send-R
block-requires-send-R c κs = search sheet_sent depth 12 fits 4000

pub block-requires-sync-R : goal.block-requires-sync-R
block-requires-sync-R c κs = search sheet_sent depth 12 fits 4000
