use Rattle.map_sheet.proofs.Sent.{sheet_sent}
use Rattle.view_changes.proofs.Found.{numbered}
use Rattle.view_changes.proofs.finding.block_number.Goals as goal

pub returns-clause-number : goal.returns-clause-number
returns-clause-number c =
    numbered c.args.sheet.now c.args.side c.args.id c.blocked.result.now c.blocked.ensures c.find_id.result c.find_id.ensures.place

pub find_id-requires-send-R : goal.find_id-requires-send-R
find_id-requires-send-R c κs = search sheet_sent depth 12 fits 4000

pub find_id-requires-sync-R : goal.find_id-requires-sync-R
find_id-requires-sync-R c κs = search sheet_sent depth 12 fits 4000
