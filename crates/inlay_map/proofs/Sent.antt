-- What snapshots of inlays and of folds hold may go to another thread: of the types of their parts, as a set for
-- `search`.
use denote.Param.Send.{sendable}
use Rattle.std.proofs.Crossing.{crosses}
use Rattle.sum_core.proofs.load.NoLoad.TheSendSync as load
use Rattle.sum_core.proofs.node.Entries.TheLaws.TheKnot.{both_send-Node, both_sync-Node, send-Node, sync-Node}
use Rattle.text_rope.proofs.chunk.Chunk.TheSendSync as chunk
use Rattle.text_rope.proofs.chunk.TextSize.TheSendSync as size
use Rattle.mark_tree.proofs.entry.Entry.TheSendSync as entry
use Rattle.mark_tree.proofs.extent.Extent.TheSendSync as extent
use Rattle.splice_tree.proofs.sides.Sides.TheSendSync as sides
use Rattle.inlay_map.proofs.amount.Amount.TheSendSync as amount
use Rattle.inlay_map.proofs.inlay_text.InlayText.TheSendSync as inlay

pub ruleset sent = (
  send-Node,
  sync-Node,
  both_send-Node,
  both_sync-Node,
  load.the_send,
  load.the_sync,
  chunk.the_send,
  chunk.the_sync,
  size.the_send,
  size.the_sync,
  entry.the_send,
  entry.the_sync,
  extent.the_send,
  extent.the_sync,
  sides.the_send,
  sides.the_sync,
  amount.the_send,
  amount.the_sync,
  inlay.the_send,
  inlay.the_sync,
  crosses,
  sendable,
)
