use Rattle.inlay_map.proofs.Sent.{sent}
use Rattle.folded_text.proofs.text.FoldedText.share.Goals as goal

pub share-requires-3-send-L : goal.share-requires-3-send-L
share-requires-3-send-L c κs = search sent depth 60 fits 20000

pub share-requires-3-sync-L : goal.share-requires-3-sync-L
share-requires-3-sync-L c κs = search sent depth 60 fits 20000
