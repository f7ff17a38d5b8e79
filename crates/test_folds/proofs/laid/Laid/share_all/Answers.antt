use Rattle.inlay_map.proofs.Sent.{sent}
use Rattle.test_folds.proofs.laid.Laid.share_all.Goals as goal

pub share-requires-2-send-L : goal.share-requires-2-send-L
share-requires-2-send-L c κs = search sent depth 60 fits 20000

pub share-requires-2-sync-L : goal.share-requires-2-sync-L
share-requires-2-sync-L c κs = search sent depth 60 fits 20000
