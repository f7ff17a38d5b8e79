use Rattle.inlay_map.proofs.Sent.{sent}
use Rattle.test_folds.proofs.script.LaidPlayedStep.seen.Goals as goal

pub share-requires-send-L : goal.share-requires-send-L
share-requires-send-L c κs = search sent depth 60 fits 20000

pub share-requires-sync-L : goal.share-requires-sync-L
share-requires-sync-L c κs = search sent depth 60 fits 20000
