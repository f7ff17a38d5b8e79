use Rattle.inlay_map.proofs.Sent.{sent}
use Rattle.test_folds.proofs.script.LaidPlayedStep.look.Goals as goal

pub look-requires-send-L : goal.look-requires-send-L
look-requires-send-L c κs = search sent depth 60 fits 20000

pub look-requires-sync-L : goal.look-requires-sync-L
look-requires-sync-L c κs = search sent depth 60 fits 20000
