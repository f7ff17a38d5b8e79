use Rattle.inlay_map.proofs.Sent.{sent}
use Rattle.bench_folds.proofs.look.Goals as goal

pub ask-requires-send-L : goal.ask-requires-send-L
ask-requires-send-L c κs = search sent depth 60 fits 20000

pub ask-requires-sync-L : goal.ask-requires-sync-L
ask-requires-sync-L c κs = search sent depth 60 fits 20000
