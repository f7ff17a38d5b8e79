use Rattle.inlay_map.proofs.Sent.{sent}
use Rattle.bench_folds.proofs.looks.check.Goals as goal

pub count_hidden-requires-send-L : goal.count_hidden-requires-send-L
count_hidden-requires-send-L c κs = search sent depth 60 fits 20000

pub count_hidden-requires-sync-L : goal.count_hidden-requires-sync-L
count_hidden-requires-sync-L c κs = search sent depth 60 fits 20000
