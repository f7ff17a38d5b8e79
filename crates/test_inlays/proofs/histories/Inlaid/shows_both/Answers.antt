use Rattle.inlay_map.proofs.Sent.{sent}
use Rattle.test_inlays.proofs.histories.Inlaid.shows_both.Goals as goal

pub agrees-requires-send-L : goal.agrees-requires-send-L
agrees-requires-send-L c κs = search sent depth 60 fits 20000

pub agrees-requires-sync-L : goal.agrees-requires-sync-L
agrees-requires-sync-L c κs = search sent depth 60 fits 20000
