use Rattle.inlay_map.proofs.Sent.{sent}
use Rattle.folded_text.proofs.text.FoldedText.new.Goals as goal

pub new-requires-2-send-L : goal.new-requires-2-send-L
new-requires-2-send-L c κs = search sent depth 60 fits 20000

pub new-requires-2-sync-L : goal.new-requires-2-sync-L
new-requires-2-sync-L c κs = search sent depth 60 fits 20000
