use Rattle.std.proofs.Common.{arith}
use Rattle.inlay_map.proofs.Sent.{sent}
use Rattle.folded_text.proofs.Belong.{belong-after_unfold, without-fits}
use Rattle.folded_text.proofs.text.FoldedText.unfold.Goals as goal

pub len-requires-2-send-L : goal.len-requires-2-send-L
len-requires-2-send-L c κs = search sent depth 60 fits 20000

pub len-requires-2-sync-L : goal.len-requires-2-sync-L
len-requires-2-sync-L c κs = search sent depth 60 fits 20000

pub unfold-requires-send-L : goal.unfold-requires-send-L
unfold-requires-send-L c κs = search sent depth 60 fits 20000

pub unfold-requires-sync-L : goal.unfold-requires-sync-L
unfold-requires-sync-L c κs = search sent depth 60 fits 20000

pub unfold-requires-clause-fits : goal.unfold-requires-clause-fits
unfold-requires-clause-fits c κs =
    let m = c.args.self.now in
    without-fits m.rope m.inlays m.folds m.belong c.len-2.ensures.lawful (omega (arith, c.len.ensures.value, c.len.ensures.within)) c.args.id

pub invariant_of-self : goal.invariant_of-self
invariant_of-self c =
    let m = c.args.self.now in
    let e = c.unfold.ensures in
    record { belong = belong-after_unfold m.rope m.inlays m.folds c.args.id c.unfold.new.self c.unfold.result m.belong e.ok e.accepted e.unchanged }
