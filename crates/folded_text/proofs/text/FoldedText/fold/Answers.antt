use Rattle.std.proofs.Common.{arith}
use Rattle.fold_map.specs.Maps.{fold_with}
use Rattle.inlay_map.proofs.Sent.{sent}
use Rattle.folded_text.proofs.Belong.{with-fits}
use Rattle.folded_text.proofs.text.FoldedText.fold.Goals as goal

pub len-requires-2-send-L : goal.len-requires-2-send-L
len-requires-2-send-L c κs = search sent depth 60 fits 20000

pub len-requires-2-sync-L : goal.len-requires-2-sync-L
len-requires-2-sync-L c κs = search sent depth 60 fits 20000

pub fold-requires-send-L : goal.fold-requires-send-L
fold-requires-send-L c κs = search sent depth 60 fits 20000

pub fold-requires-sync-L : goal.fold-requires-sync-L
fold-requires-sync-L c κs = search sent depth 60 fits 20000

pub fold-requires-clause-fits : goal.fold-requires-clause-fits
fold-requires-clause-fits c κs e =
    let m = c.args.self.now in
    with-fits m.rope m.inlays m.folds m.belong c.len-2.ensures.lawful (omega (arith, c.len.ensures.value, c.len.ensures.within)) (fold_with c.args.id c.args.start c.args.end) e
