use Rattle.folded_text.proofs.Belong.{belong-after_remove}
use Rattle.folded_text.proofs.text.FoldedText.remove.Goals as goal

pub invariant_of-self : goal.invariant_of-self
invariant_of-self c =
    let m = c.args.self.now in
    let e = c.remove.ensures in
    record {
      belong = belong-after_remove m.rope m.inlays m.folds c.args.id c.remove.new.self c.remove.result m.belong c.len-inlays.ensures.lawful e.ok e.accepted e.unchanged;
    }
