use Rattle.folded_text.proofs.Belong.{belong-after_insert}
use Rattle.folded_text.proofs.text.FoldedText.insert.Goals as goal

pub invariant_of-self : goal.invariant_of-self
invariant_of-self c =
    let m = c.args.self.now in
    let e = c.insert.ensures in
    record {
      belong = belong-after_insert m.rope m.inlays m.folds c.args.id c.args.offset c.args.bias c.args.text.now c.insert.new.self c.insert.result m.belong c.len-inlays.ensures.lawful e.ok e.accepted e.unchanged;
    }
