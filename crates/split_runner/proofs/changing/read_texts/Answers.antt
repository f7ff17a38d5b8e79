-- One text more.
use Rattle.std.proofs.Common.{subst, arith}
use Rattle.std.specs.List.{All}
use Rattle.std.specs.Str.{IsUtf8}
use Rattle.std.proofs.lemmas.List.{take_all}
use Rattle.std.proofs.lemmas.List.Elements.{All-more}
use Rattle.display_sheet.specs.declared.change.Splice.{Splice}
use Rattle.split_runner.proofs.changing.read_texts.Goals as goal

pub loop-splice-preserved : goal.loop-splice-preserved
loop-splice-preserved c =
    let P : Splice → Type 0 = λ s. IsUtf8 s.text in
    All-more P c.args.batch.now c.loop-splice.splice-index c.splice-item.result c.loop-splice-test.true c.loop-splice.invariant
    (subst P c.splice-item.is (subst IsUtf8 c.as_str-text.ensures c.as_str-text.utf8))

pub returns : goal.returns
returns c =
    subst (All (λ s. IsUtf8 s.text)) (take_all c.loop-splice.splice-index c.args.batch.now (omega (arith, c.loop-splice-test.false))) c.loop-splice.invariant
