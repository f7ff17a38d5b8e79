use Rattle.std.proofs.Common.{◌≡◌, ◌+◌, ◌-◌, suc, ◌∙◌, arith}
use Rattle.std.specs.String.{string_bytes}
use Rattle.cell_line.specs.inside.Marks.{left_of}
use Rattle.cell_line.proofs.RowTexts.{row_more}
use Rattle.cell_line.proofs.texts.row_text.Goals as goal

pub loop-preserved : goal.loop-preserved
loop-preserved c =
    let k = c.args.most - (c.loop.counter + 1) in
    let n : c.args.most - c.loop.counter ≡ suc k = omega (arith, c.loop-test.true) in
    let more = row_more (string_bytes c.loop.text) (string_bytes c.push_element.new.text) (left_of c.loop.walk) (left_of c.next.new.self) c.in-Some.element k (c.args.most - c.loop.counter)
    n c.in-Some.ensures c.in_ok-push_element.ensures in
    record { text = more.0 ∙ c.loop.invariant.text; left = more.1 ∙ c.loop.invariant.left }
