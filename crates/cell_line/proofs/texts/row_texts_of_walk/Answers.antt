use Rattle.std.proofs.Common.{◌≤◌, length, ap, sym, ◌∙◌, arith}
use Rattle.cell_line.specs.inside.Marks.{left_of}
use Rattle.cell_line.proofs.RowTexts.{in_order, start_within, text_step, texts_end, texts_none}
use Rattle.cell_line.proofs.texts.row_texts_of_walk.Goals as goal

pub returns-then-rows-first : goal.returns-then-rows-first
returns-then-rows-first c =
    c.new-texts.ensures.items
    ∙ sym (texts_none (left_of c.args.walk) c.args.width c.args.first c.args.count (omega (arith, ap length c.requires.cut, c.if-rows-first.true)))

pub skip-requires : goal.skip-requires
skip-requires c =
    let within = start_within (left_of c.args.walk) c.args.width c.args.first c.args.cuts.now c.requires.cut (omega (arith, c.if-rows-first.false)) in
    omega (arith, within, c.row_start.ensures)

pub row_len-requires-clause-in_order : goal.row_len-requires-clause-in_order
row_len-requires-clause-in_order c = λ lt. in_order (left_of c.args.walk) c.args.width c.loop-row.row c.args.cuts.now c.requires.cut lt

pub loop-row-preserved : goal.loop-row-preserved
loop-row-preserved c =
    let es = left_of c.args.walk in
    let row = c.loop-row.row in
    let le : row ≤ length c.args.cuts.now = omega (arith, c.loop-row-test.true, c.min.ensures, c.if-rows-first.false) in
    let step = text_step es c.args.width row c.args.first c.row_len.result c.indent-indent.result c.row_indent.result c.args.cuts.now (left_of c.loop-row.walk) (left_of c.row_text.new.walk)
    c.loop-row.texts.items c.push.new.self.items c.in_ok-text.text
    c.requires.cut c.requires.fits.0 le c.loop-row.auto.row c.row_len.ensures c.row_indent.ensures (c.indent-indent.ensures es c.requires.lead)
    (c.loop-row.invariant.walk (omega (arith, le))) c.in_ok-text.ensures.text c.in_ok-text.ensures.left c.loop-row.invariant.texts c.in_ok-push.ensures.items in
    record { walk = step.0; texts = step.1 }

pub returns : goal.returns
returns c =
    texts_end (left_of c.args.walk) c.args.width c.loop-row.row c.args.first c.args.count c.args.cuts.now c.loop-row.texts.items c.requires.cut
    (omega (arith, c.loop-row-test.false, c.loop-row.auto, c.min.ensures)) c.loop-row.invariant.texts
