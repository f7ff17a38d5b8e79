use Rattle.std.proofs.Common.{◌+◌, ap, sym, ◌∙◌, arith}
use Rattle.cell_units.specs.Text.{row_start}
use Rattle.plain_rows.proofs.RisingLines.{next-row, same-row}
use Rattle.plain_rows.proofs.block_lines.row_from.Goals as goal

pub loop-row-preserved : goal.loop-row-preserved
loop-row-preserved c =
    let text = c.args.text.now in
    let r = c.loop-row.invariant.row in
    let lt = c.loop-row-test.true in
    let next = next-row text c.loop-row.row.start (omega (arith, r.ends, lt, c.requires.within)) in
    record {
      row = record {
        starts = ap (λ k. row_start text (k + 1)) (sym r.ends) ∙ next ∙ ap (λ k. k + 1) r.ends;
        ends = sym c.row_end.ensures;
        within = omega (arith, lt, c.requires.within);
      };
      behind = omega (arith, lt);
    }

pub returns-clause-start : goal.returns-clause-start
returns-clause-start c =
    let r = c.loop-row.invariant.row in
    let same = same-row c.args.text.now c.loop-row.row.start c.args.offset c.loop-row.invariant.behind (omega (arith, r.ends, c.loop-row-test.false)) c.requires.within in
    sym r.starts ∙ sym same.0

pub returns-clause-end : goal.returns-clause-end
returns-clause-end c =
    let r = c.loop-row.invariant.row in
    let same = same-row c.args.text.now c.loop-row.row.start c.args.offset c.loop-row.invariant.behind (omega (arith, r.ends, c.loop-row-test.false)) c.requires.within in
    sym r.ends ∙ sym same.1
