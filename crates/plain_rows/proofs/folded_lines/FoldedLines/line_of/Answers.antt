use Rattle.std.proofs.Common.{ap, sym, ◌∙◌}
use Rattle.std.specs.List.{count_by}
use Rattle.cell_units.specs.Inlaid.{is_break}
use Rattle.plain_rows.proofs.Positions.{line-found}
use Rattle.plain_rows.proofs.folded_lines.FoldedLines.line_of.Goals as goal

pub returns : goal.returns
returns c = λ source are le.
    let same = c.outside-offset.ensures source are le in
    c.lines_before.ensures.count source are
    ∙ sym (line-found source c.args.self.now are c.outside-offset.result.0 c.outside-offset.result.1 same.within same.outside)
    ∙ sym (ap (count_by is_break) same.same)
