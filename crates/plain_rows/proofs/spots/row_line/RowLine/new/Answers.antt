use Rattle.std.proofs.Common.{List, length, ap, ◌∙◌, arith}
use Rattle.cell_line.specs.declared.element.Element.{Element}
use Rattle.cell_line.specs.Wrapping.{indent_of}
use Rattle.plain_rows.proofs.SpotLines.{cuts-few, indent-narrow}
use Rattle.plain_rows.proofs.spots.row_line.RowLine.new.Goals as goal

pub invariant_of-result-clause-indented : goal.invariant_of-result-clause-indented
invariant_of-result-clause-indented c = c.indent-indent.ensures ∙ ap (λ (es : List Element). indent_of es c.args.width) c.as_slice-2.ensures.value

pub invariant_of-result-clause-count : goal.invariant_of-result-clause-count
invariant_of-result-clause-count c =
    omega (arith, ap length (c.in_ok-cuts.ensures), cuts-few c.as_slice.result.now c.args.width, c.as_slice.ensures.len, c.requires.count)

pub invariant_of-result-clause-narrow : goal.invariant_of-result-clause-narrow
invariant_of-result-clause-narrow c =
    omega (arith, c.indent-indent.ensures, indent-narrow c.as_slice-2.result.now c.args.width c.requires.width)
