use Rattle.std.proofs.Common.{drop, not, ap, ◌∙◌, arith, length-drop}
use Rattle.std.specs.List.{prefix_len}
use Rattle.std.proofs.lemmas.List.{take_rest}
use Rattle.std.proofs.lemmas.List.Sums.{prefix_len-le-length}
use Rattle.cell_units.specs.Text.{is_feed}
use Rattle.plain_rows.proofs.block_lines.row_end.Goals as goal

pub overflow_cast-result : goal.overflow_cast-result
overflow_cast-result c =
    let same = c.line_len.ensures ∙ ap (prefix_len (λ b. not (is_feed b))) (take_rest c.args.text.now c.args.offset) in
    omega (arith, same, prefix_len-le-length (λ b. not (is_feed b)) (drop c.args.offset c.args.text.now), length-drop c.args.offset c.args.text.now, c.requires.size)

pub overflow_add-result : goal.overflow_add-result
overflow_add-result c =
    let same = c.line_len.ensures ∙ ap (prefix_len (λ b. not (is_feed b))) (take_rest c.args.text.now c.args.offset) in
    omega (arith, same, prefix_len-le-length (λ b. not (is_feed b)) (drop c.args.offset c.args.text.now), length-drop c.args.offset c.args.text.now, c.requires.size, c.requires.within)
