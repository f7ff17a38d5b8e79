use Rattle.std.proofs.Common.{ℕ, List, [], length, get_or, flat_map, ap, sym, ◌∙◌}
use Rattle.std.specs.List.{after_last, sum_by}
use Rattle.cell_units.specs.Cutting.{cut_lines}
use Rattle.cell_units.specs.Inlaid.{Token, bytes_of, is_break}
use Rattle.plain_rows.specs.FoldedLines.{is_end}
use Rattle.plain_rows.specs.inside.Passed.{passed_bytes}
use Rattle.plain_rows.proofs.Positions.{place-found}
use Rattle.plain_rows.proofs.folded_lines.FoldedLines.place_in_line.Goals as goal

pub returns : goal.returns
returns c = λ source are le.
    let same = c.outside-offset.ensures source are le in
    let o : ℕ = c.outside-offset.result.0 in
    let bias = c.outside-offset.result.1 in
    let parts = c.args.self.now.parts in
    c.bytes_before.ensures
    ∙ ap (sum_by (passed_bytes o bias)) (c.line.ensures.parts ∙ ap (λ (k : ℕ). get_or (cut_lines is_end parts) k []) (c.lines_before.ensures.count source are))
    ∙ sym (place-found source c.args.self.now are o bias same.within same.outside)
    ∙ sym (ap (λ (ts : List Token). length (flat_map bytes_of (after_last is_break ts))) same.same)
