use Rattle.std.proofs.Common.{◌≡◌, ◌-◌, ◌<◌, ℕ, List, [], length, take, drop, get_or, ap, sym, subst, ◌∙◌, arith}
use Rattle.std.proofs.lemmas.List.{get_or_past}
use Rattle.cell_units.specs.Cutting.{cut_lines}
use Rattle.plain_rows.specs.declared.folded_lines.LineEnd.{LineEnd}
use Rattle.plain_rows.specs.declared.folded_lines.Part.TheVariants.{Buffer}
use Rattle.plain_rows.specs.FoldedLines.{before_all, is_end}
use Rattle.plain_rows.specs.inside.PartPieces.{line_from}
use Rattle.plain_rows.specs.inside.Passed.{part_bytes}
use Rattle.plain_rows.proofs.EndsOfLines.{LineAt, length-lines, line-at, sum-part}
use Rattle.plain_rows.proofs.folded_lines.line_parts.Goals as goal

abbrev none : LineEnd
none = record { parts = 0; feed = Buffer 0 0 }

pub returns-then-line-ends-clause-parts : goal.returns-then-line-ends-clause-parts
returns-then-line-ends-clause-parts c =
    let parts = c.args.parts.now in
    sym (get_or_past (cut_lines is_end parts) c.args.line [] (omega (arith, c.if-line-ends.true, ap length c.requires.laid.ends_are, length-lines 0 before_all parts c.requires.laid.closed)))

pub offset_bounds-parts-start : goal.offset_bounds-parts-start
offset_bounds-parts-start c =
    let parts = c.args.parts.now in
    let ends = c.args.ends.now in
    let line : ℕ = c.args.line in
    let lt : line < length ends = omega (arith, c.if-line-ends.false) in
    let d : LineEnd = record { parts = 0; feed = Buffer 0 0 } in
    let is = c.requires.laid.ends_are in
    let at : LineAt 0 parts ends (cut_lines is_end parts) line d =
    subst (λ (es : List LineEnd). LineAt 0 parts es (cut_lines is_end parts) line d) (sym is) (line-at 0 parts line d (omega (arith, lt, ap length is))) in
    omega (arith, at.some, at.within, c.line_start-start.ensures)

pub slice_bounds-result-count : goal.slice_bounds-result-count
slice_bounds-result-count c =
    let parts = c.args.parts.now in
    let ends = c.args.ends.now in
    let line : ℕ = c.args.line in
    let lt : line < length ends = omega (arith, c.if-line-ends.false) in
    let d : LineEnd = record { parts = 0; feed = Buffer 0 0 } in
    let is = c.requires.laid.ends_are in
    let at : LineAt 0 parts ends (cut_lines is_end parts) line d =
    subst (λ (es : List LineEnd). LineAt 0 parts es (cut_lines is_end parts) line d) (sym is) (line-at 0 parts line d (omega (arith, lt, ap length is))) in
    omega (arith, at.some, c.line_start-start.ensures)

pub slice_bounds-result-start : goal.slice_bounds-result-start
slice_bounds-result-start c =
    let parts = c.args.parts.now in
    let ends = c.args.ends.now in
    let line : ℕ = c.args.line in
    let lt : line < length ends = omega (arith, c.if-line-ends.false) in
    let d : LineEnd = record { parts = 0; feed = Buffer 0 0 } in
    let is = c.requires.laid.ends_are in
    let at : LineAt 0 parts ends (cut_lines is_end parts) line d =
    subst (λ (es : List LineEnd). LineAt 0 parts es (cut_lines is_end parts) line d) (sym is) (line-at 0 parts line d (omega (arith, lt, ap length is))) in
    omega (arith, at.some, c.line_start-start.ensures)

pub slice_bounds-result-end-2 : goal.slice_bounds-result-end-2
slice_bounds-result-end-2 c =
    let parts = c.args.parts.now in
    let ends = c.args.ends.now in
    let line : ℕ = c.args.line in
    let lt : line < length ends = omega (arith, c.if-line-ends.false) in
    let d : LineEnd = record { parts = 0; feed = Buffer 0 0 } in
    let is = c.requires.laid.ends_are in
    let at : LineAt 0 parts ends (cut_lines is_end parts) line d =
    subst (λ (es : List LineEnd). LineAt 0 parts es (cut_lines is_end parts) line d) (sym is) (line-at 0 parts line d (omega (arith, lt, ap length is))) in
    omega (arith, at.within, c.line_start-start.ensures)

pub returns-clause-parts : goal.returns-clause-parts
returns-clause-parts c =
    let parts = c.args.parts.now in
    let ends = c.args.ends.now in
    let line : ℕ = c.args.line in
    let lt : line < length ends = omega (arith, c.if-line-ends.false) in
    let d : LineEnd = record { parts = 0; feed = Buffer 0 0 } in
    let is = c.requires.laid.ends_are in
    let at : LineAt 0 parts ends (cut_lines is_end parts) line d =
    subst (λ (es : List LineEnd). LineAt 0 parts es (cut_lines is_end parts) line d) (sym is) (line-at 0 parts line d (omega (arith, lt, ap length is))) in
    let zero_from : line_from 0 ends line - 0 ≡ line_from 0 ends line = omega arith in
    let stop : ℕ = (get_or ends line d).parts in
    (λ i. take (stop - c.line_start-start.ensures i) (drop (c.line_start-start.ensures i) parts))
    ∙ ap (λ (k : ℕ). take (stop - line_from 0 ends line) (drop k parts)) (sym zero_from)
    ∙ sym at.is

pub returns-clause-size : goal.returns-clause-size
returns-clause-size c =
    omega (arith, sum-part part_bytes c.args.parts.now c.line_start-start.result ((get_or c.args.ends.now c.args.line none).parts - c.line_start-start.result), c.requires.laid.size)
