use Rattle.std.proofs.Common.{◌≡◌, ◌∙◌, length, ap, arith, subst, sym}
use Rattle.cell_units.specs.Layers.{plain_source}
use Rattle.wrap_map.specs.Standing.{shown_rows}
use Rattle.wrapped_lines.specs.WrappedSource.{row_texts}
use Rattle.block_map.specs.Maps.{BlockState, state_of}
use Rattle.blocked_rows.specs.Records.{Lines}
use Rattle.blocked_rows.specs.Standing.{ArePlaced}
use Rattle.test_stages.proofs.FollowedText.{AreLinesOf, as-many, few-rows}
use Rattle.test_stages.proofs.PlacedBlocks.{placed-none}
use Rattle.test_stages.proofs.blocked.BlockedText.over.Goals as goal
use Rattle.test_stages.proofs.blocked.BlockedText.over.Goals.{In_ok-rows}

of : (c : In_ok-rows) → AreLinesOf c.args.late.text.rope c.args.late.text.lines
of c = record {
  source = c.args.late.text.of_text;
  tab = c.args.late.text.tab;
  one_each = c.args.late.text.one_each;
  short = omega (arith, c.len-bytes.ensures.value, c.len-bytes.ensures.within);
}

given : (c : In_ok-rows) → shown_rows c.in_ok-rows.rows ≡ row_texts c.args.late.text.lines
given c = c.in_ok-rows.ensures ∙ ap shown_rows c.rows.ensures

pub new-requires-after_bounds : goal.new-requires-after_bounds
new-requires-after_bounds c κs =
    let s = (goal.at.new-requires-after_bounds c).In_ok-rows in
    as-many c.args.late.text.rope c.args.late.text.lines (of s) ∙ ap (λ (ls : Lines). length ls) (sym (given s))

pub invariant_of-result : goal.invariant_of-result
invariant_of-result c =
    let s = (goal.at.invariant_of-result c).In_ok-rows in
    let text = c.args.late.text in
    let made = c.in_ok-blocks.ensures.made ∙ ap state_of (given s) in
    record {
      placed = subst (ArePlaced (plain_source text.rope)) (sym made)
          (placed-none (plain_source text.rope) (row_texts text.lines) (as-many text.rope text.lines (of s)) (few-rows text.rope text.lines (of s)));
      rows = ap (λ (b : BlockState). b.lines) made;
    }
