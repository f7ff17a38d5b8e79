use Rattle.std.proofs.Common.{◌≡◌, ◌∙◌, Some, ap, arith, subst, sym}
use Rattle.cell_units.specs.Layers.{plain_source}
use Rattle.wrap_map.specs.Standing.{shown_rows}
use Rattle.wrapped_lines.specs.WrappedSource.{row_texts}
use Rattle.block_map.specs.Follows.{IsFollowed}
use Rattle.block_map.specs.Maps.{BlockState}
use Rattle.blocked_rows.specs.Records.{Lines}
use Rattle.blocked_rows.specs.Standing.{ArePlaced}
use Rattle.test_stages.proofs.FollowedText.{AreLinesOf, few-given, follows-replaced}
use Rattle.test_stages.proofs.PlacedBlocks.{placed-after}
use Rattle.test_stages.proofs.blocked.BlockedText.replace.Goals as goal
use Rattle.test_stages.proofs.blocked.BlockedText.replace.Goals.{In_ok-rows}

of : (c : In_ok-rows) → AreLinesOf c.args.self.now.late.text.rope c.args.self.now.late.text.lines
of c =
    let text = c.args.self.now.late.text in
    record {
      source = text.of_text;
      tab = text.tab;
      one_each = text.one_each;
      short = omega (arith, c.len-bytes.ensures.value, c.len-bytes.ensures.within);
    }

then : (c : In_ok-rows) → AreLinesOf c.in_ok-text.text.rope c.in_ok-text.text.lines
then c =
    let text = c.in_ok-text.text in
    record {
      source = text.of_text;
      tab = text.tab;
      one_each = text.one_each;
      short = omega (arith, c.len-after.ensures.value, c.len-after.ensures.within);
    }

given : (c : In_ok-rows) → shown_rows c.in_ok-rows.rows ≡ row_texts c.in_ok-text.text.lines
given c = c.in_ok-rows.ensures ∙ ap shown_rows c.rows.ensures

follows : (c : In_ok-rows) → IsFollowed (plain_source c.in_ok-text.text.rope) (Some c.in_ok-text.change.bytes) c.in_ok-text.change.rows (shown_rows c.in_ok-rows.rows) c.args.self.now.blocks
follows c =
    let m = c.args.self.now in
    let text = c.in_ok-text.text in
    let change = c.in_ok-text.change in
    subst (λ (ls : Lines). IsFollowed (plain_source text.rope) (Some change.bytes) change.rows ls m.blocks) (sym (given c))
    (follows-replaced m.late.text.rope text.rope c.args.put.now c.args.start c.args.end m.late.text.lines text.lines change.bytes change.run change.rows
    m.blocks c.len-bytes.ensures.text c.utf8.put (of c) (then c) c.in_ok-text.ensures.replaced m.rows m.placed)

pub after-requires-after_bounds : goal.after-requires-after_bounds
after-requires-after_bounds c κs = follows (goal.at.after-requires-after_bounds c).In_ok-rows

pub follow-requires : goal.follow-requires
follow-requires c = c.in_ok-text.ensures.replaced.rewrapped.leads

pub invariant_of-self : goal.invariant_of-self
invariant_of-self c =
    let s = (goal.at.invariant_of-self c).In_ok-rows in
    let m = c.args.self.now in
    let text = c.in_ok-text.text in
    let change = c.in_ok-text.change in
    record {
      placed = subst (λ t. ArePlaced (plain_source t.rope) c.in_ok-blocks.blocks) (sym c.follow.ensures.text)
          (placed-after (plain_source m.late.text.rope) (plain_source text.rope) (shown_rows c.in_ok-rows.rows) (Some change.bytes) change.rows m.blocks
          c.in_ok-blocks.blocks m.placed (follows s) (few-given text.rope text.lines (then s) (shown_rows c.in_ok-rows.rows) (given s)) c.in_ok-blocks.ensures.made);
      rows = ap (λ (b : BlockState). b.lines) c.in_ok-blocks.ensures.made ∙ given s ∙ ap (λ t. row_texts t.lines) (sym c.follow.ensures.text);
    }
