use Rattle.std.proofs.Common.{◌≡◌, ◌∙◌, None, ap, arith}
use Rattle.cell_units.specs.Layers.{plain_source}
use Rattle.wrap_map.specs.Standing.{shown_rows}
use Rattle.wrapped_lines.specs.WrappedSource.{row_texts}
use Rattle.block_map.specs.Follows.{IsFollowed}
use Rattle.block_map.specs.Maps.{BlockState, synced}
use Rattle.blocked_rows.specs.Records.{Lines}
use Rattle.test_stages.proofs.FollowedText.{AreLinesOf, few-given, follows-none}
use Rattle.test_stages.proofs.PlacedBlocks.{placed-after}
use Rattle.test_stages.proofs.blocked.BlockedText.show.Goals as goal
use Rattle.test_stages.proofs.blocked.BlockedText.show.Goals.{After-none-none}

of : (c : After-none-none) → AreLinesOf c.args.self.now.late.text.rope c.args.self.now.late.text.lines
of c =
    let text = c.args.self.now.late.text in
    record {
      source = text.of_text;
      tab = text.tab;
      one_each = text.one_each;
      short = omega (arith, c.len-bytes.ensures.value, c.len-bytes.ensures.within);
    }

given : (c : After-none-none) → shown_rows c.in_ok-rows.rows ≡ row_texts c.args.self.now.late.text.lines
given c = c.in_ok-rows.ensures ∙ ap shown_rows c.rows.ensures

follows : (c : After-none-none) → IsFollowed (plain_source c.args.self.now.late.text.rope) None c.none-none.result (shown_rows c.in_ok-rows.rows) c.args.self.now.blocks
follows c =
    let m = c.args.self.now in
    follows-none m.late.text.rope m.late.text.lines (shown_rows c.in_ok-rows.rows) c.none-none.result m.blocks c.len-bytes.ensures.text (given c) c.none-none.ensures
    m.rows m.placed

pub after-requires-after_bounds : goal.after-requires-after_bounds
after-requires-after_bounds c κs = follows (goal.at.after-requires-after_bounds c).After-none-none

pub invariant_of-self-2 : goal.invariant_of-self-2
invariant_of-self-2 c =
    let s = (goal.at.invariant_of-self-2 c).After-none-none in
    let m = c.args.self.now in
    let text = m.late.text in
    let source = plain_source text.rope in
    record {
      placed = placed-after source source (shown_rows c.in_ok-rows.rows) None c.none-none.result m.blocks c.in_ok-blocks.blocks m.placed (follows s)
          (few-given text.rope text.lines (of s) (shown_rows c.in_ok-rows.rows) (given s)) c.in_ok-blocks.ensures.made;
      rows = ap (λ (b : BlockState). b.lines) c.in_ok-blocks.ensures.made ∙ given s;
    }

pub returns-clause-made : goal.returns-clause-made
returns-clause-made c =
    let m = c.args.self.now in
    c.in_ok-blocks.ensures.made
    ∙ ap (λ (ls : Lines). synced (plain_source m.late.text.rope) None ls m.blocks) (given (goal.at.returns-clause-made c).After-none-none)
