-- No block comes before a line past the last one, and lines don't fall from one to the next.
use Rattle.std.proofs.Common.{ℕ, ◌+◌, ◌-◌, ◌/◌, sym, ap, ◌∙◌, arith}
use Rattle.map_sheet.proofs.ListedBlocks.{gone}
use Rattle.map_sheet.proofs.Sent.{sheet_sent}
use Rattle.view_pieces.specs.inside.Blocks.{comes_before}
use Rattle.view_pieces.proofs.SideBlocks.{few-on, lower-before, upper-others}
use Rattle.view_pieces.proofs.block_rows.blocks_before.Goals as goal

pub search-init : goal.search-init
search-init c =
    let r = c.args.sheet.now in
    let b = c.blocked.result.now in
    record {
      order = omega arith;
      before = λ k lt. absurd (omega (arith, lt));
      others = λ k le. ap (comes_before r c.args.line) (gone r b c.blocked.ensures c.args.side k (omega (arith, le, c.len-high.ensures, few-on c.args.side b)));
      counted = omega arith;
    }

pub search-preserved-then-comes_before : goal.search-preserved-then-comes_before
search-preserved-then-comes_before c =
    let r = c.args.sheet.now in
    let middle : ℕ = c.search.low + (c.search.high - c.search.low) / 2 in
    let on = sym c.comes_before.ensures.before ∙ c.if-comes_before.true in
    record {
      order = omega (arith, c.search-test.true);
      before = λ k lt. lower-before r c.lawful.ensures.lawful c.args.side c.args.line k middle (omega (arith, lt)) on;
      others = c.search.invariant.others;
      counted = omega (arith, c.search.invariant.counted, c.comes_before.ensures.counted);
    }

pub search-preserved : goal.search-preserved
search-preserved c =
    let r = c.args.sheet.now in
    let middle : ℕ = c.search.low + (c.search.high - c.search.low) / 2 in
    let off = sym c.comes_before.ensures.before ∙ c.if-comes_before.false in
    record {
      order = omega arith;
      before = c.search.invariant.before;
      others = λ k le. upper-others r c.lawful.ensures.lawful c.args.side c.args.line middle k le off;
      counted = omega (arith, c.search.invariant.counted, c.comes_before.ensures.counted);
    }

pub len-high-requires-send-R : goal.len-high-requires-send-R
len-high-requires-send-R c κs = search sheet_sent depth 12 fits 4000

pub len-high-requires-sync-R : goal.len-high-requires-sync-R
len-high-requires-sync-R c κs = search sheet_sent depth 12 fits 4000
