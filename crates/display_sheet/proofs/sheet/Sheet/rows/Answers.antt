use Rattle.std.proofs.Common.{◌++◌, ◌<◌, ◌≤◌, ℕ, List, [], length, take, drop, get_or, flat_map, refl, ap, sym, subst, ◌∙◌, arith}
use Rattle.std.proofs.lemmas.List.{take_all}
use Rattle.cell_units.specs.declared.place.Side.TheVariants.{Above, Below}
use Rattle.plain_rows.specs.Plain.{row_pairs}
use Rattle.plain_rows.specs.Rows.{Row, blocks_at, line_rows, rows_by_line, rows_of}
use Rattle.plain_rows.proofs.RowsOfLines.{length-rows_by_line, rows-more}
use Rattle.display_sheet.specs.Windows.{shown_pairs}
use Rattle.display_sheet.proofs.Windows.{HasKept, Pairs, kept-append, kept-full, kept-rows, rows-split, window-nil}
use Rattle.display_sheet.proofs.sheet.Sheet.rows.Goals as goal

pub loop-line-init : goal.loop-line-init
loop-line-init c = record {
  rows = record { kept = ap shown_pairs c.new.ensures.items ∙ sym (window-nil c.args.count c.args.first); skip = omega arith; left = omega arith };
  above = record { before = λ k lt own. absurd (omega (arith, lt)); behind = λ k le within own. omega arith; within = omega arith };
  below = record { before = λ k lt own. absurd (omega (arith, lt)); behind = λ k le within own. omega arith; within = omega arith };
}

pub loop-line-preserved : goal.loop-line-preserved
loop-line-preserved c =
    let r = c.args.self.now in
    let marked = c.lawful.ensures.marked in
    let line : ℕ = c.loop-line.line in
    let lt : line < length r.marks = omega (arith, c.loop-line-test.true, c.lines-line-end.ensures, c.lawful.ensures.marked) in
    let texts = get_or (line_rows r) line [] in
    let before = row_pairs (flat_map (λ rows. rows) (take line (rows_by_line r))) in
    let above = row_pairs (blocks_at r Above line) in
    let below = row_pairs (blocks_at r Below line) in
    let first : ℕ = c.args.first in
    let count : ℕ = c.args.count in
    record {
      rows =
          subst (λ (rows : Pairs). HasKept first count rows c.pass_blocks-in-loop-line.new.window) (sym (rows-more r marked line texts lt refl))
          (kept-append first count ((before ++ above) ++ row_pairs texts) below c.pass_line.new.window c.pass_blocks-in-loop-line.new.window
          (kept-append first count (before ++ above) (row_pairs texts) c.pass_blocks.new.window c.pass_line.new.window
          (kept-append first count before above c.loop-line.window c.pass_blocks.new.window c.loop-line.invariant.rows c.in_ok-above.ensures.rows) c.in_ok-pass_line.ensures) c.in_ok-below.ensures.rows);
      above = c.in_ok-above.ensures.before;
      below = c.in_ok-below.ensures.before;
    }

pub returns : goal.returns
unfolding rows_of
returns c =
    let r = c.args.self.now in
    let marked = c.lawful.ensures.marked in
    let ended : length (rows_by_line r) ≤ c.loop-line.line =
    omega (arith, c.loop-line-test.false, c.lines-line-end.ensures, c.lawful.ensures.marked, length-rows_by_line r marked) in
    let all = ap (λ (ls : List (List Row)). row_pairs (flat_map (λ rows. rows) ls)) (take_all c.loop-line.line (rows_by_line r) ended) in
    kept-rows c.args.first c.args.count c.loop-line.window.rows.items (flat_map (λ rows. rows) (rows_by_line r))
    (c.loop-line.invariant.rows.kept ∙ ap (λ (rows : Pairs). take c.args.count (drop c.args.first rows)) all)

pub returns-then-window-eq0 : goal.returns-then-window-eq0
unfolding rows_of
returns-then-window-eq0 c =
    let r = c.args.self.now in
    let line : ℕ = c.loop-line.line in
    let lines = rows_by_line r in
    kept-rows c.args.first c.args.count c.loop-line.window.rows.items (flat_map (λ rows. rows) lines)
    (kept-full c.args.first c.args.count (row_pairs (flat_map (λ rows. rows) (take line lines))) (row_pairs (flat_map (λ rows. rows) (drop line lines))) c.loop-line.window c.loop-line.invariant.rows (omega (arith, c.if-window-eq0.true))
    ∙ ap (λ (rows : Pairs). take c.args.count (drop c.args.first rows)) (sym (rows-split lines line)))
