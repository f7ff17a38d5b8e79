use Rattle.std.proofs.Common.{◌≡◌, ◌∙◌, ℕ, ◌+◌, ◌-◌, ◌<◌, List, ◌++◌, drop, take, ap, sym, arith, append_assoc}
use Rattle.plain_rows.specs.Rows.{Row}
use Rattle.block_map.specs.Between.{rows_between}
use Rattle.plain_rows.specs.ShownRows.{shown_rows}
use Rattle.block_map.proofs.RowRuns.{clear-end, clear-zone}
use Rattle.block_map.proofs.Windows.{window-join}
use Rattle.block_map.proofs.snapshot.BlockSnapshot.push_lines.Goals as goal

pub push_line-requires-clause-within : goal.push_line-requires-clause-within
push_line-requires-clause-within g c =
    omega (arith, c.requires.order, clear-end c.args.self.now c.text_rows-count.ensures.lawful c.args.row c.args.text_row (c.args.end - c.args.row) c.requires.zone c.requires.clear c.requires.within)

pub push_line-requires-clause-zone : goal.push_line-requires-clause-zone
push_line-requires-clause-zone g c lives outlives =
    let b = c.args.self.now in
    let j = c.lines.next - c.args.row in
    let at : c.args.row + j ≡ c.lines.next = omega (arith, c.lines.invariant.begun) in
    let few : j < c.args.end - c.args.row = omega (arith, c.lines-test.true, c.lines.invariant.begun) in
    let t = c.args.text_row + j in
    let z = clear-zone b c.args.row c.args.text_row (c.args.end - c.args.row) c.requires.zone c.requires.clear c.requires.within j few in
    record { there = z.there; start = z.start ∙ at; end = omega (arith, z.end, at) }

pub lines-preserved : goal.lines-preserved
lines-preserved g c =
    let all = rows_between c.args.self.now in
    let m = c.lines.next - c.args.row in
    let n = c.in_ok-next.next - c.lines.next in
    let there : c.args.row + m ≡ c.lines.next = omega (arith, c.lines.invariant.begun) in
    let size : m + n ≡ c.in_ok-next.next - c.args.row = omega (arith, c.lines.invariant.begun, c.in_ok-next.ensures.some.0) in
    record {
      begun = omega (arith, c.lines.invariant.begun, c.in_ok-next.ensures.some.0);
      within = c.in_ok-next.ensures.some.1;
      rows =
          c.in_ok-next.ensures.rows
          ∙ ap (λ (l : List Row). l ++ take n (drop c.lines.next all)) c.lines.invariant.rows
          ∙ append_assoc (shown_rows c.args.shown.now.items) (take m (drop c.args.row all)) (take n (drop c.lines.next all))
          ∙ ap (λ (l : List Row). shown_rows c.args.shown.now.items ++ l)
          (ap (λ (k : ℕ). take m (drop c.args.row all) ++ take n (drop k all)) (sym there)
          ∙ sym (window-join all c.args.row m n)
          ∙ ap (λ (k : ℕ). take k (drop c.args.row all)) size);
    }
