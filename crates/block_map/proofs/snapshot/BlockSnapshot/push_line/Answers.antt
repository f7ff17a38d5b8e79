use Rattle.std.proofs.Common.{◌≡◌, ◌∙◌, ℕ, ◌+◌, ◌-◌, List, ◌++◌, length, take, drop, ap, sym, arith}
use Rattle.plain_rows.specs.Rows.{Row}
use Rattle.block_map.specs.Between.{Between, rows_between}
use Rattle.plain_rows.specs.ShownRows.{shown_rows}
use Rattle.block_map.proofs.RowsInZones.{line-pushed}
use Rattle.block_map.proofs.snapshot.BlockSnapshot.push_line.Goals as goal

pub returns-clause-rows : goal.returns-clause-rows
returns-clause-rows g c =
    let texts = c.in_ok-texts-in-Some.texts.items in
    let count : length texts ≡ c.args.row + c.len-count.result - c.args.row = omega arith in
    c.in_ok-push_texts-in-Some.ensures
    ∙ ap (λ (l : List Row). shown_rows c.args.shown.now.items ++ l)
    (line-pushed c.args.self.now c.text_rows-count.ensures.lawful (g.R.Rows.shown c.self.inside.rows) c.args.row c.args.text_row c.in-Some.line c.in-Some.first (c.args.end - c.args.row) texts (sym (ap (λ (b : Between). b.lines) c.self.view_is)) c.requires.zone c.in-Some.ensures c.in_ok-texts-in-Some.ensures
    ∙ ap (λ (n : ℕ). take n (drop c.args.row (rows_between c.args.self.now))) count)
