use Rattle.std.proofs.Common.{◌≡◌, ◌-◌, ◌<◌, ◌≤◌, ℕ, List, Option, Some, ap, subst, length, arith}
use Rattle.cell_units.specs.Rows.{IsLineAt}
use Rattle.block_map.specs.Between.{Between, IsLastBegun}
use Rattle.block_map.specs.Stops.{texts_at}
use Rattle.block_map.proofs.BegunLines.{begun-before, begun-here}
use Rattle.block_map.proofs.snapshot.BlockSnapshot.line_of_row.Goals as goal
use Rattle.block_map.proofs.snapshot.BlockSnapshot.line_of_row.Goals.{else-line-gt0-via-then-line-gt0+then-at-eq0+else-place-rows_above, else-line-gt0-via-then-line-gt0+else-at-eq0, else-line-gt0-via-else-line-gt0}

pub returns-then-place-rows_above-clause-line : goal.returns-then-place-rows_above-clause-line
returns-then-place-rows_above-clause-line g c =
    let b = c.args.self.now in
    let p = c.place_of-place.result in
    let found = subst (λ (o : Option (ℕ × ℕ)). IsLineAt (g.R.Rows.shown c.self.inside.rows) p.text_row o) c.in-Some.is c.line_at.ensures in
    let here = subst (λ (lines : List (List (List ℕ))). IsLineAt lines p.text_row (Some (c.in-Some.line, c.in-Some.at))) (ap (λ (b : Between). b.lines) c.self.view_is) found in
    begun-before b c.text_rows-count.ensures.lawful c.args.row p.text_row p.at c.in-Some.line c.in-Some.at c.place_of-place.ensures.zone here.0 here.1 here.2
    c.if-at-eq0.true c.if-line-gt0.true (omega (arith, c.if-place-rows_above.true, c.rows_above.ensures.count))

pub returns-clause-line : goal.returns-clause-line
returns-clause-line g c =
    let b = c.args.self.now in
    let p = c.place_of-place.result in
    let found = subst (λ (o : Option (ℕ × ℕ)). IsLineAt (g.R.Rows.shown c.self.inside.rows) p.text_row o) c.in-Some.is c.line_at.ensures in
    let here = subst (λ (lines : List (List (List ℕ))). IsLineAt lines p.text_row (Some (c.in-Some.line, c.in-Some.at))) (ap (λ (b : Between). b.lines) c.self.view_is) found in
    let above : 0 < c.in-Some.line → c.in-Some.at ≡ 0 → length (texts_at p.text_row b.above) ≤ p.at =
    elim c.else-line-gt0.branch [
      | else-line-gt0-via-then-line-gt0+then-at-eq0+else-place-rows_above w ↦ λ some none. omega (arith, w.if-place-rows_above.false, w.rows_above.ensures.count)
      | else-line-gt0-via-then-line-gt0+else-at-eq0 w ↦ λ some none. absurd (w.if-at-eq0.false none)
      | else-line-gt0-via-else-line-gt0 w ↦ λ some none. absurd (omega (arith, some, w.if-line-gt0.false))
    ] in
    begun-here b c.text_rows-count.ensures.lawful c.args.row p.text_row p.at c.in-Some.line c.in-Some.at c.place_of-place.ensures.zone here.0 here.1 here.2 above
