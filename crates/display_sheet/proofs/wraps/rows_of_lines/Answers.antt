use Rattle.std.proofs.Common.{◌≡◌, ◌<◌, ℕ, length, take, arith}
use Rattle.std.proofs.lemmas.List.{length-take-le}
use Rattle.std.proofs.lemmas.List.Elements.{All-more}
use Rattle.std.proofs.lemmas.List.Sums.{sum_by_more}
use Rattle.display_sheet.specs.declared.wraps.Wrapped.{Wrapped}
use Rattle.display_sheet.proofs.WrappedRows.{sum-few}
use Rattle.display_sheet.proofs.wraps.rows_of_lines.Goals as goal

abbrev none : Wrapped
none = record { mark = 0; rows = 0 }

pub overflow_add-rows : goal.overflow_add-rows
overflow_add-rows c =
    let lines = c.args.lines.now in
    let i : ℕ = c.loop-line.line-index in
    let long : length (take i lines) ≡ i = length-take-le i lines (omega (arith, c.loop-line-test.true)) in
    omega (
      arith,
      c.loop-line.invariant.sum,
      sum-few (take i lines) (omega (arith, long, c.loop-line-test.true, c.requires)) c.loop-line.invariant.small,
      long,
      c.loop-line-test.true,
      c.requires,
      c.from-rows.ensures,
      c.row_count.type_inv,
    )

pub loop-line-preserved : goal.loop-line-preserved
loop-line-preserved c =
    let lines = c.args.lines.now in
    let i : ℕ = c.loop-line.line-index in
    record {
      sum = omega (arith, c.loop-line.invariant.sum, c.from-rows.ensures, c.row_count.ensures, sum_by_more (λ (w : Wrapped). w.rows) lines i none c.loop-line-test.true);
      small = All-more (λ (w : Wrapped). w.rows < 4294967296) lines i none c.loop-line-test.true c.loop-line.invariant.small (omega (arith, c.row_count.ensures, c.row_count.type_inv));
    }
