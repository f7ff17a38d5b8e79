-- A number of rows, as sums of stops have it.
use Rattle.std.specs.Prelude.{ℕ, ◌+◌, ◌<◌, ◌^◌, refl}
use Rattle.std.proofs.Common.{zero-add, add-zero, add_assoc, le-add_left, le-add_right, arith}
use Rattle.sum_core.specs.Sums.{SummaryLaws}
use Rattle.sum_core.specs.Measures.{MeasureLaws, CountLaws}
use Rattle.block_map.specs.declared.row_count.RowCount.{RowCount}

abbrev pub no_rows : RowCount
no_rows = record { rows = 0 }

abbrev pub more_rows : RowCount → RowCount → RowCount
more_rows a b = record { rows = a.rows + b.rows }

abbrev pub RowsFit : RowCount → Type 0
RowsFit c = c.rows < 2 ^ 32

abbrev pub rows_in : RowCount → ℕ
rows_in c = c.rows

pub row_laws : SummaryLaws no_rows more_rows RowsFit
row_laws = record {
  left_identity = λ x i. record { rows = zero-add x.rows i };
  right_identity = λ x i. record { rows = add-zero x.rows i };
  assoc = λ x y z i. record { rows = add_assoc x.rows y.rows z.rows i };
  empty_fits = omega arith;
  left_fits = λ x y f. omega arith;
  right_fits = λ x y f. omega arith;
}

pub row_measure : MeasureLaws more_rows RowsFit rows_in
row_measure = record {
  left_at_most = λ x y f. le-add_right x.rows y.rows;
  right_at_most = λ x y f. le-add_left y.rows x.rows;
}

pub row_counts : CountLaws no_rows more_rows rows_in
row_counts = record { none = refl; adds = λ x y. refl }
