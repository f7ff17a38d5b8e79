-- Sums of bytes.
use Rattle.std.specs.Prelude.{ℕ, ◌+◌, ◌<◌, ◌^◌, refl}
use Rattle.std.proofs.Common.{zero-add, add-zero, add_assoc, le-add_left, le-add_right, arith}
use Rattle.sum_core.specs.Sums.{SummaryLaws}
use Rattle.sum_core.specs.Measures.{MeasureLaws, CountLaws}
use Rattle.splice_tree.specs.declared.bytes.Bytes.{Bytes}

abbrev pub no_bytes : Bytes
no_bytes = record { bytes = 0 }

abbrev pub more_bytes : Bytes → Bytes → Bytes
more_bytes a b = record { bytes = a.bytes + b.bytes }

abbrev pub BytesFit : Bytes → Type 0
BytesFit s = s.bytes < 2 ^ 32

abbrev pub bytes_of : Bytes → ℕ
bytes_of s = s.bytes

pub bytes_laws : SummaryLaws no_bytes more_bytes BytesFit
bytes_laws = record {
  left_identity = λ x i. record { bytes = zero-add x.bytes i };
  right_identity = λ x i. record { bytes = add-zero x.bytes i };
  assoc = λ x y z i. record { bytes = add_assoc x.bytes y.bytes z.bytes i };
  empty_fits = omega arith;
  left_fits = λ x y f. omega arith;
  right_fits = λ x y f. omega arith;
}

pub bytes_measure : MeasureLaws more_bytes BytesFit bytes_of
bytes_measure = record { left_at_most = λ x y f. le-add_right x.bytes y.bytes; right_at_most = λ x y f. le-add_left y.bytes x.bytes }

pub bytes_count : CountLaws no_bytes more_bytes bytes_of
bytes_count = record { none = refl; adds = λ x y. refl }
