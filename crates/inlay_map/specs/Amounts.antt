-- How much of a text there is, by its bytes and its line feeds.
use Rattle.std.specs.Prelude.{ℕ, ◌+◌, ◌-◌, ◌<◌, ◌^◌, List, length, count_by, refl}
use Rattle.std.proofs.Common.{zero-add, add-zero, add_assoc, le-add_left, le-add_right, arith}
use Rattle.cell_units.specs.Text.{is_feed, row_of}
use Rattle.sum_core.specs.Sums.{SummaryLaws}
use Rattle.sum_core.specs.Measures.{MeasureLaws, CountLaws}
use Rattle.inlay_map.specs.declared.amount.Amount.{Amount}

abbrev pub nothing : Amount
nothing = record { bytes = 0; feeds = 0 }

abbrev pub together : Amount → Amount → Amount
together a b = record { bytes = a.bytes + b.bytes; feeds = a.feeds + b.feeds }

abbrev pub AmountFits : Amount → Type 0
AmountFits a = (a.bytes < 2 ^ 32) × (a.feeds < 2 ^ 32)

abbrev pub bytes_of : Amount → ℕ
bytes_of a = a.bytes

abbrev pub feeds_of : Amount → ℕ
feeds_of a = a.feeds

-- that of a text
abbrev pub amount_of : List ℕ → Amount
amount_of text = record { bytes = length text; feeds = count_by is_feed text }

-- that of a part of a text, from one offset to another
abbrev pub amount_between : List ℕ → ℕ → ℕ → Amount
amount_between text start end = record { bytes = end - start; feeds = row_of text end - row_of text start }

pub amount_laws : SummaryLaws nothing together AmountFits
amount_laws = record {
  left_identity = λ x i. record { bytes = zero-add x.bytes i; feeds = zero-add x.feeds i };
  right_identity = λ x i. record { bytes = add-zero x.bytes i; feeds = add-zero x.feeds i };
  assoc = λ x y z i. record { bytes = add_assoc x.bytes y.bytes z.bytes i; feeds = add_assoc x.feeds y.feeds z.feeds i };
  empty_fits = (omega arith, omega arith);
  left_fits = λ x y f. (omega arith, omega arith);
  right_fits = λ x y f. (omega arith, omega arith);
}

pub bytes_measure : MeasureLaws together AmountFits bytes_of
bytes_measure = record { left_at_most = λ x y f. le-add_right x.bytes y.bytes; right_at_most = λ x y f. le-add_left y.bytes x.bytes }

pub bytes_count : CountLaws nothing together bytes_of
bytes_count = record { none = refl; adds = λ x y. refl }

pub feeds_measure : MeasureLaws together AmountFits feeds_of
feeds_measure = record { left_at_most = λ x y f. le-add_right x.feeds y.feeds; right_at_most = λ x y f. le-add_left y.feeds x.feeds }

pub feeds_count : CountLaws nothing together feeds_of
feeds_count = record { none = refl; adds = λ x y. refl }
