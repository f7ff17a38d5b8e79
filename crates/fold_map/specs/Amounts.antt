-- How much of a layer there is, by the buffer's bytes, the bytes of the layer's text and the line feeds in that.
use Rattle.std.specs.Prelude.{ℕ, ◌+◌, ◌-◌, ◌<◌, ◌^◌, refl}
use Rattle.std.proofs.Common.{zero-add, add-zero, add_assoc, le-add_left, le-add_right, arith}
use Rattle.cell_units.specs.declared.place.Bias.{Bias}
use Rattle.cell_units.specs.Folded.{line_of}
use Rattle.cell_units.specs.Layers.{Source, place_of}
use Rattle.sum_core.specs.Sums.{SummaryLaws}
use Rattle.sum_core.specs.Measures.{MeasureLaws, CountLaws}
use Rattle.fold_map.specs.declared.amount.Amount.{Amount}

abbrev pub nothing : Amount
nothing = record { buffer = 0; bytes = 0; feeds = 0 }

abbrev pub together : Amount → Amount → Amount
together a b = record { buffer = a.buffer + b.buffer; bytes = a.bytes + b.bytes; feeds = a.feeds + b.feeds }

abbrev pub AmountFits : Amount → Type 0
AmountFits a = (a.buffer < 2 ^ 32) × (a.bytes < 2 ^ 32) × (a.feeds < 2 ^ 32)

abbrev pub buffer_of : Amount → ℕ
buffer_of a = a.buffer

abbrev pub bytes_of : Amount → ℕ
bytes_of a = a.bytes

abbrev pub feeds_of : Amount → ℕ
feeds_of a = a.feeds

-- the display line of a position
abbrev pub line_at : Source → ℕ → Bias → ℕ
line_at s o bias = line_of s.text s.inlays s.folds o bias

-- how much there is from one position of a layer to another
abbrev pub amount_between : Source → ℕ → Bias → ℕ → Bias → Amount
amount_between s o bias p bias' =
    record { buffer = p - o; bytes = place_of s p bias' - place_of s o bias; feeds = line_at s p bias' - line_at s o bias }

pub amount_laws : SummaryLaws nothing together AmountFits
amount_laws = record {
  left_identity = λ x i. record { buffer = zero-add x.buffer i; bytes = zero-add x.bytes i; feeds = zero-add x.feeds i };
  right_identity = λ x i. record { buffer = add-zero x.buffer i; bytes = add-zero x.bytes i; feeds = add-zero x.feeds i };
  assoc = λ x y z i. record { buffer = add_assoc x.buffer y.buffer z.buffer i; bytes = add_assoc x.bytes y.bytes z.bytes i; feeds = add_assoc x.feeds y.feeds z.feeds i };
  empty_fits = (omega arith, omega arith, omega arith);
  left_fits = λ x y f. (omega arith, omega arith, omega arith);
  right_fits = λ x y f. (omega arith, omega arith, omega arith);
}

pub buffer_measure : MeasureLaws together AmountFits buffer_of
buffer_measure = record { left_at_most = λ x y f. le-add_right x.buffer y.buffer; right_at_most = λ x y f. le-add_left y.buffer x.buffer }

pub buffer_count : CountLaws nothing together buffer_of
buffer_count = record { none = refl; adds = λ x y. refl }

pub bytes_measure : MeasureLaws together AmountFits bytes_of
bytes_measure = record { left_at_most = λ x y f. le-add_right x.bytes y.bytes; right_at_most = λ x y f. le-add_left y.bytes x.bytes }

pub bytes_count : CountLaws nothing together bytes_of
bytes_count = record { none = refl; adds = λ x y. refl }

pub feeds_measure : MeasureLaws together AmountFits feeds_of
feeds_measure = record { left_at_most = λ x y f. le-add_right x.feeds y.feeds; right_at_most = λ x y f. le-add_left y.feeds x.feeds }

pub feeds_count : CountLaws nothing together feeds_of
feeds_count = record { none = refl; adds = λ x y. refl }
