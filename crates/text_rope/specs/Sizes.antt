-- How large a part of a text is.
use Rattle.std.specs.Prelude.{ℕ, ◌+◌, ◌<◌, ◌^◌, List, length, count_by}
use Rattle.sum_core.specs.Sums.{SummaryLaws, total}
use Rattle.std.proofs.Common.{zero-add, add-zero, add_assoc, lt_of_le_of_lt, le-add_left, le-add_right}
use borrow.Author.Tests.{ltb-true}
use Rattle.std.specs.Prelude.{refl}
use Rattle.cell_units.specs.Text.{is_feed}
use Rattle.text_rope.specs.declared.chunk.TextSize.{TextSize}

-- how many bytes a chunk has, and how many line feeds among them
abbrev pub size_of : List ℕ → TextSize
size_of bytes = record { bytes = length bytes; feeds = count_by is_feed bytes; chunks = 1 }

-- sizes are added number by number
abbrev pub joined_size : TextSize → TextSize → TextSize
joined_size a b = record { bytes = a.bytes + b.bytes; feeds = a.feeds + b.feeds; chunks = a.chunks + b.chunks }

-- the size of no chunk
abbrev pub no_size : TextSize
no_size = record { bytes = 0; feeds = 0; chunks = 0 }

-- the size of a list of chunks
abbrev pub total_size : List (List ℕ) → TextSize
total_size chunks = total no_size joined_size size_of chunks

-- each number is a u32
abbrev pub SizeFits : TextSize → Type 0
SizeFits s = (s.bytes < 2 ^ 32) × (s.feeds < 2 ^ 32) × (s.chunks < 2 ^ 32)

none_fits : 0 < 2 ^ 32
none_fits = ltb-true 0 (2 ^ 32) refl

left_fits : (m n : ℕ) → m + n < 2 ^ 32 → m < 2 ^ 32
left_fits m n lt = lt_of_le_of_lt (le-add_right m n) lt

right_fits : (m n : ℕ) → m + n < 2 ^ 32 → n < 2 ^ 32
right_fits m n lt = lt_of_le_of_lt (le-add_left n m) lt

pub size_laws : SummaryLaws no_size joined_size SizeFits
size_laws = record {
  left_identity = λ x i. record { bytes = zero-add x.bytes i; feeds = zero-add x.feeds i; chunks = zero-add x.chunks i };
  right_identity = λ x i. record { bytes = add-zero x.bytes i; feeds = add-zero x.feeds i; chunks = add-zero x.chunks i };
  assoc = λ x y z i. record { bytes = add_assoc x.bytes y.bytes z.bytes i; feeds = add_assoc x.feeds y.feeds z.feeds i; chunks = add_assoc x.chunks y.chunks z.chunks i };
  empty_fits = (none_fits, none_fits, none_fits);
  left_fits = λ x y f. (left_fits x.bytes y.bytes f.0, left_fits x.feeds y.feeds f.1, left_fits x.chunks y.chunks f.2);
  right_fits = λ x y f. (right_fits x.bytes y.bytes f.0, right_fits x.feeds y.feeds f.1, right_fits x.chunks y.chunks f.2);
}
