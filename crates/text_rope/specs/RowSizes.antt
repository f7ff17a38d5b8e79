-- The sizes by which rows are sought, and their order: by the line feeds, then by the bytes, then by the chunks.
use Rattle.std.specs.Prelude.{◌+◌, ◌<◌, ◌^◌, refl}
use Rattle.std.specs.Ordering.{nat_cmp, on, then_cmp}
use Rattle.std.specs.declared.cmp.Ordering.{Ordering}
use Rattle.std.proofs.Common.{le-add_left, le-add_right}
use Rattle.sum_core.specs.Sums.{DimensionLaws}
use Rattle.sum_core.proofs.Counts.{count-left_not_greater, count-right_not_greater}
use Rattle.text_rope.specs.Sizes.{SizeFits, joined_size}
use Rattle.text_rope.specs.Orders.{then_not_greater}
use Rattle.text_rope.specs.declared.chunk.TextSize.{TextSize}
use Rattle.text_rope.specs.declared.rows.RowSize.{RowSize}

-- the same size with the line feeds first
abbrev pub row_size_of : TextSize → RowSize
row_size_of s = record { feeds = s.feeds; bytes = s.bytes; chunks = s.chunks }

abbrev pub joined_rows : RowSize → RowSize → RowSize
joined_rows a b = record { feeds = a.feeds + b.feeds; bytes = a.bytes + b.bytes; chunks = a.chunks + b.chunks }

-- each number is a u32
abbrev pub RowSizeFits : RowSize → Type 0
RowSizeFits s = (s.feeds < 2 ^ 32) × (s.bytes < 2 ^ 32) × (s.chunks < 2 ^ 32)

abbrev pub row_cmp : RowSize → RowSize → Ordering
row_cmp = then_cmp (on (λ s. s.feeds) nat_cmp) (then_cmp (on (λ s. s.bytes) nat_cmp) (on (λ s. s.chunks) nat_cmp))

pub row_dimension : DimensionLaws joined_size SizeFits joined_rows (λ a b. RowSizeFits (joined_rows a b)) row_size_of row_cmp
row_dimension = record {
  of_joined = λ x y. refl;
  fits_joined = λ x y f. (f.1, f.0, f.2);
  left_not_greater = λ x y f. then_not_greater x.feeds (x.feeds + y.feeds) _ (le-add_right x.feeds y.feeds) (then_not_greater x.bytes (x.bytes + y.bytes) _ (le-add_right x.bytes y.bytes) (count-left_not_greater x.chunks y.chunks));
  right_not_greater = λ x y f. then_not_greater y.feeds (x.feeds + y.feeds) _ (le-add_left y.feeds x.feeds) (then_not_greater y.bytes (x.bytes + y.bytes) _ (le-add_left y.bytes x.bytes) (count-right_not_greater x.chunks y.chunks));
}
