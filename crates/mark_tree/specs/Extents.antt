-- How far runs of entries reach.
use Rattle.std.specs.Prelude.{ℕ, ◌+◌, ◌-◌, ◌<◌, ◌^◌, max, Option, None}
use Rattle.mark_tree.specs.declared.extent.Extent.{Extent}
use Rattle.mark_tree.specs.declared.extent.ByItems.{ByItems}
use Rattle.mark_tree.specs.declared.extent.ByOffset.{ByOffset}
use Rattle.mark_tree.specs.declared.extent.ByEnd.{ByEnd}
use Rattle.mark_tree.specs.declared.id_range.IdRange.{IdRange}
use Rattle.mark_tree.specs.IdRanges.{all_ids}

abbrev pub extent : ℕ → ℕ → ℕ → Option IdRange → Extent
extent items span hang ids = record { items = items; span = span; hang = hang; ids = ids }

abbrev pub none : Extent
none = extent 0 0 0 None

-- the extent of a run and the one after it, which begins at the first one's last offset
abbrev pub both : Extent → Extent → Extent
both a b =
    extent (a.items + b.items) (a.span + b.span) (max (a.hang - b.span) b.hang) (all_ids a.ids b.ids)

-- where the greatest end lies
abbrev pub end_of : Extent → ℕ
end_of e = e.span + e.hang

abbrev pub IsFitting : Extent → Type 0
IsFitting e = (e.items < 2 ^ 32) × (end_of e < 2 ^ 32)

-- the same sum by the number of entries, with the offset that they reach
abbrev pub by_items : Extent → ByItems
by_items e = record { items = e.items; span = e.span }

abbrev pub add_items : ByItems → ByItems → ByItems
add_items a b = record { items = a.items + b.items; span = a.span + b.span }

abbrev pub CanAddItems : ByItems → ByItems → Type 0
CanAddItems a b = (a.items + b.items < 2 ^ 64) × (a.span + b.span < 2 ^ 64)

-- the same sum by the last offset, with the number of entries
abbrev pub by_offset : Extent → ByOffset
by_offset e = record { span = e.span; items = e.items }

abbrev pub add_offsets : ByOffset → ByOffset → ByOffset
add_offsets a b = record { span = a.span + b.span; items = a.items + b.items }

abbrev pub CanAddOffsets : ByOffset → ByOffset → Type 0
CanAddOffsets a b = (a.span + b.span < 2 ^ 64) × (a.items + b.items < 2 ^ 64)

-- the same sum by the greatest end, with the offset that they reach and the number of entries
abbrev pub by_end : Extent → ByEnd
by_end e = record { end = end_of e; span = e.span; items = e.items }

abbrev pub add_ends : ByEnd → ByEnd → ByEnd
add_ends a b = record { end = max a.end (a.span + b.end); span = a.span + b.span; items = a.items + b.items }

abbrev pub CanAddEnds : ByEnd → ByEnd → Type 0
CanAddEnds a b = (a.span + b.end < 2 ^ 64) × (a.span + b.span < 2 ^ 64) × (a.items + b.items < 2 ^ 64)
