-- Between which ids those of a run of entries lie.
use Rattle.std.specs.Prelude.{ℕ, ◌&&◌, nat_le, min, max, Bool, false, Option, None, Some}
use Rattle.mark_tree.specs.declared.id_range.IdRange.{IdRange}

abbrev pub only : ℕ → IdRange
only id = record { least = id; greatest = id }

abbrev pub both_ids : IdRange → IdRange → IdRange
both_ids r s = record { least = min r.least s.least; greatest = max r.greatest s.greatest }

-- the same where either may have no ids
abbrev pub all_ids : Option IdRange → Option IdRange → Option IdRange
all_ids None s = s
all_ids (Some r) None = Some r
all_ids (Some r) (Some s) = Some (both_ids r s)

-- the id lies between them
abbrev pub may_have : Option IdRange → ℕ → Bool
may_have None id = false
may_have (Some r) id = nat_le r.least id && nat_le id r.greatest
