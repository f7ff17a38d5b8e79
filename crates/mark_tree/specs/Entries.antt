-- Lists that are coded by the gaps between their offsets.
use Rattle.std.specs.Prelude.{ℕ, ◌≡◌, ◌+◌, ◌-◌, ◌≤◌, ◌<◌, ◌^◌, Some, List, [], ◌∷◌, ◌++◌, map, take, drop, length}
use Rattle.std.specs.List.{All}
use Rattle.cell_units.specs.declared.place.Shift.{Shift}
use Rattle.sum_core.specs.Sums.{total}
use Rattle.mark_tree.specs.declared.extent.Extent.{Extent}
use Rattle.mark_tree.specs.declared.entry.Entry.{Entry}
use Rattle.mark_tree.specs.declared.entry.Placed.{Placed}
use Rattle.mark_tree.specs.Extents.{extent, none, both}
use Rattle.mark_tree.specs.IdRanges.{only}

-- those from place `from` to place `to`
abbrev pub run : {X : Type 0} → ℕ → ℕ → List X → List X
run from to xs = take (to - from) (drop from xs)

module _ {P : Type 0} where
  abbrev pub extent_of : Entry P → Extent
  extent_of e = extent 1 e.gap e.length (Some (only e.id))

  abbrev pub extent_over : List (Entry P) → Extent
  extent_over es = total none both extent_of es

  -- an entry at its offset
  abbrev pub placed_at : ℕ → Entry P → Placed P
  placed_at o e = record { offset = o; bias = e.bias; length = e.length; id = e.id; load = e.load }

  -- the entries at their offsets, where the first one's gap is from the given offset
  abbrev pub placed_from : ℕ → List (Entry P) → List (Placed P)
  placed_from o [] = []
  placed_from o (e ∷ es) = placed_at (o + e.gap) e ∷ placed_from (o + e.gap) es

  abbrev pub entry_of : ℕ → Placed P → Entry P
  entry_of gap p = record { gap = gap; bias = p.bias; length = p.length; id = p.id; load = p.load }

  -- the entries for a list, where the first one's gap is from the given offset
  abbrev pub coded : ℕ → List (Placed P) → List (Entry P)
  coded o [] = []
  coded o (p ∷ ps) = entry_of (p.offset - o) p ∷ coded p.offset ps

  abbrev pub end_at : Placed P → ℕ
  end_at p = p.offset + p.length

  -- the offset of the last, or the given one where there is none
  abbrev pub last_offset : ℕ → List (Placed P) → ℕ
  last_offset o [] = o
  last_offset o (p ∷ ps) = last_offset p.offset ps

  -- the offsets don't fall, from the given one on
  abbrev pub IsSpaced : ℕ → List (Placed P) → Type 0
  IsSpaced o [] = Unit {0}
  IsSpaced o (p ∷ ps) = (o ≤ p.offset) × IsSpaced p.offset ps

  -- A list that can be coded: its offsets don't fall, each end is a u32, and so is the number of its members.
  pub record IsCodable (ps : List (Placed P)) : Type 0 where
    pub spaced : IsSpaced 0 ps
    pub ends : All (λ p. end_at p < 2 ^ 32) ps
    pub small : length ps < 2 ^ 32

  -- what lies after a replacement, once it is done
  abbrev pub shifted : Shift → Placed P → Placed P
  shifted s p = record { offset = p.offset + s.count - (s.end - s.start); bias = p.bias; length = p.length; id = p.id; load = p.load }

  -- others in the place of those from place `from` to place `to`, and all after them shifted
  abbrev pub spliced : ℕ → ℕ → List (Placed P) → Shift → List (Placed P) → List (Placed P)
  spliced from to fresh s ps = take from ps ++ (fresh ++ map (shifted s) (drop to ps))

  -- What takes the place of all up to place `end`: others for those up to place `to`, and the first thing after them.
  -- Each later gap stays.
  pub record IsRefill (ps : List (Placed P)) (to : ℕ) (fresh : List (Placed P)) (s : Shift) (placed : List (Placed P)) (end : ℕ) : Type 0 where
    pub order : to ≤ end
    pub within : end ≤ length ps
    pub same : placed ++ map (shifted s) (drop end ps) ≡ fresh ++ map (shifted s) (drop to ps)
    pub few : length placed ≤ length fresh + 1
    pub gap_kept : end < length ps → (s.end ≤ last_offset 0 (take end ps)) × ((o : ℕ) → last_offset o placed ≡ last_offset 0 (take end ps) + s.count - (s.end - s.start))
