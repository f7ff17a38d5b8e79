-- Stretches: a line with its cuts, or neighbouring lines without cuts, at one mark.
use Rattle.std.specs.Prelude.{◌≡◌, ◌⊎◌, ℕ, ◌+◌, ◌<◌, ◌≤◌, ◌^◌, false, List, [], All, length, flat_map, replicate, Some}
use Rattle.wrap_map.specs.inside.Adjacent.{AllAdjacent}
use Rattle.wrap_map.specs.Stood.{Stood, are_alike, rows_in}
use Rattle.wrap_map.specs.declared.extent.Extent.{Extent}

-- so many lines that are all wrapped so
pub record Stretched : Type 0 where
  pub stood : Stood
  pub lines : ℕ

abbrev pub stretched : ℕ → ℕ → List ℕ → Stretched
stretched mark lines cuts = record { stood = record { mark = mark; cuts = cuts }; lines = lines }

-- it has a line, and no more than one where it has cuts; its rows are u32
pub record IsStretch (s : Stretched) : Type 0 where
  pub some : 1 ≤ s.lines
  pub one : (s.stood.cuts ≡ []) ⊎ (s.lines ≡ 1)
  pub rows_fit : s.lines + length s.stood.cuts < 2 ^ 32

-- each line has a row, and one more for each cut
abbrev pub extent_of : Stretched → Extent
extent_of s =
    record {
      lines = s.lines;
      rows = s.lines + length s.stood.cuts;
      switches = 0;
      ends = Some (record { first = s.stood.mark; last = s.stood.mark });
    }

-- how each line of the stretches is wrapped
abbrev pub spread : List Stretched → List Stood
spread ss = flat_map (λ s. replicate s.lines s.stood) ss

-- neighbours couldn't be one
abbrev pub AreUnlike : Stretched → Stretched → Type 0
AreUnlike a b = are_alike a.stood b.stood ≡ false

-- what is kept: no two neighbours could be one, and the rows, all in all, are u32
pub record AreStretches (ss : List Stretched) : Type 0 where
  pub each : All IsStretch ss
  pub apart : AllAdjacent AreUnlike ss
  pub rows_fit : rows_in (spread ss) < 2 ^ 32
