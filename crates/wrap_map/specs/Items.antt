-- How many items a map keeps: each line with cuts, and each maximal run of lines without cuts at one mark.
use Rattle.std.specs.Prelude.{ℕ}
use Rattle.wrap_map.specs.Standing.{Standing, stood_of}
use Rattle.wrap_map.specs.Stood.{runs_in}

abbrev pub items_of : Standing → ℕ
items_of s = runs_in (stood_of s)
