-- A count as the sum of a list.
use Rattle.std.specs.Prelude.{ℕ}
use Rattle.bench_trees.specs.declared.entry.Count.{Count}

abbrev pub counted : ℕ → Count
counted n = record { 0 = n }
