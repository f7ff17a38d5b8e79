use Rattle.std.proofs.Common.{◌≡◌, ◌+◌, ◌-◌, ◌^◌, length, min, take}
use Rattle.std.specs.Prelude.{sum_by}
use Rattle.wrap_map.specs.Stood.{rows_in}
use Rattle.wrap_map.proofs.landing.may_rise.Given as goal

abbrev pub invariant-loop-cuts : goal.invariant-loop-cuts
invariant-loop-cuts l = record {
  rows : l.rows ≡ min (rows_in l.from + sum_by (λ cuts. length cuts.items) (take l.cuts-index l.wraps)) (2 ^ 64 - 1);
}
