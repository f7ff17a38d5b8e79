use Rattle.std.proofs.Common.{◌≡◌, [], All, length}
use Rattle.wrap_map.proofs.landing.no_cuts.Given as goal

abbrev pub invariant-loop : goal.invariant-loop
invariant-loop l = record {
  count : length l.wraps.items ≡ l.counter;
  empty : All (λ cuts. cuts.items ≡ []) l.wraps.items;
}
