use Rattle.std.proofs.Common.{◌≡◌, List, ◌++◌}
use Rattle.wrap_workers.specs.Jobs.{JobParts}
use Rattle.wrap_workers.proofs.crews.Crew.put_kept.Given as goal

abbrev pub invariant-loop : goal.invariant-loop
invariant-loop g l =
    (l.self.out ≡ l.initial.self.out)
    × ((put : List (JobParts g.row.N.Denot)) × (l.initial.self.kept ≡ l.self.kept ++ put))
    × (l.self.workers ≡ l.initial.self.workers)
