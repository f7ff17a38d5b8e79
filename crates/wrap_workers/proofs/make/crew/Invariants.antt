use Rattle.std.proofs.Common.{◌≡◌, vec_len}
use Rattle.wrap_workers.proofs.make.crew.Given as goal

abbrev pub invariant-loop-made : goal.invariant-loop-made
invariant-loop-made g l =
    (l.tasks ≡ l.initial.tasks) × (vec_len l.team ≡ l._made)
