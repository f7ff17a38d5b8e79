use Rattle.std.proofs.Common.{◌≡◌, ◌==◌, drop}
use Rattle.std.specs.List.{find}
use Rattle.display_map.proofs.outs.found.Given as goal

abbrev pub invariant-loop-out : goal.invariant-loop-out
invariant-loop-out l = find (λ out. out.number == l.number) (drop l.out-index l.outs) ≡ find (λ out. out.number == l.number) l.outs
