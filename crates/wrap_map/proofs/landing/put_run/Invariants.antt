use Rattle.std.proofs.Common.{ℕ, ◌+◌, ◌*◌, ◌^◌, ◌<◌, ◌≤◌, length}
use Rattle.wrap_map.specs.Standing.{Standing, standing_of}
use Rattle.wrap_map.proofs.Carried.{IsLandingTo}
use Rattle.wrap_map.proofs.landing.put_run.Given as goal

abbrev pub invariant-loop-place : goal.invariant-loop-place
invariant-loop-place g l =
    let s : Standing = standing_of (g.N.Lines.elements_by_line l.lines) l.from in
    record {
      landing : IsLandingTo s l.late.since.now l.late.run l.late.mark l.landing (l.late.run.first + l.place);
      counted : l.fn.steps ≤ l.steps;
      steps : (h : ℕ) → length l.from < 2 * 6 ^ (h + 1)
          → l.steps + 4 * length l.landing.fresh ≤ l.fn.steps + l.place * (170 * (h + 1));
    }
