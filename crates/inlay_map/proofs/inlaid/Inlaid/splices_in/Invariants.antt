use Rattle.std.proofs.Common.{◌≡◌, ◌+◌, ◌-◌, ◌*◌, ◌≤◌, ℕ, length, take, drop}
use Rattle.inlay_map.specs.Bounds.{IsHeight, measuring}
use Rattle.inlay_map.specs.Splices.{before_at, splices_from}
use Rattle.inlay_map.proofs.inlaid.Inlaid.splices_in.Given as goal

-- the splices so far, how much text is before the next, that the counter hasn't fallen, and the steps so far
abbrev pub invariant-loop-at : goal.invariant-loop-at
invariant-loop-at l =
    (l.splices.items ≡ take (l.at - l.fn.from) (drop l.fn.from (splices_from l.self.text 0 l.self.inlays)))
    × (l.reached ≡ before_at l.self l.at)
    × (l.initial.steps ≤ l.steps)
    × ((h : ℕ) → IsHeight h l.self.text (length l.self.inlays) → l.steps ≤ l.initial.steps + (l.at - l.fn.from) * measuring h)
