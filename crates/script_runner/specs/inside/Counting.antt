-- How a tally goes on, line by line.
use Rattle.std.specs.Prelude.{ℕ, ◌+◌, ◌<◌, ◌≤◌, ◌^◌}
use Rattle.script_runner.specs.declared.tally.Outcome.{Outcome}
use Rattle.script_runner.specs.declared.tally.Outcome.TheVariants as outcomes
use Rattle.script_runner.specs.declared.tally.Tally.{Tally}

-- one more line was handled: whether it is refused as a number, and how many lines it was answered with
abbrev pub counted : Tally → (refused answers : ℕ) → Tally
counted t refused answers =
    record { handled = t.handled + 1; refused = t.refused + refused; answers = t.answers + answers }

-- ... of which this became
abbrev pub tallied : Tally → Outcome → Tally
tallied t outcomes.Skipped = t
tallied t (outcomes.Accepted lines) = counted t 0 lines
tallied t outcomes.Refused = counted t 1 1

-- there is room for one more line
pub record MayCount (t : Tally) : Type 0 where
  pub handled : t.handled + 1 < 2 ^ 64
  pub refused : t.refused + 1 < 2 ^ 64
  pub answers : t.answers + 2 ^ 64 < 2 ^ 128

-- at most one line more was handled, and it has an answer of fewer than 2 ^ 64 lines
pub record IsAtMostOneMore (old new : Tally) : Type 0 where
  pub handled : new.handled ≤ old.handled + 1
  pub refused : new.refused ≤ old.refused + 1
  pub answers : new.answers < old.answers + 2 ^ 64
