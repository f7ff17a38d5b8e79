-- How many steps a sheet takes to judge a replacement and to do it, at a height h that no tree of the record exceeds.
use Rattle.std.specs.Prelude.{ℕ, ◌+◌, ◌*◌, ◌≤◌}
use Rattle.cell_units.specs.Operation.{Operation, operated}
use Rattle.cell_units.specs.Record.{Record}
use Rattle.plain_rows.specs.Reach.{HasHeight, reach_of_operation, working}

-- so many offsets are looked up in the text: one way down its tree for each
abbrev pub LooksAtMost : ℕ → Record → ℕ → ℕ → Type 0
LooksAtMost offsets r old new = (h : ℕ) → HasHeight h r → new ≤ old + offsets * (h + 1)

-- A replacement takes at most what an operation may, less the two ways on which its caller looked up its range.
abbrev pub ReplacesAtMost : Operation → Record → ℕ → ℕ → Type 0
ReplacesAtMost operation r old new =
    (h : ℕ) → HasHeight h r → HasHeight h (operated operation r) →
    new + 2 * (h + 1) ≤ old + working (reach_of_operation operation r) h
