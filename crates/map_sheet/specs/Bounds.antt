-- How many steps the parts of a change take at most, for each height h that no tree of the record needs more of.
use Rattle.std.specs.Prelude.{ℕ, ◌+◌, ◌≤◌}
use Rattle.cell_units.specs.Operation.{Operation, operated}
use Rattle.cell_units.specs.Record.{Record}
use Rattle.cell_units.specs.Touched.{touched, touched_before}
use Rattle.plain_rows.specs.Reach.{HasHeight, blocks_at_lines}
use Rattle.block_map.specs.Bounds as blocks
use Rattle.wrap_map.specs.Bounds as wraps

-- the blocks at the lines that an operation touches
abbrev pub touched_blocks : Operation → Record → ℕ
touched_blocks operation r = blocks_at_lines (touched_before (touched operation r) r) r

-- so many blocks are shown anew, and so many edits of rows move the others
abbrev pub ShowsAtMost : ℕ → ℕ → Record → ℕ → ℕ → Type 0
ShowsAtMost anew edits r old new = (h : ℕ) → HasHeight h r → new ≤ old + blocks.syncing anew edits h

-- lines make place for others, which is one edit of their rows, and then the blocks at touched lines are shown anew
abbrev pub RelaysAtMost : Operation → Record → ℕ → ℕ → Type 0
RelaysAtMost operation r old new =
    (h : ℕ) → HasHeight h r → HasHeight h (operated operation r) →
    new ≤ old + (wraps.syncing h + blocks.syncing (touched_blocks operation r) 1 h)
