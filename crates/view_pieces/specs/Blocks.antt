-- The blocks at a display line.
use Rattle.std.specs.Prelude.{ℕ, ◌==◌, if◌then◌else◌, length, Option, Some, None}
use Rattle.cell_units.specs.Record.{Block, Record}
use Rattle.plain_rows.specs.Rows.{line_of_block}

-- how many lines a block has, if there is one and it lies at this line
abbrev pub lines_there : Record → ℕ → Option Block → Option ℕ
lines_there r line None = None
lines_there r line (Some b) =
    if line_of_block r b == line then Some (length b.lines) else None
