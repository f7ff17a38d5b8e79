-- The rows that changed, as C is given them.
use Rattle.row_pieces.specs.declared.row_change.RowChange.{RowChange}
use Rattle.row_pieces.specs.Changed.{change}
use Rattle.display_ffi.specs.declared.watching.Change.{Change}

abbrev pub row_change : Change → RowChange
row_change given = change given.from given.to given.count
