-- One name to unfold where a proof computes the rows and spots of a record that is written out.
use Rattle.unicode_segmentation.proofs.Computing.{unicode_segmentation}
use Rattle.unicode_width.proofs.Computing.{unicode_width}
use Rattle.cell_line.specs.Wrapping.{cuts_of, ends_well, fits, greatest, next_start_of, row_starts, trimmed}
use Rattle.plain_rows.specs.Rows.{rows_by_line, rows_of}
use Rattle.plain_rows.specs.Spots.{back, clip, is_open, offsets_at, show}

-- `unfolding plain_rows` lets `refl` compute `rows_of`, `show`, `clip` and `back`
unfoldable pub plain_rows : Unit {0}
unfolding unicode_segmentation unicode_width cuts_of ends_well fits greatest next_start_of row_starts trimmed rows_by_line rows_of back clip is_open offsets_at show
plain_rows = tt
