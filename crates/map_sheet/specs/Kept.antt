-- What a sheet over the maps keeps.
use Rattle.std.specs.Prelude.{◌≡◌, ◌≤◌, length}
use Rattle.cell_units.specs.declared.limits.TheConstants.{LAID_LIMIT}
use Rattle.cell_units.specs.Lawful.{IsLawful, source_of}
use Rattle.cell_units.specs.Layers.{Source}
use Rattle.cell_units.specs.Record.{Record, block_le}
use Rattle.cell_units.specs.Sorting.{sort_by}
use Rattle.plain_rows.specs.Plain.{marks_of}
use Rattle.display_sheet.specs.Shown.{unstamped}
use Rattle.kept_sheet.specs.Kept.{widths_of}
use Rattle.block_map.specs.Maps.{BlockState, blocks_of}
use Rattle.wrapped_lines.specs.WrappedSource.{WrappedSource}
use Rattle.blocked_rows.specs.Records.{kept_blocks, row_texts}

-- the record of a text with its inlays and folds, of its lines as they are wrapped, and of the blocks between their rows
abbrev pub record_in : Source → WrappedSource → BlockState → Record
record_in source lines blocks = record {
  text = source.text;
  inlays = source.inlays;
  folds = source.folds;
  blocks = sort_by block_le (blocks_of blocks);
  tab = lines.tab;
  width = lines.width;
  marks = marks_of lines.marks;
  next_stamp = length lines.marks;
}

-- the lines of a record, as they are wrapped
abbrev pub lines_in : Record → WrappedSource
lines_in r = record { source = source_of r; tab = r.tab; width = r.width; marks = widths_of r }

-- The record is lawful, its stamps count its lines, and each of the three has its part of it.
pub record Keeps (r : Record) (source : Source) (lines : WrappedSource) (blocks : BlockState) : Type 0 where
  pub lawful : IsLawful r
  pub short : length r.text ≤ LAID_LIMIT
  pub plain : unstamped r ≡ r
  pub source_is : source ≡ source_of r
  pub lines_are : lines ≡ lines_in r
  pub blocks_are : blocks ≡ kept_blocks r (row_texts r)

-- they are those of some record
abbrev pub KeepSome : Source → WrappedSource → BlockState → Type 0
KeepSome source lines blocks = (r : Record) × Keeps r source lines blocks
