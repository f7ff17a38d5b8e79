-- The record that plain lists make.
use Rattle.std.specs.Prelude.{ℕ, List, length, map}
use Rattle.std.specs.List.{enumerate_from}
use Rattle.cell_units.specs.Record as records
use Rattle.cell_units.specs.Record.{Block, Fold, Mark, Record}
use Rattle.cell_units.specs.Layers.{Source}
use Rattle.plain_rows.specs.declared.plain.Plain.{Plain}
use Rattle.plain_rows.specs.declared.plain.PlainBlock.{PlainBlock}
use Rattle.plain_rows.specs.declared.plain.PlainFold.{PlainFold}
use Rattle.plain_rows.specs.declared.plain.PlainInlay.{PlainInlay}
use Rattle.plain_rows.specs.Rows.{Row}

abbrev pub inlay_of : PlainInlay → records.Inlay
inlay_of i = record { offset = i.offset; bias = i.bias; id = i.id; text = i.text }

abbrev pub fold_of : PlainFold → Fold
fold_of f = record { start = f.start; end = f.end; id = f.id }

abbrev pub block_of : PlainBlock → Block
block_of b = record { offset = b.offset; id = b.id; side = b.side; lines = b.lines.items }

-- a text with inlays in it and folds over it
abbrev pub listed_source : List ℕ → List PlainInlay → List PlainFold → Source
listed_source text inlays folds =
    record { text = text; inlays = map inlay_of inlays; folds = map fold_of folds }

-- no row, spot or offset depends on stamps: here they count the lines
abbrev pub marks_of : List ℕ → List Mark
marks_of widths = map (λ n. record { stamp = n.0; width = n.1 }) (enumerate_from 0 widths)

-- a source with blocks, of which each line has a width
abbrev pub listed_record : Source → List PlainBlock → ℕ → ℕ → List ℕ → Record
listed_record source blocks tab width widths =
    record {
      text = source.text;
      inlays = source.inlays;
      folds = source.folds;
      blocks = map block_of blocks;
      tab = tab;
      width = width;
      marks = marks_of widths;
      next_stamp = length widths;
    }

abbrev pub record_of : Plain → Record
record_of p =
    record {
      text = p.text;
      inlays = map inlay_of p.inlays.items;
      folds = map fold_of p.folds.items;
      blocks = map block_of p.blocks.items;
      tab = p.tab;
      width = p.width;
      marks = marks_of p.marks.items;
      next_stamp = length p.marks.items;
    }

-- rows as pairs of their letter and their text
abbrev pub row_pairs : List Row → List (ℕ × List ℕ)
row_pairs rows = map (λ row. (row.kind, row.text)) rows
