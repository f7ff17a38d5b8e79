-- Records and lines that are known, for worked rows.
use Rattle.std.specs.Prelude.{ℕ, List, [], ◌∷◌, codes, length, map, filter, flat_map, not}
use Rattle.std.specs.List.{range_with_len}
use Rattle.cell_units.specs.declared.place.Bias.{Bias}
use Rattle.cell_units.specs.declared.place.Bias.TheVariants.{Right}
use Rattle.cell_units.specs.declared.place.Point.{Point}
use Rattle.cell_units.specs.declared.place.Side.{Side}
use Rattle.cell_units.specs.declared.piece.Piece.{Piece}
use Rattle.cell_units.specs.declared.piece.PieceKind.TheVariants.{Buffer, Inlay, Placeholder}
use Rattle.cell_units.specs.Record as records
use Rattle.cell_units.specs.Record.{Block, Fold, Mark, Record, opening_tab, opening_width}
use Rattle.cell_units.specs.Inlaid.{bytes_of, is_break, placeholder}
use Rattle.cell_units.specs.Folded.{display_lines}
use Rattle.cell_units.specs.Layers.{Source}

abbrev pub inlay : ℕ → Bias → ℕ → List ℕ → records.Inlay
inlay offset bias id text = record { offset = offset; bias = bias; id = id; text = text }

abbrev pub fold : ℕ → ℕ → ℕ → Fold
fold start end id = record { start = start; end = end; id = id }

abbrev pub block : ℕ → ℕ → Side → List (List ℕ) → Block
block offset id side lines = record { offset = offset; id = id; side = side; lines = lines }

abbrev pub mark : ℕ → ℕ → Mark
mark stamp width = record { stamp = stamp; width = width }

-- a mark for each display line, at the width
abbrev pub settled_marks : List ℕ → List records.Inlay → List Fold → ℕ → List Mark
settled_marks text inlays folds width =
    map (λ n. mark n width) (range_with_len 0 (length (display_lines text inlays folds)))

-- the record of these lists, each sorted, at tab size 4, with each line wrapped at the width
abbrev pub settled : List ℕ → List records.Inlay → List Fold → List Block → ℕ → Record
settled text inlays folds blocks width =
    record {
      text = text;
      inlays = inlays;
      folds = folds;
      blocks = blocks;
      tab = opening_tab;
      width = width;
      marks = settled_marks text inlays folds width;
      next_stamp = length (display_lines text inlays folds);
    }

-- the same without blocks, at the opening width
abbrev pub folded_record : List ℕ → List records.Inlay → List Fold → Record
folded_record text inlays folds = settled text inlays folds [] opening_width

-- the bytes of each display line, without its break
abbrev pub line_texts : Record → List (List ℕ)
line_texts r = map (λ line. flat_map bytes_of (filter (λ t. not (is_break t)) line)) (display_lines r.text r.inlays r.folds)

abbrev pub buffer_piece : List ℕ → ℕ → ℕ → Piece
buffer_piece text start end = record { kind = Buffer; text = text; start = start; end = end }

abbrev pub inlay_piece : ℕ → List ℕ → ℕ → Piece
inlay_piece id text offset = record { kind = Inlay id; text = text; start = offset; end = offset }

abbrev pub placeholder_piece : ℕ → ℕ → Piece
placeholder_piece start end = record { kind = Placeholder; text = placeholder; start = start; end = end }

abbrev pub point : ℕ → ℕ → Point
point row column = record { row = row; column = column }

-- of the text "ab\ncd\nef", the inlay "x\ny" in a fold that hides "b", the feed and "c"
abbrev pub hidden_inlay : Source
hidden_inlay = record { text = codes "ab\ncd\nef"; inlays = inlay 3 Right 1 (codes "x\ny") ∷ []; folds = fold 1 4 1 ∷ [] }
