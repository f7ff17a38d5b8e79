-- What an operation makes of a record, but for its marks.
use Rattle.std.specs.Prelude.{ℕ, ◌==◌, not, List, ◌++◌, length, map, filter, take, drop, nat_lt}
use Rattle.cell_units.specs.declared.place.Bias.TheVariants.{Left, Right}
use Rattle.cell_units.specs.Text.{clean}
use Rattle.cell_units.specs.Anchor.{move}
use Rattle.cell_units.specs.Sorting.{insert_by, sort_by}
use Rattle.cell_units.specs.BufferLines.{line_start}
use Rattle.cell_units.specs.declared.place.Side.{Side}
use Rattle.cell_units.specs.Record.{Inlay, Fold, Block, Record, inlay_le, fold_le, block_le}

-- one change of a record. What is removed is named by its id; a block is added at the first byte of a buffer row
pub data Operation : Type 0 where
  Replace : (start end : ℕ) → (text : List ℕ) → Operation
  AddInlay : (inlay : Inlay) → Operation
  RemoveInlay : (id : ℕ) → Operation
  AddFold : (fold : Fold) → Operation
  RemoveFold : (id : ℕ) → Operation
  AddBlock : (row id : ℕ) → (side : Side) → (lines : List (List ℕ)) → Operation
  RemoveBlock : (id : ℕ) → Operation
  SetTab : (tab : ℕ) → Operation
  SetWidth : (width : ℕ) → Operation

-- the text with s in place of [a, b)
abbrev pub replaced_text : List ℕ → ℕ → ℕ → List ℕ → List ℕ
replaced_text text a b s = take a text ++ (s ++ drop b text)

abbrev pub move_inlay : ℕ → ℕ → ℕ → Inlay → Inlay
move_inlay a b n i = record { offset = move i.offset i.bias a b n; bias = i.bias; id = i.id; text = i.text }

abbrev pub move_fold : ℕ → ℕ → ℕ → Fold → Fold
move_fold a b n f = record { start = move f.start Right a b n; end = move f.end Left a b n; id = f.id }

abbrev pub move_block : ℕ → ℕ → ℕ → Block → Block
move_block a b n k = record { offset = move k.offset Right a b n; id = k.id; side = k.side; lines = k.lines }

-- the inlays after n bytes took the place of [a, b)
abbrev pub moved_inlays : ℕ → ℕ → ℕ → List Inlay → List Inlay
moved_inlays a b n inlays = sort_by inlay_le (map (move_inlay a b n) inlays)

-- the folds likewise, without those that are empty then
abbrev pub moved_folds : ℕ → ℕ → ℕ → List Fold → List Fold
moved_folds a b n folds = sort_by fold_le (filter (λ f. nat_lt f.start f.end) (map (move_fold a b n) folds))

abbrev pub moved_blocks : ℕ → ℕ → ℕ → List Block → List Block
moved_blocks a b n blocks = sort_by block_le (map (move_block a b n) blocks)

-- the inlays without the one of the id
abbrev pub without_inlay : ℕ → List Inlay → List Inlay
without_inlay id inlays = filter (λ i. not (i.id == id)) inlays

abbrev pub without_fold : ℕ → List Fold → List Fold
without_fold id folds = filter (λ f. not (f.id == id)) folds

abbrev pub without_block : ℕ → List Block → List Block
without_block id blocks = filter (λ k. not (k.id == id)) blocks

-- a block at the first byte of a buffer row
abbrev pub block_at_row : List ℕ → ℕ → ℕ → Side → List (List ℕ) → Block
block_at_row text row id side lines = record { offset = line_start text row; id = id; side = side; lines = lines }

-- the record after the operation. Its marks are still those from before: the line step gives them anew
abbrev pub operated : Operation → Record → Record
operated (Replace a b s) r =
    let n = length (clean s) in
    record r {
      text = replaced_text r.text a b (clean s);
      inlays = moved_inlays a b n r.inlays;
      folds = moved_folds a b n r.folds;
      blocks = moved_blocks a b n r.blocks;
    }
operated (AddInlay i) r = record r { inlays = insert_by inlay_le i r.inlays }
operated (RemoveInlay id) r = record r { inlays = without_inlay id r.inlays }
operated (AddFold f) r = record r { folds = insert_by fold_le f r.folds }
operated (RemoveFold id) r = record r { folds = without_fold id r.folds }
operated (AddBlock row id side lines) r = record r { blocks = insert_by block_le (block_at_row r.text row id side lines) r.blocks }
operated (RemoveBlock id) r = record r { blocks = without_block id r.blocks }
operated (SetTab tab) r = record r { tab = tab }
operated (SetWidth width) r = record r { width = width }
