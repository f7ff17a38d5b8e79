-- What a host sees of the rows of a display line: those of the blocks above it, of its text, and of the blocks below.
use Rattle.std.proofs.Common.{◌≡◌, ℕ, ◌<◌, List, [], ◌∷◌, ◌++◌, length, map, filter, flat_map, get_or, refl, sym, ap, ◌∙◌, arith, length-append}
use Rattle.std.proofs.lemmas.List.{length-map}
use Rattle.cell_units.specs.declared.place.Side.{Side}
use Rattle.cell_units.specs.declared.place.Side.TheVariants.{Above, Below}
use Rattle.cell_units.specs.Lawful.{IsLawful}
use Rattle.cell_units.specs.Record.{Block, Record}
use Rattle.cell_line.specs.Elements.{elements_of}
use Rattle.plain_rows.specs.Rows.{Row, block_rows, text_rows}
use Rattle.plain_rows.specs.Spots.{mark_at}
use Rattle.plain_rows.proofs.RowsInOrder.{length-text_rows}
use Rattle.row_pieces.specs.declared.row_piece.RowPiece.{RowPiece}
use Rattle.row_pieces.specs.Changed.{RowLook, look_of, looks_by_line}
use Rattle.row_pieces.specs.Laws.{pieces_at}
use Rattle.row_pieces.specs.Pieces.{block_piece, pieces_by_row, pieces_of_block}
use Rattle.row_pieces.proofs.BlockLooks.{seen_blocks}
use Rattle.row_pieces.proofs.Columns.{length-line}
use Rattle.row_pieces.proofs.LookCounts.{seen, seen-long}
use Rattle.row_pieces.proofs.OperatedBlocks.{on}
use Rattle.row_pieces.proofs.TrueLines.{line-parts}
use Rattle.view_changes.specs.Operations.{looks_of_block, rows_in}

-- ---- blocks

own-first : (tab : ℕ) (b : Block) (lines : List (List ℕ)) (rows : List Row) (pieces : List (List RowPiece)) →
    seen (map (λ line. record { kind = 98; text = line }) lines ++ rows, map (λ line. block_piece tab b line ∷ []) lines ++ pieces)
    ≡ map (λ line. (98, look_of (block_piece tab b line) ∷ [])) lines ++ seen (rows, pieces)
own-first tab b [] rows pieces = refl
own-first tab b (l ∷ ls) rows pieces = ap (λ (seen : List RowLook). (98, look_of (block_piece tab b l) ∷ []) ∷ seen) (own-first tab b ls rows pieces)

-- each block's own rows, one after another
pub blocks-seen : (tab : ℕ) (bs : List Block) → seen_blocks tab bs ≡ flat_map (looks_of_block tab) bs
blocks-seen tab [] = refl
blocks-seen tab (b ∷ bs) =
    own-first tab b b.lines (flat_map block_rows bs) (flat_map (pieces_of_block tab) bs)
    ∙ ap (λ (seen : List RowLook). looks_of_block tab b ++ seen) (blocks-seen tab bs)

pub length-own : (tab : ℕ) (b : Block) → length (looks_of_block tab b) ≡ length b.lines
length-own tab b = length-map b.lines (λ (line : List ℕ). (98, look_of (block_piece tab b line) ∷ []))

pub length-seen : (tab : ℕ) (bs : List Block) → length (flat_map (looks_of_block tab) bs) ≡ rows_in bs
length-seen tab [] = refl
length-seen tab (b ∷ bs) =
    omega (
      arith,
      length-append (looks_of_block tab b) (flat_map (looks_of_block tab) bs),
      length-append b.lines (flat_map (λ (b : Block). b.lines) bs),
      length-own tab b,
      length-seen tab bs,
    )

pub length-rows : (bs : List Block) → length (flat_map block_rows bs) ≡ rows_in bs
length-rows [] = refl
length-rows (b ∷ bs) =
    omega (
      arith,
      length-append (block_rows b) (flat_map block_rows bs),
      length-append b.lines (flat_map (λ (b : Block). b.lines) bs),
      length-map b.lines (λ (line : List ℕ). let row : Row = record { kind = 98; text = line } in row),
      length-rows bs,
    )

-- ---- lines

module _ (r : Record) (lawful : IsLawful r) where
  module _ (line : ℕ) where
    abbrev own : List (List RowPiece)
    own = pieces_by_row (pieces_at r line) r.tab (mark_at r line).width

    abbrev texts : List Row
    texts = text_rows (elements_of (pieces_at r line) r.tab) (mark_at r line).width

    -- the line's text rows, and the rows of its blocks on a side
    abbrev pub text_part : List RowLook
    text_part = seen (texts, own)

    abbrev pub block_part : Side → List RowLook
    block_part side = flat_map (looks_of_block r.tab) (filter (on r side line) r.blocks)

    long-texts : length texts ≡ length own
    long-texts = length-text_rows (elements_of (pieces_at r line) r.tab) (mark_at r line).width ∙ sym (length-line (pieces_at r line) r.tab (mark_at r line).width)

    pub length-texts : length text_part ≡ length own
    length-texts = seen-long texts own long-texts ∙ long-texts

    pub line-seen : line < length r.marks → get_or (looks_by_line r) line [] ≡ block_part Above ++ (text_part ++ block_part Below)
    line-seen lt =
        line-parts r lawful line lt
        ∙ (λ i. blocks-seen r.tab (filter (on r Above line) r.blocks) i ++ (text_part ++ blocks-seen r.tab (filter (on r Below line) r.blocks) i))
