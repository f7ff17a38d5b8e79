-- What is seen of blocks follows from their ids and their lines.
use Rattle.std.proofs.Common.{◌≡◌, ℕ, List, [], ◌∷◌, ◌++◌, map, flat_map, zip, refl, sym, ap, ◌∙◌}
use Rattle.std.proofs.lemmas.List.{map-append}
use Rattle.cell_units.specs.Record.{Block}
use Rattle.cell_line.specs.Elements.{elements_of, total_cells}
use Rattle.plain_rows.specs.Rows.{Row, block_rows}
use Rattle.row_pieces.specs.declared.row_piece.RowPieceKind.TheVariants as pieces
use Rattle.row_pieces.specs.Changed.{Look, RowLook, look_of}
use Rattle.row_pieces.specs.Pieces.{alone, block_piece, pieces_of_block}

abbrev pub Shape : Type 0
Shape = ℕ × List (List ℕ)

abbrev pub shape : Block → Shape
shape b = (b.id, b.lines)

abbrev pub seen_blocks : ℕ → List Block → List RowLook
seen_blocks tab bs = zip (map (λ row. row.kind) (flat_map block_rows bs)) (map (map look_of) (flat_map (pieces_of_block tab) bs))

abbrev own_looks : ℕ → ℕ → List (List ℕ) → List (List Look)
own_looks tab id lines = map (λ line. record { kind = pieces.Block id; text = line; cells = total_cells (elements_of (alone line ∷ []) tab) } ∷ []) lines

looks-own : (tab : ℕ) (b : Block) (lines : List (List ℕ)) → map (map look_of) (map (λ line. block_piece tab b line ∷ []) lines) ≡ own_looks tab b.id lines
looks-own tab b [] = refl
looks-own tab b (l ∷ ls) = ap (λ (ps : List (List Look)). (look_of (block_piece tab b l) ∷ []) ∷ ps) (looks-own tab b ls)

looks-shapes : (tab : ℕ) (bs : List Block) → map (map look_of) (flat_map (pieces_of_block tab) bs) ≡ flat_map (λ s. own_looks tab s.0 s.1) (map shape bs)
looks-shapes tab [] = refl
looks-shapes tab (b ∷ bs) =
    map-append (map look_of) (pieces_of_block tab b) (flat_map (pieces_of_block tab) bs)
    ∙ (λ i. looks-own tab b b.lines i ++ looks-shapes tab bs i)

kinds-own : (lines : List (List ℕ)) → map (λ (row : Row). row.kind) (map (λ line. record { kind = 98; text = line }) lines) ≡ map (λ line. 98) lines
kinds-own [] = refl
kinds-own (l ∷ ls) = ap (λ (ks : List ℕ). 98 ∷ ks) (kinds-own ls)

kinds-shapes : (bs : List Block) → map (λ (row : Row). row.kind) (flat_map block_rows bs) ≡ flat_map (λ (s : Shape). map (λ line. 98) s.1) (map shape bs)
kinds-shapes [] = refl
kinds-shapes (b ∷ bs) =
    map-append (λ (row : Row). row.kind) (block_rows b) (flat_map block_rows bs)
    ∙ (λ i. kinds-own b.lines i ++ kinds-shapes bs i)

-- blocks of the same ids and lines look the same, wherever they are
pub seen-shapes : (tab : ℕ) (bs cs : List Block) → map shape bs ≡ map shape cs → seen_blocks tab bs ≡ seen_blocks tab cs
seen-shapes tab bs cs h =
    (λ i. zip (kinds-shapes bs i) (looks-shapes tab bs i))
    ∙ (λ i. zip (flat_map (λ (s : Shape). map (λ line. 98) s.1) (h i)) (flat_map (λ (s : Shape). own_looks tab s.0 s.1) (h i)))
    ∙ (λ i. zip (sym (kinds-shapes cs) i) (sym (looks-shapes tab cs) i))
