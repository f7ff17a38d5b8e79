-- Pieces of rows built line by line, with the blocks at each line.
use Rattle.std.proofs.Common.{◌≡◌, ℕ, ◌+◌, ◌-◌, ◌<◌, ◌≤◌, ◌&&◌, ◌^◌, zero, suc, Bool, true, false, cond, eqb, List, [], ◌∷◌, ◌++◌, length, take, drop, get_or, filter, flat_map, slice_get, slice_range, Some, refl, sym, ap, ◌∙◌, subst, arith, append-nil, append_assoc, length-drop}
use Rattle.std.specs.List.{All}
use Rattle.std.proofs.lemmas.Bool.{and_left, and_right, false≢true, ne_eqb}
use Rattle.std.proofs.lemmas.List.{get_or-drop, take-append-drop, take_more}
use Rattle.std.proofs.lemmas.List.Concat.{flat_map-append}
use Rattle.std.proofs.lemmas.List.Elements.{filter-append}
use Rattle.cell_units.specs.declared.piece.Piece.{Piece}
use Rattle.cell_units.specs.declared.place.Side.{Side}
use Rattle.cell_units.specs.declared.place.Side.TheVariants.{Above, Below}
use Rattle.cell_units.specs.Lawful.{IsLawful, IsWellFormed}
use Rattle.cell_units.specs.Laws.{IsCopied}
use Rattle.cell_units.specs.Layers.{Source, shown_lines}
use Rattle.cell_units.specs.Record.{Block, Record}
use Rattle.cell_units.proofs.Sources.{copied}
use Rattle.plain_rows.specs.Rows.{is_on, line_of_block}
use Rattle.plain_rows.specs.inside.BuiltRows.{AreBefore, block_at, no_block}
use Rattle.plain_rows.proofs.BuiltRows.{none-before, walk-here, walk-other}
use Rattle.plain_rows.proofs.LineSizes.{read-some}
use Rattle.row_pieces.specs.declared.row_piece.RowPiece.{RowPiece}
use Rattle.row_pieces.specs.Pieces.{block_pieces_at, line_pieces, pieces_by_line, pieces_of_block}
use Rattle.row_pieces.specs.inside.Blocks.{IsShort}
use Rattle.row_pieces.specs.inside.Lines.{HasOffsets}
use Rattle.row_pieces.proofs.ShownPieces.{length-by_line, whole-line}

abbrev pub Rows : Type 0
Rows = List (List RowPiece)

-- ---- blocks at a line

abbrev stands : Record → Side → ℕ → Block → Bool
stands r side line b = is_on side b.side && eqb (line_of_block r b) line

on-own : (side other : Side) → is_on side other ≡ true → other ≡ side
on-own Above Above e = refl
on-own Above Below e = absurd (false≢true e)
on-own Below Above e = absurd (false≢true e)
on-own Below Below e = refl

on-same : (side : Side) → is_on side side ≡ true
on-same Above = refl
on-same Below = refl

-- no block of the side is at the line
none-at : (r : Record) (side : Side) (line : ℕ) (bs : List Block) →
    ((k : ℕ) → k < length bs → (get_or bs k no_block).side ≡ side → line_of_block r (get_or bs k no_block) ≡ line → ⊥) → filter (stands r side line) bs ≡ []
none-at r side line [] none = refl
none-at r side line (b ∷ bs) none =
    ap (λ (c : Bool). cond c (b ∷ filter (stands r side line) bs) (filter (stands r side line) bs)) (off (is_on side b.side) refl)
    ∙ none-at r side line bs (λ k lt. none (suc k) (omega (arith, lt))) where
      off : (c : Bool) → is_on side b.side ≡ c → stands r side line b ≡ false
      off false e = and_left (is_on side b.side) (eqb (line_of_block r b) line) e
      off true e = and_right (is_on side b.side) (eqb (line_of_block r b) line) (ne_eqb (line_of_block r b) line (none 0 (omega arith) (on-own side b.side e)))

-- the pieces of the rows of the blocks of one side before a number that are at the line
abbrev pub walked : Record → Side → ℕ → ℕ → Rows
walked r side line n = flat_map (pieces_of_block r.tab) (filter (stands r side line) (take n r.blocks))

-- those of the block of a number, if it is on the side
abbrev pub pieces_on : Side → ℕ → Block → Rows
pieces_on side tab b = cond (is_on side b.side) (pieces_of_block tab b) []

pub walked-none : (r : Record) (side : Side) (n line : ℕ) → AreBefore r side n line → walked r side line n ≡ []
walked-none r side n line are = ap (flat_map (pieces_of_block r.tab)) (none-before r side n line are)

pub walked-next : (r : Record) (side : Side) (n line : ℕ) → n < length r.blocks → ((block_at r n).side ≡ side → line_of_block r (block_at r n) ≡ line) →
    walked r side line (n + 1) ≡ walked r side line n ++ pieces_on side r.tab (block_at r n)
walked-next r side n line lt here = go (is_on side (block_at r n).side) refl where
  go : (c : Bool) → is_on side (block_at r n).side ≡ c → walked r side line (n + 1) ≡ walked r side line n ++ cond c (pieces_of_block r.tab (block_at r n)) []
  go true e =
      let own = on-own side (block_at r n).side e in
      let before = filter (stands r side line) (take n r.blocks) in
      ap (flat_map (pieces_of_block r.tab)) (walk-here r side n line lt own (here own))
      ∙ flat_map-append (pieces_of_block r.tab) before (block_at r n ∷ [])
      ∙ ap (λ (l : Rows). flat_map (pieces_of_block r.tab) before ++ l) (append-nil (pieces_of_block r.tab (block_at r n)))
  go false e =
      ap (flat_map (pieces_of_block r.tab)) (walk-other r side n line lt (λ own _. false≢true (sym e ∙ ap (is_on side) own ∙ on-same side)))
      ∙ sym (append-nil (walked r side line n))

-- at the end those of the whole record
pub walked-all : (r : Record) (side : Side) (n line : ℕ) → n ≤ length r.blocks →
    ((k : ℕ) → n ≤ k → k < length r.blocks → (block_at r k).side ≡ side → line < line_of_block r (block_at r k)) → walked r side line n ≡ block_pieces_at r side line
walked-all r side n line le past =
    let none : filter (stands r side line) (drop n r.blocks) ≡ [] = none-at r side line (drop n r.blocks) (λ k lt own at.
    let there : n + k < length r.blocks = omega (arith, lt, length-drop n r.blocks) in
    let same : get_or (drop n r.blocks) k no_block ≡ block_at r (n + k) = get_or-drop n r.blocks k no_block in
    absurd (omega (arith, past (n + k) (omega arith) there (sym (ap (λ (b : Block). b.side) same) ∙ own), sym (ap (line_of_block r) same) ∙ at))) in
    ap (flat_map (pieces_of_block r.tab))
    (sym (append-nil (filter (stands r side line) (take n r.blocks)))
    ∙ ap (λ (l : List Block). filter (stands r side line) (take n r.blocks) ++ l) (sym none)
    ∙ sym (filter-append (stands r side line) (take n r.blocks) (drop n r.blocks))
    ∙ ap (filter (stands r side line)) (take-append-drop n r.blocks))

pub short-lines : (r : Record) → IsLawful r → (n : ℕ) → n < length r.blocks → All IsShort (block_at r n).lines
short-lines r lawful n lt k d within = ((lawful.entries.blocks.each n no_block lt).lines.each k d within).short

-- ---- one more line

pub pieces-more : (r : Record) → IsLawful r → (k : ℕ) (texts : Rows) → k < length r.marks → get_or (line_pieces r) k [] ≡ texts →
    flat_map (λ rows. rows) (take (k + 1) (pieces_by_line r))
    ≡ ((flat_map (λ rows. rows) (take k (pieces_by_line r)) ++ block_pieces_at r Above k) ++ texts) ++ block_pieces_at r Below k
pieces-more r lawful k texts lt is =
    let before = flat_map (λ (rows : Rows). rows) (take k (pieces_by_line r)) in
    let above = block_pieces_at r Above k in
    let below = block_pieces_at r Below k in
    let line : get_or (pieces_by_line r) k [] ≡ above ++ (texts ++ below) = whole-line r lawful k lt ∙ ap (λ (l : Rows). above ++ (l ++ below)) is in
    ap (flat_map (λ (rows : Rows). rows)) (take_more (pieces_by_line r) k [] (omega (arith, lt, length-by_line r lawful)))
    ∙ flat_map-append (λ (rows : Rows). rows) (take k (pieces_by_line r)) (get_or (pieces_by_line r) k [] ∷ [])
    ∙ ap (λ (l : Rows). before ++ l) (append-nil (get_or (pieces_by_line r) k []) ∙ line)
    ∙ sym (append_assoc before above (texts ++ below))
    ∙ sym (append_assoc (before ++ above) texts below)

-- ---- offsets of a line's pieces

slice-least : (text : List ℕ) (start end : ℕ) → length (slice_range text start end) ≤ end - start
slice-least text start end = take-least (end - start) (drop start text) where
  take-least : (n : ℕ) (xs : List ℕ) → length (take n xs) ≤ n
  take-least zero xs = omega arith
  take-least (suc n) [] = omega arith
  take-least (suc n) (x ∷ xs) = omega (arith, take-least n xs)

pub have-offsets : (s : Source) → IsWellFormed s → length s.text < 2 ^ 32 → (k : ℕ) (ps : List Piece) → slice_get (shown_lines s) k ≡ Some ps → k < length (shown_lines s) → All HasOffsets ps
have-offsets s formed short k ps is lt j d within buffer =
    let at : get_or (shown_lines s) k [] ≡ ps = read-some (shown_lines s) k [] ps is in
    let all : All (IsCopied s.text) ps = subst (All (IsCopied s.text)) at (copied s formed k [] lt) in
    let c = all j d within buffer in
    omega (arith, c.0, c.1, ap length c.2, slice-least s.text (get_or ps j d).start (get_or ps j d).end, short)
