-- What a sheet keeps of its lines and of its blocks.
use Rattle.std.proofs.Common.{◌≡◌, ℕ, ◌+◌, ◌<◌, ◌≤◌, nat_le, zero, suc, List, [], ◌∷◌, length, map, zip, get_or, refl, sym, ap, ◌∙◌, subst, arith}
use Rattle.std.specs.List.{All}
use Rattle.std.proofs.Math.ListN as each
use Rattle.std.proofs.lemmas.List.{get_or-map, length-map}
use Rattle.cell_units.specs.Record.{Block, Mark, Record, block_le, plain_mark}
use Rattle.cell_units.specs.Lawful.{AreBlocks, IsBlockOf, IsWidth}
use Rattle.cell_units.proofs.Entries.{entries-pairs}
use Rattle.cell_units.proofs.EntryOrders.{block_total, block_trans}
use Rattle.cell_line.specs.declared.element.Element.{Element}
use Rattle.cell_line.specs.RowTexts.{row_texts_of}
use Rattle.cell_line.specs.Wrapping.{cuts_of}
use Rattle.cell_line.proofs.RowTexts.{length-row_texts_of}
use Rattle.plain_rows.specs.declared.plain.PlainBlock.{PlainBlock}
use Rattle.plain_rows.specs.FoldedLines.{AreInOrder, LaidOut}
use Rattle.plain_rows.specs.Plain.{block_of, marks_of}
use Rattle.plain_rows.specs.Rows.{line_elements, line_of_block}
use Rattle.plain_rows.proofs.LawfulSources.{order-le}
use Rattle.plain_rows.proofs.RowsOfLines.{length-elements, width-at}
use Rattle.display_sheet.specs.declared.wraps.Wrapped.{Wrapped}
use Rattle.display_sheet.specs.Sheets.{IsSheet, marks_in}
use Rattle.display_sheet.specs.Windows.{texts_at}
use Rattle.display_sheet.proofs.Sheets.{length-marks_of}

-- ---- blocks

block-read : (blocks : List PlainBlock) (k : ℕ) (d : PlainBlock) → get_or (map block_of blocks) k (block_of d) ≡ block_of (get_or blocks k d)
block-read blocks k d = each.get_or-map block_of blocks k d

module _ (text : List ℕ) (blocks : List PlainBlock) (are : AreBlocks text (map block_of blocks)) where
  pub blocks_rise : AreInOrder (λ (b : PlainBlock). b.offset) blocks
  blocks_rise i j d lt within =
      let pair = entries-pairs block_le block_total block_trans (λ (b : Block). b.id) (IsBlockOf text) (map block_of blocks) are i j (block_of d) lt (omega (arith, within, length-map blocks block_of)) in
      let x = get_or (map block_of blocks) i (block_of d) in
      let y = get_or (map block_of blocks) j (block_of d) in
      let le = order-le x.offset y.offset (nat_le x.id y.id) pair.0 in
      omega (arith, le, ap (λ (b : Block). b.offset) (block-read blocks i d), ap (λ (b : Block). b.offset) (block-read blocks j d))

  pub blocks_within : All (λ (b : PlainBlock). b.offset ≤ length text) blocks
  blocks_within k d lt =
      let h = (are.each k (block_of d) (omega (arith, lt, length-map blocks block_of))).boundary.0 in
      omega (arith, h, ap (λ (b : Block). b.offset) (block-read blocks k d))

-- ---- lines

zipped : {X Y : Type 0} (xs : List X) (ys : List Y) (k : ℕ) (d : X) (e : Y) → k < length xs → k < length ys → get_or (zip xs ys) k (d, e) ≡ (get_or xs k d, get_or ys k e)
zipped [] ys k d e lt also = absurd (omega (arith, lt))
zipped (x ∷ xs) [] k d e lt also = absurd (omega (arith, also))
zipped (x ∷ xs) (y ∷ ys) zero d e lt also = refl
zipped (x ∷ xs) (y ∷ ys) (suc k) d e lt also = zipped xs ys k d e (omega arith) (omega arith)

length-zipped : {X Y : Type 0} (xs : List X) (ys : List Y) (k : ℕ) → k < length xs → k < length ys → k < length (zip xs ys)
length-zipped [] ys k lt also = absurd (omega (arith, lt))
length-zipped (x ∷ xs) [] k lt also = absurd (omega (arith, also))
length-zipped (x ∷ xs) (y ∷ ys) zero lt also = omega arith
length-zipped (x ∷ xs) (y ∷ ys) (suc k) lt also = omega (arith, length-zipped xs ys k (omega (arith, lt)) (omega (arith, also)))

module _ (r : Record) (wraps : List Wrapped) (laid : LaidOut) (is : IsSheet r wraps laid) (kept : r.marks ≡ marks_of (marks_in wraps)) where
  pub length-kept : length r.marks ≡ length wraps
  length-kept = ap length kept ∙ length-marks_of (marks_in wraps) ∙ length-map wraps (λ w. w.mark)

  pub width-kept : (line : ℕ) (w : Wrapped) → line < length r.marks → (get_or wraps line w).mark ≡ (get_or r.marks line (plain_mark 0)).width
  width-kept line w lt =
      let size : line < length wraps = omega (arith, lt, length-kept) in
      sym (get_or-map (λ (w : Wrapped). w.mark) wraps line w 0 size)
      ∙ sym (width-at (marks_in wraps) line (plain_mark 0) (omega (arith, size, length-map wraps (λ (w : Wrapped). w.mark))))
      ∙ ap (λ (ms : List Mark). (get_or ms line (plain_mark 0)).width) (sym kept)

  pub rows-kept : (line : ℕ) (w : Wrapped) → line < length r.marks → (get_or wraps line w).rows ≡ length (texts_at r line)
  rows-kept line w lt =
      let size : line < length wraps = omega (arith, lt, length-kept) in
      let ws = marks_in wraps in
      let es = line_elements r in
      let wide : line < length ws = omega (arith, size, length-map wraps (λ (w : Wrapped). w.mark)) in
      let long : line < length es = omega (arith, lt, length-elements r is.lawful.marked) in
      let count : List Element × ℕ → ℕ = λ p. length (cuts_of p.0 p.1) + 1 in
      sym (get_or-map (λ (w : Wrapped). w.rows) wraps line w 0 size)
      ∙ ap (λ (ns : List ℕ). get_or ns line 0) is.rows_are
      ∙ get_or-map count (zip es ws) line ([], 0) 0 (length-zipped es ws line long wide)
      ∙ ap count (zipped es ws line [] 0 long wide)
      ∙ sym (length-row_texts_of (get_or es line []) (get_or ws line 0))
      ∙ ap (λ (n : ℕ). length (row_texts_of (get_or es line []) n)) (get_or-map (λ (w : Wrapped). w.mark) wraps line w 0 size ∙ width-kept line w lt)

  pub lawful-kept : (line : ℕ) (w : Wrapped) → line < length r.marks → IsWidth (get_or wraps line w).mark
  lawful-kept line w lt = subst IsWidth (sym (width-kept line w lt)) (is.lawful.widths line (plain_mark 0) lt)

pub lines-of-blocks : (r : Record) (blocks : List PlainBlock) → map (λ b. line_of_block r (block_of b)) blocks ≡ map (line_of_block r) (map block_of blocks)
lines-of-blocks r [] = refl
lines-of-blocks r (b ∷ bs) = ap (λ (l : List ℕ). line_of_block r (block_of b) ∷ l) (lines-of-blocks r bs)
