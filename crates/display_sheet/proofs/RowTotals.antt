-- How many rows a record has: those of its lines and those of its blocks.
use Rattle.std.proofs.Common.{◌≡◌, ℕ, ◌+◌, ◌<◌, ◌≤◌, ◌&&◌, not, Bool, true, false, cond, eqb, ltb, zero, suc, List, [], ◌∷◌, ◌++◌, length, map, take, flat_map, get_or, refl, sym, ap, ◌∙◌, arith, length-append}
use Rattle.std.specs.List.{sum_by}
use Rattle.std.proofs.lemmas.Bool.{lt-ltb}
use Rattle.std.proofs.lemmas.Bool.Decides.{nat_tests}
use Rattle.std.proofs.lemmas.List.{length-map, take_all}
use Rattle.std.proofs.lemmas.List.Sums.{sum_by-cons, sum_by_more}
use Rattle.cell_units.specs.declared.place.Side.{Side}
use Rattle.cell_units.specs.declared.place.Side.TheVariants.{Above, Below}
use Rattle.cell_units.specs.Record.{Block, Record, plain_mark}
use Rattle.cell_units.specs.Lawful.{IsLawful}
use Rattle.plain_rows.specs.declared.plain.PlainBlock.{PlainBlock}
use Rattle.plain_rows.specs.FoldedLines.{LaidOut}
use Rattle.plain_rows.specs.Plain.{block_of, marks_of}
use Rattle.plain_rows.specs.Rows.{Row, blocks_at, head_and_more, is_above, line_of_block, line_rows, more_row, rows_by_line, rows_of}
use Rattle.plain_rows.specs.inside.BuiltRows.{no_block}
use Rattle.plain_rows.proofs.RowsInOrder.{rows_upto, rows_upto-more}
use Rattle.plain_rows.proofs.RowsOfLines.{length-rows_by_line, line_rows-at, rows_by_line-at}
use Rattle.plain_rows.proofs.SpotBlocks.{block-line, height_at, stood-all, sum_upto}
use Rattle.plain_rows.proofs.SpotSizes.{rows-few}
use Rattle.display_sheet.specs.declared.wraps.Wrapped.{Wrapped}
use Rattle.display_sheet.specs.RowCounts.{rows_of_blocks}
use Rattle.display_sheet.specs.Wraps.{rows_of_lines}
use Rattle.display_sheet.specs.Sheets.{IsSheet, marks_in}
use Rattle.display_sheet.specs.Windows.{texts_at}
use Rattle.display_sheet.proofs.KeptSheets.{length-kept, rows-kept}

-- ---- sums

sum-same : (f g : ℕ → ℕ) (k : ℕ) → ((j : ℕ) → f j ≡ g j) → sum_upto f k ≡ sum_upto g k
sum-same f g zero same = refl
sum-same f g (suc k) same = omega (arith, sum-same f g k same, same k)

sum-both : (f g : ℕ → ℕ) (k : ℕ) → sum_upto (λ j. f j + g j) k ≡ sum_upto f k + sum_upto g k
sum-both f g zero = refl
sum-both f g (suc k) = omega (arith, sum-both f g k)

sum-none : (k : ℕ) → sum_upto (λ j. 0) k ≡ 0
sum-none zero = refl
sum-none (suc k) = omega (arith, sum-none k)

-- ---- blocks

-- a block that is on a side is at one line
on-side : (c : Bool) (line n k : ℕ) → sum_upto (λ j. cond (c && eqb line j) n 0) k ≡ cond (c && ltb line k) n 0
on-side true line n zero = grind (arith, nat_tests)
on-side false line n zero = refl
on-side true line n (suc k) = let h = on-side true line n k in grind (arith, nat_tests, h)
on-side false line n (suc k) = let h = on-side false line n k in grind (arith, nat_tests, h)

-- ... and it is on one of the two
once : (c : Bool) (line n k : ℕ) → line < k →
    sum_upto (λ j. cond (c && eqb line j) n 0) k + sum_upto (λ j. cond (not c && eqb line j) n 0) k ≡ n
once true line n k lt =
    omega (arith, on-side true line n k, on-side false line n k, ap (λ (t : Bool). cond t n 0) (lt-ltb line k lt))
once false line n k lt =
    omega (arith, on-side true line n k, on-side false line n k, ap (λ (t : Bool). cond t n 0) (lt-ltb line k lt))

heights-cons : (r : Record) (side : Side) (k : ℕ) (b : Block) (bs : List Block) →
    sum_upto (λ line. sum_by (height_at r side line) (b ∷ bs)) k
    ≡ sum_upto (λ line. height_at r side line b) k + sum_upto (λ line. sum_by (height_at r side line) bs) k
heights-cons r side k b bs =
    sum-same (λ line. sum_by (height_at r side line) (b ∷ bs)) (λ line. height_at r side line b + sum_by (height_at r side line) bs) k
    (λ line. sum_by-cons (height_at r side line) b bs)
    ∙ sum-both (λ line. height_at r side line b) (λ line. sum_by (height_at r side line) bs) k

all-heights : (r : Record) (k : ℕ) (bs : List Block) → ((i : ℕ) → i < length bs → line_of_block r (get_or bs i no_block) < k) →
    sum_upto (λ line. sum_by (height_at r Above line) bs) k + sum_upto (λ line. sum_by (height_at r Below line) bs) k
    ≡ sum_by (λ b. length b.lines) bs
all-heights r k [] within = omega (arith, sum-none k)
all-heights r k (b ∷ bs) within =
    omega (
      arith,
      heights-cons r Above k b bs,
      heights-cons r Below k b bs,
      once (is_above b.side) (line_of_block r b) (length b.lines) k (within 0 (omega arith)),
      all-heights r k bs (λ i lt. within (suc i) (omega (arith, lt))),
      sum_by-cons (λ (b : Block). length b.lines) b bs,
    )

heights-at : (r : Record) (side : Side) (k : ℕ) →
    sum_upto (λ line. length (blocks_at r side line)) k ≡ sum_upto (λ line. sum_by (height_at r side line) r.blocks) k
heights-at r side k =
    sum-same (λ line. length (blocks_at r side line)) (λ line. sum_by (height_at r side line) r.blocks) k
    (λ line. sym (stood-all r side line (length r.blocks) (omega arith)) ∙ ap (sum_by (height_at r side line)) (take_all (length r.blocks) r.blocks (omega arith)))

block-rows : (blocks : List PlainBlock) → sum_by (λ (b : Block). length b.lines) (map block_of blocks) ≡ rows_of_blocks blocks
block-rows [] = refl
block-rows (b ∷ bs) =
    sum_by-cons (λ (b : Block). length b.lines) (block_of b) (map block_of bs)
    ∙ ap (λ (n : ℕ). length b.lines.items + n) (block-rows bs)
    ∙ sym (sum_by-cons (λ (b : PlainBlock). length b.lines.items) b bs)

-- ---- lines

length-head_and_more : (texts : List (List ℕ)) → length (head_and_more texts) ≡ length texts
length-head_and_more [] = refl
length-head_and_more (t ∷ ts) = ap suc (length-map ts more_row)

-- the text rows of a line are as many as its texts
pub length-texts : (r : Record) → IsLawful r → (line : ℕ) → line < length r.marks → length (get_or (line_rows r) line []) ≡ length (texts_at r line)
length-texts r lawful line lt =
    ap length (line_rows-at r lawful.marked line (plain_mark 0) lt) ∙ length-head_and_more (texts_at r line)

module _ (r : Record) (wraps : List Wrapped) (laid : LaidOut) (is : IsSheet r wraps laid) (kept : r.marks ≡ marks_of (marks_in wraps)) where
  abbrev text_count : ℕ → ℕ
  text_count line = length (get_or (line_rows r) line [])

  pub text-rows : (line : ℕ) (w : Wrapped) → line < length r.marks → (get_or wraps line w).rows ≡ text_count line
  text-rows line w lt =
      rows-kept r wraps laid is kept line w lt
      ∙ sym (length-texts r is.lawful line lt)

  text-sum : (k : ℕ) → k ≤ length r.marks → sum_upto text_count k ≡ rows_of_lines (take k wraps)
  text-sum zero le = refl
  text-sum (suc k) le =
      let none : Wrapped = record { mark = 0; rows = 0 } in
      let long = length-kept r wraps laid is kept in
      let next : k + 1 ≡ suc k = omega arith in
      omega (
        arith,
        text-sum k (omega (arith, le)),
        text-rows k none (omega (arith, le)),
        sum_by_more (λ (w : Wrapped). w.rows) wraps k none (omega (arith, le, long)),
        ap (λ (n : ℕ). rows_of_lines (take n wraps)) next,
      )

  upto : (k : ℕ) → k ≤ length r.marks →
      rows_upto k (rows_by_line r)
      ≡ sum_upto text_count k + sum_upto (λ line. length (blocks_at r Above line)) k + sum_upto (λ line. length (blocks_at r Below line)) k
  upto zero le = refl
  upto (suc k) le =
      let next : k + 1 ≡ suc k = omega arith in
      let lt : k < length r.marks = omega (arith, le) in
      omega (
        arith,
        ap (λ (n : ℕ). rows_upto n (rows_by_line r)) next,
        upto k (omega (arith, le)),
        rows_upto-more (rows_by_line r) k (omega (arith, lt, length-rows_by_line r is.lawful.marked)),
        ap length (rows_by_line-at r is.lawful.marked k lt),
        length-append (blocks_at r Above k) (get_or (line_rows r) k [] ++ blocks_at r Below k),
        length-append (get_or (line_rows r) k []) (blocks_at r Below k),
      )

  all-rows : length (rows_of r) ≡ rows_upto (length r.marks) (rows_by_line r)
  unfolding rows_of
  all-rows =
      ap (λ (lines : List (List Row)). length (flat_map (λ rows. rows) lines))
      (sym (take_all (length r.marks) (rows_by_line r) (omega (arith, length-rows_by_line r is.lawful.marked))))

  pub all-few : length (rows_of r) < 4294967296
  all-few = omega (arith, all-rows, rows-few r is.lawful is.laid_out.lawful.text_size (length r.marks) (omega arith))

  pub row-total : (blocks : List PlainBlock) → r.blocks ≡ map block_of blocks → length (rows_of r) ≡ rows_of_lines wraps + rows_of_blocks blocks
  row-total blocks own =
      let n = length r.marks in
      omega (
        arith,
        all-rows,
        upto n (omega arith),
        text-sum n (omega arith),
        ap rows_of_lines (take_all n wraps (omega (arith, length-kept r wraps laid is kept))),
        heights-at r Above n,
        heights-at r Below n,
        all-heights r n r.blocks (block-line r is.lawful),
        ap (sum_by (λ (b : Block). length b.lines)) own,
        block-rows blocks,
      )
