-- How many rows of blocks are at each line, and at all of them.
use Rattle.std.proofs.Common.{◌≡◌, ◌⊎◌, inl, inr, set, get_or-set_same, get_or-set_other, length-set, ℕ, ◌+◌, ◌*◌, ◌<◌, ◌≤◌, ◌&&◌, Bool, true, false, cond, eqb, ltb, List, [], ◌∷◌, zero, suc, length, map, take, filter, flat_map, get_or, refl, sym, ap, ◌∙◌, arith, length-append}
use Rattle.std.specs.List.{sum_by}
use Rattle.std.proofs.lemmas.Bool.{and_from, and_left, and_right, cases_eq, eq-eqb, ne_eqb}
use Rattle.std.proofs.lemmas.Bool.Decides.{nat_tests}
use Rattle.std.proofs.lemmas.List.{get_or-map, length-map, take_all}
use Rattle.std.proofs.lemmas.List.Sums.{sum_by-cons, sum_by_more}
use Rattle.cell_units.specs.declared.place.Side.{Side}
use Rattle.cell_units.specs.declared.place.Bias.TheVariants.{Left, Right}
use Rattle.cell_units.specs.Text.{row_end, row_start}
use Rattle.cell_units.specs.Folded.{line_of}
use Rattle.cell_units.specs.Record.{Block, Record}
use Rattle.cell_units.specs.Lawful.{IsLawful}
use Rattle.plain_rows.specs.Rows.{block_kind, block_rows, blocks_at, is_above, is_on, line_of_block}
use Rattle.plain_rows.specs.declared.plain.Plain.{Plain}
use Rattle.plain_rows.specs.declared.plain.PlainBlock.{PlainBlock}
use Rattle.plain_rows.specs.Plain.{block_of, record_of}
use Rattle.plain_rows.specs.inside.BuiltRows.{block_at, no_block}
use Rattle.plain_rows.proofs.RisingLines.{row_end-within, row_start-le}
use Rattle.plain_rows.proofs.SpotFronts.{line_of-within}

-- the rows that a block adds on that side of the line
abbrev pub height_at : Record → Side → ℕ → Block → ℕ
height_at r side line b = cond (is_on side b.side && eqb (line_of_block r b) line) (length b.lines) 0

-- those of the blocks before the one of that number
abbrev pub stood : Record → Side → ℕ → ℕ → ℕ
stood r side line n = sum_by (height_at r side line) (take n r.blocks)

pub stood-more : (r : Record) (side : Side) (line n : ℕ) → n < length r.blocks → stood r side line (n + 1) ≡ stood r side line n + height_at r side line (block_at r n)
stood-more r side line n lt = sum_by_more (height_at r side line) r.blocks n no_block lt

heights : (r : Record) (side : Side) (line : ℕ) (bs : List Block) → sum_by (height_at r side line) bs ≡ length (flat_map block_rows (filter (λ b. is_on side b.side && eqb (line_of_block r b) line) bs))
heights r side line [] = refl
heights r side line (b ∷ bs) = sum_by-cons (height_at r side line) b bs ∙ go (is_on side b.side && eqb (line_of_block r b) line) (heights r side line bs) where
  kept : List Block
  kept = filter (λ b. is_on side b.side && eqb (line_of_block r b) line) bs

  go : (c : Bool) → sum_by (height_at r side line) bs ≡ length (flat_map block_rows kept) → cond c (length b.lines) 0 + sum_by (height_at r side line) bs ≡ length (flat_map block_rows (cond c (b ∷ kept) kept))
  go true h =
      let own : length (block_rows b) ≡ length b.lines = length-map b.lines (λ line. record { kind = block_kind; text = line }) in
      omega (arith, h, own, length-append (block_rows b) (flat_map block_rows kept))
  go false h = omega (arith, h)

pub stood-all : (r : Record) (side : Side) (line n : ℕ) → length r.blocks ≤ n → stood r side line n ≡ length (blocks_at r side line)
stood-all r side line n le = ap (λ (bs : List Block). sum_by (height_at r side line) bs) (take_all n r.blocks le) ∙ heights r side line r.blocks

height-few : (r : Record) (side : Side) (line : ℕ) (b : Block) → length b.lines ≤ 256 → height_at r side line b ≤ 256
height-few r side line b h = go (is_on side b.side && eqb (line_of_block r b) line) where
  go : (c : Bool) → cond c (length b.lines) 0 ≤ 256
  go true = h
  go false = omega arith

few : (f : Block → ℕ) (bs : List Block) → ((k : ℕ) → k < length bs → f (get_or bs k no_block) ≤ 256) → sum_by f bs ≤ 256 * length bs
few f [] each = omega arith
few f (b ∷ bs) each = omega (arith, sum_by-cons f b bs, each 0 (omega arith), few f bs (λ k lt. each (suc k) (omega (arith, lt))))

block-few : (r : Record) → IsLawful r → (k : ℕ) → k < length r.blocks → length (get_or r.blocks k no_block).lines ≤ 256
block-few r lawful k lt = (lawful.entries.blocks.each k no_block lt).lines.few

-- a line has few of them on each side
pub stood-few : (r : Record) → IsLawful r → (side : Side) (line n : ℕ) → stood r side line n ≤ 16777216
stood-few r lawful side line n =
    omega (arith, part, lawful.entries.blocks.few) where
      part : stood r side line n ≤ 256 * length r.blocks
      part = go r.blocks n (block-few r lawful) where
        go : (bs : List Block) (n : ℕ) → ((k : ℕ) → k < length bs → length (get_or bs k no_block).lines ≤ 256) → sum_by (height_at r side line) (take n bs) ≤ 256 * length bs
        go bs zero each = omega arith
        go [] (suc n) each = omega arith
        go (b ∷ bs) (suc n) each =
            omega (arith, sum_by-cons (height_at r side line) b (take n bs), height-few r side line b (each 0 (omega arith)), go bs n (λ k lt. each (suc k) (omega (arith, lt))))

-- ---- all lines

-- the sum of what the numbers below k have
abbrev pub sum_upto : (ℕ → ℕ) → ℕ → ℕ
sum_upto f zero = 0
sum_upto f (suc k) = sum_upto f k + f k

sum_upto-same : (f g : ℕ → ℕ) (k : ℕ) → ((j : ℕ) → f j ≡ g j) → sum_upto f k ≡ sum_upto g k
sum_upto-same f g zero same = refl
sum_upto-same f g (suc k) same = omega (arith, sum_upto-same f g k same, same k)

sum_upto-both : (f g : ℕ → ℕ) (k : ℕ) → sum_upto (λ j. f j + g j) k ≡ sum_upto f k + sum_upto g k
sum_upto-both f g zero = refl
sum_upto-both f g (suc k) = omega (arith, sum_upto-both f g k)

sum_upto-none : (k : ℕ) → sum_upto (λ j. 0) k ≡ 0
sum_upto-none zero = refl
sum_upto-none (suc k) = omega (arith, sum_upto-none k)

-- a block is at one line
one-line : (c : Bool) (line n k : ℕ) → sum_upto (λ j. cond (c && eqb line j) n 0) k ≤ cond (ltb line k) n 0
one-line c line n zero = omega arith
one-line false line n (suc k) = let h = one-line false line n k in grind (arith, nat_tests, h)
one-line true line n (suc k) = let h = one-line true line n k in grind (arith, nat_tests, h)

once : (c : Bool) (line n k : ℕ) → sum_upto (λ j. cond (c && eqb line j) n 0) k ≤ n
once c line n k = go (ltb line k) (one-line c line n k) where
  go : (d : Bool) → sum_upto (λ j. cond (c && eqb line j) n 0) k ≤ cond d n 0 → sum_upto (λ j. cond (c && eqb line j) n 0) k ≤ n
  go true h = h
  go false h = omega (arith, h)

all-lines : (r : Record) (side : Side) (k : ℕ) (bs : List Block) → sum_upto (λ line. sum_by (height_at r side line) bs) k ≤ sum_by (λ (b : Block). length b.lines) bs
all-lines r side k [] = omega (arith, sum_upto-none k)
all-lines r side k (b ∷ bs) =
    omega (
      arith,
      sum_upto-same (λ line. sum_by (height_at r side line) (b ∷ bs)) (λ line. height_at r side line b + sum_by (height_at r side line) bs) k (λ line. sum_by-cons (height_at r side line) b bs),
      sum_upto-both (λ line. height_at r side line b) (λ line. sum_by (height_at r side line) bs) k,
      once (is_on side b.side) (line_of_block r b) (length b.lines) k,
      all-lines r side k bs,
      sum_by-cons (λ (b : Block). length b.lines) b bs,
    )

-- and so do all blocks together
pub blocks-few : (r : Record) → IsLawful r → (side : Side) (k : ℕ) → sum_upto (λ line. length (blocks_at r side line)) k ≤ 16777216
blocks-few r lawful side k =
    omega (
      arith,
      sum_upto-same (λ line. length (blocks_at r side line)) (λ line. sum_by (height_at r side line) r.blocks) k (λ line. sym (heights r side line r.blocks)),
      all-lines r side k r.blocks,
      few (λ (b : Block). length b.lines) r.blocks (block-few r lawful),
      lawful.entries.blocks.few,
    )

-- ---- plain blocks

-- the block of a number
pub plain-block : (p : Plain) (n : ℕ) (b : PlainBlock) → n < length p.blocks.items → b ≡ get_or p.blocks.items n b → block_at (record_of p) n ≡ block_of b
plain-block p n b lt is =
    get_or-map block_of p.blocks.items n b no_block lt ∙ ap block_of (sym is)

pub plain-few : (p : Plain) → IsLawful (record_of p) → (n : ℕ) (b : PlainBlock) → n < length p.blocks.items → b ≡ get_or p.blocks.items n b → length b.lines.items ≤ 256
plain-few p lawful n b lt is =
    omega (arith, block-few (record_of p) lawful n (omega (arith, lt, length-map p.blocks.items block_of)), ap (λ (k : Block). length k.lines) (plain-block p n b lt is))

pub block-line : (r : Record) → IsLawful r → (k : ℕ) → k < length r.blocks → line_of_block r (block_at r k) < length r.marks
block-line r lawful k lt =
    let b = block_at r k in
    let le : b.offset ≤ length r.text = (lawful.entries.blocks.each k no_block lt).boundary.0 in
    by (is_above b.side) le where
      by : (c : Bool) → (block_at r k).offset ≤ length r.text →
          cond c (line_of r.text r.inlays r.folds (row_start r.text (block_at r k).offset) Left) (line_of r.text r.inlays r.folds (row_end r.text (block_at r k).offset) Right) < length r.marks
      by true le = line_of-within r lawful (row_start r.text (block_at r k).offset) Left (omega (arith, le, row_start-le r.text (block_at r k).offset))
      by false le = line_of-within r lawful (row_end r.text (block_at r k).offset) Right (row_end-within r.text (block_at r k).offset le)

-- the line of a block, as it was found
pub line-read : (p : Plain) (lines : List ℕ) (n : ℕ) → lines ≡ map (λ b. line_of_block (record_of p) (block_of b)) p.blocks.items → n < length p.blocks.items →
    get_or lines n 0 ≡ line_of_block (record_of p) (block_at (record_of p) n)
line-read p [] n is lt = absurd (omega (arith, lt, ap length is, length-map p.blocks.items (λ b. line_of_block (record_of p) (block_of b))))
line-read p (l ∷ ls) n is lt = go p.blocks.items is lt where
  go : (bs : List PlainBlock) → l ∷ ls ≡ map (λ b. line_of_block (record_of p) (block_of b)) bs → n < length bs → get_or (l ∷ ls) n 0 ≡ line_of_block (record_of p) (get_or (map block_of bs) n no_block)
  go [] is lt = absurd (omega (arith, lt))
  go (b ∷ bs) is lt =
      ap (λ (ns : List ℕ). get_or ns n 0) is
      ∙ get_or-map (λ b. line_of_block (record_of p) (block_of b)) (b ∷ bs) n b 0 lt
      ∙ ap (line_of_block (record_of p)) (sym (get_or-map block_of (b ∷ bs) n b no_block lt))

-- one more block, of that side or of the other
height-on : (r : Record) (side : Side) (line : ℕ) (b : Block) → is_on side b.side ≡ true → line_of_block r b ≡ line → height_at r side line b ≡ length b.lines
height-on r side line b on at =
    ap (λ (c : Bool). cond {A = ℕ} c (length b.lines) 0) (and_from (is_on side b.side) (eqb (line_of_block r b) line) on (eq-eqb (line_of_block r b) line at))

height-away : (r : Record) (side : Side) (line : ℕ) (b : Block) → (line_of_block r b ≡ line → ⊥) → height_at r side line b ≡ 0
height-away r side line b away =
    ap (λ (c : Bool). cond {A = ℕ} c (length b.lines) 0) (and_right (is_on side b.side) (eqb (line_of_block r b) line) (ne_eqb (line_of_block r b) line away))

height-off : (r : Record) (side : Side) (line : ℕ) (b : Block) → is_on side b.side ≡ false → height_at r side line b ≡ 0
height-off r side line b off =
    ap (λ (c : Bool). cond {A = ℕ} c (length b.lines) 0) (and_left (is_on side b.side) (eqb (line_of_block r b) line) off)

-- rows of blocks before the one of that number, by line
abbrev pub HasStood : Record → Side → ℕ → List ℕ → Type 0
HasStood r side n rows = (length rows ≡ length r.marks) × ((line : ℕ) → line < length r.marks → get_or rows line 0 ≡ stood r side line n)

pub row-added : (r : Record) (side : Side) (n : ℕ) (rows : List ℕ) (at v : ℕ) → IsLawful r → n < length r.blocks → HasStood r side n rows →
    is_on side (block_at r n).side ≡ true → at ≡ line_of_block r (block_at r n) → v ≡ get_or rows at 0 + length (block_at r n).lines → HasStood r side (n + 1) (set rows at v)
row-added r side n rows at v lawful lt has on is value = (length-set rows at v ∙ has.0, λ line within. each line within (cases_eq line at)) where
  b : Block
  b = block_at r n

  each : (line : ℕ) → line < length r.marks → (line ≡ at) ⊎ (line ≡ at → ⊥) → get_or (set rows at v) line 0 ≡ stood r side line (n + 1)
  each line within (inl e) =
      let within' : at < length rows = omega (arith, within, has.0, e) in
      omega (
        arith,
        ap (λ (k : ℕ). get_or (set rows at v) k 0) e,
        get_or-set_same rows at v 0 within',
        value,
        ap (λ (k : ℕ). get_or rows k 0) e,
        has.1 line within,
        stood-more r side line n lt,
        height-on r side line b on (sym is ∙ sym e),
      )
  each line within (inr ne) =
      omega (
        arith,
        get_or-set_other rows at line v 0 ne,
        has.1 line within,
        stood-more r side line n lt,
        height-away r side line b (λ e. ne (sym e ∙ sym is)),
      )

pub row-kept : (r : Record) (side : Side) (n : ℕ) (rows : List ℕ) → n < length r.blocks → HasStood r side n rows →
    is_on side (block_at r n).side ≡ false → HasStood r side (n + 1) rows
row-kept r side n rows lt has off =
    (has.0, λ line within. omega (arith, has.1 line within, stood-more r side line n lt, height-off r side line (block_at r n) off))
