-- The blocks of one side in order: their lines don't fall, and the rows of those at one line.
use Rattle.std.proofs.Common.{◌≡◌, ℕ, ◌+◌, ◌-◌, ◌<◌, ◌≤◌, zero, suc, Bool, true, false, cond, eqb, eq-eqb, ne_eqb, lt-ltb, ltb-true, ltb-false, List, [], ◌∷◌, ◌++◌, length, drop, drop-cons, filter, flat_map, get_or, refl, sym, ap, subst, ◌∙◌, inl, inr, arith}
use Rattle.std.specs.Prelude.{None, Option, Some, option_map, slice_get}
use Rattle.std.proofs.lemmas.Bool.{cases_lt, false≢true}
use Rattle.std.proofs.lemmas.List.{drop_all, length-map}
use Rattle.std.proofs.lemmas.Option.{get_or_from_slice_get, none-some, same_Some, slice_get-get_or, slice_get-map, slice_get_within}
use Rattle.cell_units.specs.declared.place.Side.{Side}
use Rattle.cell_units.specs.declared.place.Side.TheVariants.{Above, Below}
use Rattle.cell_units.specs.Lawful.{IsBlockOf, IsLawful}
use Rattle.cell_units.specs.Record.{Block, Record}
use Rattle.plain_rows.specs.Rows.{is_on, line_of_block}
use Rattle.plain_rows.specs.inside.BuiltRows.{no_block}
use Rattle.plain_rows.proofs.BuiltRows.{lines-rise}
use Rattle.block_map.specs.Maps.{BlockState, on_side}
use Rattle.blocked_rows.specs.Records.{kept_blocks, row_texts}
use Rattle.map_sheet.specs.Listed.{side_blocks}
use Rattle.map_sheet.proofs.ListedBlocks.{length-on}
use Rattle.row_pieces.specs.declared.row_piece.RowPiece.{RowPiece}
use Rattle.row_pieces.specs.Pieces.{block_piece, block_pieces_at, pieces_of_block}
use Rattle.view_pieces.specs.Blocks.{lines_there}
use Rattle.view_pieces.specs.inside.Blocks.{AreBefore, IsLineOf, comes_before}
use Rattle.view_pieces.proofs.Lists.{append-left, append-past, drop-at, filter-both, kept-at, kept-pairs, none-kept}

own-side : (side other : Side) → is_on side other ≡ true → other ≡ side
own-side Above Above e = refl
own-side Above Below e = absurd (false≢true e)
own-side Below Above e = absurd (false≢true e)
own-side Below Below e = refl

-- those of one side are no more than all
pub few-on : (side : Side) (b : BlockState) → length (on_side side b) ≤ length b.above + length b.below
few-on Above b = omega arith
few-on Below b = omega arith

pub few-blocks : (r : Record) (b : BlockState) → b ≡ kept_blocks r (row_texts r) → (side : Side) → length (side_blocks r side) ≤ length b.above + length b.below
few-blocks r b is side =
    let few : length (on_side side (kept_blocks r (row_texts r))) ≤ length b.above + length b.below = subst (λ (x : BlockState). length (on_side side x) ≤ length b.above + length b.below) is (few-on side b) in
    omega (arith, few, length-on r (row_texts r) side)

-- the blocks at a line
abbrev at_line : Record → ℕ → Block → Bool
at_line r line b = eqb (line_of_block r b) line

-- the rows of those at a line, from a block of one number on
abbrev pub rows_from : Record → Side → ℕ → ℕ → List (List RowPiece)
rows_from r side line n = flat_map (pieces_of_block r.tab) (filter (at_line r line) (drop n (side_blocks r side)))

-- those before a line are none of those at it
skipped : (r : Record) (line : ℕ) (bs : List Block) (n : ℕ) → ((k : ℕ) → k < n → comes_before r line (slice_get bs k) ≡ true) → filter (at_line r line) bs ≡ filter (at_line r line) (drop n bs)
skipped r line [] zero before = refl
skipped r line [] (suc n) before = refl
skipped r line (b ∷ bs) zero before = refl
skipped r line (b ∷ bs) (suc n) before =
    let low : line_of_block r b < line = ltb-true (line_of_block r b) line (before 0 (omega arith)) in
    let off : at_line r line b ≡ false = ne_eqb (line_of_block r b) line (λ e. omega (arith, low, e)) in
    ap (λ (c : Bool). cond c (b ∷ filter (at_line r line) bs) (filter (at_line r line) bs)) off
    ∙ skipped r line bs n (λ k lt. before (suc k) (omega (arith, lt)))

module _ (r : Record) (lawful : IsLawful r) (side : Side) where
  abbrev bs : List Block
  bs = side_blocks r side

  -- a block of the side is one of the record
  pub block-lawful : (k : ℕ) (b : Block) → slice_get bs k ≡ Some b → IsBlockOf r.text b × (b.side ≡ side)
  block-lawful k b e =
      let at = kept-at (λ (c : Block). is_on side c.side) r.blocks k b no_block e in
      (subst (IsBlockOf r.text) at.2 (lawful.entries.blocks.each at.0 no_block at.1), own-side side b.side at.3)

  lines-rise-on : (i j : ℕ) (x y : Block) → i < j → slice_get bs i ≡ Some x → slice_get bs j ≡ Some y → line_of_block r x ≤ line_of_block r y
  lines-rise-on =
      kept-pairs (λ (c : Block). is_on side c.side) (λ (x y : Block). line_of_block r x ≤ line_of_block r y) no_block r.blocks
      (λ i j lt within a b. lines-rise r lawful i j lt within (own-side side (get_or r.blocks i no_block).side a ∙ sym (own-side side (get_or r.blocks j no_block).side b)))

  module _ (line : ℕ) where
    pub lower-before : (i j : ℕ) → i ≤ j → comes_before r line (slice_get bs j) ≡ true → comes_before r line (slice_get bs i) ≡ true
    lower-before i j le on = elim (cases_lt i j) [
      | inl lt ↦ go (slice_get bs j) refl on lt
      | inr ge ↦ let same : j ≡ i = omega (arith, le, ge) in subst (λ (k : ℕ). comes_before r line (slice_get bs k) ≡ true) same on
    ] where
      go : (o : Option Block) → slice_get bs j ≡ o → comes_before r line o ≡ true → i < j → comes_before r line (slice_get bs i) ≡ true
      go None e on lt = absurd (false≢true on)
      go (Some y) e on lt =
          let x = get_or bs i no_block in
          let here : slice_get bs i ≡ Some x = slice_get-get_or bs i no_block (omega (arith, lt, slice_get_within bs j y e)) in
          ap (comes_before r line) here
          ∙ lt-ltb (line_of_block r x) line (omega (arith, lines-rise-on i j x y lt here e, ltb-true (line_of_block r y) line on))

    -- those after one that doesn't come before a line don't either
    pub upper-others : (i j : ℕ) → i ≤ j → comes_before r line (slice_get bs i) ≡ false → comes_before r line (slice_get bs j) ≡ false
    upper-others i j le off = go (comes_before r line (slice_get bs j)) refl where
      go : (b : Bool) → comes_before r line (slice_get bs j) ≡ b → b ≡ false
      go false e = refl
      go true e = absurd (false≢true (sym off ∙ lower-before i j le e))

    -- the rows of the blocks at the line are those from the first of them on
    pub rows-from-first : (n : ℕ) → AreBefore r side line n → block_pieces_at r side line ≡ rows_from r side line n
    rows-from-first n are =
        ap (flat_map (pieces_of_block r.tab))
        (filter-both (λ (b : Block). is_on side b.side) (at_line r line) r.blocks ∙ skipped r line bs n are.before)

    -- there is no row where no block is left
    pub no-rows : (n : ℕ) → length bs ≤ n → rows_from r side line n ≡ []
    no-rows n le = ap (λ (l : List Block). flat_map (pieces_of_block r.tab) (filter (at_line r line) l)) (drop_all n bs le)

    -- ... or the next one is elsewhere
    pub no-rows-here : (n : ℕ) → comes_before r line (slice_get bs n) ≡ false → None ≡ lines_there r line (slice_get bs n) → rows_from r side line n ≡ []
    no-rows-here n off none = go (slice_get bs n) refl off none where
      away : (b : Block) → slice_get bs n ≡ Some b → line < line_of_block r b → (k : ℕ) (x : Block) → slice_get (drop n bs) k ≡ Some x → at_line r line x ≡ false
      away b e far zero x f =
          let at : n + 0 ≡ n = omega arith in
          let same : b ≡ x = same_Some b x (sym e ∙ ap (slice_get bs) (sym at) ∙ sym (drop-at n bs 0) ∙ f) in
          ne_eqb (line_of_block r x) line (λ here. omega (arith, far, ap (line_of_block r) same, here))
      away b e far (suc k) x f =
          ne_eqb (line_of_block r x) line
          (λ here. omega (arith, far, lines-rise-on n (n + suc k) b x (omega arith) e (sym (drop-at n bs (suc k)) ∙ f), here))

      by : (b : Block) → slice_get bs n ≡ Some b → comes_before r line (Some b) ≡ false → (c : Bool) → at_line r line b ≡ c →
          None ≡ cond c (Some (length b.lines)) None → rows_from r side line n ≡ []
      by b e off true at none = absurd (none-some (length b.lines) none)
      by b e off false at none =
          let from : line ≤ line_of_block r b = ltb-false (line_of_block r b) line off in
          let far : line < line_of_block r b = elim (cases_lt line (line_of_block r b)) [
            | inl lt ↦ lt
            | inr ge ↦ let here : line_of_block r b ≡ line = omega (arith, from, ge) in absurd (false≢true (sym at ∙ eq-eqb (line_of_block r b) line here))
          ] in
          ap (flat_map (pieces_of_block r.tab)) (none-kept (at_line r line) (drop n bs) (away b e far))

      go : (o : Option Block) → slice_get bs n ≡ o → comes_before r line o ≡ false → None ≡ lines_there r line o → rows_from r side line n ≡ []
      go None e off none =
          no-rows n (elim (cases_lt n (length bs)) [
            | inl lt ↦ absurd (none-some (get_or bs n no_block) (sym e ∙ slice_get-get_or bs n no_block lt))
            | inr ge ↦ ge
          ])
      go (Some b) e off none = by b e off (at_line r line b) refl none

    -- the block of a number that is at the line
    pub record IsThere (n count : ℕ) : Type 0 where
      pub block : Block
      pub there : slice_get bs n ≡ Some block
      pub count_is : length block.lines ≡ count
      pub rows_are : rows_from r side line n ≡ pieces_of_block r.tab block ++ rows_from r side line (n + 1)

    pub block-there : (n count : ℕ) → Some count ≡ lines_there r line (slice_get bs n) → IsThere n count
    block-there n count some = go (slice_get bs n) refl some where
      by : (b : Block) → slice_get bs n ≡ Some b → (c : Bool) → at_line r line b ≡ c → Some count ≡ cond c (Some (length b.lines)) None → IsThere n count
      by b e false at some = absurd (none-some count (sym some))
      by b e true at some =
          let one : suc n ≡ n + 1 = omega arith in
          let next : drop n bs ≡ b ∷ drop (n + 1) bs =
          drop-cons bs n b (slice_get_within bs n b e) ∙ (λ i. get_or_from_slice_get bs n b b e i ∷ drop (one i) bs) in
          let here : filter (at_line r line) (drop n bs) ≡ b ∷ filter (at_line r line) (drop (n + 1) bs) =
          ap (filter (at_line r line)) next
          ∙ ap (λ (c : Bool). cond c (b ∷ filter (at_line r line) (drop (n + 1) bs)) (filter (at_line r line) (drop (n + 1) bs))) at in
          record {
            block = b;
            there = e;
            count_is = same_Some (length b.lines) count (sym some);
            rows_are = ap (flat_map (pieces_of_block r.tab)) here;
          }

      go : (o : Option Block) → slice_get bs n ≡ o → Some count ≡ lines_there r line o → IsThere n count
      go None e some = absurd (none-some count (sym some))
      go (Some b) e some = by b e (at_line r line b) refl some

    -- a row of the block of a number
    pub row-in-block : (at n k count : ℕ) → IsThere n count → slice_get (block_pieces_at r side line) at ≡ slice_get (rows_from r side line n) k → k < count →
        IsLineOf r side line at n k
    row-in-block at n k count t is lt =
        let b = t.block in
        let within : k < length b.lines = omega (arith, lt, t.count_is) in
        record {
          block = b;
          there = t.there;
          within = within;
          pieces_are =
              is
              ∙ ap (λ (l : List (List RowPiece)). slice_get l k) t.rows_are
              ∙ append-left (pieces_of_block r.tab b) (rows_from r side line (n + 1)) k (omega (arith, within, length-map b.lines (λ (l : List ℕ). block_piece r.tab b l ∷ [])))
              ∙ slice_get-map (λ (l : List ℕ). block_piece r.tab b l ∷ []) b.lines k
              ∙ ap (option_map (λ (l : List ℕ). block_piece r.tab b l ∷ [])) (slice_get-get_or b.lines k [] within);
        }

    -- a row after it
    pub row-after-block : (at n k count : ℕ) → IsThere n count → slice_get (block_pieces_at r side line) at ≡ slice_get (rows_from r side line n) k → count ≤ k →
        slice_get (block_pieces_at r side line) at ≡ slice_get (rows_from r side line (n + 1)) (k - count)
    row-after-block at n k count t is le =
        let b = t.block in
        let long : length (pieces_of_block r.tab b) ≡ count = length-map b.lines (λ (l : List ℕ). block_piece r.tab b l ∷ []) ∙ t.count_is in
        is
        ∙ ap (λ (l : List (List RowPiece)). slice_get l k) t.rows_are
        ∙ append-past (pieces_of_block r.tab b) (rows_from r side line (n + 1)) k (omega (arith, le, long))
        ∙ ap (λ (n' : ℕ). slice_get (rows_from r side line (n + 1)) (k - n')) long
