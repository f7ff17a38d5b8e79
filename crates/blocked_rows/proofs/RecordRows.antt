-- What is shown of a record with its blocks is what the record shows.
use Rattle.std.proofs.Common.{◌≡◌, ℕ, ◌<◌, ◌≤◌, ◌==◌, ◌&&◌, Bool, cond, List, [], ◌∷◌, ◌++◌, flat_map, length, map, take, refl, sym, ap, ◌∙◌, arith, append-nil, suc}
use Rattle.std.specs.List.{filter, zip}
use Rattle.std.proofs.lemmas.List.{length-map}
use Rattle.std.proofs.lemmas.List.Elements.{All-cons, All-nil, filter-append}
use Rattle.cell_units.specs.declared.piece.Piece.{Piece}
use Rattle.cell_units.specs.declared.place.Side.{Side}
use Rattle.cell_units.specs.declared.place.Side.TheVariants.{Above, Below}
use Rattle.cell_units.specs.Folded.{display_lines}
use Rattle.cell_units.specs.Lawful as lawful
use Rattle.cell_units.specs.Lawful.{HasLawfulEntries, IsLawful, source_of}
use Rattle.cell_units.specs.LineCounts.{lines_of}
use Rattle.cell_units.specs.Pieces.{pieces_of}
use Rattle.cell_units.specs.Record.{Block, Mark, Record}
use Rattle.cell_units.specs.Rows.{HaveRows}
use Rattle.cell_units.proofs.CutLists.{Every}
use Rattle.cell_units.proofs.FoundEntries.{All-from_Every, Every-from_All}
use Rattle.cell_units.proofs.SortedLists.{Every-filter}
use Rattle.cell_units.specs.Record.{block_le}
use Rattle.cell_line.specs.declared.element.Element.{Element}
use Rattle.cell_line.specs.Elements.{elements_of}
use Rattle.cell_line.specs.RowTexts.{row_texts_of}
use Rattle.cell_line.proofs.RowTexts.{length-row_texts_of}
use Rattle.plain_rows.specs.Rows.{Row, block_rows, blocks_at, head_and_more, is_on, line_elements, line_of_block, line_rows, rows_by_line, rows_of, text_rows, with_blocks}
use Rattle.block_map.specs.Between as between
use Rattle.block_map.specs.Between.{Between, place_of_row, rows_above}
use Rattle.block_map.specs.Maps.{BlocksAgree, Kept, RowsAgree, StandWithin, between_of, block_of, blocks_of, line_of_kept, record_with, stop_of}
use Rattle.block_map.specs.Stops.{Stop}
use Rattle.block_map.specs.inside.ShownStops.{shown_stop}
use Rattle.blocked_rows.specs.Laws.{BeginsLines, FindsLines, ShowsLines, ShowsRows}
use Rattle.blocked_rows.specs.Records.{Lines, kept_block, kept_blocks, kept_on, row_texts, shown_of}
use Rattle.blocked_rows.proofs.BlockPlaces.{line-in}

abbrev on : Side → Block → Bool
on side b = is_on side b.side

-- ---- the rows of lines

have-rows : (ps : List (List Element × ℕ)) → HaveRows (map (λ (p : List Element × ℕ). row_texts_of p.0 p.1) ps)
have-rows [] = All-nil (λ rows. 1 ≤ length rows)
have-rows (p ∷ ps) =
    All-cons (λ rows. 1 ≤ length rows) (row_texts_of p.0 p.1) (map (λ (p : List Element × ℕ). row_texts_of p.0 p.1) ps)
    (omega (arith, length-row_texts_of p.0 p.1)) (have-rows ps)

length-pairs : (es : List (List Element)) (ms : List Mark) → length es ≡ length ms
    → length (map (λ (p : List Element × ℕ). row_texts_of p.0 p.1) (zip es (map (λ (m : Mark). m.width) ms))) ≡ length ms
length-pairs [] [] e = refl
length-pairs [] (m ∷ ms) e = absurd (omega (arith, e))
length-pairs (l ∷ es) [] e = absurd (omega (arith, e))
length-pairs (l ∷ es) (m ∷ ms) e = ap suc (length-pairs es ms (omega (arith, e)))

-- the first row of a line is its head, and the others go on
texts-same : (es : List (List Element)) (ms : List Mark)
    → map head_and_more (map (λ (p : List Element × ℕ). row_texts_of p.0 p.1) (zip es (map (λ (m : Mark). m.width) ms)))
    ≡ map (λ (l : List Element × Mark). text_rows l.0 l.1.width) (zip es ms)
texts-same [] ms = refl
texts-same (l ∷ es) [] = refl
texts-same (l ∷ es) (m ∷ ms) = ap (λ (ls : List (List Row)). text_rows l m.width ∷ ls) (texts-same es ms)

-- ---- the blocks at a line

module _ (r : Record) (lines : Lines) where
  -- a block of the side at the line
  abbrev at_line : Side → ℕ → Block → Bool
  at_line side line b = is_on side b.side && (line_of_block r b == line)

  abbrev as_kept : Side → List Block → List Block
  as_kept side bs = map (block_of side) (map (kept_block r lines side) (filter (on side) bs))

  -- those of one side there are those of the record
  same-side : (side : Side) (line : ℕ) (bs : List Block) → filter (at_line side line) (as_kept side bs) ≡ filter (at_line side line) bs
  same-side side line [] = refl
  same-side side line (b ∷ bs) = one side b.side refl (same-side side line bs) where
    one : (side at : Side) → b.side ≡ at → filter (at_line side line) (as_kept side bs) ≡ filter (at_line side line) bs
        → filter (at_line side line) (as_kept side (b ∷ bs)) ≡ filter (at_line side line) (b ∷ bs)
    one Above Above e more =
        let c = block_of Above (kept_block r lines Above b) in
        (λ i. filter (at_line Above line) (map (block_of Above) (map (kept_block r lines Above) (cond (is_on Above (e i)) (b ∷ filter (on Above) bs) (filter (on Above) bs)))))
        ∙ ap (λ (l : List Block). cond (at_line Above line c) (c ∷ l) l) more
        ∙ (λ i. filter (at_line Above line) (record b { side = sym e i } ∷ bs))
    one Below Below e more =
        let c = block_of Below (kept_block r lines Below b) in
        (λ i. filter (at_line Below line) (map (block_of Below) (map (kept_block r lines Below) (cond (is_on Below (e i)) (b ∷ filter (on Below) bs) (filter (on Below) bs)))))
        ∙ ap (λ (l : List Block). cond (at_line Below line c) (c ∷ l) l) more
        ∙ (λ i. filter (at_line Below line) (record b { side = sym e i } ∷ bs))
    one Above Below e more =
        (λ i. filter (at_line Above line) (map (block_of Above) (map (kept_block r lines Above) (cond (is_on Above (e i)) (b ∷ filter (on Above) bs) (filter (on Above) bs)))))
        ∙ more
        ∙ (λ i. filter (at_line Above line) (record b { side = sym e i } ∷ bs))
    one Below Above e more =
        (λ i. filter (at_line Below line) (map (block_of Below) (map (kept_block r lines Below) (cond (is_on Below (e i)) (b ∷ filter (on Below) bs) (filter (on Below) bs)))))
        ∙ more
        ∙ (λ i. filter (at_line Below line) (record b { side = sym e i } ∷ bs))

  -- those of the other side aren't there
  none-above : (line : ℕ) (ks : List Kept) → filter (at_line Above line) (map (block_of Below) ks) ≡ []
  none-above line [] = refl
  none-above line (k ∷ ks) = none-above line ks

  none-below : (line : ℕ) (ks : List Kept) → filter (at_line Below line) (map (block_of Above) ks) ≡ []
  none-below line [] = refl
  none-below line (k ∷ ks) = none-below line ks

  blocks-same : (side : Side) (line : ℕ) → blocks_at (record_with (source_of r) (blocks_of (kept_blocks r lines))) side line ≡ blocks_at r side line
  blocks-same Above line =
      let above = as_kept Above r.blocks in
      let below = as_kept Below r.blocks in
      ap (flat_map block_rows)
      (filter-append (at_line Above line) above below
      ∙ ap (λ (bs : List Block). filter (at_line Above line) above ++ bs) (none-above line (kept_on r lines Below))
      ∙ append-nil (filter (at_line Above line) above)
      ∙ same-side Above line r.blocks)
  blocks-same Below line =
      let above = as_kept Above r.blocks in
      let below = as_kept Below r.blocks in
      ap (flat_map block_rows)
      (filter-append (at_line Below line) above below
      ∙ ap (λ (bs : List Block). bs ++ filter (at_line Below line) below) (none-below line (kept_on r lines Above))
      ∙ same-side Below line r.blocks)

  -- ---- the stops of blocks

  stops : (side : Side) (bs : List Block)
      → map shown_stop (map (kept_block r lines side) bs) ≡ map (stop_of (source_of r) lines side) (map (kept_block r lines side) bs)
  stops side [] = refl
  stops side (b ∷ bs) = ap (λ (l : List Stop). stop_of (source_of r) lines side (kept_block r lines side b) ∷ l) (stops side bs)

  stand-within : HasLawfulEntries r → length (lines_of r) ≡ length lines → (side : Side) → StandWithin (source_of r) lines side (kept_on r lines side)
  stand-within is equal side =
      All-from_Every (λ k. line_of_kept (source_of r) side k < length lines) (kept_on r lines side)
      (go (filter (on side) r.blocks)
      (Every-filter block_le (lawful.IsBlockOf r.text) (on side) r.blocks (Every-from_All (lawful.IsBlockOf r.text) r.blocks is.blocks.each))) where
        go : (bs : List Block) → Every (lawful.IsBlockOf r.text) bs → Every (λ k. line_of_kept (source_of r) side k < length lines) (map (kept_block r lines side) bs)
        go [] of = tt
        go (b ∷ bs) of = (omega (arith, equal, line-in (source_of r) side (kept_block r lines side b) is.source of.0.boundary.0), go bs of.1)

-- ---- the rows of a record

module _ (r : Record) (is : IsLawful r) where
  abbrev texts : Lines
  texts = row_texts r

  length-elements : length (line_elements r) ≡ length r.marks
  length-elements =
      length-map (lines_of r) (λ (pieces : List Piece). elements_of pieces r.tab)
      ∙ length-map (display_lines r.text r.inlays r.folds) pieces_of
      ∙ sym is.marked

  count : length texts ≡ length r.marks
  count = length-pairs (line_elements r) r.marks length-elements

  equal : length (lines_of r) ≡ length texts
  equal = length-map (display_lines r.text r.inlays r.folds) pieces_of ∙ sym is.marked ∙ sym count

  have : HaveRows texts
  have = have-rows (zip (line_elements r) (map (λ (m : Mark). m.width) r.marks))

  is-between : shown_of r ≡ between_of (source_of r) texts (kept_blocks r texts)
  is-between = λ i. record {
    lines = texts;
    above = stops r texts Above (filter (on Above) r.blocks) i;
    below = stops r texts Below (filter (on Below) r.blocks) i;
  }

  within : (side : Side) → StandWithin (source_of r) texts side (kept_on r texts side)
  within side = stand-within r texts is.entries equal side

  line-rows : map head_and_more texts ≡ line_rows r
  line-rows = texts-same (line_elements r) r.marks

  above-same : BlocksAgree → (line : ℕ) → line < length texts → rows_above (shown_of r) line ≡ blocks_at r Above line
  above-same agree line lt =
      ap (λ (b : Between). rows_above b line) is-between
      ∙ (agree (source_of r) (kept_blocks r texts) texts have (within Above) (within Below) line lt).0
      ∙ blocks-same r texts Above line

pub shows-lines : RowsAgree → ShowsLines
unfolding rows_by_line
shows-lines agree r is =
    let lines = row_texts r in
    ap between.rows_by_line (is-between r is)
    ∙ agree (source_of r) (kept_blocks r lines) lines (have r is) (within r is Above) (within r is Below)
    ∙ (λ i. with_blocks (λ (l : ℕ). blocks-same r lines Above l i) (λ (l : ℕ). blocks-same r lines Below l i) (line-rows r is i))

pub shows-rows : RowsAgree → ShowsRows
unfolding rows_of
shows-rows agree r is = ap (flat_map (λ (rows : List Row). rows)) (shows-lines agree r is)

pub begins-lines : RowsAgree → BlocksAgree → BeginsLines
begins-lines agree blocks r is line lt =
    let before : length (flat_map (λ (rows : List Row). rows) (take line (between.rows_by_line (shown_of r)))) ≡ length (flat_map (λ (rows : List Row). rows) (take line (rows_by_line r))) =
    ap (λ (ls : List (List Row)). length (flat_map (λ (rows : List Row). rows) (take line ls))) (shows-lines agree r is) in
    let above : length (rows_above (shown_of r) line) ≡ length (blocks_at r Above line) = ap length (above-same r is blocks line (omega (arith, lt, count r is))) in
    omega (arith, before, above)

pub finds-lines : RowsAgree → BlocksAgree → FindsLines
finds-lines agree blocks r is row line found =
    let lines : length (row_texts r) ≡ length r.marks = count r is in
    let here : line < length r.marks = omega (arith, lines, found.within) in
    record {
      within = here;
      begins = λ some. omega (arith, begins-lines agree blocks r is line here, found.begun some);
      ends = λ l behind lt. omega (arith, begins-lines agree blocks r is l lt, found.behind l behind (omega (arith, lt, lines)));
    }
