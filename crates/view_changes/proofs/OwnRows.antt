-- The rows of a block are its own: they come, or go, where its line and the blocks before it there say.
use Rattle.std.proofs.Common.{◌≡◌, ℕ, ◌+◌, ◌<◌, ◌≤◌, ◌==◌, ◌&&◌, not, suc, cond, eqb, Bool, true, false, List, [], ◌∷◌, ◌++◌, length, filter, flat_map, take, drop, get_or, slice_range, refl, sym, ap, subst, ◌∙◌, arith, append_assoc, length-append, eq-eqb}
use Rattle.std.specs.Prelude.{Some}
use Rattle.std.specs.List.{find}
use Rattle.std.proofs.Math.Seq.{drop-cons}
use Rattle.std.proofs.lemmas.List.{take-append-drop}
use Rattle.std.proofs.lemmas.List.Concat.{flat_map-append}
use Rattle.std.proofs.lemmas.List.Elements.{filter-append}
use Rattle.std.proofs.lemmas.List.Sums.{length-filter}
use Rattle.std.proofs.lemmas.Option.{get_or_from_slice_get, slice_get_within}
use Rattle.cell_units.specs.declared.place.Bias.TheVariants.{Left, Right}
use Rattle.cell_units.specs.declared.place.Side.{Side}
use Rattle.cell_units.specs.declared.place.Side.TheVariants.{Above, Below}
use Rattle.cell_units.specs.Lawful.{IsLawful}
use Rattle.cell_units.specs.Operation.{RemoveBlock, without_block}
use Rattle.cell_units.specs.Record.{Block, Record}
use Rattle.cell_units.specs.Text.{row_end, row_start}
use Rattle.display_sheet.specs.LineStep.{line_step}
use Rattle.display_sheet.proofs.StepLaws.{IsLawful-step}
use Rattle.map_sheet.specs.Listed.{side_blocks}
use Rattle.plain_rows.specs.Rows.{is_on, line_of_block, rows_by_line}
use Rattle.plain_rows.specs.inside.BuiltRows.{block_at, no_block}
use Rattle.plain_rows.proofs.RisingLines.{row_end-within, row_start-le}
use Rattle.plain_rows.proofs.SpotFronts.{line_of-within}
use Rattle.row_pieces.specs.declared.row_change.RowChange.{RowChange}
use Rattle.row_pieces.specs.Changed.{IsTrue, RowLook, change, looks, looks_by_line}
use Rattle.row_pieces.specs.Laws.{IsBlockLine}
use Rattle.row_pieces.proofs.BlockChanges.{block-line-true}
use Rattle.row_pieces.proofs.LookCounts.{rows-to}
use Rattle.row_pieces.proofs.OperatedBlocks.{on}
use Rattle.view_changes.specs.Operations.{BringsBlock, TakesBlock, at_line, looks_of_block, rows_in, side_start}
use Rattle.view_changes.specs.inside.OwnRows.{AreRowsOfBlock}
use Rattle.view_changes.proofs.BlockSteps.{removed}
use Rattle.view_changes.proofs.Inserted.{back, comes, front, goes, new-all, old-all, own-are}
use Rattle.view_changes.proofs.SeenLines.{block_part, length-own, length-rows, length-seen, length-texts, line-seen, text_part}
use Rattle.view_changes.proofs.Unique.{filter-swapped, find-head, is-one, left-out, only-one, others-all}
use Rattle.view_pieces.proofs.Lists.{filter-both, kept-at}

-- ---- a block of a record

abbrev has : ℕ → Block → Bool
has id b = b.id == id

line-within : (r : Record) (is : IsLawful r) (b : Block) → b.offset ≤ length r.text → line_of_block r b < length r.marks
line-within r is b le = go b.side refl where
  go : (side : Side) → b.side ≡ side → line_of_block r b < length r.marks
  go Above e =
      let at = line_of-within r is (row_start r.text b.offset) Left (omega (arith, le, row_start-le r.text b.offset)) in
      subst (λ (side : Side). line_of_block r (record b { side = side }) < length r.marks) (sym e) at
  go Below e =
      let at = line_of-within r is (row_end r.text b.offset) Right (row_end-within r.text b.offset le) in
      subst (λ (side : Side). line_of_block r (record b { side = side }) < length r.marks) (sym e) at

module _ (w : Record) (is : IsLawful w) (side : Side) (number id from count : ℕ) (own : AreRowsOfBlock w side number id from count) where
  abbrev b : Block
  b = own.block

  abbrev line : ℕ
  line = line_of_block w b

  abbrev without : Record
  without = record w { blocks = without_block id w.blocks }

  -- where it is among all blocks
  place : (k : ℕ) × (k < length w.blocks) × (get_or w.blocks k no_block ≡ b) × (is_on side b.side ≡ true)
  place = kept-at (λ (c : Block). is_on side c.side) w.blocks number b no_block own.there

  has-own : has id b ≡ true
  has-own = eq-eqb b.id id own.id_is

  -- it is the only one of its id
  pub alone : filter (has id) w.blocks ≡ b ∷ []
  alone =
      only-one (has id) w.blocks place.0 no_block (omega (arith, length-filter (has id) w.blocks, is.entries.blocks.distinct id)) place.1 (ap (has id) place.2 ∙ has-own)
      ∙ ap (λ (c : Block). c ∷ []) place.2

  pub found : find (has id) w.blocks ≡ Some b
  found = find-head (has id) w.blocks [] b alone

  at-line : IsBlockLine (RemoveBlock id) w line
  at-line k lt e = ap (line_of_block w) (is-one (has id) w.blocks k no_block b alone lt (eq-eqb (block_at w k).id id e))

  within : line < length w.marks
  within =
      let boundary = is.entries.blocks.each place.0 no_block place.1 in
      line-within w is b (subst (λ (c : Block). c.offset ≤ length w.text) place.2 boundary.boundary.0)

  removed-is : line_step (RemoveBlock id) w ≡ without
  removed-is = removed w is id

  lawful-without : IsLawful without
  lawful-without = subst IsLawful removed-is (IsLawful-step (RemoveBlock id) w is tt)

  others-stay : IsTrue (change line (line + 1) 1) (looks_by_line w) (looks_by_line without)
  others-stay =
      subst (λ (q : Record). IsTrue (change line (line + 1) 1) (looks_by_line w) (looks_by_line q)) removed-is
      (block-line-true (RemoveBlock id) w line is tt within at-line)

  -- ---- the blocks of its line

  abbrev bs : List Block
  bs = side_blocks w side

  abbrev here : Block → Bool
  here c = eqb (line_of_block w c) line

  abbrev ahead : List Block
  ahead = at_line w line (take number bs)

  abbrev later : List Block
  later = at_line w line (drop (number + 1) bs)

  parted : filter (on w side line) w.blocks ≡ ahead ++ b ∷ later
  parted =
      let one : suc number ≡ number + 1 = omega arith in
      let next : drop number bs ≡ b ∷ drop (number + 1) bs =
      drop-cons bs number no_block (slice_get_within bs number b own.there) ∙ (λ i. get_or_from_slice_get bs number b no_block own.there i ∷ drop (one i) bs) in
      let at : filter here (b ∷ drop (number + 1) bs) ≡ b ∷ later = ap (λ (c : Bool). cond c (b ∷ later) later) (eq-eqb line line refl) in
      filter-both (λ (c : Block). is_on side c.side) here w.blocks
      ∙ ap (filter here) (sym (take-append-drop number bs))
      ∙ filter-append here (take number bs) (drop number bs)
      ∙ ap (λ (l : List Block). ahead ++ filter here l) next
      ∙ ap (λ (l : List Block). ahead ++ l) at

  -- what passes of those of the id
  of-id : (q : Block → Bool) → filter (has id) (filter q w.blocks) ≡ cond (q b) (b ∷ []) []
  of-id q = filter-swapped q (has id) w.blocks ∙ ap (filter q) alone

  on-own : on w side line b ≡ true
  on-own = (λ i. place.3 i && eq-eqb line line refl i)

  left : filter (on w side line) without.blocks ≡ ahead ++ later
  left =
      filter-swapped (λ (c : Block). not (has id c)) (on w side line) w.blocks
      ∙ ap (filter (λ c. not (has id c))) parted
      ∙ left-out (has id) ahead later b has-own
      (ap (filter (has id)) (sym parted) ∙ of-id (on w side line) ∙ ap (λ (c : Bool). cond c (b ∷ []) []) on-own)

  -- those of another side stay
  stay : (other : Side) → is_on other b.side ≡ false → filter (on w other line) without.blocks ≡ filter (on w other line) w.blocks
  stay other off =
      filter-swapped (λ (c : Block). not (has id c)) (on w other line) w.blocks
      ∙ others-all (has id) (filter (on w other line) w.blocks)
      (of-id (on w other line) ∙ ap (λ (c : Bool). cond (c && eqb line line) (b ∷ []) []) off)

  -- ---- the rows

  abbrev seen : List Block → List RowLook
  seen l = flat_map (looks_of_block w.tab) l

  own-side : block_part w is line side ≡ seen ahead ++ (looks_of_block w.tab b ++ seen later)
  own-side = ap seen parted ∙ flat_map-append (looks_of_block w.tab) ahead (b ∷ later)

  own-left : block_part without lawful-without line side ≡ seen ahead ++ seen later
  own-left = ap seen left ∙ flat_map-append (looks_of_block w.tab) ahead later

  -- the line's rows before those of the block and after them
  pub record Parts : Type 0 where
    pub before : List RowLook
    pub after : List RowLook
    pub without_it : get_or (looks_by_line without) line [] ≡ before ++ after
    pub with_it : get_or (looks_by_line w) line [] ≡ before ++ (looks_of_block w.tab b ++ after)
    pub from_is : from ≡ length (flat_map (λ rows. rows) (take line (looks_by_line w))) + length before

  start-is : from ≡ side_start w side line + rows_in ahead
  start-is = own.from_is

  off-above : side ≡ Below → is_on Above b.side ≡ false
  off-above e = flipped (is_on Above b.side) (ap (λ (s : Side). is_on s b.side) (sym e) ∙ place.3) where
    flipped : (c : Bool) → not c ≡ true → c ≡ false
    flipped true h = sym h
    flipped false h = refl

  off-below : side ≡ Above → is_on Below b.side ≡ false
  off-below e = ap not (ap (λ (s : Side). is_on s b.side) (sym e) ∙ place.3)

  abbrev texts : List RowLook
  texts = text_part w is line

  abbrev above : List RowLook
  above = block_part w is line Above

  abbrev below : List RowLook
  below = block_part w is line Below

  abbrev mine : List RowLook
  mine = looks_of_block w.tab b

  parts : Parts
  parts = go side refl where
    rows-are : length (flat_map (λ rows. rows) (take line (looks_by_line w))) ≡ length (flat_map (λ rows. rows) (take line (rows_by_line w)))
    rows-are = rows-to w line

    go : (s : Side) → side ≡ s → Parts
    go Above e = record {
      before = seen ahead;
      after = seen later ++ (texts ++ below);
      without_it =
          line-seen without lawful-without line within
          ∙ (λ i. (ap (block_part without lawful-without line) (sym e) ∙ own-left) i ++ (texts ++ seen (stay Below (off-below e) i)))
          ∙ append_assoc (seen ahead) (seen later) (texts ++ below);
      with_it =
          line-seen w is line within
          ∙ (λ i. (ap (block_part w is line) (sym e) ∙ own-side) i ++ (texts ++ below))
          ∙ append_assoc (seen ahead) (mine ++ seen later) (texts ++ below)
          ∙ ap (λ (l : List RowLook). seen ahead ++ l) (append_assoc mine (seen later) (texts ++ below));
      from_is = omega (arith, start-is, ap (λ (s : Side). side_start w s line) e, length-seen w.tab ahead);
    }
    go Below e = record {
      before = above ++ (texts ++ seen ahead);
      after = seen later;
      without_it =
          line-seen without lawful-without line within
          ∙ (λ i. seen (stay Above (off-above e) i) ++ (texts ++ (ap (block_part without lawful-without line) (sym e) ∙ own-left) i))
          ∙ ap (λ (l : List RowLook). above ++ l) (sym (append_assoc texts (seen ahead) (seen later)))
          ∙ sym (append_assoc above (texts ++ seen ahead) (seen later));
      with_it =
          line-seen w is line within
          ∙ (λ i. above ++ (texts ++ (ap (block_part w is line) (sym e) ∙ own-side) i))
          ∙ ap (λ (l : List RowLook). above ++ l) (sym (append_assoc texts (seen ahead) (mine ++ seen later)))
          ∙ sym (append_assoc above (texts ++ seen ahead) (mine ++ seen later));
      from_is =
          omega (
            arith,
            start-is,
            ap (λ (s : Side). side_start w s line) e,
            rows-are,
            length-rows (filter (on w Above line) w.blocks),
            length-seen w.tab (filter (on w Above line) w.blocks),
            length-texts w is line,
            length-seen w.tab ahead,
            length-append above (texts ++ seen ahead),
            length-append texts (seen ahead),
          );
    }

  -- ---- the block comes, or goes

  back-again : IsTrue (change line (line + 1) 1) (looks_by_line without) (looks_by_line w)
  back-again = record {
    order = others-stay.order;
    within_old = others-stay.within_new;
    within_new = others-stay.within_old;
    before = sym others-stay.before;
    after = sym others-stay.after;
  }

  abbrev first : List RowLook
  first = front (looks_by_line without) (looks_by_line w) line back-again parts.before mine parts.after parts.without_it parts.with_it

  abbrev last : List RowLook
  last = back (looks_by_line without) (looks_by_line w) line back-again parts.before mine parts.after parts.without_it parts.with_it

  rows-without : looks without ≡ first ++ last
  rows-without = old-all (looks_by_line without) (looks_by_line w) line back-again parts.before mine parts.after parts.without_it parts.with_it

  rows-with : looks w ≡ first ++ (mine ++ last)
  rows-with = new-all (looks_by_line without) (looks_by_line w) line back-again parts.before mine parts.after parts.without_it parts.with_it

  first-is : from ≡ length first
  first-is =
      omega (
        arith,
        parts.from_is,
        ap (λ (lines : List (List RowLook)). length (flat_map (λ rows. rows) lines)) others-stay.before,
        length-append (flat_map (λ rows. rows) (take line (looks_by_line without))) parts.before,
      )

  mine-is : count ≡ length mine
  mine-is = own.count_is ∙ sym (length-own w.tab b)

  own-rows : slice_range (looks w) from (from + count) ≡ mine
  own-rows =
      (λ i. slice_range (rows-with i) (first-is i) (first-is i + mine-is i))
      ∙ own-are first mine last

  pub comes-in : BringsBlock b without w (change from from count)
  comes-in = record {
    none_goes = refl;
    own = own-rows;
    others = subst (λ (c : RowChange). IsTrue c (looks without) (looks w)) (λ i. change (sym first-is i) (sym first-is i) (sym mine-is i))
        (subst (λ (xs : List RowLook). IsTrue (change (length first) (length first) (length mine)) xs (looks w)) (sym rows-without)
        (subst (λ (xs : List RowLook). IsTrue (change (length first) (length first) (length mine)) (first ++ last) xs) (sym rows-with)
        (comes first mine last)));
  }

  pub goes-out : TakesBlock b w without (change from (from + count) 0)
  goes-out = record {
    none_comes = refl;
    own = own-rows;
    others = subst (λ (c : RowChange). IsTrue c (looks w) (looks without)) (λ i. change (sym first-is i) (sym first-is i + sym mine-is i) 0)
        (subst (λ (xs : List RowLook). IsTrue (change (length first) (length first + length mine) 0) xs (looks without)) (sym rows-with)
        (subst (λ (xs : List RowLook). IsTrue (change (length first) (length first + length mine) 0) (first ++ (mine ++ last)) xs) (sym rows-without)
        (goes first mine last)));
  }
