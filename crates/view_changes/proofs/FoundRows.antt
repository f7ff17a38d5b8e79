-- The rows of a block that was found by its id.
use Rattle.std.proofs.Common.{◌≡◌, ℕ, ◌+◌, ◌≤◌, ◌==◌, Bool, true, false, cond, List, [], ◌∷◌, filter, find, length, take, refl, sym, ap, ◌∙◌, arith}
use Rattle.std.specs.Prelude.{Option, None, Some, slice_get}
use Rattle.std.proofs.lemmas.Option.{none-some}
use Rattle.cell_units.specs.declared.place.Side.{Side}
use Rattle.cell_units.specs.declared.place.Side.TheVariants.{Above, Below}
use Rattle.cell_units.specs.Lawful.{IsLawful}
use Rattle.cell_units.specs.Record.{Block, Record}
use Rattle.plain_rows.specs.Rows.{is_on, line_of_block, rows_of}
use Rattle.map_sheet.specs.Listed.{side_blocks}
use Rattle.view_changes.specs.Operations.{at_line, rows_in, side_start}
use Rattle.view_changes.specs.inside.OwnRows.{AreOwnRows, AreRowsOfBlock, AreRowsOn}
use Rattle.view_changes.proofs.Lengths.{length-looks}
use Rattle.view_changes.proofs.OwnRows.{goes-out}

module _ (r : Record) (is : IsLawful r) (side : Side) (number id : ℕ) (b : Block) (there : slice_get (side_blocks r side) number ≡ Some b) (id_is : b.id ≡ id)
    (line start ahead : ℕ) (line_is : line ≡ line_of_block r b) (start_is : start ≡ side_start r side line) (ahead_is : ahead ≡ rows_in (at_line r line (take number (side_blocks r side)))) where
  pub are-rows : AreRowsOfBlock r side number id (start + ahead) (length b.lines)
  are-rows = record {
    block = b;
    there = there;
    id_is = id_is;
    from_is =
        let one = start_is ∙ ap (side_start r side) line_is in
        let two = ahead_is ∙ ap (λ (n : ℕ). rows_in (at_line r n (take number (side_blocks r side)))) line_is in
        λ i. one i + two i;
    count_is = refl;
  }

  pub rows-fit : start + ahead + length b.lines ≤ length (rows_of r)
  rows-fit =
      let gone = goes-out r is side number id (start + ahead) (length b.lines) are-rows in
      omega (arith, gone.others.within_old, length-looks r is)

-- ---- by its sides

module _ (p : Block → Bool) where
  sides-none : (bs : List Block) → find p (filter (λ b. is_on Above b.side) bs) ≡ None → find p (filter (λ b. is_on Below b.side) bs) ≡ None → find p bs ≡ None
  sides-none [] above below = refl
  sides-none (b ∷ bs) above below = go b.side above below (sides-none bs) where
    go : (side : Side) →
        find p (cond (is_on Above side) (b ∷ filter (λ b. is_on Above b.side) bs) (filter (λ b. is_on Above b.side) bs)) ≡ None →
        find p (cond (is_on Below side) (b ∷ filter (λ b. is_on Below b.side) bs) (filter (λ b. is_on Below b.side) bs)) ≡ None →
        (find p (filter (λ b. is_on Above b.side) bs) ≡ None → find p (filter (λ b. is_on Below b.side) bs) ≡ None → find p bs ≡ None) →
        find p (b ∷ bs) ≡ None
    go Above above below rest = one (p b) above (λ h. rest h below) where
      one : (c : Bool) → cond c (Some b) (find p (filter (λ b. is_on Above b.side) bs)) ≡ None → (find p (filter (λ b. is_on Above b.side) bs) ≡ None → find p bs ≡ None) →
          cond c (Some b) (find p bs) ≡ None
      one true h rest = absurd (none-some b (sym h))
      one false h rest = rest h
    go Below above below rest = one (p b) below (rest above) where
      one : (c : Bool) → cond c (Some b) (find p (filter (λ b. is_on Below b.side) bs)) ≡ None → (find p (filter (λ b. is_on Below b.side) bs) ≡ None → find p bs ≡ None) →
          cond c (Some b) (find p bs) ≡ None
      one true h rest = absurd (none-some b (sym h))
      one false h rest = rest h

pub by-below : (r : Record) (id : ℕ) → AreRowsOn r Above id None → (rows : Option (ℕ × ℕ)) → AreRowsOn r Below id rows → AreOwnRows r id rows
by-below r id above None below = sides-none (λ b. b.id == id) r.blocks above below
by-below r id above (Some (from, count)) below = (Below, below.0, below.1)
