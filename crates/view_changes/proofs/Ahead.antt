-- The blocks of a side that come before one of them at its line are the last ones before it.
use Rattle.std.proofs.Common.{◌≡◌, ℕ, ◌+◌, ◌<◌, ◌≤◌, zero, suc, cond, eqb, Bool, true, false, List, [], ◌∷◌, ◌++◌, length, filter, flat_map, take, drop, get_or, refl, sym, ap, ◌∙◌, inl, inr, arith, eq-eqb, lt-ltb, ltb-true, ne_eqb, length-append}
use Rattle.std.specs.Prelude.{None, Some, slice_get}
use Rattle.std.proofs.Math.Seq.{drop-cons}
use Rattle.std.proofs.lemmas.Bool.{cases_lt}
use Rattle.std.proofs.lemmas.List.{drop_all, length-take-le, take-append-drop}
use Rattle.std.proofs.lemmas.List.Elements.{filter-append}
use Rattle.std.proofs.lemmas.List.Sums.{length-filter}
use Rattle.std.specs.List.{count_by}
use Rattle.std.proofs.lemmas.Option.{get_or_from_slice_get, none-some, same_Some, slice_get-get_or, slice_get_within}
use Rattle.cell_units.specs.declared.place.Side.{Side}
use Rattle.cell_units.specs.Lawful.{IsLawful}
use Rattle.cell_units.specs.Record.{Block, Record}
use Rattle.cell_units.proofs.TouchedRuns.{count-cons}
use Rattle.plain_rows.specs.Rows.{is_on, line_of_block}
use Rattle.plain_rows.specs.inside.BuiltRows.{no_block}
use Rattle.map_sheet.specs.Listed.{side_blocks}
use Rattle.view_pieces.specs.Blocks.{lines_there}
use Rattle.view_pieces.specs.inside.Blocks.{comes_before}
use Rattle.view_pieces.proofs.Lists.{none-kept}
use Rattle.view_pieces.proofs.SideBlocks.{block-lawful, lower-before}
use Rattle.view_changes.specs.Operations.{at_line, rows_in}

take-at : {X : Type 0} (n : ℕ) (xs : List X) (k : ℕ) → k < n → slice_get (take n xs) k ≡ slice_get xs k
take-at zero xs k lt = absurd (omega (arith, lt))
take-at (suc n) [] k lt = refl
take-at (suc n) (x ∷ xs) zero lt = refl
take-at (suc n) (x ∷ xs) (suc k) lt = take-at n xs k (omega (arith, lt))

count-most : (p : Block → Bool) (bs : List Block) → count_by p bs ≤ length bs
count-most p [] = omega arith
count-most p (b ∷ bs) = omega (arith, count-cons p b bs, one-at-most (p b), count-most p bs) where
  one-at-most : (c : Bool) → cond c 1 0 ≤ 1
  one-at-most true = omega arith
  one-at-most false = omega arith

module _ (r : Record) (is : IsLawful r) (side : Side) (number line : ℕ) (b0 : Block) (there : slice_get (side_blocks r side) number ≡ Some b0) (at : line_of_block r b0 ≡ line) where
  abbrev bs : List Block
  bs = side_blocks r side

  -- those before it
  abbrev before : List Block
  before = take number bs

  long : length before ≡ number
  long = length-take-le number bs (let lt = slice_get_within bs number b0 there in omega (arith, lt))

  pub few-before : number ≤ 65536
  few-before =
      let lt = slice_get_within bs number b0 there in
      omega (arith, lt, length-filter (λ (b : Block). is_on side b.side) r.blocks, count-most (λ (b : Block). is_on side b.side) r.blocks, is.entries.blocks.few)

  pub none-ahead : rows_in (at_line r line (drop number before)) ≡ 0
  none-ahead = ap (λ (l : List Block). rows_in (at_line r line l)) (drop_all number before (omega (arith, long)))

  -- one of a number, and whether it is at the line
  module _ (k : ℕ) (lt : k < number) where
    one-is : slice_get bs k ≡ Some (get_or bs k no_block)
    one-is = slice_get-get_or bs k no_block (let within = slice_get_within bs number b0 there in omega (arith, lt, within))

    abbrev b : Block
    b = get_or bs k no_block

    next : drop k before ≡ b ∷ drop (k + 1) before
    next =
        let one : suc k ≡ k + 1 = omega arith in
        drop-cons before k no_block (omega (arith, lt, long))
        ∙ (λ i. get_or_from_slice_get before k b no_block (take-at number bs k lt ∙ one-is) i ∷ drop (one i) before)

    there-is : lines_there r line (slice_get bs k) ≡ cond (eqb (line_of_block r b) line) (Some (length b.lines)) None
    there-is = ap (lines_there r line) one-is

    module _ (count : ℕ) (some : Some count ≡ lines_there r line (slice_get bs k)) where
      on-line : (c : Bool) → eqb (line_of_block r b) line ≡ c → Some count ≡ cond c (Some (length b.lines)) None → (count ≡ length b.lines) × (eqb (line_of_block r b) line ≡ true)
      on-line true e h = (same_Some count (length b.lines) h, e)
      on-line false e h = absurd (none-some count (sym h))

      both : (count ≡ length b.lines) × (eqb (line_of_block r b) line ≡ true)
      both = on-line (eqb (line_of_block r b) line) refl (some ∙ there-is)

      pub one-ahead : rows_in (at_line r line (drop k before)) ≡ count + rows_in (at_line r line (drop (k + 1) before))
      one-ahead =
          let rest = at_line r line (drop (k + 1) before) in
          ap (λ (l : List Block). rows_in (at_line r line l)) next
          ∙ ap (λ (c : Bool). rows_in (cond c (b ∷ rest) rest)) both.1
          ∙ length-append b.lines (flat_map (λ (b : Block). b.lines) rest)
          ∙ ap (λ (n : ℕ). n + rows_in rest) (sym both.0)

      pub few-lines : count ≤ 256
      few-lines = let own = block-lawful r is side k b one-is in omega (arith, both.0, own.0.lines.few)

    module _ (none : None ≡ lines_there r line (slice_get bs k)) where
      off-line : (c : Bool) → eqb (line_of_block r b) line ≡ c → None ≡ cond c (Some (length b.lines)) None → c ≡ false
      off-line true e h = absurd (none-some (length b.lines) h)
      off-line false e h = refl

      apart : line_of_block r b ≡ line → ⊥
      apart e = true-false (sym (eq-eqb (line_of_block r b) line e) ∙ off-line (eqb (line_of_block r b) line) refl (none ∙ there-is)) where
        true-false : true ≡ false → ⊥
        true-false h = cc h

      -- it comes before the line
      lower : line_of_block r b < line
      lower = elim (cases_lt (line_of_block r b) line) [
        | inl less ↦ less
        | inr from ↦ elim (cases_lt line (line_of_block r b)) [
          | inl past ↦
              let far = line_of_block r b in
              let last : comes_before r far (slice_get bs number) ≡ true = ap (comes_before r far) there ∙ lt-ltb (line_of_block r b0) far (omega (arith, at, past)) in
              let here = sym (ap (comes_before r far) one-is) ∙ lower-before r is side far k number (omega (arith, lt)) last in
              absurd (omega (arith, ltb-true (line_of_block r b) far here))
          | inr to ↦ absurd (apart (omega (arith, from, to)))
        ]
      ]

      -- and so does each before it
      gone : (j : ℕ) (x : Block) → slice_get (take (k + 1) before) j ≡ Some x → eqb (line_of_block r x) line ≡ false
      gone j x e =
          let within = slice_get_within (take (k + 1) before) j x e in
          let few = length-take-le (k + 1) before (omega (arith, lt, long)) in
          let here : slice_get bs j ≡ Some x = sym (take-at number bs j (omega (arith, within, few, lt))) ∙ sym (take-at (k + 1) before j (omega (arith, within, few))) ∙ e in
          let low : comes_before r line (slice_get bs k) ≡ true = ap (comes_before r line) one-is ∙ lt-ltb (line_of_block r b) line lower in
          let less = ltb-true (line_of_block r x) line (sym (ap (comes_before r line) here) ∙ lower-before r is side line j k (omega (arith, within, few)) low) in
          ne_eqb (line_of_block r x) line (λ same. omega (arith, less, same))

      pub all-ahead : rows_in (at_line r line (drop (k + 1) before)) ≡ rows_in (at_line r line before)
      all-ahead =
          let here : Block → Bool = λ (x : Block). eqb (line_of_block r x) line in
          sym (ap (λ (l : List Block). rows_in (filter here l)) (sym (take-append-drop (k + 1) before))
          ∙ ap rows_in (filter-append here (take (k + 1) before) (drop (k + 1) before))
          ∙ ap (λ (l : List Block). rows_in (l ++ filter here (drop (k + 1) before))) (none-kept here (take (k + 1) before) gone))
