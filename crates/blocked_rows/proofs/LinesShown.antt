-- The rows of lines after some of them were replaced.
use Rattle.std.proofs.Common.{◌≡◌, ℕ, ◌+◌, ◌≤◌, List, ◌++◌, length, map, take, drop, replicate, sym, ap, subst, ◌∙◌, append_assoc, length-append, arith, Some}
use Rattle.std.specs.List.{zip}
use Rattle.std.proofs.lemmas.Grind.{flat_map-append}
use Rattle.std.proofs.lemmas.List.{drop_at, length-replicate, length-take-le, take_at}
use Rattle.cell_line.specs.declared.element.Element.{Element}
use Rattle.cell_units.specs.declared.place.Shift.{Shift}
use Rattle.cell_units.specs.Rows.{all_rows, rows_before}
use Rattle.edit_patch.specs.Leads.{LeadsAt}
use Rattle.wrap_map.specs.Standing.{Standing, shown_rows, standing_after}
use Rattle.wrap_map.specs.Stood.{rows_in}
use Rattle.wrap_map.proofs.Standings.{all-unwrapped, length-pairs, mapped-after, put-in, rows_in-unwrapped, rows_of-texts, texts}
use Rattle.blocked_rows.specs.Records.{Lines}

-- lines in the place of others
module _ (old put : Lines) (a b n : ℕ) (order : a ≤ b) (within : b ≤ length old) (long : length put ≡ n) where
  abbrev made : Lines
  made = take a old ++ put ++ drop b old

  front : length (take a old) ≡ a
  front = length-take-le a old (omega (arith, order, within))

  start : length (take a old ++ put) ≡ a + n
  start = omega (arith, length-append (take a old) put, front, long)

  put-lead : LeadsAt old made a b n
  put-lead = record {
    within = within;
    reaches = omega (arith, start, length-append (take a old ++ put) (drop b old));
    before = ap (take a) (append_assoc (take a old) put (drop b old)) ∙ take_at (take a old) (put ++ drop b old) a front;
    behind = drop_at (take a old ++ put) (drop b old) (a + n) start;
  }

  put-before : rows_before made (a + n) ≡ rows_before old a + length (all_rows put)
  put-before =
      ap (λ (ls : Lines). length (all_rows ls)) (take_at (take a old ++ put) (drop b old) (a + n) start)
      ∙ ap length (flat_map-append (λ (rows : List (List ℕ)). rows) (take a old) put)
      ∙ length-append (all_rows (take a old)) (all_rows put)

-- lines of which some were replaced by ones of one row each
module _ (s : Standing) (lines : List (List Element)) (below : Shift) (one_each : length s.marks ≡ length s.lines)
    (leads : LeadsAt s.lines lines below.start below.end below.count) where
  abbrev fresh : List (List Element × ℕ)
  fresh = zip (take below.count (drop below.start lines)) (replicate below.count 0)

  abbrev after : Lines
  after = shown_rows (standing_after s lines (Some below))

  is : after ≡ take below.start (shown_rows s) ++ map texts fresh ++ drop below.end (shown_rows s)
  is = mapped-after texts s.lines lines s.marks below.start below.end below.count leads below.ordered one_each

  within : below.end ≤ length (shown_rows s)
  within = omega (arith, length-pairs texts s.lines s.marks one_each, leads.within)

  long : length (map texts fresh) ≡ below.count
  long =
      let put = put-in s.lines lines below.start below.end below.count leads in
      length-pairs texts (take below.count (drop below.start lines)) (replicate below.count 0) (length-replicate below.count 0 ∙ sym put) ∙ put

  rows : length (all_rows (map texts fresh)) ≡ below.count
  rows =
      rows_of-texts fresh
      ∙ ap rows_in (all-unwrapped (take below.count (drop below.start lines)) below.count (put-in s.lines lines below.start below.end below.count leads))
      ∙ rows_in-unwrapped below.count

  pub shown-lead : LeadsAt (shown_rows s) after below.start below.end below.count
  shown-lead =
      subst (λ (ls : Lines). LeadsAt (shown_rows s) ls below.start below.end below.count) (sym is)
      (put-lead (shown_rows s) (map texts fresh) below.start below.end below.count below.ordered within long)

  pub shown-before : rows_before after (below.start + below.count) ≡ rows_before (shown_rows s) below.start + below.count
  shown-before =
      ap (λ (ls : Lines). rows_before ls (below.start + below.count)) is
      ∙ put-before (shown_rows s) (map texts fresh) below.start below.end below.count below.ordered within long
      ∙ ap (λ (n : ℕ). rows_before (shown_rows s) below.start + n) rows
