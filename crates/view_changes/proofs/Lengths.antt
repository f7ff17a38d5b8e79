-- As many rows are seen as there are, and changes that are true lead from their number to their number.
use Rattle.std.proofs.Common.{◌≡◌, ℕ, ◌+◌, ◌<◌, ◌≤◌, ◌^◌, List, [], ◌++◌, drop, filter, flat_map, get_or, length, map, take, sym, ap, ◌∙◌, arith, length-append, length-drop}
use Rattle.std.proofs.lemmas.List.{length-map, take_all}
use Rattle.cell_units.specs.declared.limits.TheConstants.{LAID_LIMIT}
use Rattle.cell_units.specs.Lawful.{IsLawful}
use Rattle.cell_units.specs.Record.{Record}
use Rattle.plain_rows.specs.Rows.{line_elements, rows_of}
use Rattle.plain_rows.specs.Spots.{rows_before}
use Rattle.plain_rows.proofs.SpotSizes.{length-elements}
use Rattle.kept_sheet.specs.Kept.{widths_of}
use Rattle.wrap_map.proofs.Standings.{length-pairs, texts}
use Rattle.blocked_rows.specs.Records.{row_texts}
use Rattle.map_sheet.proofs.Rooms.{marks-each}
use Rattle.cell_units.specs.declared.place.Side.TheVariants.{Above, Below}
use Rattle.row_pieces.proofs.OperatedBlocks.{on}
use Rattle.display_sheet.specs.Shown.{unstamped}
use Rattle.display_sheet.proofs.Sheets.{length-marks_of}
use Rattle.row_pieces.specs.declared.row_change.RowChange.{RowChange}
use Rattle.row_pieces.specs.Changed.{IsTrue, RowLook, looks, looks_by_line}
use Rattle.row_pieces.proofs.LookCounts.{all-rows, count-looks, rows-to}
use Rattle.view_changes.specs.Sizes.{LeadInTurn, LeadsTo}
use Rattle.view_changes.specs.Operations.{line_pieces}
use Rattle.view_changes.proofs.Inserted.{around}
use Rattle.view_changes.proofs.SeenLines.{block_part, length-rows, length-seen, length-texts as length-texts-of, line-seen, text_part}

pub length-looks : (r : Record) → IsLawful r → length (looks r) ≡ length (rows_of r)
length-looks r is =
    ap (λ (lines : List (List RowLook)). length (flat_map (λ rows. rows) lines))
    (sym (take_all (length r.marks) (looks_by_line r) (omega (arith, count-looks r is))))
    ∙ rows-to r (length r.marks)
    ∙ sym (all-rows r is)

pub leads : {X : Type 0} (c : RowChange) (old new : List X) → IsTrue c old new → LeadsTo c (length old) (length new)
leads c old new t = record {
  order = t.order;
  within = t.within_old;
  room = t.within_new;
  others = sym (length-drop (c.from + c.count) new) ∙ ap length t.after ∙ length-drop c.to old;
}

pub lead-in-turn : (c d : RowChange) (old between new : List RowLook) → IsTrue c old between → IsTrue d between new →
    length old < 2 ^ 32 → length between < 2 ^ 32 → length new < 2 ^ 32 → LeadInTurn c d
lead-in-turn c d old between new t u few few' few'' = record {
  old = length old;
  between = length between;
  new = length new;
  first = leads c old between t;
  then = leads d between new u;
  few = (few, few', few'');
}

pub length-unstamped : (r : Record) → length (unstamped r).marks ≡ length r.marks
length-unstamped r = length-marks_of (map (λ m. m.width) r.marks) ∙ length-map r.marks (λ m. m.width)

pub length-texts : (r : Record) → IsLawful r → length r.text ≤ LAID_LIMIT → length (row_texts r) ≡ length r.marks
length-texts r is short = omega (arith, length-elements r is short, length-pairs texts (line_elements r) (widths_of r) (marks-each r is short))

-- the text rows of a line are among all rows
pub text-fits : (r : Record) (is : IsLawful r) (line : ℕ) → line < length r.marks → rows_before r line + length (line_pieces r line) ≤ length (rows_of r)
text-fits r is line lt =
    let lines = looks_by_line r in
    let parts = around lines line (omega (arith, lt, count-looks r is)) in
    let rest = flat_map (λ (rows : List RowLook). rows) (drop (line + 1) lines) in
    omega (
      arith,
      sym (length-looks r is),
      ap length parts,
      length-append (flat_map (λ (rows : List RowLook). rows) (take line lines)) (get_or lines line [] ++ rest),
      length-append (get_or lines line []) rest,
      ap length (line-seen r is line lt),
      length-append (block_part r is line Above) (text_part r is line ++ block_part r is line Below),
      length-append (text_part r is line) (block_part r is line Below),
      length-texts-of r is line,
      rows-to r line,
      length-seen r.tab (filter (on r Above line) r.blocks),
      length-rows (filter (on r Above line) r.blocks),
    )
