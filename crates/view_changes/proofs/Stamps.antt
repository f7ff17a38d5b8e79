-- What is replaced doesn't depend on stamps.
use Rattle.std.proofs.Common.{◌≡◌, ℕ, ◌+◌, ◌==◌, not, cond, Bool, List, [], ◌∷◌, find, get_or, length, map, flat_map, take, zip, refl, sym, ap, ◌∙◌}
use Rattle.std.specs.Prelude.{Option, Some, None}
use Rattle.std.specs.List.{before_first, count_by, list_any, prefix_len}
use Rattle.std.proofs.Math.ListN.{get_or-map}
use Rattle.std.proofs.lemmas.List.{length-map}
use Rattle.cell_units.specs.declared.place.Side.{Side}
use Rattle.cell_units.specs.declared.place.Side.TheVariants.{Above, Below}
use Rattle.cell_units.specs.Lawful.{IsAllowed, IsLawful}
use Rattle.cell_units.specs.LineCounts.{TouchesOneRun}
use Rattle.cell_units.specs.Operation.{AddBlock, AddFold, AddInlay, Operation, RemoveBlock, RemoveFold, RemoveInlay, Replace, SetTab, SetWidth, block_at_row, operated}
use Rattle.cell_units.specs.Record.{Block, Mark, Record, plain_mark}
use Rattle.cell_units.specs.Touched.{EachLine, NoLine, Rows, Touched, touched, touched_after, touched_before}
use Rattle.cell_units.proofs.OperatedLines.{keeps_lines}
use Rattle.plain_rows.specs.Plain.{marks_of}
use Rattle.plain_rows.specs.Rows.{blocks_at, line_of_block}
use Rattle.plain_rows.specs.Spots.{mark_at}
use Rattle.display_sheet.specs.LineSplices.{spliced}
use Rattle.display_sheet.specs.LineStep.{line_step}
use Rattle.display_sheet.specs.Shown.{unstamped}
use Rattle.display_sheet.proofs.Relaid.{lawful-unstamped}
use Rattle.display_sheet.proofs.Sheets.{operated-other, touched-other, widths, widths-marks_of, widths-spliced}
use Rattle.display_sheet.proofs.Unstamped.{rows_by_line-other}
use Rattle.map_sheet.specs.Listed.{side_blocks}
use Rattle.row_pieces.specs.declared.row_change.RowChange.{RowChange}
use Rattle.row_pieces.specs.Changed.{RowLook, change, look_of, looks, looks_by_line, no_change, rows_of_lines, rows_to}
use Rattle.row_pieces.specs.Laws.{pieces_at}
use Rattle.row_pieces.specs.Pieces.{pieces_by_row}
use Rattle.row_pieces.proofs.OperatedLooks.{step-is}
use Rattle.view_pieces.proofs.Stamps.{by_line-unstamped}
use Rattle.view_changes.specs.Events.{lines_flagged, rewrapped, rows_landed}
use Rattle.view_changes.specs.Operations.{at_line, first_row_of, lines_replaced, rows_in, rows_of_old, rows_replaced, rows_touched, side_start}

-- ---- looks

pub looks-unstamped : (r : Record) → looks_by_line (unstamped r) ≡ looks_by_line r
looks-unstamped r =
    λ i. map (λ l. zip (map (λ row. row.kind) l.0) (map (map look_of) l.1))
    (zip (rows_by_line-other r (marks_of (widths r.marks)) (length r.marks) (widths-marks_of (widths r.marks)) i) (by_line-unstamped r i))

pub all-unstamped : (r : Record) → looks (unstamped r) ≡ looks r
all-unstamped r = ap (λ (lines : List (List RowLook)). flat_map (λ rows. rows) lines) (looks-unstamped r)

-- ---- an operation

pub allowed-unstamped : (operation : Operation) (r : Record) → IsAllowed operation r → IsAllowed operation (unstamped r)
allowed-unstamped (Replace a b s) r h = h
allowed-unstamped (AddInlay i) r h = h
allowed-unstamped (RemoveInlay id) r h = h
allowed-unstamped (AddFold f) r h = h
allowed-unstamped (RemoveFold id) r h = h
allowed-unstamped (AddBlock row id side lines) r h = h
allowed-unstamped (RemoveBlock id) r h = h
allowed-unstamped (SetTab tab) r h = h
allowed-unstamped (SetWidth width) r h = h

abbrev Run : Operation → Record → Type 0
Run operation r = TouchesOneRun (touched operation r) r (operated operation r)

-- the same lines are touched whatever the stamps are
before-other : (t : Touched) (q : Record) (marks : List Mark) (next : ℕ) → touched_before t (record q { marks = marks; next_stamp = next }) ≡ touched_before t q
before-other NoLine q marks next = refl
before-other EachLine q marks next = refl
before-other (Rows before after) q marks next = refl

after-other : (t : Touched) (q : Record) (marks : List Mark) (next : ℕ) → touched_after t (record q { marks = marks; next_stamp = next }) ≡ touched_after t q
after-other NoLine q marks next = refl
after-other EachLine q marks next = refl
after-other (Rows before after) q marks next = refl

before-same : (operation : Operation) (r : Record) → touched_before (touched operation (unstamped r)) (unstamped r) ≡ touched_before (touched operation r) r
before-same operation r =
    let marks = (unstamped r).marks in
    let next = (unstamped r).next_stamp in
    ap (λ (t : Touched). touched_before t (unstamped r)) (touched-other r marks next operation)
    ∙ before-other (touched operation r) r marks next

after-same : (operation : Operation) (r : Record) → touched_after (touched operation (unstamped r)) (operated operation (unstamped r)) ≡ touched_after (touched operation r) (operated operation r)
after-same operation r =
    let marks = (unstamped r).marks in
    let next = (unstamped r).next_stamp in
    (λ i. touched_after (touched-other r marks next operation i) (operated-other r marks next operation i))
    ∙ after-other (touched operation r) (operated operation r) marks next

abbrev run-unstamped : (operation : Operation) (r : Record) → Run operation r → Run operation (unstamped r)
run-unstamped operation r t = record {
  front = t.front;
  before = t.before;
  after = t.after;
  back = t.back;
  before_are = before-same operation r ∙ t.before_are;
  after_are = after-same operation r ∙ t.after_are;
}

-- the record after it without stamps
module _ (operation : Operation) (r : Record) (is : IsLawful r) (ok : IsAllowed operation r) (run : Run operation r) where
  abbrev after : List ℕ → Record
  after ws = record (operated operation r) { marks = marks_of ws; next_stamp = length ws }

  stepped-is : unstamped (line_step operation r) ≡ after (spliced run.front (run.front + run.before) run.after 0 (widths r.marks))
  stepped-is =
      let marks = (line_step operation r).marks in
      let same : widths marks ≡ spliced run.front (run.front + run.before) run.after 0 (widths r.marks) =
      ap (λ (q : Record). widths q.marks) (step-is operation r is ok run)
      ∙ widths-spliced run.front (run.front + run.before) run.after r.next_stamp r.marks in
      (λ i. record (step-is operation r is ok run i) { marks = marks_of (widths marks); next_stamp = length marks })
      ∙ (λ i. record (operated operation r) { marks = marks_of (same i); next_stamp = (sym (length-map marks (λ (m : Mark). m.width)) ∙ ap length same) i })

module _ (operation : Operation) (r : Record) (is : IsLawful r) (ok : IsAllowed operation r) where
  pub same-step : unstamped (line_step operation (unstamped r)) ≡ unstamped (line_step operation r)
  same-step =
      let kept = keeps_lines r is.entries operation ok in
      let run = kept.run in
      let ws = spliced run.front (run.front + run.before) run.after 0 (widths r.marks) in
      stepped-is operation (unstamped r) (lawful-unstamped r is) (allowed-unstamped operation r ok) (run-unstamped operation r run)
      ∙ (λ i. after operation (unstamped r) (lawful-unstamped r is) (allowed-unstamped operation r ok) (run-unstamped operation r run)
      (spliced run.front (run.front + run.before) run.after 0 (widths-marks_of (widths r.marks) i)))
      ∙ ap (λ (q : Record). record q { marks = marks_of ws; next_stamp = length ws }) (operated-other r (unstamped r).marks (unstamped r).next_stamp operation)
      ∙ sym (stepped-is operation r is ok run)

  pub step-looks : looks_by_line (line_step operation (unstamped r)) ≡ looks_by_line (line_step operation r)
  step-looks = sym (looks-unstamped (line_step operation (unstamped r))) ∙ ap looks_by_line same-step ∙ looks-unstamped (line_step operation r)

-- the lines that are touched, and the first row of a block
abbrev by-flags : List Bool → List Bool → RowChange
by-flags before after =
    cond (list_any (λ t. t) before) (change (prefix_len not before) (prefix_len not before + count_by (λ t. t) before) (count_by (λ t. t) after)) no_change

lines-unstamped : (operation : Operation) (r : Record) → lines_replaced operation (unstamped r) ≡ lines_replaced operation r
lines-unstamped operation r = λ i. by-flags (before-same operation r i) (after-same operation r i)

width-unstamped : (r : Record) (line : ℕ) → (mark_at (unstamped r) line).width ≡ (mark_at r line).width
width-unstamped r line =
    sym (get_or-map (λ (m : Mark). m.width) (unstamped r).marks line (plain_mark 0))
    ∙ ap (λ (ws : List ℕ). get_or ws line 0) (widths-marks_of (widths r.marks))
    ∙ get_or-map (λ (m : Mark). m.width) r.marks line (plain_mark 0)

start-unstamped : (r : Record) (side : Side) (line : ℕ) → side_start (unstamped r) side line ≡ side_start r side line
start-unstamped r Above line = ap (rows_to line) (looks-unstamped r)
start-unstamped r Below line =
    λ i. length (flat_map (λ rows. rows) (take line (rows_by_line-other r (marks_of (widths r.marks)) (length r.marks) (widths-marks_of (widths r.marks)) i)))
    + length (blocks_at r Above line)
    + length (pieces_by_row (pieces_at r line) r.tab (width-unstamped r line i))

first-unstamped : (r : Record) (b : Block) → first_row_of (unstamped r) b ≡ first_row_of r b
first-unstamped r b =
    let line = line_of_block r b in
    let before = before_first (λ (c : Block). c.id == b.id) (side_blocks r b.side) in
    ap (λ (n : ℕ). n + rows_in (at_line r line before)) (start-unstamped r b.side line)

old-unstamped : (r : Record) (o : Option Block) → rows_of_old (unstamped r) o ≡ rows_of_old r o
old-unstamped r None = refl
old-unstamped r (Some b) = λ i. change (first-unstamped r b i) (first-unstamped r b i + length b.lines) 0

module _ (operation : Operation) (r : Record) (is : IsLawful r) (ok : IsAllowed operation r) where
  touched-unstamped : rows_touched operation (unstamped r) ≡ rows_touched operation r
  touched-unstamped = λ i. rows_of_lines (lines-unstamped operation r i) (looks-unstamped r i) (step-looks operation r is ok i)

  first-after : (b : Block) → first_row_of (line_step operation (unstamped r)) b ≡ first_row_of (line_step operation r) b
  first-after b =
      sym (first-unstamped (line_step operation (unstamped r)) b)
      ∙ ap (λ (q : Record). first_row_of q b) (same-step operation r is ok)
      ∙ first-unstamped (line_step operation r) b

pub rows-unstamped : (operation : Operation) (r : Record) → IsLawful r → IsAllowed operation r → rows_replaced operation (unstamped r) ≡ rows_replaced operation r
rows-unstamped (AddBlock row id side lines) r is ok =
    let at = first-after (AddBlock row id side lines) r is ok (block_at_row r.text row id side lines) in
    λ i. change (at i) (at i) (length lines)
rows-unstamped (RemoveBlock id) r is ok = old-unstamped r (find (λ b. b.id == id) r.blocks)
rows-unstamped (Replace a b s) r is ok = touched-unstamped (Replace a b s) r is ok
rows-unstamped (AddInlay i) r is ok = touched-unstamped (AddInlay i) r is ok
rows-unstamped (RemoveInlay id) r is ok = touched-unstamped (RemoveInlay id) r is ok
rows-unstamped (AddFold f) r is ok = touched-unstamped (AddFold f) r is ok
rows-unstamped (RemoveFold id) r is ok = touched-unstamped (RemoveFold id) r is ok
rows-unstamped (SetTab tab) r is ok = touched-unstamped (SetTab tab) r is ok
rows-unstamped (SetWidth width) r is ok = touched-unstamped (SetWidth width) r is ok

-- ---- a landing

abbrev other : ℕ × ℕ → Bool
other p = not (p.0 == p.1)

by-widths : (ms ns : List Mark) → map (λ m. not (m.0.width == m.1.width)) (zip ms ns) ≡ map other (zip (widths ms) (widths ns))
by-widths [] ns = refl
by-widths (m ∷ ms) [] = refl
by-widths (m ∷ ms) (n ∷ ns) = ap (λ (l : List Bool). not (m.width == n.width) ∷ l) (by-widths ms ns)

pub rewrapped-unstamped : (r s : Record) → rewrapped (unstamped r) (unstamped s) ≡ rewrapped r s
rewrapped-unstamped r s =
    by-widths (unstamped r).marks (unstamped s).marks
    ∙ (λ i. map other (zip (widths-marks_of (widths r.marks) i) (widths-marks_of (widths s.marks) i)))
    ∙ sym (by-widths r.marks s.marks)

pub landed-unstamped : (r s : Record) → rows_landed (unstamped r) (unstamped s) ≡ rows_landed r s
landed-unstamped r s = λ i. rows_of_lines (lines_flagged (rewrapped-unstamped r s i)) (looks-unstamped r i) (looks-unstamped s i)
