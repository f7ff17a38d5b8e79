-- A record that a display keeps, after an operation that touches rows.
use Rattle.std.proofs.Common.{◌≡◌, ℕ, ◌+◌, ◌-◌, ◌<◌, ◌≤◌, zero, suc, List, [], ◌∷◌, ◌++◌, length, map, take, drop, replicate, refl, sym, ap, subst, ◌∙◌, arith}
use Rattle.std.specs.Arc.{arc_value}
use Rattle.std.specs.List.{enumerate_from}
use Rattle.std.proofs.lemmas.List.{append-nil, drop_all, length-map, map-append, take-map, drop-map}
use Rattle.cell_units.specs.Record.{Mark, Record}
use Rattle.cell_units.specs.Operation.{Operation, operated}
use Rattle.cell_units.specs.Touched.{EachLine, NoLine, Rows, row_range, touched}
use Rattle.cell_units.specs.Folded.{display_lines}
use Rattle.cell_units.specs.LineCounts.{line_of_row_end, line_of_row_start}
use Rattle.cell_units.specs.Pieces.{pieces_of}
use Rattle.cell_units.specs.Lawful.{HasLawfulEntries, IsAllowed, IsLawful, IsMarked, IsWellFormed, IsWidth, source_of}
use Rattle.cell_units.proofs.LawfulOperations.{lawful-operated}
use Rattle.cell_units.proofs.TouchedRuns.{rows_are_one_run}
use Rattle.cell_units.proofs.CutLists.{Every}
use Rattle.cell_units.proofs.FoundEntries.{All-from_Every, Every-from_All}
use Rattle.plain_rows.specs.FoldedLines.{AreLinesOf, LaidOut}
use Rattle.plain_rows.specs.Plain.{block_of, fold_of, inlay_of, marks_of}
use Rattle.plain_rows.specs.Rows.{line_elements}
use Rattle.plain_rows.proofs.SpotSizes.{few-lines}
use Rattle.display_sheet.specs.declared.sheet.Draft.{Draft}
use Rattle.display_sheet.specs.declared.sheet.LineSplice.{LineSplice}
use Rattle.display_sheet.specs.declared.sheet.Reach.{Reach}
use Rattle.display_sheet.specs.declared.sheet.Sheet.TheInside.{Inside}
use Rattle.display_sheet.specs.declared.wraps.Wrapped.{Wrapped}
use Rattle.display_sheet.specs.LineSplices.{IsLineSplice, spliced}
use Rattle.display_sheet.specs.LineStep.{line_step}
use Rattle.display_sheet.specs.Sheets.{IsDraft, IsOperated, KeepsSheet, draft_source, marks_in, record_in, row_counts}
use Rattle.display_sheet.specs.Shown.{unstamped}
use Rattle.display_sheet.specs.Wraps.{fresh}
use Rattle.display_sheet.proofs.ElementLines.{elements_long}
use Rattle.display_sheet.proofs.LineSplices.{same_first, spliced-each, spliced-none, spliced-rows}
use Rattle.display_sheet.proofs.Sheets.{allowed-other, counts-spliced, lawful-stamped, length-marks_of, operated-other, touched-other, unstamped-counted, unstamped-step, widths, widths-marks_of}
use Rattle.display_sheet.proofs.StepLaws.{IsLawful-step}

-- a list after a splice of lines, read by a function
pub map-spliced : {Y Z : Type 0} (f : Y → Z) (first end count : ℕ) (fresh : Y) (ys : List Y) → map f (spliced first end count fresh ys) ≡ spliced first end count (f fresh) (map f ys)
map-spliced {Y} {Z} f first end count fresh ys =
    map-append f (take first ys) (replicate count fresh ++ drop end ys)
    ∙ ap (λ (l : List Z). map f (take first ys) ++ l) (map-append f (replicate count fresh) (drop end ys))
    ∙ (λ i. sym (take-map f first ys) i ++ (map-replicate count i ++ sym (drop-map f end ys) i)) where
      map-replicate : (n : ℕ) → map f (replicate n fresh) ≡ replicate n (f fresh)
      map-replicate zero = refl
      map-replicate (suc n) = ap (λ (l : List Z). f fresh ∷ l) (map-replicate n)

-- ---- without stamps

Every-widths : (n : ℕ) (marks : List Mark) → Every (λ m. IsWidth m.width) marks →
    Every (λ (m : Mark). IsWidth m.width) (map (λ p. record { stamp = p.0; width = p.1 }) (enumerate_from n (widths marks)))
Every-widths n [] h = tt
Every-widths n (m ∷ marks) h = (h.0, Every-widths (n + 1) marks h.1)

pub lawful-unstamped : (r : Record) → IsLawful r → IsLawful (unstamped r)
lawful-unstamped r is = record {
  entries = record { source = is.entries.source; blocks = is.entries.blocks; tab = is.entries.tab; width = is.entries.width };
  marked = length-marks_of (widths r.marks) ∙ length-map r.marks (λ m. m.width) ∙ is.marked;
  widths = All-from_Every (λ (m : Mark). IsWidth m.width) (marks_of (widths r.marks)) (Every-widths 0 r.marks (Every-from_All (λ (m : Mark). IsWidth m.width) r.marks is.widths));
}

-- what a draft says of the record without stamps, it says with any
module _ (operation : Operation) (P : Record) (is : IsLawful (unstamped P)) (draft : Draft) (before after : Reach) (d : IsDraft operation (unstamped P) draft before after) where
  abbrev r : Record
  r = unstamped P

  abbrev f : ℕ
  f = line_of_row_start r before.start

  abbrev l : ℕ
  l = line_of_row_end r before.end

  abbrev l' : ℕ
  l' = line_of_row_end (operated operation r) after.end

  other : operated operation r ≡ record (operated operation P) { marks = marks_of (widths P.marks); next_stamp = length P.marks }
  other = operated-other P (marks_of (widths P.marks)) (length P.marks) operation

  entries : HasLawfulEntries P × IsMarked P
  entries = lawful-stamped P is

  allowed : IsAllowed operation P
  allowed = allowed-other P (marks_of (widths P.marks)) (length P.marks) operation d.allowed

  touches : touched operation P ≡ Rows (row_range P.text before.start before.end) (row_range (operated operation P).text after.start after.end)
  touches =
      sym (touched-other P (marks_of (widths P.marks)) (length P.marks) operation)
      ∙ d.touches
      ∙ ap (λ (q : Record). Rows (row_range P.text before.start before.end) (row_range q.text after.start after.end)) other

  tab : (operated operation P).tab ≡ P.tab
  tab = sym (ap (λ (q : Record). q.tab) other) ∙ d.tab_is

  end : after.end ≤ length (operated operation P).text
  end = subst (λ (q : Record). after.end ≤ length q.text) other d.order_after.1

  last_same : l' ≡ line_of_row_end (operated operation P) after.end
  last_same = ap (λ (q : Record). line_of_row_end q after.end) other

  pub rows-spliced : IsLineSplice operation P f (l + 1) (l' + 1 - f)
  rows-spliced =
      let s = spliced-rows operation P entries.0 allowed entries.1 before.start before.end after.start after.end touches d.order.0 d.order.1 d.order_after.0 end tab in
      let first = same_first operation P entries.0 allowed entries.1 before.start before.end after.start after.end touches d.order.0 d.order.1 d.order_after.0 end tab in
      let count : line_of_row_end (operated operation P) after.end + 1 - line_of_row_start (operated operation P) after.start ≡ l' + 1 - f =
      (λ i. sym last_same i + 1 - sym first i) in
      subst (λ (n : ℕ). IsLineSplice operation P f (l + 1) n) count s

-- a draft of a lawful record
module _ (s : Inside) (keeps : KeepsSheet s) (operation : Operation) (draft : Draft) (before after : Reach) (d : IsDraft operation (record_in s) draft before after) where
  abbrev kept : Record
  kept = record_in s

  pub lawful_after : HasLawfulEntries (operated operation kept)
  lawful_after = lawful-operated kept keeps.lawful.entries operation d.allowed

  pub source_after : draft_source draft ≡ source_of (operated operation kept)
  source_after = λ i. record { text = sym d.text_is i; inlays = sym d.inlays_are i; folds = sym d.folds_are i }

  pub well_formed : IsWellFormed (draft_source draft)
  well_formed = subst IsWellFormed (sym source_after) lawful_after.source

  pub first_le : line_of_row_start kept before.start ≤ line_of_row_end (operated operation kept) after.end
  first_le =
      let first = same_first operation kept keeps.lawful.entries d.allowed keeps.lawful.marked before.start before.end after.start after.end d.touches d.order.0 d.order.1 d.order_after.0 d.order_after.1 d.tab_is in
      omega (arith, first, (rows_are_one_run (operated operation kept) lawful_after after.start after.end d.order_after.0 d.order_after.1).0)

  pub end_bounds : (line_of_row_start kept before.start ≤ line_of_row_end kept before.end) × (line_of_row_end kept before.end + 1 ≤ length (arc_value s.wraps))
  end_bounds =
      let run = rows_are_one_run kept keeps.lawful.entries before.start before.end d.order.0 d.order.1 in
      let long : length (arc_value s.wraps) ≡ length (display_lines kept.text kept.inlays kept.folds) =
      sym (length-map (arc_value s.wraps) (λ (w : Wrapped). w.mark)) ∙ sym (length-marks_of (marks_in (arc_value s.wraps))) ∙ keeps.lawful.marked in
      (run.0, omega (arith, run.1, long, length-map (display_lines kept.text kept.inlays kept.folds) pieces_of))

-- the lines that it splices
module _ (s : Inside) (keeps : KeepsSheet s) (operation : Operation) (draft : Draft) (before after : Reach) (d : IsDraft operation (record_in s) draft before after)
    (first end count : ℕ)
    (first_is : first ≡ line_of_row_start (record_in s) before.start)
    (end_is : end ≡ line_of_row_end (record_in s) before.end + 1)
    (count_is : count ≡ line_of_row_end (operated operation (record_in s)) after.end + 1 - first) where
  abbrev before_it : Record
  before_it = record_in s

  lines_spliced : (P : Record) → unstamped P ≡ before_it → IsLineSplice operation P first end count
  lines_spliced P e =
      let Goal : Record → Type 0 = λ q. IsLawful q → IsDraft operation q draft before after → first ≡ line_of_row_start q before.start → end ≡ line_of_row_end q before.end + 1 →
      count ≡ line_of_row_end (operated operation q) after.end + 1 - first → IsLineSplice operation P first end count in
      let at : Goal (unstamped P) = λ is dr a b c.
      let R : ℕ → ℕ → ℕ → Type 0 = λ x y z. IsLineSplice operation P x y z in
      let base = rows-spliced operation P is draft before after dr in
      let count_same : line_of_row_end (operated operation (unstamped P)) after.end + 1 - line_of_row_start (unstamped P) before.start ≡ count =
      ap (λ (n : ℕ). line_of_row_end (operated operation (unstamped P)) after.end + 1 - n) (sym a) ∙ sym c in
      subst (λ (x : ℕ). R x end count) (sym a)
      (subst (λ (y : ℕ). R (line_of_row_start (unstamped P) before.start) y count) (sym b)
      (subst (λ (z : ℕ). R (line_of_row_start (unstamped P) before.start) (line_of_row_end (unstamped P) before.end + 1) z) count_same base)) in
      subst Goal e at keeps.lawful d first_is end_is count_is

  -- there are few lines after it
  pub few_after : (laid : LaidOut) → AreLinesOf (draft_source draft) laid → first + count + (length (arc_value s.wraps) - end) < 4294967296
  few_after laid are =
      let ws = marks_in (arc_value s.wraps) in
      let next = line_step operation before_it in
      let is = lines_spliced before_it (unstamped-counted before_it ws refl refl) in
      let lawful : IsLawful next = IsLawful-step operation before_it keeps.lawful d.allowed in
      let short : length next.text ≤ 67108864 = omega (arith, ap (λ (r : Record). length r.text) is.step, ap length d.text_is, are.lawful.text_size) in
      omega (
        arith,
        few-lines next lawful short,
        lawful.marked,
        elements_long next,
        ap (λ (r : Record). length (line_elements r)) is.step,
        is.long,
        elements_long before_it,
        keeps.lawful.marked,
        length-marks_of ws,
        length-map (arc_value s.wraps) (λ (w : Wrapped). w.mark),
      )

-- the sheet after it
module _ (s s' : Inside) (keeps : KeepsSheet s) (operation : Operation) (draft : Draft) (before after : Reach) (d : IsDraft operation (record_in s) draft before after)
    (first end count : ℕ)
    (first_is : first ≡ line_of_row_start (record_in s) before.start)
    (end_is : end ≡ line_of_row_end (record_in s) before.end + 1)
    (count_is : count ≡ line_of_row_end (operated operation (record_in s)) after.end + 1 - first)
    (text_is : arc_value s'.text ≡ arc_value draft.text)
    (inlays_are : (arc_value s'.inlays).items ≡ (arc_value draft.inlays).items)
    (folds_are : (arc_value s'.folds).items ≡ (arc_value draft.folds).items)
    (blocks_are : (arc_value s'.blocks).items ≡ (arc_value draft.blocks).items)
    (tab_is : s'.tab ≡ s.tab) (width_is : s'.width ≡ s.width)
    (wraps_are : arc_value s'.wraps ≡ spliced first end count fresh (arc_value s.wraps)) where
  abbrev old : Record
  old = record_in s

  abbrev new : Record
  new = record_in s'

  abbrev ws : List ℕ
  ws = marks_in (arc_value s.wraps)

  counted : unstamped old ≡ old
  counted = unstamped-counted old ws refl refl

  marks' : marks_in (arc_value s'.wraps) ≡ spliced first end count 0 ws
  marks' = ap marks_in wraps_are ∙ map-spliced (λ (w : Wrapped). w.mark) first end count fresh (arc_value s.wraps)

  -- the record that it keeps, by the operation on a record of any stamps
  new_is : (P : Record) → unstamped P ≡ old → new ≡ record (operated operation P) { marks = marks_of (spliced first end count 0 (widths P.marks)); next_stamp = length (spliced first end count 0 (widths P.marks)) }
  new_is P e =
      let own : widths P.marks ≡ ws = sym (widths-marks_of (widths P.marks)) ∙ ap (λ (q : Record). widths q.marks) e ∙ widths-marks_of ws in
      let same : record (operated operation old) { marks = new.marks; next_stamp = new.next_stamp } ≡ record (operated operation P) { marks = new.marks; next_stamp = new.next_stamp } =
      ap (λ (q : Record). record (operated operation q) { marks = new.marks; next_stamp = new.next_stamp }) (sym e)
      ∙ ap (λ (q : Record). record q { marks = new.marks; next_stamp = new.next_stamp }) (operated-other P (marks_of (widths P.marks)) (length P.marks) operation) in
      (λ i. record {
        text = (text_is ∙ sym d.text_is) i;
        inlays = (ap (map inlay_of) inlays_are ∙ sym d.inlays_are) i;
        folds = (ap (map fold_of) folds_are ∙ sym d.folds_are) i;
        blocks = (ap (map block_of) blocks_are ∙ sym d.blocks_are) i;
        tab = (tab_is ∙ sym d.tab_is) i;
        width = (width_is ∙ sym d.width_is) i;
        marks = new.marks;
        next_stamp = new.next_stamp;
      })
      ∙ same
      ∙ (λ i. record (operated operation P) {
        marks = marks_of ((marks' ∙ ap (spliced first end count 0) (sym own)) i);
        next_stamp = length ((marks' ∙ ap (spliced first end count 0) (sym own)) i);
      })

  splice_of : (P : Record) → unstamped P ≡ old → IsLineSplice operation P first end count
  splice_of = lines_spliced s keeps operation draft before after d first end count first_is end_is count_is

  pub operated_is : (splice : LineSplice) → splice.first ≡ first → splice.end ≡ end → splice.count ≡ count → IsOperated operation old new splice
  operated_is splice a b c P e =
      let R : ℕ → ℕ → ℕ → Type 0 = λ x y z. IsLineSplice operation P x y z in (
        subst (λ (x : ℕ). R x splice.end splice.count) (sym a) (subst (λ (y : ℕ). R first y splice.count) (sym b) (subst (λ (z : ℕ). R first end z) (sym c) (splice_of P e))),
        unstamped-step operation P new first end count (splice_of P e) (new_is P e),
      )

  step : unstamped (line_step operation old) ≡ new
  step = unstamped-step operation old new first end count (splice_of old counted) (new_is old counted)

  long : length ws ≡ length (line_elements old)
  long = sym (length-marks_of ws) ∙ keeps.lawful.marked ∙ sym (elements_long old)

  elements_same : line_elements (operated operation old) ≡ line_elements new
  elements_same = sym (ap line_elements (new_is old counted))

  pub keeps_new : AreLinesOf (source_of new) (arc_value s'.lines) → KeepsSheet s'
  keeps_new laid = record {
    lawful = subst IsLawful step (lawful-unstamped (line_step operation old) (IsLawful-step operation old keeps.lawful d.allowed));
    laid_out = laid;
    rows_are =
        ap (map (λ (w : Wrapped). w.rows)) wraps_are
        ∙ map-spliced (λ (w : Wrapped). w.rows) first end count fresh (arc_value s.wraps)
        ∙ ap (spliced first end count 1) keeps.rows_are
        ∙ counts-spliced operation old first end count (splice_of old counted) ws long
        ∙ (λ i. row_counts (elements_same i) (sym marks' i));
  }

-- ---- operations that touch no line, or each

-- text, inlays and folds are the same after the operation
pub record LeavesLines (operation : Operation) (P : Record) : Type 0 where
  pub text : (operated operation P).text ≡ P.text
  pub inlays : (operated operation P).inlays ≡ P.inlays
  pub folds : (operated operation P).folds ≡ P.folds

same_display : (operation : Operation) (P : Record) → LeavesLines operation P →
    length (display_lines (operated operation P).text (operated operation P).inlays (operated operation P).folds) ≡ length (display_lines P.text P.inlays P.folds)
same_display operation P l = λ i. length (display_lines (l.text i) (l.inlays i) (l.folds i))

-- the sheet keeps the record that the operation leaves, with these widths
module _ (old new : Record) (ws ws' : List ℕ) (operation : Operation) (is : IsLawful old) (allowed : IsAllowed operation old)
    (old_is : old ≡ record old { marks = marks_of ws; next_stamp = length ws })
    (new_is : new ≡ record (operated operation old) { marks = marks_of ws'; next_stamp = length ws' }) where
  of_stamped : (P : Record) → unstamped P ≡ old → widths P.marks ≡ ws
  of_stamped P e = sym (widths-marks_of (widths P.marks)) ∙ ap (λ (q : Record). widths q.marks) (e ∙ old_is) ∙ widths-marks_of ws

  new_of : (P : Record) → unstamped P ≡ old → new ≡ record (operated operation P) { marks = marks_of ws'; next_stamp = length ws' }
  new_of P e =
      new_is
      ∙ ap (λ (q : Record). record (operated operation q) { marks = marks_of ws'; next_stamp = length ws' }) (sym e)
      ∙ ap (λ (q : Record). record q { marks = marks_of ws'; next_stamp = length ws' }) (operated-other P (marks_of (widths P.marks)) (length P.marks) operation)

  facts : (P : Record) → unstamped P ≡ old → HasLawfulEntries P × IsMarked P × IsAllowed operation P
  facts P e =
      let l : IsLawful (unstamped P) = subst IsLawful (sym e) is in
      let both = lawful-stamped P l in
      (both.0, both.1, allowed-other P (marks_of (widths P.marks)) (length P.marks) operation (subst (IsAllowed operation) (sym e) allowed))

  -- no line is touched
  pub operated-none : ws' ≡ ws → ((P : Record) → touched operation P ≡ NoLine) → ((P : Record) → LeavesLines operation P) → ((P : Record) → (operated operation P).tab ≡ P.tab) →
      (splice : LineSplice) → splice.first ≡ 0 → splice.end ≡ 0 → splice.count ≡ 0 → IsOperated operation old new splice
  operated-none same none leaves tab splice a b c P e =
      let f = facts P e in
      let s = spliced-none operation P f.0 f.2 f.1 (none P) (same_display operation P (leaves P)) (tab P) in
      let R : ℕ → ℕ → ℕ → Type 0 = λ x y z. IsLineSplice operation P x y z in (
        subst (λ (x : ℕ). R x splice.end splice.count) (sym a) (subst (λ (y : ℕ). R 0 y splice.count) (sym b) (subst (λ (z : ℕ). R 0 0 z) (sym c) s)),
        unstamped-step operation P new 0 0 0 s
            (new_of P e ∙ (λ i. record (operated operation P) { marks = marks_of ((same ∙ sym (of_stamped P e)) i); next_stamp = length ((same ∙ sym (of_stamped P e)) i) })),
      )

  -- each line is
  pub operated-each : (n : ℕ) → n ≡ length (display_lines old.text old.inlays old.folds) → ws' ≡ replicate n 0 → length ws ≡ n →
      ((P : Record) → touched operation P ≡ EachLine) → ((P : Record) → LeavesLines operation P) →
      (splice : LineSplice) → splice.first ≡ 0 → splice.end ≡ n → splice.count ≡ n → IsOperated operation old new splice
  operated-each n lines zeros long each leaves splice a b c P e =
      let f = facts P e in
      let m = length (display_lines P.text P.inlays P.folds) in
      let same : m ≡ n = ap (λ (q : Record). length (display_lines q.text q.inlays q.folds)) e ∙ sym lines in
      let s : IsLineSplice operation P 0 n n =
      subst (λ (x : ℕ). IsLineSplice operation P 0 x x) same (spliced-each operation P f.0 f.2 f.1 (each P) (same_display operation P (leaves P))) in
      let own = of_stamped P e in
      let all : spliced 0 n n 0 (widths P.marks) ≡ ws' =
      ap (λ (l : List ℕ). replicate n 0 ++ l) (drop_all n (widths P.marks) (omega (arith, ap length own, long))) ∙ append-nil (replicate n 0) ∙ sym zeros in
      let R : ℕ → ℕ → ℕ → Type 0 = λ x y z. IsLineSplice operation P x y z in (
        subst (λ (x : ℕ). R x splice.end splice.count) (sym a) (subst (λ (y : ℕ). R 0 y splice.count) (sym b) (subst (λ (z : ℕ). R 0 n z) (sym c) s)),
        unstamped-step operation P new 0 n n s
            (new_of P e ∙ (λ i. record (operated operation P) { marks = marks_of (sym all i); next_stamp = length (sym all i) })),
      )
