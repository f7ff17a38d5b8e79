-- Every mark is handed on.
use Rattle.std.proofs.Common.{◌≡◌, ℕ, ◌+◌, not, Bool, true, false, List, [], ◌∷◌, ◌++◌, length, map, take, drop, replicate, refl, sym, ap, ◌∙◌, subst, arith, append_assoc, length-append, length-drop}
use Rattle.std.specs.List.{All, count_by}
use Rattle.std.proofs.lemmas.List.Elements.{All-append, All-drop, All-take}
use Rattle.std.proofs.lemmas.List.{length-take-le, length-map, length-replicate, take_at, drop_at}
use Rattle.std.proofs.lemmas.List.FromFn.{length-range_with_len}
use Rattle.std.specs.List.{range_with_len}
use Rattle.cell_units.specs.Record.{Record, Mark, plain_mark, plain_marks}
use Rattle.cell_units.specs.Operation.{Operation, operated}
use Rattle.cell_units.specs.Folded.{display_lines}
use Rattle.cell_units.specs.Touched.{Touched, NoLine, EachLine, Rows, touched, touched_before, touched_after, is_touched, untouched, one_run}
use Rattle.cell_units.specs.Lawful.{IsAllowed, IsLawful, IsMarked, IsWidth}
use Rattle.cell_units.specs.LineCounts.{TouchesOneRun, lines_of}
use Rattle.cell_units.specs.Pieces.{pieces_of}
use Rattle.cell_units.proofs.FoundEntries.{All-from_Every}
use Rattle.cell_units.proofs.LawfulOperations.{lawful-operated, plain_widths}
use Rattle.cell_units.proofs.OperatedLines.{keeps_lines}
use Rattle.display_sheet.specs.LineStep.{line_step, KeepsMarks, GivesFreshMarks}
use Rattle.display_sheet.proofs.StepRuns.{count_true, kept_marks, stepped_run}

pub length-run : (front middle back : ℕ) → length (one_run front middle back) ≡ front + (middle + back)
length-run front middle back =
    omega (
      arith,
      length-append (replicate front false) (replicate middle true ++ replicate back false),
      length-append (replicate middle true) (replicate back false),
      length-replicate front false,
      length-replicate middle true,
      length-replicate back false,
    )

-- there is one flag for each display line
pub length-before : (t : Touched) (r : Record) → length (touched_before t r) ≡ length (display_lines r.text r.inlays r.folds)
length-before NoLine r = length-map (display_lines r.text r.inlays r.folds) (λ line. false)
length-before EachLine r = length-map (display_lines r.text r.inlays r.folds) (λ line. true)
length-before (Rows before after) r = length-map (display_lines r.text r.inlays r.folds) (is_touched r.text before)

pub length-after : (t : Touched) (r : Record) → length (touched_after t r) ≡ length (display_lines r.text r.inlays r.folds)
length-after NoLine r = length-map (display_lines r.text r.inlays r.folds) (λ line. false)
length-after EachLine r = length-map (display_lines r.text r.inlays r.folds) (λ line. true)
length-after (Rows before after) r = length-map (display_lines r.text r.inlays r.folds) (is_touched r.text after)

pub length-marked : (r : Record) → length (lines_of r) ≡ length (display_lines r.text r.inlays r.folds)
length-marked r = length-map (display_lines r.text r.inlays r.folds) pieces_of

-- those of the touched lines
middle_of : (front middle back : List Mark) → untouched (map not (one_run (length front) (length middle) (length back))) (front ++ (middle ++ back)) ≡ middle
middle_of [] [] [] = refl
middle_of [] [] (m ∷ back) = middle_of [] [] back
middle_of [] (m ∷ middle) back = ap (λ (l : List Mark). m ∷ l) (middle_of [] middle back)
middle_of (m ∷ front) middle back = middle_of front middle back

module _ (operation : Operation) (r : Record) (is : IsLawful r) (ok : IsAllowed operation r) where
  run : TouchesOneRun (touched operation r) r (operated operation r)
  run = let k = keeps_lines r is.entries operation ok in k.run

  abbrev front : List Mark
  front = take run.front r.marks

  abbrev fresh : List Mark
  fresh = plain_marks r.next_stamp run.after

  abbrev back : List Mark
  back = drop (run.front + run.before) r.marks

  long : length r.marks ≡ run.front + (run.before + run.back)
  long = omega (arith, is.marked, length-before (touched operation r) r, ap length run.before_are, length-run run.front run.before run.back)

  long_front : length front ≡ run.front
  long_front = length-take-le run.front r.marks (omega (arith, long))

  long_fresh : length fresh ≡ run.after
  long_fresh = length-map (range_with_len r.next_stamp run.after) plain_mark ∙ length-range_with_len r.next_stamp run.after

  long_back : length back ≡ run.back
  long_back = omega (arith, long, length-drop (run.front + run.before) r.marks)

  step_is : line_step operation r ≡ record (operated operation r) { marks = front ++ (fresh ++ back); next_stamp = r.next_stamp + run.after }
  unfolding line_step
  step_is = stepped_run operation r (operated operation r) run.front run.before run.after run.back run.before_are run.after_are long

  marks_are : (line_step operation r).marks ≡ front ++ (fresh ++ back)
  marks_are = ap (λ (s : Record). s.marks) step_is

  marked_step : IsMarked (line_step operation r)
  marked_step =
      omega (
        arith,
        ap length marks_are,
        length-append front (fresh ++ back),
        length-append fresh back,
        long_front,
        long_fresh,
        long_back,
        length-after (touched operation r) (operated operation r),
        ap length run.after_are,
        length-run run.front run.after run.back,
        ap (λ (s : Record). length (display_lines s.text s.inlays s.folds)) step_is,
      )

  widths_step : All (λ m. IsWidth m.width) (line_step operation r).marks
  widths_step =
      let P : Mark → Type 0 = λ m. IsWidth m.width in
      subst (All P) (sym marks_are)
      (All-append P front (fresh ++ back) (All-take P run.front r.marks is.widths)
      (All-append P fresh back (All-from_Every P fresh (plain_widths r.next_stamp run.after)) (All-drop P (run.front + run.before) r.marks is.widths)))

  pub IsLawful-step : IsLawful (line_step operation r)
  unfolding line_step
  IsLawful-step =
      let after = lawful-operated r is.entries operation ok in
      record {
        entries = record { source = after.source; blocks = after.blocks; tab = after.tab; width = after.width };
        marked = marked_step;
        widths = widths_step;
      }

  pub keeps_marks : KeepsMarks operation r
  keeps_marks =
      (λ i. untouched (run.after_are i) (marks_are i))
      ∙ kept_marks run.front run.after run.back (front ++ (fresh ++ back))
      (omega (arith, length-append front (fresh ++ back), length-append fresh back, long_front, long_fresh, long_back))
      ∙ (λ i. take_at front (fresh ++ back) run.front long_front i ++ drop (run.front + run.after) (sym (append_assoc front fresh back) i))
      ∙ ap (λ (l : List Mark). front ++ l) (drop_at (front ++ fresh) back (run.front + run.after) (omega (arith, length-append front fresh, long_front, long_fresh)))
      ∙ sym (kept_marks run.front run.before run.back r.marks long)
      ∙ ap (λ (flags : List Bool). untouched flags r.marks) (sym run.before_are)

  pub gives_fresh_marks : GivesFreshMarks operation r
  gives_fresh_marks =
      (λ i. untouched (map not (run.after_are i)) (marks_are i))
      ∙ (λ i. untouched (map not (one_run (sym long_front i) (sym long_fresh i) (sym long_back i))) (front ++ (fresh ++ back)))
      ∙ middle_of front fresh back
      ∙ ap (plain_marks r.next_stamp) (sym (ap (count_by (λ t. t)) run.after_are ∙ count_true run.front run.after run.back))
