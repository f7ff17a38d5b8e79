-- The lines of a text by itself are its rows, and those that a replacement touches are one run of them.
use Rattle.std.proofs.Common.{◌≡◌, ℕ, zero, suc, ◌+◌, ◌-◌, ◌<◌, ◌≤◌, cond, not, Bool, true, false, count_by, List, [], ◌∷◌, ◌++◌, length, take, replicate, refl, sym, ap, ◌∙◌, append-nil, arith}
use Rattle.std.specs.Str.{IsUtf8}
use Rattle.std.specs.List.{prefix_len}
use Rattle.std.proofs.lemmas.List.Folds.{sum_by-replicate}
use Rattle.std.proofs.lemmas.List.Sums.{sum_by-append}
use Rattle.cell_units.specs.declared.place.Bias.{Bias}
use Rattle.cell_units.specs.declared.place.Bias.TheVariants.{Left, Right}
use Rattle.cell_units.specs.Folded.{line_of, shown}
use Rattle.cell_units.specs.Inlaid.{Byte, is_break, show_each}
use Rattle.cell_units.specs.Lawful.{HasLawfulEntries, IsAllowed}
use Rattle.cell_units.specs.LineCounts.{RowsAreOneRun, TouchesOneRun, line_of_row_end, line_of_row_start, lines_of}
use Rattle.cell_units.specs.Operation.{Operation, Replace, operated, replaced_text}
use Rattle.cell_units.specs.Record.{Record, opened}
use Rattle.cell_units.specs.Text.{IsText, clean, is_feed, row_end, row_of, row_start}
use Rattle.cell_units.specs.Touched.{one_run, touched}
use Rattle.cell_units.proofs.BufferLines.{feeds-cons, row_of_end, row_of_start}
use Rattle.cell_units.proofs.LawfulOperations.{lawful-operated, opened-lawful}
use Rattle.cell_units.proofs.OperatedLines.{keeps_lines}
use Rattle.cell_units.proofs.ReplacedRows.{length-replaced_text, row_of-lt}
use Rattle.cell_units.proofs.SortedLists.{count-cons}
use Rattle.cell_units.proofs.TouchedRuns.{rows_are_one_run}
use Rattle.text_rope.specs.Edits.{IsRange}
use Rattle.text_rope.proofs.Layers.{row_end_is}
use Rattle.text_rope.proofs.RowStarts.{row_start_is}

-- ---- the line of an offset is its row

-- bytes show their feeds as breaks
breaks-shown : (o : ℕ) (bs : List ℕ) → count_by is_break (show_each (shown [] []) o bs) ≡ count_by is_feed bs
breaks-shown o [] = refl
breaks-shown o (b ∷ bs) =
    count-cons is_break (Byte o b) (show_each (shown [] []) (o + 1) bs)
    ∙ ap (λ (n : ℕ). cond (is_feed b) 1 0 + n) (breaks-shown (o + 1) bs)
    ∙ sym (feeds-cons b bs)

line-plain : (text : List ℕ) (o : ℕ) (bias : Bias) → line_of text [] [] o bias ≡ row_of text o
line-plain text o Left = breaks-shown 0 (take o text)
line-plain text o Right = ap (count_by is_break) (append-nil (show_each (shown [] []) 0 (take o text))) ∙ breaks-shown 0 (take o text)

-- so are those of the start and the end of its row
first-line : (text : List ℕ) (o : ℕ) → o ≤ length text → line_of text [] [] (row_start text o) Left ≡ row_of text o
first-line text o le = line-plain text (row_start text o) Left ∙ ap (row_of text) (row_start_is text o le) ∙ row_of_start text (row_of text o) (row_of-lt text o)

last-line : (text : List ℕ) (o : ℕ) → o ≤ length text → line_of text [] [] (row_end text o) Right ≡ row_of text o
last-line text o le = line-plain text (row_end text o) Right ∙ ap (row_of text) (row_end_is text o le) ∙ row_of_end text (row_of text o) (row_of-lt text o)

-- ---- a run that isn't empty has its numbers

counted : (f n k : ℕ) → count_by (λ t. t) (one_run f n k) ≡ n
counted f n k =
    let one : Bool → ℕ = λ (t : Bool). cond t 1 0 in
    omega (
      arith,
      sum_by-append one (replicate f false) (replicate n true ++ replicate k false),
      sum_by-append one (replicate n true) (replicate k false),
      sum_by-replicate one f false,
      sum_by-replicate one n true,
      sum_by-replicate one k false,
    )

front-of : (f n k : ℕ) → 0 < n → prefix_len not (one_run f n k) ≡ f
front-of zero zero k some = absurd (omega arith)
front-of zero (suc n) k some = refl
front-of (suc f) n k some = ap (λ m. 1 + m) (front-of f n k some) ∙ omega arith

-- one run that is another has its numbers
same-run : (f n k f' n' k' : ℕ) → 0 < n → one_run f n k ≡ one_run f' n' k' → (f ≡ f') × (n ≡ n')
same-run f n k f' n' k' some e =
    let middle : n ≡ n' = sym (counted f n k) ∙ ap (count_by (λ t. t)) e ∙ counted f' n' k' in (
      sym (front-of f n k some) ∙ ap (prefix_len not) e ∙ front-of f' n' k' (omega (arith, some, middle)),
      middle,
    )

-- ---- a replacement of the text

-- the lines that are touched before and after are those of the rows of its ends
module _ (text : List ℕ) (is : IsText text) (a b : ℕ) (put : List ℕ) (range : IsRange text a b) (spelled : IsUtf8 put) where
  abbrev pub before : Record
  before = opened text

  abbrev pub operation : Operation
  operation = Replace a b put

  abbrev pub after : Record
  after = operated operation before

  pub lawful : HasLawfulEntries before
  lawful = let l = opened-lawful text is in l.entries

  pub allowed : IsAllowed operation before
  allowed = (range.1, range.2, range.0, spelled)

  pub run : TouchesOneRun (touched operation before) before after
  run = let k = keeps_lines before lawful operation allowed in k.run

  abbrev pub reach : ℕ
  reach = a + length (clean put)

  long : reach ≤ length (replaced_text text a b (clean put))
  long = omega (arith, length-replaced_text text a b (clean put) range.1.0, range.0, range.2.0)

  first : RowsAreOneRun before a b
  first = rows_are_one_run before lawful a b range.0 range.2.0

  last : RowsAreOneRun after a reach
  last = rows_are_one_run after (lawful-operated before lawful operation allowed) a reach (omega arith) long

  same-before : (line_of_row_start before a ≡ run.front) × (line_of_row_end before b + 1 - line_of_row_start before a ≡ run.before)
  same-before =
      same-run (line_of_row_start before a) (line_of_row_end before b + 1 - line_of_row_start before a)
      (length (lines_of before) - (line_of_row_end before b + 1)) run.front run.before run.back
      (omega (arith, first.0)) (sym first.2 ∙ run.before_are)

  same-after : (line_of_row_start after a ≡ run.front) × (line_of_row_end after reach + 1 - line_of_row_start after a ≡ run.after)
  same-after =
      same-run (line_of_row_start after a) (line_of_row_end after reach + 1 - line_of_row_start after a)
      (length (lines_of after) - (line_of_row_end after reach + 1)) run.front run.after run.back
      (omega (arith, last.0)) (sym last.2 ∙ run.after_are)

  at-start : line_of_row_start before a ≡ row_of text a
  at-start = first-line text a range.1.0

  at-end : line_of_row_end before b ≡ row_of text b
  at-end = last-line text b range.2.0

  at-reach : line_of_row_end after reach ≡ row_of (replaced_text text a b (clean put)) reach
  at-reach = last-line (replaced_text text a b (clean put)) reach long

  pub front-is : run.front ≡ row_of text a
  front-is = sym same-before.0 ∙ at-start

  pub before-is : run.front + run.before ≡ row_of text b + 1
  before-is = omega (arith, same-before.0, same-before.1, at-end, first.0)

  pub after-is : run.front + run.after ≡ row_of (replaced_text text a b (clean put)) (a + length (clean put)) + 1
  after-is = omega (arith, same-after.0, same-after.1, at-reach, last.0)
