-- Which lines an operation touches, by the rows of two offsets.
use Rattle.std.proofs.Common.{◌≡◌, ℕ, ◌+◌, ◌-◌, ◌<◌, ◌≤◌, zero, suc, Bool, true, false, List, [], ◌∷◌, ◌++◌, length, map, drop, replicate, refl, sym, ap, ◌∙◌, arith}
use Rattle.std.specs.List.{count_by}
use Rattle.cell_units.specs.Lawful.{IsAllowed, IsLawful}
use Rattle.cell_units.specs.LineCounts.{TouchesOneRun, line_of_row_end, line_of_row_start, lines_of}
use Rattle.cell_units.specs.Operation.{Operation, operated}
use Rattle.cell_units.specs.Record.{Record}
use Rattle.cell_units.specs.Touched.{EachLine, NoLine, RowRange, Rows, Touched, one_run, row_range, touched, touched_after, touched_before}
use Rattle.cell_units.specs.Folded.{display_lines}
use Rattle.cell_units.proofs.OperatedLines.{keeps_lines}
use Rattle.cell_units.proofs.TouchedRuns.{rows_are_one_run}
use Rattle.display_sheet.specs.LineStep.{line_step}
use Rattle.display_sheet.proofs.StepLaws.{length-after, length-before, length-marked, length-run}
use Rattle.display_sheet.proofs.StepRuns.{count_true}
use Rattle.row_pieces.specs.declared.row_change.RowChange.{RowChange}
use Rattle.row_pieces.specs.Changed.{change, no_change}
use Rattle.row_pieces.proofs.BlockLines.{none-touched}
use Rattle.row_pieces.proofs.OperatedLooks.{each-count, marks-long, marks-stepped}
use Rattle.row_pieces.specs.Operated.{AreTouched}

-- ---- runs of flags that are equal

same-front : (f f' m m' b b' : ℕ) → one_run f (suc m) b ≡ one_run f' (suc m') b' → f ≡ f'
same-front zero zero m m' b b' e = refl
same-front zero (suc f') m m' b b' e = absurd (cc e)
same-front (suc f) zero m m' b b' e = absurd (cc e)
same-front (suc f) (suc f') m m' b b' e = ap suc (same-front f f' m m' b b' (ap (drop 1) e))

pub same-run : (f f' m m' b b' : ℕ) → one_run f m b ≡ one_run f' m' b' → 0 < m' → (f ≡ f') × (m ≡ m')
same-run f f' m m' b b' e some = go m m' same e some where
  same : m ≡ m'
  same = sym (count_true f m b) ∙ ap (count_by (λ t. t)) e ∙ count_true f' m' b'

  go : (m m' : ℕ) → m ≡ m' → one_run f m b ≡ one_run f' m' b' → 0 < m' → (f ≡ f') × (m ≡ m')
  go m zero same e some = absurd (omega (arith, some))
  go zero (suc m') same e some = absurd (omega (arith, same))
  go (suc m) (suc m') same e some = (same-front f f' m m' b b' e, same)

all-false : (f b : ℕ) → one_run f 0 b ≡ one_run 0 0 (f + b)
all-false zero b = let e : b ≡ 0 + b = omega arith in ap (λ (n : ℕ). replicate n false) e
all-false (suc f) b =
    let e : suc (f + b) ≡ suc f + b = omega arith in
    ap (λ (l : List Bool). false ∷ l) (all-false f b) ∙ ap (λ (n : ℕ). replicate n false) e

-- ---- the lines

module _ (operation : Operation) (r : Record) (is : IsLawful r) (ok : IsAllowed operation r) where
  run : TouchesOneRun (touched operation r) r (operated operation r)
  run = let k = keeps_lines r is.entries operation ok in k.run

  abbrev count : ℕ
  count = length (line_step operation r).marks

  -- those of the rows from that of one offset to that of another
  module _ (a b : ℕ) (after : RowRange) (rows : touched operation r ≡ Rows (row_range r.text a b) after) (order : a ≤ b) (within : b ≤ length r.text) where
    abbrev first : ℕ
    first = line_of_row_start r a

    abbrev end : ℕ
    end = line_of_row_end r b + 1

    flags : one_run run.front run.before run.back ≡ one_run first (end - first) (length (lines_of r) - end)
    flags =
        let one = rows_are_one_run r is.entries a b order within in
        sym run.before_are ∙ ap (λ (t : Touched). touched_before t r) rows ∙ one.2

    rises : first < end
    rises = let one = rows_are_one_run r is.entries a b order within in omega (arith, one.0)

    pub touched-between : AreTouched operation r (change first end (count - (length r.marks - end) - first))
    touched-between =
        let same = same-run run.front first run.before (end - first) run.back (length (lines_of r) - end) flags (omega (arith, rises)) in
        let old = marks-long operation r is ok run in
        let new = marks-stepped operation r is ok run in
        let front_is : first ≡ run.front = sym same.0 in
        let end_is : end ≡ run.front + run.before = omega (arith, same.0, same.1, rises) in
        let after_is : count - (length r.marks - end) - first ≡ run.after = omega (arith, same.0, same.1, rises, old, new) in
        record {
          run = run;
          lines_are = λ i. change (front_is i) (end_is i) (after_is i);
          nothing = λ none. absurd (cc (sym rows ∙ none));
        }

  -- each of them
  pub touched-each : touched operation r ≡ EachLine → AreTouched operation r (change 0 (length r.marks) count)
  touched-each each =
      let lines = display_lines r.text r.inlays r.folds in
      let all : run.before ≡ length lines =
      sym (count_true run.front run.before run.back)
      ∙ ap (count_by (λ t. t)) (sym run.before_are ∙ ap (λ (t : Touched). touched_before t r) each)
      ∙ each-count lines in
      let old = marks-long operation r is ok run in
      let new = marks-stepped operation r is ok run in
      let front_is : 0 ≡ run.front = omega (arith, all, old, is.marked) in
      let end_is : length r.marks ≡ run.front + run.before = omega (arith, all, old, is.marked) in
      let after_is : count ≡ run.after = omega (arith, all, old, new, is.marked) in
      record {
        run = run;
        lines_are = λ i. change (front_is i) (end_is i) (after_is i);
        nothing = λ none. absurd (cc (sym each ∙ none));
      }

  -- or none
  pub touched-none : touched operation r ≡ NoLine → AreTouched operation r no_change
  touched-none none =
      let zeros = none-touched operation r is ok run none in
      record {
        run = record {
          front = 0;
          before = 0;
          after = 0;
          back = run.front + run.back;
          before_are = run.before_are ∙ ap (λ (n : ℕ). one_run run.front n run.back) zeros.0 ∙ all-false run.front run.back;
          after_are = run.after_are ∙ ap (λ (n : ℕ). one_run run.front n run.back) zeros.1 ∙ all-false run.front run.back;
        };
        lines_are = refl;
        nothing = λ e. refl;
      }
