-- What a step makes of the marks, by the lines of the touched rows' ends.
use Rattle.std.proofs.Common.{◌≡◌, ℕ, ◌+◌, ◌-◌, ◌<◌, ◌≤◌, zero, suc, not, ◌++◌, length, take, drop, refl, sym, ap, ◌∙◌, arith}
use Rattle.std.specs.List.{count_by, prefix_len}
use Rattle.cell_units.specs.Record.{Record, plain_marks}
use Rattle.cell_units.specs.Operation.{Operation, operated}
use Rattle.cell_units.specs.Touched.{Touched, Rows, row_range, touched, touched_before, touched_after, one_run}
use Rattle.cell_units.specs.Lawful.{IsAllowed, IsLawful}
use Rattle.cell_units.specs.LineCounts.{lines_of, line_of_row_start, line_of_row_end}
use Rattle.cell_units.proofs.OperatedLines.{keeps_lines}
use Rattle.cell_units.proofs.LawfulOperations.{lawful-operated}
use Rattle.cell_units.proofs.TouchedRuns.{rows_are_one_run}
use Rattle.display_sheet.specs.LineStep.{flags_before, flags_after, line_step, SplicesMarks}
use Rattle.display_sheet.proofs.StepRuns.{count_true, stepped_run}
use Rattle.display_sheet.proofs.StepLaws.{length-run, length-marked}

-- a run that is not empty has its numbers
front_of : (front middle back : ℕ) → 0 < middle → prefix_len not (one_run front middle back) ≡ front
front_of zero zero back some = absurd (omega arith)
front_of zero (suc middle) back some = refl
front_of (suc front) middle back some = ap (λ n. 1 + n) (front_of front middle back some) ∙ omega arith

pub record SameRun (f n k f' n' k' : ℕ) : Type 0 where
  pub front : f ≡ f'
  pub middle : n ≡ n'
  pub back : k ≡ k'

pub same_run : (f n k f' n' k' : ℕ) → 0 < n → one_run f' n' k' ≡ one_run f n k → SameRun f n k f' n' k'
same_run f n k f' n' k' some e =
    let m : n' ≡ n = sym (count_true f' n' k') ∙ ap (count_by (λ t. t)) e ∙ count_true f n k in
    let g : f' ≡ f = sym (front_of f' n' k' (omega (arith, m, some))) ∙ ap (prefix_len not) e ∙ front_of f n k some in
    record {
      front = sym g;
      middle = sym m;
      back = omega (arith, length-run f n k, length-run f' n' k', ap length e, m, g);
    }

pub splices_marks : (operation : Operation) (r : Record) → IsLawful r → IsAllowed operation r →
    (a b a' b' : ℕ) → touched operation r ≡ Rows (row_range r.text a b) (row_range (operated operation r).text a' b') →
    a ≤ b → b ≤ length r.text → a' ≤ b' → b' ≤ length (operated operation r).text → SplicesMarks operation r a b a' b'
unfolding line_step
splices_marks operation r is ok a b a' b' e ab bt ab' bt' =
    let after = operated operation r in
    let k = keeps_lines r is.entries operation ok in
    let run = k.run in
    let x = rows_are_one_run r is.entries a b ab bt in
    let y = rows_are_one_run after (lawful-operated r is.entries operation ok) a' b' ab' bt' in
    let f = line_of_row_start r a in
    let l = line_of_row_end r b in
    let f' = line_of_row_start after a' in
    let l' = line_of_row_end after b' in
    let before_are : flags_before operation r ≡ one_run f (l + 1 - f) (length (lines_of r) - (l + 1)) = ap (λ (t : Touched). touched_before t r) e ∙ x.2 in
    let after_are : flags_after operation r after ≡ one_run f' (l' + 1 - f') (length (lines_of after) - (l' + 1)) = ap (λ (t : Touched). touched_after t after) e ∙ y.2 in
    let s = same_run f (l + 1 - f) (length (lines_of r) - (l + 1)) run.front run.before run.back (omega (arith, x.0)) (sym run.before_are ∙ before_are) in
    let s' = same_run f' (l' + 1 - f') (length (lines_of after) - (l' + 1)) run.front run.after run.back (omega (arith, y.0)) (sym run.after_are ∙ after_are) in
    let upto : f + (l + 1 - f) ≡ l + 1 = omega (arith, x.0) in (
      s.front ∙ sym s'.front,
      ap (λ (r' : Record). r'.marks)
          (stepped_run operation r after f (l + 1 - f) (l' + 1 - f') (length (lines_of r) - (l + 1)) before_are
          (after_are ∙ (λ i. one_run ((s'.front ∙ sym s.front) i) (l' + 1 - f') ((s'.back ∙ sym s.back) i)))
          (omega (arith, is.marked, length-marked r, x.0, x.1)))
          ∙ ap (λ (n : ℕ). take f r.marks ++ (plain_marks r.next_stamp (l' + 1 - f') ++ drop n r.marks)) upto,
    )
