-- What an operation makes of the lines of a record, whatever its stamps are.
use Rattle.std.proofs.Common.{◌≡◌, ◌+◌, ◌-◌, ℕ, Some, length, refl, sym, ap, subst, ◌∙◌, arith}
use Rattle.cell_units.specs.declared.place.Shift.{Shift}
use Rattle.cell_units.specs.Lawful.{HasLawfulEntries, IsAllowed, IsLawful, IsMarked, source_of}
use Rattle.cell_units.specs.Operation.{Operation, operated}
use Rattle.cell_units.specs.Record.{Record}
use Rattle.cell_units.specs.Touched.{EachLine, NoLine, Rows, Touched, touched}
use Rattle.cell_units.proofs.OperatedLines.{keeps_lines}
use Rattle.plain_rows.specs.Plain.{marks_of}
use Rattle.tab_map.specs.TabLines.{first_met, new_reach, old_reach}
use Rattle.folded_text.specs.Answered.{MeetsRun, MeetsTouched}
use Rattle.display_sheet.specs.declared.sheet.LineSplice.{LineSplice}
use Rattle.display_sheet.specs.LineSplices.{IsLineSplice, spliced}
use Rattle.display_sheet.specs.LineStep.{line_step}
use Rattle.display_sheet.specs.Sheets.{IsOperated}
use Rattle.display_sheet.specs.Shown.{unstamped}
use Rattle.display_sheet.proofs.LineSplices.{spliced_run}
use Rattle.display_sheet.proofs.Relaid.{lawful-unstamped}
use Rattle.display_sheet.proofs.Sheets.{operated-other, unstamped-step, widths, widths-marks_of}
use Rattle.display_sheet.proofs.StepLaws.{IsLawful-step}

-- ---- the lines that a replacement of what is shown meets

pub meets-run : (t : Touched) (r r' : Record) (s : Shift) → MeetsTouched t r r' (Some s) → MeetsRun t r r' s
meets-run (Rows before after) r r' s m = m
meets-run NoLine r r' s m = absurd m
meets-run EachLine r r' s m = absurd m

pub met-splice : (operation : Operation) (r : Record) (s : Shift) → HasLawfulEntries r → IsAllowed operation r → IsMarked r → (operated operation r).tab ≡ r.tab
    → MeetsRun (touched operation r) r (operated operation r) s
    → let old = source_of r in let new = source_of (operated operation r) in
    IsLineSplice operation r (first_met old s) (old_reach old s) (new_reach new s - first_met old s)
met-splice operation r s is ok marked tab m =
    let old = source_of r in
    let new = source_of (operated operation r) in
    let run = m.run in
    let count : run.after ≡ new_reach new s - first_met old s = omega (arith, m.first, m.last_after) in
    subst (λ (n : ℕ). IsLineSplice operation r (first_met old s) (old_reach old s) n) count
    (subst (λ (n : ℕ). IsLineSplice operation r (first_met old s) n run.after) (sym m.last)
    (subst (λ (n : ℕ). IsLineSplice operation r n (run.front + run.before) run.after) (sym m.first)
    (spliced_run operation r run.front run.before run.after run.back marked run.before_are run.after_are (keeps_lines r is operation ok).pieces tab)))

-- ---- the record after the operation

-- the marks after a splice of a record's lines
abbrev pub after_of : Operation → Record → ℕ → ℕ → ℕ → Record
after_of operation r first end count =
    let ws = spliced first end count 0 (widths r.marks) in
    record (operated operation r) { marks = marks_of ws; next_stamp = length ws }

module _ (operation : Operation) (r : Record) (first end count : ℕ) (splices : (P : Record) → unstamped P ≡ r → IsLineSplice operation P first end count) where
  after-stamped : (P : Record) → unstamped P ≡ r → after_of operation r first end count ≡ after_of operation P first end count
  after-stamped P e =
      let same = widths-marks_of (widths P.marks) in
      ap (λ (q : Record). after_of operation q first end count) (sym e)
      ∙ (λ i. record (operated-other P (marks_of (widths P.marks)) (length P.marks) operation i) {
        marks = marks_of (spliced first end count 0 (same i));
        next_stamp = length (spliced first end count 0 (same i));
      })

  pub operated-by : (after : Record) → after ≡ after_of operation r first end count → (splice : LineSplice) → splice.first ≡ first → splice.end ≡ end → splice.count ≡ count →
      IsOperated operation r after splice
  operated-by after is splice a b c P e =
      let R : ℕ → ℕ → ℕ → Type 0 = λ x y z. IsLineSplice operation P x y z in (
        subst (λ (x : ℕ). R x splice.end splice.count) (sym a) (subst (λ (y : ℕ). R first y splice.count) (sym b) (subst (λ (z : ℕ). R first end z) (sym c) (splices P e))),
        unstamped-step operation P after first end count (splices P e) (is ∙ after-stamped P e),
      )

-- it is lawful
pub lawful-after : (operation : Operation) (r : Record) (first end count : ℕ) → IsLawful r → IsAllowed operation r → IsLineSplice operation r first end count →
    IsLawful (after_of operation r first end count)
lawful-after operation r first end count is ok splice =
    subst IsLawful (unstamped-step operation r (after_of operation r first end count) first end count splice refl)
    (lawful-unstamped (line_step operation r) (IsLawful-step operation r is ok))
