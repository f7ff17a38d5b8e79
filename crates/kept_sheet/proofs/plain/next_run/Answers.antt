use Rattle.std.proofs.Common.{◌≡◌, ℕ, false, sym, ◌∙◌, inl, inr, arith}
use Rattle.std.proofs.lemmas.Bool.{cases_lt}
use Rattle.display_sheet.specs.Sheets.{marks_in}
use Rattle.cell_line.specs.Waiting.{waits}
use Rattle.kept_sheet.proofs.Waits.{and-next, long, past}
use Rattle.kept_sheet.proofs.plain.next_run.Goals as goal

pub returns-then-waits : goal.returns-then-waits
returns-then-waits c = record {
  some = c.run_length.ensures.some;
  few = c.run_length.ensures.few;
  none_before = c.loop-line.invariant;
  each = c.run_length.ensures.each;
  no_longer = c.run_length.ensures.no_longer;
}

pub loop-line-preserved : goal.loop-line-preserved
loop-line-preserved c =
    and-next (λ (k : ℕ). waits (marks_in c.args.wraps.now) c.args.width c.args.out.now k ≡ false) c.loop-line.line c.loop-line.invariant (sym c.waits.ensures ∙ c.if-waits.false)

pub returns : goal.returns
returns c line = elim (cases_lt line c.loop-line.line) [
  | inl lt ↦ c.loop-line.invariant line lt
  | inr ge ↦ past (marks_in c.args.wraps.now) c.args.width c.args.out.now line (omega (arith, ge, c.loop-line-test.false, c.len-line-end.ensures, long c.args.wraps.now))
]
