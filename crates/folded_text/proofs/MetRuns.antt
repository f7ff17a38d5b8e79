-- The lines that places meet as one run.
use Rattle.std.proofs.Common.{◌≡◌, ℕ, zero, suc, ◌+◌, ◌-◌, ◌<◌, ◌≤◌, ◌↔◌, cond, not, Bool, true, false, count_by, ◌++◌, length, replicate, refl, sym, ap, ◌∙◌, arith}
use Rattle.std.specs.List.{prefix_len}
use Rattle.std.proofs.lemmas.List.Folds.{sum_by-replicate}
use Rattle.std.proofs.lemmas.List.Sums.{sum_by-append}
use Rattle.cell_units.specs.declared.place.Shift.{Shift}
use Rattle.cell_units.specs.Lawful.{HasLawfulEntries, IsAllowed, source_of}
use Rattle.cell_units.specs.Layers.{Source, shown_lines, shown_text, span_of}
use Rattle.cell_units.specs.LineCounts.{line_of_row_end, line_of_row_start, lines_of}
use Rattle.cell_units.specs.Operation.{Operation, operated}
use Rattle.cell_units.specs.Record.{Record}
use Rattle.cell_units.specs.Text.{row_of}
use Rattle.cell_units.specs.Touched.{Rows, Touched, one_run, row_range, touched, touched_after, touched_before}
use Rattle.cell_units.proofs.LawfulOperations.{lawful-operated}
use Rattle.cell_units.proofs.OperatedLines.{keeps_lines}
use Rattle.cell_units.proofs.ReplacedRows.{row_of-le}
use Rattle.cell_units.proofs.Sources.{row-lt}
use Rattle.cell_units.proofs.TouchedRuns.{rows_are_one_run}
use Rattle.fold_map.specs.MetLines.{MeetsLine, SpansMeet}
use Rattle.folded_text.specs.Answered.{MeetsRun}
use Rattle.fold_map.proofs.MetSpans.{between-meets, between-met, meets-between, met-between}

-- ---- a run that is not empty has its numbers

counted : (f n k : ℕ) → count_by (λ t. t) (one_run f n k) ≡ n
counted f n k =
    let one : Bool → ℕ = λ (t : Bool). cond t 1 0 in
    omega (
      arith,
      sum_by-append one (replicate f false) (replicate n true ++ replicate k false),
      sum_by-append one (replicate n true) (replicate k false),
      sum_by-replicate one f false,
      sum_by-replicate one n true,
      sum_by-replicate one k false,
    )

front-of : (f n k : ℕ) → 0 < n → prefix_len not (one_run f n k) ≡ f
front-of zero zero k some = absurd (omega arith)
front-of zero (suc n) k some = refl
front-of (suc f) n k some = ap (λ m. 1 + m) (front-of f n k some) ∙ omega arith

record SameRun (f n f' n' : ℕ) : Type 0 where
  front : f ≡ f'
  middle : n ≡ n'

same-run : (f n k f' n' k' : ℕ) → 0 < n → one_run f n k ≡ one_run f' n' k' → SameRun f n f' n'
same-run f n k f' n' k' some e =
    let middle : n ≡ n' = sym (counted f n k) ∙ ap (count_by (λ t. t)) e ∙ counted f' n' k' in
    record {
      front = sym (front-of f n k some) ∙ ap (prefix_len not) e ∙ front-of f' n' k' (omega (arith, some, middle));
      middle = middle;
    }

-- ---- places that meet the lines of rows

-- The places from the first to the last meet just the lines whose spans meet the rows of two offsets or one between.
pub record MeetsRowLines (s : Source) (first last a b : ℕ) : Type 0 where
  pub order : first ≤ last
  pub within : last ≤ length (shown_text s)
  pub ordered : a ≤ b
  pub in_text : b ≤ length s.text
  pub meets : (line : ℕ) → MeetsLine s first last line ↔ ((line < length (shown_lines s)) × SpansMeet (span_of s line) (row_of s.text a, row_of s.text b))

-- so the first is on the line of the first row's start, and the last on that of the last row's end
record OnRowLines (r : Record) (first last a b : ℕ) : Type 0 where
  from : row_of (shown_text (source_of r)) first ≡ line_of_row_start r a
  to : row_of (shown_text (source_of r)) last ≡ line_of_row_end r b

on-row_lines : (r : Record) → HasLawfulEntries r → (first last a b : ℕ) → MeetsRowLines (source_of r) first last a b → OnRowLines r first last a b
on-row_lines r is first last a b m =
    let s = source_of r in
    let formed = is.source in
    let first-line = row_of (shown_text s) first in
    let last-line = row_of (shown_text s) last in
    let order = m.order in
    let within = m.within in
    let ordered = m.ordered in
    let in-text = m.in_text in
    let rises = row_of-le (shown_text s) first last order in
    let run = rows_are_one_run r is a b ordered in-text in
    let upto = run.0 in
    let there : line_of_row_end r b < length (shown_lines s) = run.1 in
    let in-first : first ≤ length (shown_text s) = omega (arith, order, within) in
    let met = (m.meets first-line).0 (between-met s formed first last first-line in-first within (row-lt s formed first) (omega arith) rises) in
    let met' = (m.meets last-line).0 (between-met s formed first last last-line in-first within (row-lt s formed last) rises (omega arith)) in
    let low = meets-between s formed a b ordered in-text first-line met.0 met.1 in
    let high = meets-between s formed a b ordered in-text last-line met'.0 met'.1 in
    let there' : line_of_row_start r a < length (shown_lines s) = omega (arith, upto, there) in
    let back = met-between s formed first last (line_of_row_start r a) ((m.meets (line_of_row_start r a)).1 (there', between-meets s formed a b ordered in-text (line_of_row_start r a) there' (omega arith) upto)) in
    let back' = met-between s formed first last (line_of_row_end r b) ((m.meets (line_of_row_end r b)).1 (there, between-meets s formed a b ordered in-text (line_of_row_end r b) there upto (omega arith))) in
    record { from = omega (arith, low.0, back.0); to = omega (arith, high.1, back'.1) }

-- ---- the run that an operation touches

pub meets-run : (operation : Operation) (r : Record) → HasLawfulEntries r → IsAllowed operation r → (a b a' b' : ℕ)
    → touched operation r ≡ Rows (row_range r.text a b) (row_range (operated operation r).text a' b') → (s : Shift)
    → MeetsRowLines (source_of r) s.start s.end a b → MeetsRowLines (source_of (operated operation r)) s.start (s.start + s.count) a' b'
    → MeetsRun (touched operation r) r (operated operation r) s
meets-run operation r is ok a b a' b' e s old new =
    let after = operated operation r in
    let is' = lawful-operated r is operation ok in
    let k = keeps_lines r is operation ok in
    let run = k.run in
    let x = rows_are_one_run r is a b old.ordered old.in_text in
    let y = rows_are_one_run after is' a' b' new.ordered new.in_text in
    let f = line_of_row_start r a in
    let l = line_of_row_end r b in
    let f' = line_of_row_start after a' in
    let l' = line_of_row_end after b' in
    let at = on-row_lines r is s.start s.end a b old in
    let at' = on-row_lines after is' s.start (s.start + s.count) a' b' new in
    let same = same-run f (l + 1 - f) (length (lines_of r) - (l + 1)) run.front run.before run.back (omega (arith, x.0))
    (sym x.2 ∙ ap (λ (t : Touched). touched_before t r) (sym e) ∙ run.before_are) in
    let same' = same-run f' (l' + 1 - f') (length (lines_of after) - (l' + 1)) run.front run.after run.back (omega (arith, y.0))
    (sym y.2 ∙ ap (λ (t : Touched). touched_after t after) (sym e) ∙ run.after_are) in
    let front = same.front in
    let middle = same.middle in
    let front' = same'.front in
    let middle' = same'.middle in
    record {
      run = run;
      first = at.from ∙ front;
      last = omega (arith, at.to, front, middle, x.0);
      last_after = omega (arith, at'.to, front', middle', y.0);
    }
