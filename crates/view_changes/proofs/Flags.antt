-- The lines that an operation replaces are its run of touched lines.
use Rattle.std.proofs.Common.{◌≡◌, ℕ, ◌+◌, ◌-◌, ◌<◌, not, zero, suc, Bool, true, false, cond, List, length, refl, sym, ap, subst, ◌∙◌, arith}
use Rattle.std.specs.List.{count_by, list_any, prefix_len}
use Rattle.cell_units.specs.declared.place.Bias.TheVariants.{Left}
use Rattle.cell_units.specs.Lawful.{IsAllowed, IsLawful}
use Rattle.cell_units.specs.LineCounts.{TouchesOneRun, line_of_row_end, line_of_row_start, lines_of}
use Rattle.cell_units.specs.Operation.{Operation, operated}
use Rattle.cell_units.specs.Record.{Record}
use Rattle.cell_units.specs.Touched.{Touched, one_run, touched, touched_before}
use Rattle.cell_units.specs.Folded.{display_lines}
use Rattle.cell_units.proofs.TouchedRuns.{rows_are_one_run}
use Rattle.plain_rows.proofs.SpotFronts.{line_of-within}
use Rattle.display_sheet.proofs.StepRuns.{count_true}
use Rattle.row_pieces.specs.declared.row_change.RowChange.{RowChange}
use Rattle.row_pieces.specs.Changed.{change, no_change}
use Rattle.row_pieces.specs.Operated.{AreTouched}
use Rattle.row_pieces.proofs.BlockLines.{Each_, None_, Some_, Touch, none-touched, touch-of}
use Rattle.row_pieces.proofs.OperatedLooks.{each-count}
use Rattle.row_pieces.proofs.TouchedLines.{touched-between, touched-each, touched-none}
use Rattle.view_changes.specs.Operations.{lines_replaced}

-- ---- one run of flags

prefix-run : (f m b : ℕ) → 0 < m → prefix_len not (one_run f m b) ≡ f
prefix-run zero zero b some = absurd (omega (arith, some))
prefix-run zero (suc m) b some = refl
prefix-run (suc f) m b some = omega (arith, prefix-run f m b some)

any-run : (f m b : ℕ) → 0 < m → list_any (λ t. t) (one_run f m b) ≡ true
any-run zero zero b some = absurd (omega (arith, some))
any-run zero (suc m) b some = refl
any-run (suc f) m b some = any-run f m b some

none-run : (f b : ℕ) → list_any (λ t. t) (one_run f 0 b) ≡ false
none-run zero zero = refl
none-run zero (suc b) = none-run zero b
none-run (suc f) b = none-run f b

module _ (operation : Operation) (r : Record) (run : TouchesOneRun (touched operation r) r (operated operation r)) where
  -- by the flags of the lines before and after
  abbrev by-flags : List Bool → List Bool → RowChange
  by-flags before after =
      cond (list_any (λ t. t) before) (change (prefix_len not before) (prefix_len not before + count_by (λ t. t) before) (count_by (λ t. t) after)) no_change

  some-lines : 0 < run.before → lines_replaced operation r ≡ change run.front (run.front + run.before) run.after
  some-lines some =
      (λ i. by-flags (run.before_are i) (run.after_are i))
      ∙ ap (λ (b : Bool). cond b (change (prefix_len not (one_run run.front run.before run.back)) (prefix_len not (one_run run.front run.before run.back) + count_by (λ t. t) (one_run run.front run.before run.back)) (count_by (λ t. t) (one_run run.front run.after run.back))) no_change)
      (any-run run.front run.before run.back some)
      ∙ (λ i. change (prefix-run run.front run.before run.back some i) (prefix-run run.front run.before run.back some i + count_true run.front run.before run.back i) (count_true run.front run.after run.back i))

  no-lines : run.before ≡ 0 → lines_replaced operation r ≡ no_change
  no-lines none =
      (λ i. by-flags (run.before_are i) (run.after_are i))
      ∙ ap (λ (b : Bool). cond b (change (prefix_len not (one_run run.front run.before run.back)) (prefix_len not (one_run run.front run.before run.back) + count_by (λ t. t) (one_run run.front run.before run.back)) (count_by (λ t. t) (one_run run.front run.after run.back))) no_change)
      (ap (λ (n : ℕ). list_any (λ t. t) (one_run run.front n run.back)) none ∙ none-run run.front run.back)

-- ---- the lines of an operation

module _ (operation : Operation) (r : Record) (is : IsLawful r) (ok : IsAllowed operation r) where
  some-line : 0 < length r.marks
  some-line = let at = line_of-within r is 0 Left (omega arith) in omega (arith, at)

  pub lines-are : (lines : RowChange) → AreTouched operation r lines → lines ≡ lines_replaced operation r
  lines-are lines t = go (touch-of operation r is.entries ok) where
    go : Touch operation r → lines ≡ lines_replaced operation r
    go (None_ e) =
        let zeros = none-touched operation r is ok t.run e in
        t.nothing e ∙ sym (no-lines operation r t.run zeros.0)
    go (Each_ e) =
        let flags = ap (λ (x : Touched). touched_before x r) e in
        let all : t.run.before ≡ length (display_lines r.text r.inlays r.folds) =
        sym (count_true t.run.front t.run.before t.run.back)
        ∙ ap (count_by (λ t. t)) (sym t.run.before_are ∙ flags)
        ∙ each-count (display_lines r.text r.inlays r.folds) in
        t.lines_are ∙ sym (some-lines operation r t.run (omega (arith, all, is.marked, some-line)))
    go (Some_ w) =
        let one = rows_are_one_run r is.entries w.a w.b w.order w.within in
        let first = line_of_row_start r w.a in
        let last = line_of_row_end r w.b in
        let count : t.run.before ≡ last + 1 - first =
        sym (count_true t.run.front t.run.before t.run.back)
        ∙ ap (count_by (λ t. t)) (sym t.run.before_are ∙ ap (λ (x : Touched). touched_before x r) w.is ∙ one.2)
        ∙ count_true first (last + 1 - first) (length (lines_of r) - (last + 1)) in
        t.lines_are ∙ sym (some-lines operation r t.run (omega (arith, count, one.0)))

  pub lines-touched : AreTouched operation r (lines_replaced operation r)
  lines-touched = go (touch-of operation r is.entries ok) where
    go : Touch operation r → AreTouched operation r (lines_replaced operation r)
    go (None_ e) =
        let t = touched-none operation r is ok e in
        subst (AreTouched operation r) (lines-are no_change t) t
    go (Each_ e) =
        let t = touched-each operation r is ok e in
        subst (AreTouched operation r) (lines-are _ t) t
    go (Some_ w) =
        let t = touched-between operation r is ok w.a w.b _ w.is w.order w.within in
        subst (AreTouched operation r) (lines-are _ t) t
