use Rattle.std.proofs.Common.{◌≡◌, ◌∙◌, ℕ, ◌+◌, ◌-◌, List, map, take, drop, Option, sym, subst, arith}
use Rattle.cell_line.specs.declared.element.Element.{Element}
use Rattle.cell_line.specs.Wrapping.{cuts_of}
use Rattle.kept_sheet.specs.Kept.{AreLinesAt, IsRising, lines_in, standing}
use Rattle.wrapped_lines.specs.WrappedSource.{lines_of}
use Rattle.test_stages.specs.Places.{places_from}
use Rattle.test_stages.proofs.Places.{run-lines, run-rises}
use Rattle.test_stages.proofs.out_run.OutRun.taken.Goals as goal

pub invariant_of-result : goal.invariant_of-result
invariant_of-result g c =
    let run = c.in-Some.run' in
    let count : run.count ≡ run.first + run.count - run.first = omega arith in
    let same : c.lines-2.result.now ≡ c.in_ok-taken.taken = c.lines-2.ensures ∙ sym (c.in_ok-taken.ensures ∙ c.lines.ensures) in (
      c.in_ok-wraps.ensures ∙ (λ i. map (λ (es : List Element). cuts_of es c.width-width.result) (take (count i) (drop run.first (same i)))),
      subst (λ (ps : List (Option ℕ)). IsRising 0 (standing ps)) (sym c.in_ok-places.ensures) (run-rises 0 run.first run.count (omega arith)),
    )

pub returns-clause-out : goal.returns-clause-out
returns-clause-out g c =
    let run = c.in-Some.run' in
    let now = lines_of c.args.lines.now in
    let taken : c.in_ok-taken.taken ≡ now = c.in_ok-taken.ensures ∙ c.lines.ensures in
    subst (λ (ps : List (Option ℕ)). AreLinesAt now ps (lines_in c.in_ok-taken.taken run)) (sym c.in_ok-places.ensures)
    (subst (λ (ls : List (List Element)). AreLinesAt now (places_from run.first run.count) (lines_in ls run)) (sym taken) (run-lines now run.first run.count c.in-Some.ensures.within))
