use Rattle.std.proofs.Common.{◌≡◌, ◌+◌, ◌-◌, ◌*◌, ◌^◌, ◌<◌, ◌≤◌, ◌∙◌, ℕ, List, ap, sym, subst, length, take, drop, arith}
use Rattle.std.specs.List.{slice_get}
use Rattle.cell_units.specs.declared.limits.TheConstants.{LAID_LIMIT}
use Rattle.sum_core.specs.Sums.{total}
use Rattle.sum_core.specs.declared.load.NoLoad.{NoLoad}
use Rattle.splice_tree.specs.Sides.{none, both, BothFit}
use Rattle.splice_tree.specs.Splices.{Piece, piece_sum, replaced}
use Rattle.splice_tree.specs.Bounds.{splicing}
use Rattle.inlay_map.specs.declared.amount.Amount.{Amount}
use Rattle.inlay_map.specs.Amounts.{AmountFits, nothing, together}
use Rattle.inlay_map.specs.Splices.{splices_from}
use Rattle.inlay_map.proofs.Measured.{before-old}
use Rattle.inlay_map.proofs.Respliced.{gap-fits, whole-is}
use Rattle.inlay_map.proofs.SpliceLists.{length-splices}
use Rattle.inlay_map.proofs.Spread.{splices-fit, spread}
use Rattle.std.proofs.lemmas.List.{length-take}
use Rattle.inlay_map.specs.Bounds.{IsHeight}
use Rattle.inlay_map.proofs.StepSums.{respliced-steps}
use Rattle.inlay_map.proofs.inlaid.Inlaid.respliced.Goals as goal
use Rattle.inlay_map.proofs.inlaid.Inlaid.respliced.Goals.{After-replace, In_ok-fresh}

pub splices_in-requires-clause-before : goal.splices_in-requires-clause-before
splices_in-requires-clause-before c =
    let s = c.args.self.now in
    let run = c.args.run in
    before-old s c.args.old.now run.start c.find_at.result.index c.find_at.result.before (spread s.text s.inlays c.len-len.ensures.lawful.inlays) (omega (arith, c.requires.within, run.ordered))
    c.find_at.ensures.index c.find_at.ensures.before c.requires.front

pub replace-requires-clause-gap_fits : goal.replace-requires-clause-gap_fits
replace-requires-clause-gap_fits c p e =
    let s = c.args.self.now in
    let gap = c.gap_at-gap.result in
    let short : length s.text ≤ LAID_LIMIT = omega (arith, c.len-len.ensures.value, c.len-len.ensures.lawful.short) in
    gap-fits s.text short s.inlays c.args.old.now c.args.run.end (c.args.run.start + c.args.run.count) gap (spread s.text s.inlays c.len-len.ensures.lawful.inlays)
    (c.requires.rest gap ∙ c.gap_at-gap.ensures.gap) p (ap (λ (l : List (Piece Amount NoLoad)). slice_get l c.args.run.end) (sym c.in_ok-splices.ensures) ∙ e)

pub replace-requires-clause-fits : goal.replace-requires-clause-fits
replace-requires-clause-fits c =
    let s = c.args.self.now in
    let gap = c.gap_at-gap.result in
    let run = c.args.run in
    let new = splices_from s.text 0 s.inlays in
    let short : length s.text ≤ LAID_LIMIT = omega (arith, c.len-len.ensures.value, c.len-len.ensures.lawful.short) in
    let size : run.start + run.count - run.start ≡ run.count = omega arith in
    let fresh = c.in_ok-fresh.ensures.ok ∙ ap (λ n. take n (drop run.start new)) size in
    let whole =
    ap (λ (l : List (Piece Amount NoLoad)). replaced run.start run.end c.in_ok-fresh.fresh.splices.items gap l) c.in_ok-splices.ensures
    ∙ whole-is new c.args.old.now c.in_ok-fresh.fresh.splices.items run.start run.end run.count gap fresh c.requires.front (c.requires.rest gap) c.gap_at-gap.ensures.gap in
    subst (λ (l : List (Piece Amount NoLoad)). BothFit AmountFits (total (none nothing) (both together) (piece_sum together) l)) (sym whole) (splices-fit s.text s.inlays c.len-len.ensures.lawful.inlays short)

pub replace-requires-clause-small : goal.replace-requires-clause-small
replace-requires-clause-small c =
    let s = c.args.self.now in
    let gap = c.gap_at-gap.result in
    let run = c.args.run in
    let new = splices_from s.text 0 s.inlays in
    let size : run.start + run.count - run.start ≡ run.count = omega arith in
    let fresh = c.in_ok-fresh.ensures.ok ∙ ap (λ n. take n (drop run.start new)) size in
    let whole =
    ap (λ (l : List (Piece Amount NoLoad)). replaced run.start run.end c.in_ok-fresh.fresh.splices.items gap l) c.in_ok-splices.ensures
    ∙ whole-is new c.args.old.now c.in_ok-fresh.fresh.splices.items run.start run.end run.count gap fresh c.requires.front (c.requires.rest gap) c.gap_at-gap.ensures.gap in
    omega (arith, ap (λ (l : List (Piece Amount NoLoad)). length l) whole, length-splices s.text 0 s.inlays, c.len-len.ensures.lawful.inlays.few)

pub returns-clause-ok : goal.returns-clause-ok
returns-clause-ok c =
    let s = c.args.self.now in
    let gap = c.gap_at-gap.result in
    let run = c.args.run in
    let new = splices_from s.text 0 s.inlays in
    let size : run.start + run.count - run.start ≡ run.count = omega arith in
    let fresh = c.in_ok-fresh.ensures.ok ∙ ap (λ n. take n (drop run.start new)) size in
    c.in_ok-replace.ensures.ok
    ∙ ap (λ (l : List (Piece Amount NoLoad)). replaced run.start run.end c.in_ok-fresh.fresh.splices.items gap l) c.in_ok-splices.ensures
    ∙ whole-is new c.args.old.now c.in_ok-fresh.fresh.splices.items run.start run.end run.count gap fresh c.requires.front (c.requires.rest gap) c.gap_at-gap.ensures.gap

-- ---- steps

measured : (c : In_ok-fresh) (h : ℕ) → IsHeight h c.args.self.now.text (length c.args.self.now.inlays) → c.splices_in.new.steps ≤ c.find_at.new.steps + c.args.run.count * (2 * (h + 1))
measured c h high =
    let size : c.args.run.start + c.args.run.count - c.args.run.start ≡ c.args.run.count = omega arith in
    subst (λ (n : ℕ). c.splices_in.new.steps ≤ c.find_at.new.steps + n * (2 * (h + 1))) size (c.splices_in.ensures.steps h high)

pub returns-in_err-fresh-clause-steps : goal.returns-in_err-fresh-clause-steps
returns-in_err-fresh-clause-steps c h high low =
    let size : c.args.run.start + c.args.run.count - c.args.run.start ≡ c.args.run.count = omega arith in
    let first = subst (λ (n : ℕ). c.splices_in.new.steps ≤ c.find_at.new.steps + n * (2 * (h + 1))) size (c.splices_in.ensures.steps h high) in
    respliced-steps c.args.run.count h c.args.steps.now c.find_at.new.steps c.splices_in.new.steps c.splices_in.new.steps c.splices_in.new.steps (c.find_at.ensures.steps h low) first (omega arith) (omega arith)

pub returns-in_err-splices-clause-steps : goal.returns-in_err-splices-clause-steps
returns-in_err-splices-clause-steps c h high low =
    let first = measured (goal.at.returns-in_err-splices-clause-steps c).In_ok-fresh h high in
    respliced-steps c.args.run.count h c.args.steps.now c.find_at.new.steps c.splices_in.new.steps c.gap_at-gap.new.steps c.gap_at-gap.new.steps (c.find_at.ensures.steps h low) first (c.gap_at-gap.ensures.steps h high) (omega arith)

-- the new splices are as many as the inlays, and the fresh ones at most as many as the run has
replacing : (c : After-replace) (h : ℕ) → IsHeight h c.args.self.now.text (length c.args.self.now.inlays) → length c.args.old.now < 2 * 6 ^ (h + 1)
    → c.replace.new.steps ≤ c.gap_at-gap.new.steps + splicing c.args.run.count h
replacing c h high low =
    let s = c.args.self.now in
    let gap = c.gap_at-gap.result in
    let run = c.args.run in
    let new = splices_from s.text 0 s.inlays in
    let size : run.start + run.count - run.start ≡ run.count = omega arith in
    let fresh = c.in_ok-fresh.ensures.ok ∙ ap (λ n. take n (drop run.start new)) size in
    let whole =
    ap (λ (l : List (Piece Amount NoLoad)). replaced run.start run.end c.in_ok-fresh.fresh.splices.items gap l) c.in_ok-splices.ensures
    ∙ whole-is new c.args.old.now c.in_ok-fresh.fresh.splices.items run.start run.end run.count gap fresh c.requires.front (c.requires.rest gap) c.gap_at-gap.ensures.gap in
    let before : length c.in_ok-splices.splices < 2 * 6 ^ (h + 1) = subst (λ (l : List (Piece Amount NoLoad)). length l < 2 * 6 ^ (h + 1)) (sym c.in_ok-splices.ensures) low in
    let after : length (replaced run.start run.end c.in_ok-fresh.fresh.splices.items gap c.in_ok-splices.splices) < 2 * 6 ^ (h + 1) =
    subst (λ (n : ℕ). n < 2 * 6 ^ (h + 1)) (sym (ap (λ (l : List (Piece Amount NoLoad)). length l) whole ∙ length-splices s.text 0 s.inlays)) high.1 in
    omega (
      arith,
      c.replace.ensures.steps h before after,
      ap (λ (l : List (Piece Amount NoLoad)). length l) fresh,
      length-take run.count (drop run.start new),
    )

pub returns-in_err-replace-clause-steps : goal.returns-in_err-replace-clause-steps
returns-in_err-replace-clause-steps c h high low =
    let a = (goal.at.returns-in_err-replace-clause-steps c).After-replace in
    respliced-steps c.args.run.count h c.args.steps.now c.find_at.new.steps c.splices_in.new.steps c.gap_at-gap.new.steps c.replace.new.steps
    (c.find_at.ensures.steps h low) (measured (goal.at.returns-in_err-replace-clause-steps c).In_ok-fresh h high) (c.gap_at-gap.ensures.steps h high) (replacing a h high low)

pub returns-clause-steps : goal.returns-clause-steps
returns-clause-steps c h high low =
    let a = (goal.at.returns-clause-steps c).After-replace in
    respliced-steps c.args.run.count h c.args.steps.now c.find_at.new.steps c.splices_in.new.steps c.gap_at-gap.new.steps c.replace.new.steps
    (c.find_at.ensures.steps h low) (measured (goal.at.returns-clause-steps c).In_ok-fresh h high) (c.gap_at-gap.ensures.steps h high) (replacing a h high low)
