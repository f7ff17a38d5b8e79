use Rattle.std.proofs.Common.{◌≡◌, ◌≤◌, ◌∙◌, List, ℕ, Some, ap, sym, length, arith}
use Rattle.std.specs.List.{slice_get}
use Rattle.cell_units.specs.Layers.{Source}
use Rattle.mark_tree.specs.Marks.{mark_with}
use Rattle.inlay_map.specs.Splices.{inlay_with}
use Rattle.inlay_map.proofs.FoundInlays.{get-inlay}
use Rattle.inlay_map.proofs.StepSums.{marks-count}
use Rattle.inlay_map.proofs.inlaid.Inlaid.get.Goals as goal

pub returns-in_err-offset-clause-inlay : goal.returns-in_err-offset-clause-inlay
returns-in_err-offset-clause-inlay c =
    let past : length c.args.self.now.inlays ≤ c.args.at = omega (arith, c.in_err-offset.ensures.mark, marks-count c.self.inside.rope c.self.inside.marks c.args.self.now c.self.view_is) in
    rw c.from_residual.ensures past

pub returns-in_err-offset-clause-steps : goal.returns-in_err-offset-clause-steps
returns-in_err-offset-clause-steps c h few =
    c.get.ensures.steps h (omega (arith, few, marks-count c.self.inside.rope c.self.inside.marks c.args.self.now c.self.view_is))

pub returns-clause-inlay : goal.returns-clause-inlay
returns-clause-inlay c =
    let m = c.in_ok-offset in
    ap (λ (s : Source). slice_get s.inlays c.args.at) (sym c.self.view_is)
    ∙ get-inlay c.self.inside.marks c.args.at (mark_with m.offset m.bias m.id m.text.now) m.ensures.mark
    ∙ ap (λ (t : List ℕ). Some (inlay_with m.offset m.bias m.id t)) (sym c.given.ensures)

pub returns-clause-steps : goal.returns-clause-steps
returns-clause-steps c h few =
    c.get.ensures.steps h (omega (arith, few, marks-count c.self.inside.rope c.self.inside.marks c.args.self.now c.self.view_is))
