use Rattle.std.proofs.Common.{◌≡◌, ◌≤◌, ◌∙◌, ℕ, List, Option, Some, None, ap, sym, subst, length, arith}
use Rattle.std.specs.List.{slice_get}
use Rattle.cell_units.specs.declared.place.Shift.{Shift}
use Rattle.mark_tree.specs.Marks.{mark_with}
use Rattle.block_map.specs.inside.SideMoves.{MayFollow, marks_after}
use Rattle.block_map.specs.inside.Sides.{BlockMark}
use Rattle.block_map.proofs.BlocksGot.{after-at, fits-at}
use Rattle.block_map.proofs.MarksAfter.{length-after}
use Rattle.block_map.proofs.block_marks.BlockMarks.get.Goals as goal

pub returns-in_err-offset-clause-mark : goal.returns-in_err-offset-clause-mark
returns-in_err-offset-clause-mark c =
    let i = c.self.inside in
    let past : length c.args.self.now ≤ c.args.at = omega (arith, c.in_err-offset.ensures.mark, length-after i.pending i.marks, ap length c.self.view_is) in
    rw c.from_residual.ensures past

pub returns-in_err-offset-clause-steps : goal.returns-in_err-offset-clause-steps
returns-in_err-offset-clause-steps c h few =
    let i = c.self.inside in
    c.get.ensures.steps h (omega (arith, few, length-after i.pending i.marks, ap length c.self.view_is))

pub moved_offset-requires : goal.moved_offset-requires
moved_offset-requires c =
    let i = c.self.inside in
    let m = c.in_ok-offset in
    let follow = subst (λ (o : Option Shift). MayFollow o i.marks) c.in-Some.is c.self.invariant in
    record { fits = fits-at c.in-Some.shift i.marks c.args.at (mark_with m.offset m.bias m.id m.lines.now) follow m.ensures.mark }

pub returns-in-None-clause-mark : goal.returns-in-None-clause-mark
returns-in-None-clause-mark c =
    let i = c.self.inside in
    ap (λ (l : List BlockMark). slice_get l c.args.at) (sym c.self.view_is)
    ∙ ap (λ (o : Option Shift). slice_get (marks_after o i.marks) c.args.at) c.in-None.is
    ∙ c.in_ok-offset.ensures.mark

pub returns-in-Some-clause-mark : goal.returns-in-Some-clause-mark
returns-in-Some-clause-mark c =
    let i = c.self.inside in
    let m = c.in_ok-offset in
    let follow = subst (λ (o : Option Shift). MayFollow o i.marks) c.in-Some.is c.self.invariant in
    ap (λ (l : List BlockMark). slice_get l c.args.at) (sym c.self.view_is)
    ∙ ap (λ (o : Option Shift). slice_get (marks_after o i.marks) c.args.at) c.in-Some.is
    ∙ after-at c.in-Some.shift i.marks c.args.at (mark_with m.offset m.bias m.id m.lines.now) c.len-count.ensures.lawful follow m.ensures.mark
    ∙ ap (λ (n : ℕ). Some (mark_with n m.bias m.id m.lines.now)) (sym c.moved_offset.ensures)

pub returns-in-None-clause-steps : goal.returns-in-None-clause-steps
returns-in-None-clause-steps c h few =
    let i = c.self.inside in
    c.get.ensures.steps h (omega (arith, few, length-after i.pending i.marks, ap length c.self.view_is))

pub returns-in-Some-clause-steps : goal.returns-in-Some-clause-steps
returns-in-Some-clause-steps c h few =
    let i = c.self.inside in
    c.get.ensures.steps h (omega (arith, few, length-after i.pending i.marks, ap length c.self.view_is))
