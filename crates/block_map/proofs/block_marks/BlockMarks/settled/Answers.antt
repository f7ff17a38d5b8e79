use Rattle.std.proofs.Common.{◌+◌, ◌*◌, ◌^◌, ◌<◌, ◌≤◌, ℕ, Option, Some, length, ap, subst, arith}
use Rattle.cell_units.specs.declared.place.Shift.{Shift}
use Rattle.block_map.specs.inside.SideMoves.{MayFollow}
use Rattle.block_map.proofs.MarksAfter.{length-after, moved-offsets, none-met}
use Rattle.block_map.proofs.block_marks.BlockMarks.settled.Goals as goal

pub apply-requires : goal.apply-requires
apply-requires c =
    let i = c.self.inside in
    let follow = subst (λ (o : Option Shift). MayFollow o i.marks) c.in-Some.is c.self.invariant in
    record { fits = moved-offsets c.in-Some.shift i.marks follow.fits }

pub returns-in_err-apply-in-Some-clause-steps : goal.returns-in_err-apply-in-Some-clause-steps
returns-in_err-apply-in-Some-clause-steps c h few =
    let i = c.self.inside in
    let follow = subst (λ (o : Option Shift). MayFollow o i.marks) c.in-Some.is c.self.invariant in
    let few-marks : length i.marks < 2 * 6 ^ (h + 1) = omega (arith, few, length-after i.pending i.marks, ap length c.self.view_is) in
    subst (λ (n : ℕ). c.apply.new.steps ≤ c.args.steps.now + 170 * (h + 1) * (n + 1)) (none-met (Some c.in-Some.shift) i.marks follow.unmet) (c.apply.ensures.steps h few-marks)

pub returns-in_ok-apply-in-Some-clause-steps : goal.returns-in_ok-apply-in-Some-clause-steps
returns-in_ok-apply-in-Some-clause-steps c h few =
    let i = c.self.inside in
    let follow = subst (λ (o : Option Shift). MayFollow o i.marks) c.in-Some.is c.self.invariant in
    let few-marks : length i.marks < 2 * 6 ^ (h + 1) = omega (arith, few, length-after i.pending i.marks, ap length c.self.view_is) in
    subst (λ (n : ℕ). c.apply.new.steps ≤ c.args.steps.now + 170 * (h + 1) * (n + 1)) (none-met (Some c.in-Some.shift) i.marks follow.unmet) (c.apply.ensures.steps h few-marks)
