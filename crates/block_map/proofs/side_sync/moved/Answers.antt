use Rattle.std.proofs.Common.{◌≡◌, ◌^◌, ◌+◌, ◌*◌, ◌<◌, ◌≤◌, ℕ, Option, count_by, sym, ap, subst}
use Rattle.std.specs.List.{All}
use Rattle.cell_units.specs.declared.place.Shift.{Shift}
use Rattle.mark_tree.specs.Marks.{is_met}
use Rattle.block_map.specs.inside.SideMoves.{marks_after, met_count}
use Rattle.block_map.proofs.MarksAfter.{moved-offsets}
use Rattle.block_map.proofs.side_sync.moved.Goals as goal

pub apply-requires : goal.apply-requires
apply-requires c = record {
  fits = moved-offsets c.in-Some.shift c.args.marks (subst (λ (s : Option Shift). All (λ m. m.offset < 2 ^ 32) (marks_after s c.args.marks)) c.in-Some.is c.requires);
}

pub returns-in_err-apply-in-Some-clause-steps : goal.returns-in_err-apply-in-Some-clause-steps
returns-in_err-apply-in-Some-clause-steps c h few =
    let met : count_by (is_met c.in-Some.shift) c.args.marks ≡ met_count c.args.shift c.args.marks = ap (λ (o : Option Shift). met_count o c.args.marks) (sym c.in-Some.is) in
    subst (λ (n : ℕ). c.apply.new.steps ≤ c.args.steps.now + 170 * (h + 1) * (n + 1)) met (c.apply.ensures.steps h few)

pub returns-in_ok-apply-in-Some-clause-steps : goal.returns-in_ok-apply-in-Some-clause-steps
returns-in_ok-apply-in-Some-clause-steps c h few =
    let met : count_by (is_met c.in-Some.shift) c.args.marks ≡ met_count c.args.shift c.args.marks = ap (λ (o : Option Shift). met_count o c.args.marks) (sym c.in-Some.is) in
    subst (λ (n : ℕ). c.apply.new.steps ≤ c.args.steps.now + 170 * (h + 1) * (n + 1)) met (c.apply.ensures.steps h few)
