use Rattle.std.proofs.Common.{arith, le_trans}
use Rattle.sum_tree.proofs.in_place.refill_in_two.Goals as goal

pub returns-in_err-write_over-clause-steps : goal.returns-in_err-write_over-clause-steps
returns-in_err-write_over-clause-steps g c = omega (arith, c.in_ok-held.ensures.steps)

pub returns-clause-counted : goal.returns-clause-counted
returns-clause-counted g c = le_trans c.in_ok-held.ensures.counted c.make_leaves.ensures.counted

pub returns-clause-steps : goal.returns-clause-steps
returns-clause-steps g c = omega (arith, c.in_ok-held.ensures.steps, c.make_leaves.ensures.steps)
