use Rattle.std.proofs.Common.{◌≤◌, List, ℕ, length, sym, subst, arith}
use Rattle.cell_units.specs.Text.{clean}
use Rattle.cell_units.specs.declared.limits.TheConstants.{TEXT_LIMIT}
use Rattle.cell_units.proofs.TextLaws.{clean-no_return}
use Rattle.text_rope.specs.Ropes.{IsRope}
use Rattle.text_rope.proofs.Limits.{rope_few, rope_fits}
use Rattle.text_rope.proofs.Renewals.{renewed_rope}
use Rattle.text_rope.proofs.Replaced.{replaced_by, replaced_steps, with_made}
use Rattle.text_rope.proofs.rope.Rope.replace.Goals as goal
use Rattle.text_rope.proofs.rope.Rope.replace.Goals.{In_ok-new}

-- the chunks with those made anew
abbrev new_chunks : In_ok-new → List (List ℕ)
new_chunks c = with_made c.self.inside.chunks c.in_ok-new.new.from c.in_ok-new.new.to c.in_ok-new.new.chunks.items

made : (c : In_ok-new) → IsRope (new_chunks c)
made c =
    renewed_rope c.self.inside.chunks c.args.start c.args.end (clean c.args.text.now) c.in_ok-new.new.from c.in_ok-new.new.to c.in_ok-new.new.chunks.items c.self.invariant c.in_ok-new.ensures.renewed
    (clean-no_return c.args.text.now) (omega (arith, c.in_ok-new.ensures.small))

pub replace-requires-clause-fits : goal.replace-requires-clause-fits
replace-requires-clause-fits c = let here = (goal.at.replace-requires-clause-fits c).In_ok-new in rope_fits (new_chunks here) (made here)

pub replace-requires-clause-small : goal.replace-requires-clause-small
replace-requires-clause-small c = let here = (goal.at.replace-requires-clause-small c).In_ok-new in rope_few (new_chunks here) (made here)

pub invariant_of-self-2 : goal.invariant_of-self-2
invariant_of-self-2 c = subst IsRope (sym c.in_ok-replace.ensures.ok) (made (goal.at.invariant_of-self-2 c).In_ok-new)

pub returns-clause-cases : goal.returns-clause-cases
returns-clause-cases c =
    let new = c.in_ok-new.new in
    replaced_by TEXT_LIMIT c.self.inside.chunks c.args.self.now c.args.start c.args.end (clean c.args.text.now) new.from new.to new.chunks.items c.replace.new.self c.in_ok-new.patch c.self.view_is c.in_ok-new.ensures.range
    c.in_ok-new.ensures.small c.in_ok-new.ensures.renewed c.in_ok-new.ensures.patch c.in_ok-replace.ensures.ok

pub returns-in_err-replace-clause-steps : goal.returns-in_err-replace-clause-steps
returns-in_err-replace-clause-steps c =
    let new = c.in_ok-new.new in
    replaced_steps c.self.inside.chunks c.args.self.now c.args.start c.args.end (clean c.args.text.now) new.from new.to new.chunks.items c.args.steps.now c.renewed.new.steps c.replace.new.steps c.self.view_is c.self.invariant
    (made (goal.at.returns-in_err-replace-clause-steps c).In_ok-new) c.in_ok-new.ensures.renewed c.in_ok-new.ensures.steps c.in_err-replace.ensures.steps

pub returns-clause-steps : goal.returns-clause-steps
returns-clause-steps c =
    let new = c.in_ok-new.new in
    replaced_steps c.self.inside.chunks c.args.self.now c.args.start c.args.end (clean c.args.text.now) new.from new.to new.chunks.items c.args.steps.now c.renewed.new.steps c.replace.new.steps c.self.view_is c.self.invariant
    (made (goal.at.returns-clause-steps c).In_ok-new) c.in_ok-new.ensures.renewed c.in_ok-new.ensures.steps c.in_ok-replace.ensures.steps
