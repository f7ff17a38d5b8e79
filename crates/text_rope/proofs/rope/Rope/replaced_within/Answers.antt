use Rattle.std.proofs.Common.{◌≡◌, ◌+◌, ◌*◌, ◌/◌, ◌^◌, ◌<◌, ◌≤◌, List, ℕ, length, ap, sym, subst, ◌∙◌, arith}
use Rattle.cell_units.specs.Text.{clean}
use Rattle.cell_units.proofs.TextLaws.{clean-no_return}
use Rattle.cell_units.specs.Operation.{replaced_text}
use Rattle.sum_tree.specs.Bounds as trees
use Rattle.text_rope.specs.Ropes.{HasHeight, IsRope}
use Rattle.text_rope.proofs.Limits.{rope_few, rope_fits}
use Rattle.text_rope.proofs.Renewals.{renewed_rope}
use Rattle.text_rope.proofs.Replaced.{replaced_by, replaced_steps, with_made}
use Rattle.text_rope.proofs.rope.Rope.replaced_within.Goals as goal
use Rattle.text_rope.proofs.rope.Rope.replaced_within.Goals.{In_ok-chunks}

-- the chunks with those made anew in the place of others
abbrev with_new : In_ok-chunks → List (List ℕ) → List (List ℕ)
with_new c chunks = with_made chunks c.in_ok-new.new.from c.in_ok-new.new.to c.in_ok-new.new.chunks.items

made : (c : In_ok-chunks) → IsRope (with_new c c.self.inside.chunks)
made c =
    renewed_rope c.self.inside.chunks c.args.start c.args.end (clean c.args.text.now) c.in_ok-new.new.from c.in_ok-new.new.to c.in_ok-new.new.chunks.items c.self.invariant c.in_ok-new.ensures.renewed
    (clean-no_return c.args.text.now) (omega (arith, c.in_ok-new.ensures.small, c.requires))

-- the shared chunks are the same
shared : (c : In_ok-chunks) → with_new c c.in_ok-chunks.chunks ≡ with_new c c.self.inside.chunks
shared c = ap (with_new c) c.in_ok-chunks.ensures

pub replace-requires-clause-within : goal.replace-requires-clause-within
replace-requires-clause-within c = subst (λ (l : List (List ℕ)). c.in_ok-new.new.to ≤ length l) (sym c.in_ok-chunks.ensures) c.in_ok-new.ensures.renewed.within

pub replace-requires-clause-fits : goal.replace-requires-clause-fits
replace-requires-clause-fits c =
    let here = (goal.at.replace-requires-clause-fits c).In_ok-chunks in
    rope_fits (with_new here c.in_ok-chunks.chunks) (subst IsRope (sym (shared here)) (made here))

pub replace-requires-clause-small : goal.replace-requires-clause-small
replace-requires-clause-small c =
    let here = (goal.at.replace-requires-clause-small c).In_ok-chunks in
    rope_few (with_new here c.in_ok-chunks.chunks) (subst IsRope (sym (shared here)) (made here))

pub invariant_of-result : goal.invariant_of-result
invariant_of-result c =
    let here = (goal.at.invariant_of-result c).In_ok-chunks in
    subst IsRope (sym (c.in_ok-replace.ensures.ok ∙ shared here)) (made here)

pub returns-clause-cases : goal.returns-clause-cases
returns-clause-cases c =
    let new = c.in_ok-new.new in
    let here = (goal.at.returns-clause-cases c).In_ok-chunks in
    replaced_by c.args.limit c.self.inside.chunks c.args.self.now c.args.start c.args.end (clean c.args.text.now) new.from new.to new.chunks.items c.replace.new.self c.in_ok-new.patch c.self.view_is c.in_ok-new.ensures.range
    c.in_ok-new.ensures.small c.in_ok-new.ensures.renewed c.in_ok-new.ensures.patch (c.in_ok-replace.ensures.ok ∙ shared here)

-- what the tree ticks, of these chunks
abbrev ticks : In_ok-chunks → ℕ → List (List ℕ) → Type 0
ticks c s2 chunks = (h : ℕ) → length chunks < 2 * 6 ^ (h + 1) → length (with_new c chunks) < 2 * 6 ^ (h + 1) → s2 ≤ c.renewed.new.steps + trees.replacing (length c.in_ok-new.new.chunks.items) h

steps_by : (c : In_ok-chunks) (s2 : ℕ) → ticks c s2 c.in_ok-chunks.chunks → (h : ℕ) → HasHeight h c.args.self.now → HasHeight h (replaced_text c.args.self.now c.args.start c.args.end (clean c.args.text.now)) → s2 ≤ c.args.steps.now + 166 * (length (clean c.args.text.now) / 64 + 1) * (h + 1)
steps_by c s2 last =
    let new = c.in_ok-new.new in
    replaced_steps c.self.inside.chunks c.args.self.now c.args.start c.args.end (clean c.args.text.now) new.from new.to new.chunks.items c.args.steps.now c.renewed.new.steps s2 c.self.view_is c.self.invariant
    (made c) c.in_ok-new.ensures.renewed c.in_ok-new.ensures.steps (subst (ticks c s2) c.in_ok-chunks.ensures last)

pub returns-in_err-replace-clause-steps : goal.returns-in_err-replace-clause-steps
returns-in_err-replace-clause-steps c = steps_by (goal.at.returns-in_err-replace-clause-steps c).In_ok-chunks c.replace.new.steps c.in_err-replace.ensures.steps

pub returns-clause-steps : goal.returns-clause-steps
returns-clause-steps c = steps_by (goal.at.returns-clause-steps c).In_ok-chunks c.replace.new.steps c.in_ok-replace.ensures.steps
