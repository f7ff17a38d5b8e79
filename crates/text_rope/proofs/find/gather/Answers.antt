use Rattle.std.proofs.Common.{◌≡◌, ◌+◌, ◌-◌, ◌*◌, ◌/◌, ◌≤◌, ◌++◌, ◌∙◌, [], List, ℕ, get_or, length, length-append, drop, ap, sym, arith, string_bytes}
use Rattle.std.specs.List.{concat}
use Rattle.std.proofs.lemmas.Option.{get_or_from_slice_get, slice_get_within}
use Rattle.text_rope.specs.Ropes.{HasHeight}
use Rattle.text_rope.proofs.Bounds.{one_turn, turns_few, turns_within}
use Rattle.text_rope.proofs.Fullness.{full_height}
use Rattle.text_rope.proofs.Limits.{rope_chunks, rope_few}
use Rattle.text_rope.proofs.Parts.{all_gathered, one_gathered}
use Rattle.text_rope.proofs.Places.{next_chunk}
use Rattle.text_rope.proofs.find.gather.Goals as goal
use Rattle.text_rope.proofs.find.gather.Goals.{After-get}

pub overflow_add-at : goal.overflow_add-at
overflow_add-at c = omega (arith, c.requires.within, rope_chunks c.args.chunks.now c.requires.rope)

-- before the loop the text is the chunk that was found
pub loop-steps-init : goal.loop-steps-init
loop-steps-init c =
    let chunks = c.args.chunks.now in
    let first = c.args.found.before.chunks in
    let text : string_bytes c.in_ok-text.text ≡ c.args.found.text.now = c.in_ok-text.ensures.ok in
    record {
      gathered = ap (λ (t : List ℕ). t ++ concat (drop (first + 1) chunks)) (text ∙ c.requires.here) ∙ next_chunk chunks first;
      order = omega arith;
      few = omega (arith, ap (λ (t : List ℕ). length t) text);
      turns = omega arith;
      counted = omega arith;
      steps = λ h high. omega arith;
    }

pub overflow_add-at-in-loop-steps : goal.overflow_add-at-in-loop-steps
overflow_add-at-in-loop-steps c =
    let chunks = c.args.chunks.now in
    let within = slice_get_within chunks c.loop-steps.at c.in-Some.chunk.now (sym c.in-Some.ensures.item) in
    omega (arith, within, rope_few chunks c.requires.rope)

pub returns-in-None-clause-enough : goal.returns-in-None-clause-enough
returns-in-None-clause-enough c = all_gathered c.args.chunks.now c.loop-steps.at c.args.count (string_bytes c.loop-steps.text) _ (sym c.in-None.ensures.item) c.loop-steps.invariant.gathered c.requires.some

-- the steps with one turn more
steps_now : (c : After-get) → (h : ℕ) → HasHeight h (concat c.args.chunks.now) → c.get.new.steps ≤ c.args.steps.now + (c.loop-steps.at + 1 - (c.args.found.before.chunks + 1)) * (h + 1)
steps_now c h high =
    one_turn c.loop-steps.at (c.args.found.before.chunks + 1) (h + 1) c.args.steps.now c.loop-steps.steps c.get.new.steps c.loop-steps.invariant.order (c.loop-steps.invariant.steps h high)
    (c.get.ensures.steps h (full_height c.args.chunks.now h c.requires.rope.full high))

turns_now : (c : After-get) → c.loop-steps.at + 1 - (c.args.found.before.chunks + 1) ≤ (c.args.count - length c.args.found.text.now) / 60 + 1
turns_now c = omega (arith, c.loop-steps.invariant.few, c.loop-steps-test.true, c.len.ensures)

steps_most : (c : After-get) → (h : ℕ) → HasHeight h (concat c.args.chunks.now) → c.get.new.steps ≤ c.args.steps.now + ((c.args.count - length c.args.found.text.now) / 60 + 1) * (h + 1)
steps_most c h high =
    turns_within (c.loop-steps.at + 1 - (c.args.found.before.chunks + 1)) ((c.args.count - length c.args.found.text.now) / 60 + 1) (h + 1) c.args.steps.now c.get.new.steps (turns_now c) (steps_now c h high)

pub returns-in-None-clause-steps : goal.returns-in-None-clause-steps
returns-in-None-clause-steps c = steps_most (goal.at.returns-in-None-clause-steps c).After-get

pub returns-clause-steps : goal.returns-clause-steps
returns-clause-steps c =
    let next = c.args.found.before.chunks + 1 in
    let more = c.args.count - length c.args.found.text.now in
    λ h high. turns_within (c.loop-steps.at - next) (more / 60 + 1) (h + 1) c.args.steps.now c.loop-steps.steps c.loop-steps.invariant.turns (c.loop-steps.invariant.steps h high)

pub returns-in_err-push_str-in-Some-clause-steps : goal.returns-in_err-push_str-in-Some-clause-steps
returns-in_err-push_str-in-Some-clause-steps c = steps_most (goal.at.returns-in_err-push_str-in-Some-clause-steps c).After-get

pub loop-steps-preserved : goal.loop-steps-preserved
loop-steps-preserved c =
    let chunks = c.args.chunks.now in
    let at = c.loop-steps.at in
    let next = c.args.found.before.chunks + 1 in
    let text = string_bytes c.loop-steps.text in
    let chunk = c.in-Some.chunk.now in
    let item = sym c.in-Some.ensures.item in
    let all : string_bytes c.push_str.new.self ≡ text ++ chunk = c.in_ok-push_str-in-Some.ensures.bytes ∙ ap (λ (t : List ℕ). text ++ t) c.as_str.ensures in
    let long : length chunk ≡ length (get_or chunks at []) = ap (λ (t : List ℕ). length t) (sym (get_or_from_slice_get chunks at chunk [] item)) in
    let few = turns_few chunks at next (length c.args.found.text.now) (length text) (length chunk) c.requires.rope.full (slice_get_within chunks at chunk item) (omega arith) c.loop-steps.invariant.order c.loop-steps.invariant.few long in
    let here = (goal.at.loop-steps-preserved c).After-get in
    record {
      gathered = one_gathered chunks at chunk text (string_bytes c.push_str.new.self) _ item all c.loop-steps.invariant.gathered;
      order = omega (arith, c.loop-steps.invariant.order);
      few = omega (arith, few, ap (λ (t : List ℕ). length t) all, length-append text chunk);
      turns = turns_now here;
      counted = omega arith;
      steps = steps_now here;
    }
