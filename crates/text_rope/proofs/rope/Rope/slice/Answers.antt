use Rattle.std.proofs.Common.{◌≡◌, ◌+◌, ◌-◌, ◌*◌, ◌/◌, ◌≤◌, ◌∙◌, ◌++◌, List, ℕ, length, length-append, take, drop, ap, sym, subst, arith, string_bytes}
use Rattle.std.specs.List.{concat}
use Rattle.std.specs.Str.{IsCharBoundary, IsUtf8}
use Rattle.std.proofs.lemmas.Result.{IfOk-weaker}
use Rattle.text_rope.proofs.Parts.{IsPartAt, between_in, boundary_in, bytes_before, chunks_utf8, in_two, part_at}
use Rattle.text_rope.specs.Ropes.{HasHeight}
use Rattle.text_rope.proofs.Bounds.{slice_steps}
use Rattle.text_rope.proofs.Places.{next_chunk, within_chunk}
use Rattle.text_rope.proofs.rope.Rope.slice.Goals as goal
use Rattle.text_rope.proofs.rope.Rope.slice.Goals.{After-found_at-found, After-gather}

-- ---- where it lies in one chunk

-- the chunk is in the text
chunk_part : (c : After-found_at-found) → IsPartAt c.args.self.now c.found_at-found.result.before.bytes c.found_at-found.result.text.now
chunk_part c =
    let chunks = c.self.inside.chunks in
    let r = c.found_at-found.result.before in
    part_at chunks r c.found_at-found.result.text.now (concat (drop (r.chunks + 1) chunks)) c.args.self.now c.self.view_is c.found_at-found.ensures.found.size
    (ap (λ (t : List ℕ). t ++ concat (drop (r.chunks + 1) chunks)) c.found_at-found.ensures.here ∙ next_chunk chunks r.chunks)

utf8_text : (c : After-found_at-found) → IsUtf8 c.args.self.now
utf8_text c = subst IsUtf8 c.self.view_is (chunks_utf8 c.self.inside.chunks c.self.invariant.cut)

pub range-requires-clause-start_boundary : goal.range-requires-clause-start_boundary
range-requires-clause-start_boundary c =
    let here = (goal.at.range-requires-clause-start_boundary c).After-found_at-found in
    let r = c.found_at-found.result.before in
    λ some. boundary_in c.args.self.now c.found_at-found.result.text.now r.bytes c.args.start (utf8_text here) (chunk_part here) c.found_at-found.ensures.found.start (omega (arith, c.requires.order)) c.requires.start

pub range-requires-clause-end_boundary : goal.range-requires-clause-end_boundary
range-requires-clause-end_boundary c =
    let here = (goal.at.range-requires-clause-end_boundary c).After-found_at-found in
    let r = c.found_at-found.result.before in
    boundary_in c.args.self.now c.found_at-found.result.text.now r.bytes c.args.end (utf8_text here) (chunk_part here) (omega (arith, c.found_at-found.ensures.found.start, c.requires.order)) (omega arith) c.requires.end

pub returns-then-to-found-clause-text : goal.returns-then-to-found-clause-text
returns-then-to-found-clause-text c =
    let here = (goal.at.returns-then-to-found-clause-text c).After-found_at-found in
    let r = c.found_at-found.result.before in
    let between : c.range.result.now ≡ take (c.args.end - c.args.start) (drop c.args.start c.args.self.now) =
    c.range.ensures.value ∙ between_in c.args.self.now c.found_at-found.result.text.now r.bytes c.args.start c.args.end (chunk_part here) c.found_at-found.ensures.found.start c.requires.order (omega arith) in
    IfOk-weaker c.from_str.result _ _ (λ t e. e ∙ between) c.from_str.ensures

-- ---- where it lies in more

pub gather-requires-clause-some : goal.gather-requires-clause-some
gather-requires-clause-some c =
    let chunks = c.self.inside.chunks in
    let r = c.found_at-found.result.before in
    omega (arith, ap length (in_two chunks r.chunks), length-append (concat (take r.chunks chunks)) (concat (drop r.chunks chunks)), bytes_before chunks r c.found_at-found.ensures.found.size, c.requires.end.0, ap length c.self.view_is)

pub range-requires-2-clause-start_boundary : goal.range-requires-2-clause-start_boundary
range-requires-2-clause-start_boundary c =
    let text = c.args.self.now in
    let chunks = c.self.inside.chunks in
    let r = c.found_at-found.result.before in
    let m = string_bytes c.in_ok-text.text in
    let part : IsPartAt text r.bytes m = part_at chunks r m c.in_ok-text.ensures.front.0 text c.self.view_is c.found_at-found.ensures.found.size c.in_ok-text.ensures.front.1 in
    let utf8 : IsUtf8 text = subst IsUtf8 c.self.view_is (chunks_utf8 chunks c.self.invariant.cut) in
    let within = c.in_ok-text.ensures.enough in
    λ some. subst (λ (t : List ℕ). IsCharBoundary t (c.args.start - r.bytes)) (sym c.as_str.ensures.value) (boundary_in text m r.bytes c.args.start utf8 part c.found_at-found.ensures.found.start (omega (arith, within, c.requires.order)) c.requires.start)

pub range-requires-2-clause-end_boundary : goal.range-requires-2-clause-end_boundary
range-requires-2-clause-end_boundary c =
    let text = c.args.self.now in
    let chunks = c.self.inside.chunks in
    let r = c.found_at-found.result.before in
    let m = string_bytes c.in_ok-text.text in
    let part : IsPartAt text r.bytes m = part_at chunks r m c.in_ok-text.ensures.front.0 text c.self.view_is c.found_at-found.ensures.found.size c.in_ok-text.ensures.front.1 in
    let utf8 : IsUtf8 text = subst IsUtf8 c.self.view_is (chunks_utf8 chunks c.self.invariant.cut) in
    subst (λ (t : List ℕ). IsCharBoundary t (c.args.end - r.bytes)) (sym c.as_str.ensures.value) (boundary_in text m r.bytes c.args.end utf8 part (omega (arith, c.found_at-found.ensures.found.start, c.requires.order)) c.in_ok-text.ensures.enough c.requires.end)

pub returns-clause-text : goal.returns-clause-text
returns-clause-text c =
    let text = c.args.self.now in
    let chunks = c.self.inside.chunks in
    let r = c.found_at-found.result.before in
    let m = string_bytes c.in_ok-text.text in
    let from = c.args.start - r.bytes in
    let to = c.args.end - r.bytes in
    let part : IsPartAt text r.bytes m = part_at chunks r m c.in_ok-text.ensures.front.0 text c.self.view_is c.found_at-found.ensures.found.size c.in_ok-text.ensures.front.1 in
    let between : c.range-2.result.now ≡ take (c.args.end - c.args.start) (drop c.args.start text) =
    c.range-2.ensures.value ∙ ap (λ (t : List ℕ). take (to - from) (drop from t)) c.as_str.ensures.value
    ∙ between_in text m r.bytes c.args.start c.args.end part c.found_at-found.ensures.found.start c.requires.order c.in_ok-text.ensures.enough in
    IfOk-weaker c.from_str-2.result _ _ (λ t e. e ∙ between) c.from_str-2.ensures

-- what is gathered after the first chunk is no more than what is asked for
steps : (c : After-gather) → (h : ℕ) → HasHeight h c.args.self.now → c.gather.new.steps ≤ c.args.steps.now + 3 * ((c.args.end - c.args.start) / 64 + 1) * (h + 1)
steps c h high =
    let chunks = c.self.inside.chunks in
    let r = c.found_at-found.result.before in
    let high' : HasHeight h (concat chunks) = subst (HasHeight h) (sym c.self.view_is) high in
    let first = length c.found_at-found.result.text.now in
    let far : c.args.start - r.bytes ≤ first = omega (arith, within_chunk chunks c.args.start r c.found_at-found.ensures.found, ap (λ (t : List ℕ). length t) c.found_at-found.ensures.here) in
    let few : c.args.end - r.bytes - first ≤ c.args.end - c.args.start = omega (arith, far, c.requires.order) in
    slice_steps (c.args.end - c.args.start) (c.args.end - r.bytes - first) h c.args.steps.now c.found_at-found.new.steps c.gather.new.steps few (c.found_at-found.ensures.steps h high') (c.gather.ensures.steps h high')

pub returns-in_err-text-clause-steps : goal.returns-in_err-text-clause-steps
returns-in_err-text-clause-steps c = steps (goal.at.returns-in_err-text-clause-steps c).After-gather

pub returns-clause-steps : goal.returns-clause-steps
returns-clause-steps c = steps (goal.at.returns-clause-steps c).After-gather
