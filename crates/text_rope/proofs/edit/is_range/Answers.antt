use Rattle.std.proofs.Common.{◌↔◌, IsTrue, ap, sym, ◌∙◌, arith}
use Rattle.std.specs.List.{concat}
use Rattle.std.proofs.lemmas.Bool.{false≢true}
use Rattle.cell_units.specs.Text.{IsBoundary}
use Rattle.text_rope.specs.declared.chunk.TextSize.{TextSize}
use Rattle.text_rope.proofs.Chunks.{total_bytes}
use Rattle.text_rope.proofs.Places.{tested_here}
use Rattle.text_rope.proofs.Renewals.{begins_there}
use Rattle.text_rope.proofs.edit.is_range.Goals as goal
use Rattle.text_rope.proofs.edit.is_range.Goals.{After-is_char_boundary}

-- whether the range's end is a boundary
last : (c : After-is_char_boundary) → IsTrue c.is_char_boundary.result ↔ IsBoundary (concat c.args.chunks.now) c.args.end
last c = tested_here c.args.chunks.now c.args.end c.found_at-found.result.before c.found_at-found.result.text.now c.is_char_boundary.result c.requires.cut c.found_at-found.ensures.found c.found_at-found.ensures.here c.is_char_boundary.ensures.test

pub returns-then-end-start-clause-test : goal.returns-then-end-start-clause-test
returns-then-end-start-clause-test c = (λ t. absurd (false≢true t), λ b. absurd (omega (arith, b.0)))

pub returns-then-end-sum-clause-test : goal.returns-then-end-sum-clause-test
returns-then-end-sum-clause-test c =
    let bytes = ap (λ (s : TextSize). s.bytes) c.sum.ensures ∙ total_bytes c.args.chunks.now in
    (λ t. absurd (false≢true t), λ b. absurd (omega (arith, bytes, b.2.0)))

pub found_at-found-requires-clause-within : goal.found_at-found-requires-clause-within
found_at-found-requires-clause-within c = omega (arith, ap (λ (s : TextSize). s.bytes) c.sum.ensures ∙ total_bytes c.args.chunks.now)

pub returns-then-not-is_char_boundary-clause-test : goal.returns-then-not-is_char_boundary-clause-test
returns-then-not-is_char_boundary-clause-test c =
    let test = last (goal.at.returns-then-not-is_char_boundary-clause-test c).After-is_char_boundary in
    (λ t. absurd (false≢true t), λ b. absurd (false≢true (sym c.if-not-is_char_boundary.true ∙ test.1 b.2)))

pub returns-then-start-found-clause-test : goal.returns-then-start-found-clause-test
returns-then-start-found-clause-test c =
    let test = last (goal.at.returns-then-start-found-clause-test c).After-is_char_boundary in
    (λ t. (omega arith, c.is_boundary.ensures.test.0 t, test.0 c.if-not-is_char_boundary.false), λ b. c.is_boundary.ensures.test.1 b.1)

pub returns-clause-test : goal.returns-clause-test
returns-clause-test c =
    let chunks = c.args.chunks.now in
    let r = c.found_at-found.result.before in
    let test = last (goal.at.returns-clause-test c).After-is_char_boundary in
    let there = begins_there chunks c.args.start c.args.end r c.found_at-found.ensures.found c.if-start-found.false (omega arith) in
    let first = tested_here chunks c.args.start r c.found_at-found.result.text.now c.is_char_boundary-2.result c.requires.cut there c.found_at-found.ensures.here c.is_char_boundary-2.ensures.test in
    (λ t. (omega arith, first.0 t, test.0 c.if-not-is_char_boundary.false), λ b. first.1 b.1)
