use Rattle.std.proofs.Common.{ℕ, ◌≤◌, List, length, min, rules, arith, sym, subst}
use Rattle.std.proofs.lemmas.List.Elements.{All-nil, All-push}
use Rattle.text_rope.specs.Chunks.{AreChunks, IsChunk, least}
use Rattle.text_rope.proofs.Chunks.{one_more}
use Rattle.text_rope.proofs.Fullness.{AreFilled}
use Rattle.text_rope.proofs.chunk.chunks_of.Goals as goal

pub loop-rest-init : goal.loop-rest-init
loop-rest-init c = record {
  utf8 = search rules;
  whole = search rules;
  chunks = search rules;
  filled = subst (λ (l : List (List ℕ)). AreFilled l (length c.args.text.now)) (sym c.new-chunks.ensures.items) (All-nil (λ (x : List ℕ). min least (length c.args.text.now) ≤ length x));
  rest = λ _. omega arith;
}

pub loop-rest-preserved : goal.loop-rest-preserved
loop-rest-preserved c =
    let text = c.args.text.now in
    let rest = c.loop-rest.rest.now in
    let head = c.cut.result.0.now in
    let enough : min least (length text) ≤ length head = omega (arith, c.cut.ensures.front, c.loop-rest.invariant.rest (omega (arith, c.cut.ensures.shorter))) in
    record {
      utf8 = search rules;
      whole = one_more c.loop-rest.chunks.items c.push.new.self.items c.in_ok-new.field-0 head c.cut.result.1.now rest text c.in_ok-push.ensures.items c.in_ok-new.ensures c.cut.ensures.whole c.loop-rest.invariant.whole;
      chunks = subst AreChunks (sym c.in_ok-push.ensures.items) (All-push IsChunk c.loop-rest.chunks.items c.in_ok-new.field-0 c.loop-rest.invariant.chunks (subst IsChunk (sym c.in_ok-new.ensures) c.cut.ensures.chunk));
      filled = subst (λ (l : List (List ℕ)). AreFilled l (length text)) (sym c.in_ok-push.ensures.items) (All-push (λ (x : List ℕ). min least (length text) ≤ length x) c.loop-rest.chunks.items c.in_ok-new.field-0 c.loop-rest.invariant.filled (subst (λ (x : List ℕ). min least (length text) ≤ length x) (sym c.in_ok-new.ensures) enough));
      rest = λ some. omega (arith, c.cut.ensures.rest some);
    }
