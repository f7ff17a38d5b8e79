use Rattle.std.proofs.Common.{◌≡◌, ◌<◌, ◌++◌, ◌∷◌, [], ℕ, zero, suc, List, string_bytes, ap, ◌∙◌, append_assoc, arith, lit<}
use Rattle.generated_input.specs.Made.{word}
use Rattle.generated_input.proofs.Drawings.{joined_behind, joined-cons, joined-none, leads_over_one, leads_to_end, word_behind}
use Rattle.generated_input.proofs.generator.Generator.words.Goals as goal
use Rattle.generated_input.proofs.generator.Generator.words.Goals.{then-place-gt0+in_ok-push, else-place-gt0}

-- a word with a space before it, and one at the begin of a line
spaced : (place : ℕ) (now next all : List ℕ) (bytes : List ℕ) → 0 < place → next ≡ now ++ (32 ∷ []) → all ≡ next ++ bytes → all ≡ now ++ word_behind place bytes
spaced zero now next all bytes some next-is all-is = absurd (omega (arith, some))
spaced (suc n) now next all bytes some next-is all-is = all-is ∙ ap (λ (l : List ℕ). l ++ bytes) next-is ∙ append_assoc now (32 ∷ []) bytes

unspaced : (place : ℕ) (now next all : List ℕ) (bytes : List ℕ) → place < 1 → next ≡ now → all ≡ next ++ bytes → all ≡ now ++ word_behind place bytes
unspaced zero now next all bytes none next-is all-is = all-is ∙ ap (λ (l : List ℕ). l ++ bytes) next-is
unspaced (suc n) now next all bytes none next-is all-is = absurd (omega (arith, none))

pub loop-place-preserved : goal.loop-place-preserved
loop-place-preserved c =
    let now = string_bytes c.loop-place.out in
    let bytes = (word c.loop-place.self.state).value in
    let written : string_bytes c.word.new.out ≡ now ++ word_behind c.loop-place.place bytes = elim c.if-place-gt0.branch [
      | then-place-gt0+in_ok-push w ↦
          spaced c.loop-place.place now (string_bytes c.if-place-gt0.out) (string_bytes c.word.new.out) bytes (omega (arith, w.if-place-gt0.true))
          (ap string_bytes w.out-is ∙ w.in_ok-push.ensures.bytes ∙ ap (λ (l : List ℕ). now ++ l) (w.in_ok-push.ensures.ascii (lit< tt))) c.in_ok-word.ensures.written
      | else-place-gt0 w ↦
          unspaced c.loop-place.place now (string_bytes c.if-place-gt0.out) (string_bytes c.word.new.out) bytes (omega (arith, w.if-place-gt0.false))
          (ap string_bytes w.out-is) c.in_ok-word.ensures.written
    ] in
    leads_over_one joined_behind word_behind word c.args.count c.loop-place.place (string_bytes c.args.out.now) c.args.self.now.state now c.loop-place.self.state
    (string_bytes c.word.new.out) c.word.new.self.state (joined-cons c.loop-place.place) c.loop-place-test.true c.loop-place.invariant written c.in_ok-word.ensures.state

pub returns-clause-written : goal.returns-clause-written
returns-clause-written c =
    (leads_to_end joined_behind word c.args.count c.loop-place.place (string_bytes c.args.out.now) c.args.self.now.state (string_bytes c.loop-place.out) c.loop-place.self.state
    (omega arith) (joined-none c.args.count) c.loop-place.invariant).0

pub returns-clause-state : goal.returns-clause-state
returns-clause-state c =
    (leads_to_end joined_behind word c.args.count c.loop-place.place (string_bytes c.args.out.now) c.args.self.now.state (string_bytes c.loop-place.out) c.loop-place.self.state
    (omega arith) (joined-none c.args.count) c.loop-place.invariant).1
