use Rattle.std.proofs.Common.{◌≡◌, ◌<◌, ◌+◌, ◌++◌, ◌∷◌, [], ℕ, List, string_bytes, refl, ap, ◌∙◌, arith}
use Rattle.generated_input.specs.Drawing.{Drawn, draw, times}
use Rattle.generated_input.specs.Made.{letter, word}
use Rattle.generated_input.proofs.Drawings.{leads_over_one, leads_to_end}
use Rattle.generated_input.proofs.generator.Generator.word.Goals as goal

-- the letters of a word, where their number and the state after it are known
word_of_letters : (start more state : ℕ) → more ≡ (draw 9 start).value → state ≡ (draw 9 start).state → times (1 + more) letter state ≡ word start
unfolding word
word_of_letters start more state more-is state-is =
    ap (λ (n : ℕ). times (1 + n) letter state) more-is ∙ ap (λ (x : ℕ). times (1 + (draw 9 start).value) letter x) state-is

pub loop-preserved : goal.loop-preserved
unfolding letter
loop-preserved c =
    let small : c.from.result < 128 = omega (arith, c.from.ensures, c.draw.ensures.below) in
    let byte : c.from.result ≡ (letter c.loop.self.state).value = c.from.ensures ∙ ap (λ (n : ℕ). 97 + n) c.draw.ensures.value in
    leads_over_one (λ (n : ℕ) (bytes : List ℕ). bytes) (λ (n b : ℕ). b ∷ []) letter (1 + c.draw-letters.result) c.loop.counter
    (string_bytes c.args.out.now) c.draw-letters.new.self.state (string_bytes c.loop.out) c.loop.self.state (string_bytes c.push.new.self) c.draw.new.self.state
    (λ value rest. refl) c.loop-test.true c.loop.invariant
    (c.in_ok-push.ensures.bytes ∙ ap (λ (l : List ℕ). string_bytes c.loop.out ++ l) (c.in_ok-push.ensures.ascii small ∙ ap (λ (b : ℕ). b ∷ []) byte))
    c.draw.ensures.state

pub returns-clause-written : goal.returns-clause-written
returns-clause-written c =
    let end = leads_to_end (λ (n : ℕ) (bytes : List ℕ). bytes) letter (1 + c.draw-letters.result) c.loop.counter
    (string_bytes c.args.out.now) c.draw-letters.new.self.state (string_bytes c.loop.out) c.loop.self.state (omega arith) refl c.loop.invariant in
    end.0 ∙ ap (λ (drawn : Drawn (List ℕ)). string_bytes c.args.out.now ++ drawn.value)
    (word_of_letters c.args.self.now.state c.draw-letters.result c.draw-letters.new.self.state c.draw-letters.ensures.value c.draw-letters.ensures.state)

pub returns-clause-state : goal.returns-clause-state
returns-clause-state c =
    let end = leads_to_end (λ (n : ℕ) (bytes : List ℕ). bytes) letter (1 + c.draw-letters.result) c.loop.counter
    (string_bytes c.args.out.now) c.draw-letters.new.self.state (string_bytes c.loop.out) c.loop.self.state (omega arith) refl c.loop.invariant in
    end.1 ∙ ap (λ (drawn : Drawn (List ℕ)). drawn.state)
    (word_of_letters c.args.self.now.state c.draw-letters.result c.draw-letters.new.self.state c.draw-letters.ensures.value c.draw-letters.ensures.state)
