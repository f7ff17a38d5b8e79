use Rattle.std.proofs.Common.{◌≡◌, ◌++◌, ◌∷◌, [], ℕ, List, replicate, string_bytes, ap, ◌∙◌, append_assoc, lit<}
use Rattle.std.specs.List.{join_with_byte}
use Rattle.generated_input.specs.Drawing.{Drawn, draw, times}
use Rattle.generated_input.specs.Made.{line, word}
use Rattle.generated_input.proofs.generator.Generator.line.Goals as goal

-- a line of so many tabs and words, where the words are drawn from a state
line_of : ℕ → ℕ → ℕ → Drawn (List ℕ)
line_of tabs count state =
    let words = times count word state in
    record { value = replicate tabs 9 ++ (join_with_byte 32 words.value ++ (10 ∷ [])); state = words.state }

line-parts : (start tabs after count state : ℕ) → tabs ≡ (draw 4 start).value → after ≡ (draw 4 start).state
    → count ≡ (draw 20 after).value → state ≡ (draw 20 after).state → line_of tabs count state ≡ line start
unfolding line line_of
line-parts start tabs after count state tabs-is after-is count-is state-is =
    let first = draw 4 start in
    ap (λ (n : ℕ). line_of n count state) tabs-is
    ∙ ap (λ (n : ℕ). line_of first.value n state) (count-is ∙ ap (λ (x : ℕ). (draw 20 x).value) after-is)
    ∙ ap (λ (x : ℕ). line_of first.value (draw 20 first.state).value x) (state-is ∙ ap (λ (x : ℕ). (draw 20 x).state) after-is)

pub returns-clause-written : goal.returns-clause-written
unfolding line_of
returns-clause-written c =
    let out = string_bytes c.args.out.now in
    let tabs = replicate c.draw-tabs.result 9 in
    let words = join_with_byte 32 (times c.draw-words.result word c.draw-words.new.self.state).value in
    let parts = line-parts c.args.self.now.state c.draw-tabs.result c.draw-tabs.new.self.state c.draw-words.result c.draw-words.new.self.state
    c.draw-tabs.ensures.value c.draw-tabs.ensures.state c.draw-words.ensures.value c.draw-words.ensures.state in
    c.in_ok-push.ensures.bytes
    ∙ ap (λ (l : List ℕ). string_bytes c.words.new.out ++ l) (c.in_ok-push.ensures.ascii (lit< tt))
    ∙ ap (λ (l : List ℕ). l ++ (10 ∷ [])) (c.in_ok-words.ensures.written ∙ ap (λ (l : List ℕ). l ++ words) c.in_ok-push_tabs.ensures)
    ∙ append_assoc (out ++ tabs) words (10 ∷ []) ∙ append_assoc out tabs (words ++ (10 ∷ []))
    ∙ ap (λ (drawn : Drawn (List ℕ)). out ++ drawn.value) parts

pub returns-clause-state : goal.returns-clause-state
unfolding line_of
returns-clause-state c =
    let parts = line-parts c.args.self.now.state c.draw-tabs.result c.draw-tabs.new.self.state c.draw-words.result c.draw-words.new.self.state
    c.draw-tabs.ensures.value c.draw-tabs.ensures.state c.draw-words.ensures.value c.draw-words.ensures.state in
    c.in_ok-words.ensures.state ∙ ap (λ (drawn : Drawn (List ℕ)). drawn.state) parts
