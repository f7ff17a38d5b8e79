use Rattle.std.proofs.Common.{ℕ, List, ◌++◌, length, ap, ◌∙◌, arith}
use Rattle.generated_input.specs.Made.{word}
use Rattle.generated_input.proofs.Sizes.{word_short}
use Rattle.generated_input.proofs.generator.Generator.word_alone.Goals as goal

pub returns-clause-short : goal.returns-clause-short
returns-clause-short c =
    let bytes = (word c.args.self.now.state).value in
    let written = c.in_ok-word.ensures.written ∙ ap (λ (l : List ℕ). l ++ bytes) c.new-text.ensures.bytes in
    omega (arith, c.word.new.out.bytes.ok.0, ap length written, (word_short c.args.self.now.state).size)
