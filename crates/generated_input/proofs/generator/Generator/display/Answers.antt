use Rattle.std.proofs.Common.{◌≡◌, ◌++◌, ℕ, subst, string_bytes}
use Rattle.std.specs.Prelude.{codes, decimal}
use Rattle.generated_input.specs.Made.{display_line}
use Rattle.generated_input.proofs.generator.Generator.display.Goals as goal

pub returns-clause-written : goal.returns-clause-written
unfolding display_line
returns-clause-written c =
    subst (λ (n : ℕ). string_bytes c.write.new.self ≡ string_bytes c.args.out.now ++ (codes "{\"display\":[" ++ (decimal n ++ codes ",\"left\"]}")))
    c.draw-offset.ensures.value c.in_ok-write.ensures.bytes
