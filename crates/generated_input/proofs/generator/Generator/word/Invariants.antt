use Rattle.std.proofs.Common.{ℕ, List, string_bytes}
use Rattle.generated_input.specs.Made.{letter}
use Rattle.generated_input.proofs.Drawings.{LeadsOn}
use Rattle.generated_input.proofs.generator.Generator.word.Given as goal

abbrev pub invariant-loop : goal.invariant-loop
invariant-loop l = LeadsOn (λ (n : ℕ) (bytes : List ℕ). bytes) letter l.letters l.counter (string_bytes l.initial.out) l.initial.self.state (string_bytes l.out) l.self.state
