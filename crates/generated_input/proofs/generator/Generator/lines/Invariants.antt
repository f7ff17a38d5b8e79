use Rattle.std.proofs.Common.{ℕ, List, string_bytes}
use Rattle.std.specs.List.{concat}
use Rattle.generated_input.specs.Made.{line}
use Rattle.generated_input.proofs.Drawings.{LeadsOn}
use Rattle.generated_input.proofs.generator.Generator.lines.Given as goal

abbrev pub invariant-loop : goal.invariant-loop
invariant-loop l = LeadsOn (λ (n : ℕ) (lines : List (List ℕ)). concat lines) line l.count l.counter (string_bytes l.initial.out) l.initial.self.state (string_bytes l.out) l.self.state
