use Rattle.std.proofs.Common.{string_bytes}
use Rattle.generated_input.specs.Made.{word}
use Rattle.generated_input.proofs.Drawings.{LeadsOn, joined_behind}
use Rattle.generated_input.proofs.generator.Generator.words.Given as goal

abbrev pub invariant-loop-place : goal.invariant-loop-place
invariant-loop-place l = LeadsOn joined_behind word l.count l.place (string_bytes l.initial.out) l.initial.self.state (string_bytes l.out) l.self.state
