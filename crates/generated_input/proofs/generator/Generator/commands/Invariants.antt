use Rattle.std.proofs.Common.{◌≤◌, ◌+◌, ◌*◌, string_bytes}
use Rattle.generated_input.proofs.Scripts.{ScriptLeadsOn}
use Rattle.generated_input.proofs.generator.Generator.commands.Given as goal

abbrev pub invariant-loop-done : goal.invariant-loop-done
invariant-loop-done l = record {
  leads : ScriptLeadsOn l.count l.done (string_bytes l.initial.out) l.text_length l.initial.self.state (string_bytes l.out) l.length l.self.state;
  short : l.length ≤ l.text_length + 9 * l.done;
}
