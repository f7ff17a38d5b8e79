use Rattle.std.proofs.Common.{◌++◌, ◌∷◌, [], ℕ, List, string_bytes, ap, ◌∙◌, arith, lit<}
use Rattle.generated_input.proofs.Scripts.{script_from_start, script_over_one, script_to_end}
use Rattle.generated_input.proofs.generator.Generator.commands.Goals as goal

pub loop-done-init : goal.loop-done-init
loop-done-init c = record {
  leads = script_from_start c.args.count (string_bytes c.args.out.now) c.args.text_length c.args.self.now.state;
  short = omega arith;
}

pub loop-done-preserved : goal.loop-done-preserved
loop-done-preserved c = record {
  leads = script_over_one c.args.count c.loop-done.done (string_bytes c.args.out.now) c.args.text_length c.args.self.now.state
      (string_bytes c.loop-done.out) c.loop-done.length c.loop-done.self.state (string_bytes c.push.new.self) c.in_ok-length.length c.command.new.self.state
      c.loop-done-test.true c.loop-done.invariant.leads
      (c.in_ok-push.ensures.bytes ∙ ap (λ (l : List ℕ). string_bytes c.command.new.out ++ l) (c.in_ok-push.ensures.ascii (lit< tt))
      ∙ ap (λ (l : List ℕ). l ++ (10 ∷ [])) c.in_ok-length.ensures.written)
      c.in_ok-length.ensures.length c.in_ok-length.ensures.state;
  short = omega (arith, c.in_ok-length.ensures.short, c.loop-done.invariant.short);
}

pub returns-clause-written : goal.returns-clause-written
returns-clause-written c =
    (script_to_end c.args.count c.loop-done.done (string_bytes c.args.out.now) c.args.text_length c.args.self.now.state
    (string_bytes c.loop-done.out) c.loop-done.length c.loop-done.self.state (omega arith) c.loop-done.invariant.leads).0

pub returns-clause-state : goal.returns-clause-state
returns-clause-state c =
    (script_to_end c.args.count c.loop-done.done (string_bytes c.args.out.now) c.args.text_length c.args.self.now.state
    (string_bytes c.loop-done.out) c.loop-done.length c.loop-done.self.state (omega arith) c.loop-done.invariant.leads).1
