use Rattle.std.proofs.lemmas.Option.{IfSome_then}
use Rattle.command_line.specs.Words.{plan_of}
use Rattle.test_program.proofs.lawful_runs.run_lawfully.Goals as goal

pub returns : goal.returns
returns g c = IfSome_then (plan_of c.args.words.now) c.run.ensures.run.planned (λ plan is began. c.run_laws.ensures.began plan _ is began)
