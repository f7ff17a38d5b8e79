use Rattle.script_runner.proofs.Handled.{has-answer}
use Rattle.test_program.proofs.callers.first_answer.Goals as goal

pub answer-requires : goal.answer-requires
answer-requires c = has-answer _ _ c.requires
