use Rattle.test_display.proofs.Opened.{first_letter, third_letter}
use Rattle.test_display.proofs.answers.two_letters.Goals as goal

pub slice-requires-clause-start : goal.slice-requires-clause-start
slice-requires-clause-start g c = first_letter c.args.view.now c.requires

pub slice-requires-clause-end : goal.slice-requires-clause-end
slice-requires-clause-end g c = third_letter c.args.view.now c.requires
