-- Bytes that aren't text are no command.
use Rattle.std.proofs.Common.{ap, arith, option_and_then}
use Rattle.display_map.specs.Replay.{present_of}
use Rattle.edit_script.specs.Commands.{command_of_value}
use Rattle.edit_script.proofs.Lines.{value_of-no_text}
use Rattle.edit_script.proofs.read.read_line.Goals as goal

pub returns-in_default-clause-refused : goal.returns-in_default-clause-refused
returns-in_default-clause-refused c = (
  omega arith,
  ap (option_and_then (command_of_value c.args.form (present_of c.args.view.now).text)) (value_of-no_text c.args.line.now c.in_default.ensures.cases.0),
)
