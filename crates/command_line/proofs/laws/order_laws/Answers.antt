use Rattle.command_line.proofs.Bounds.{reading_within}
use Rattle.command_line.proofs.Doomed.{no_plan_two}
use Rattle.command_line.proofs.Order.{any_place, either_form}
use Rattle.command_line.proofs.laws.order_laws.Goals as goal

pub returns : goal.returns
returns c = record {
  any_place = any_place;
  either_form = either_form;
  once = λ before between after key value again. no_plan_two key value again before between after;
  limits = reading_within;
}
