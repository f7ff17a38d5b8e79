use Rattle.spot_laws.proofs.RecordLaws.{back-of_shown, backs-rise, greatest-at, least-at, open-rises, rises, sides}
use Rattle.spot_laws.proofs.laws.show_laws.Goals as goal

pub returns-clause-show_rises : goal.returns-clause-show_rises
returns-clause-show_rises c = rises

pub returns-clause-left_is_first : goal.returns-clause-left_is_first
returns-clause-left_is_first c = sides

pub returns-clause-open_show_rises : goal.returns-clause-open_show_rises
returns-clause-open_show_rises c = open-rises

pub returns-clause-back_left : goal.returns-clause-back_left
returns-clause-back_left c = least-at

pub returns-clause-back_right : goal.returns-clause-back_right
returns-clause-back_right c = greatest-at

pub returns-clause-back_rises : goal.returns-clause-back_rises
returns-clause-back_rises c = backs-rise

pub returns-clause-back_of_shown : goal.returns-clause-back_of_shown
returns-clause-back_of_shown c = back-of_shown
