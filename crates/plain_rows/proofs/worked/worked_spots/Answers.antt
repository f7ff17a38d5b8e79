use Rattle.std.proofs.Common.{refl}
use Rattle.plain_rows.proofs.Computing.{plain_rows}
use Rattle.plain_rows.proofs.worked.worked_spots.Goals as goal

pub returns-clause-tab_indent : goal.returns-clause-tab_indent
unfolding plain_rows
returns-clause-tab_indent c = refl

pub returns-clause-type_inlay : goal.returns-clause-type_inlay
unfolding plain_rows
returns-clause-type_inlay c = (refl, refl)

pub returns-clause-function_fold : goal.returns-clause-function_fold
unfolding plain_rows
returns-clause-function_fold c = (refl, refl)

pub returns-clause-combining_mark : goal.returns-clause-combining_mark
unfolding plain_rows
returns-clause-combining_mark c = (refl, refl)

pub returns-clause-emoji_rows : goal.returns-clause-emoji_rows
unfolding plain_rows
returns-clause-emoji_rows c = (refl, refl)

pub returns-clause-inlay_with_break : goal.returns-clause-inlay_with_break
unfolding plain_rows
returns-clause-inlay_with_break c = (refl, refl)

pub returns-clause-ordinary_source : goal.returns-clause-ordinary_source
unfolding plain_rows
returns-clause-ordinary_source c = refl

pub returns-clause-at_the_end : goal.returns-clause-at_the_end
unfolding plain_rows
returns-clause-at_the_end c = refl

pub returns-clause-tab_before_256_cells : goal.returns-clause-tab_before_256_cells
unfolding plain_rows
returns-clause-tab_before_256_cells c = refl

pub returns-clause-tab_at_256_cells : goal.returns-clause-tab_at_256_cells
unfolding plain_rows
returns-clause-tab_at_256_cells c = refl

pub returns-clause-changed_back : goal.returns-clause-changed_back
unfolding plain_rows
returns-clause-changed_back c = (refl, refl)
