use Rattle.std.proofs.Common.{◌∙◌, ap}
use Rattle.cell_units.specs.declared.place.Motion.TheVariants.{Down, Left, Right, Up}
use Rattle.cell_units.specs.declared.place.Spot.{Spot}
use Rattle.plain_rows.specs.Spots.{valid_spots}
use Rattle.view_moves.proofs.Carets.{back_again, caret-twice, caret-valid, down_after_up, end-twice, forth_again, start-twice, up_after_down}
use Rattle.view_moves.proofs.laws.caret_laws.Goals as goal

pub returns-clause-caret_is_valid : goal.returns-clause-caret_is_valid
returns-clause-caret_is_valid c = caret-valid

pub returns-clause-left_after_right : goal.returns-clause-left_after_right
returns-clause-left_after_right c = λ r s t goal later m n h.
    caret-twice r s goal later Right Left m ∙ back_again (valid_spots r) s t goal later m n h

pub returns-clause-right_after_left : goal.returns-clause-right_after_left
returns-clause-right_after_left c = λ r s t goal later m n h.
    caret-twice r s goal later Left Right m ∙ forth_again (valid_spots r) s t goal later m n h

pub returns-clause-down_after_up : goal.returns-clause-down_after_up
returns-clause-down_after_up c = λ r s t goal later m n l.
    ap (λ (x : Spot). x.row) (caret-twice r s goal later Up Down m) ∙ down_after_up (valid_spots r) s t goal later m n l

pub returns-clause-up_after_down : goal.returns-clause-up_after_down
returns-clause-up_after_down c = λ r s t goal later m n l.
    ap (λ (x : Spot). x.row) (caret-twice r s goal later Down Up m) ∙ up_after_down (valid_spots r) s t goal later m n l

pub returns-clause-start_once : goal.returns-clause-start_once
returns-clause-start_once c = start-twice

pub returns-clause-end_once : goal.returns-clause-end_once
returns-clause-end_once c = end-twice
