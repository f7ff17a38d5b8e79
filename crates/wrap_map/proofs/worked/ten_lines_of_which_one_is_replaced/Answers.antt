use Rattle.std.proofs.Common.{◌≡◌, [], ◌∷◌, List, refl}
use Rattle.cell_line.specs.declared.lines.MarkRun.{MarkRun}
use Rattle.wrap_map.specs.Items.{items_of}
use Rattle.cell_line.specs.MarkRuns.{runs_from}
use Rattle.wrap_map.specs.Worked.{ten}
use Rattle.wrap_map.proofs.WorkedRows as rows
use Rattle.wrap_map.proofs.worked.ten_lines_of_which_one_is_replaced.Goals as goal

pub returns-clause-marks : goal.returns-clause-marks
returns-clause-marks c s start end count =
    let runs : List MarkRun = record { first = 0; last = 4; width = 5 } ∷ (record { first = 6; last = 9; width = 5 } ∷ []) in
    rows.at_shift (λ a b n. runs_from 0 (rows.sixth_replaced a b n) ≡ runs) 5 6 1 refl s start end count

pub returns-clause-rows : goal.returns-clause-rows
returns-clause-rows c = (rows.before_five, rows.before_six)

pub returns-clause-row : goal.returns-clause-row
returns-clause-row c = rows.second_row

pub returns-clause-items : goal.returns-clause-items
returns-clause-items c s start end count =
    rows.at_shift (λ a b n. items_of (record { lines = ten; marks = rows.sixth_replaced a b n }) ≡ 10) 5 6 1 rows.items_after s start end count
