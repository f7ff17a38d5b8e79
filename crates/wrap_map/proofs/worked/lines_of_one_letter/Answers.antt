use Rattle.std.proofs.Common.{◌≡◌}
use Rattle.wrap_map.specs.Items.{items_of}
use Rattle.wrap_map.specs.Worked.{three_hundred}
use Rattle.wrap_map.proofs.WorkedRows as rows
use Rattle.wrap_map.proofs.worked.lines_of_one_letter.Goals as goal

pub returns-clause-landed : goal.returns-clause-landed
returns-clause-landed c = rows.one_letter

pub returns-clause-replaced : goal.returns-clause-replaced
returns-clause-replaced c s start end count =
    rows.at_shift (λ a b n. items_of (record { lines = three_hundred; marks = rows.letter_replaced a b n }) ≡ 3) 150 151 1 rows.letters_after s start end count
