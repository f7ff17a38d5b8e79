use Rattle.wrap_map.proofs.WorkedRows as rows
use Rattle.wrap_map.proofs.worked.ten_lines.Goals as goal

pub returns-clause-run : goal.returns-clause-run
returns-clause-run c = rows.next_ten

pub returns-clause-rows : goal.returns-clause-rows
returns-clause-rows c = rows.twenty_rows

pub returns-clause-no_run : goal.returns-clause-no_run
returns-clause-no_run c = rows.no_next

pub returns-clause-items : goal.returns-clause-items
returns-clause-items c = (rows.one_item, rows.ten_items)
