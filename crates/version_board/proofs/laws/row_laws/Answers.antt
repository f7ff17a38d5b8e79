use Rattle.display_map.proofs.Publishing.{ends-published}
use Rattle.version_board.proofs.RowLemmas.{may_open, may_follow, row_number}
use Rattle.version_board.proofs.laws.row_laws.Goals as goal

pub returns-clause-opens : goal.returns-clause-opens
returns-clause-opens c = may_open

pub returns-clause-follows : goal.returns-clause-follows
returns-clause-follows c = may_follow

pub returns-clause-number : goal.returns-clause-number
returns-clause-number c = row_number

pub returns-clause-last : goal.returns-clause-last
returns-clause-last c = λ h last. ends-published h.events last
