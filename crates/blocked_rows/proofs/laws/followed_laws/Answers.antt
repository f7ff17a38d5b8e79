use Rattle.blocked_rows.proofs.FollowedRows.{follows-operations, follows-rows}
use Rattle.blocked_rows.proofs.laws.followed_laws.Goals as goal

pub returns-clause-operations : goal.returns-clause-operations
returns-clause-operations c = follows-operations

pub returns-clause-rows : goal.returns-clause-rows
returns-clause-rows c = follows-rows
