-- What was replaced since a host last asked was replaced truly.
use Rattle.display_session.proofs.Watches.{true-rows}
use Rattle.display_session.proofs.session.Session.changed_rows.Goals as goal

pub returns-clause-others : goal.returns-clause-others
returns-clause-others c = true-rows c.args.self.now.display c.args.self.now.watch c.in_ok-rows.rows c.lawful.ensures c.in_ok-rows.ensures
