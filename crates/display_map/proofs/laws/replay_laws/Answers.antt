use Rattle.display_map.proofs.Allowed.{change-fits, operation-allowed}
use Rattle.display_map.proofs.LawfulReplays.{lawful-replayed}
use Rattle.display_map.proofs.laws.replay_laws.Goals as goal

pub returns-clause-lawful : goal.returns-clause-lawful
returns-clause-lawful c = lawful-replayed

pub returns-clause-allowed : goal.returns-clause-allowed
returns-clause-allowed c = operation-allowed

pub returns-clause-accepted : goal.returns-clause-accepted
returns-clause-accepted c = change-fits
