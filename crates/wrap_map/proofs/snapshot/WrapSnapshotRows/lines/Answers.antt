use Rattle.wrap_map.proofs.Snapshots.{shown-have-rows}
use Rattle.wrap_map.proofs.snapshot.WrapSnapshotRows.lines.Goals as goal

pub returns-clause-rows : goal.returns-clause-rows
returns-clause-rows g c = shown-have-rows c.args.self.now
