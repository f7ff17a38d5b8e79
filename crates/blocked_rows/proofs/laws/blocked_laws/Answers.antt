use Rattle.blocked_rows.proofs.KeptBlocks.{adds-to_record, are-as_many, have-ids, moves-with_record, places-blocks, takes-from_record}
use Rattle.blocked_rows.proofs.RecordRows.{begins-lines, finds-lines, shows-lines, shows-rows}
use Rattle.blocked_rows.proofs.laws.blocked_laws.Goals as goal

pub returns-clause-lines : goal.returns-clause-lines
returns-clause-lines c = shows-lines c.block_laws.ensures.rows

pub returns-clause-rows : goal.returns-clause-rows
returns-clause-rows c = shows-rows c.block_laws.ensures.rows

pub returns-clause-begins : goal.returns-clause-begins
returns-clause-begins c = begins-lines c.block_laws.ensures.rows c.block_laws.ensures.blocks

pub returns-clause-finds : goal.returns-clause-finds
returns-clause-finds c = finds-lines c.block_laws.ensures.rows c.block_laws.ensures.blocks

pub returns-clause-places : goal.returns-clause-places
returns-clause-places c = places-blocks

pub returns-clause-ids : goal.returns-clause-ids
returns-clause-ids c = have-ids

pub returns-clause-many : goal.returns-clause-many
returns-clause-many c = are-as_many

pub returns-clause-adds : goal.returns-clause-adds
returns-clause-adds c = adds-to_record

pub returns-clause-takes : goal.returns-clause-takes
returns-clause-takes c = takes-from_record

pub returns-clause-moves : goal.returns-clause-moves
returns-clause-moves c = moves-with_record
