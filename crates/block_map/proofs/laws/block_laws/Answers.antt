use Rattle.block_map.proofs.BlockRows.{blocks-agree, rows-agree}
use Rattle.block_map.proofs.laws.block_laws.Goals as goal

pub returns-clause-rows : goal.returns-clause-rows
returns-clause-rows c = rows-agree

pub returns-clause-blocks : goal.returns-clause-blocks
returns-clause-blocks c = blocks-agree
