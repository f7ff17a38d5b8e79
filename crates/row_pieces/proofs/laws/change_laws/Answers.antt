use Rattle.row_pieces.proofs.Covering.{covers, rows-replaced}
use Rattle.row_pieces.proofs.MovedLooks.{looks-moved}
use Rattle.row_pieces.proofs.LandedLooks.{landed-between}
use Rattle.row_pieces.proofs.OperatedLooks.{looks-kept}
use Rattle.row_pieces.proofs.BlockChanges.{block-line-true}
use Rattle.row_pieces.proofs.OperatedBlocks.{blocks-kept}
use Rattle.row_pieces.proofs.TrueLines.{operated-lines}
use Rattle.row_pieces.proofs.laws.change_laws.Goals as goal

pub returns-clause-covers : goal.returns-clause-covers
returns-clause-covers c = covers

pub returns-clause-lines : goal.returns-clause-lines
returns-clause-lines c = rows-replaced

pub returns-clause-moved : goal.returns-clause-moved
returns-clause-moved c = looks-moved

pub returns-clause-landed : goal.returns-clause-landed
returns-clause-landed c = landed-between

pub returns-clause-kept : goal.returns-clause-kept
returns-clause-kept c = looks-kept

pub returns-clause-operated : goal.returns-clause-operated
returns-clause-operated c = operated-lines

pub returns-clause-blocks : goal.returns-clause-blocks
returns-clause-blocks c = blocks-kept

pub returns-clause-on_blocks : goal.returns-clause-on_blocks
returns-clause-on_blocks c = block-line-true
