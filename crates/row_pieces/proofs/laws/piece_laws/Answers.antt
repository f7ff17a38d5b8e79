use Rattle.row_pieces.proofs.Columns.{begins-at, row-pieces}
use Rattle.row_pieces.proofs.Maximal.{joined-apart}
use Rattle.row_pieces.proofs.OpenOffsets.{open-offsets}
use Rattle.row_pieces.proofs.Parting.{parted-elements}
use Rattle.row_pieces.proofs.PieceTexts.{joined-cells, rows-texts}
use Rattle.row_pieces.proofs.ShownPieces.{shown-among}
use Rattle.row_pieces.proofs.laws.piece_laws.Goals as goal

pub returns-clause-texts : goal.returns-clause-texts
returns-clause-texts c = rows-texts

pub returns-clause-rows : goal.returns-clause-rows
returns-clause-rows c = row-pieces

pub returns-clause-cells : goal.returns-clause-cells
returns-clause-cells c = joined-cells

pub returns-clause-apart : goal.returns-clause-apart
returns-clause-apart c = joined-apart

pub returns-clause-parted : goal.returns-clause-parted
returns-clause-parted c = parted-elements

pub returns-clause-begins : goal.returns-clause-begins
returns-clause-begins c = begins-at

pub returns-clause-shown : goal.returns-clause-shown
returns-clause-shown c = shown-among

pub returns-clause-open_place : goal.returns-clause-open_place
returns-clause-open_place c = open-offsets
