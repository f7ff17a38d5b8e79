-- One name to unfold where a proof computes the pieces of a record that is written out.
use Rattle.plain_rows.proofs.Computing.{plain_rows}
use Rattle.row_pieces.specs.Pieces.{pieces_in_rows}

unfoldable pub row_pieces : Unit {0}
unfolding plain_rows pieces_in_rows
row_pieces = tt
