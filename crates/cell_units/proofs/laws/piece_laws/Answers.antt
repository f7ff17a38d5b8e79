use Rattle.cell_units.proofs.PieceRuns.{are_pieces, none_empty}
use Rattle.cell_units.proofs.ShownText.{bytes-pieces_of}
use Rattle.cell_units.proofs.laws.piece_laws.Goals as goal

pub returns : goal.returns
returns c = record { runs = are_pieces; some = none_empty; bytes = bytes-pieces_of }
