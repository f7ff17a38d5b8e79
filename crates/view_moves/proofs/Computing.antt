-- One name to unfold where a proof computes a caret or a selection of a record that is written out.
use Rattle.plain_rows.proofs.Computing.{plain_rows}
use Rattle.view_moves.specs.Moves.{caret, selection}

-- `unfolding view_moves` lets `refl` compute `caret` and `selection`
unfoldable pub view_moves : Unit {0}
unfolding plain_rows caret selection
view_moves = tt
