-- The sheet of a view has its record, but for stamps.
use Rattle.std.proofs.Common.{◌≡◌, List, ap, subst, ◌∙◌}
use Rattle.std.specs.Prelude.{IfOk, slice_get}
use Rattle.display_map.specs.Replay.{present_of}
use Rattle.row_pieces.specs.declared.row_piece.RowPiece.{RowPiece}
use Rattle.row_pieces.specs.Listed.{listed}
use Rattle.row_pieces.specs.Pieces.{pieces_in_rows}
use Rattle.view_pieces.proofs.Stamps.{pieces-unstamped}
use Rattle.view_pieces.proofs.rows.pieces_of_row.Goals as goal

pub returns-clause-pieces : goal.returns-clause-pieces
returns-clause-pieces c =
    let same : pieces_in_rows c.sheet.result.now ≡ pieces_in_rows (present_of c.args.view.now) =
    ap pieces_in_rows c.sheet.ensures ∙ pieces-unstamped (present_of c.args.view.now) in
    subst (λ (rows : List (List RowPiece)). IfOk c.sheet_pieces.result (λ found. listed found ≡ slice_get rows c.args.row)) same c.sheet_pieces.ensures.pieces
