-- There are as many rows of pieces as rows, and each is that of its place.
use Rattle.std.proofs.Common.{sym, arith}
use Rattle.std.proofs.lemmas.Option.{slice_get_past}
use Rattle.plain_rows.specs.Rows.{rows_of}
use Rattle.row_pieces.specs.Pieces.{pieces_in_rows}
use Rattle.row_pieces.proofs.PieceTexts.{rows-texts}
use Rattle.row_pieces.proofs.ShownPieces.{alike-length}
use Rattle.view_pieces.proofs.rows.sheet_pieces.Goals as goal

pub returns-then-row-row_count-clause-pieces : goal.returns-then-row-row_count-clause-pieces
returns-then-row-row_count-clause-pieces c =
    let r = c.args.sheet.now in
    sym (slice_get_past (pieces_in_rows r) c.args.row (omega (arith, alike-length (pieces_in_rows r) (rows_of r) (rows-texts r), c.row_count.ensures, c.if-row-row_count.true)))
