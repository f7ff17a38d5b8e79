use Rattle.std.proofs.Common.{◌≡◌, length, slice_get, ap, sym, subst, arith}
use Rattle.std.specs.Result.{IfOk}
use Rattle.cell_units.specs.Lawful.{IsLawful}
use Rattle.cell_units.specs.Record.{Record}
use Rattle.row_pieces.specs.Listed.{listed}
use Rattle.row_pieces.specs.Pieces.{pieces_in_rows}
use Rattle.test_pieces.proofs.callers.sheet_pieces.Goals as goal

pub pieces_of_row-requires-clause-lawful : goal.pieces_of_row-requires-clause-lawful
pieces_of_row-requires-clause-lawful c = subst IsLawful (sym c.in_ok-plain.ensures.same) c.in_ok-plain.ensures.lawful

pub pieces_of_row-requires-clause-size : goal.pieces_of_row-requires-clause-size
pieces_of_row-requires-clause-size c = omega (arith, c.in_ok-plain.ensures.size, ap (λ (r : Record). length r.text) c.in_ok-plain.ensures.same)

pub returns : goal.returns
returns c =
    subst (λ (r : Record). IfOk c.pieces_of_row.result (λ found. listed found ≡ slice_get (pieces_in_rows r) c.args.row)) c.in_ok-plain.ensures.same c.pieces_of_row.ensures
