use Rattle.std.proofs.Common.{◌++◌, ◌∷◌, [], List, take, sym, ap, ◌∙◌, arith}
use Rattle.std.proofs.lemmas.List.{map-append, take_all, take_more}
use Rattle.row_pieces.specs.declared.row_piece.RowPiece.{RowPiece}
use Rattle.row_pieces.specs.Listed.{lists_of}
use Rattle.row_pieces.specs.Pieces.{head_and_later, parts}
use Rattle.row_pieces.proofs.Columns.{length-rows, rows-at}
use Rattle.row_pieces.proofs.line_rows.rows_of_bits.Goals as goal

pub loop-row-preserved : goal.loop-row-preserved
loop-row-preserved c =
    let bits = c.args.bits.now in
    let cuts = c.args.cuts.now in
    let row = c.loop-row.row in
    let all = head_and_later c.args.indent (parts bits 0 cuts) in
    let long = length-rows c.args.indent bits cuts in
    ap lists_of c.in_ok-push.ensures.items
    ∙ map-append (λ v. v.items) c.loop-row.rows.items (c.in_ok-joined_row.field-0 ∷ [])
    ∙ (λ i. c.loop-row.invariant i ++ c.in_ok-joined_row.ensures i ∷ [])
    ∙ ap (λ (l : List RowPiece). take row all ++ l ∷ []) (sym (rows-at c.args.indent bits cuts row (omega arith)))
    ∙ sym (take_more all row [] (omega (arith, long)))

pub returns : goal.returns
returns c =
    let all = head_and_later c.args.indent (parts c.args.bits.now 0 c.args.cuts.now) in
    c.loop-row.invariant ∙ take_all c.loop-row.row all (omega (arith, c.loop-row-test.false, length-rows c.args.indent c.args.bits.now c.args.cuts.now))
