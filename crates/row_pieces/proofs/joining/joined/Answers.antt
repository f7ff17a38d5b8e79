use Rattle.std.proofs.Common.{◌≡◌, ◌+◌, ◌++◌, ◌∷◌, [], List, drop, slice_range, sym, ap, ◌∙◌, arith, append_assoc}
use Rattle.row_pieces.specs.declared.row_piece.RowPiece.{RowPiece}
use Rattle.row_pieces.specs.Pieces.{joined}
use Rattle.row_pieces.specs.inside.Runs.{whole}
use Rattle.row_pieces.proofs.Runs.{cells-run, run-joined}
use Rattle.row_pieces.proofs.joining.joined.Goals as goal

pub whole-requires : goal.whole-requires
whole-requires c =
    let most = cells-run c.args.bits.now c.runs.start c.run_end-end.result c.index-bits-start.result (omega arith) c.index-bits-start.is in
    omega (arith, most, c.requires)

pub runs-preserved : goal.runs-preserved
runs-preserved c =
    let bits = c.args.bits.now in
    let start = c.runs.start in
    let end = c.run_end-end.result in
    let u = c.index-bits-start.result in
    let step = run-joined bits start end u (omega arith) c.index-bits-start.is c.run_end-end.ensures in
    let made : c.push.new.self.items ≡ c.runs.pieces.items ++ whole u (slice_range bits (start + 1) end) ∷ [] =
    c.in_ok-push.ensures.items ∙ ap (λ (p : RowPiece). c.runs.pieces.items ++ p ∷ []) c.in_ok-whole.ensures in
    record {
      pieces =
          ap (λ (l : List RowPiece). l ++ joined (drop end bits)) made
          ∙ append_assoc c.runs.pieces.items (whole u (slice_range bits (start + 1) end) ∷ []) (joined (drop end bits))
          ∙ ap (λ (l : List RowPiece). c.runs.pieces.items ++ l) (sym step)
          ∙ c.runs.invariant.pieces;
      within = c.run_end-end.ensures.within;
    }
