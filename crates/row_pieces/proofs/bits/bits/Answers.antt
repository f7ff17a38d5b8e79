use Rattle.std.proofs.Common.{◌≡◌, ◌+◌, ◌-◌, ◌++◌, ℕ, List, drop, take, length, map, sym, ap, ◌∙◌, arith, append_assoc, length-drop}
use Rattle.std.proofs.lemmas.List.{drop-drop, take_all}
use Rattle.cell_line.specs.declared.element.Element.{Element}
use Rattle.row_pieces.specs.declared.row_piece.RowPiece.{RowPiece}
use Rattle.row_pieces.specs.Pieces.{bits, bits_in, count_in}
use Rattle.row_pieces.proofs.Elements.{bits-step, enough, texts-rest}
use Rattle.row_pieces.proofs.bits.bits.Goals as goal

pub overflow_add-next : goal.overflow_add-next
overflow_add-next c =
    let es = drop c.loop-piece.next c.args.elements.now in
    let most = enough c.args.pieces.now c.loop-piece.piece-index c.piece-item.result (omega arith) c.piece-item.is es c.loop-piece.invariant.texts in
    omega (arith, most, length-drop c.loop-piece.next c.args.elements.now, c.in_ok-next.ensures.count, c.loop-piece.invariant.within)

pub loop-piece-preserved : goal.loop-piece-preserved
loop-piece-preserved c =
    let pieces = c.args.pieces.now in
    let i = c.loop-piece.piece-index in
    let p = c.piece-item.result in
    let next : ℕ = c.loop-piece.next in
    let all = c.args.elements.now in
    let es = drop next all in
    let old = c.loop-piece.bits.items in
    let given : take (length all - next) es ≡ es = take_all (length all - next) es (omega (arith, length-drop next all)) in
    let texts = c.loop-piece.invariant.texts in
    let most = enough pieces i p (omega arith) c.piece-item.is es texts in
    let step = bits-step pieces i p (omega arith) c.piece-item.is es texts in
    let count = c.in_ok-next.ensures.count in
    let rest : drop (count_in p) es ≡ drop (next + c.in_ok-next.field-0) all =
    drop-drop (count_in p) next all ∙ ap (λ (n : ℕ). drop (next + n) all) (sym count) in
    record {
      bits =
          ap (λ (l : List RowPiece). l ++ bits (drop (i + 1) pieces) (drop (next + c.in_ok-next.field-0) all))
          (c.in_ok-next.ensures.bits ∙ ap (λ (l : List Element). old ++ bits_in p 0 (take (count_in p) l)) given)
          ∙ append_assoc old (bits_in p 0 (take (count_in p) es)) (bits (drop (i + 1) pieces) (drop (next + c.in_ok-next.field-0) all))
          ∙ ap (λ (l : List RowPiece). old ++ l)
          (ap (λ (l : List Element). bits_in p 0 (take (count_in p) es) ++ bits (drop (i + 1) pieces) l) (sym rest) ∙ sym step)
          ∙ c.loop-piece.invariant.bits;
      texts = ap (map (λ (e : Element). e.text)) (sym rest) ∙ texts-rest pieces i p (omega arith) c.piece-item.is es texts;
      within = omega (arith, most, length-drop next all, count, c.loop-piece.invariant.within);
    }
