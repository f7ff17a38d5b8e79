use Rattle.std.proofs.Common.{◌≡◌, ◌+◌, ◌++◌, ◌∷◌, [], ℕ, List, take, sym, ap, ◌∙◌, arith, append_assoc}
use Rattle.std.proofs.lemmas.List.{take_all, take_more}
use Rattle.row_pieces.specs.declared.row_piece.RowPiece.{RowPiece}
use Rattle.row_pieces.specs.Pieces.{cells_in, text_of}
use Rattle.row_pieces.proofs.PieceTexts.{cells-cons}
use Rattle.row_pieces.proofs.Runs.{cells-more, cells-take, last_end, last_end-more, text-more, whole-is}
use Rattle.row_pieces.proofs.joining.whole.Goals as goal

pub overflow_add-cells : goal.overflow_add-cells
overflow_add-cells c =
    let rest = c.args.rest.now in
    let i = c.loop-bit.bit-index in
    let x = c.bit-item.result in
    let more : take (i + 1) rest ≡ take i rest ++ x ∷ [] = take_more rest i x (omega arith) ∙ ap (λ (y : RowPiece). take i rest ++ y ∷ []) (sym c.bit-item.is) in
    omega (arith, c.loop-bit.invariant.cells, c.requires, cells-cons c.args.first.now rest, ap cells_in more, cells-more (take i rest) x, cells-take (i + 1) rest)

pub loop-bit-preserved : goal.loop-bit-preserved
loop-bit-preserved c =
    let rest = c.args.rest.now in
    let first = c.args.first.now in
    let i = c.loop-bit.bit-index in
    let x = c.bit-item.result in
    let more : take (i + 1) rest ≡ take i rest ++ x ∷ [] = take_more rest i x (omega arith) ∙ ap (λ (y : RowPiece). take i rest ++ y ∷ []) (sym c.bit-item.is) in
    record {
      text =
          c.in_ok-push_str.ensures.bytes
          ∙ (λ k. c.loop-bit.invariant.text k ++ c.as_str-in-loop-bit.ensures k)
          ∙ append_assoc first.text (text_of (take i rest)) x.text
          ∙ ap (λ (l : List ℕ). first.text ++ l) (sym (text-more (take i rest) x) ∙ ap text_of (sym more));
      cells = omega (arith, c.loop-bit.invariant.cells, ap cells_in more, cells-more (take i rest) x);
      end = sym (ap (last_end first) more ∙ last_end-more first (take i rest) x);
    }

pub returns : goal.returns
returns c =
    let rest = c.args.rest.now in
    let first = c.args.first.now in
    let all : take c.loop-bit.bit-index rest ≡ rest = take_all c.loop-bit.bit-index rest (omega arith) in
    let text = c.in_ok-from_str.ensures ∙ c.as_str-2.ensures.value ∙ c.loop-bit.invariant.text ∙ ap (λ (l : List RowPiece). first.text ++ text_of l) all in
    let cells = c.loop-bit.invariant.cells ∙ ap (λ (l : List RowPiece). first.cells + cells_in l) all in
    let end = c.loop-bit.invariant.end ∙ ap (last_end first) all in
    (λ i. record { kind = first.kind; text = text i; cells = cells i; start = first.start; end = end i }) ∙ sym (whole-is first rest)
