use Rattle.std.proofs.Common.{◌≡◌, ◌+◌, ◌++◌, ◌∷◌, [], ℕ, List, take, length, sym, ap, subst, ◌∙◌, arith, append_assoc}
use Rattle.std.specs.Str.{IsUtf8}
use Rattle.std.proofs.lemmas.List.{take_more}
use Rattle.cell_line.specs.declared.element.Element.{Element}
use Rattle.row_pieces.specs.declared.row_piece.RowPiece.{RowPiece}
use Rattle.row_pieces.specs.Pieces.{bit, bits_in}
use Rattle.row_pieces.proofs.Elements.{are-own, bits-more, bytes-more, bytes_of, finished, progress}
use Rattle.row_pieces.proofs.bits.push_bits.Goals as goal

pub bounds-elements-count : goal.bounds-elements-count
bounds-elements-count c =
    let p = c.args.piece.now in
    let es = c.args.elements.now in
    let own = are-own p es (subst IsUtf8 c.as_str-size.ensures c.as_str-size.utf8) c.requires.elements in
    let lt = progress p es c.elements.count own c.elements.invariant.within (omega (arith, c.elements-test.true, c.elements.invariant.before, ap length c.as_str-size.ensures)) in
    omega (arith, lt, own.within)

pub bit-requires-clause-end : goal.bit-requires-clause-end
bit-requires-clause-end c = λ buffer.
    let p = c.args.piece.now in
    let es = c.args.elements.now in
    let x = c.index-elements-count.result in
    let own = are-own p es (subst IsUtf8 c.as_str-size.ensures c.as_str-size.utf8) c.requires.elements in
    let lt = progress p es c.elements.count own c.elements.invariant.within (omega (arith, c.elements-test.true, c.elements.invariant.before, ap length c.as_str-size.ensures)) in
    omega (arith, c.requires.offsets buffer, (own.more c.elements.count x lt).1, ap (λ (e : Element). length e.text) c.index-elements-count.is, c.elements.invariant.before)

pub bit-requires-clause-fits : goal.bit-requires-clause-fits
bit-requires-clause-fits c =
    let p = c.args.piece.now in
    let es = c.args.elements.now in
    let x = c.index-elements-count.result in
    let own = are-own p es (subst IsUtf8 c.as_str-size.ensures c.as_str-size.utf8) c.requires.elements in
    let lt = progress p es c.elements.count own c.elements.invariant.within (omega (arith, c.elements-test.true, c.elements.invariant.before, ap length c.as_str-size.ensures)) in
    omega (arith, (own.more c.elements.count x lt).1, ap (λ (e : Element). length e.text) c.index-elements-count.is, c.elements.invariant.before, ap length c.as_str-size.ensures)

pub elements-smaller : goal.elements-smaller
elements-smaller c =
    let p = c.args.piece.now in
    let es = c.args.elements.now in
    let x = c.index-elements-count.result in
    let own = are-own p es (subst IsUtf8 c.as_str-size.ensures c.as_str-size.utf8) c.requires.elements in
    let lt = progress p es c.elements.count own c.elements.invariant.within (omega (arith, c.elements-test.true, c.elements.invariant.before, ap length c.as_str-size.ensures)) in
    omega (arith, (own.more c.elements.count x lt).0, ap (λ (e : Element). length e.text) c.index-elements-count.is, ap length c.as_str.ensures, c.elements-test.true)

pub elements-preserved : goal.elements-preserved
elements-preserved c =
    let p = c.args.piece.now in
    let es = c.args.elements.now in
    let k = c.elements.count in
    let x = c.index-elements-count.result in
    let old = c.args.bits.now.items in
    let own = are-own p es (subst IsUtf8 c.as_str-size.ensures c.as_str-size.utf8) c.requires.elements in
    let lt = progress p es k own c.elements.invariant.within (omega (arith, c.elements-test.true, c.elements.invariant.before, ap length c.as_str-size.ensures)) in
    let more : take (k + 1) es ≡ take k es ++ x ∷ [] = take_more es k x (omega (arith, lt, own.within)) ∙ ap (λ (e : Element). take k es ++ e ∷ []) (sym c.index-elements-count.is) in
    let at : c.elements.before ≡ 0 + bytes_of (take k es) = omega (arith, c.elements.invariant.before) in
    record {
      within = omega (arith, lt);
      before = omega (arith, c.elements.invariant.before, ap bytes_of more, bytes-more (take k es) x, ap length c.as_str.ensures);
      bits =
          c.in_ok-push.ensures.items
          ∙ (λ i. c.elements.invariant.bits i ++ c.in_ok-bit.ensures i ∷ [])
          ∙ append_assoc old (bits_in p 0 (take k es)) (bit p c.elements.before x ∷ [])
          ∙ ap (λ (l : List RowPiece). old ++ l)
          (ap (λ (n : ℕ). bits_in p 0 (take k es) ++ bit p n x ∷ []) at ∙ sym (bits-more p 0 (take k es) x) ∙ ap (bits_in p 0) (sym more));
    }

pub returns-clause-bits : goal.returns-clause-bits
returns-clause-bits c =
    let p = c.args.piece.now in
    let es = c.args.elements.now in
    let own = are-own p es (subst IsUtf8 c.as_str-size.ensures c.as_str-size.utf8) c.requires.elements in
    let all = finished p es c.elements.count own c.elements.invariant.within (omega (arith, c.elements-test.false, c.elements.invariant.before, ap length c.as_str-size.ensures)) in
    c.elements.invariant.bits ∙ ap (λ (n : ℕ). c.args.bits.now.items ++ bits_in p 0 (take n es)) all

pub returns-clause-count : goal.returns-clause-count
returns-clause-count c =
    let p = c.args.piece.now in
    let es = c.args.elements.now in
    let own = are-own p es (subst IsUtf8 c.as_str-size.ensures c.as_str-size.utf8) c.requires.elements in
    finished p es c.elements.count own c.elements.invariant.within (omega (arith, c.elements-test.false, c.elements.invariant.before, ap length c.as_str-size.ensures))
