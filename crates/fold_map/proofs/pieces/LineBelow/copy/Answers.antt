use Rattle.std.proofs.Common.{◌≡◌, ◌+◌, ◌-◌, ◌<◌, ◌≤◌, max, min, ℕ, List, [], ◌∷◌, ◌++◌, length, take, get_or, ap, sym, subst, ◌∙◌, arith, append_assoc, take_all}
use Rattle.std.specs.Str.{IsUtf8}
use Rattle.cell_units.specs.declared.piece.Piece.{Piece}
use Rattle.fold_map.specs.LinePieces.{MayCutOut, cut_piece}
use Rattle.fold_map.proofs.CopiedPieces.{all-copied, begin, copied-none, copied-some, cut-out, next-begin, next-fits}
use Rattle.fold_map.proofs.LinesCopied.{copied}
use Rattle.fold_map.proofs.pieces.LineBelow.copy.Goals as goal
use Rattle.fold_map.proofs.pieces.LineBelow.copy.Goals.{then-first-last+in_ok-cut+in_ok-push, else-first-last}

pub overflow_cast-end : goal.overflow_cast-end
overflow_cast-end c =
    let line = c.args.self.now in
    let m = c.requires in
    let i = c.loop-piece.piece-index in
    let items = line.pieces.items in
    let d = c.piece-item.result in
    let lt : i < length items = omega (arith, c.loop-piece-test.true, ap (λ (l : List Piece). length l) c.deref-piece-items.ensures.value) in
    let is : d ≡ get_or items i d = c.piece-item.is ∙ ap (λ (l : List Piece). get_or l i d) c.deref-piece-items.ensures.value in
    let long : length c.as_str.result.now ≡ length (get_or items i d).text = ap (λ (l : List ℕ). length l) (c.as_str.ensures ∙ ap (λ (p : Piece). p.text) is) in
    let bg : c.loop-piece.begin ≡ begin line c.args.from c.args.to m i d lt = c.loop-piece.invariant.begin in
    omega (arith, long, next-fits line c.args.from c.args.to m i d lt, m.fits)

pub overflow_add-end : goal.overflow_add-end
overflow_add-end c =
    let line = c.args.self.now in
    let m = c.requires in
    let i = c.loop-piece.piece-index in
    let items = line.pieces.items in
    let d = c.piece-item.result in
    let lt : i < length items = omega (arith, c.loop-piece-test.true, ap (λ (l : List Piece). length l) c.deref-piece-items.ensures.value) in
    let is : d ≡ get_or items i d = c.piece-item.is ∙ ap (λ (l : List Piece). get_or l i d) c.deref-piece-items.ensures.value in
    let long : length c.as_str.result.now ≡ length (get_or items i d).text = ap (λ (l : List ℕ). length l) (c.as_str.ensures ∙ ap (λ (p : Piece). p.text) is) in
    let bg : c.loop-piece.begin ≡ begin line c.args.from c.args.to m i d lt = c.loop-piece.invariant.begin in
    omega (arith, long, bg, next-fits line c.args.from c.args.to m i d lt, m.fits)

pub cut-requires : goal.cut-requires
cut-requires c =
    let line = c.args.self.now in
    let m = c.requires in
    let i = c.loop-piece.piece-index in
    let items = line.pieces.items in
    let d = c.piece-item.result in
    let lt : i < length items = omega (arith, c.loop-piece-test.true, ap (λ (l : List Piece). length l) c.deref-piece-items.ensures.value) in
    let is : d ≡ get_or items i d = c.piece-item.is ∙ ap (λ (l : List Piece). get_or l i d) c.deref-piece-items.ensures.value in
    let long : length c.as_str.result.now ≡ length (get_or items i d).text = ap (λ (l : List ℕ). length l) (c.as_str.ensures ∙ ap (λ (p : Piece). p.text) is) in
    let bg : c.loop-piece.begin ≡ begin line c.args.from c.args.to m i d lt = c.loop-piece.invariant.begin in
    let mx : c.max-first.result ≡ max c.args.from (begin line c.args.from c.args.to m i d lt) = c.max-first.ensures ∙ ap (max c.args.from) bg in
    let mn : c.min-last.result ≡ min c.args.to (begin line c.args.from c.args.to m i d lt + length (get_or items i d).text) = c.min-last.ensures ∙ (λ k. min c.args.to (bg k + long k)) in
    let utf8 = subst IsUtf8 (c.as_str.ensures ∙ ap (λ (p : Piece). p.text) is) c.as_str.utf8 in
    let out = cut-out line c.args.from c.args.to m i d lt utf8 (omega (arith, c.if-first-last.true, mx, mn)) in
    let p = get_or items i d in
    let first : c.max-first.result - c.loop-piece.begin ≡ max c.args.from (begin line c.args.from c.args.to m i d lt) - begin line c.args.from c.args.to m i d lt = λ k. mx k - bg k in
    let last : c.min-last.result - c.loop-piece.begin ≡ min c.args.to (begin line c.args.from c.args.to m i d lt + length p.text) - begin line c.args.from c.args.to m i d lt = λ k. mn k - bg k in
    subst (λ (q : Piece). MayCutOut q (c.max-first.result - c.loop-piece.begin) (c.min-last.result - c.loop-piece.begin)) (sym is)
    (subst (λ (n : ℕ). MayCutOut p n (c.min-last.result - c.loop-piece.begin)) (sym first)
    (subst (λ (n : ℕ). MayCutOut p (max c.args.from (begin line c.args.from c.args.to m i d lt) - begin line c.args.from c.args.to m i d lt) n) (sym last) out))

pub loop-piece-preserved : goal.loop-piece-preserved
loop-piece-preserved c =
    let line = c.args.self.now in
    let m = c.requires in
    let i = c.loop-piece.piece-index in
    let items = line.pieces.items in
    let d = c.piece-item.result in
    let lt : i < length items = omega (arith, c.loop-piece-test.true, ap (λ (l : List Piece). length l) c.deref-piece-items.ensures.value) in
    let is : d ≡ get_or items i d = c.piece-item.is ∙ ap (λ (l : List Piece). get_or l i d) c.deref-piece-items.ensures.value in
    let long : length c.as_str.result.now ≡ length (get_or items i d).text = ap (λ (l : List ℕ). length l) (c.as_str.ensures ∙ ap (λ (p : Piece). p.text) is) in
    let bg : c.loop-piece.begin ≡ begin line c.args.from c.args.to m i d lt = c.loop-piece.invariant.begin in
    let mx : c.max-first.result ≡ max c.args.from (begin line c.args.from c.args.to m i d lt) = c.max-first.ensures ∙ ap (max c.args.from) bg in
    let mn : c.min-last.result ≡ min c.args.to (begin line c.args.from c.args.to m i d lt + length (get_or items i d).text) = c.min-last.ensures ∙ (λ k. min c.args.to (bg k + long k)) in
    let old = c.args.pieces.now.items in
    let so-far = copied c.args.from c.args.to line.start (take i items) in
    record {
      begin =
          elim c.if-first-last.branch [
            | then-first-last+in_ok-cut+in_ok-push w ↦ omega (arith, w.begin-is, bg, long, next-begin line c.args.from c.args.to m i d lt)
            | else-first-last w ↦ omega (arith, w.begin-is, bg, long, next-begin line c.args.from c.args.to m i d lt)
          ];
      done =
          elim c.if-first-last.branch [
            | then-first-last+in_ok-cut+in_ok-push w ↦
                let one : w.in_ok-cut.field-0 ≡ cut_piece (max c.args.from (begin line c.args.from c.args.to m i d lt) - begin line c.args.from c.args.to m i d lt) (min c.args.to (begin line c.args.from c.args.to m i d lt + length (get_or items i d).text) - begin line c.args.from c.args.to m i d lt) (get_or items i d) =
                w.in_ok-cut.ensures ∙ (λ k. cut_piece (mx k - bg k) (mn k - bg k) (is k)) in
                ap (λ x. x.items) w.pieces-is
                ∙ w.in_ok-push.ensures.items
                ∙ (λ k. c.loop-piece.invariant.done k ++ one k ∷ [])
                ∙ append_assoc old so-far _
                ∙ ap (λ (l : List Piece). old ++ l) (sym (copied-some line c.args.from c.args.to m i d lt (omega (arith, w.if-first-last.true, mx, mn))))
            | else-first-last w ↦
                ap (λ x. x.items) w.pieces-is
                ∙ c.loop-piece.invariant.done
                ∙ ap (λ (l : List Piece). old ++ l) (sym (copied-none line c.args.from c.args.to m i d lt (omega (arith, w.if-first-last.false, mx, mn))))
          ];
    }

pub returns : goal.returns
returns c =
    let line = c.args.self.now in
    let items = line.pieces.items in
    let past : length items ≤ c.loop-piece.piece-index = omega (arith, c.loop-piece-test.false, ap (λ (l : List Piece). length l) c.deref-piece-items.ensures.value) in
    c.loop-piece.invariant.done
    ∙ ap (λ (l : List Piece). c.args.pieces.now.items ++ l)
    (ap (copied c.args.from c.args.to line.start) (take_all c.loop-piece.piece-index items past) ∙ all-copied line c.args.from c.args.to c.requires)
