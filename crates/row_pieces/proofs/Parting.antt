-- Where joined pieces are parted, their elements are parted too.
use Rattle.std.proofs.Common.{◌≡◌, suc, Bool, true, false, cond, List, [], ◌∷◌, ◌++◌, length, drop, get_or, refl, sym, ap, ◌∙◌, subst, arith}
use Rattle.row_pieces.specs.declared.row_piece.RowPiece.{RowPiece}
use Rattle.row_pieces.specs.Laws.{PartsElements}
use Rattle.row_pieces.specs.Pieces.{is_one, joined, merged, piece_before}

cons≢nil : (p : RowPiece) (ps : List RowPiece) → p ∷ ps ≡ [] → ⊥
cons≢nil p ps e = omega (arith, ap length e)

nil-both : (xs ys : List RowPiece) → [] ≡ xs ++ ys → ([] ≡ xs) × ([] ≡ ys)
nil-both [] ys e = (refl, e)
nil-both (x ∷ xs) ys e = absurd (cons≢nil x (xs ++ ys) (sym e))

module _ (p : RowPiece) (ps before after : List RowPiece) where
  -- one more before the elements that are before it
  one_more : (s : PartsElements ps before after) (all : List RowPiece) → piece_before p before ≡ all → PartsElements (p ∷ ps) all after
  one_more s all e = record {
    place = suc s.place;
    within = omega (arith, s.within);
    front = ap (piece_before p) s.front ∙ e;
    rest = s.rest;
  }

abbrev Parts : List RowPiece → Type 0
Parts us = (before after : List RowPiece) → joined us ≡ before ++ after → PartsElements us before after

pub parted-elements : (us before after : List RowPiece) → joined us ≡ before ++ after → PartsElements us before after
parted-elements us [] after e = record { place = 0; within = omega arith; front = refl; rest = e }
parted-elements [] (b ∷ bs) after e = absurd (cons≢nil b (bs ++ after) (sym e))
parted-elements (p ∷ ps) (b ∷ bs) after e = go (λ xs ys k. parted-elements ps xs ys k) (joined ps) refl where
  unmerged : Parts ps → (q : RowPiece) (qs : List RowPiece) → joined ps ≡ q ∷ qs → (t : Bool) → is_one p.kind q.kind ≡ t →
      cond t (merged p q ∷ qs) (p ∷ q ∷ qs) ≡ b ∷ (bs ++ after) → PartsElements (p ∷ ps) (b ∷ bs) after
  unmerged ih q qs are true one is =
      let rest : qs ≡ bs ++ after = ap (drop 1) is in
      let head : merged p q ≡ b = ap (λ (l : List RowPiece). get_or l 0 p) is in
      let s = ih (q ∷ bs) after (are ∙ ap (λ (l : List RowPiece). q ∷ l) rest) in
      one_more p ps (q ∷ bs) after s (b ∷ bs)
      (ap (λ (t : Bool). cond t (merged p q ∷ bs) (p ∷ q ∷ bs)) one ∙ ap (λ (x : RowPiece). x ∷ bs) head)
  unmerged ih q qs are false one is =
      let rest : q ∷ qs ≡ bs ++ after = ap (drop 1) is in
      let head : p ≡ b = ap (λ (l : List RowPiece). get_or l 0 p) is in
      one_more p ps bs after (ih bs after (are ∙ rest)) (b ∷ bs) (apart bs rest ∙ ap (λ (x : RowPiece). x ∷ bs) head) where
        apart : (cs : List RowPiece) → q ∷ qs ≡ cs ++ after → piece_before p cs ≡ p ∷ cs
        apart [] k = refl
        apart (c ∷ cs) k =
            let same : q ≡ c = ap (λ (l : List RowPiece). get_or l 0 p) k in
            ap (λ (t : Bool). cond t (merged p c ∷ cs) (p ∷ c ∷ cs)) (ap (λ (x : RowPiece). is_one p.kind x.kind) (sym same) ∙ one)

  go : Parts ps → (js : List RowPiece) → joined ps ≡ js → PartsElements (p ∷ ps) (b ∷ bs) after
  go ih [] are =
      let all : p ∷ [] ≡ b ∷ (bs ++ after) = sym (ap (piece_before p) are) ∙ e in
      let head : p ≡ b = ap (λ (l : List RowPiece). get_or l 0 p) all in
      let none = nil-both bs after (ap (drop 1) all) in
      subst (λ (cs : List RowPiece). PartsElements (p ∷ ps) (b ∷ bs) cs) none.1
      (subst (λ (cs : List RowPiece). PartsElements (p ∷ ps) (b ∷ cs) []) none.0
      (one_more p ps [] [] (ih [] [] are) (b ∷ []) (ap (λ (x : RowPiece). x ∷ []) head)))
  go ih (q ∷ qs) are = unmerged ih q qs are (is_one p.kind q.kind) refl (sym (ap (piece_before p) are) ∙ e)
