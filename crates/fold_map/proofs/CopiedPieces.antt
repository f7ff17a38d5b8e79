-- The steps of copying pieces: each is cut out between characters, and all together are the prefix of the rest.
use Rattle.std.proofs.Common.{◌≡◌, ℕ, ◌+◌, ◌-◌, ◌<◌, ◌≤◌, ◌^◌, ◌⊎◌, min, max, Bool, cond, List, [], ◌∷◌, ◌++◌, length, length-append, take, drop, get_or, refl, sym, ap, ◌∙◌, subst, inl, inr, arith, append-nil}
use Rattle.std.specs.Str.{IsCharBoundary, IsUtf8}
use Rattle.std.proofs.lemmas.Bool.{cases_lt, le-ltb, lt-ltb}
use Rattle.std.proofs.lemmas.List.{drop_more, get_or-append-add, get_or_append_left, take-append-drop, take_more}
use Rattle.std.proofs.lemmas.List.Concat.{flat_map-append}
use Rattle.std.proofs.lemmas.Str.{IsCharBoundary-start}
use Rattle.cell_units.specs.declared.piece.Piece.{Piece}
use Rattle.cell_units.specs.declared.piece.PieceKind.{PieceKind}
use Rattle.cell_units.specs.declared.piece.PieceKind.TheVariants.{Buffer, Inlay, Placeholder}
use Rattle.cell_units.specs.Folding.{front_pieces, offset_in, rest_pieces}
use Rattle.cell_units.proofs.CutLists.{Every-mono}
use Rattle.cell_units.proofs.FoundEntries.{Every-from_All}
use Rattle.fold_map.specs.declared.pieces.LineBelow.{LineBelow}
use Rattle.fold_map.specs.LinePieces.{IsWhole, MayCopy, MayCut, MayCutOut, bytes_in, cut_piece}
use Rattle.fold_map.proofs.LinesCopied.{HasBytes, copied, copied-is, copied-more, copied_one}

-- a boundary of the whole is one of a part
part-boundary : (xs ys zs : List ℕ) (k : ℕ) → k < length ys → IsCharBoundary (xs ++ (ys ++ zs)) (length xs + k) → IsCharBoundary ys k
part-boundary xs ys zs k lt h =
    let byte : get_or (xs ++ (ys ++ zs)) (length xs + k) 0 ≡ get_or ys k 0 = get_or-append-add xs (ys ++ zs) k 0 ∙ get_or_append_left ys zs 0 k lt in (
      omega (arith, lt),
      λ l from. let high = h.1 (omega (arith, l, length-append xs (ys ++ zs), length-append ys zs)) (omega (arith, from, byte)) in omega (arith, high, byte),
    )

-- an offset in a piece is one of its ends, or between them
pub offset-small : (p : Piece) (n : ℕ) → IsWhole p → n ≤ length p.text → p.start < 2 ^ 32 → p.end < 2 ^ 32 → offset_in p.kind p.start n < 2 ^ 32
offset-small p n w le first last = go p.kind refl where
  go : (k : PieceKind) → p.kind ≡ k → offset_in k p.start n < 2 ^ 32
  go Buffer e = omega (arith, w.buffer e, le, last)
  go (Inlay id) e = omega (arith, first)
  go Placeholder e = omega (arith, first)

module _ (line : LineBelow) (from to : ℕ) (m : MayCopy line from to) where
  abbrev items : List Piece
  items = line.pieces.items

  -- all that is copied
  pub all-copied : copied from to line.start items ≡ front_pieces (to - from) (rest_pieces (from - line.start) items)
  all-copied =
      let same : max from line.start ≡ from = omega (arith, m.start) in
      copied-is from to line.start items m.order (Every-mono IsWhole HasBytes items (λ p w. w.some) (Every-from_All IsWhole items m.each))
      ∙ ap (λ (k : ℕ). front_pieces (to - k) (rest_pieces (from - line.start) items)) same

  module _ (i : ℕ) (d : Piece) (lt : i < length items) where
    abbrev p : Piece
    p = get_or items i d

    abbrev front : List ℕ
    front = bytes_in (take i items)

    abbrev behind : List ℕ
    behind = bytes_in (drop (i + 1) items)

    abbrev pub begin : ℕ
    begin = line.start + length front

    whole : bytes_in items ≡ front ++ (p.text ++ behind)
    whole =
        ap bytes_in (sym (take-append-drop i items) ∙ ap (λ (l : List Piece). take i items ++ l) (drop_more items i d lt))
        ∙ flat_map-append (λ q. q.text) (take i items) (p ∷ drop (i + 1) items)

    pub next-begin : begin + length p.text ≡ line.start + length (bytes_in (take (i + 1) items))
    next-begin =
        omega (
          arith,
          ap (λ (l : List Piece). length (bytes_in l)) (take_more items i d lt),
          ap (λ (l : List ℕ). length l) (flat_map-append (λ q. q.text) (take i items) (p ∷ [])),
          length-append front (p.text ++ []),
          length-append p.text [],
        )

    pub next-fits : begin + length p.text ≤ line.start + length (bytes_in items)
    next-fits = omega (arith, ap (λ (l : List ℕ). length l) whole, length-append front (p.text ++ behind), length-append p.text behind)

    boundary : (n k : ℕ) → MayCut (n - line.start) (bytes_in items) → n ≡ begin + k → 0 < k → k < length p.text → IsCharBoundary p.text k
    boundary n k may e some within =
        let there : n - line.start ≡ length front + k = omega (arith, e) in
        let is = may (omega (arith, there, some)) (omega (arith, there, within, ap (λ (l : List ℕ). length l) whole, length-append front (p.text ++ behind), length-append p.text behind)) in
        part-boundary front p.text behind k within (subst (λ (b : List ℕ). IsCharBoundary b (length front + k)) whole (subst (IsCharBoundary (bytes_in items)) there is))

    pub cut-out : IsUtf8 p.text → max from begin < min to (begin + length p.text) → MayCutOut p (max from begin - begin) (min to (begin + length p.text) - begin)
    cut-out utf8 some = record {
      order = omega (arith, some);
      within = omega (arith, some);
      first = first (cases_lt begin from);
      last = last (cases_lt to (begin + length p.text));
      whole = m.each i d lt;
    } where
      first : (begin < from) ⊎ (from ≤ begin) → IsCharBoundary p.text (max from begin - begin)
      first (inl more) = boundary from (max from begin - begin) m.first (omega (arith, more)) (omega (arith, more)) (omega (arith, more, some))
      first (inr none) = let zero-is : 0 ≡ max from begin - begin = omega (arith, none) in subst (IsCharBoundary p.text) zero-is (IsCharBoundary-start p.text utf8)

      last : (to < begin + length p.text) ⊎ (begin + length p.text ≤ to) → IsCharBoundary p.text (min to (begin + length p.text) - begin)
      last (inl less) = boundary to (min to (begin + length p.text) - begin) m.last (omega (arith, less, some)) (omega (arith, less, some)) (omega (arith, less, some))
      last (inr all) = (omega (arith, all), λ l. absurd (omega (arith, l, all)))

    -- one piece more, copied or not
    pub copied-next : copied from to line.start (take (i + 1) items) ≡ copied from to line.start (take i items) ++ copied_one from to begin p
    copied-next = ap (copied from to line.start) (take_more items i d lt) ∙ copied-more from to line.start (take i items) p

    pub copied-some : max from begin < min to (begin + length p.text)
        → copied from to line.start (take (i + 1) items) ≡ copied from to line.start (take i items) ++ cut_piece (max from begin - begin) (min to (begin + length p.text) - begin) p ∷ []
    copied-some some =
        copied-next
        ∙ ap (λ (b : Bool). copied from to line.start (take i items) ++ cond b (cut_piece (max from begin - begin) (min to (begin + length p.text) - begin) p ∷ []) []) (lt-ltb (max from begin) (min to (begin + length p.text)) some)

    pub copied-none : min to (begin + length p.text) ≤ max from begin → copied from to line.start (take (i + 1) items) ≡ copied from to line.start (take i items)
    copied-none none =
        copied-next
        ∙ ap (λ (b : Bool). copied from to line.start (take i items) ++ cond b (cut_piece (max from begin - begin) (min to (begin + length p.text) - begin) p ∷ []) []) (le-ltb (max from begin) (min to (begin + length p.text)) none)
        ∙ append-nil (copied from to line.start (take i items))
