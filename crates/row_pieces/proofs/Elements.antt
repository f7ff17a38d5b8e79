-- The elements that are in a piece of a line, and their bytes.
use Rattle.std.proofs.Common.{◌≡◌, ℕ, ◌+◌, ◌<◌, ◌≤◌, zero, suc, Bool, true, false, cond, List, [], ◌∷◌, ◌++◌, length, map, take, drop, get_or, encode_utf8, encode_utf8_all, refl, sym, ap, subst, ◌∙◌, inl, inr, arith, append-nil, length-append}
use Rattle.std.specs.List.{concat}
use Rattle.std.specs.Str.{IsUtf8, chars}
use Rattle.std.proofs.lemmas.Bool.{cases_lt}
use Rattle.std.proofs.lemmas.List.{drop-map, drop_at, drop_more, get_or-take, length-map, length-take-le, take-map, take-take, take_at}
use Rattle.unicode_segmentation.specs.Grapheme.{graphemes, is_grapheme_break}
use Rattle.unicode_segmentation.specs.Segments.{Rule, cut, prepend, segments}
use Rattle.unicode_segmentation.proofs.SegmentsLemmas.{concat-segments}
use Rattle.unicode_segmentation.proofs.TextLemmas.{encode_utf8_nonempty}
use Rattle.cell_units.specs.declared.piece.Piece.{Piece}
use Rattle.cell_line.specs.declared.element.Element.{Element}
use Rattle.cell_line.specs.Elements.{clusters}
use Rattle.cell_line.specs.Wrapping.{nothing}
use Rattle.cell_line.proofs.Placed.{clusters_step}
use Rattle.row_pieces.specs.declared.row_piece.RowPiece.{RowPiece}
use Rattle.row_pieces.specs.Pieces.{bit, bits, bits_in, count_in}
use Rattle.row_pieces.specs.inside.Lines.{BeginWith}

-- ---- no cluster is empty

abbrev AreSome : List (List ℕ) → Type 0
AreSome [] = Unit {0}
AreSome (t ∷ ts) = (0 < length t) × AreSome ts

prepend-some : (c : ℕ) (ps : List (List ℕ)) → AreSome ps → AreSome (prepend (c ∷ []) ps)
prepend-some c [] h = (omega arith, tt)
prepend-some c (p ∷ ps) h = (omega arith, h.1)

cut-some : (rule : Rule) (before cs after : List ℕ) → AreSome (cut rule before cs after)
unfolding cut
cut-some rule before [] after = tt
cut-some rule before (c ∷ cs) after = go (rule (c ∷ before) (cs ++ after)) (cut-some rule (c ∷ before) cs after) where
  go : (b : Bool) → AreSome (cut rule (c ∷ before) cs after) → AreSome (cond b ((c ∷ []) ∷ cut rule (c ∷ before) cs after) (prepend (c ∷ []) (cut rule (c ∷ before) cs after)))
  go true h = (omega arith, h)
  go false h = prepend-some c (cut rule (c ∷ before) cs after) h

encoded-some : (ps : List (List ℕ)) → AreSome ps → AreSome (map encode_utf8_all ps)
encoded-some [] h = tt
encoded-some ([] ∷ ps) h = absurd (omega (arith, h.0))
encoded-some ((c ∷ cs) ∷ ps) h = (omega (arith, encode_utf8_nonempty c, length-append (encode_utf8 c) (encode_utf8_all cs)), encoded-some ps h.1)

graphemes-some : (text : List ℕ) → AreSome (graphemes true text)
unfolding segments
graphemes-some text = encoded-some (cut (is_grapheme_break true) [] (chars text) []) (cut-some (is_grapheme_break true) [] (chars text) [])

-- ---- the bytes of elements

abbrev pub bytes_of : List Element → ℕ
bytes_of es = length (concat (map (λ (e : Element). e.text) es))

pub bytes-more : (es : List Element) (e : Element) → bytes_of (es ++ e ∷ []) ≡ bytes_of es + length e.text
bytes-more [] e = omega (arith, ap length (append-nil e.text))
bytes-more (x ∷ xs) e =
    omega (arith, bytes-more xs e, length-append x.text (concat (map (λ (e : Element). e.text) (xs ++ e ∷ []))), length-append x.text (concat (map (λ (e : Element). e.text) xs)))

pub bits-more : (p : Piece) (before : ℕ) (es : List Element) (e : Element) →
    bits_in p before (es ++ e ∷ []) ≡ bits_in p before es ++ bit p (before + bytes_of es) e ∷ []
bits-more p before [] e = ap (λ (n : ℕ). bit p n e ∷ []) (omega arith)
bits-more p before (x ∷ xs) e =
    let at : before + length x.text + bytes_of xs ≡ before + bytes_of (x ∷ xs) = omega (arith, length-append x.text (concat (map (λ (e : Element). e.text) xs))) in
    ap (λ (l : List RowPiece). bit p before x ∷ l)
    (bits-more p (before + length x.text) xs e ∙ ap (λ (n : ℕ). bits_in p (before + length x.text) xs ++ bit p n e ∷ []) at)

-- elements with some bytes each
abbrev HaveBytes : List Element → Type 0
HaveBytes es = AreSome (map (λ (e : Element). e.text) es)

-- the bytes of the first of them, and of one more, are no more than those of all; and less than all where some are left
upto : (es : List Element) (k : ℕ) (d : Element) → HaveBytes es → k < length es →
    (0 < length (get_or es k d).text) × (bytes_of (take k es) + length (get_or es k d).text ≤ bytes_of es)
upto [] k d h lt = absurd (omega (arith, lt))
upto (e ∷ es) zero d h lt = (h.0, omega (arith, length-append e.text (concat (map (λ (e : Element). e.text) es))))
upto (e ∷ es) (suc k) d h lt =
    let rest = upto es k d h.1 (omega (arith, lt)) in
    (rest.0, omega (arith, rest.1, length-append e.text (concat (map (λ (e : Element). e.text) es)), length-append e.text (concat (map (λ (e : Element). e.text) (take k es)))))

-- the elements of a piece are the first of these
pub record AreOwn (p : Piece) (es : List Element) : Type 0 where
  pub within : count_in p ≤ length es
  pub bytes : bytes_of (take (count_in p) es) ≡ length p.text
  pub more : (k : ℕ) (d : Element) → k < count_in p → (0 < length (get_or es k d).text) × (bytes_of (take k es) + length (get_or es k d).text ≤ length p.text)

pub are-own : (p : Piece) (es : List Element) → IsUtf8 p.text → BeginWith p es → AreOwn p es
are-own p es utf8 b =
    let gs = graphemes true p.text in
    let n = count_in p in
    let long : length es ≡ n + length b.0 = sym (length-map es (λ (e : Element). e.text)) ∙ ap length b.1 ∙ length-append gs b.0 in
    let texts : map (λ (e : Element). e.text) (take n es) ≡ gs = sym (take-map (λ (e : Element). e.text) n es) ∙ ap (take n) b.1 ∙ take_at gs b.0 n refl in
    let bytes : bytes_of (take n es) ≡ length p.text = ap (λ (l : List (List ℕ)). length (concat l)) texts ∙ ap length (concat-segments (is_grapheme_break true) p.text utf8) in
    let some : HaveBytes (take n es) = subst AreSome (sym texts) (graphemes-some p.text) in
    record {
      within = omega (arith, long);
      bytes = bytes;
      more = λ k d lt.
          let front = upto (take n es) k d some (omega (arith, lt, length-take-le n es (omega (arith, long)))) in
          let same : get_or (take n es) k d ≡ get_or es k d = get_or-take n es k d lt in
          let fewer : take k (take n es) ≡ take k es = take-take k n es (omega (arith, lt)) in
          let size : length (get_or (take n es) k d).text ≡ length (get_or es k d).text = ap (λ (e : Element). length e.text) same in
          (omega (arith, front.0, size), omega (arith, front.1, size, ap bytes_of fewer, bytes));
    }

-- some are left where bytes are left, and none where none are
pub progress : (p : Piece) (es : List Element) (k : ℕ) → AreOwn p es → k ≤ count_in p → bytes_of (take k es) < length p.text → k < count_in p
progress p es k own le lt = elim (cases_lt k (count_in p)) [
  | inl less ↦ less
  | inr ge ↦ let same : k ≡ count_in p = omega (arith, le, ge) in absurd (omega (arith, lt, own.bytes, ap (λ (n : ℕ). bytes_of (take n es)) same))
]

pub finished : (p : Piece) (es : List Element) (k : ℕ) → AreOwn p es → k ≤ count_in p → length p.text ≤ bytes_of (take k es) → k ≡ count_in p
finished p es k own le end = elim (cases_lt k (count_in p)) [
  | inl less ↦ let m = own.more k nothing less in absurd (omega (arith, m.0, m.1, end))
  | inr ge ↦ omega (arith, le, ge)
]

-- ---- the pieces of a line in turn

module _ (pieces : List Piece) (i : ℕ) (p : Piece) (lt : i < length pieces) (is : p ≡ get_or pieces i p) (es : List Element)
    (texts : map (λ (e : Element). e.text) es ≡ clusters (drop i pieces)) where
  abbrev pub begin-with : BeginWith p es
  begin-with = (clusters (drop (i + 1) pieces), texts ∙ clusters_step pieces i p lt is)

  pub enough : count_in p ≤ length es
  enough = omega (arith, length-map es (λ (e : Element). e.text), ap length begin-with.1, length-append (graphemes true p.text) (clusters (drop (i + 1) pieces)))

  pub texts-rest : map (λ (e : Element). e.text) (drop (count_in p) es) ≡ clusters (drop (i + 1) pieces)
  texts-rest = sym (drop-map (λ (e : Element). e.text) (count_in p) es) ∙ ap (drop (count_in p)) begin-with.1 ∙ drop_at (graphemes true p.text) (clusters (drop (i + 1) pieces)) (count_in p) refl

  pub bits-step : bits (drop i pieces) es ≡ bits_in p 0 (take (count_in p) es) ++ bits (drop (i + 1) pieces) (drop (count_in p) es)
  bits-step = ap (λ (ps : List Piece). bits ps es) (drop_more pieces i p lt ∙ ap (λ (x : Piece). x ∷ drop (i + 1) pieces) (sym is))
