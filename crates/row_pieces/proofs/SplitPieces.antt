-- Where a place of a line parts its pieces, it parts its elements too.
use Rattle.std.proofs.Common.{◌≡◌, ◌⊎◌, ℕ, ◌+◌, ◌-◌, ◌<◌, ◌≤◌, ltb, eqb, zero, suc, Bool, true, false, cond, not, ◌&&◌, ◌||◌, List, [], ◌∷◌, ◌++◌, length, map, take, drop, get_or, refl, sym, ap, subst, ◌∙◌, inl, inr, arith, length-append}
use Rattle.std.specs.List.{All, concat}
use Rattle.std.specs.Str.{IsUtf8}
use Rattle.std.proofs.lemmas.Bool.{cases_lt, false≢true}
use Rattle.std.proofs.lemmas.Bool.Decides.{nat_tests}
use Rattle.std.proofs.lemmas.List.{drop-map, take-append-drop, length-map, take_at, drop_at, length-take-le}
use Rattle.unicode_segmentation.specs.Grapheme.{graphemes}
use Rattle.cell_units.specs.declared.piece.Piece.{Piece}
use Rattle.cell_units.specs.declared.piece.PieceKind.{PieceKind}
use Rattle.cell_units.specs.declared.piece.PieceKind.TheVariants.{Buffer, Inlay, Placeholder}
use Rattle.cell_units.specs.declared.place.Bias.{Bias}
use Rattle.cell_units.specs.declared.place.Bias.TheVariants.{Left, Right}
use Rattle.cell_units.proofs.CutLists.{Every}
use Rattle.cell_line.specs.declared.element.Element.{Element}
use Rattle.cell_line.specs.Elements.{clusters}
use Rattle.cell_line.specs.Wrapping.{nothing}
use Rattle.plain_rows.specs.Spots.{elements_before, is_within}
use Rattle.row_pieces.specs.declared.row_piece.RowPiece.{RowPiece}
use Rattle.row_pieces.specs.Pieces.{bits, bits_in, count_in, end_at, start_at}
use Rattle.row_pieces.proofs.Elements.{are-own, bytes_of}

-- elements that lie apart from an offset, by recursion
abbrev pub Before : ℕ → List RowPiece → Type 0
Before o = Every (λ e. e.end ≤ o)

abbrev pub After : ℕ → List RowPiece → Type 0
After o = Every (λ e. o ≤ e.start)

pub record Apart (elements : List RowPiece) (place o : ℕ) : Type 0 where
  pub before : Before o (take place elements)
  pub others : After o (drop place elements)

every-append : {X : Type 0} (P : X → Type 0) (xs ys : List X) → Every P xs → Every P ys → Every P (xs ++ ys)
every-append P [] ys h k = k
every-append P (x ∷ xs) ys h k = (h.0, every-append P xs ys h.1 k)

-- where some lie before and those after them apart, all lie apart
apart-append : (xs ys : List RowPiece) (n o : ℕ) → Before o xs → Apart ys n o → Apart (xs ++ ys) (length xs + n) o
apart-append [] ys n o h a =
    let e : n ≡ 0 + n = omega arith in
    subst (λ (k : ℕ). Apart ys k o) e a
apart-append (x ∷ xs) ys n o h a =
    let rest = apart-append xs ys n o h.1 a in
    let suc_is : suc (length xs + n) ≡ length (x ∷ xs) + n = omega arith in
    subst (λ (k : ℕ). Apart (x ∷ (xs ++ ys)) k o) suc_is (record { before = (h.0, rest.before); others = rest.others })

-- how an offset parts the pieces of a line, of which so many bytes come before it
pub data Splits (o : ℕ) : List Piece → ℕ → Type 0 where
  AtStart : (ps : List Piece) → Every (λ p. o ≤ p.start) ps → Splits o ps 0
  Inside : (p : Piece) (ps : List Piece) (n : ℕ) → p.kind ≡ Buffer → p.start + n ≡ o → n < length p.text → Every (λ q. o ≤ q.start) ps → Splits o (p ∷ ps) n
  Past : (p : Piece) (ps : List Piece) (n : ℕ) → p.end ≤ o → (p.kind ≡ Buffer → p.start + length p.text ≤ o) → Splits o ps n → Splits o (p ∷ ps) (length p.text + n)

-- ---- the elements of one piece

start-after : (k : PieceKind) (p : Piece) (o before : ℕ) → o ≤ p.start → o ≤ start_at k p before
start-after Buffer p o before le = omega (arith, le)
start-after (Inlay id) p o before le = le
start-after Placeholder p o before le = le

end-before : (k : PieceKind) (p : Piece) (o bytes : ℕ) → p.end ≤ o → (k ≡ Buffer → p.start + bytes ≤ o) → end_at k p bytes ≤ o
end-before Buffer p o bytes end le = le refl
end-before (Inlay id) p o bytes end le = end
end-before Placeholder p o bytes end le = end

-- all of them begin at or after the piece's start
after-start : (o : ℕ) (p : Piece) → o ≤ p.start → (before : ℕ) (es : List Element) → After o (bits_in p before es)
after-start o p le before [] = tt
after-start o p le before (e ∷ es) = (start-after p.kind p o before le, after-start o p le (before + length e.text) es)

after-all : (o : ℕ) (ps : List Piece) (es : List Element) → Every (λ p. o ≤ p.start) ps → After o (bits ps es)
after-all o [] es h = tt
after-all o (p ∷ ps) es h =
    every-append (λ (e : RowPiece). o ≤ e.start) (bits_in p 0 (take (count_in p) es)) (bits ps (drop (count_in p) es))
    (after-start o p h.0 0 (take (count_in p) es)) (after-all o ps (drop (count_in p) es) h.1)

-- all of them end at or before its end
before-end : (o : ℕ) (p : Piece) → p.end ≤ o → (p.kind ≡ Buffer → p.start + length p.text ≤ o) → (before : ℕ) (es : List Element) → before + bytes_of es ≤ length p.text → Before o (bits_in p before es)
before-end o p end le before [] few = tt
before-end o p end le before (e ∷ es) few =
    let more : length (e.text ++ concat (map (λ (e : Element). e.text) es)) ≡ length e.text + bytes_of es = length-append e.text (concat (map (λ (e : Element). e.text) es)) in (
      end-before p.kind p o (before + length e.text) end (λ is. omega (arith, le is, few, more)),
      before-end o p end le (before + length e.text) es (omega (arith, few, more)),
    )

-- ---- elements before a byte

abbrev pub HaveBytes : List Element → Type 0
HaveBytes = Every (λ e. 0 < length e.text)

at-zero : (es : List Element) (bias : Bias) → elements_before es 0 bias ≡ 0
at-zero [] bias = refl
at-zero (e ∷ es) bias = refl

behind-one : (n x y a : ℕ) → 0 < a → n ≤ a → cond (eqb a 0) 0 (cond (ltb a n) x y) ≡ y
behind-one n x y a h k = grind (arith, nat_tests, h, k)

past-one : (e : Element) (es : List Element) (a : ℕ) (bias : Bias) → 0 < a → length e.text ≤ a → elements_before (e ∷ es) a bias ≡ 1 + elements_before es (a - length e.text) bias
past-one e es a Left some le = behind-one (length e.text) 0 (1 + elements_before es (a - length e.text) Left) a some le
past-one e es a Right some le = behind-one (length e.text) 1 (1 + elements_before es (a - length e.text) Right) a some le

within-past : (e : Element) (es : List Element) (a : ℕ) → 0 < a → is_within (e ∷ es) a ≡ false → (length e.text ≤ a) × (is_within es (a - length e.text) ≡ false)
within-past e es a some h = go (is_within es (a - length e.text)) refl (cases_lt a (length e.text)) h where
  go : (w : Bool) → is_within es (a - length e.text) ≡ w → (a < length e.text) ⊎ (length e.text ≤ a) → (not (eqb a 0) && (ltb a (length e.text) || w)) ≡ false →
      (length e.text ≤ a) × (is_within es (a - length e.text) ≡ false)
  go w k (inl lt) h = absurd (grind (arith, nat_tests, h, lt, some))
  go false k (inr le) h = (le, k)
  go true k (inr le) h = absurd (grind (arith, nat_tests, h, some))

-- all elements of some bytes, and those before a byte after them
pass : (xs es : List Element) (n : ℕ) (bias : Bias) → HaveBytes xs → elements_before (xs ++ es) (bytes_of xs + n) bias ≡ length xs + elements_before es n bias
pass [] es n bias some = let e : 0 + n ≡ n = omega arith in ap (λ (k : ℕ). elements_before es k bias) e ∙ omega arith
pass (x ∷ xs) es n bias some =
    let more : bytes_of (x ∷ xs) ≡ length x.text + bytes_of xs = length-append x.text (concat (map (λ (e : Element). e.text) xs)) in
    let left : bytes_of (x ∷ xs) + n - length x.text ≡ bytes_of xs + n = omega (arith, more) in
    past-one x (xs ++ es) (bytes_of (x ∷ xs) + n) bias (omega (arith, more, some.0)) (omega (arith, more))
    ∙ ap (λ (k : ℕ). 1 + elements_before (xs ++ es) k bias) left
    ∙ ap (λ (k : ℕ). 1 + k) (pass xs es n bias some.1)
    ∙ omega arith

pass-within : (xs es : List Element) (n : ℕ) → HaveBytes xs → is_within (xs ++ es) (bytes_of xs + n) ≡ false → is_within es n ≡ false
pass-within [] es n some h = let e : 0 + n ≡ n = omega arith in subst (λ (k : ℕ). is_within es k ≡ false) e h
pass-within (x ∷ xs) es n some h =
    let more : bytes_of (x ∷ xs) ≡ length x.text + bytes_of xs = length-append x.text (concat (map (λ (e : Element). e.text) xs)) in
    let left : bytes_of (x ∷ xs) + n - length x.text ≡ bytes_of xs + n = omega (arith, more) in
    let past = within-past x (xs ++ es) (bytes_of (x ∷ xs) + n) (omega (arith, more, some.0)) h in
    pass-within xs es n some.1 (subst (λ (k : ℕ). is_within (xs ++ es) k ≡ false) left past.1)

-- a byte of a piece of the buffer
in-piece : (o : ℕ) (p : Piece) → p.kind ≡ Buffer → (xs es : List Element) (ys : List RowPiece) (before n : ℕ) (bias : Bias) → p.start + before + n ≡ o → n < bytes_of xs → is_within (xs ++ es) n ≡ false → After o ys →
    Apart (bits_in p before xs ++ ys) (elements_before (xs ++ es) n bias) o
in-piece o p is [] es ys before n bias at lt out after = absurd (omega (arith, lt))
in-piece o p is (x ∷ xs) es ys before n bias at lt out after =
    let more : bytes_of (x ∷ xs) ≡ length x.text + bytes_of xs = length-append x.text (concat (map (λ (e : Element). e.text) xs)) in
    go (cases_lt 0 n) (λ le away. in-piece o p is xs es ys (before + length x.text) (n - length x.text) bias (omega (arith, at, le)) (omega (arith, lt, more, le)) away after) where
      later : (k : PieceKind) → k ≡ Buffer → n ≡ 0 → (b : ℕ) → before ≤ b → o ≤ start_at k p b
      later Buffer same none b le = omega (arith, at, none, le)
      later (Inlay id) same none b le = absurd (cc same)
      later Placeholder same none b le = absurd (cc same)

      all-later : n ≡ 0 → (b : ℕ) → before ≤ b → (es : List Element) → After o (bits_in p b es)
      all-later none b le [] = tt
      all-later none b le (e ∷ es) = (later p.kind is none b le, all-later none (b + length e.text) (omega (arith, le)) es)

      ends : (k : PieceKind) → k ≡ Buffer → length x.text ≤ n → end_at k p (before + length x.text) ≤ o
      ends Buffer same le = omega (arith, at, le)
      ends (Inlay id) same le = absurd (cc same)
      ends Placeholder same le = absurd (cc same)

      go : (0 < n) ⊎ (n ≤ 0) → (length x.text ≤ n → is_within (xs ++ es) (n - length x.text) ≡ false → Apart (bits_in p (before + length x.text) xs ++ ys) (elements_before (xs ++ es) (n - length x.text) bias) o) →
          Apart (bits_in p before (x ∷ xs) ++ ys) (elements_before ((x ∷ xs) ++ es) n bias) o
      go (inr none) ih =
          let zero_is : 0 ≡ n = omega (arith, none) in
          let place : 0 ≡ elements_before ((x ∷ xs) ++ es) n bias = sym (at-zero ((x ∷ xs) ++ es) bias) ∙ ap (λ (k : ℕ). elements_before ((x ∷ xs) ++ es) k bias) zero_is in
          let all : After o (bits_in p before (x ∷ xs) ++ ys) =
          every-append (λ (e : RowPiece). o ≤ e.start) (bits_in p before (x ∷ xs)) ys (all-later (sym zero_is) before (omega arith) (x ∷ xs)) after in
          subst (λ (k : ℕ). Apart (bits_in p before (x ∷ xs) ++ ys) k o) place (record { before = tt; others = all })
      go (inl some) ih =
          let past = within-past x (xs ++ es) n some out in
          let rest = ih past.0 past.1 in
          let place : suc (elements_before (xs ++ es) (n - length x.text) bias) ≡ elements_before ((x ∷ xs) ++ es) n bias =
          omega (arith, past-one x (xs ++ es) n bias some past.0) in
          subst (λ (k : ℕ). Apart (bits_in p before (x ∷ xs) ++ ys) k o) place
          (record { before = (ends p.kind is past.0, rest.before); others = rest.others })

-- ---- the elements of a line

have-bytes : (n : ℕ) (es : List Element) → ((k : ℕ) → k < n → 0 < length (get_or es k nothing).text) → n ≤ length es → HaveBytes (take n es)
have-bytes zero es h le = tt
have-bytes (suc n) [] h le = tt
have-bytes (suc n) (e ∷ es) h le = (h 0 (omega arith), have-bytes n es (λ k lt. h (suc k) (omega (arith, lt))) (omega (arith, le)))

length-bits : (p : Piece) (before : ℕ) (es : List Element) → length (bits_in p before es) ≡ length es
length-bits p before [] = refl
length-bits p before (e ∷ es) = ap suc (length-bits p (before + length e.text) es)

-- the elements of the first piece, and the others
record Own (p : Piece) (ps : List Piece) (es : List Element) : Type 0 where
  whole : take (count_in p) es ++ drop (count_in p) es ≡ es
  bytes : bytes_of (take (count_in p) es) ≡ length p.text
  some : HaveBytes (take (count_in p) es)
  rest : map (λ (e : Element). e.text) (drop (count_in p) es) ≡ clusters ps

own : (p : Piece) (ps : List Piece) (es : List Element) → IsUtf8 p.text → map (λ (e : Element). e.text) es ≡ clusters (p ∷ ps) → Own p ps es
own p ps es utf8 texts =
    let n = count_in p in
    let o = are-own p es utf8 (clusters ps, texts) in
    record {
      whole = take-append-drop n es;
      bytes = o.bytes;
      some = have-bytes n es (λ k lt. let m = o.more k nothing lt in m.0) o.within;
      rest = sym (drop-map (λ (e : Element). e.text) n es) ∙ ap (drop n) texts ∙ drop_at (graphemes true p.text) (clusters ps) n refl;
    }

pub parted : (o : ℕ) (ps : List Piece) (n : ℕ) → Splits o ps n → (es : List Element) (bias : Bias) → Every (λ p. IsUtf8 p.text) ps → map (λ (e : Element). e.text) es ≡ clusters ps → is_within es n ≡ false →
    Apart (bits ps es) (elements_before es n bias) o
parted o ps n (AtStart _ h) es bias utf8 texts out =
    subst (λ (k : ℕ). Apart (bits ps es) k o) (sym (at-zero es bias)) (record { before = tt; others = after-all o ps es h })
parted o ps n (Inside p qs _ is at lt h) es bias utf8 texts out =
    let w = own p qs es utf8.0 texts in
    let xs = take (count_in p) es in
    let rest = drop (count_in p) es in
    let away = subst (λ (l : List Element). is_within l n ≡ false) (sym w.whole) out in
    subst (λ (l : List Element). Apart (bits (p ∷ qs) es) (elements_before l n bias) o) w.whole
    (in-piece o p is xs rest (bits qs rest) 0 n bias (omega (arith, at)) (omega (arith, lt, w.bytes)) away (after-all o qs rest h))
parted o ps n (Past p qs m end le s) es bias utf8 texts out =
    let w = own p qs es utf8.0 texts in
    let xs = take (count_in p) es in
    let rest = drop (count_in p) es in
    let size : length p.text + m ≡ bytes_of xs + m = omega (arith, w.bytes) in
    let away : is_within (xs ++ rest) (bytes_of xs + m) ≡ false =
    subst (λ (l : List Element). is_within l (bytes_of xs + m) ≡ false) (sym w.whole) (subst (λ (k : ℕ). is_within es k ≡ false) size out) in
    let inner = parted o qs m s rest bias utf8.1 w.rest (pass-within xs rest m w.some away) in
    let all = apart-append (bits_in p 0 xs) (bits qs rest) (elements_before rest m bias) o (before-end o p end le 0 xs (omega (arith, w.bytes))) inner in
    let place : length (bits_in p 0 xs) + elements_before rest m bias ≡ elements_before es (length p.text + m) bias =
    ap (λ (k : ℕ). k + elements_before rest m bias) (length-bits p 0 xs)
    ∙ sym (pass xs rest m bias w.some)
    ∙ ap (λ (k : ℕ). elements_before (xs ++ rest) k bias) (sym size)
    ∙ ap (λ (l : List Element). elements_before l (length p.text + m) bias) w.whole in
    subst (λ (k : ℕ). Apart (bits (p ∷ qs) es) k o) place all
