-- The texts of a line's pieces, and which places of a line are inside an element.
use Rattle.std.proofs.Common.{◌≡◌, ℕ, ◌+◌, ◌≤◌, Bool, true, false, cond, List, [], ◌∷◌, ◌++◌, length, map, take, get_or, refl, sym, ap, ◌∙◌, subst, append_assoc, append-nil, length-append, inl, inr, ◌⊎◌, arith}
use Rattle.std.specs.List.{concat, flat_map}
use Rattle.std.specs.Str.{IsUtf8}
use Rattle.std.proofs.lemmas.Bool.{cases_Bool}
use Rattle.std.proofs.lemmas.Bool.Decides.{nat_tests}
use Rattle.std.proofs.lemmas.List.{get_or_at, take_at}
use Rattle.std.proofs.lemmas.List.Folds.{concat-append}
use Rattle.std.proofs.lemmas.Str.{IsCharBoundary-from_take, IsCharBoundary-start}
use Rattle.unicode_segmentation.specs.Grapheme.{graphemes}
use Rattle.cell_units.specs.declared.piece.Piece.{Piece}
use Rattle.cell_units.specs.Text.{goes_on}
use Rattle.cell_units.specs.Inlaid.{Token, bytes_of, offset_of}
use Rattle.cell_units.specs.Pieces.{is_one_piece, piece_before, pieces_of}
use Rattle.cell_line.specs.Elements.{clusters, elements_of}
use Rattle.plain_rows.specs.Spots.{is_within}
use Rattle.spot_laws.proofs.ElementSides.{HaveBytes}
use Rattle.spot_laws.proofs.ClusterSeams.{AreTexts, apart-utf8, graphemes-concat, graphemes-texts, inside-before, inside-behind, inside-between, is_inside, is_within-placed, placed-bytes, texts-append}

-- bytes before the texts of pieces: part of the first, or a piece of their own
abbrev pub glued : Bool → List ℕ → List (List ℕ) → List (List ℕ)
glued one bs [] = bs ∷ []
glued one bs (p ∷ ps) = cond one ((bs ++ p) ∷ ps) (bs ∷ (p ∷ ps))

-- the texts of a line's pieces
abbrev pub texts : List Token → List (List ℕ)
texts [] = []
texts (t ∷ []) = []
texts (t ∷ u ∷ us) = glued (is_one_piece t u) (bytes_of t) (texts (u ∷ us))

text_before : (one : Bool) (t : Token) (end : ℕ) (ps : List Piece) → map (λ (p : Piece). p.text) (piece_before one t end ps) ≡ glued one (bytes_of t) (map (λ (p : Piece). p.text) ps)
text_before one t end [] = refl
text_before true t end (p ∷ ps) = refl
text_before false t end (p ∷ ps) = refl

pub texts-pieces : (line : List Token) → map (λ (p : Piece). p.text) (pieces_of line) ≡ texts line
texts-pieces [] = refl
texts-pieces (t ∷ []) = refl
texts-pieces (t ∷ u ∷ us) = text_before (is_one_piece t u) t (offset_of u) (pieces_of (u ∷ us)) ∙ ap (glued (is_one_piece t u) (bytes_of t)) (texts-pieces (u ∷ us))

-- the clusters of texts
abbrev pub clusters_in : List (List ℕ) → List (List ℕ)
clusters_in [] = []
clusters_in (p ∷ ps) = graphemes true p ++ clusters_in ps

clusters-texts : (pieces : List Piece) → clusters pieces ≡ clusters_in (map (λ (p : Piece). p.text) pieces)
clusters-texts [] = refl
clusters-texts (p ∷ ps) = ap (λ (l : List (List ℕ)). graphemes true p.text ++ l) (clusters-texts ps)

clusters_in-append : (ps qs : List (List ℕ)) → clusters_in (ps ++ qs) ≡ clusters_in ps ++ clusters_in qs
clusters_in-append [] qs = refl
clusters_in-append (p ∷ ps) qs = ap (λ (l : List (List ℕ)). graphemes true p ++ l) (clusters_in-append ps qs) ∙ sym (append_assoc (graphemes true p) (clusters_in ps) (clusters_in qs))

-- each piece is a text
abbrev pub AreUtf8 : List (List ℕ) → Type 0
AreUtf8 [] = Unit {0}
AreUtf8 (p ∷ ps) = IsUtf8 p × AreUtf8 ps

clusters-concat : (ps : List (List ℕ)) → AreUtf8 ps → concat (clusters_in ps) ≡ concat ps
clusters-concat [] h = refl
clusters-concat (p ∷ ps) h = concat-append (graphemes true p) (clusters_in ps) ∙ (λ i. graphemes-concat p h.0 i ++ clusters-concat ps h.1 i)

clusters-are_texts : (ps : List (List ℕ)) → AreUtf8 ps → AreTexts (clusters_in ps)
clusters-are_texts [] h = tt
clusters-are_texts (p ∷ ps) h = texts-append (graphemes true p) (clusters_in ps) (graphemes-texts p h.0) (clusters-are_texts ps h.1)

utf8-front : (ps qs : List (List ℕ)) → AreUtf8 (ps ++ qs) → AreUtf8 ps
utf8-front [] qs h = tt
utf8-front (p ∷ ps) qs h = (h.0, utf8-front ps qs h.1)

utf8-behind : (ps qs : List (List ℕ)) → AreUtf8 (ps ++ qs) → AreUtf8 qs
utf8-behind [] qs h = h
utf8-behind (p ∷ ps) qs h = utf8-behind ps qs h.1

within-texts : (line : List Token) (tab a : ℕ) → is_within (elements_of (pieces_of line) tab) a ≡ is_inside (clusters_in (texts line)) a
within-texts line tab a =
    is_within-placed tab 0 (clusters (pieces_of line)) a
    ∙ ap (λ (l : List (List ℕ)). is_inside l a) (clusters-texts (pieces_of line) ∙ ap clusters_in (texts-pieces line))

pub elements-have_bytes : (line : List Token) (tab : ℕ) → AreUtf8 (texts line) → HaveBytes (elements_of (pieces_of line) tab)
elements-have_bytes line tab h =
    placed-bytes tab 0 (clusters (pieces_of line))
    (subst AreTexts (sym (clusters-texts (pieces_of line) ∙ ap clusters_in (texts-pieces line))) (clusters-are_texts (texts line) h))

-- ---- where a line's tokens are parted

glued-other : (bs : List ℕ) (ps : List (List ℕ)) → glued false bs ps ≡ bs ∷ ps
glued-other bs [] = refl
glued-other bs (p ∷ ps) = refl

glued-append : (one : Bool) (bs p : List ℕ) (ps qs : List (List ℕ)) → glued one bs ((p ∷ ps) ++ qs) ≡ glued one bs (p ∷ ps) ++ qs
glued-append true bs p ps qs = refl
glued-append false bs p ps qs = refl

glued-concat : (one : Bool) (bs : List ℕ) (ps : List (List ℕ)) → concat (glued one bs ps) ≡ bs ++ concat ps
glued-concat one bs [] = refl
glued-concat true bs (p ∷ ps) = append_assoc bs p (concat ps)
glued-concat false bs (p ∷ ps) = refl

record Begins (bs : List ℕ) (ps : List (List ℕ)) : Type 0 where
  rest : List ℕ
  others : List (List ℕ)
  is : ps ≡ (bs ++ rest) ∷ others

glued-begins : (one : Bool) (bs : List ℕ) (ps : List (List ℕ)) → Begins bs (glued one bs ps)
glued-begins one bs [] = record { rest = []; others = []; is = ap (λ (l : List ℕ). l ∷ []) (sym (append-nil bs)) }
glued-begins true bs (p ∷ ps) = record { rest = p; others = ps; is = refl }
glued-begins false bs (p ∷ ps) = record { rest = []; others = p ∷ ps; is = ap (λ (l : List ℕ). l ∷ (p ∷ ps)) (sym (append-nil bs)) }

-- all bytes but those of the last token
texts-concat : (xs : List Token) (u : Token) → concat (texts (xs ++ u ∷ [])) ≡ flat_map bytes_of xs
texts-concat [] u = refl
texts-concat (x ∷ []) u = refl
texts-concat (x ∷ y ∷ xs) u = glued-concat (is_one_piece x y) (bytes_of x) (texts (y ∷ (xs ++ u ∷ []))) ∙ ap (λ (l : List ℕ). bytes_of x ++ l) (texts-concat (y ∷ xs) u)

abbrev Apart : List Token → Token → Token → List Token → Type 0
Apart xs t u ys = texts (xs ++ (t ∷ (u ∷ ys))) ≡ texts (xs ++ (t ∷ (u ∷ []))) ++ texts (u ∷ ys)

-- neighbours of two pieces part the texts
apart : (xs : List Token) (t u : Token) (ys : List Token) → is_one_piece t u ≡ false → Apart xs t u ys
apart [] t u ys e = ap (λ (b : Bool). glued b (bytes_of t) (texts (u ∷ ys))) e ∙ glued-other (bytes_of t) (texts (u ∷ ys))
apart (x ∷ []) t u ys e =
    ap (glued (is_one_piece x t) (bytes_of x)) (apart [] t u ys e)
    ∙ glued-append (is_one_piece x t) (bytes_of x) (bytes_of t) [] (texts (u ∷ ys))
apart (x ∷ y ∷ xs) t u ys e = go (apart (y ∷ xs) t u ys e) (some (y ∷ xs)) where
  some : (zs : List Token) → Begins (bytes_of (get_or (zs ++ (t ∷ (u ∷ []))) 0 t)) (texts (zs ++ (t ∷ (u ∷ []))))
  some [] = glued-begins (is_one_piece t u) (bytes_of t) []
  some (z ∷ []) = glued-begins (is_one_piece z t) (bytes_of z) (texts (t ∷ (u ∷ [])))
  some (z ∷ w ∷ zs) = glued-begins (is_one_piece z w) (bytes_of z) (texts (w ∷ (zs ++ (t ∷ (u ∷ [])))))

  go : Apart (y ∷ xs) t u ys → Begins (bytes_of y) (texts (y ∷ (xs ++ (t ∷ (u ∷ []))))) → Apart (x ∷ y ∷ xs) t u ys
  go h b =
      let one = is_one_piece x y in
      ap (glued one (bytes_of x)) h
      ∙ ap (λ (l : List (List ℕ)). glued one (bytes_of x) (l ++ texts (u ∷ ys))) b.is
      ∙ glued-append one (bytes_of x) (bytes_of y ++ b.rest) b.others (texts (u ∷ ys))
      ∙ ap (λ (l : List (List ℕ)). glued one (bytes_of x) l ++ texts (u ∷ ys)) (sym b.is)

-- neighbours of one piece, of which the second isn't the last token, are in one text
record Meeting (xs : List Token) (t u v : Token) (ys : List Token) : Type 0 where
  before : List (List ℕ)
  front : List ℕ
  rest : List ℕ
  after : List (List ℕ)
  front_is : texts (xs ++ (t ∷ (u ∷ []))) ≡ before ++ front ∷ []
  whole_is : texts (xs ++ (t ∷ (u ∷ (v ∷ ys)))) ≡ before ++ (front ++ (bytes_of u ++ rest)) ∷ after

glued-meeting : (one : Bool) (bs : List ℕ) (before : List (List ℕ)) (front more : List ℕ) (after : List (List ℕ)) →
    (before' : List (List ℕ)) × (front' : List ℕ) × (glued one bs (before ++ front ∷ []) ≡ before' ++ front' ∷ []) × (glued one bs (before ++ (front ++ more) ∷ after) ≡ before' ++ (front' ++ more) ∷ after)
glued-meeting true bs [] front more after = ([], bs ++ front, refl, ap (λ (l : List ℕ). l ∷ after) (sym (append_assoc bs front more)))
glued-meeting false bs [] front more after = (bs ∷ [], front, refl, refl)
glued-meeting true bs (p ∷ before) front more after = ((bs ++ p) ∷ before, front, refl, refl)
glued-meeting false bs (p ∷ before) front more after = (bs ∷ p ∷ before, front, refl, refl)

meeting : (xs : List Token) (t u v : Token) (ys : List Token) → is_one_piece t u ≡ true → Meeting xs t u v ys
meeting [] t u v ys e =
    let b = glued-begins (is_one_piece u v) (bytes_of u) (texts (v ∷ ys)) in
    record {
      before = [];
      front = bytes_of t;
      rest = b.rest;
      after = b.others;
      front_is = refl;
      whole_is = ap (λ (one : Bool). glued one (bytes_of t) (texts (u ∷ (v ∷ ys)))) e ∙ ap (glued true (bytes_of t)) b.is;
    }
meeting (x ∷ []) t u v ys e =
    let m = meeting [] t u v ys e in
    let g = glued-meeting (is_one_piece x t) (bytes_of x) m.before m.front (bytes_of u ++ m.rest) m.after in
    record {
      before = g.0;
      front = g.1;
      rest = m.rest;
      after = m.after;
      front_is = ap (glued (is_one_piece x t) (bytes_of x)) m.front_is ∙ g.2;
      whole_is = ap (glued (is_one_piece x t) (bytes_of x)) m.whole_is ∙ g.3;
    }
meeting (x ∷ y ∷ xs) t u v ys e =
    let m = meeting (y ∷ xs) t u v ys e in
    let g = glued-meeting (is_one_piece x y) (bytes_of x) m.before m.front (bytes_of u ++ m.rest) m.after in
    record {
      before = g.0;
      front = g.1;
      rest = m.rest;
      after = m.after;
      front_is = ap (glued (is_one_piece x y) (bytes_of x)) m.front_is ∙ g.2;
      whole_is = ap (glued (is_one_piece x y) (bytes_of x)) m.whole_is ∙ g.3;
    }

-- ---- places of a line

abbrev pub byte_behind : List Token → ℕ
byte_behind xs = length (flat_map bytes_of xs)

-- a place between two pieces is inside no element
pub apart-seam : (xs : List Token) (t u : Token) (ys : List Token) (tab : ℕ) → AreUtf8 (texts (xs ++ (t ∷ (u ∷ ys)))) → is_one_piece t u ≡ false →
    is_within (elements_of (pieces_of (xs ++ (t ∷ (u ∷ ys)))) tab) (byte_behind (xs ++ t ∷ [])) ≡ false
apart-seam xs t u ys tab utf8 e =
    let parts : texts (xs ++ (t ∷ (u ∷ ys))) ≡ texts (xs ++ (t ∷ (u ∷ []))) ++ texts (u ∷ ys) = apart xs t u ys e in
    let front = texts (xs ++ (t ∷ (u ∷ []))) in
    let good : AreUtf8 front = utf8-front front (texts (u ∷ ys)) (subst AreUtf8 parts utf8) in
    let shape : xs ++ (t ∷ (u ∷ [])) ≡ (xs ++ t ∷ []) ++ u ∷ [] = sym (append_assoc xs (t ∷ []) (u ∷ [])) in
    let at : byte_behind (xs ++ t ∷ []) ≡ length (concat (clusters_in front)) =
    sym (ap length (clusters-concat front good ∙ ap (λ (l : List Token). concat (texts l)) shape ∙ texts-concat (xs ++ t ∷ []) u)) in
    within-texts (xs ++ (t ∷ (u ∷ ys))) tab (byte_behind (xs ++ t ∷ []))
    ∙ ap (λ (l : List (List ℕ)). is_inside (clusters_in l) (byte_behind (xs ++ t ∷ []))) parts
    ∙ ap (λ (l : List (List ℕ)). is_inside l (byte_behind (xs ++ t ∷ []))) (clusters_in-append front (texts (u ∷ ys)))
    ∙ ap (is_inside (clusters_in front ++ clusters_in (texts (u ∷ ys)))) at
    ∙ inside-between (clusters_in front) (clusters_in (texts (u ∷ ys)))

-- nor is the end of a line
pub end-seam : (xs : List Token) (u : Token) (tab : ℕ) → AreUtf8 (texts (xs ++ u ∷ [])) →
    is_within (elements_of (pieces_of (xs ++ u ∷ [])) tab) (byte_behind xs) ≡ false
end-seam xs u tab utf8 =
    let front = texts (xs ++ u ∷ []) in
    let at : byte_behind xs ≡ length (concat (clusters_in front)) = sym (ap length (clusters-concat front utf8 ∙ texts-concat xs u)) in
    within-texts (xs ++ u ∷ []) tab (byte_behind xs)
    ∙ ap (λ (l : List (List ℕ)). is_inside l (byte_behind xs)) (sym (append-nil (clusters_in front)))
    ∙ ap (is_inside (clusters_in front ++ [])) at
    ∙ inside-between (clusters_in front) []

-- a character begins with no byte that goes on
first-byte : (b : ℕ) (bs : List ℕ) → IsUtf8 (b ∷ bs) → goes_on b ≡ false
first-byte b bs u = let h = (IsCharBoundary-start (b ∷ bs) u).1 (omega arith) in grind (arith, nat_tests, h)

seam-byte : (front : List ℕ) (b : ℕ) (rest : List ℕ) → IsUtf8 (front ++ b ∷ rest) → IsUtf8 front → goes_on b ≡ false
seam-byte front b rest u v =
    let le : length front ≤ length (front ++ b ∷ rest) = omega (arith, length-append front (b ∷ rest)) in
    let cut : take (length front) (front ++ b ∷ rest) ≡ front = take_at front (b ∷ rest) (length front) refl in
    let at : get_or (front ++ b ∷ rest) (length front) 0 ≡ b = get_or_at front b rest 0 (length front) refl in
    let h = (IsCharBoundary-from_take (front ++ b ∷ rest) (length front) u le (subst IsUtf8 (sym cut) v)).1 (omega (arith, length-append front (b ∷ rest))) in
    grind (arith, nat_tests, h, at)

pub snoc : (xs : List Token) → (xs ≡ []) ⊎ ((ys : List Token) × (t : Token) × (xs ≡ ys ++ t ∷ []))
snoc [] = inl refl
snoc (x ∷ xs) = go (snoc xs) where
  go : (xs ≡ []) ⊎ ((ys : List Token) × (t : Token) × (xs ≡ ys ++ t ∷ [])) → (x ∷ xs ≡ []) ⊎ ((ys : List Token) × (t : Token) × (x ∷ xs ≡ ys ++ t ∷ []))
  go (inl e) = inr ([], x, ap (λ (l : List Token). x ∷ l) e)
  go (inr s) = inr (x ∷ s.0, s.1, ap (λ (l : List Token). x ∷ l) s.2)

-- after a place that is inside no element is the first byte of a character
pub next-first : (xs : List Token) (u v : Token) (ys : List Token) (tab b : ℕ) (bs : List ℕ) → bytes_of u ≡ b ∷ bs →
    AreUtf8 (texts (xs ++ (u ∷ (v ∷ ys)))) → is_within (elements_of (pieces_of (xs ++ (u ∷ (v ∷ ys)))) tab) (byte_behind xs) ≡ false → goes_on b ≡ false
next-first xs u v ys tab b bs first utf8 h = go (snoc xs) where
  begins : Begins (bytes_of u) (texts (u ∷ (v ∷ ys)))
  begins = glued-begins (is_one_piece u v) (bytes_of u) (texts (v ∷ ys))

  alone : AreUtf8 (texts (u ∷ (v ∷ ys))) → goes_on b ≡ false
  alone good = first-byte b (bs ++ begins.rest) (subst (λ (l : List ℕ). IsUtf8 (l ++ begins.rest)) first (subst AreUtf8 begins.is good).0)

  together : (zs : List Token) (t : Token) → is_one_piece t u ≡ true → AreUtf8 (texts (zs ++ (t ∷ (u ∷ (v ∷ ys))))) →
      is_within (elements_of (pieces_of (zs ++ (t ∷ (u ∷ (v ∷ ys))))) tab) (byte_behind (zs ++ t ∷ [])) ≡ false → goes_on b ≡ false
  together zs t e good out =
      let m = meeting zs t u v ys e in
      let piece = m.front ++ (bytes_of u ++ m.rest) in
      let all : AreUtf8 (m.before ++ piece ∷ m.after) = subst AreUtf8 m.whole_is good in
      let before_good : AreUtf8 m.before = utf8-front m.before (piece ∷ m.after) all in
      let piece_good : IsUtf8 piece = (utf8-behind m.before (piece ∷ m.after) all).0 in
      let shape : zs ++ (t ∷ (u ∷ [])) ≡ (zs ++ t ∷ []) ++ u ∷ [] = sym (append_assoc zs (t ∷ []) (u ∷ [])) in
      let at : byte_behind (zs ++ t ∷ []) ≡ length (concat (clusters_in m.before)) + length m.front =
      omega (
        arith,
        ap length (sym (texts-concat (zs ++ t ∷ []) u) ∙ ap (λ (l : List Token). concat (texts l)) (sym shape) ∙ ap concat m.front_is ∙ concat-append m.before (m.front ∷ [])),
        length-append (concat m.before) (m.front ++ []),
        ap length (append-nil m.front),
        ap length (clusters-concat m.before before_good),
      ) in
      let long : length m.front ≤ length (concat (graphemes true piece)) = omega (arith, ap length (graphemes-concat piece piece_good), length-append m.front (bytes_of u ++ m.rest)) in
      let inner : is_inside (graphemes true piece) (length m.front) ≡ false =
      sym (
      within-texts (zs ++ (t ∷ (u ∷ (v ∷ ys)))) tab (byte_behind (zs ++ t ∷ []))
      ∙ ap (λ (l : List (List ℕ)). is_inside (clusters_in l) (byte_behind (zs ++ t ∷ []))) m.whole_is
      ∙ ap (λ (l : List (List ℕ)). is_inside l (byte_behind (zs ++ t ∷ []))) (clusters_in-append m.before (piece ∷ m.after))
      ∙ ap (is_inside (clusters_in m.before ++ clusters_in (piece ∷ m.after))) at
      ∙ inside-behind (clusters_in m.before) (clusters_in (piece ∷ m.after)) (length m.front)
      ∙ inside-before (graphemes true piece) (clusters_in m.after) (length m.front) long
      )
      ∙ out in
      let front_good : IsUtf8 m.front =
      subst IsUtf8 (take_at m.front (bytes_of u ++ m.rest) (length m.front) refl)
      (apart-utf8 piece (length m.front) piece_good (omega (arith, length-append m.front (bytes_of u ++ m.rest))) inner) in
      seam-byte m.front b (bs ++ m.rest) (subst (λ (l : List ℕ). IsUtf8 (m.front ++ (l ++ m.rest))) first piece_good) front_good

  go : (xs ≡ []) ⊎ ((zs : List Token) × (t : Token) × (xs ≡ zs ++ t ∷ [])) → goes_on b ≡ false
  go (inl e) = alone (subst (λ (l : List Token). AreUtf8 (texts (l ++ (u ∷ (v ∷ ys))))) e utf8)
  go (inr s) =
      let zs : List Token = s.0 in
      let t : Token = s.1 in
      let shape : xs ++ (u ∷ (v ∷ ys)) ≡ zs ++ (t ∷ (u ∷ (v ∷ ys))) = ap (λ (l : List Token). l ++ (u ∷ (v ∷ ys))) s.2 ∙ append_assoc zs (t ∷ []) (u ∷ (v ∷ ys)) in
      let good : AreUtf8 (texts (zs ++ (t ∷ (u ∷ (v ∷ ys))))) = subst (λ (l : List Token). AreUtf8 (texts l)) shape utf8 in
      elim (cases_Bool (is_one_piece t u)) [
        | inl one ↦ together zs t one good (subst (λ (l : List Token). is_within (elements_of (pieces_of (zs ++ (t ∷ (u ∷ (v ∷ ys))))) tab) (byte_behind l) ≡ false) s.2
            (subst (λ (l : List Token). is_within (elements_of (pieces_of l) tab) (byte_behind xs) ≡ false) shape h))
        | inr two ↦ alone (utf8-behind (texts (zs ++ (t ∷ (u ∷ [])))) (texts (u ∷ (v ∷ ys))) (subst AreUtf8 (apart zs t u (v ∷ ys) two) good))
      ]
