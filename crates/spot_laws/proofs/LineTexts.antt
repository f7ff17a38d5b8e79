-- Tokens that are whole characters, each of one piece: the pieces of each line of them are texts.
use Rattle.std.proofs.Common.{◌≡◌, ℕ, Bool, true, false, cond, List, [], ◌∷◌, ◌++◌, refl, sym, ap, ◌∙◌, subst, append_assoc, append-nil}
use Rattle.std.specs.List.{flat_map}
use Rattle.std.specs.Str.{IsUtf8}
use Rattle.std.proofs.lemmas.List.Concat.{flat_map-append}
use Rattle.std.proofs.lemmas.Str.{IsUtf8-append}
use Rattle.cell_units.specs.Cutting.{cut_lines, onto_line}
use Rattle.cell_units.specs.Inlaid.{Token, bytes_of, is_break}
use Rattle.cell_units.specs.Pieces.{is_one_piece}
use Rattle.spot_laws.proofs.PieceTexts.{AreUtf8, glued, texts}

abbrev pub HasNoBreak : List Token → Type 0
HasNoBreak [] = Unit {0}
HasNoBreak (t ∷ ts) = (is_break t ≡ false) × HasNoBreak ts

-- each with the next of one piece, from t on
abbrev pub AreLinked : Token → List Token → Type 0
AreLinked t [] = Unit {0}
AreLinked t (u ∷ us) = (is_one_piece t u ≡ true) × AreLinked u us

-- a break by itself, or tokens of one piece that spell a text
pub data IsUnit : List Token → Type 0 where
  ABreak : (t : Token) → is_break t ≡ true → IsUnit (t ∷ [])
  AText : (t : Token) (us : List Token) → HasNoBreak (t ∷ us) → AreLinked t us → IsUtf8 (flat_map bytes_of (t ∷ us)) → IsUnit (t ∷ us)

abbrev pub AreUnits : List (List Token) → Type 0
AreUnits [] = Unit {0}
AreUnits (p ∷ ps) = IsUnit p × AreUnits ps

abbrev pub flat : List (List Token) → List Token
flat ps = flat_map (λ p. p) ps

pub record Units (line : List Token) : Type 0 where
  pub parts : List (List Token)
  pub good : AreUnits parts
  pub is : flat parts ≡ line

parts-append : (ps qs : List (List Token)) → AreUnits ps → AreUnits qs → AreUnits (ps ++ qs)
parts-append [] qs h k = k
parts-append (p ∷ ps) qs h k = (h.0, parts-append ps qs h.1 k)

pub units-nil : Units []
units-nil = record { parts = []; good = tt; is = refl }

pub units-one : (p : List Token) → IsUnit p → Units p
units-one p h = record { parts = p ∷ []; good = (h, tt); is = append-nil p }

pub units-append : (xs ys : List Token) → Units xs → Units ys → Units (xs ++ ys)
units-append xs ys u v = record {
  parts = u.parts ++ v.parts;
  good = parts-append u.parts v.parts u.good v.good;
  is = flat_map-append (λ (p : List Token). p) u.parts v.parts ∙ (λ i. u.is i ++ v.is i);
}

-- ---- lines

abbrev onto_lines : List Token → List (List Token) → List (List Token)
onto_lines [] ls = ls
onto_lines (t ∷ ts) ls = onto_line t (onto_lines ts ls)

cut-text : (p rest : List Token) → HasNoBreak p → cut_lines is_break (p ++ rest) ≡ onto_lines p (cut_lines is_break rest)
cut-text [] rest h = refl
cut-text (t ∷ ts) rest h =
    ap (λ (b : Bool). cond b ((t ∷ []) ∷ cut_lines is_break (ts ++ rest)) (onto_line t (cut_lines is_break (ts ++ rest)))) h.0
    ∙ ap (onto_line t) (cut-text ts rest h.1)

onto_first : (p l : List Token) (ls : List (List Token)) → onto_lines p (l ∷ ls) ≡ (p ++ l) ∷ ls
onto_first [] l ls = refl
onto_first (t ∷ ts) l ls = ap (onto_line t) (onto_first ts l ls)

-- the pieces of each line are texts
abbrev pub AreGoodLines : List (List Token) → Type 0
AreGoodLines [] = Unit {0}
AreGoodLines (l ∷ ls) = AreUtf8 (texts l) × AreGoodLines ls

record Begun (lines : List (List Token)) : Type 0 where
  first : Token
  line : List Token
  others : List (List Token)
  is : lines ≡ (first ∷ line) ∷ others
  good : AreUtf8 (texts (first ∷ line))
  rest : AreGoodLines others

glued-glued : (one : Bool) (xs bs : List ℕ) (ps : List (List ℕ)) → glued true xs (glued one bs ps) ≡ glued one (xs ++ bs) ps
glued-glued one xs bs [] = refl
glued-glued true xs bs (p ∷ ps) = ap (λ (l : List ℕ). l ∷ ps) (sym (append_assoc xs bs p))
glued-glued false xs bs (p ∷ ps) = refl

linked-texts : (t : Token) (us : List Token) (v : Token) (vs : List Token) → AreLinked t us →
    (one : Bool) × (texts (t ∷ (us ++ v ∷ vs)) ≡ glued one (flat_map bytes_of (t ∷ us)) (texts (v ∷ vs)))
linked-texts t [] v vs h = (is_one_piece t v, ap (λ (bs : List ℕ). glued (is_one_piece t v) bs (texts (v ∷ vs))) (sym (append-nil (bytes_of t))))
linked-texts t (u ∷ us) v vs h =
    let r = linked-texts u us v vs h.1 in (
      r.0,
      ap (λ (b : Bool). glued b (bytes_of t) (texts (u ∷ (us ++ v ∷ vs)))) h.0
          ∙ ap (glued true (bytes_of t)) r.1
          ∙ glued-glued r.0 (bytes_of t) (flat_map bytes_of (u ∷ us)) (texts (v ∷ vs)),
    )

glued-utf8 : (one : Bool) (bs : List ℕ) (ps : List (List ℕ)) → IsUtf8 bs → AreUtf8 ps → AreUtf8 (glued one bs ps)
glued-utf8 one bs [] h k = (h, tt)
glued-utf8 true bs (p ∷ ps) h k = (IsUtf8-append bs p h k.0, k.1)
glued-utf8 false bs (p ∷ ps) h k = (h, k)

lines-begun : (ps : List (List Token)) (t : Token) → AreUnits ps → is_break t ≡ true → Begun (cut_lines is_break (flat ps ++ t ∷ []))
lines-begun [] t h e = record {
  first = t;
  line = [];
  others = [];
  is = ap (λ (b : Bool). cond b ((t ∷ []) ∷ []) (onto_line t [])) e;
  good = tt;
  rest = tt;
}
lines-begun (p ∷ ps) t h e = go p h.0 (lines-begun ps t h.1 e) where
  tail : List Token
  tail = flat ps ++ t ∷ []

  go : (p : List Token) → IsUnit p → Begun (cut_lines is_break tail) → Begun (cut_lines is_break ((p ++ flat ps) ++ t ∷ []))
  go p (ABreak b brk) r = record {
    first = b;
    line = [];
    others = cut_lines is_break tail;
    is = ap (λ (c : Bool). cond c ((b ∷ []) ∷ cut_lines is_break tail) (onto_line b (cut_lines is_break tail))) brk;
    good = tt;
    rest = subst AreGoodLines (sym r.is) (r.good, r.rest);
  }
  go p (AText u us clear linked utf8) r =
      let l = linked-texts u us r.first r.line linked in
      record {
        first = u;
        line = us ++ r.first ∷ r.line;
        others = r.others;
        is = ap (cut_lines is_break) (append_assoc (u ∷ us) (flat ps) (t ∷ [])) ∙ cut-text (u ∷ us) tail clear ∙ ap (onto_lines (u ∷ us)) r.is ∙ onto_first (u ∷ us) (r.first ∷ r.line) r.others;
        good = subst AreUtf8 (sym l.1) (glued-utf8 l.0 (flat_map bytes_of (u ∷ us)) (texts (r.first ∷ r.line)) utf8 r.good);
        rest = r.rest;
      }

-- the pieces of the lines of units that end with a break are texts
pub good-lines : (xs : List Token) (t : Token) → Units xs → is_break t ≡ true → AreGoodLines (cut_lines is_break (xs ++ t ∷ []))
good-lines xs t u e =
    let b = lines-begun u.parts t u.good e in
    subst (λ (l : List Token). AreGoodLines (cut_lines is_break (l ++ t ∷ []))) u.is (subst AreGoodLines (sym b.is) (b.good, b.rest))
