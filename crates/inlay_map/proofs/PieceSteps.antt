-- The pieces of a part of what is shown, taken one by one.
use Rattle.std.proofs.Common.{◌≡◌, ℕ, zero, suc, ◌+◌, ◌-◌, ◌<◌, ◌≤◌, ◌⊎◌, true, false, List, [], ◌∷◌, ◌++◌, length, map, take, drop, refl, sym, ap, ◌∙◌, inl, inr, arith}
use Rattle.std.proofs.lemmas.Bool.{eq-eqb}
use Rattle.cell_units.specs.declared.piece.Piece.{Piece}
use Rattle.cell_units.specs.declared.piece.PieceKind.TheVariants.{Buffer, Inlay}
use Rattle.cell_units.specs.Inlaid.{Token, Byte, InlayByte, Hidden, offset_of}
use Rattle.cell_units.specs.Pieces.{is_one_piece, piece_before, pieces_of}
use Rattle.inlay_map.proofs.Parts.{text_tokens}

-- after a token of a run comes another piece, or nothing but the token that closes the part
abbrev pub Closes : Token → Token → List Token → Type 0
Closes t u us = (is_one_piece t u ≡ false) ⊎ (us ≡ [])

-- tokens that begin with one that closes a run, which is at the offset
pub record Closed (t : Token) (o : ℕ) (rest : List Token) : Type 0 where
  pub head : Token
  pub more : List Token
  pub is : rest ≡ head ∷ more
  pub at : offset_of head ≡ o
  pub closes : Closes t head more

abbrev text_piece : ℕ → List ℕ → Piece
text_piece o bs = record { kind = Buffer; text = bs; start = o; end = o + length bs }

abbrev inlay_piece : ℕ → ℕ → List ℕ → Piece
inlay_piece id o bs = record { kind = Inlay id; text = bs; start = o; end = o }

alone : (t u : Token) (us : List Token) (e : ℕ) (p : Piece) → Closes t u us → offset_of u ≡ e
    → ((ps : List Piece) → piece_before false t e ps ≡ p ∷ ps) → piece_before (is_one_piece t u) t e [] ≡ p ∷ []
    → pieces_of (t ∷ u ∷ us) ≡ p ∷ pieces_of (u ∷ us)
alone t u us e p (inl apart) at first last =
    (λ i. piece_before (apart i) t (at i) (pieces_of (u ∷ us))) ∙ first (pieces_of (u ∷ us))
alone t u us e p (inr none) at first last =
    (λ i. piece_before (is_one_piece t u) t (at i) (pieces_of (u ∷ none i))) ∙ last ∙ (λ i. p ∷ pieces_of (u ∷ sym none i))

text-first : (o b : ℕ) (ps : List Piece) → piece_before false (Byte o b) (o + 1) ps ≡ text_piece o (b ∷ []) ∷ ps
text-first o b [] = refl
text-first o b (p ∷ ps) = refl

text-closes : (o p b c : ℕ) (u : Token) (us : List Token) → Closes (Byte o b) u us → Closes (Byte p c) u us
text-closes o p b c (Byte q d) us (inl e) = absurd (cc)
text-closes o p b c (InlayByte q id d) us (inl e) = inl refl
text-closes o p b c (Hidden q) us (inl e) = inl refl
text-closes o p b c u us (inr e) = inr e

-- a run of the text's bytes is one piece
pub text-run : (o : ℕ) (bs : List ℕ) (rest : List Token) → 0 < length bs → Closed (Byte 0 0) (o + length bs) rest
    → pieces_of (text_tokens o bs ++ rest) ≡ text_piece o bs ∷ pieces_of rest
text-run o [] rest some c = absurd (omega arith)
text-run o (b ∷ []) rest some c =
    (λ i. pieces_of (Byte o b ∷ c.is i))
    ∙ alone (Byte o b) c.head c.more (o + 1) (text_piece o (b ∷ [])) (text-closes 0 o 0 b c.head c.more c.closes) c.at (text-first o b) refl
    ∙ (λ i. text_piece o (b ∷ []) ∷ pieces_of (sym c.is i))
text-run o (b ∷ d ∷ ds) rest some c =
    let end : o + 1 + length (d ∷ ds) ≡ o + length (b ∷ d ∷ ds) = omega arith in
    let next : Closed (Byte 0 0) (o + 1 + length (d ∷ ds)) rest = record { head = c.head; more = c.more; is = c.is; at = c.at ∙ sym end; closes = c.closes } in
    ap (piece_before true (Byte o b) (o + 1)) (text-run (o + 1) (d ∷ ds) rest (omega arith) next)
    ∙ (λ i. record { kind = Buffer; text = b ∷ d ∷ ds; start = o; end = end i } ∷ pieces_of rest)

inlay-first : (o id b : ℕ) (ps : List Piece) → piece_before false (InlayByte o id b) o ps ≡ inlay_piece id o (b ∷ []) ∷ ps
inlay-first o id b [] = refl
inlay-first o id b (p ∷ ps) = refl

inlay-closes : (o p b c id : ℕ) (u : Token) (us : List Token) → Closes (InlayByte o id b) u us → Closes (InlayByte p id c) u us
inlay-closes o p b c id (Byte q d) us (inl e) = inl refl
inlay-closes o p b c id (InlayByte q k d) us (inl e) = inl e
inlay-closes o p b c id (Hidden q) us (inl e) = inl refl
inlay-closes o p b c id u us (inr e) = inr e

-- a run of one inlay's bytes is one piece
pub inlay-run : (o id : ℕ) (bs : List ℕ) (rest : List Token) → 0 < length bs → Closed (InlayByte 0 id 0) o rest
    → pieces_of (map (λ b. InlayByte o id b) bs ++ rest) ≡ inlay_piece id o bs ∷ pieces_of rest
inlay-run o id [] rest some c = absurd (omega arith)
inlay-run o id (b ∷ []) rest some c =
    (λ i. pieces_of (InlayByte o id b ∷ c.is i))
    ∙ alone (InlayByte o id b) c.head c.more o (inlay_piece id o (b ∷ [])) (inlay-closes 0 o 0 b id c.head c.more c.closes) c.at (inlay-first o id b) refl
    ∙ (λ i. inlay_piece id o (b ∷ []) ∷ pieces_of (sym c.is i))
inlay-run o id (b ∷ d ∷ ds) rest some c =
    let one : is_one_piece (InlayByte o id b) (InlayByte o id d) ≡ true = eq-eqb id id refl in
    (λ i. piece_before (one i) (InlayByte o id b) o (inlay-run o id (d ∷ ds) rest (omega arith) c i))

-- ---- parts of lists

pub take-none : {X : Type 0} (n : ℕ) (xs : List X) → xs ≡ [] → take n xs ≡ []
take-none zero xs e = refl
take-none (suc n) [] e = refl
take-none (suc n) (x ∷ xs) e = absurd (cc)

part-of : {X : Type 0} (l m : ℕ) (xs : List X) → l ≤ m → take (suc m) xs ≡ take l xs ++ take (suc m - l) (drop l xs)
part-of zero m xs le = let all : suc m ≡ suc m - 0 = omega arith in ap (λ n. take n xs) all
part-of (suc l) m [] le = take-none (suc m) [] refl ∙ sym (take-none (suc m - suc l) [] refl)
part-of (suc l) (suc m) (x ∷ xs) le =
    let rest : suc m - l ≡ suc (suc m) - suc l = omega arith in
    ap (λ ys. x ∷ ys) (part-of l m xs (omega (arith, le))) ∙ ap (λ n. x ∷ (take l xs ++ take n (drop l xs))) rest
part-of (suc l) zero (x ∷ xs) le = absurd (omega (arith, le))

-- so many of a list, and one more
pub part-split : {X : Type 0} (l m : ℕ) (xs : List X) → l ≤ m → take (m + 1) xs ≡ take l xs ++ take (m + 1 - l) (drop l xs)
part-split l m xs le =
    let one : m + 1 ≡ suc m = omega arith in
    ap (λ n. take n xs) one ∙ part-of l m xs le ∙ ap (λ n. take l xs ++ take (n - l) (drop l xs)) (sym one)
