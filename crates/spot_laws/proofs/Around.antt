-- What is around a place that is inside an element: two bytes of the buffer, neighbours of one character or cluster.
use Rattle.std.proofs.Common.{◌≡◌, ◌≢◌, ℕ, ◌+◌, ◌<◌, ◌≤◌, ◌==◌, ◌&&◌, ◌||◌, leb, ltb, Bool, true, false, if◌then◌else◌, List, [], ◌∷◌, ◌++◌, zero, suc, length, filter, map, take, drop, get_or, refl, sym, ap, ◌∙◌, subst, append_assoc, append-nil, inl, inr, ◌⊎◌, arith}
use Rattle.std.specs.List.{flat_map}
use Rattle.std.proofs.lemmas.Bool.{and_from, cases_Bool, cases_lt, eq-eqb, false≢true, lt-ltb, not_from_false, or_cases, or_left, or_right, true≢false}
use Rattle.std.proofs.lemmas.Bool.Decides.{nat_tests}
use Rattle.std.proofs.lemmas.List.{drop_more, get_or_append_left, get_or_at, length-take-le, length_push, take-append-drop, take-append-le}
use Rattle.cell_units.specs.Text.{clean, goes_on, is_boundary, is_feed, line_feed}
use Rattle.cell_units.specs.Record.{Fold, Inlay, Record}
use Rattle.cell_units.specs.Inlaid.{Byte, Hidden, InlayByte, Token, inlay_bytes, inlays_at, show_each}
use Rattle.cell_units.specs.Folded.{covered, folded_before, inside, shown}
use Rattle.cell_units.specs.Pieces.{is_one_piece}
use Rattle.cell_units.specs.Lawful.{IsLawful}
use Rattle.plain_rows.proofs.FoldedFronts.{after_of, next_before, show_each-append, token_at}
use Rattle.spot_laws.proofs.FoldedUnits.{FoldsAreStill, inside-covered, inside-still}
use Rattle.spot_laws.proofs.LawfulLines.{still_at}
use Rattle.spot_laws.proofs.PieceTexts.{snoc}
use Rattle.spot_laws.proofs.Seams.{all_tokens, is_inside_at, seam-break, seam-end, seam-first, seam-other, seam-start}

-- ---- kinds of tokens

abbrev is_inlay : Token → Bool
is_inlay (Byte o b) = false
is_inlay (InlayByte o id b) = true
is_inlay (Hidden o) = false

abbrev AreInlays : List Token → Type 0
AreInlays [] = Unit {0}
AreInlays (t ∷ ts) = (is_inlay t ≡ true) × AreInlays ts

inlays-append : (xs ys : List Token) → AreInlays xs → AreInlays ys → AreInlays (xs ++ ys)
inlays-append [] ys h k = k
inlays-append (x ∷ xs) ys h k = (h.0, inlays-append xs ys h.1 k)

inlays-of : (offset id : ℕ) (bs : List ℕ) → AreInlays (map (λ b. InlayByte offset id b) bs)
inlays-of offset id [] = tt
inlays-of offset id (b ∷ bs) = (refl, inlays-of offset id bs)

inlays-all : (inlays : List Inlay) → AreInlays (flat_map inlay_bytes inlays)
inlays-all [] = tt
inlays-all (i ∷ rest) = inlays-append (inlay_bytes i) (flat_map inlay_bytes rest) (inlays-of i.offset i.id (clean i.text)) (inlays-all rest)

inlays-last : (xs : List Token) (t : Token) → AreInlays (xs ++ t ∷ []) → is_inlay t ≡ true
inlays-last [] t h = h.0
inlays-last (x ∷ xs) t h = inlays-last xs t h.1

inlay_before : (t u : Token) → is_inlay t ≡ true → is_inlay u ≡ false → is_one_piece t u ≡ false
inlay_before (Byte o b) u h k = absurd (false≢true h)
inlay_before (Hidden o) u h k = absurd (false≢true h)
inlay_before (InlayByte o id b) (Byte p c) h k = refl
inlay_before (InlayByte o id b) (InlayByte p id' c) h k = absurd (true≢false k)
inlay_before (InlayByte o id b) (Hidden p) h k = refl

inlay_behind : (o b : ℕ) (u : Token) → is_inlay u ≡ true → is_one_piece (Byte o b) u ≡ false
inlay_behind o b (Byte p c) h = absurd (false≢true h)
inlay_behind o b (InlayByte p id c) h = refl
inlay_behind o b (Hidden p) h = refl

hidden_before : (o : ℕ) (u : Token) → is_one_piece (Hidden o) u ≡ false
hidden_before o (Byte p c) = refl
hidden_before o (InlayByte p id c) = refl
hidden_before o (Hidden p) = refl

hidden_behind : (t : Token) (o : ℕ) → is_one_piece t (Hidden o) ≡ false
hidden_behind (Byte p c) o = refl
hidden_behind (InlayByte p id c) o = refl
hidden_behind (Hidden p) o = refl

-- ---- folds

one-next : (s e o : ℕ) → (ltb s (suc o) && ltb (suc o) e) ≡ true → (leb s o && ltb o e) ≡ true
one-next s e o h = grind (arith, nat_tests, h)

pub inside-next : (folds : List Fold) (o : ℕ) → inside folds (suc o) ≡ true → covered folds o ≡ true
inside-next [] o h = h
inside-next (f ∷ fs) o h = elim (or_cases (ltb f.start (suc o) && ltb (suc o) f.end) (inside fs (suc o)) h) [
  | inl x ↦ or_left (leb f.start o && ltb o f.end) (covered fs o) (one-next f.start f.end o x)
  | inr x ↦ or_right (leb f.start o && ltb o f.end) (covered fs o) (inside-next fs o x)
]

none-zero : (s e : ℕ) → (ltb s 0 && ltb 0 e) ≡ false
none-zero s e = grind (arith, nat_tests)

pub inside-zero : (folds : List Fold) → inside folds 0 ≡ false
inside-zero [] = refl
inside-zero (f ∷ fs) = λ i. none-zero f.start f.end i || inside-zero fs i

one-start : (s e o : ℕ) → s ≢ o → (leb s o && ltb o e) ≡ true → (ltb s o && ltb o e) ≡ true
one-start s e o h k = grind (arith, nat_tests, h, k)

-- an offset at which no fold starts, and that a fold hides, is inside one
pub covered-still_inside : (folds : List Fold) (o : ℕ) → FoldsAreStill folds o → covered folds o ≡ true → inside folds o ≡ true
covered-still_inside [] o h k = k
covered-still_inside (f ∷ fs) o h k = elim (or_cases (leb f.start o && ltb o f.end) (covered fs o) k) [
  | inl x ↦ or_left (ltb f.start o && ltb o f.end) (inside fs o) (one-start f.start f.end o h.0 x)
  | inr x ↦ or_right (ltb f.start o && ltb o f.end) (inside fs o) (covered-still_inside fs o h.2 x)
]

module _ (r : Record) (lawful : IsLawful r) where
  abbrev full : List ℕ
  full = r.text ++ line_feed ∷ []

  abbrev pub before : ℕ → List Token
  before o = folded_before r.text r.inlays r.folds o

  abbrev pub ins : ℕ → List Token
  ins o = inlays_at r.inlays o

  abbrev pub token : ℕ → Token
  token o = if covered r.folds o then Hidden o else Byte o (get_or full o 0)

  pub full-byte : (o : ℕ) → o < length r.text → get_or full o 0 ≡ get_or r.text o 0
  full-byte o l = get_or_append_left r.text (line_feed ∷ []) 0 o l

  full-end : get_or full (length r.text) 0 ≡ line_feed
  full-end = get_or_at r.text line_feed [] 0 (length r.text) refl

  all-at : (o : ℕ) → o ≤ length r.text → (rest : List Token) × (all_tokens r lawful ≡ before o ++ (shown r.inlays r.folds o (get_or full o 0) ++ rest))
  all-at o le =
      let f = shown r.inlays r.folds in
      let lt : o < length full = omega (arith, le, length_push r.text line_feed) in
      let parts : full ≡ take o r.text ++ (get_or full o 0 ∷ drop (o + 1) full) =
      sym (take-append-drop o full) ∙ (λ i. take-append-le o r.text (line_feed ∷ []) le i ++ drop_more full o 0 lt i) in
      let at : 0 + length (take o r.text) ≡ o = omega (arith, length-take-le o r.text le) in (
        show_each f (o + 1) (drop (o + 1) full),
        ap (show_each f 0) parts
            ∙ show_each-append f 0 (take o r.text) (get_or full o 0 ∷ drop (o + 1) full)
            ∙ ap (λ (k : ℕ). before o ++ show_each f k (get_or full o 0 ∷ drop (o + 1) full)) at,
      )

  -- an offset that is inside no fold shows its inlays and its token
  pub all-left : (o : ℕ) → o ≤ length r.text → inside r.folds o ≡ false → (rest : List Token) × (all_tokens r lawful ≡ before o ++ (ins o ++ token o ∷ rest))
  all-left o le out =
      let a = all-at o le in (
        a.0,
        a.1
            ∙ ap (λ (b : Bool). before o ++ ((if b then [] else (ins o ++ token o ∷ [])) ++ a.0)) out
            ∙ ap (λ (l : List Token). before o ++ l) (append_assoc (ins o) (token o ∷ []) a.0),
      )

  pub all-right : (o : ℕ) → o ≤ length r.text → inside r.folds o ≡ false → (rest : List Token) × (all_tokens r lawful ≡ (before o ++ ins o) ++ token o ∷ rest)
  all-right o le out = let a = all-left o le out in (a.0, a.1 ∙ sym (append_assoc (before o) (ins o) (token o ∷ a.0)))

  -- the token after a place before an offset's inlays, whichever it is
  pub all-next : (o : ℕ) → o ≤ length r.text → inside r.folds o ≡ false → (u : Token) × (rest : List Token) × (all_tokens r lawful ≡ before o ++ u ∷ rest)
  all-next o le out = let a = all-left o le out in go (ins o) a.0 a.1 where
    go : (is : List Token) (rest : List Token) → all_tokens r lawful ≡ before o ++ (is ++ token o ∷ rest) → (u : Token) × (rest : List Token) × (all_tokens r lawful ≡ before o ++ u ∷ rest)
    go [] rest e = (token o, rest, e)
    go (i ∷ is) rest e = (i, is ++ token o ∷ rest, e)

  pub next-in : (o : ℕ) → o < length r.text → inside r.folds o ≡ true → before (suc o) ≡ before o
  next-in o l h =
      let e : o + 1 ≡ suc o = omega arith in
      ap before (sym e) ∙ next_before r.text r.inlays r.folds o l ∙ ap (λ (b : Bool). after_of b (before o) (ins o) (token_at r.text r.inlays r.folds o (get_or r.text o 0))) h ∙ append-nil (before o)

  pub next-out : (o : ℕ) → o < length r.text → inside r.folds o ≡ false → before (suc o) ≡ (before o ++ ins o) ++ token o ∷ []
  next-out o l h =
      let e : o + 1 ≡ suc o = omega arith in
      ap before (sym e)
      ∙ next_before r.text r.inlays r.folds o l
      ∙ ap (λ (b : Bool). after_of b (before o) (ins o) (token_at r.text r.inlays r.folds o (get_or r.text o 0))) h
      ∙ ap (λ (b : ℕ). before o ++ (ins o ++ (if covered r.folds o then Hidden o else Byte o b) ∷ [])) (sym (full-byte o l))
      ∙ sym (append_assoc (before o) (ins o) (token o ∷ []))

  -- what hides an offset that is inside a fold
  pub record Hiding (o : ℕ) : Type 0 where
    pub start : ℕ
    pub lt : start < o
    pub out : inside r.folds start ≡ false
    pub seen : covered r.folds start ≡ true
    pub is : before o ≡ (before start ++ ins start) ++ Hidden start ∷ []

  pub hiding : (o : ℕ) → o ≤ length r.text → inside r.folds o ≡ true → Hiding o
  hiding zero le h = absurd (false≢true (sym (inside-zero r.folds) ∙ h))
  hiding (suc m) le h = go (cases_Bool (inside r.folds m)) (hiding m (omega (arith, le))) where
    go : (inside r.folds m ≡ true) ⊎ (inside r.folds m ≡ false) → (inside r.folds m ≡ true → Hiding m) → Hiding (suc m)
    go (inl x) ih = let i = ih x in record { start = i.start; lt = omega (arith, i.lt); out = i.out; seen = i.seen; is = next-in m (omega (arith, le)) x ∙ i.is }
    go (inr x) ih =
        let c = inside-next r.folds m h in
        record { start = m; lt = omega arith; out = x; seen = c; is = next-out m (omega (arith, le)) x ∙ ap (λ (b : Bool). (before m ++ ins m) ++ (if b then Hidden m else Byte m (get_or full m 0)) ∷ []) c }

  -- a place before or after a placeholder is inside no element
  pub before-hidden : (xs : List Token) (o : ℕ) (rest : List Token) → all_tokens r lawful ≡ xs ++ Hidden o ∷ rest → is_inside_at r lawful xs ≡ false
  before-hidden xs o rest e = go (snoc xs) where
    go : (xs ≡ []) ⊎ ((ys : List Token) × (t : Token) × (xs ≡ ys ++ t ∷ [])) → is_inside_at r lawful xs ≡ false
    go (inl n) = subst (λ (l : List Token). is_inside_at r lawful l ≡ false) (sym n) (seam-start r lawful [] refl)
    go (inr s) =
        subst (λ (l : List Token). is_inside_at r lawful l ≡ false) (sym s.2)
        (seam-other r lawful s.0 s.1 (Hidden o) rest (e ∙ ap (λ (l : List Token). l ++ Hidden o ∷ rest) s.2) (hidden_behind s.1 o))

  pub behind-hidden : (xs : List Token) (o : ℕ) (u : Token) (rest : List Token) → all_tokens r lawful ≡ (xs ++ Hidden o ∷ []) ++ u ∷ rest → is_inside_at r lawful (xs ++ Hidden o ∷ []) ≡ false
  behind-hidden xs o u rest e = seam-other r lawful xs (Hidden o) u rest e (hidden_before o u)

  no-inlay-token : (o : ℕ) → is_inlay (token o) ≡ false
  no-inlay-token o = go (covered r.folds o) where
    go : (b : Bool) → is_inlay (if b then Hidden o else Byte o (get_or full o 0)) ≡ false
    go true = refl
    go false = refl

  -- after an offset's inlays a place is inside an element only where there is none
  pub no-inlays : (o : ℕ) → o ≤ length r.text → inside r.folds o ≡ false → is_inside_at r lawful (before o ++ ins o) ≡ true → ins o ≡ []
  no-inlays o le out h = go (snoc (ins o)) where
    go : (ins o ≡ []) ⊎ ((ys : List Token) × (t : Token) × (ins o ≡ ys ++ t ∷ [])) → ins o ≡ []
    go (inl e) = e
    go (inr s) =
        let a = all-right o le out in
        let ys : List Token = s.0 in
        let t : Token = s.1 in
        let shape : before o ++ ins o ≡ (before o ++ ys) ++ t ∷ [] = ap (λ (l : List Token). before o ++ l) s.2 ∙ sym (append_assoc (before o) ys (t ∷ [])) in
        let last : is_inlay t ≡ true = inlays-last ys t (subst AreInlays s.2 (inlays-all (filter (λ i. i.offset == o) r.inlays))) in
        let apart : is_inside_at r lawful ((before o ++ ys) ++ t ∷ []) ≡ false =
        seam-other r lawful (before o ++ ys) t (token o) a.0 (a.1 ∙ ap (λ (l : List Token). l ++ token o ∷ a.0) shape) (inlay_before t (token o) last (no-inlay-token o)) in
        absurd (false≢true (sym apart ∙ subst (λ (l : List Token). is_inside_at r lawful l ≡ true) shape h))

  -- a place before an offset's inlays is inside an element only between two bytes of the buffer
  pub record Around (o : ℕ) : Type 0 where
    pub prior : ℕ
    pub is : o ≡ suc prior
    pub out : inside r.folds prior ≡ false
    pub seen : covered r.folds prior ≡ false
    pub clear : is_feed (get_or r.text prior 0) ≡ false
    pub none : ins o ≡ []
    pub shown : covered r.folds o ≡ false
    pub clear_here : is_feed (get_or full o 0) ≡ false
    pub before_is : before o ≡ (before prior ++ ins prior) ++ Byte prior (get_or r.text prior 0) ∷ []

  pub around : (o : ℕ) → o ≤ length r.text → inside r.folds o ≡ false → is_inside_at r lawful (before o) ≡ true → Around o
  around zero le out h = absurd (false≢true (sym (seam-start r lawful [] refl) ∙ h))
  around (suc m) le out h = first (cases_Bool (inside r.folds m)) where
    lt : m < length r.text
    lt = omega (arith, le)

    not_hidden : (xs : List Token) (s : ℕ) → before (suc m) ≡ xs ++ Hidden s ∷ [] → ⊥
    not_hidden xs s e =
        let a = all-next (suc m) le out in
        let apart = behind-hidden xs s a.0 a.1 (a.2 ∙ ap (λ (l : List Token). l ++ a.0 ∷ a.1) e) in
        false≢true (sym apart ∙ subst (λ (l : List Token). is_inside_at r lawful l ≡ true) e h)

    first : (inside r.folds m ≡ true) ⊎ (inside r.folds m ≡ false) → Around (suc m)
    first (inl x) = let i = hiding m (omega (arith, le)) x in absurd (not_hidden (before i.start ++ ins i.start) i.start (next-in m lt x ∙ i.is))
    first (inr x) = second (cases_Bool (covered r.folds m)) where
      second : (covered r.folds m ≡ true) ⊎ (covered r.folds m ≡ false) → Around (suc m)
      second (inl c) = absurd (not_hidden (before m ++ ins m) m (next-out m lt x ∙ ap (λ (b : Bool). (before m ++ ins m) ++ (if b then Hidden m else Byte m (get_or full m 0)) ∷ []) c))
      second (inr c) = third (ins (suc m)) refl (all-left (suc m) le out) where
        b : ℕ
        b = get_or r.text m 0

        is_before : before (suc m) ≡ (before m ++ ins m) ++ Byte m b ∷ []
        is_before =
            next-out m lt x
            ∙ ap (λ (t : Bool). (before m ++ ins m) ++ (if t then Hidden m else Byte m (get_or full m 0)) ∷ []) c
            ∙ ap (λ (k : ℕ). (before m ++ ins m) ++ Byte m k ∷ []) (full-byte m lt)

        at_place : is_inside_at r lawful ((before m ++ ins m) ++ Byte m b ∷ []) ≡ true
        at_place = subst (λ (l : List Token). is_inside_at r lawful l ≡ true) is_before h

        apart : (u : Token) (rest : List Token) → all_tokens r lawful ≡ before (suc m) ++ u ∷ rest → is_one_piece (Byte m b) u ≡ false → ⊥
        apart u rest e two =
            false≢true (sym (seam-other r lawful (before m ++ ins m) (Byte m b) u rest (e ∙ ap (λ (l : List Token). l ++ u ∷ rest) is_before) two) ∙ at_place)

        third : (is : List Token) → ins (suc m) ≡ is → (rest : List Token) × (all_tokens r lawful ≡ before (suc m) ++ (ins (suc m) ++ token (suc m) ∷ rest)) → Around (suc m)
        third (i ∷ is) e a =
            let whole : all_tokens r lawful ≡ before (suc m) ++ i ∷ (is ++ token (suc m) ∷ a.0) = a.1 ∙ ap (λ (l : List Token). before (suc m) ++ (l ++ token (suc m) ∷ a.0)) e in
            absurd (apart i (is ++ token (suc m) ∷ a.0) whole (inlay_behind m b i (subst AreInlays e (inlays-all (filter (λ i. i.offset == suc m) r.inlays))).0))
        third [] e a = fourth (cases_Bool (covered r.folds (suc m))) where
          whole : all_tokens r lawful ≡ before (suc m) ++ token (suc m) ∷ a.0
          whole = a.1 ∙ ap (λ (l : List Token). before (suc m) ++ (l ++ token (suc m) ∷ a.0)) e

          fourth : (covered r.folds (suc m) ≡ true) ⊎ (covered r.folds (suc m) ≡ false) → Around (suc m)
          fourth (inl k) =
              absurd (apart (Hidden (suc m)) a.0 (whole ∙ ap (λ (t : Bool). before (suc m) ++ (if t then Hidden (suc m) else Byte (suc m) (get_or full (suc m) 0)) ∷ a.0) k) (hidden_behind (Byte m b) (suc m)))
          fourth (inr k) = fifth (cases_Bool (is_feed b)) (cases_Bool (is_feed (get_or full (suc m) 0))) where
            whole_byte : all_tokens r lawful ≡ before (suc m) ++ Byte (suc m) (get_or full (suc m) 0) ∷ a.0
            whole_byte = whole ∙ ap (λ (t : Bool). before (suc m) ++ (if t then Hidden (suc m) else Byte (suc m) (get_or full (suc m) 0)) ∷ a.0) k

            fifth : (is_feed b ≡ true) ⊎ (is_feed b ≡ false) → (is_feed (get_or full (suc m) 0) ≡ true) ⊎ (is_feed (get_or full (suc m) 0) ≡ false) → Around (suc m)
            fifth (inl f) y = absurd (false≢true (sym (seam-break r lawful (before m ++ ins m) (Byte m b) f) ∙ at_place))
            fifth (inr f) (inl g) = absurd (false≢true (sym (seam-end r lawful (before (suc m)) (Byte (suc m) (get_or full (suc m) 0)) a.0 whole_byte g) ∙ h))
            fifth (inr f) (inr g) = record { prior = m; is = refl; out = x; seen = c; clear = f; none = e; shown = k; clear_here = g; before_is = is_before }

  pub clear-within : (o : ℕ) → o ≤ length r.text → is_feed (get_or full o 0) ≡ false → o < length r.text
  clear-within o le h = go (cases_lt o (length r.text)) where
    go : (o < length r.text) ⊎ (length r.text ≤ o) → o < length r.text
    go (inl l) = l
    go (inr l) =
        let e : o ≡ length r.text = omega (arith, le, l) in
        absurd (true≢false (sym (ap (λ (k : ℕ). is_feed (get_or full k 0)) e ∙ ap is_feed full-end) ∙ h))

  -- ---- boundaries

  boundary-first : (o : ℕ) → o < length r.text → goes_on (get_or r.text o 0) ≡ false → is_boundary r.text o ≡ true
  boundary-first o l h = or_right (o == length r.text) _ (and_from (ltb o (length r.text)) _ (lt-ltb o (length r.text) l) (not_from_false (goes_on (get_or r.text o 0)) h))

  boundary-end : (o : ℕ) → o ≡ length r.text → is_boundary r.text o ≡ true
  boundary-end o e = or_left (o == length r.text) _ (eq-eqb o (length r.text) e)

  -- an offset is a boundary, unless a byte that goes on is there
  pub boundary-unless : (o : ℕ) → o ≤ length r.text → ((o < length r.text) → goes_on (get_or r.text o 0) ≡ true → ⊥) → is_boundary r.text o ≡ true
  boundary-unless o le none = go (cases_lt o (length r.text)) (cases_Bool (goes_on (get_or r.text o 0))) where
    go : (o < length r.text) ⊎ (length r.text ≤ o) → (goes_on (get_or r.text o 0) ≡ true) ⊎ (goes_on (get_or r.text o 0) ≡ false) → is_boundary r.text o ≡ true
    go (inr l) x = boundary-end o (omega (arith, le, l))
    go (inl l) (inl g) = absurd (none l g)
    go (inl l) (inr g) = boundary-first o l g

  -- where a place of an offset that is inside no fold is inside no element, the offset is a boundary
  pub apart-boundary : (o : ℕ) → o ≤ length r.text → inside r.folds o ≡ false → (ins o ≡ [] → is_inside_at r lawful (before o) ≡ false) → is_boundary r.text o ≡ true
  apart-boundary o le out h = boundary-unless o le (λ l g. go l g (still_at r lawful o l g) (cases_Bool (covered r.folds o)) (all-left o le out)) where
    go : o < length r.text → goes_on (get_or r.text o 0) ≡ true → (ins o ≡ []) × FoldsAreStill r.folds o → (covered r.folds o ≡ true) ⊎ (covered r.folds o ≡ false) →
        (rest : List Token) × (all_tokens r lawful ≡ before o ++ (ins o ++ token o ∷ rest)) → ⊥
    go l g still (inl c) a = false≢true (sym out ∙ covered-still_inside r.folds o still.1 c)
    go l g still (inr c) a =
        let b = get_or r.text o 0 in
        let whole : all_tokens r lawful ≡ before o ++ Byte o b ∷ a.0 =
        a.1 ∙ (λ i. before o ++ (still.0 i ++ (if c i then Hidden o else Byte o (full-byte o l i)) ∷ a.0)) in
        let clear : is_feed b ≡ false = grind (arith, nat_tests, g) in
        false≢true (sym (seam-first r lawful (before o) (Byte o b) a.0 b [] whole clear refl (h still.0)) ∙ g)

  -- the start of a joined fold is a boundary, and so is its end
  pub start-boundary : (o : ℕ) → o ≤ length r.text → inside r.folds o ≡ false → covered r.folds o ≡ true → is_boundary r.text o ≡ true
  start-boundary o le out seen = boundary-unless o le (λ l g. false≢true (sym out ∙ covered-still_inside r.folds o (still_at r lawful o l g).1 seen))

  pub end-boundary : (o : ℕ) → suc o ≤ length r.text → inside r.folds o ≡ true → inside r.folds (suc o) ≡ false → is_boundary r.text (suc o) ≡ true
  end-boundary o le h out =
      let e : o + 1 ≡ suc o = omega arith in
      boundary-unless (suc o) le (λ l g. false≢true (sym out ∙ ap (inside r.folds) (sym e)
      ∙ inside-still r.folds o (subst (FoldsAreStill r.folds) (sym e) (still_at r lawful (suc o) l g).1) ∙ inside-covered r.folds o h))
