-- What leads from layer to layer leaves the lines that it doesn't meet, whatever it came of.
use Rattle.std.proofs.Common.{◌≡◌, ℕ, zero, suc, ◌+◌, ◌-◌, ◌<◌, ◌≤◌, cond, Bool, true, false, count_by, List, [], ◌∷◌, ◌++◌, flat_map, get_or, length, map, replicate, reverse, take, drop, Option, option_map, Some, None, refl, sym, ap, ◌∙◌, subst, arith, length-append}
use Rattle.std.proofs.lemmas.List.{drop-map, length-map, length-replicate, length-take, map-append, reverse-append, reverse-reverse, take-map}
use Rattle.cell_units.specs.declared.piece.Piece.{Piece}
use Rattle.cell_units.specs.declared.place.Shift.{Shift}
use Rattle.cell_units.specs.Cutting.{cut_lines, onto_line}
use Rattle.cell_units.specs.Folded.{display_lines}
use Rattle.cell_units.specs.Inlaid.{Byte, Hidden, InlayByte, Token, bytes_of, is_break, offset_of, placeholder}
use Rattle.cell_units.specs.Lawful.{IsWellFormed}
use Rattle.cell_units.specs.Layers.{Source, shown_lines, shown_text}
use Rattle.cell_units.specs.Pieces.{is_one_piece, piece_before, pieces_of}
use Rattle.cell_units.specs.Text.{is_feed, line_feed, row_of}
use Rattle.cell_units.proofs.ReplacedRows.{row_of-le}
use Rattle.cell_units.proofs.ShownText.{folded_is}
use Rattle.cell_units.proofs.SortedLists.{count-cons}
use Rattle.cell_units.proofs.Sources.{ends_open, row-lt}
use Rattle.edit_patch.specs.LayerLeads.{LayerLeads, layer_places, token_after, token_places}
use Rattle.edit_patch.specs.Leads.{LeadsAt, Reach, reach_of}
use Rattle.edit_patch.proofs.TokenPlaces.{at_places}
use Rattle.tab_map.specs.TabLines.{LinesFollow, line_texts}
use Rattle.folded_text.proofs.PlaceTexts.{places-flipped, texts-lead, tokens-of}

abbrev lines : List Token → List (List Token)
lines ts = cut_lines is_break ts

abbrev feeds : List ℕ → ℕ
feeds bytes = count_by is_feed bytes

-- ---- one token before lines

taken-onto : {X : Type 0} (x : X) (k : ℕ) (ls ks : List (List X)) → take k ls ≡ take k ks → take k (onto_line x ls) ≡ take k (onto_line x ks)
taken-onto x zero ls ks e = refl
taken-onto x (suc k) [] [] e = refl
taken-onto x (suc k) [] (b ∷ ks) e = absurd (cc e)
taken-onto x (suc k) (a ∷ ls) [] e = absurd (cc e)
taken-onto {X} x (suc k) (a ∷ ls) (b ∷ ks) e =
    λ i. (x ∷ get_or (e i) 0 a) ∷ drop 1 (e i)

dropped-onto : {X : Type 0} (x : X) (k : ℕ) (ls : List (List X)) → drop (suc k) (onto_line x ls) ≡ drop (suc k) ls
dropped-onto x zero [] = refl
dropped-onto x (suc k) [] = refl
dropped-onto x k (l ∷ ls) = refl

-- a token that is a break or not
taken-next : (t : Token) (n k : ℕ) (ts us : List Token) → n ≡ cond (is_break t) 1 0 + k → take k (lines ts) ≡ take k (lines us) → take n (lines (t ∷ ts)) ≡ take n (lines (t ∷ us))
taken-next t n k ts us e h = ap (λ m. take m (lines (t ∷ ts))) e ∙ go (is_break t) ∙ ap (λ m. take m (lines (t ∷ us))) (sym e) where
  go : (b : Bool) → take (cond b 1 0 + k) (cond b ((t ∷ []) ∷ lines ts) (onto_line t (lines ts))) ≡ take (cond b 1 0 + k) (cond b ((t ∷ []) ∷ lines us) (onto_line t (lines us)))
  go true = (let one : 1 + k ≡ suc k = omega arith in ap (λ m. take m ((t ∷ []) ∷ lines ts)) one ∙ ap (λ l. (t ∷ []) ∷ l) h ∙ ap (λ m. take m ((t ∷ []) ∷ lines us)) (sym one))
  go false = (let none : 0 + k ≡ k = omega arith in ap (λ m. take m (onto_line t (lines ts))) none ∙ taken-onto t k (lines ts) (lines us) h ∙ ap (λ m. take m (onto_line t (lines us))) (sym none))

dropped-next : (t : Token) (n k : ℕ) (ts us : List Token) → n ≡ cond (is_break t) 1 0 + k → drop (suc k) (lines ts) ≡ drop 1 (lines us) → drop (suc n) (lines (t ∷ ts)) ≡ drop 1 (lines us)
dropped-next t n k ts us e h = ap (λ m. drop (suc m) (lines (t ∷ ts))) e ∙ go (is_break t) where
  go : (b : Bool) → drop (suc (cond b 1 0 + k)) (cond b ((t ∷ []) ∷ lines ts) (onto_line t (lines ts))) ≡ drop 1 (lines us)
  go true = (let one : suc (1 + k) ≡ suc (suc k) = omega arith in ap (λ m. drop m ((t ∷ []) ∷ lines ts)) one ∙ h)
  go false = (let none : suc (0 + k) ≡ suc k = omega arith in ap (λ m. drop m (onto_line t (lines ts))) none ∙ dropped-onto t k (lines ts) ∙ h)

-- ---- feeds before a place

feeds-byte : (t : Token) (b : ℕ) (k : ℕ) (bytes : List ℕ) → is_break t ≡ is_feed b → feeds (take (suc k) (b ∷ bytes)) ≡ cond (is_break t) 1 0 + feeds (take k bytes)
feeds-byte t b k bytes e = count-cons is_feed b (take k bytes) ∙ ap (λ (c : Bool). cond c 1 0 + feeds (take k bytes)) (sym e)

feeds-hidden : (k : ℕ) (bytes : List ℕ) → feeds (take (suc (suc (suc k))) (placeholder ++ bytes)) ≡ 0 + feeds (take k bytes)
feeds-hidden k bytes =
    omega (
      arith,
      count-cons is_feed 0xE2 (0x8B ∷ 0xAF ∷ take k bytes),
      count-cons is_feed 0x8B (0xAF ∷ take k bytes),
      count-cons is_feed 0xAF (take k bytes),
    )

-- ---- before a place

first-at : (d t : Token) (ts : List Token) (k : ℕ) → get_or (take (suc k) (at_places (t ∷ ts))) 0 d ≡ t
first-at d (Byte o b) ts k = refl
first-at d (InlayByte o id b) ts k = refl
first-at d (Hidden o) ts k = refl

module _ (e d : List Token) where
  abbrev Same : List Token → List Token → ℕ → Type 0
  Same xs ys k = take (feeds (take k (flat_map bytes_of xs))) (lines (ys ++ d)) ≡ take (feeds (take k (flat_map bytes_of xs))) (lines (xs ++ e))

  -- with one token before them
  front-step : (x : Token) (xs ys : List Token) (k : ℕ) → suc k ≤ length (at_places (x ∷ xs)) → suc k ≤ length (at_places (x ∷ ys))
      → take (suc k) (at_places (x ∷ ys)) ≡ take (suc k) (at_places (x ∷ xs))
      → ((j : ℕ) → j ≤ length (at_places xs) → j ≤ length (at_places ys) → take j (at_places ys) ≡ take j (at_places xs) → Same xs ys j)
      → Same (x ∷ xs) (x ∷ ys) (suc k)
  front-step (Byte o b) xs ys k le le' h next =
      taken-next (Byte o b) (feeds (take (suc k) (flat_map bytes_of (Byte o b ∷ xs)))) (feeds (take k (flat_map bytes_of xs))) (ys ++ d) (xs ++ e)
      (feeds-byte (Byte o b) b k (flat_map bytes_of xs) refl) (next k (omega (arith, le)) (omega (arith, le')) (ap (drop 1) h))
  front-step (InlayByte o id b) xs ys k le le' h next =
      taken-next (InlayByte o id b) (feeds (take (suc k) (flat_map bytes_of (InlayByte o id b ∷ xs)))) (feeds (take k (flat_map bytes_of xs))) (ys ++ d) (xs ++ e)
      (feeds-byte (InlayByte o id b) b k (flat_map bytes_of xs) refl) (next k (omega (arith, le)) (omega (arith, le')) (ap (drop 1) h))
  front-step (Hidden o) xs ys zero le le' h next =
      let none : feeds (take 1 (placeholder ++ flat_map bytes_of xs)) ≡ 0 = omega (arith, count-cons is_feed 0xE2 []) in
      ap (λ n. take n (lines (Hidden o ∷ ys ++ d))) none ∙ ap (λ n. take n (lines (Hidden o ∷ xs ++ e))) (sym none)
  front-step (Hidden o) xs ys (suc zero) le le' h next =
      let none : feeds (take 2 (placeholder ++ flat_map bytes_of xs)) ≡ 0 = omega (arith, count-cons is_feed 0xE2 (0x8B ∷ []), count-cons is_feed 0x8B []) in
      ap (λ n. take n (lines (Hidden o ∷ ys ++ d))) none ∙ ap (λ n. take n (lines (Hidden o ∷ xs ++ e))) (sym none)
  front-step (Hidden o) xs ys (suc (suc k)) le le' h next =
      taken-next (Hidden o) (feeds (take (suc (suc (suc k))) (flat_map bytes_of (Hidden o ∷ xs)))) (feeds (take k (flat_map bytes_of xs))) (ys ++ d) (xs ++ e)
      (feeds-hidden k (flat_map bytes_of xs)) (next k (omega (arith, le)) (omega (arith, le')) (ap (drop 3) h))

  -- lists of tokens with the same places up to one have the same lines up to it, whatever comes after
  fronts-same : (xs ys : List Token) (k : ℕ) → k ≤ length (at_places xs) → k ≤ length (at_places ys) → take k (at_places ys) ≡ take k (at_places xs) → Same xs ys k
  fronts-same xs ys zero le le' h = refl
  fronts-same [] ys (suc k) le le' h = absurd (omega (arith, le))
  fronts-same (x ∷ xs) [] (suc k) le le' h = absurd (omega (arith, le'))
  fronts-same (x ∷ xs) (y ∷ ys) (suc k) le le' h =
      let head : y ≡ x = sym (first-at y y ys k) ∙ ap (λ (l : List Token). get_or l 0 y) h ∙ first-at y x xs k in
      ap (λ (t : Token). take (feeds (take (suc k) (flat_map bytes_of (x ∷ xs)))) (lines (t ∷ ys ++ d))) head
      ∙ front-step x xs ys k le (subst (λ (t : Token). suc k ≤ length (at_places (t ∷ ys))) head le') (ap (λ (t : Token). take (suc k) (at_places (t ∷ ys))) (sym head) ∙ h)
      (λ j l l' g. fronts-same xs ys j l l' g)

-- ---- after a place

-- What is after a place: what is left of a placeholder that the place is inside of, and then tokens. Their lines but
-- the first are those after the line of the place.
record Beyond (p : ℕ) (xs : List Token) : Type 0 where
  tail : List Token
  rest : ℕ
  small : rest < 3
  offset : ℕ
  places : drop p (at_places xs) ≡ replicate rest (Hidden offset) ++ at_places tail
  lines : (e : List Token) → drop (suc (feeds (take p (flat_map bytes_of xs)))) (lines (xs ++ e)) ≡ drop 1 (lines (tail ++ e))

beyond : (p : ℕ) (xs : List Token) → p ≤ length (at_places xs) → Beyond p xs
beyond zero xs le = record { tail = xs; rest = 0; small = omega arith; offset = 0; places = refl; lines = λ e. refl }
beyond (suc p) [] le = absurd (omega (arith, le))
beyond (suc p) (Byte o b ∷ xs) le =
    let r = beyond p xs (omega (arith, le)) in
    record {
      tail = r.tail;
      rest = r.rest;
      small = r.small;
      offset = r.offset;
      places = r.places;
      lines = λ e. dropped-next (Byte o b) (feeds (take (suc p) (flat_map bytes_of (Byte o b ∷ xs)))) (feeds (take p (flat_map bytes_of xs))) (xs ++ e) (r.tail ++ e)
          (feeds-byte (Byte o b) b p (flat_map bytes_of xs) refl) (r.lines e);
    }
beyond (suc p) (InlayByte o id b ∷ xs) le =
    let r = beyond p xs (omega (arith, le)) in
    record {
      tail = r.tail;
      rest = r.rest;
      small = r.small;
      offset = r.offset;
      places = r.places;
      lines = λ e. dropped-next (InlayByte o id b) (feeds (take (suc p) (flat_map bytes_of (InlayByte o id b ∷ xs)))) (feeds (take p (flat_map bytes_of xs))) (xs ++ e) (r.tail ++ e)
          (feeds-byte (InlayByte o id b) b p (flat_map bytes_of xs) refl) (r.lines e);
    }
beyond (suc zero) (Hidden o ∷ xs) le = record { tail = xs; rest = 2; small = omega arith; offset = o; places = refl; lines = λ e. dropped-onto (Hidden o) 0 (lines (xs ++ e)) }
beyond (suc (suc zero)) (Hidden o ∷ xs) le = record { tail = xs; rest = 1; small = omega arith; offset = o; places = refl; lines = λ e. dropped-onto (Hidden o) 0 (lines (xs ++ e)) }
beyond (suc (suc (suc p))) (Hidden o ∷ xs) le =
    let r = beyond p xs (omega (arith, le)) in
    record {
      tail = r.tail;
      rest = r.rest;
      small = r.small;
      offset = r.offset;
      places = r.places;
      lines = λ e. dropped-next (Hidden o) (feeds (take (suc (suc (suc p))) (flat_map bytes_of (Hidden o ∷ xs)))) (feeds (take p (flat_map bytes_of xs))) (xs ++ e) (r.tail ++ e)
          (feeds-hidden p (flat_map bytes_of xs)) (r.lines e);
    }

-- ---- tokens without their offsets

abbrev erased : Token → Token
erased (Byte o b) = Byte 0 b
erased (InlayByte o id b) = InlayByte 0 id b
erased (Hidden o) = Hidden 0

erased-after : (shift : Option Reach) (t : Token) → erased (token_after shift t) ≡ erased t
erased-after shift (Byte o b) = refl
erased-after shift (InlayByte o id b) = refl
erased-after shift (Hidden o) = refl

each-after : (shift : Option Reach) (ts : List Token) → map erased (map (token_after shift) ts) ≡ map erased ts
each-after shift [] = refl
each-after shift (t ∷ ts) = λ i. erased-after shift t i ∷ each-after shift ts i

places-erased : (ts : List Token) → map erased (at_places ts) ≡ at_places (map erased ts)
places-erased [] = refl
places-erased (Byte o b ∷ ts) = ap (λ l. Byte 0 b ∷ l) (places-erased ts)
places-erased (InlayByte o id b ∷ ts) = ap (λ l. InlayByte 0 id b ∷ l) (places-erased ts)
places-erased (Hidden o ∷ ts) = ap (λ l. Hidden 0 ∷ Hidden 0 ∷ Hidden 0 ∷ l) (places-erased ts)

rest-erased : (n o : ℕ) → map erased (replicate n (Hidden o)) ≡ replicate n (Hidden 0)
rest-erased zero o = refl
rest-erased (suc n) o = ap (λ l. Hidden 0 ∷ l) (rest-erased n o)

abbrev text_of : List Token → List (List ℕ)
text_of line = map (λ piece. piece.text) (pieces_of line)

abbrev text-before : Bool → List ℕ → List (List ℕ) → List (List ℕ)
text-before one bytes [] = bytes ∷ []
text-before one bytes (text ∷ texts) = cond one ((bytes ++ text) ∷ texts) (bytes ∷ text ∷ texts)

before-texts : (one : Bool) (t : Token) (end : ℕ) (ps : List Piece) → map (λ piece. piece.text) (piece_before one t end ps) ≡ text-before one (bytes_of t) (map (λ piece. piece.text) ps)
before-texts one t end [] = refl
before-texts true t end (p ∷ ps) = refl
before-texts false t end (p ∷ ps) = refl

bytes-erased : (t : Token) → bytes_of (erased t) ≡ bytes_of t
bytes-erased (Byte o b) = refl
bytes-erased (InlayByte o id b) = refl
bytes-erased (Hidden o) = refl

one-erased : (t u : Token) → is_one_piece (erased t) (erased u) ≡ is_one_piece t u
one-erased (Byte o b) (Byte p c) = refl
one-erased (Byte o b) (InlayByte p id c) = refl
one-erased (Byte o b) (Hidden p) = refl
one-erased (InlayByte o id b) (Byte p c) = refl
one-erased (InlayByte o id b) (InlayByte p id' c) = refl
one-erased (InlayByte o id b) (Hidden p) = refl
one-erased (Hidden o) (Byte p c) = refl
one-erased (Hidden o) (InlayByte p id c) = refl
one-erased (Hidden o) (Hidden p) = refl

text-erased : (line : List Token) → text_of (map erased line) ≡ text_of line
text-erased [] = refl
text-erased (t ∷ []) = refl
text-erased (t ∷ u ∷ us) =
    before-texts (is_one_piece (erased t) (erased u)) (erased t) (offset_of (erased u)) (pieces_of (map erased (u ∷ us)))
    ∙ (λ i. text-before (one-erased t u i) (bytes-erased t i) (text-erased (u ∷ us) i))
    ∙ sym (before-texts (is_one_piece t u) t (offset_of u) (pieces_of (u ∷ us)))

break-erased : (t : Token) → is_break (erased t) ≡ is_break t
break-erased (Byte o b) = refl
break-erased (InlayByte o id b) = refl
break-erased (Hidden o) = refl

onto-erased : (t : Token) (ls : List (List Token)) → onto_line (erased t) (map (map erased) ls) ≡ map (map erased) (onto_line t ls)
onto-erased t [] = refl
onto-erased t (l ∷ ls) = refl

lines-erased : (ts : List Token) → lines (map erased ts) ≡ map (map erased) (lines ts)
lines-erased [] = refl
lines-erased (t ∷ ts) =
    (λ i. cond (break-erased t i) ((erased t ∷ []) ∷ lines-erased ts i) (onto_line (erased t) (lines-erased ts i)))
    ∙ go (is_break t)
  where
    go : (b : Bool) → cond b ((erased t ∷ []) ∷ map (map erased) (lines ts)) (onto_line (erased t) (map (map erased) (lines ts))) ≡ map (map erased) (cond b ((t ∷ []) ∷ lines ts) (onto_line t (lines ts)))
    go true = refl
    go false = onto-erased t (lines ts)

texts-erased : (ls : List (List Token)) → map text_of (map (map erased) ls) ≡ map text_of ls
texts-erased [] = refl
texts-erased (l ∷ ls) = λ i. text-erased l i ∷ texts-erased ls i

-- tokens that are the same but for their offsets have lines of the same texts
alike-texts : (k : ℕ) (ts us : List Token) → map erased ts ≡ map erased us → map text_of (drop k (lines ts)) ≡ map text_of (drop k (lines us))
alike-texts k ts us e =
    sym (texts-erased (drop k (lines ts)))
    ∙ ap (map text_of) (sym (drop-map (map erased) k (lines ts)) ∙ ap (drop k) (sym (lines-erased ts) ∙ ap (λ (l : List Token). lines l) e ∙ lines-erased us) ∙ drop-map (map erased) k (lines us))
    ∙ texts-erased (drop k (lines us))

-- ---- tokens by their places, from the back

-- what is left of a placeholder, from the back, is no token
no-token : (c : Token) (cs : List Token) (r r' : ℕ) → r < 3 → at_places (c ∷ cs) ++ replicate r' (Hidden 0) ≡ replicate r (Hidden 0) → ⊥
no-token (Byte o b) cs zero r' lt e = absurd (cc e)
no-token (Byte o b) cs (suc r) r' lt e = let h = ap (λ (l : List Token). get_or l 0 (Hidden 0)) e in absurd (cc h)
no-token (InlayByte o id b) cs zero r' lt e = absurd (cc e)
no-token (InlayByte o id b) cs (suc r) r' lt e = let h = ap (λ (l : List Token). get_or l 0 (Hidden 0)) e in absurd (cc h)
no-token (Hidden o) cs r r' lt e =
    absurd (omega (
      arith,
      lt,
      ap (λ (l : List Token). length l) e,
      length-replicate r (Hidden 0),
      length-append (at_places (Hidden o ∷ cs)) (replicate r' (Hidden 0)),
      length-append (token_places (Hidden o)) (at_places cs),
    ))

abbrev Rest : ℕ → List Token
Rest r = replicate r (Hidden 0)

first-of : (d t : Token) (ts : List Token) (r : ℕ) → get_or (at_places (t ∷ ts) ++ Rest r) 0 d ≡ t
first-of d (Byte o b) ts r = refl
first-of d (InlayByte o id b) ts r = refl
first-of d (Hidden o) ts r = refl

rest-of : (t : Token) (ts us : List Token) (r r' : ℕ) → at_places (t ∷ us) ++ Rest r' ≡ at_places (t ∷ ts) ++ Rest r → at_places us ++ Rest r' ≡ at_places ts ++ Rest r
rest-of (Byte o b) ts us r r' e = ap (drop 1) e
rest-of (InlayByte o id b) ts us r r' e = ap (drop 1) e
rest-of (Hidden o) ts us r r' e = ap (drop 3) e

same-tokens : (ts us : List Token) (r r' : ℕ) → r < 3 → r' < 3 → at_places us ++ Rest r' ≡ at_places ts ++ Rest r → us ≡ ts
same-tokens [] [] r r' lt lt' e = refl
same-tokens [] (u ∷ us) r r' lt lt' e = absurd (no-token u us r r' lt e)
same-tokens (t ∷ ts) [] r r' lt lt' e = absurd (no-token t ts r' r lt' (sym e))
same-tokens (t ∷ ts) (u ∷ us) r r' lt lt' e =
    let head : u ≡ t = sym (first-of u u us r') ∙ ap (λ (l : List Token). get_or l 0 u) e ∙ first-of u t ts r in
    λ i. head i ∷ same-tokens ts us r r' lt lt' (rest-of t ts us r r' (ap (λ (x : Token). at_places (x ∷ us) ++ Rest r') (sym head) ∙ e)) i

rest-back : (r : ℕ) → r < 3 → reverse (Rest r) ≡ Rest r
rest-back zero lt = refl
rest-back (suc zero) lt = refl
rest-back (suc (suc zero)) lt = refl
rest-back (suc (suc (suc r))) lt = absurd (omega (arith, lt))

-- from the start, with what is left before it
same-behind : (ts us : List Token) (r r' : ℕ) → r < 3 → r' < 3 → Rest r' ++ at_places us ≡ Rest r ++ at_places ts → us ≡ ts
same-behind ts us r r' lt lt' e =
    let turned : (xs : List Token) (q : ℕ) → q < 3 → reverse (Rest q ++ at_places xs) ≡ at_places (reverse xs) ++ Rest q = λ (xs : List Token) (q : ℕ) l.
    reverse-append (Rest q) (at_places xs) ∙ (λ i. places-flipped xs i ++ rest-back q l i) in
    sym (reverse-reverse us)
    ∙ ap reverse (same-tokens (reverse ts) (reverse us) r r' lt lt' (sym (turned us r' lt') ∙ ap reverse e ∙ turned ts r lt))
    ∙ reverse-reverse ts

-- ---- layers

abbrev break_at : ℕ → List Token
break_at n = Byte n line_feed ∷ []

-- the lines of a layer, of whose tokens the last is the break at the text's end
texts-are : (s : Source) → IsWellFormed s → line_texts s ≡ map text_of (lines (tokens-of s ++ break_at (length s.text)))
texts-are s formed = two (display_lines s.text s.inlays s.folds) ∙ ap (λ (ts : List Token). map text_of (lines ts)) (folded_is s (ends_open s formed)) where
  two : (ls : List (List Token)) → map (λ pieces. map (λ piece. piece.text) pieces) (map pieces_of ls) ≡ map text_of ls
  two [] = refl
  two (l ∷ ls) = ap (λ k. text_of l ∷ k) (two ls)

-- what comes after a place, by tokens without their offsets
behind-erased : (p : ℕ) (xs : List Token) (b : Beyond p xs) → map erased (drop p (at_places xs)) ≡ Rest b.rest ++ at_places (map erased b.tail)
behind-erased p xs b =
    ap (map erased) b.places
    ∙ map-append erased (replicate b.rest (Hidden b.offset)) (at_places b.tail)
    ∙ (λ i. rest-erased b.rest b.offset i ++ places-erased b.tail i)

-- tokens that are the same but for their offsets, with the break at a text's end
with-break : (ts us : List Token) (n m : ℕ) → map erased us ≡ map erased ts → map erased (us ++ break_at m) ≡ map erased (ts ++ break_at n)
with-break ts us n m e = map-append erased us (break_at m) ∙ ap (λ l. l ++ break_at 0) e ∙ sym (map-append erased ts (break_at n))

-- Where a replacement leads from layer to layer, the lines that it doesn't meet have pieces of the same texts.
module _ (shift : Option Reach) (old new : Source) (formed : IsWellFormed old) (formed' : IsWellFormed new) where
  abbrev ts : List Token
  ts = tokens-of old

  abbrev us : List Token
  us = tokens-of new

  abbrev all : List (List Token)
  all = lines (ts ++ break_at (length old.text))

  abbrev all' : List (List Token)
  all' = lines (us ++ break_at (length new.text))

  module _ (s : Reach) (leads : LayerLeads shift old new (Some s)) where
    abbrev first : ℕ
    first = row_of (shown_text old) s.start

    abbrev last : ℕ
    last = row_of (shown_text old) s.end

    abbrev last' : ℕ
    last' = row_of (shown_text new) (s.start + s.count)

    start-in : s.start ≤ length (at_places ts)
    start-in =
        let r = leads.reaches in
        omega (arith, r, ap (λ (l : List Token). length l) leads.before, length-take s.start (at_places ts), length-take s.start (at_places us))

    fronts : take first all' ≡ take first all
    fronts =
        let r = leads.reaches in
        fronts-same (break_at (length old.text)) (break_at (length new.text)) ts us s.start start-in (omega (arith, r)) leads.before

    from : Beyond s.end ts
    from = beyond s.end ts leads.within

    from' : Beyond (s.start + s.count) us
    from' = beyond (s.start + s.count) us leads.reaches

    tails : map erased from'.tail ≡ map erased from.tail
    tails =
        same-behind (map erased from.tail) (map erased from'.tail) from.rest from'.rest from.small from'.small
        (sym (behind-erased (s.start + s.count) us from') ∙ ap (map erased) leads.behind ∙ each-after shift (drop s.end (at_places ts)) ∙ behind-erased s.end ts from)

    behinds : map text_of (drop (suc last') all') ≡ map text_of (drop (suc last) all)
    behinds =
        ap (map text_of) (from'.lines (break_at (length new.text)))
        ∙ alike-texts 1 (from'.tail ++ break_at (length new.text)) (from.tail ++ break_at (length old.text)) (with-break from.tail from'.tail (length old.text) (length new.text) tails)
        ∙ ap (map text_of) (sym (from.lines (break_at (length old.text))))

    pub lines-led : LeadsAt (line_texts old) (line_texts new) first (last + 1) (last' + 1 - first)
    lines-led =
        let same : row_of (shown_text new) s.start ≡ first = ap feeds (texts-lead shift old new s leads).before in
        let rise : first ≤ last' = omega (arith, same, row_of-le (shown_text new) s.start (s.start + s.count) (omega arith)) in
        let upto : first + (last' + 1 - first) ≡ suc last' = omega (arith, rise) in
        let next : suc last ≡ last + 1 = omega arith in
        record {
          within = omega (arith, row-lt old formed s.end, length-map (shown_lines old) (λ pieces. map (λ piece. piece.text) pieces));
          reaches = omega (arith, upto, row-lt new formed' (s.start + s.count), length-map (shown_lines new) (λ pieces. map (λ piece. piece.text) pieces));
          before =
              ap (take first) (texts-are new formed') ∙ take-map text_of first all' ∙ ap (map text_of) fronts
              ∙ sym (ap (take first) (texts-are old formed) ∙ take-map text_of first all);
          behind =
              ap (λ n. drop n (line_texts new)) upto
              ∙ ap (drop (suc last')) (texts-are new formed') ∙ drop-map text_of (suc last') all' ∙ behinds
              ∙ sym (ap (drop (suc last)) (texts-are old formed) ∙ drop-map text_of (suc last) all)
              ∙ ap (λ n. drop n (line_texts old)) next;
        }

  -- where nothing is replaced, all lines do
  same-texts : layer_places new ≡ layer_places old → line_texts new ≡ line_texts old
  same-texts e =
      let tokens : us ≡ ts = same-behind ts us 0 0 (omega arith) (omega arith) e in
      texts-are new formed'
      ∙ alike-texts 0 (us ++ break_at (length new.text)) (ts ++ break_at (length old.text)) (with-break ts us (length old.text) (length new.text) (ap (map erased) tokens))
      ∙ sym (texts-are old formed)

  pub lines-follow : (answer : Option Shift) → LayerLeads shift old new (option_map reach_of answer) → LinesFollow old new answer
  lines-follow None e = same-texts e
  lines-follow (Some s) leads =
      let texts = texts-lead shift old new (reach_of s) leads in
      (record { within = texts.within; reaches = texts.reaches; first = ap feeds texts.before }, lines-led (reach_of s) leads)
