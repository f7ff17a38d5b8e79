-- The piece that goes on from a place that lies at a spot.
use Rattle.std.proofs.Common.{◌≡◌, ◌≢◌, ℕ, zero, suc, ◌+◌, ◌-◌, ◌<◌, ◌≤◌, ◌==◌, ◌&&◌, min, Bool, true, false, cond, List, [], ◌∷◌, ◌++◌, length, map, take, drop, count_by, Option, Some, None, refl, sym, ap, ◌∙◌, subst, ◌⊎◌, inl, inr, arith}
use Rattle.std.specs.List.{slice_get}
use Rattle.std.proofs.lemmas.Bool.{cases_lt, eq-eqb, ne_eqb}
use Rattle.std.proofs.lemmas.List.{append_assoc, drop-append-le, drop-drop, drop-take, length-drop, length-map, length-take, take-append-le, take-take}
use Rattle.std.proofs.lemmas.Option.{get_or_from_slice_get, slice_get_within}
use Rattle.std.proofs.Math.Seq.{drop-append-add, drop-append_seam}
use Rattle.cell_units.specs.Inlaid.{Token, Byte, InlayByte, Hidden, inlay_bytes}
use Rattle.cell_units.specs.Folded.{folded}
use Rattle.cell_units.specs.Lawful.{AreInlays}
use Rattle.cell_units.specs.Layers.{Source, inlay_source}
use Rattle.cell_units.specs.Pieces.{is_one_piece, pieces_of}
use Rattle.cell_units.specs.Record.{Inlay}
use Rattle.cell_units.specs.Text.{carriage_return, clean, is_feed, line_feed, without_returns_before_feeds}
use Rattle.cell_units.specs.declared.piece.PieceKind.TheVariants as Kinds
use Rattle.inlay_map.specs.Splices.{base_at}
use Rattle.inlay_map.specs.Spots.{end_at, part_of, sum_before}
use Rattle.cell_units.proofs.SortedLists.{count-cons}
use Rattle.inlay_map.proofs.Cuts.{IsCut, cut-at, tokens-are}
use Rattle.inlay_map.proofs.Parts.{parts_from, text_tokens}
use Rattle.inlay_map.proofs.PieceSteps.{Closed, inlay-run, part-split, take-none, text-run}
use Rattle.inlay_map.proofs.RowsShown.{IsRest, ends-in, rest-at, some-same}
use Rattle.inlay_map.proofs.SpliceLists.{base-behind}
use Rattle.inlay_map.proofs.Spread.{IsSpread}

-- A part of a closed run goes on to what closes it.
closed-take : (t : Token) (o n : ℕ) (rest : List Token) → 0 < n → Closed t o rest → Closed t o (take n rest)
closed-take t o zero rest lt c = absurd (omega (arith, lt))
closed-take t o (suc n) rest lt c = record {
  head = c.head;
  more = take n c.more;
  is = (λ i. take (suc n) (c.is i));
  at = c.at;
  closes = go c.closes;
} where
  go : (is_one_piece t c.head ≡ false) ⊎ (c.more ≡ []) → (is_one_piece t c.head ≡ false) ⊎ (take n c.more ≡ [])
  go (inl apart) = inl apart
  go (inr end) = inr (take-none n c.more end)

drop-tokens : (o r : ℕ) (bs : List ℕ) → drop r (text_tokens o bs) ≡ text_tokens (o + r) (drop r bs)
drop-tokens o zero bs = ap (λ k. text_tokens k bs) (omega arith)
drop-tokens o (suc r) [] = refl
drop-tokens o (suc r) (b ∷ bs) = let same : o + 1 + r ≡ o + suc r = omega arith in drop-tokens (o + 1) r bs ∙ ap (λ k. text_tokens k (drop r bs)) same

take-tokens : (o r : ℕ) (bs : List ℕ) → take r (text_tokens o bs) ≡ text_tokens o (take r bs)
take-tokens o zero bs = refl
take-tokens o (suc r) [] = refl
take-tokens o (suc r) (b ∷ bs) = ap (λ l. Byte o b ∷ l) (take-tokens (o + 1) r bs)

length-tokens : (o : ℕ) (bs : List ℕ) → length (text_tokens o bs) ≡ length bs
length-tokens o [] = refl
length-tokens o (b ∷ bs) = ap suc (length-tokens (o + 1) bs)

-- what closes a run of the text where that is left before its end
text-inner : (o : ℕ) (bs : List ℕ) (rest : List Token) → 0 < length bs → Closed (Byte 0 0) o (take 1 (text_tokens o bs ++ rest))
text-inner o [] rest lt = absurd (omega (arith, lt))
text-inner o (b ∷ bs) rest lt = record { head = Byte o b; more = []; is = refl; at = refl; closes = inr refl }

-- A run of the text from `o` on, of which at most `m` tokens are taken and one more. It has its piece, and the part
-- after it.
pub text-part : (o m : ℕ) (xs : List ℕ) (rest : List Token) → 0 < m → 0 < length xs → Closed (Byte 0 0) (o + length xs) rest
    → pieces_of (take (m + 1) (text_tokens o xs ++ rest))
    ≡ record { kind = Kinds.Buffer; text = take (min (length xs) m) xs; start = o; end = o + min (length xs) m } ∷ pieces_of (take (m + 1 - min (length xs) m) (drop (min (length xs) m) (text_tokens o xs ++ rest)))
text-part o m xs rest some more c =
    let l = min (length xs) m in
    let le : l ≤ length xs = omega arith in
    let long : length (take l xs) ≡ l = omega (arith, length-take l xs) in
    let tail = take (m + 1 - l) (drop l (text_tokens o xs ++ rest)) in
    let front : take l (text_tokens o xs ++ rest) ≡ text_tokens o (take l xs) = take-append-le l (text_tokens o xs) rest (omega (arith, length-tokens o xs)) ∙ take-tokens o l xs in
    let closed : Closed (Byte 0 0) (o + length (take l xs)) tail = subst (λ k. Closed (Byte 0 0) (o + k) tail) (sym long) (go (cases_lt m (length xs))) in
    ap pieces_of (part-split l m (text_tokens o xs ++ rest) (omega arith) ∙ ap (λ ts. ts ++ tail) front)
    ∙ text-run o (take l xs) tail (omega (arith, long, some, more)) closed
    ∙ (λ i. record { kind = Kinds.Buffer; text = take l xs; start = o; end = o + long i } ∷ pieces_of tail)
  where
    l : ℕ
    l = min (length xs) m

    dropped : (k : ℕ) → k ≤ length xs → drop k (text_tokens o xs ++ rest) ≡ text_tokens (o + k) (drop k xs) ++ rest
    dropped k le = drop-append-le k (text_tokens o xs) rest (omega (arith, le, length-tokens o xs)) ∙ ap (λ ts. ts ++ rest) (drop-tokens o k xs)

    go : (m < length xs) ⊎ (length xs ≤ m) → Closed (Byte 0 0) (o + min (length xs) m) (take (m + 1 - min (length xs) m) (drop (min (length xs) m) (text_tokens o xs ++ rest)))
    go (inl lt) =
        let same : m ≡ min (length xs) m = omega (arith, lt) in
        subst (λ k. Closed (Byte 0 0) (o + k) (take (m + 1 - k) (drop k (text_tokens o xs ++ rest)))) same
        (let one : 1 ≡ m + 1 - m = omega arith in
        subst (λ n. Closed (Byte 0 0) (o + m) (take n (drop m (text_tokens o xs ++ rest)))) one
        (subst (λ ts. Closed (Byte 0 0) (o + m) (take 1 ts)) (sym (dropped m (omega (arith, lt)))) (text-inner (o + m) (drop m xs) rest (omega (arith, lt, length-drop m xs)))))
    go (inr ge) =
        let same : length xs ≡ min (length xs) m = omega (arith, ge) in
        subst (λ k. Closed (Byte 0 0) (o + k) (take (m + 1 - k) (drop k (text_tokens o xs ++ rest)))) same
        (let all : drop (length xs) (text_tokens o xs ++ rest) ≡ rest = ap (λ k. drop k (text_tokens o xs ++ rest)) (sym (length-tokens o xs)) ∙ drop-append_seam (text_tokens o xs) rest in
        subst (λ ts. Closed (Byte 0 0) (o + length xs) (take (m + 1 - length xs) ts)) (sym all) (closed-take (Byte 0 0) (o + length xs) (m + 1 - length xs) rest (omega (arith, ge)) c))

abbrev inlay_tokens : ℕ → ℕ → List ℕ → List Token
inlay_tokens o id bs = map (λ b. InlayByte o id b) bs

inlay-inner : (o id : ℕ) (bs : List ℕ) (rest : List Token) → 0 < length bs → Closed (InlayByte 0 id 0) o (take 1 (inlay_tokens o id bs ++ rest))
inlay-inner o id [] rest lt = absurd (omega (arith, lt))
inlay-inner o id (b ∷ bs) rest lt = record { head = InlayByte o id b; more = []; is = refl; at = refl; closes = inr refl }

drop-inlay : (o id r : ℕ) (bs : List ℕ) → drop r (inlay_tokens o id bs) ≡ inlay_tokens o id (drop r bs)
drop-inlay o id zero bs = refl
drop-inlay o id (suc r) [] = refl
drop-inlay o id (suc r) (b ∷ bs) = drop-inlay o id r bs

take-inlay : (o id r : ℕ) (bs : List ℕ) → take r (inlay_tokens o id bs) ≡ inlay_tokens o id (take r bs)
take-inlay o id zero bs = refl
take-inlay o id (suc r) [] = refl
take-inlay o id (suc r) (b ∷ bs) = ap (λ l. InlayByte o id b ∷ l) (take-inlay o id r bs)

-- the same for a run of an inlay
pub inlay-part : (o id m : ℕ) (xs : List ℕ) (rest : List Token) → 0 < m → 0 < length xs → Closed (InlayByte 0 id 0) o rest
    → pieces_of (take (m + 1) (inlay_tokens o id xs ++ rest))
    ≡ record { kind = Kinds.Inlay id; text = take (min (length xs) m) xs; start = o; end = o } ∷ pieces_of (take (m + 1 - min (length xs) m) (drop (min (length xs) m) (inlay_tokens o id xs ++ rest)))
inlay-part o id m xs rest some more c =
    let l = min (length xs) m in
    let long : length (take l xs) ≡ l = omega (arith, length-take l xs) in
    let tail = take (m + 1 - l) (drop l (inlay_tokens o id xs ++ rest)) in
    let front : take l (inlay_tokens o id xs ++ rest) ≡ inlay_tokens o id (take l xs) = take-append-le l (inlay_tokens o id xs) rest (omega (arith, length-map xs (λ (b : ℕ). InlayByte o id b))) ∙ take-inlay o id l xs in
    ap pieces_of (part-split l m (inlay_tokens o id xs ++ rest) (omega arith) ∙ ap (λ ts. ts ++ tail) front)
    ∙ inlay-run o id (take l xs) tail (omega (arith, long, some, more)) (go (cases_lt m (length xs)))
  where
    dropped : (k : ℕ) → k ≤ length xs → drop k (inlay_tokens o id xs ++ rest) ≡ inlay_tokens o id (drop k xs) ++ rest
    dropped k le = drop-append-le k (inlay_tokens o id xs) rest (omega (arith, le, length-map xs (λ (b : ℕ). InlayByte o id b))) ∙ ap (λ ts. ts ++ rest) (drop-inlay o id k xs)

    go : (m < length xs) ⊎ (length xs ≤ m) → Closed (InlayByte 0 id 0) o (take (m + 1 - min (length xs) m) (drop (min (length xs) m) (inlay_tokens o id xs ++ rest)))
    go (inl lt) =
        let same : m ≡ min (length xs) m = omega (arith, lt) in
        subst (λ k. Closed (InlayByte 0 id 0) o (take (m + 1 - k) (drop k (inlay_tokens o id xs ++ rest)))) same
        (let one : 1 ≡ m + 1 - m = omega arith in
        subst (λ n. Closed (InlayByte 0 id 0) o (take n (drop m (inlay_tokens o id xs ++ rest)))) one
        (subst (λ ts. Closed (InlayByte 0 id 0) o (take 1 ts)) (sym (dropped m (omega (arith, lt)))) (inlay-inner o id (drop m xs) rest (omega (arith, lt, length-drop m xs)))))
    go (inr ge) =
        let same : length xs ≡ min (length xs) m = omega (arith, ge) in
        subst (λ k. Closed (InlayByte 0 id 0) o (take (m + 1 - k) (drop k (inlay_tokens o id xs ++ rest)))) same
        (let all : drop (length xs) (inlay_tokens o id xs ++ rest) ≡ rest = ap (λ k. drop k (inlay_tokens o id xs ++ rest)) (sym (length-map xs (λ (b : ℕ). InlayByte o id b))) ∙ drop-append_seam (inlay_tokens o id xs) rest in
        subst (λ ts. Closed (InlayByte 0 id 0) o (take (m + 1 - length xs) ts)) (sym all) (closed-take (InlayByte 0 id 0) o (m + 1 - length xs) rest (omega (arith, ge)) c))

-- ---- what closes a run

-- a text that is some shows some
shows-some : (bs : List ℕ) → 0 < length bs → 0 < length (without_returns_before_feeds bs)
shows-some [] lt = absurd (omega arith)
shows-some (b ∷ []) lt = go (b == carriage_return) where
  go : (c : Bool) → 0 < length (cond (c && false) [] (b ∷ []))
  go true = omega arith
  go false = omega arith
shows-some (b ∷ d ∷ ds) lt = go ((b == carriage_return) && is_feed d) (shows-some (d ∷ ds) (omega arith)) where
  go : (c : Bool) → 0 < length (without_returns_before_feeds (d ∷ ds)) → 0 < length (cond c (without_returns_before_feeds (d ∷ ds)) (b ∷ without_returns_before_feeds (d ∷ ds)))
  go true r = r
  go false r = omega arith

pub clean-some : (bs : List ℕ) → 0 < length bs → 0 < length (clean bs)
clean-some bs lt = omega (arith, shows-some bs lt, length-map (without_returns_before_feeds bs) (λ b. cond (b == carriage_return) line_feed b))

record IsCons (xs : List ℕ) : Type 0 where
  head : ℕ
  rest : List ℕ
  is : xs ≡ head ∷ rest

cons-of : (xs : List ℕ) → 0 < length xs → IsCons xs
cons-of [] lt = absurd (omega arith)
cons-of (x ∷ xs) lt = record { head = x; rest = xs; is = refl }

module _ (text : List ℕ) where
  abbrev closing : Token
  closing = Byte (length text) line_feed

  end-is : (is : List Inlay) (n : ℕ) (i : Inlay) → slice_get is n ≡ Some i → end_at text is n ≡ i.offset
  end-is [] zero i e = absurd (cc)
  end-is [] (suc n) i e = absurd (cc)
  end-is (j ∷ js) zero i e = ap (λ (k : Inlay). k.offset) (some-same j i e)
  end-is (j ∷ js) (suc n) i e = end-is js n i e

  end-none : (is : List Inlay) (n : ℕ) → slice_get is n ≡ None → end_at text is n ≡ length text
  end-none [] n e = refl
  end-none (j ∷ js) zero e = absurd (cc)
  end-none (j ∷ js) (suc n) e = end-none js n e

  -- what an inlay's first byte closes
  inlay-head : (t : Token) (i : Inlay) (more : List Token) → 0 < length (clean i.text) → is_one_piece t (InlayByte i.offset i.id 0) ≡ false → Closed t i.offset (inlay_bytes i ++ more)
  inlay-head t i more some apart =
      let c = cons-of (clean i.text) some in
      record {
        head = InlayByte i.offset i.id c.head;
        more = map (λ b. InlayByte i.offset i.id b) c.rest ++ more;
        is = (λ k. map (λ b. InlayByte i.offset i.id b) (c.is k) ++ more);
        at = refl;
        closes = inl (same-kind t i.offset i.id 0 c.head ∙ apart);
      }
    where
      same-kind : (u : Token) (o id b d : ℕ) → is_one_piece u (InlayByte o id d) ≡ is_one_piece u (InlayByte o id b)
      same-kind (Byte p e) o id b d = refl
      same-kind (InlayByte p k e) o id b d = refl
      same-kind (Hidden p) o id b d = refl

  -- after an inlay comes a byte of the text, the next inlay, or the end
  behind-inlay : (id o : ℕ) (js : List Inlay) → o ≤ length text → IsSpread text o js → ((j : Inlay) → slice_get js 0 ≡ Some j → (id ≢ j.id) × (0 < length (clean j.text)))
      → Closed (InlayByte 0 id 0) o (parts_from text o js ++ closing ∷ [])
  behind-inlay id o [] le s next = go (drop o text) (length-drop o text) where
    go : (bs : List ℕ) → length bs ≡ length text - o → Closed (InlayByte 0 id 0) o (text_tokens o bs ++ closing ∷ [])
    go [] e = record { head = closing; more = []; is = refl; at = omega (arith, e, le); closes = inl refl }
    go (b ∷ bs) e = record { head = Byte o b; more = text_tokens (o + 1) bs ++ closing ∷ []; is = refl; at = refl; closes = inl refl }
  behind-inlay id o (j ∷ js) le s next =
      let rest = parts_from text j.offset js ++ closing ∷ [] in
      subst (Closed (InlayByte 0 id 0) o)
      (sym (append_assoc (text_tokens o (take (j.offset - o) (drop o text))) (inlay_bytes j ++ parts_from text j.offset js) (closing ∷ [])
      ∙ ap (λ l. text_tokens o (take (j.offset - o) (drop o text)) ++ l) (append_assoc (inlay_bytes j) (parts_from text j.offset js) (closing ∷ []))))
      (go (take (j.offset - o) (drop o text)) (omega (arith, length-take (j.offset - o) (drop o text), length-drop o text, s.1)))
    where
      go : (bs : List ℕ) → length bs ≡ j.offset - o → Closed (InlayByte 0 id 0) o (text_tokens o bs ++ (inlay_bytes j ++ (parts_from text j.offset js ++ closing ∷ [])))
      go (b ∷ bs) e = record { head = Byte o b; more = text_tokens (o + 1) bs ++ (inlay_bytes j ++ (parts_from text j.offset js ++ closing ∷ [])); is = refl; at = refl; closes = inl refl }
      go [] e =
          let here : j.offset ≡ o = omega (arith, e, s.0) in
          subst (λ k. Closed (InlayByte 0 id 0) k (inlay_bytes j ++ (parts_from text j.offset js ++ closing ∷ []))) here
          (inlay-head (InlayByte 0 id 0) j (parts_from text j.offset js ++ closing ∷ []) (next j refl).1 (ne_eqb id j.id (next j refl).0))

-- neighbours have different ids
apart-ids : (is : List Inlay) (n : ℕ) (i j : Inlay) → ((id : ℕ) → count_by (λ k. k.id == id) is ≤ 1) → slice_get is n ≡ Some i → slice_get (drop (suc n) is) 0 ≡ Some j → i.id ≢ j.id
apart-ids [] zero i j few e f = absurd (cc)
apart-ids [] (suc n) i j few e f = absurd (cc)
apart-ids (k ∷ []) zero i j few e f = absurd (cc)
apart-ids (k ∷ m ∷ ms) zero i j few e f = λ same.
    let a : k.id ≡ i.id = ap (λ (x : Inlay). x.id) (some-same k i e) in
    let b : m.id ≡ i.id = ap (λ (x : Inlay). x.id) (some-same m j f) ∙ sym same in
    let one = count-cons (λ (x : Inlay). x.id == i.id) k (m ∷ ms) in
    let two = count-cons (λ (x : Inlay). x.id == i.id) m ms in
    absurd (omega (arith, few i.id, one, two, ap {B = ℕ} (λ (t : Bool). cond t 1 0) (eq-eqb k.id i.id a), ap {B = ℕ} (λ (t : Bool). cond t 1 0) (eq-eqb m.id i.id b)))
apart-ids (k ∷ ks) (suc n) i j few e f = apart-ids ks n i j (λ id. omega (arith, few id, count-cons (λ (x : Inlay). x.id == id) k ks)) e f

-- ---- the pieces

module _ (text : List ℕ) (is : List Inlay) (n : ℕ) (s : IsSpread text 0 is) (are : AreInlays text is) where
  abbrev base : ℕ
  base = base_at 0 is n

  abbrev end : ℕ
  end = end_at text is n

  abbrev source : Source
  source = inlay_source text is

  abbrev tokens : List Token
  tokens = folded text is []

  at : IsCut text 0 is n
  at = cut-at text 0 is n s (omega arith)

  behind : IsRest text 0 is n
  behind = rest-at text 0 is n s (omega arith)

  order : (base ≤ end) × (end ≤ length text)
  order = ends-in text 0 is n s (omega arith)

  abbrev here : List ℕ
  here = take (end - base) (drop base text)

  length-here : length here ≡ end - base
  length-here = omega (arith, length-take (end - base) (drop base text), length-drop base text, order.0, order.1)

  abbrev last : List Token
  last = Byte (length text) line_feed ∷ []

  whole : tokens ≡ at.front ++ (text_tokens base here ++ (behind.tail ++ last))
  whole =
      tokens-are text is s
      ∙ ap (λ l. l ++ last) (at.whole ∙ ap (λ l. at.front ++ l) behind.whole)
      ∙ append_assoc at.front (text_tokens base here ++ behind.tail) last
      ∙ ap (λ l. at.front ++ l) (append_assoc (text_tokens base here) behind.tail last)

  -- each inlay shows some
  some-shown : (k : ℕ) (i : Inlay) → slice_get is k ≡ Some i → 0 < length (clean i.text)
  some-shown k i e = clean-some i.text (subst (λ (x : Inlay). 0 < length x.text) (get_or_from_slice_get is k i i e) (are.each k i (slice_get_within is k i e)).some)

  text-closed : Closed (Byte 0 0) end (behind.tail ++ last)
  text-closed = go (slice_get is n) refl where
    go : (o : Option Inlay) → slice_get is n ≡ o → Closed (Byte 0 0) end (behind.tail ++ last)
    go None e =
        subst (λ l. Closed (Byte 0 0) end (l ++ last)) (sym (behind.none e))
        (record { head = Byte (length text) line_feed; more = []; is = refl; at = sym (end-none text is n e); closes = inr refl })
    go (Some i) e =
        subst (λ l. Closed (Byte 0 0) end (l ++ last)) (sym (behind.own i e))
        (subst (λ l. Closed (Byte 0 0) end l) (sym (append_assoc (inlay_bytes i) (parts_from text i.offset (drop (suc n) is)) last))
        (subst (λ k. Closed (Byte 0 0) k (inlay_bytes i ++ (parts_from text i.offset (drop (suc n) is) ++ last))) (sym (end-is text is n i e))
        (inlay-head text (Byte 0 0) i (parts_from text i.offset (drop (suc n) is) ++ last) (some-shown n i e) refl)))

  next-part : (place l end' : ℕ) (ts : List Token) → drop place tokens ≡ ts → place + l ≤ end' → take (end' - place + 1 - l) (drop l ts) ≡ part_of source (place + l) end'
  next-part place l end' ts e le =
      let size : end' - place + 1 - l ≡ end' + 1 - (place + l) = omega (arith, le) in
      (λ k. take (size k) (drop l (sym e k))) ∙ ap (take (end' + 1 - (place + l))) (drop-drop l place tokens)

  -- a piece of the text
  pub text-piece : (place end' r : ℕ) → place ≡ (sum_before text 0 is n).upper.bytes + r → r < end - base → place < end'
      → pieces_of (part_of source place end')
      ≡ record { kind = Kinds.Buffer; text = take (min (end - base - r) (end' - place)) (drop (base + r) text); start = base + r; end = base + r + min (end - base - r) (end' - place) }
      ∷ pieces_of (part_of source (place + min (end - base - r) (end' - place)) end')
  text-piece place end' r e lt some =
      let m = end' - place in
      let xs = drop r here in
      let tl = behind.tail ++ last in
      let left : length xs ≡ end - base - r = omega (arith, length-drop r here, length-here) in
      let l = min (end - base - r) m in
      let same : place ≡ length at.front + r = omega (arith, e, at.long) in
      let dropped : drop place tokens ≡ text_tokens (base + r) xs ++ tl =
      (λ k. drop (same k) (whole k))
      ∙ drop-append-add at.front (text_tokens base here ++ tl) r
      ∙ drop-append-le r (text_tokens base here) tl (omega (arith, lt, length-tokens base here, length-here))
      ∙ ap (λ ts. ts ++ tl) (drop-tokens base r here) in
      let size : end' + 1 - place ≡ m + 1 = omega (arith, some) in
      let closes : Closed (Byte 0 0) (base + r + length xs) tl = subst (λ k. Closed (Byte 0 0) k tl) (omega (arith, left, lt)) text-closed in
      let all : end - base ≡ r + (end - base - r) = omega (arith, lt) in
      let bytes : take l xs ≡ take l (drop (base + r) text) =
      ap (λ k. take l (drop r (take k (drop base text)))) all
      ∙ ap (take l) (drop-take r (end - base - r) (drop base text))
      ∙ take-take l (end - base - r) (drop r (drop base text)) (omega arith)
      ∙ ap (take l) (drop-drop r base text) in
      (λ k. pieces_of (take (size k) (dropped k)))
      ∙ text-part (base + r) m xs tl (omega (arith, some)) (omega (arith, left, lt)) closes
      ∙ (λ k. record { kind = Kinds.Buffer; text = take (min (left k) m) xs; start = base + r; end = base + r + min (left k) m } ∷ pieces_of (take (m + 1 - min (left k) m) (drop (min (left k) m) (text_tokens (base + r) xs ++ tl))))
      ∙ (λ k. record { kind = Kinds.Buffer; text = bytes k; start = base + r; end = base + r + l } ∷ pieces_of (next-part place l end' (text_tokens (base + r) xs ++ tl) dropped (omega arith) k))

  -- a piece of an inlay
  pub inlay-piece : (i : Inlay) (place end' r : ℕ) → slice_get is n ≡ Some i → place ≡ (sum_before text 0 is n).upper.bytes + (end - base) + r → r < length (clean i.text) → place < end'
      → pieces_of (part_of source place end')
      ≡ record { kind = Kinds.Inlay i.id; text = take (min (length (clean i.text) - r) (end' - place)) (drop r (clean i.text)); start = end; end = end }
      ∷ pieces_of (part_of source (place + min (length (clean i.text) - r) (end' - place)) end')
  inlay-piece i place end' r found e lt some =
      let m = end' - place in
      let xs = drop r (clean i.text) in
      let more = parts_from text i.offset (drop (suc n) is) in
      let tl = more ++ last in
      let left : length xs ≡ length (clean i.text) - r = length-drop r (clean i.text) in
      let l = min (length (clean i.text) - r) m in
      let o : end ≡ i.offset = end-is text is n i found in
      let same : place ≡ length at.front + (length (text_tokens base here) + r) = omega (arith, e, at.long, length-tokens base here, length-here) in
      let dropped : drop place tokens ≡ inlay_tokens i.offset i.id xs ++ tl =
      (λ k. drop (same k) (whole k))
      ∙ drop-append-add at.front (text_tokens base here ++ (behind.tail ++ last)) (length (text_tokens base here) + r)
      ∙ drop-append-add (text_tokens base here) (behind.tail ++ last) r
      ∙ ap (λ l. drop r (l ++ last)) (behind.own i found)
      ∙ ap (drop r) (append_assoc (inlay_bytes i) more last)
      ∙ drop-append-le r (inlay_bytes i) tl (omega (arith, lt, length-map (clean i.text) (λ (b : ℕ). InlayByte i.offset i.id b)))
      ∙ ap (λ ts. ts ++ tl) (drop-inlay i.offset i.id r (clean i.text)) in
      let size : end' + 1 - place ≡ m + 1 = omega (arith, some) in
      let spread : IsSpread text i.offset (drop (suc n) is) = next-spread in
      let closes : Closed (InlayByte 0 i.id 0) i.offset tl =
      behind-inlay text i.id i.offset (drop (suc n) is) (omega (arith, o, order.1)) spread
      (λ j f. (apart-ids is n i j are.distinct found f, some-shown (suc n) j (got-next is n j f))) in
      (λ k. pieces_of (take (size k) (dropped k)))
      ∙ inlay-part i.offset i.id m xs tl (omega (arith, some)) (omega (arith, left, lt)) closes
      ∙ (λ k. record { kind = Kinds.Inlay i.id; text = take (min (left k) m) xs; start = sym o k; end = sym o k } ∷ pieces_of (take (m + 1 - min (left k) m) (drop (min (left k) m) (inlay_tokens i.offset i.id xs ++ tl))))
      ∙ (λ k. record { kind = Kinds.Inlay i.id; text = take l xs; start = end; end = end } ∷ pieces_of (next-part place l end' (inlay_tokens i.offset i.id xs ++ tl) dropped (omega arith) k))
    where
      next-spread : IsSpread text i.offset (drop (suc n) is)
      next-spread = subst (λ (k : ℕ). IsSpread text k (drop (suc n) is)) (base-behind 0 is n i found) (cut-at text 0 is (suc n) s (omega arith)).spread

      got-next : (ks : List Inlay) (m : ℕ) (j : Inlay) → slice_get (drop (suc m) ks) 0 ≡ Some j → slice_get ks (suc m) ≡ Some j
      got-next [] m j f = absurd (cc)
      got-next (k ∷ []) zero j f = absurd (cc)
      got-next (k ∷ x ∷ xs) zero j f = f
      got-next (k ∷ ks) (suc m) j f = got-next ks m j f
