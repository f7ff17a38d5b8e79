-- Where offsets are in layers without folds of which a replacement leads from the one to the other.
use Rattle.std.proofs.Common.{◌≡◌, ℕ, zero, suc, ◌+◌, ◌-◌, ◌<◌, ◌≤◌, ◌==◌, cond, filter, get_or, List, [], ◌∷◌, ◌++◌, length, map, take, drop, Option, refl, sym, ap, ◌∙◌, subst, inl, inr, ◌⊎◌, arith, length-append}
use Rattle.std.specs.List.{count_by, flat_map}
use Rattle.std.proofs.lemmas.Bool.{cases_lt}
use Rattle.std.proofs.lemmas.List.{drop-drop, drop-map, drop-take, length-drop, length-map, length-take, take-append-drop, take-take, take_more}
use Rattle.std.proofs.lemmas.List.Sums.{sum_by-append}
use Rattle.cell_units.specs.declared.place.Bias.{Bias}
use Rattle.cell_units.specs.declared.place.Bias.TheVariants.{Left, Right}
use Rattle.cell_units.specs.Folded.{folded_to, line_of, shown}
use Rattle.cell_units.specs.Inlaid.{Byte, Hidden, InlayByte, Token, inlay_bytes, inlays_at, is_break, offset_of, show_each}
use Rattle.cell_units.specs.Layers.{Source, inlay_source, place_of}
use Rattle.cell_units.specs.Record.{Inlay}
use Rattle.cell_units.specs.Text.{clean}
use Rattle.cell_units.proofs.CutLists.{Every, Every-append}
use Rattle.cell_units.proofs.LineSpans.{inlays-at}
use Rattle.cell_units.proofs.ShownMoved.{Every-show_each, Every-shown, show_each-append}
use Rattle.cell_units.proofs.ShownPlaces.{places-rise}
use Rattle.joined_folds.specs.Windows.{moved_on}
use Rattle.edit_patch.specs.LayerLeads.{offset_after, token_after}
use Rattle.edit_patch.specs.Leads.{Leads, Reach}
use Rattle.fold_map.proofs.MapTokens.{bare, behind-from, drop-bare, front-left, place-size, take-bare}

pub every-by : {X : Type 0} (P Q : X → Type 0) → ((x : X) → P x → Q x) → (xs : List X) → Every P xs → Every Q xs
every-by P Q f [] a = tt
every-by P Q f (x ∷ xs) a = (f x a.0, every-by P Q f xs a.1)

-- what is at an index of a list of which each is so
every-at : {X : Type 0} (P : X → Type 0) (xs : List X) (k : ℕ) (y : X) (ys : List X) → Every P xs → drop k xs ≡ y ∷ ys → P y
every-at P [] zero y ys a e = absurd (cc e)
every-at P [] (suc k) y ys a e = absurd (cc e)
every-at P (x ∷ xs) zero y ys a e = let h : x ≡ y = cc e in subst P h a.0
every-at P (x ∷ xs) (suc k) y ys a e = every-at P xs k y ys a.1 e

rest-same : {X : Type 0} (x y : X) (xs ys : List X) → x ∷ xs ≡ y ∷ ys → xs ≡ ys
rest-same x y xs ys e = cc e

first-same : {X : Type 0} (x y : X) (xs ys : List X) → x ∷ xs ≡ y ∷ ys → x ≡ y
first-same x y xs ys e = cc e

record Found {X : Type 0} (y : X) (xs : List X) (k : ℕ) : Type 0 where
  rest : List X
  is : drop k xs ≡ y ∷ rest

-- lists that begin alike have the same there
same-at : {X : Type 0} (m k : ℕ) (xs ys : List X) (y : X) (zs : List X) → take m xs ≡ take m ys → k < m → drop k ys ≡ y ∷ zs → Found y xs k
same-at zero k xs ys y zs e l d = absurd (omega (arith, l))
same-at (suc m) zero xs [] y zs e l d = absurd (cc d)
same-at (suc m) (suc k) xs [] y zs e l d = absurd (cc d)
same-at (suc m) zero [] (z ∷ ys) y zs e l d = absurd (cc e)
same-at (suc m) (suc k) [] (z ∷ ys) y zs e l d = absurd (cc e)
same-at (suc m) zero (x ∷ xs) (z ∷ ys) y zs e l d =
    let one : x ≡ z = first-same x z (take m xs) (take m ys) e in
    let two : z ≡ y = first-same z y ys zs d in
    record { rest = xs; is = ap (λ h. h ∷ xs) (one ∙ two) }
same-at (suc m) (suc k) (x ∷ xs) (z ∷ ys) y zs e l d =
    let r = same-at m k xs ys y zs (rest-same x z (take m xs) (take m ys) e) (omega (arith, l)) d in
    record { rest = r.rest; is = r.is }

-- the token is no byte of the buffer from an offset on
abbrev IsByteBefore : ℕ → Token → Type 0
IsByteBefore o (Byte p b) = p < o
IsByteBefore o (InlayByte p id b) = Unit {0}
IsByteBefore o (Hidden p) = Unit {0}

not-bytes : (o : ℕ) (ts : List Token) → Every (λ t. offset_of t < o) ts → Every (IsByteBefore o) ts
not-bytes o [] a = tt
not-bytes o (Byte p b ∷ ts) a = (a.0, not-bytes o ts a.1)
not-bytes o (InlayByte p id b ∷ ts) a = (tt, not-bytes o ts a.1)
not-bytes o (Hidden p ∷ ts) a = (tt, not-bytes o ts a.1)

inlay-no_bytes : (o p id : ℕ) (bs : List ℕ) → Every (IsByteBefore o) (map (InlayByte p id) bs)
inlay-no_bytes o p id [] = tt
inlay-no_bytes o p id (b ∷ bs) = (tt, inlay-no_bytes o p id bs)

inlays-no_bytes : (o : ℕ) (is : List Inlay) → Every (IsByteBefore o) (flat_map inlay_bytes is)
inlays-no_bytes o [] = tt
inlays-no_bytes o (i ∷ is) = Every-append (IsByteBefore o) (inlay_bytes i) (flat_map inlay_bytes is) (inlay-no_bytes o i.offset i.id (clean i.text)) (inlays-no_bytes o is)

pub count-append : (xs ys : List Token) → count_by is_break (xs ++ ys) ≡ count_by is_break xs + count_by is_break ys
count-append xs ys = sum_by-append (λ (t : Token). cond (is_break t) 1 0) xs ys

module _ (text : List ℕ) (inlays : List Inlay) where
  abbrev low : Source
  low = inlay_source text inlays

  abbrev place : ℕ → Bias → ℕ
  place o bias = place_of low o bias

  abbrev L : List Token
  L = bare text inlays

  -- ---- the token of a byte is at its right place, and nowhere else

  pub record ByteAt (o : ℕ) : Type 0 where
    pub byte : ℕ
    pub rest : List Token
    pub is : drop (place o Right) L ≡ Byte o byte ∷ rest
    pub later : Every (λ t. o < offset_of t) rest

  pub byte-at : (o : ℕ) → o < length text → ByteAt o
  byte-at o l = go (drop o text) refl where
    go : (xs : List ℕ) → drop o text ≡ xs → ByteAt o
    go [] e = absurd (omega (arith, ap length e, length-drop o text, l))
    go (c ∷ cs) e = record {
      byte = c;
      rest = show_each (shown inlays []) (o + 1) cs ++ inlays_at inlays (o + 1 + length cs);
      is = drop-bare text inlays o Right (omega (arith, l)) ∙ ap (behind-from text inlays o) e;
      later =
          Every-append (λ t. o < offset_of t) (show_each (shown inlays []) (o + 1) cs) (inlays_at inlays (o + 1 + length cs))
          (Every-show_each (shown inlays []) (λ t. o < offset_of t) (o + 1) cs
          (λ k d h l. every-by (λ t. offset_of t ≡ k) (λ t. o < offset_of t) (λ t e. omega (arith, e, h)) (shown inlays [] k d) (Every-shown inlays [] k d)))
          (every-by (λ t. offset_of t ≡ o + 1 + length cs) (λ t. o < offset_of t) (λ t e. omega (arith, e)) (inlays_at inlays (o + 1 + length cs)) (inlays-at inlays (o + 1 + length cs)));
    }

  front-bytes : (o : ℕ) → Every (IsByteBefore o) (folded_to text inlays [] o Right)
  front-bytes o =
      Every-append (IsByteBefore o) (folded_to text inlays [] o Left) (inlays_at inlays o)
      (not-bytes o (folded_to text inlays [] o Left) (front-left text inlays o)) (inlays-no_bytes o (filter (λ i. i.offset == o) inlays))

  found-at : (o k c : ℕ) (ys : List Token) → o < length text → drop k L ≡ Byte o c ∷ ys → k ≡ place o Right
  found-at o k c ys l e = go (cases_lt k (place o Right)) (cases_lt (place o Right) k) where
    r : ByteAt o
    r = byte-at o l

    go : (k < place o Right) ⊎ (place o Right ≤ k) → (place o Right < k) ⊎ (k ≤ place o Right) → k ≡ place o Right
    go (inl x) _ =
        let there = same-at (place o Right) k (take (place o Right) L) L (Byte o c) ys (take-take (place o Right) (place o Right) L (omega arith)) x e in
        absurd (less (every-at (IsByteBefore o) (take (place o Right) L) k (Byte o c) there.rest
        (subst (Every (IsByteBefore o)) (sym (take-bare text inlays o Right (omega (arith, l)))) (front-bytes o)) there.is)) where
          less : o < o → ⊥
          less l = omega (arith, l)
    go (inr x) (inl y) =
        let there : place o Right + suc (k - place o Right - 1) ≡ k = omega (arith, y) in
        let here : drop (suc (k - place o Right - 1)) (Byte o r.byte ∷ r.rest) ≡ Byte o c ∷ ys =
        ap (drop (suc (k - place o Right - 1))) (sym r.is) ∙ drop-drop (suc (k - place o Right - 1)) (place o Right) L ∙ ap (λ j. drop j L) there ∙ e in
        absurd (less (every-at (λ t. o < offset_of t) r.rest (k - place o Right - 1) (Byte o c) ys r.later here)) where
          less : o < o → ⊥
          less l = omega (arith, l)
    go (inr x) (inr y) = omega (arith, x, y)

  -- ---- places

  pub next-left : (o : ℕ) → o < length text → place (o + 1) Left ≡ place o Right + 1
  next-left o l =
      let size = place-size text inlays (o + 1) Left in
      let size' = place-size text inlays o Right in
      let more = ap (λ xs. length (show_each (shown inlays []) 0 xs)) (take_more text o 0 l) in
      let parts = ap (λ ts. length ts) (show_each-append (shown inlays []) 0 (take o text) (get_or text o 0 ∷ [])) in
      let at : 0 + length (take o text) ≡ o = omega (arith, length-take o text, l) in
      let own = ap (λ k. length (show_each (shown inlays []) k (get_or text o 0 ∷ []))) at in
      let front = folded_to text inlays [] o Left in
      omega (
        arith,
        size,
        size',
        more,
        parts,
        own,
        length-append front (show_each (shown inlays []) (0 + length (take o text)) (get_or text o 0 ∷ [])),
        length-append (inlays_at inlays o ++ Byte o (get_or text o 0) ∷ []) [],
        length-append (inlays_at inlays o) (Byte o (get_or text o 0) ∷ []),
        length-append front (inlays_at inlays o),
      )

  -- the line of a position, by what is before its place
  line-at : (o : ℕ) (bias : Bias) → o ≤ length text → line_of text inlays [] o bias ≡ count_by is_break (take (place o bias) L)
  line-at o bias l = ap (count_by is_break) (sym (take-bare text inlays o bias l))

-- ---- after a replacement

module _ (shift : Option Reach) (text text' : List ℕ) (inlays inlays' : List Inlay) (s : Reach) (leads : Leads (map (token_after shift)) (bare text inlays) (bare text' inlays') s)
    (start end last : ℕ) (order : start ≤ end) (within : end ≤ length text) (reach : start ≤ last) (size : length text' ≡ moved_on end last (length text))
    (first : place_of (inlay_source text inlays) start Left ≤ s.start) (second : s.end ≤ place_of (inlay_source text inlays) end Right)
    (moves : (o : ℕ) → end ≤ o → offset_after shift o ≡ moved_on end last o) where
  abbrev P : ℕ → Bias → ℕ
  P o bias = place_of (inlay_source text inlays) o bias

  abbrev P' : ℕ → Bias → ℕ
  P' o bias = place_of (inlay_source text' inlays') o bias

  abbrev on : ℕ → ℕ
  on o = moved_on end last o

  -- ---- before it

  pub right-before : (o : ℕ) → o < start → P' o Right ≡ P o Right
  right-before o l =
      let r = byte-at text inlays o (omega (arith, l, order, within)) in
      let next = next-left text inlays o (omega (arith, l, order, within)) in
      let rise = places-rise (inlay_source text inlays) (o + 1) start Left (omega (arith, l)) (omega (arith, order, within)) in
      let there = same-at s.start (P o Right) (bare text' inlays') (bare text inlays) (Byte o r.byte) r.rest leads.before (omega (arith, next, rise, first)) r.is in
      sym (found-at text' inlays' o (P o Right) r.byte there.rest (omega (arith, l, reach, size)) there.is)

  pub left-before : (o : ℕ) → o ≤ start → P' o Left ≡ P o Left
  left-before zero l = refl
  left-before (suc o) l =
      let a = next-left text inlays o (omega (arith, l, order, within)) in
      let b = next-left text' inlays' o (omega (arith, l, reach, size)) in
      let e : o + 1 ≡ suc o = omega arith in
      omega (arith, a, b, right-before o (omega (arith, l)), ap (λ k. P k Left) e, ap (λ k. P' k Left) e)

  -- what is before a place up to it
  same-before : (k : ℕ) → k ≤ s.start → count_by is_break (take k (bare text' inlays')) ≡ count_by is_break (take k (bare text inlays))
  same-before k l =
      ap (count_by is_break)
      (sym (take-take k s.start (bare text' inlays') l) ∙ ap (take k) leads.before ∙ take-take k s.start (bare text inlays) l)

  pub line-before : (o : ℕ) (bias : Bias) → o ≤ length text → o ≤ length text' → P' o bias ≡ P o bias → P o bias ≤ s.start → line_of text' inlays' [] o bias ≡ line_of text inlays [] o bias
  line-before o bias l l' same k =
      line-at text' inlays' o bias l'
      ∙ ap (λ j. count_by is_break (take j (bare text' inlays'))) same
      ∙ same-before (P o bias) k
      ∙ sym (line-at text inlays o bias l)

  -- ---- after it

  abbrev base : ℕ
  base = s.start + s.count

  past-end : (o : ℕ) → end ≤ o → o ≤ length text → s.end ≤ P o Right
  past-end o l u = let r = places-rise (inlay_source text inlays) end o Right l u in omega (arith, r, second)

  pub behind-drop : (k : ℕ) → s.end ≤ k → drop (k - s.end + base) (bare text' inlays') ≡ map (token_after shift) (drop k (bare text inlays))
  behind-drop k l =
      let here : base + (k - s.end) ≡ k - s.end + base = omega arith in
      let there : s.end + (k - s.end) ≡ k = omega (arith, l) in
      ap (λ j. drop j (bare text' inlays')) (sym here) ∙ sym (drop-drop (k - s.end) base (bare text' inlays'))
      ∙ ap (drop (k - s.end)) leads.behind
      ∙ drop-map (token_after shift) (k - s.end) (drop s.end (bare text inlays))
      ∙ ap (map (token_after shift)) (drop-drop (k - s.end) s.end (bare text inlays) ∙ ap (λ j. drop j (bare text inlays)) there)

  pub right-behind : (o : ℕ) → end ≤ o → o ≤ length text → P' (on o) Right ≡ P o Right - s.end + base
  right-behind o l u = go (cases_lt o (length text)) where
    go : (o < length text) ⊎ (length text ≤ o) → P' (on o) Right ≡ P o Right - s.end + base
    go (inl x) =
        let r = byte-at text inlays o x in
        let is : drop (P o Right - s.end + base) (bare text' inlays') ≡ Byte (on o) r.byte ∷ map (token_after shift) r.rest =
        behind-drop (P o Right) (past-end o l u) ∙ ap (map (token_after shift)) r.is ∙ ap (λ j. Byte j r.byte ∷ map (token_after shift) r.rest) (moves o l) in
        sym (found-at text' inlays' (on o) (P o Right - s.end + base) r.byte (map (token_after shift) r.rest) (omega (arith, x, l, size)) is)
    go (inr x) =
        let e : o ≡ length text = omega (arith, x, u) in
        let here = place-size text inlays (length text) Right in
        let there = place-size text' inlays' (length text') Right in
        let on-e : on o ≡ length text' = ap on e ∙ sym size in
        let rest = ap (λ ts. length ts) leads.behind in
        let a = leads.within in
        let b = leads.reaches in
        let c = past-end o l u in
        omega (
          arith,
          a,
          b,
          c,
          here,
          there,
          rest,
          ap (λ k. P k Right) e,
          ap (λ k. P' k Right) on-e,
          length-drop base (bare text' inlays'),
          length-map (drop s.end (bare text inlays)) (token_after shift),
          length-drop s.end (bare text inlays),
        )

  pub left-behind : (o : ℕ) → end < o → o ≤ length text → P' (on o) Left ≡ P o Left - s.end + base
  left-behind o l u =
      let q = o - 1 in
      let a = next-left text inlays q (omega (arith, l, u)) in
      let b = next-left text' inlays' (on q) (omega (arith, l, u, size)) in
      let e : q + 1 ≡ o = omega (arith, l) in
      let e' : on q + 1 ≡ on o = omega (arith, l) in
      let r = right-behind q (omega (arith, l)) (omega (arith, u)) in
      let c = past-end q (omega (arith, l)) (omega (arith, u)) in
      omega (arith, a, b, r, c, ap (λ k. P k Left) e, ap (λ k. P' k Left) e')

  pub place-behind : (o : ℕ) (bias : Bias) → end < o → o ≤ length text → (P' (on o) bias ≡ P o bias - s.end + base) × (s.end ≤ P o bias)
  place-behind o Right l u = (right-behind o (omega (arith, l)) u, past-end o (omega (arith, l)) u)
  place-behind o Left l u =
      let q = o - 1 in
      let a = next-left text inlays q (omega (arith, l, u)) in
      let e : q + 1 ≡ o = omega (arith, l) in
      let c = past-end q (omega (arith, l)) (omega (arith, u)) in
      (left-behind o l u, omega (arith, a, c, ap (λ k. P k Left) e))

  -- ---- lines after it

  take-plus : (m n : ℕ) (xs : List Token) → take (m + n) xs ≡ take m xs ++ take n (drop m xs)
  take-plus m n xs =
      sym (take-append-drop m (take (m + n) xs))
      ∙ (λ i. take-take m (m + n) xs (omega arith) i ++ drop-take m n xs i)

  count-moved : (ts : List Token) → count_by is_break (map (token_after shift) ts) ≡ count_by is_break ts
  count-moved [] = refl
  count-moved (t ∷ ts) =
      count-append (token_after shift t ∷ []) (map (token_after shift) ts)
      ∙ (λ i. one t i + count-moved ts i)
      ∙ sym (count-append (t ∷ []) ts) where
        one : (t : Token) → count_by is_break (token_after shift t ∷ []) ≡ count_by is_break (t ∷ [])
        one (Byte p b) = refl
        one (InlayByte p id b) = refl
        one (Hidden p) = refl

  take-map : (k : ℕ) (ts : List Token) → take k (map (token_after shift) ts) ≡ map (token_after shift) (take k ts)
  take-map zero ts = refl
  take-map (suc k) [] = refl
  take-map (suc k) (t ∷ ts) = ap (λ l. token_after shift t ∷ l) (take-map k ts)

  pub line-behind : (o : ℕ) (bias : Bias) → end < o → o ≤ length text
      → line_of text' inlays' [] (on o) bias + count_by is_break (take s.end (bare text inlays)) ≡ line_of text inlays [] o bias + count_by is_break (take base (bare text' inlays'))
  line-behind o bias l u =
      let p = place-behind o bias l u in
      let k = P o bias - s.end in
      let mid = take k (drop s.end (bare text inlays)) in
      let new = line-at text' inlays' (on o) bias (omega (arith, l, u, size)) in
      let old = line-at text inlays o bias u in
      let at : P' (on o) bias ≡ base + k = omega (arith, p.0) in
      let from : P o bias ≡ s.end + k = let x = p.1 in omega (arith, x) in
      let tail : take k (drop base (bare text' inlays')) ≡ map (token_after shift) mid = ap (take k) leads.behind ∙ take-map k (drop s.end (bare text inlays)) in
      omega (
        arith,
        new,
        old,
        ap (λ j. count_by is_break (take j (bare text' inlays'))) at,
        ap (λ j. count_by is_break (take j (bare text inlays))) from,
        ap (λ ts. count_by is_break ts) (take-plus base k (bare text' inlays')),
        ap (λ ts. count_by is_break ts) (take-plus s.end k (bare text inlays)),
        count-append (take base (bare text' inlays')) (take k (drop base (bare text' inlays'))),
        count-append (take s.end (bare text inlays)) mid,
        ap (λ ts. count_by is_break ts) tail,
        count-moved mid,
      )
