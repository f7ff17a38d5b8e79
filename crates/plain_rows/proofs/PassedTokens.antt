-- What is before a position that is not strictly inside a joined fold. It is the tokens at lesser offsets, and for
-- Right the inlays at its own.
use Rattle.std.proofs.Common.{◌≡◌, ℕ, ◌+◌, ◌-◌, ◌<◌, ◌≤◌, ◌&&◌, Bool, true, false, cond, ltb, eqb, List, [], ◌∷◌, ◌++◌, length, map, take, drop, filter, flat_map, refl, sym, ap, ◌∙◌, subst, arith, append-nil, append_assoc}
use Rattle.std.specs.List.{slice_range}
use Rattle.std.proofs.lemmas.Bool.{eq-eqb, eqb-true, ne_eqb, le-ltb, lt-ltb, or_from, or_left, or_right, and_left, and_right, and_from}
use Rattle.std.proofs.lemmas.List.{take-append-drop, take_at, length-take-le, length_push}
use Rattle.std.proofs.lemmas.List.Elements.{filter-append}
use Rattle.cell_units.specs.declared.place.Bias.{Bias}
use Rattle.cell_units.specs.declared.place.Bias.TheVariants.{Left, Right}
use Rattle.cell_units.specs.Text.{clean, line_feed}
use Rattle.cell_units.specs.Record.{Fold, Inlay}
use Rattle.cell_units.specs.Inlaid.{Byte, Hidden, InlayByte, Token, inlay_bytes, inlays_at, offset_of, show_each}
use Rattle.cell_units.specs.Folded.{covered, folded, folded_before, folded_to, inside, shown}
use Rattle.cell_units.specs.Layers.{Source}
use Rattle.cell_units.proofs.CutLists.{Every, Every-append, Every-mono}
use Rattle.cell_units.proofs.Joined.{inside-shows_none, shown-start}
use Rattle.cell_units.proofs.LineSpans.{inlays-at}
use Rattle.cell_units.proofs.ShownMoved.{Every-shown}
use Rattle.cell_units.proofs.ShownText.{show_each-append}
use Rattle.plain_rows.specs.inside.Laying.{IsJoinedFold}
use Rattle.plain_rows.specs.inside.Passed.{IsSamePlace, is_right, token_passed}
use Rattle.plain_rows.proofs.LaidText.{length-slice_range, take_further}
use Rattle.plain_rows.specs.declared.folded_lines.Joined.{Joined}

-- ---- lists

pub filter-all : {X : Type 0} (p : X → Bool) (xs : List X) → Every (λ x. p x ≡ true) xs → filter p xs ≡ xs
filter-all p [] all = refl
filter-all p (x ∷ xs) all = ap (λ (c : Bool). cond c (x ∷ filter p xs) (filter p xs)) all.0 ∙ ap (λ l. x ∷ l) (filter-all p xs all.1)

pub filter-none : {X : Type 0} (p : X → Bool) (xs : List X) → Every (λ x. p x ≡ false) xs → filter p xs ≡ []
filter-none p [] none = refl
filter-none p (x ∷ xs) none = ap (λ (c : Bool). cond c (x ∷ filter p xs) (filter p xs)) none.0 ∙ filter-none p xs none.1

-- ---- tokens by their offsets

passed-below : (o : ℕ) (bias : Bias) (t : Token) → offset_of t < o → token_passed o bias t ≡ true
passed-below o bias (Byte at b) lt = lt-ltb at o lt
passed-below o bias (InlayByte at id b) lt = or_left (ltb at o) (eqb at o && is_right bias) (lt-ltb at o lt)
passed-below o bias (Hidden at) lt = lt-ltb at o lt

passed-above : (o : ℕ) (bias : Bias) (t : Token) → o < offset_of t → token_passed o bias t ≡ false
passed-above o bias (Byte at b) lt = le-ltb at o (omega arith)
passed-above o bias (InlayByte at id b) lt = or_from (ltb at o) (eqb at o && is_right bias) (le-ltb at o (omega arith)) (and_left (eqb at o) (is_right bias) (ne_eqb at o (λ e. absurd (omega (arith, e, lt)))))
passed-above o bias (Hidden at) lt = le-ltb at o (omega arith)

shown-below : (inlays : List Inlay) (folds : List Fold) (o : ℕ) (bias : Bias) (at : ℕ) (bs : List ℕ) → at + length bs ≤ o → Every (λ t. token_passed o bias t ≡ true) (show_each (shown inlays folds) at bs)
shown-below inlays folds o bias at [] le = tt
shown-below inlays folds o bias at (b ∷ bs) le =
    Every-append (λ t. token_passed o bias t ≡ true) (shown inlays folds at b) (show_each (shown inlays folds) (at + 1) bs)
    (Every-mono (λ t. offset_of t ≡ at) (λ t. token_passed o bias t ≡ true) (shown inlays folds at b) (λ t e. passed-below o bias t (omega (arith, e, le))) (Every-shown inlays folds at b))
    (shown-below inlays folds o bias (at + 1) bs (omega (arith, le)))

shown-above : (inlays : List Inlay) (folds : List Fold) (o : ℕ) (bias : Bias) (at : ℕ) (bs : List ℕ) → o < at → Every (λ t. token_passed o bias t ≡ false) (show_each (shown inlays folds) at bs)
shown-above inlays folds o bias at [] lt = tt
shown-above inlays folds o bias at (b ∷ bs) lt =
    Every-append (λ t. token_passed o bias t ≡ false) (shown inlays folds at b) (show_each (shown inlays folds) (at + 1) bs)
    (Every-mono (λ t. offset_of t ≡ at) (λ t. token_passed o bias t ≡ false) (shown inlays folds at b) (λ t e. passed-above o bias t (omega (arith, e, lt))) (Every-shown inlays folds at b))
    (shown-above inlays folds o bias (at + 1) bs (omega (arith, lt)))

-- the inlays at the offset: none for Left, all for Right
abbrev at_side : Bias → List Token → List Token
at_side Left here = []
at_side Right here = here

inlay-side : (o : ℕ) (bias : Bias) (id : ℕ) (bs : List ℕ) → filter (token_passed o bias) (map (InlayByte o id) bs) ≡ at_side bias (map (InlayByte o id) bs)
inlay-side o Left id bs = filter-none (token_passed o Left) (map (InlayByte o id) bs) (none bs) where
  none : (bs : List ℕ) → Every (λ t. token_passed o Left t ≡ false) (map (InlayByte o id) bs)
  none [] = tt
  none (b ∷ bs) = (or_from (ltb o o) (eqb o o && false) (le-ltb o o (omega arith)) (and_right (eqb o o) false refl), none bs)
inlay-side o Right id bs = filter-all (token_passed o Right) (map (InlayByte o id) bs) (all bs) where
  all : (bs : List ℕ) → Every (λ t. token_passed o Right t ≡ true) (map (InlayByte o id) bs)
  all [] = tt
  all (b ∷ bs) = (or_right (ltb o o) (eqb o o && true) (and_from (eqb o o) true (eq-eqb o o refl) refl), all bs)

side-append : (bias : Bias) (xs ys : List Token) → at_side bias xs ++ at_side bias ys ≡ at_side bias (xs ++ ys)
side-append Left xs ys = refl
side-append Right xs ys = refl

side-nil : (bias : Bias) → at_side bias [] ≡ []
side-nil Left = refl
side-nil Right = refl

inlays-side : (inlays : List Inlay) (o : ℕ) (bias : Bias) → filter (token_passed o bias) (inlays_at inlays o) ≡ at_side bias (inlays_at inlays o)
inlays-side [] o bias = sym (side-nil bias)
inlays-side (i ∷ is) o bias = go (eqb i.offset o) refl (inlays-side is o bias) where
  rest : List Token
  rest = inlays_at is o

  go : (c : Bool) → eqb i.offset o ≡ c → filter (token_passed o bias) (inlays_at is o) ≡ at_side bias (inlays_at is o) →
      filter (token_passed o bias) (inlays_at (i ∷ is) o) ≡ at_side bias (inlays_at (i ∷ is) o)
  go true e h =
      let here : inlays_at (i ∷ is) o ≡ inlay_bytes i ++ inlays_at is o = ap (λ (c : Bool). flat_map inlay_bytes (cond c (i ∷ filter (λ i. eqb i.offset o) is) (filter (λ i. eqb i.offset o) is))) e in
      let same : inlay_bytes i ≡ map (InlayByte o i.id) (clean i.text) = ap (λ (p : ℕ). map (InlayByte p i.id) (clean i.text)) (eqb-true i.offset o e) in
      ap (filter (token_passed o bias)) (here ∙ ap (λ (l : List Token). l ++ inlays_at is o) same)
      ∙ filter-append (token_passed o bias) (map (InlayByte o i.id) (clean i.text)) (inlays_at is o)
      ∙ (λ k. inlay-side o bias i.id (clean i.text) k ++ h k)
      ∙ side-append bias (map (InlayByte o i.id) (clean i.text)) (inlays_at is o)
      ∙ ap (at_side bias) (sym (here ∙ ap (λ (l : List Token). l ++ inlays_at is o) same))
  go false e h =
      let here : inlays_at (i ∷ is) o ≡ inlays_at is o = ap (λ (c : Bool). flat_map inlay_bytes (cond c (i ∷ filter (λ i. eqb i.offset o) is) (filter (λ i. eqb i.offset o) is))) e in
      ap (filter (token_passed o bias)) here ∙ h ∙ ap (at_side bias) (sym here)

right-all : (o id : ℕ) (bs : List ℕ) → Every (λ t. token_passed o Right t ≡ true) (map (InlayByte o id) bs)
right-all o id [] = tt
right-all o id (b ∷ bs) = (or_right (ltb o o) (eqb o o && true) (and_from (eqb o o) true (eq-eqb o o refl) refl), right-all o id bs)

inlays-right : (inlays : List Inlay) (o : ℕ) → Every (λ t. token_passed o Right t ≡ true) (inlays_at inlays o)
inlays-right [] o = tt
inlays-right (i ∷ is) o = go (eqb i.offset o) refl (inlays-right is o) where
  go : (c : Bool) → eqb i.offset o ≡ c → Every (λ t. token_passed o Right t ≡ true) (inlays_at is o) →
      Every (λ t. token_passed o Right t ≡ true) (flat_map inlay_bytes (cond c (i ∷ filter (λ i. eqb i.offset o) is) (filter (λ i. eqb i.offset o) is)))
  go true e h =
      Every-append (λ t. token_passed o Right t ≡ true) (inlay_bytes i) (inlays_at is o)
      (subst (λ (p : ℕ). Every (λ t. token_passed o Right t ≡ true) (map (InlayByte p i.id) (clean i.text))) (sym (eqb-true i.offset o e)) (right-all o i.id (clean i.text)))
      h
  go false e h = h

own-side : (o : ℕ) (bias : Bias) (c : Bool) (b : ℕ) → filter (token_passed o bias) ((cond c (Hidden o) (Byte o b)) ∷ []) ≡ []
own-side o bias true b = ap (λ (c : Bool). cond c (Hidden o ∷ []) []) (le-ltb o o (omega arith))
own-side o bias false b = ap (λ (c : Bool). cond c (Byte o b ∷ []) []) (le-ltb o o (omega arith))

-- ---- what is before a position

module _ (text : List ℕ) (inlays : List Inlay) (folds : List Fold) where
  to-side : (o : ℕ) (bias : Bias) → inside folds o ≡ false → folded_to text inlays folds o bias ≡ folded_before text inlays folds o ++ at_side bias (inlays_at inlays o)
  to-side o Left out = ap (λ (c : Bool). cond c (take (length (folded_before text inlays folds o) - 1) (folded_before text inlays folds o)) (folded_before text inlays folds o)) out ∙ sym (append-nil (folded_before text inlays folds o))
  to-side o Right out = ap (λ (c : Bool). cond c (folded_before text inlays folds o) (folded_before text inlays folds o ++ inlays_at inlays o)) out

  rest-side : (o : ℕ) (bias : Bias) (bs : List ℕ) → inside folds o ≡ false → filter (token_passed o bias) (show_each (shown inlays folds) o (bs ++ line_feed ∷ [])) ≡ at_side bias (inlays_at inlays o)
  rest-side o bias bs out = go bs where
    first : (b : ℕ) (rest : List ℕ) → filter (token_passed o bias) (show_each (shown inlays folds) o (b ∷ rest)) ≡ at_side bias (inlays_at inlays o)
    first b rest =
        let own = cond (covered folds o) (Hidden o) (Byte o b) in
        let here : shown inlays folds o b ≡ inlays_at inlays o ++ own ∷ [] = ap (λ (c : Bool). cond c [] (inlays_at inlays o ++ own ∷ [])) out in
        ap (λ (l : List Token). filter (token_passed o bias) (l ++ show_each (shown inlays folds) (o + 1) rest)) here
        ∙ filter-append (token_passed o bias) (inlays_at inlays o ++ own ∷ []) (show_each (shown inlays folds) (o + 1) rest)
        ∙ (λ i. filter-append (token_passed o bias) (inlays_at inlays o) (own ∷ []) i ++ filter-none (token_passed o bias) (show_each (shown inlays folds) (o + 1) rest) (shown-above inlays folds o bias (o + 1) rest (omega arith)) i)
        ∙ append-nil (filter (token_passed o bias) (inlays_at inlays o) ++ filter (token_passed o bias) (own ∷ []))
        ∙ (λ i. inlays-side inlays o bias i ++ own-side o bias (covered folds o) b i)
        ∙ append-nil (at_side bias (inlays_at inlays o))

    go : (bs : List ℕ) → filter (token_passed o bias) (show_each (shown inlays folds) o (bs ++ line_feed ∷ [])) ≡ at_side bias (inlays_at inlays o)
    go [] = first line_feed []
    go (b ∷ bs) = first b (bs ++ line_feed ∷ [])

  pub passed-tokens : (o : ℕ) (bias : Bias) → o ≤ length text → inside folds o ≡ false → folded_to text inlays folds o bias ≡ filter (token_passed o bias) (folded text inlays folds)
  passed-tokens o bias le out =
      let g = shown inlays folds in
      let long = length-take-le o text le in
      let at : 0 + length (take o text) ≡ o = omega (arith, long) in
      let whole : folded text inlays folds ≡ show_each g 0 (take o text) ++ show_each g o (drop o text ++ line_feed ∷ []) =
      ap (show_each g 0) (ap (λ (bs : List ℕ). bs ++ line_feed ∷ []) (sym (take-append-drop o text)) ∙ append_assoc (take o text) (drop o text) (line_feed ∷ []))
      ∙ show_each-append g 0 (take o text) (drop o text ++ line_feed ∷ [])
      ∙ ap (λ (k : ℕ). show_each g 0 (take o text) ++ show_each g k (drop o text ++ line_feed ∷ [])) at in
      to-side o bias out
      ∙ (λ i. sym (filter-all (token_passed o bias) (show_each g 0 (take o text)) (shown-below inlays folds o bias 0 (take o text) (omega (arith, long)))) i ++ sym (rest-side o bias (drop o text) out) i)
      ∙ sym (filter-append (token_passed o bias) (show_each g 0 (take o text)) (show_each g o (drop o text ++ line_feed ∷ [])))
      ∙ ap (filter (token_passed o bias)) (sym whole)

  -- what is shown, parted at the position
  pub record Split (o : ℕ) (bias : Bias) : Type 0 where
    pub next : Token
    pub rest : List Token
    pub is : folded text inlays folds ≡ folded_to text inlays folds o bias ++ next ∷ rest
    pub passed : Every (λ t. token_passed o bias t ≡ true) (folded_to text inlays folds o bias)
    pub behind : Every (λ t. token_passed o bias t ≡ false) (next ∷ rest)

  pub split-at : (o : ℕ) (bias : Bias) → o ≤ length text → inside folds o ≡ false → Split o bias
  split-at o bias le out = by-side bias (shown-below inlays folds o bias 0 (take o text) (omega (arith, length-take-le o text le))) where
    g : ℕ → ℕ → List Token
    g = shown inlays folds

    own : ℕ → Token
    own b = cond (covered folds o) (Hidden o) (Byte o b)

    some : (bs : List ℕ) → (b : ℕ) × (cs : List ℕ) × (bs ++ line_feed ∷ [] ≡ b ∷ cs)
    some [] = (line_feed, [], refl)
    some (b ∷ bs) = (b, bs ++ line_feed ∷ [], refl)

    own-behind : (bias : Bias) (b : ℕ) → token_passed o bias (own b) ≡ false
    own-behind bias b = by (covered folds o) where
      by : (c : Bool) → token_passed o bias (cond c (Hidden o) (Byte o b)) ≡ false
      by true = le-ltb o o (omega arith)
      by false = le-ltb o o (omega arith)

    whole : (b : ℕ) (cs : List ℕ) → drop o text ++ line_feed ∷ [] ≡ b ∷ cs →
        folded text inlays folds ≡ folded_before text inlays folds o ++ (inlays_at inlays o ++ (own b ∷ show_each g (o + 1) cs))
    whole b cs e =
        let at : 0 + length (take o text) ≡ o = omega (arith, length-take-le o text le) in
        ap (show_each g 0) (ap (λ (bs : List ℕ). bs ++ line_feed ∷ []) (sym (take-append-drop o text)) ∙ append_assoc (take o text) (drop o text) (line_feed ∷ []))
        ∙ show_each-append g 0 (take o text) (drop o text ++ line_feed ∷ [])
        ∙ (λ i. folded_before text inlays folds o ++ show_each g (at i) (e i))
        ∙ ap (λ (c : Bool). folded_before text inlays folds o ++ (cond c [] (inlays_at inlays o ++ own b ∷ []) ++ show_each g (o + 1) cs)) out
        ∙ ap (λ (l : List Token). folded_before text inlays folds o ++ l) (append_assoc (inlays_at inlays o) (own b ∷ []) (show_each g (o + 1) cs))

    left-behind : (ts : List Token) → Every (λ t. offset_of t ≡ o) ts → Every (λ t. token_passed o Left t ≡ false) ts
    left-behind [] at = tt
    left-behind (t ∷ ts) at = (one t at.0, left-behind ts at.1) where
      one : (t : Token) → offset_of t ≡ o → token_passed o Left t ≡ false
      one (Byte p b) e = le-ltb p o (omega (arith, e))
      one (InlayByte p id b) e = or_from (ltb p o) (eqb p o && false) (le-ltb p o (omega (arith, e))) (and_right (eqb p o) false refl)
      one (Hidden p) e = le-ltb p o (omega (arith, e))

    part : (b : ℕ) (cs : List ℕ) (head : List Token) → Every (λ t. token_passed o Left t ≡ false) head →
        folded text inlays folds ≡ folded_before text inlays folds o ++ (head ++ (own b ∷ show_each g (o + 1) cs)) →
        (next : Token) × (rest : List Token) × (folded text inlays folds ≡ folded_before text inlays folds o ++ next ∷ rest) × Every (λ t. token_passed o Left t ≡ false) (next ∷ rest)
    part b cs [] none e = (own b, show_each g (o + 1) cs, e, (own-behind Left b, shown-above inlays folds o Left (o + 1) cs (omega arith)))
    part b cs (t ∷ ts) none e =
        (t, ts ++ (own b ∷ show_each g (o + 1) cs), e, (none.0, Every-append (λ t. token_passed o Left t ≡ false) ts (own b ∷ show_each g (o + 1) cs) none.1 (own-behind Left b, shown-above inlays folds o Left (o + 1) cs (omega arith))))

    by-side : (bias : Bias) → Every (λ t. token_passed o bias t ≡ true) (folded_before text inlays folds o) → Split o bias
    by-side Left front =
        let r = some (drop o text) in
        let to = to-side o Left out ∙ append-nil (folded_before text inlays folds o) in
        let p = part r.0 r.1 (inlays_at inlays o) (left-behind (inlays_at inlays o) (inlays-at inlays o)) (whole r.0 r.1 r.2) in
        record {
          next = p.0;
          rest = p.1;
          is = p.2 ∙ ap (λ (l : List Token). l ++ p.0 ∷ p.1) (sym to);
          passed = subst (Every (λ t. token_passed o Left t ≡ true)) (sym to) front;
          behind = p.3;
        }
    by-side Right front =
        let r = some (drop o text) in
        let to = to-side o Right out in
        record {
          next = own r.0;
          rest = show_each g (o + 1) r.1;
          is = whole r.0 r.1 r.2 ∙ sym (append_assoc (folded_before text inlays folds o) (inlays_at inlays o) (own r.0 ∷ show_each g (o + 1) r.1)) ∙ ap (λ (l : List Token). l ++ (own r.0 ∷ show_each g (o + 1) r.1)) (sym to);
          passed = subst (Every (λ t. token_passed o Right t ≡ true)) (sym to) (Every-append (λ t. token_passed o Right t ≡ true) (folded_before text inlays folds o) (inlays_at inlays o) front (inlays-right inlays o));
          behind = (own-behind Right r.0, shown-above inlays folds o Right (o + 1) r.1 (omega arith));
        }

-- ---- strictly inside a joined fold

module _ (s : Source) (j : Joined) (fold : IsJoinedFold s j) where
  before-inside : (o : ℕ) → j.start < o → o ≤ j.end → folded_before s.text s.inlays s.folds o ≡ (folded_before s.text s.inlays s.folds j.start ++ inlays_at s.inlays j.start) ++ Hidden j.start ∷ []
  before-inside o lo hi =
      let g = shown s.inlays s.folds in
      let inner : j.start ≤ o = omega arith in
      let reach : o ≤ length s.text = omega (arith, hi, fold.within) in
      let long = length-slice_range s.text j.start o inner reach in
      let at : 0 + length (take j.start s.text) ≡ j.start = omega (arith, length-take-le j.start s.text (omega arith)) in
      ap (show_each g 0) (take_further s.text j.start o inner)
      ∙ show_each-append g 0 (take j.start s.text) (slice_range s.text j.start o)
      ∙ (λ i. show_each g 0 (take j.start s.text) ++ show_each g (at i) (slice_range s.text j.start o))
      ∙ ap (λ (l : List Token). show_each g 0 (take j.start s.text) ++ l) (bytes (slice_range s.text j.start o) long)
      ∙ sym (append_assoc (show_each g 0 (take j.start s.text)) (inlays_at s.inlays j.start) (Hidden j.start ∷ [])) where
        bytes : (bs : List ℕ) → length bs ≡ o - j.start → show_each (shown s.inlays s.folds) j.start bs ≡ inlays_at s.inlays j.start ++ Hidden j.start ∷ []
        bytes [] long = absurd (omega (arith, long, lo))
        bytes (b ∷ bs) long =
            ap (λ (l : List Token). shown s.inlays s.folds j.start b ++ l) (inside-shows_none s.folds s.inlays (j.start + 1) bs (λ k x y. fold.hides k (omega (arith, x)) (omega (arith, y, long, hi))))
            ∙ append-nil (shown s.inlays s.folds j.start b)
            ∙ shown-start s.folds s.inlays j.start b (fold.starts, fold.outside)

  -- Left is where the fold's start has Right
  pub left-inside : (o : ℕ) → j.start < o → o < j.end → IsSamePlace s o Left j.start Right
  left-inside o lo hi =
      let front = folded_before s.text s.inlays s.folds j.start ++ inlays_at s.inlays j.start in
      let before = before-inside o lo (omega arith) in
      record {
        same =
            ap (λ (c : Bool). cond c (take (length (folded_before s.text s.inlays s.folds o) - 1) (folded_before s.text s.inlays s.folds o)) (folded_before s.text s.inlays s.folds o)) (fold.hides o lo hi)
            ∙ ap (λ (l : List Token). take (length l - 1) l) before
            ∙ take_at front (Hidden j.start ∷ []) (length (front ++ Hidden j.start ∷ []) - 1) (omega (arith, length_push front (Hidden j.start)))
            ∙ ap (λ (c : Bool). cond c (folded_before s.text s.inlays s.folds j.start) front) (sym fold.outside);
        outside = fold.outside;
        within = omega (arith, fold.some, fold.within);
      }

  -- Right is where the fold's end has Left
  pub right-inside : (o : ℕ) → j.start < o → o < j.end → inside s.folds j.end ≡ false → IsSamePlace s o Right j.end Left
  right-inside o lo hi out =
      record {
        same =
            ap (λ (c : Bool). cond c (folded_before s.text s.inlays s.folds o) (folded_before s.text s.inlays s.folds o ++ inlays_at s.inlays o)) (fold.hides o lo hi)
            ∙ before-inside o lo (omega arith)
            ∙ sym (before-inside j.end fold.some (omega arith))
            ∙ ap (λ (c : Bool). cond c (take (length (folded_before s.text s.inlays s.folds j.end) - 1) (folded_before s.text s.inlays s.folds j.end)) (folded_before s.text s.inlays s.folds j.end)) (sym out);
        outside = out;
        within = fold.within;
      }
