-- Folds over the tokens of a layer, before and after a change.
use Rattle.std.proofs.Common.{◌≡◌, ◌==◌, ℕ, suc, filter, ◌+◌, ◌-◌, ◌<◌, ◌≤◌, Bool, true, false, cond, List, [], ◌∷◌, ◌++◌, length, map, take, drop, Option, refl, sym, ap, ◌∙◌, subst, arith, append_assoc, length-append}
use Rattle.std.specs.List.{flat_map}
use Rattle.std.proofs.lemmas.List.{append-nil, drop-take, length-map, length-take, map-append, take-append-drop, take-take, take_all}
use Rattle.std.proofs.lemmas.List.Concat.{flat_map-append}
use Rattle.std.proofs.Math.Seq.{drop-append_seam, take-append_seam}
use Rattle.cell_units.specs.declared.place.Bias.{Bias}
use Rattle.cell_units.specs.declared.place.Bias.TheVariants.{Left, Right}
use Rattle.cell_units.specs.Folded.{covered, folded_before, folded_to, inside, shown}
use Rattle.cell_units.specs.Folding.{folded_token}
use Rattle.cell_units.specs.Inlaid.{Byte, Hidden, InlayByte, Token, bytes_of, inlay_bytes, inlays_at, offset_of, show_each}
use Rattle.cell_units.specs.Layers.{Source, inlay_source, place_of}
use Rattle.cell_units.specs.Record.{Fold, Inlay}
use Rattle.cell_units.specs.Text.{clean}
use Rattle.cell_units.proofs.CutLists.{Every, Every-append}
use Rattle.cell_units.proofs.LineSpans.{inlays-at}
use Rattle.cell_units.proofs.ShownMoved.{Every-show_each, Every-shown, show_each-append}
use Rattle.edit_patch.specs.LayerLeads.{layer_places, offset_after, token_after, token_places}
use Rattle.edit_patch.specs.Leads.{Leads, Reach}
use Rattle.edit_patch.proofs.TokenPlaces.{at_places, leads-by_parts}

-- ---- tokens under folds

abbrev pub fold_each : List Fold → List Token → List Token
fold_each folds ts = flat_map (folded_token folds) ts

-- folds hide the same at an offset as others do where it goes
pub record HideAlike (old new : List Fold) (o p : ℕ) : Type 0 where
  pub inside_as : inside new p ≡ inside old o
  pub covered_as : covered new p ≡ covered old o

places-after : (s : Option Reach) (t : Token) → token_places (token_after s t) ≡ map (token_after s) (token_places t)
places-after s (Byte o b) = refl
places-after s (InlayByte o id b) = refl
places-after s (Hidden o) = refl

module _ (shift : Option Reach) (old new : List Fold) where
  abbrev moved : Token → Token
  moved = token_after shift

  abbrev Alike : Token → Type 0
  Alike t = HideAlike old new (offset_of t) (offset_after shift (offset_of t))

  token-moved : (t : Token) → Alike t → folded_token new (moved t) ≡ map moved (folded_token old t)
  token-moved (Byte o b) a = (λ i. cond (a.inside_as i) [] ((cond (a.covered_as i) (Hidden (offset_after shift o)) (Byte (offset_after shift o) b)) ∷ [])) ∙ go (inside old o) (covered old o) where
    go : (c d : Bool) → cond c [] ((cond d (Hidden (offset_after shift o)) (Byte (offset_after shift o) b)) ∷ []) ≡ map moved (cond c [] ((cond d (Hidden o) (Byte o b)) ∷ []))
    go true d = refl
    go false true = refl
    go false false = refl
  token-moved (InlayByte o id b) a = (λ i. cond (a.inside_as i) [] (InlayByte (offset_after shift o) id b ∷ [])) ∙ go (inside old o) where
    go : (c : Bool) → cond c [] (InlayByte (offset_after shift o) id b ∷ []) ≡ map moved (cond c [] (InlayByte o id b ∷ []))
    go true = refl
    go false = refl
  token-moved (Hidden o) a = (λ i. cond (a.inside_as i) [] (Hidden (offset_after shift o) ∷ [])) ∙ go (inside old o) where
    go : (c : Bool) → cond c [] (Hidden (offset_after shift o) ∷ []) ≡ map moved (cond c [] (Hidden o ∷ []))
    go true = refl
    go false = refl

  pub each-moved : (ts : List Token) → Every Alike ts → fold_each new (map moved ts) ≡ map moved (fold_each old ts)
  each-moved [] a = refl
  each-moved (t ∷ ts) a = (λ i. token-moved t a.0 i ++ each-moved ts a.1 i) ∙ sym (map-append moved (folded_token old t) (fold_each old ts))

  token-same : (t : Token) → HideAlike old new (offset_of t) (offset_of t) → folded_token new t ≡ folded_token old t
  token-same (Byte o b) a = λ i. cond (a.inside_as i) [] ((cond (a.covered_as i) (Hidden o) (Byte o b)) ∷ [])
  token-same (InlayByte o id b) a = λ i. cond (a.inside_as i) [] (InlayByte o id b ∷ [])
  token-same (Hidden o) a = λ i. cond (a.inside_as i) [] (Hidden o ∷ [])

  pub each-same : (ts : List Token) → Every (λ t. HideAlike old new (offset_of t) (offset_of t)) ts → fold_each new ts ≡ fold_each old ts
  each-same [] a = refl
  each-same (t ∷ ts) a = λ i. token-same t a.0 i ++ each-same ts a.1 i

  moved-size : (ts : List Token) → length (at_places (map moved ts)) ≡ length (at_places ts)
  moved-size [] = refl
  moved-size (t ∷ ts) =
      length-append (token_places (moved t)) (at_places (map moved ts))
      ∙ (λ i. (ap (λ l. length l) (places-after shift t) ∙ length-map (token_places t) moved) i + moved-size ts i)
      ∙ sym (length-append (token_places t) (at_places ts))

  -- ---- two lists of tokens with the same prefix, and of which the one's end is the other's, moved

  module _ (L L' : List Token) (p q q' : ℕ) (order : p ≤ q) (order' : p ≤ q')
      (front : take p L' ≡ take p L) (behind : drop q' L' ≡ map moved (drop q L))
      (alike : Every (λ t. HideAlike old new (offset_of t) (offset_of t)) (take p L)) (alike' : Every Alike (drop q L)) where
    abbrev between : List Token → ℕ → List Token
    between ts k = take (k - p) (drop p ts)

    upto : (ts : List Token) (k : ℕ) → p ≤ k → take p ts ++ between ts k ≡ take k ts
    upto ts k l =
        let there : p + (k - p) ≡ k = omega (arith, l) in
        (λ i. sym (take-take p k ts l) i ++ (sym (drop-take p (k - p) ts) ∙ ap (λ j. drop p (take j ts)) there) i)
        ∙ take-append-drop p (take k ts)

    cut-in : (folds : List Fold) (ts : List Token) (k : ℕ) → p ≤ k → fold_each folds ts ≡ (fold_each folds (take p ts) ++ fold_each folds (between ts k)) ++ fold_each folds (drop k ts)
    cut-in folds ts k l =
        ap (fold_each folds) (sym (take-append-drop k ts) ∙ ap (λ xs. xs ++ drop k ts) (sym (upto ts k l)))
        ∙ flat_map-append (folded_token folds) (take p ts ++ between ts k) (drop k ts)
        ∙ ap (λ xs. xs ++ fold_each folds (drop k ts)) (flat_map-append (folded_token folds) (take p ts) (between ts k))

    abbrev F : List Token
    F = fold_each old (take p L)

    abbrev M : List Token
    M = fold_each old (between L q)

    abbrev M' : List Token
    M' = fold_each new (between L' q')

    abbrev E : List Token
    E = fold_each old (drop q L)

    old-is : fold_each old L ≡ (F ++ M) ++ E
    old-is = cut-in old L q order

    new-is : fold_each new L' ≡ (F ++ M') ++ map moved E
    new-is = cut-in new L' q' order' ∙ (λ i. (fore i ++ M') ++ tail i) where
      fore : fold_each new (take p L') ≡ F
      fore = ap (fold_each new) front ∙ each-same (take p L) alike

      tail : fold_each new (drop q' L') ≡ map moved E
      tail = ap (fold_each new) behind ∙ each-moved (drop q L) alike'

    ends-are : F ++ M ≡ fold_each old (take q L)
    ends-are = sym (flat_map-append (folded_token old) (take p L) (between L q)) ∙ ap (fold_each old) (upto L q order)

    pub folds-lead : (s : Reach) → s.start ≡ length (at_places (fold_each old (take p L))) → s.end ≡ length (at_places (fold_each old (take q L)))
        → s.count ≡ length (at_places (fold_each new L')) - (length (at_places (fold_each old L)) - s.end) - s.start
        → Leads (map moved) (at_places (fold_each old L)) (at_places (fold_each new L')) s
    folds-lead s a b c =
        let size : (xs ys : List Token) → length (at_places (xs ++ ys)) ≡ length (at_places xs) + length (at_places ys) = λ (xs ys : List Token).
        ap (λ l. length l) (flat_map-append token_places xs ys) ∙ length-append (at_places xs) (at_places ys) in
        let kept = moved-size E in
        let one = ap (λ l. length (at_places l)) old-is ∙ size (F ++ M) E in
        let two = ap (λ l. length (at_places l)) new-is ∙ size (F ++ M') (map moved E) in
        let end : s.end ≡ length (at_places (F ++ M)) = b ∙ ap (λ l. length (at_places l)) (sym ends-are) in
        subst (λ l. Leads (map moved) l (at_places (fold_each new L')) s) (ap at_places (sym old-is))
        (subst (λ l. Leads (map moved) (at_places ((F ++ M) ++ E)) l s) (ap at_places (sym new-is))
        (leads-by_parts moved (places-after shift) F M M' E s a end (omega (arith, a, c, end, one, two, kept, size F M'))))

-- ---- a layer without folds

-- the token is a byte of the buffer or of an inlay
abbrev IsShownByte : Token → Type 0
IsShownByte (Byte o b) = Unit {0}
IsShownByte (InlayByte o id b) = Unit {0}
IsShownByte (Hidden o) = ⊥

module _ (text : List ℕ) (inlays : List Inlay) where
  abbrev pub low : Source
  low = inlay_source text inlays

  -- all that it shows
  abbrev pub bare : List Token
  bare = folded_to text inlays [] (length text) Right

  -- what the first bytes show before the inlays at their end, and after them
  abbrev shown_left : List ℕ → List Token
  shown_left xs = show_each (shown inlays []) 0 xs

  abbrev shown_right : List ℕ → List Token
  shown_right xs = shown_left xs ++ inlays_at inlays (length xs)

  -- what the rest shows after the inlays at its start, which is at the offset
  abbrev pub behind-from : ℕ → List ℕ → List Token
  behind-from o [] = []
  behind-from o (c ∷ cs) = Byte o c ∷ (show_each (shown inlays []) (o + 1) cs ++ inlays_at inlays (o + 1 + length cs))

  right-parts : (xs ys : List ℕ) → shown_right (xs ++ ys) ≡ shown_left xs ++ (show_each (shown inlays []) (length xs) ys ++ inlays_at inlays (length (xs ++ ys)))
  right-parts xs ys =
      let at : 0 + length xs ≡ length xs = omega arith in
      ap (λ l. l ++ inlays_at inlays (length (xs ++ ys))) (show_each-append (shown inlays []) 0 xs ys ∙ ap (λ o. shown_left xs ++ show_each (shown inlays []) o ys) at)
      ∙ append_assoc (shown_left xs) (show_each (shown inlays []) (length xs) ys) (inlays_at inlays (length (xs ++ ys)))

  right-whole : (xs rest : List ℕ) → shown_right (xs ++ rest) ≡ shown_right xs ++ behind-from (length xs) rest
  right-whole xs [] = ap shown_right (append-nil xs) ∙ sym (append-nil (shown_right xs))
  right-whole xs (c ∷ cs) =
      let o = length xs in
      let end : length (xs ++ c ∷ cs) ≡ o + 1 + length cs = omega (arith, length-append xs (c ∷ cs)) in
      let here = inlays_at inlays o in
      let tail = show_each (shown inlays []) (o + 1) cs in
      right-parts xs (c ∷ cs)
      ∙ ap (λ k. shown_left xs ++ (((here ++ Byte o c ∷ []) ++ tail) ++ inlays_at inlays k)) end
      ∙ ap (λ l. shown_left xs ++ l) (append_assoc (here ++ Byte o c ∷ []) tail (inlays_at inlays (o + 1 + length cs)) ∙ append_assoc here (Byte o c ∷ []) (tail ++ inlays_at inlays (o + 1 + length cs)))
      ∙ sym (append_assoc (shown_left xs) here (behind-from o (c ∷ cs)))

  bare-is : bare ≡ shown_right text
  bare-is = ap (λ xs. show_each (shown inlays []) 0 xs ++ inlays_at inlays (length text)) (take_all (length text) text (omega arith))

  -- what it shows after a position
  abbrev pub rest_from : ℕ → Bias → List Token
  rest_from o Left = show_each (shown inlays []) o (drop o text) ++ inlays_at inlays (length text)
  rest_from o Right = behind-from o (drop o text)

  pub bare-parts : (o : ℕ) (bias : Bias) → o ≤ length text → bare ≡ folded_to text inlays [] o bias ++ rest_from o bias
  bare-parts o Left l =
      let whole = take-append-drop o text in
      let long : length (take o text) ≡ o = omega (arith, length-take o text, l) in
      bare-is ∙ ap (shown_right) (sym whole) ∙ right-parts (take o text) (drop o text)
      ∙ (λ i. shown_left (take o text) ++ (show_each (shown inlays []) (long i) (drop o text) ++ inlays_at inlays (length (whole i))))
  bare-parts o Right l =
      let whole = take-append-drop o text in
      let long : length (take o text) ≡ o = omega (arith, length-take o text, l) in
      bare-is ∙ ap (shown_right) (sym whole) ∙ right-whole (take o text) (drop o text)
      ∙ (λ i. (shown_left (take o text) ++ inlays_at inlays (long i)) ++ behind-from (long i) (drop o text))

  -- ---- the offsets of its tokens

  weaker : (P Q : Token → Type 0) → ((t : Token) → P t → Q t) → (ts : List Token) → Every P ts → Every Q ts
  weaker P Q f [] a = tt
  weaker P Q f (t ∷ ts) a = (f t a.0, weaker P Q f ts a.1)

  pub front-left : (o : ℕ) → Every (λ t. offset_of t < o) (folded_to text inlays [] o Left)
  front-left o =
      Every-show_each (shown inlays []) (λ t. offset_of t < o) 0 (take o text)
      (λ k c h l. weaker (λ t. offset_of t ≡ k) (λ t. offset_of t < o) (λ t e. omega (arith, e, l, length-take o text)) (shown inlays [] k c) (Every-shown inlays [] k c))

  pub front-right : (o : ℕ) → Every (λ t. offset_of t ≤ o) (folded_to text inlays [] o Right)
  front-right o =
      Every-append (λ t. offset_of t ≤ o) (folded_before text inlays [] o) (inlays_at inlays o)
      (weaker (λ t. offset_of t < o) (λ t. offset_of t ≤ o) (λ t l. omega (arith, l)) (folded_before text inlays [] o) (front-left o))
      (weaker (λ t. offset_of t ≡ o) (λ t. offset_of t ≤ o) (λ t e. omega (arith, e)) (inlays_at inlays o) (inlays-at inlays o))

  rest-left : (o : ℕ) → o ≤ length text → Every (λ t. o ≤ offset_of t) (rest_from o Left)
  rest-left o u =
      Every-append (λ t. o ≤ offset_of t) (show_each (shown inlays []) o (drop o text)) (inlays_at inlays (length text))
      (Every-show_each (shown inlays []) (λ t. o ≤ offset_of t) o (drop o text)
      (λ k c h l. weaker (λ t. offset_of t ≡ k) (λ t. o ≤ offset_of t) (λ t e. omega (arith, e, h)) (shown inlays [] k c) (Every-shown inlays [] k c)))
      (weaker (λ t. offset_of t ≡ length text) (λ t. o ≤ offset_of t) (λ t e. omega (arith, e, u)) (inlays_at inlays (length text)) (inlays-at inlays (length text)))

  pub rest-after : (o : ℕ) (bias : Bias) → o ≤ length text → Every (λ t. o ≤ offset_of t) (rest_from o bias)
  rest-after o Left u = rest-left o u
  rest-after o Right u = go (drop o text) where
    go : (xs : List ℕ) → Every (λ t. o ≤ offset_of t) (behind-from o xs)
    go [] = tt
    go (c ∷ cs) = (
      omega arith,
      Every-append (λ t. o ≤ offset_of t) (show_each (shown inlays []) (o + 1) cs) (inlays_at inlays (o + 1 + length cs))
          (Every-show_each (shown inlays []) (λ t. o ≤ offset_of t) (o + 1) cs
          (λ k d h l. weaker (λ t. offset_of t ≡ k) (λ t. o ≤ offset_of t) (λ t e. omega (arith, e, h)) (shown inlays [] k d) (Every-shown inlays [] k d)))
          (weaker (λ t. offset_of t ≡ o + 1 + length cs) (λ t. o ≤ offset_of t) (λ t e. omega (arith, e)) (inlays_at inlays (o + 1 + length cs)) (inlays-at inlays (o + 1 + length cs))),
    )

  -- ---- places of a layer without folds count its tokens

  bare-size : (ts : List Token) → Every IsShownByte ts → length (flat_map bytes_of ts) ≡ length ts
  bare-size [] a = refl
  bare-size (Byte o b ∷ ts) a = ap suc (bare-size ts a.1)
  bare-size (InlayByte o id b ∷ ts) a = ap suc (bare-size ts a.1)
  bare-size (Hidden o ∷ ts) a = absurd a.0

  inlay-bare : (o id : ℕ) (bs : List ℕ) → Every IsShownByte (map (InlayByte o id) bs)
  inlay-bare o id [] = tt
  inlay-bare o id (b ∷ bs) = (tt, inlay-bare o id bs)

  inlays-bare : (is : List Inlay) → Every IsShownByte (flat_map inlay_bytes is)
  inlays-bare [] = tt
  inlays-bare (i ∷ is) = Every-append IsShownByte (inlay_bytes i) (flat_map inlay_bytes is) (inlay-bare i.offset i.id (clean i.text)) (inlays-bare is)

  offset-bare : (k c : ℕ) → Every IsShownByte (shown inlays [] k c)
  offset-bare k c = Every-append IsShownByte (inlays_at inlays k) (Byte k c ∷ []) (inlays-bare (filter (λ i. i.offset == k) inlays)) (tt, tt)

  before-bare : (o : ℕ) → Every IsShownByte (folded_before text inlays [] o)
  before-bare o = Every-show_each (shown inlays []) IsShownByte 0 (take o text) (λ k c h l. offset-bare k c)

  to-bare : (o : ℕ) (bias : Bias) → Every IsShownByte (folded_to text inlays [] o bias)
  to-bare o Left = before-bare o
  to-bare o Right = Every-append IsShownByte (folded_before text inlays [] o) (inlays_at inlays o) (before-bare o) (inlays-bare (filter (λ i. i.offset == o) inlays))

  pub place-size : (o : ℕ) (bias : Bias) → place_of low o bias ≡ length (folded_to text inlays [] o bias)
  place-size o bias = bare-size (folded_to text inlays [] o bias) (to-bare o bias)

  bare-places : (ts : List Token) → Every IsShownByte ts → at_places ts ≡ ts
  bare-places [] a = refl
  bare-places (Byte o b ∷ ts) a = ap (λ l. Byte o b ∷ l) (bare-places ts a.1)
  bare-places (InlayByte o id b ∷ ts) a = ap (λ l. InlayByte o id b ∷ l) (bare-places ts a.1)
  bare-places (Hidden o ∷ ts) a = absurd a.0

  pub layer-is : layer_places low ≡ bare
  layer-is = bare-places bare (to-bare (length text) Right)

  pub take-bare : (o : ℕ) (bias : Bias) → o ≤ length text → take (place_of low o bias) bare ≡ folded_to text inlays [] o bias
  take-bare o bias l =
      (λ i. take (place-size o bias i) (bare-parts o bias l i))
      ∙ take-append_seam (folded_to text inlays [] o bias) (rest_from o bias)

  pub drop-bare : (o : ℕ) (bias : Bias) → o ≤ length text → drop (place_of low o bias) bare ≡ rest_from o bias
  drop-bare o bias l =
      (λ i. drop (place-size o bias i) (bare-parts o bias l i))
      ∙ drop-append_seam (folded_to text inlays [] o bias) (rest_from o bias)
