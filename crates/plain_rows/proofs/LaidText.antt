-- What is shown up to an offset, by the inlays up to one of them: how it grows.
use Rattle.std.proofs.Common.{◌≡◌, ℕ, ◌+◌, ◌-◌, ◌<◌, ◌≤◌, Bool, true, false, cond, eqb, List, [], ◌∷◌, ◌++◌, length, take, drop, filter, flat_map, refl, sym, ap, ◌∙◌, subst, inl, inr, ◌⊎◌, arith, append-nil, append_assoc}
use Rattle.std.proofs.lemmas.Bool.{cases_eq, eq-eqb, ne_eqb}
use Rattle.std.proofs.lemmas.List.{take-append-drop, take-take, drop-take, length-take-le, length-drop}
use Rattle.std.proofs.lemmas.List.Concat.{flat_map-append}
use Rattle.std.proofs.lemmas.List.Elements.{filter-append}
use Rattle.std.specs.List.{slice_range}
use Rattle.cell_units.specs.Text.{line_feed}
use Rattle.cell_units.specs.Record.{Fold, Inlay}
use Rattle.cell_units.specs.Inlaid.{Token, Byte, Hidden, inlay_bytes, inlays_at, show_each}
use Rattle.cell_units.specs.Folded.{covered, folded, folded_before, inside, shown}
use Rattle.cell_units.proofs.CutLists.{Every}
use Rattle.cell_units.proofs.Joined.{inside-shows_none, shown-inlaid, shown-start}
use Rattle.cell_units.proofs.ShownText.{folded_is, show_each-append}
use Rattle.plain_rows.specs.FoldedLines.{bytes_from}

-- what is before an offset, and the inlays at it
abbrev pub shown_upto : List ℕ → List Inlay → List Fold → ℕ → List Token
shown_upto text inlays folds at = folded_before text inlays folds at ++ inlays_at inlays at

-- ---- lists

pub take_further : (text : List ℕ) (a b : ℕ) → a ≤ b → take b text ≡ take a text ++ slice_range text a b
take_further text a b le =
    let e : a + (b - a) ≡ b = omega arith in
    sym (take-append-drop a (take b text))
    ∙ (λ i. take-take a b text le i ++ drop a (take (sym e i) text))
    ∙ ap (λ (l : List ℕ). take a text ++ l) (drop-take a (b - a) text)

pub length-slice_range : (text : List ℕ) (a b : ℕ) → a ≤ b → b ≤ length text → length (slice_range text a b) ≡ b - a
length-slice_range text a b le within = length-take-le (b - a) (drop a text) (omega (arith, length-drop a text))

-- ---- inlays at an offset

pub none-at : (inlays : List Inlay) (o : ℕ) → Every (λ i. i.offset < o) inlays → inlays_at inlays o ≡ []
none-at [] o below = refl
none-at (i ∷ is) o below =
    ap (λ (b : Bool). flat_map inlay_bytes (cond b (i ∷ filter (λ i. eqb i.offset o) is) (filter (λ i. eqb i.offset o) is))) (ne_eqb i.offset o (λ e. absurd (omega (arith, below.0, e))))
    ∙ none-at is o below.1

one-more : (inlays : List Inlay) (i : Inlay) (o : ℕ) (b : Bool) → eqb i.offset o ≡ b →
    inlays_at (inlays ++ i ∷ []) o ≡ inlays_at inlays o ++ cond b (inlay_bytes i) []
one-more inlays i o b e =
    ap (flat_map inlay_bytes) (filter-append (λ i. eqb i.offset o) inlays (i ∷ []))
    ∙ flat_map-append inlay_bytes (filter (λ i. eqb i.offset o) inlays) (filter (λ i. eqb i.offset o) (i ∷ []))
    ∙ ap (λ (b : Bool). inlays_at inlays o ++ flat_map inlay_bytes (cond b (i ∷ []) [])) e
    ∙ ap (λ (l : List Token). inlays_at inlays o ++ l) (go b) where
      go : (b : Bool) → flat_map inlay_bytes (cond b (i ∷ []) []) ≡ cond b (inlay_bytes i) []
      go true = append-nil (inlay_bytes i)
      go false = refl

pub at-more : (inlays : List Inlay) (i : Inlay) → inlays_at (inlays ++ i ∷ []) i.offset ≡ inlays_at inlays i.offset ++ inlay_bytes i
at-more inlays i = one-more inlays i i.offset true (eq-eqb i.offset i.offset refl)

pub elsewhere-more : (inlays : List Inlay) (i : Inlay) (o : ℕ) → (i.offset ≡ o → ⊥) → inlays_at (inlays ++ i ∷ []) o ≡ inlays_at inlays o
elsewhere-more inlays i o ne = one-more inlays i o false (ne_eqb i.offset o ne) ∙ append-nil (inlays_at inlays o)

-- bytes show the same by two functions that agree on their offsets
pub shown-alike : (f g : ℕ → ℕ → List Token) (o : ℕ) (bs : List ℕ) → ((k b : ℕ) → o ≤ k → k < o + length bs → f k b ≡ g k b) → show_each f o bs ≡ show_each g o bs
shown-alike f g o [] h = refl
shown-alike f g o (b ∷ bs) h =
    λ i. h o b (omega arith) (omega arith) i ++ shown-alike f g (o + 1) bs (λ k c le lt. h k c (omega (arith, le)) (omega (arith, lt))) i

-- ---- the steps

-- the buffer up to a later offset, where no fold hides a byte and there is no inlay
text-shown : (inlays : List Inlay) (folds : List Fold) (at : ℕ) (bs : List ℕ) → Every (λ i. i.offset ≤ at) inlays →
    ((o : ℕ) → at ≤ o → o < at + length bs → covered folds o ≡ false) →
    show_each (shown inlays folds) at bs ++ inlays_at inlays (at + length bs) ≡ inlays_at inlays at ++ bytes_from at bs
text-shown inlays folds at [] before free =
    let e : at + 0 ≡ at = omega arith in ap (inlays_at inlays) e ∙ sym (append-nil (inlays_at inlays at))
text-shown inlays folds at (b ∷ bs) before free =
    let e : at + length (b ∷ bs) ≡ at + 1 + length bs = omega arith in
    let here : shown inlays folds at b ≡ inlays_at inlays at ++ Byte at b ∷ [] = shown-inlaid folds inlays at (free at (omega arith) (omega arith)) b in
    let none : inlays_at inlays (at + 1) ≡ [] = none-at inlays (at + 1) (weaker inlays before) in
    append_assoc (shown inlays folds at b) (show_each (shown inlays folds) (at + 1) bs) (inlays_at inlays (at + length (b ∷ bs)))
    ∙ (λ i. here i ++ (show_each (shown inlays folds) (at + 1) bs ++ inlays_at inlays (e i)))
    ∙ ap (λ (l : List Token). (inlays_at inlays at ++ Byte at b ∷ []) ++ l)
    (text-shown inlays folds (at + 1) bs (also inlays before) (λ o le lt. free o (omega (arith, le)) (omega (arith, lt)))
    ∙ ap (λ (l : List Token). l ++ bytes_from (at + 1) bs) none)
    ∙ append_assoc (inlays_at inlays at) (Byte at b ∷ []) (bytes_from (at + 1) bs) where
      weaker : (l : List Inlay) → Every (λ i. i.offset ≤ at) l → Every (λ i. i.offset < at + 1) l
      weaker [] h = tt
      weaker (i ∷ is) h = (omega (arith, h.0), weaker is h.1)

      also : (l : List Inlay) → Every (λ i. i.offset ≤ at) l → Every (λ i. i.offset ≤ at + 1) l
      also [] h = tt
      also (i ∷ is) h = (omega (arith, h.0), also is h.1)

pub upto-text : (text : List ℕ) (inlays : List Inlay) (folds : List Fold) (at to : ℕ) → at ≤ to → to ≤ length text →
    Every (λ i. i.offset ≤ at) inlays → ((o : ℕ) → at ≤ o → o < to → covered folds o ≡ false) →
    shown_upto text inlays folds to ≡ shown_upto text inlays folds at ++ bytes_from at (slice_range text at to)
upto-text text inlays folds at to le within before free =
    let g = shown inlays folds in
    let long = length-slice_range text at to le within in
    let zero_at : 0 + length (take at text) ≡ at = omega (arith, length-take-le at text (omega arith)) in
    let end : to ≡ at + length (slice_range text at to) = omega (arith, long) in
    ap (λ (bs : List ℕ). show_each g 0 bs ++ inlays_at inlays to) (take_further text at to le)
    ∙ ap (λ (l : List Token). l ++ inlays_at inlays to) (show_each-append g 0 (take at text) (slice_range text at to))
    ∙ (λ i. (show_each g 0 (take at text) ++ show_each g (zero_at i) (slice_range text at to)) ++ inlays_at inlays (end i))
    ∙ append_assoc (show_each g 0 (take at text)) (show_each g at (slice_range text at to)) (inlays_at inlays (at + length (slice_range text at to)))
    ∙ ap (λ (l : List Token). show_each g 0 (take at text) ++ l)
    (text-shown inlays folds at (slice_range text at to) before (λ o lo hi. free o lo (omega (arith, hi, long))))
    ∙ sym (append_assoc (show_each g 0 (take at text)) (inlays_at inlays at) (bytes_from at (slice_range text at to)))

-- one more inlay, at the offset
pub upto-inlay : (text : List ℕ) (inlays : List Inlay) (folds : List Fold) (i : Inlay) → i.offset ≤ length text →
    shown_upto text (inlays ++ i ∷ []) folds i.offset ≡ shown_upto text inlays folds i.offset ++ inlay_bytes i
upto-inlay text inlays folds i within =
    let long = length-take-le i.offset text within in
    let same = shown-alike (shown (inlays ++ i ∷ []) folds) (shown inlays folds) 0 (take i.offset text) (λ k b lo hi. alike k b (elsewhere-more inlays i k (λ e. absurd (omega (arith, e, hi, long))))) in
    (λ k. same k ++ at-more inlays i k) ∙ sym (append_assoc (folded_before text inlays folds i.offset) (inlays_at inlays i.offset) (inlay_bytes i)) where
      alike : (k b : ℕ) → inlays_at (inlays ++ i ∷ []) k ≡ inlays_at inlays k → shown (inlays ++ i ∷ []) folds k b ≡ shown inlays folds k b
      alike k b e = ap (λ (l : List Token). cond (inside folds k) [] (l ++ (cond (covered folds k) (Hidden k) (Byte k b)) ∷ [])) e

-- an inlay strictly inside a joined fold, before the offset
pub upto-hidden : (text : List ℕ) (inlays : List Inlay) (folds : List Fold) (i : Inlay) (at : ℕ) → inside folds i.offset ≡ true → i.offset < at →
    shown_upto text (inlays ++ i ∷ []) folds at ≡ shown_upto text inlays folds at
upto-hidden text inlays folds i at hidden lt =
    λ k. shown-alike (shown (inlays ++ i ∷ []) folds) (shown inlays folds) 0 (take at text) (λ k b lo hi. alike k b (cases_eq i.offset k)) k
    ++ elsewhere-more inlays i at (λ e. absurd (omega (arith, e, lt))) k where
      alike : (k b : ℕ) → (i.offset ≡ k) ⊎ (i.offset ≡ k → ⊥) → shown (inlays ++ i ∷ []) folds k b ≡ shown inlays folds k b
      alike k b (inl e) =
          let inner : inside folds k ≡ true = subst (λ (o : ℕ). inside folds o ≡ true) e hidden in
          ap (λ (t : Bool). cond t [] (inlays_at (inlays ++ i ∷ []) k ++ (cond (covered folds k) (Hidden k) (Byte k b)) ∷ [])) inner
          ∙ ap (λ (t : Bool). cond t [] (inlays_at inlays k ++ (cond (covered folds k) (Hidden k) (Byte k b)) ∷ [])) (sym inner)
      alike k b (inr ne) = ap (λ (l : List Token). cond (inside folds k) [] (l ++ (cond (covered folds k) (Hidden k) (Byte k b)) ∷ [])) (elsewhere-more inlays i k ne)

-- a joined fold from s to e, with the inlays up to its start
pub upto-fold : (text : List ℕ) (inlays : List Inlay) (folds : List Fold) (s e : ℕ) → s < e → e ≤ length text →
    Every (λ i. i.offset ≤ s) inlays → covered folds s ≡ true → inside folds s ≡ false → ((o : ℕ) → s < o → o < e → inside folds o ≡ true) →
    shown_upto text inlays folds e ≡ shown_upto text inlays folds s ++ Hidden s ∷ []
upto-fold text inlays folds s e lt within before cover out hidden =
    let g = shown inlays folds in
    let long = length-slice_range text s e (omega arith) within in
    let zero_s : 0 + length (take s text) ≡ s = omega (arith, length-take-le s text (omega arith)) in
    let none : inlays_at inlays e ≡ [] = none-at inlays e (weaker inlays before) in
    (λ i. show_each g 0 (take_further text s e (omega arith) i) ++ none i)
    ∙ append-nil (show_each g 0 (take s text ++ slice_range text s e))
    ∙ show_each-append g 0 (take s text) (slice_range text s e)
    ∙ (λ i. show_each g 0 (take s text) ++ show_each g (zero_s i) (slice_range text s e))
    ∙ ap (λ (l : List Token). show_each g 0 (take s text) ++ l) (bytes (slice_range text s e) long)
    ∙ sym (append_assoc (show_each g 0 (take s text)) (inlays_at inlays s) (Hidden s ∷ [])) where
      weaker : (l : List Inlay) → Every (λ i. i.offset ≤ s) l → Every (λ i. i.offset < e) l
      weaker [] h = tt
      weaker (i ∷ is) h = (omega (arith, h.0), weaker is h.1)

      bytes : (bs : List ℕ) → length bs ≡ e - s → show_each (shown inlays folds) s bs ≡ inlays_at inlays s ++ Hidden s ∷ []
      bytes [] long = absurd (omega (arith, long, lt))
      bytes (b ∷ bs) long =
          ap (λ (l : List Token). shown inlays folds s b ++ l) (inside-shows_none folds inlays (s + 1) bs (λ k lo hi. hidden k (omega (arith, lo)) (omega (arith, hi, long))))
          ∙ append-nil (shown inlays folds s b)
          ∙ shown-start folds inlays s b (cover, out)

-- all of it
pub upto-all : (text : List ℕ) (inlays : List Inlay) (folds : List Fold) → inside folds (length text) ≡ false → covered folds (length text) ≡ false →
    folded text inlays folds ≡ shown_upto text inlays folds (length text) ++ Byte (length text) line_feed ∷ []
upto-all text inlays folds out free =
    folded_is (record { text = text; inlays = inlays; folds = folds }) (out, free)
    ∙ ap (λ (b : Bool). cond b (folded_before text inlays folds (length text)) (shown_upto text inlays folds (length text)) ++ Byte (length text) line_feed ∷ []) out
