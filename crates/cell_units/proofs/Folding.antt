-- Folds over a layer: each token of the lower layer is kept, is hidden or becomes a placeholder. And inlays in a text:
-- each byte has the inlays at its offset before it.
use Rattle.std.proofs.Common.{◌≡◌, ℕ, ◌+◌, ◌-◌, length, Bool, true, false, cond, eqb, List, [], ◌∷◌, ◌++◌, map, filter, take, flat_map, refl, sym, ap, ◌∙◌}
use Rattle.std.proofs.lemmas.Bool.{eqb-true}
use Rattle.std.proofs.lemmas.List.Concat.{flat_map-append}
use Rattle.cell_units.specs.declared.place.Bias.{Bias}
use Rattle.cell_units.specs.declared.place.Bias.TheVariants.{Left, Right}
use Rattle.cell_units.specs.Text.{clean, line_feed}
use Rattle.cell_units.specs.Record.{Inlay, Fold}
use Rattle.cell_units.specs.Inlaid.{Token, Byte, InlayByte, Hidden, inlays_at, inlay_bytes, show_each}
use Rattle.cell_units.specs.Folded.{inside, covered, shown, folded, folded_before, folded_to}
use Rattle.cell_units.specs.Folding.{folded_token, inlaid_token}

-- ---- folds

module _ (folds : List Fold) where
  abbrev fold_each : List Token → List Token
  fold_each ts = flat_map (folded_token folds) ts

  inlay-folded : (o id : ℕ) (c : Bool) → inside folds o ≡ c → (bs : List ℕ) →
      fold_each (map (InlayByte o id) bs) ≡ cond c [] (map (InlayByte o id) bs)
  inlay-folded o id true e [] = refl
  inlay-folded o id false e [] = refl
  inlay-folded o id true e (b ∷ bs) =
      ap (λ (d : Bool). cond d [] (InlayByte o id b ∷ []) ++ fold_each (map (InlayByte o id) bs)) e ∙ inlay-folded o id true e bs
  inlay-folded o id false e (b ∷ bs) =
      ap (λ (d : Bool). cond d [] (InlayByte o id b ∷ []) ++ fold_each (map (InlayByte o id) bs)) e
      ∙ ap (λ (l : List Token). InlayByte o id b ∷ l) (inlay-folded o id false e bs)

  both_kept : (c : Bool) (xs ys : List Token) → cond c [] xs ++ cond c [] ys ≡ cond c [] (xs ++ ys)
  both_kept true xs ys = refl
  both_kept false xs ys = refl

  -- the inlays at an offset are kept, or hidden where a fold reaches over it
  pub inlays-folded : (o : ℕ) (c : Bool) → inside folds o ≡ c → (inlays : List Inlay) → fold_each (inlays_at inlays o) ≡ cond c [] (inlays_at inlays o)
  inlays-folded o true e [] = refl
  inlays-folded o false e [] = refl
  inlays-folded o c e (i ∷ is) = go (eqb i.offset o) refl (inlays-folded o c e is) where
    go : (d : Bool) → eqb i.offset o ≡ d → fold_each (inlays_at is o) ≡ cond c [] (inlays_at is o) →
        fold_each (flat_map inlay_bytes (cond d (i ∷ filter (λ i. eqb i.offset o) is) (filter (λ i. eqb i.offset o) is)))
        ≡ cond c [] (flat_map inlay_bytes (cond d (i ∷ filter (λ i. eqb i.offset o) is) (filter (λ i. eqb i.offset o) is)))
    go false s h = h
    go true s h =
        flat_map-append (folded_token folds) (inlay_bytes i) (inlays_at is o)
        ∙ (λ k. inlay-folded i.offset i.id c (ap (inside folds) (eqb-true i.offset o s) ∙ e) (clean i.text) k ++ h k)
        ∙ both_kept c (inlay_bytes i) (inlays_at is o)

  module _ (inlays : List Inlay) where
    offset-folded : (o b : ℕ) → shown inlays folds o b ≡ fold_each (shown inlays [] o b)
    offset-folded o b =
        own (inside folds o)
        ∙ ap (λ (l : List Token). l ++ (cond (inside folds o) [] ((cond (covered folds o) (Hidden o) (Byte o b)) ∷ []) ++ [])) (sym (inlays-folded o (inside folds o) refl inlays))
        ∙ sym (flat_map-append (folded_token folds) (inlays_at inlays o) (Byte o b ∷ [])) where
          own : (c : Bool) → cond c [] (inlays_at inlays o ++ (cond (covered folds o) (Hidden o) (Byte o b)) ∷ [])
              ≡ cond c [] (inlays_at inlays o) ++ (cond c [] ((cond (covered folds o) (Hidden o) (Byte o b)) ∷ []) ++ [])
          own true = refl
          own false = refl

    -- what bytes show under folds is what they show without, each token replaced
    pub each-folded : (o : ℕ) (bs : List ℕ) → show_each (shown inlays folds) o bs ≡ fold_each (show_each (shown inlays []) o bs)
    each-folded o [] = refl
    each-folded o (b ∷ bs) =
        (λ i. offset-folded o b i ++ each-folded (o + 1) bs i)
        ∙ sym (flat_map-append (folded_token folds) (shown inlays [] o b) (show_each (shown inlays []) (o + 1) bs))

    pub folded-folded : (text : List ℕ) → folded text inlays folds ≡ fold_each (folded text inlays [])
    folded-folded text = each-folded 0 (text ++ line_feed ∷ [])

    pub folded_before-folded : (text : List ℕ) (o : ℕ) → folded_before text inlays folds o ≡ fold_each (folded_before text inlays [] o)
    folded_before-folded text o = each-folded 0 (take o text)

    -- what is before an open position is what was before it, each token replaced
    pub folded_to-folded : (text : List ℕ) (o : ℕ) (bias : Bias) → inside folds o ≡ false →
        folded_to text inlays folds o bias ≡ fold_each (folded_to text inlays [] o bias)
    folded_to-folded text o Left out =
        ap (λ (c : Bool). cond c (take (length (folded_before text inlays folds o) - 1) (folded_before text inlays folds o)) (folded_before text inlays folds o)) out
        ∙ folded_before-folded text o
    folded_to-folded text o Right out =
        ap (λ (c : Bool). cond c (folded_before text inlays folds o) (folded_before text inlays folds o ++ inlays_at inlays o)) out
        ∙ (λ i. folded_before-folded text o i ++ sym (inlays-folded o false out inlays) i)
        ∙ sym (flat_map-append (folded_token folds) (folded_before text inlays [] o) (inlays_at inlays o))

-- ---- inlays

pub each-inlaid : (inlays : List Inlay) (o : ℕ) (bs : List ℕ) → show_each (shown inlays []) o bs ≡ flat_map (inlaid_token inlays) (show_each (shown [] []) o bs)
each-inlaid inlays o [] = refl
each-inlaid inlays o (b ∷ bs) = ap (λ (l : List Token). (inlays_at inlays o ++ Byte o b ∷ []) ++ l) (each-inlaid inlays (o + 1) bs)

pub folded-inlaid : (inlays : List Inlay) (text : List ℕ) → folded text inlays [] ≡ flat_map (inlaid_token inlays) (folded text [] [])
folded-inlaid inlays text = each-inlaid inlays 0 (text ++ line_feed ∷ [])
