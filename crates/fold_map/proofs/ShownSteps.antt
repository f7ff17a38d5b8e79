-- What is shown from a joined fold's end to that of the next, on either side. First it is the same, and then a
-- placeholder in the place of what is hidden.
use Rattle.std.proofs.Common.{◌≡◌, ℕ, suc, ◌+◌, ◌-◌, ◌<◌, ◌≤◌, false, List, [], ◌∷◌, ◌++◌, length, take, drop, get_or, refl, sym, ap, ◌∙◌, arith, append_assoc}
use Rattle.std.proofs.lemmas.List.{drop-drop, drop-take, drop_more, length-drop, length-take-le, take-append-drop, take-take}
use Rattle.cell_units.specs.Record.{Fold, Inlay}
use Rattle.cell_units.specs.Inlaid.{Token, Byte, Hidden, inlays_at, offset_of, show_each}
use Rattle.cell_units.specs.Folded.{covered, shown}
use Rattle.cell_units.specs.Joined.{ShowsOnePlaceholder}
use Rattle.cell_units.proofs.FoldedPlaces.{uncovered-shows}
use Rattle.cell_units.proofs.Joined.{inside-shows_none, shown-start}
use Rattle.cell_units.proofs.ShownText.{show_each-append}

module _ (text : List ℕ) where
  -- the bytes from one offset to another
  abbrev pub part : ℕ → ℕ → List ℕ
  part o p = take (p - o) (drop o text)

  pub length-part : (o p : ℕ) → o ≤ p → p ≤ length text → o + length (part o p) ≡ p
  length-part o p le within = omega (arith, length-take-le (p - o) (drop o text) (omega (arith, length-drop o text, within)), le)

  module _ (g : ℕ → ℕ → List Token) where
    pub behind-part : (o p : ℕ) → o ≤ p → p ≤ length text → show_each g o (drop o text) ≡ show_each g o (part o p) ++ show_each g p (drop p text)
    behind-part o p le within =
        let there : o + (p - o) ≡ p = omega (arith, le) in
        let rest : drop (p - o) (drop o text) ≡ drop p text = drop-drop (p - o) o text ∙ ap (λ (k : ℕ). drop k text) there in
        ap (show_each g o) (sym (take-append-drop (p - o) (drop o text)) ∙ ap (λ (l : List ℕ). part o p ++ l) rest)
        ∙ show_each-append g o (part o p) (drop p text)
        ∙ ap (λ (k : ℕ). show_each g o (part o p) ++ show_each g k (drop p text)) (length-part o p le within)

    pub before-part : (o p : ℕ) → o ≤ p → p ≤ length text → show_each g 0 (take p text) ≡ show_each g 0 (take o text) ++ show_each g o (part o p)
    before-part o p le within =
        let there : o + (p - o) ≡ p = omega (arith, le) in
        let here : 0 + length (take o text) ≡ o = omega (arith, length-take-le o text (omega (arith, le, within))) in
        let two : take p text ≡ take o text ++ part o p =
        sym (take-append-drop o (take p text))
        ∙ (λ i. take-take o p text le i ++ (ap (λ (k : ℕ). drop o (take k text)) (sym there) ∙ drop-take o (p - o) text) i) in
        ap (show_each g 0) two
        ∙ show_each-append g 0 (take o text) (part o p)
        ∙ ap (λ (k : ℕ). show_each g 0 (take o text) ++ show_each g k (part o p)) here

module _ (text : List ℕ) (inlays : List Inlay) where
  -- the inlays at the text's end
  abbrev pub last : List Token
  last = inlays_at inlays (length text)

  abbrev pub low : ℕ → ℕ → List Token
  low = shown inlays []

  -- what is shown from an offset on, up to the inlays at the text's end
  abbrev pub from : List Fold → ℕ → List Token
  from folds o = show_each (shown inlays folds) o (drop o text) ++ last

  -- up to after the inlays at an offset
  abbrev pub to_right : ℕ → List Token
  to_right o = show_each low 0 (take o text) ++ inlays_at inlays o

  module _ (folds : List Fold) where
    abbrev high : ℕ → ℕ → List Token
    high = shown inlays folds

    -- from the offset `base` to after a joined fold
    pub record IsStep (base s e : ℕ) : Type 0 where
      pub gap : List Token
      pub old : List Token
      pub below : from [] base ≡ gap ++ (old ++ from [] e)
      pub above : from folds base ≡ gap ++ (Hidden s ∷ from folds e)
      pub gap_is : to_right s ≡ show_each low 0 (take base text) ++ gap
      pub old_is : show_each low 0 (take e text) ≡ to_right s ++ old
      pub own : Token
      pub rest : List Token
      pub first : old ≡ own ∷ rest
      pub at : offset_of own ≡ s
      pub own_is : own ≡ Byte s (get_or text s 0)

    module _ (base s e : ℕ) (order : base ≤ s) (some : s < e) (within : e ≤ length text) where
      abbrev x : ℕ
      x = get_or text s 0

      abbrev kept : List Token
      kept = show_each low base (part text base s)

      abbrev hidden : List Token
      hidden = show_each low (s + 1) (part text (s + 1) e)

      abbrev gap : List Token
      gap = kept ++ inlays_at inlays s

      from-start : (g : ℕ → ℕ → List Token) → show_each g s (drop s text) ≡ g s x ++ (show_each g (s + 1) (part text (s + 1) e) ++ show_each g e (drop e text))
      from-start g =
          ap (show_each g s) (drop_more text s 0 (omega (arith, some, within)))
          ∙ ap (λ (l : List Token). g s x ++ l) (behind-part text g (s + 1) e (omega (arith, some)) within)

      shift : (own : Token) (more rest : List Token) → (kept ++ ((inlays_at inlays s ++ own ∷ []) ++ (more ++ rest))) ++ last ≡ gap ++ (own ∷ more ++ (rest ++ last))
      shift own more rest =
          append_assoc kept ((inlays_at inlays s ++ own ∷ []) ++ (more ++ rest)) last
          ∙ ap (λ (l : List Token). kept ++ l)
          (append_assoc (inlays_at inlays s ++ own ∷ []) (more ++ rest) last
          ∙ append_assoc (inlays_at inlays s) (own ∷ []) ((more ++ rest) ++ last)
          ∙ ap (λ (l : List Token). inlays_at inlays s ++ own ∷ l) (append_assoc more rest last))
          ∙ sym (append_assoc kept (inlays_at inlays s) (own ∷ more ++ (rest ++ last)))

      step-below : from [] base ≡ gap ++ ((Byte s x ∷ hidden) ++ from [] e)
      step-below =
          ap (λ (l : List Token). l ++ last) (behind-part text low base s order (omega (arith, some, within)) ∙ ap (λ (l : List Token). kept ++ l) (from-start low))
          ∙ shift (Byte s x) hidden (show_each low e (drop e text))

      step-above : ((k : ℕ) → base ≤ k → k < s → covered folds k ≡ false) → ShowsOnePlaceholder folds s e → from folds base ≡ gap ++ (Hidden s ∷ from folds e)
      step-above bare is =
          let long = length-part text base s order (omega (arith, some, within)) in
          let long' = length-part text (s + 1) e (omega (arith, some)) within in
          let same = uncovered-shows inlays folds base (part text base s) (λ k l u. bare k l (omega (arith, u, long))) in
          let none = inside-shows_none folds inlays (s + 1) (part text (s + 1) e) (λ k l u. is.2 k (omega (arith, l)) (omega (arith, u, long'))) in
          ap (λ (l : List Token). l ++ last) (behind-part text high base s order (omega (arith, some, within)))
          ∙ (λ i. (same i ++ (from-start high ∙ (λ j. shown-start folds inlays s x (is.0, is.1) j ++ (none j ++ show_each high e (drop e text)))) i) ++ last)
          ∙ shift (Hidden s) [] (show_each high e (drop e text))

      pub step : ((k : ℕ) → base ≤ k → k < s → covered folds k ≡ false) → ShowsOnePlaceholder folds s e → IsStep base s e
      step bare is = record {
        gap = gap;
        old = Byte s x ∷ hidden;
        below = step-below;
        above = step-above bare is;
        gap_is =
            ap (λ (l : List Token). l ++ inlays_at inlays s) (before-part text low base s order (omega (arith, some, within)))
            ∙ append_assoc (show_each low 0 (take base text)) kept (inlays_at inlays s);
        old_is =
            before-part text low s e (omega (arith, some)) within
            ∙ ap (λ (l : List Token). show_each low 0 (take s text) ++ l) whole
            ∙ sym (append_assoc (show_each low 0 (take s text)) (inlays_at inlays s) (Byte s x ∷ hidden));
        own = Byte s x;
        rest = hidden;
        first = refl;
        at = refl;
        own_is = refl;
      } where
        same_take : part text s e ≡ x ∷ part text (s + 1) e
        same_take =
            let more : e - s ≡ suc (e - (s + 1)) = omega (arith, some) in
            (λ i. take (more i) (drop_more text s 0 (omega (arith, some, within)) i))

        whole : show_each low s (part text s e) ≡ inlays_at inlays s ++ (Byte s x ∷ hidden)
        whole = ap (show_each low s) same_take ∙ append_assoc (inlays_at inlays s) (Byte s x ∷ []) hidden

    -- where no fold hides a byte, the same is shown
    pub same-from : (base : ℕ) → ((k : ℕ) → base ≤ k → k < length text → covered folds k ≡ false) → base ≤ length text → from [] base ≡ from folds base
    same-from base bare le = ap (λ (l : List Token). l ++ last) (sym (uncovered-shows inlays folds base (drop base text) (λ k l u. bare k l (omega (arith, u, length-drop base text, le)))))
