-- Replacements of what is shown of a text with inlays.
use Rattle.std.proofs.Common.{◌≡◌, ℕ, ◌+◌, ◌<◌, List, [], ◌∷◌, ◌++◌, length, map, sym, ap, ◌∙◌, subst, arith, append_assoc, length-append}
use Rattle.std.proofs.lemmas.List.{append-nil}
use Rattle.cell_units.specs.Inlaid.{Token, Byte, inlays_at, show_each}
use Rattle.cell_units.specs.Record.{Inlay}
use Rattle.cell_units.specs.Folded.{shown}
use Rattle.cell_units.proofs.ShownMoved.{show_each-append, show_each-same}
use Rattle.edit_patch.proofs.TokenPlaces.{at_places, leads-by_parts}
use Rattle.edit_patch.specs.LayerLeads.{token_places}
use Rattle.edit_patch.specs.Leads.{Leads, Reach}

module _ (inlays : List Inlay) where
  -- what a text shows before the inlays at its end, and after them
  abbrev pub shown_left : List ℕ → List Token
  shown_left xs = show_each (shown inlays []) 0 xs

  abbrev pub shown_right : List ℕ → List Token
  shown_right xs = shown_left xs ++ inlays_at inlays (length xs)

  -- what the rest of a text shows after the inlays at its start, which is at the offset
  abbrev pub shown_behind : ℕ → List ℕ → List Token
  shown_behind o [] = []
  shown_behind o (c ∷ cs) = Byte o c ∷ (show_each (shown inlays []) (o + 1) cs ++ inlays_at inlays (o + 1 + length cs))

  pub right-parts : (xs ys : List ℕ) → shown_right (xs ++ ys) ≡ shown_left xs ++ (show_each (shown inlays []) (length xs) ys ++ inlays_at inlays (length (xs ++ ys)))
  right-parts xs ys =
      let at : 0 + length xs ≡ length xs = omega arith in
      ap (λ l. l ++ inlays_at inlays (length (xs ++ ys))) (show_each-append (shown inlays []) 0 xs ys ∙ ap (λ o. shown_left xs ++ show_each (shown inlays []) o ys) at)
      ∙ append_assoc (shown_left xs) (show_each (shown inlays []) (length xs) ys) (inlays_at inlays (length (xs ++ ys)))

  pub right-whole : (xs rest : List ℕ) → shown_right (xs ++ rest) ≡ shown_right xs ++ shown_behind (length xs) rest
  right-whole xs [] = ap shown_right (append-nil xs) ∙ sym (append-nil (shown_right xs))
  right-whole xs (c ∷ cs) =
      let o = length xs in
      let end : length (xs ++ c ∷ cs) ≡ o + 1 + length cs = omega (arith, length-append xs (c ∷ cs)) in
      let here = inlays_at inlays o in
      let tail = show_each (shown inlays []) (o + 1) cs in
      right-parts xs (c ∷ cs)
      ∙ ap (λ k. shown_left xs ++ (((here ++ Byte o c ∷ []) ++ tail) ++ inlays_at inlays k)) end
      ∙ ap (λ l. shown_left xs ++ l) (append_assoc (here ++ Byte o c ∷ []) tail (inlays_at inlays (o + 1 + length cs)) ∙ append_assoc here (Byte o c ∷ []) (tail ++ inlays_at inlays (o + 1 + length cs)))
      ∙ sym (append_assoc (shown_left xs) here (shown_behind o (c ∷ cs)))

-- The bytes `ys` between a prefix and a rest become others, and the inlays others, but not before these bytes. What
-- comes after them is moved.
module _ (moved : Token → Token) (places : (t : Token) → token_places (moved t) ≡ map moved (token_places t)) (xs ys ys' rest : List ℕ) (inlays inlays' : List Inlay)
    (before : (k : ℕ) → k < length xs → inlays_at inlays' k ≡ inlays_at inlays k)
    (behind : shown_behind inlays' (length (xs ++ ys')) rest ≡ map moved (shown_behind inlays (length (xs ++ ys)) rest)) where
  pub same-front : shown_left inlays' xs ≡ shown_left inlays xs
  same-front = show_each-same (shown inlays []) (shown inlays' []) 0 xs (λ k c lt. ap (λ l. l ++ Byte k c ∷ []) (before k (omega arith)))

  pub leads-inlaid : (s : Reach) →
      s.start ≡ length (at_places (shown_left inlays xs)) → s.end ≡ length (at_places (shown_right inlays (xs ++ ys))) → s.start + s.count ≡ length (at_places (shown_right inlays' (xs ++ ys'))) →
      Leads (map moved) (at_places (shown_right inlays ((xs ++ ys) ++ rest))) (at_places (shown_right inlays' ((xs ++ ys') ++ rest))) s
  leads-inlaid s a b c =
      let front = shown_left inlays xs in
      let mid = show_each (shown inlays []) (length xs) ys ++ inlays_at inlays (length (xs ++ ys)) in
      let mid' = show_each (shown inlays' []) (length xs) ys' ++ inlays_at inlays' (length (xs ++ ys')) in
      let end = shown_behind inlays (length (xs ++ ys)) rest in
      let old : shown_right inlays ((xs ++ ys) ++ rest) ≡ (front ++ mid) ++ end = right-whole inlays (xs ++ ys) rest ∙ ap (λ l. l ++ end) (right-parts inlays xs ys) in
      let fore : shown_right inlays' (xs ++ ys') ≡ front ++ mid' = right-parts inlays' xs ys' ∙ ap (λ l. l ++ mid') same-front in
      let new : shown_right inlays' ((xs ++ ys') ++ rest) ≡ (front ++ mid') ++ map moved end = right-whole inlays' (xs ++ ys') rest ∙ (λ i. fore i ++ behind i) in
      subst (λ l. Leads (map moved) l (at_places (shown_right inlays' ((xs ++ ys') ++ rest))) s) (ap at_places (sym old))
      (subst (λ l. Leads (map moved) (at_places ((front ++ mid) ++ end)) l s) (ap at_places (sym new))
      (leads-by_parts moved places front mid mid' end s a (b ∙ ap (λ l. length (at_places l)) (right-parts inlays xs ys)) (c ∙ ap (λ l. length (at_places l)) fore)))
