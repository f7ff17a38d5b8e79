-- What is at the places of tokens, and replacements of it.
use Rattle.std.proofs.Common.{◌≡◌, ℕ, ◌+◌, List, [], ◌∷◌, ◌++◌, length, map, take, drop, refl, sym, ap, ◌∙◌, arith, append_assoc, length-append}
use Rattle.std.specs.List.{flat_map}
use Rattle.std.proofs.lemmas.List.{length-map, map-append}
use Rattle.std.proofs.lemmas.List.Concat.{flat_map-append}
use Rattle.std.proofs.Math.Seq.{take-append_seam, drop-append_seam}
use Rattle.cell_units.specs.Inlaid.{Token, bytes_of}
use Rattle.edit_patch.specs.LayerLeads.{token_places}
use Rattle.edit_patch.specs.Leads.{Leads, Reach}

-- what is at the places of tokens
abbrev pub at_places : List Token → List Token
at_places ts = flat_map token_places ts

pub length-at_places : (ts : List Token) → length (at_places ts) ≡ length (flat_map bytes_of ts)
length-at_places [] = refl
length-at_places (t ∷ ts) =
    length-append (token_places t) (at_places ts)
    ∙ (λ i. length-map (bytes_of t) (λ (b : ℕ). t) i + length-at_places ts i)
    ∙ sym (length-append (bytes_of t) (flat_map bytes_of ts))

take-front : {X : Type 0} (xs ys : List X) (n : ℕ) → n ≡ length xs → take n (xs ++ ys) ≡ xs
take-front xs ys n e = ap (λ k. take k (xs ++ ys)) e ∙ take-append_seam xs ys

drop-front : {X : Type 0} (xs ys : List X) (n : ℕ) → n ≡ length xs → drop n (xs ++ ys) ≡ ys
drop-front xs ys n e = ap (λ k. drop k (xs ++ ys)) e ∙ drop-append_seam xs ys

module _ (moved : Token → Token) (places : (t : Token) → token_places (moved t) ≡ map moved (token_places t)) where
  at_places-map : (ts : List Token) → at_places (map moved ts) ≡ map moved (at_places ts)
  at_places-map [] = refl
  at_places-map (t ∷ ts) = (λ i. places t i ++ at_places-map ts i) ∙ sym (map-append moved (token_places t) (at_places ts))

  -- two lists of tokens with the same prefix, and of which the one's end is the other's, moved
  pub leads-by_parts : (front mid mid' end : List Token) (s : Reach) →
      s.start ≡ length (at_places front) → s.end ≡ length (at_places (front ++ mid)) → s.start + s.count ≡ length (at_places (front ++ mid')) →
      Leads (map moved) (at_places ((front ++ mid) ++ end)) (at_places ((front ++ mid') ++ map moved end)) s
  leads-by_parts front mid mid' end s a b c =
      let old = flat_map-append token_places (front ++ mid) end in
      let new = flat_map-append token_places (front ++ mid') (map moved end) in
      let fore : (m e : List Token) → take s.start (at_places ((front ++ m) ++ e)) ≡ at_places front =
      λ (m e : List Token). ap (λ l. take s.start (at_places l)) (append_assoc front m e) ∙ ap (take s.start) (flat_map-append token_places front (m ++ e)) ∙ take-front (at_places front) (at_places (m ++ e)) s.start a in
      record {
        within = omega (arith, b, ap length old, length-append (at_places (front ++ mid)) (at_places end));
        reaches = omega (arith, c, ap length new, length-append (at_places (front ++ mid')) (at_places (map moved end)));
        before = fore mid' (map moved end) ∙ sym (fore mid end);
        behind =
            ap (drop (s.start + s.count)) new ∙ drop-front (at_places (front ++ mid')) (at_places (map moved end)) (s.start + s.count) c
            ∙ at_places-map end
            ∙ ap (map moved) (sym (ap (drop s.end) old ∙ drop-front (at_places (front ++ mid)) (at_places end) s.end b));
      }
