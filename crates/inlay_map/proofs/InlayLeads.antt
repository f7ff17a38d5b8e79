-- What a replacement of text replaces of what is shown, and what an inlay does.
use Rattle.std.proofs.Common.{◌≡◌, ℕ, ◌+◌, ◌-◌, ◌<◌, ◌≤◌, ◌≢◌, ◌==◌, ◌&&◌, nat_lt, nat_le, Bool, true, false, cond, List, [], ◌∷◌, ◌++◌, length, map, take, drop, refl, sym, ap, ◌∙◌, subst, arith, append_assoc, length-append, Some, None}
use Rattle.std.specs.List.{flat_map}
use Rattle.std.proofs.lemmas.Bool.Decides.{nat_tests}
use Rattle.std.proofs.lemmas.List.{append-nil, length-take, length-drop, map-append, take-append-drop, take_all, drop-drop}
use Rattle.std.proofs.lemmas.List.Concat.{flat_map-append}
use Rattle.std.proofs.Math.Seq.{take-append_seam}
use Rattle.cell_units.specs.declared.place.Bias.TheVariants.{Left, Right}
use Rattle.cell_units.specs.Anchor.{move}
use Rattle.cell_units.specs.Inlaid.{Token, Byte, InlayByte, Hidden, bytes_of, inlays_at, show_each}
use Rattle.cell_units.specs.Record.{Inlay, inlay_le}
use Rattle.cell_units.specs.Operation.{moved_inlays, replaced_text}
use Rattle.cell_units.specs.Layers.{inlay_source, place_of}
use Rattle.cell_units.specs.Folded.{shown}
use Rattle.cell_units.proofs.Moves.{move_token, move-above}
use Rattle.cell_units.proofs.SortedLists.{IsSorted}
use Rattle.cell_units.proofs.ShownMoved.{show_each-moved, inlays_before, inlays_behind}
use Rattle.edit_patch.proofs.TokenPlaces.{at_places, length-at_places}
use Rattle.edit_patch.specs.LayerLeads.{LayerLeads, token_after, token_places, layer_places, shown_shift, shown_between}
use Rattle.edit_patch.specs.Leads.{Leads, Reach}
use Rattle.inlay_map.specs.InlaidShifts.{inlaid_shift, inlay_shift}
use Rattle.inlay_map.proofs.LayerLeads.{shown_left, shown_right, shown_behind, right-parts, same-front, leads-inlaid}

places-after : (s : Reach) (t : Token) → token_places (token_after (Some s) t) ≡ map (token_after (Some s)) (token_places t)
places-after s (Byte o b) = refl
places-after s (InlayByte o id b) = refl
places-after s (Hidden o) = refl

places-still : (t : Token) → token_places (token_after None t) ≡ map (token_after None) (token_places t)
places-still (Byte o b) = refl
places-still (InlayByte o id b) = refl
places-still (Hidden o) = refl

still : (ts : List Token) → ts ≡ map (token_after None) ts
still [] = refl
still (Byte o b ∷ ts) = ap (λ l. Byte o b ∷ l) (still ts)
still (InlayByte o id b ∷ ts) = ap (λ l. InlayByte o id b ∷ l) (still ts)
still (Hidden o ∷ ts) = ap (λ l. Hidden o ∷ l) (still ts)

same-move : (s : Reach) (ts : List Token) → map (move_token s.start s.end s.count) ts ≡ map (token_after (Some s)) ts
same-move s [] = refl
same-move s (Byte o b ∷ ts) = ap (λ l. token_after (Some s) (Byte o b) ∷ l) (same-move s ts)
same-move s (InlayByte o id b ∷ ts) = ap (λ l. token_after (Some s) (InlayByte o id b) ∷ l) (same-move s ts)
same-move s (Hidden o ∷ ts) = ap (λ l. token_after (Some s) (Hidden o) ∷ l) (same-move s ts)

-- where the byte after a replaced range goes
move-end : (a b n : ℕ) → a ≤ b → move b Right a b n ≡ a + n
move-end a b n le = go (nat_lt b a) (b == a) (nat_le b b) (grind (arith, nat_tests)) (grind (arith, nat_tests)) where
  go : (c d e : Bool) → c ≡ false → e ≡ true → cond c b (cond (d && false) b (cond e (a + n) (b + n - (b - a)))) ≡ a + n
  go true d e p q = absurd (cc)
  go false true true p q = refl
  go false false true p q = refl
  go false d false p q = absurd (cc)

module _ (xs ys ys' rest : List ℕ) (old new : List Inlay) where
  abbrev before_text : List ℕ
  before_text = (xs ++ ys) ++ rest

  abbrev after_text : List ℕ
  after_text = (xs ++ ys') ++ rest

  front : (zs : List ℕ) → take (length xs) ((xs ++ zs) ++ rest) ≡ xs
  front zs = ap (take (length xs)) (append_assoc xs zs rest) ∙ take-append_seam xs (zs ++ rest)

  places-left : (inlays : List Inlay) (zs : List ℕ) → place_of (inlay_source ((xs ++ zs) ++ rest) inlays) (length xs) Left ≡ length (at_places (shown_left inlays xs))
  places-left inlays zs = ap (λ l. length (flat_map bytes_of (show_each (shown inlays []) 0 l))) (front zs) ∙ sym (length-at_places (shown_left inlays xs))

  places-right : (inlays : List Inlay) (zs : List ℕ) → place_of (inlay_source ((xs ++ zs) ++ rest) inlays) (length (xs ++ zs)) Right ≡ length (at_places (shown_right inlays (xs ++ zs)))
  places-right inlays zs =
      ap (λ l. length (flat_map bytes_of (show_each (shown inlays []) 0 l ++ inlays_at inlays (length (xs ++ zs))))) (take-append_seam (xs ++ zs) rest)
      ∙ sym (length-at_places (shown_right inlays (xs ++ zs)))

  whole : (inlays : List Inlay) (zs : List ℕ) → layer_places (inlay_source zs inlays) ≡ at_places (shown_right inlays zs)
  whole inlays zs = ap (λ l. at_places (show_each (shown inlays []) 0 l ++ inlays_at inlays (length zs))) (take_all (length zs) zs (omega arith))

  -- the bytes `ys` become others, and the inlays others, but not before these bytes; what comes after them is moved
  pub parts-lead : (moves : Token → Token) → ((t : Token) → token_places (moves t) ≡ map moves (token_places t))
      → ((k : ℕ) → k < length xs → inlays_at new k ≡ inlays_at old k)
      → shown_behind new (length (xs ++ ys')) rest ≡ map moves (shown_behind old (length (xs ++ ys)) rest)
      → Leads (map moves) (layer_places (inlay_source before_text old)) (layer_places (inlay_source after_text new))
      (shown_shift (inlay_source before_text old) (length xs) (length (xs ++ ys)) (shown_between (inlay_source after_text new) (length xs) (length (xs ++ ys'))))
  parts-lead moves places before behind =
      let old-source = inlay_source before_text old in
      let new-source = inlay_source after_text new in
      let s : Reach = shown_shift old-source (length xs) (length (xs ++ ys)) (shown_between new-source (length xs) (length (xs ++ ys'))) in
      subst (λ l. Leads (map moves) l (layer_places new-source) s) (sym (whole old before_text))
      (subst (λ l. Leads (map moves) (at_places (shown_right old before_text)) l s) (sym (whole new after_text))
      (leads-inlaid moves places xs ys ys' rest old new before behind s (places-left old ys) (places-right old ys) count-is))
    where
      fore : shown_right new (xs ++ ys') ≡ shown_left old xs ++ (show_each (shown new []) (length xs) ys' ++ inlays_at new (length (xs ++ ys')))
      fore = right-parts new xs ys' ∙ ap (λ l. l ++ (show_each (shown new []) (length xs) ys' ++ inlays_at new (length (xs ++ ys')))) (same-front moves places xs ys ys' rest old new before behind)

      longer : length (at_places (shown_left old xs)) ≤ length (at_places (shown_right new (xs ++ ys')))
      longer =
          let mid = show_each (shown new []) (length xs) ys' ++ inlays_at new (length (xs ++ ys')) in
          omega (arith, ap (λ l. length (at_places l)) fore, ap (λ l. length l) (flat_map-append token_places (shown_left old xs) mid), length-append (at_places (shown_left old xs)) (at_places mid))

      count-is : place_of (inlay_source before_text old) (length xs) Left + shown_between (inlay_source after_text new) (length xs) (length (xs ++ ys')) ≡ length (at_places (shown_right new (xs ++ ys')))
      count-is =
          omega (
            arith,
            longer,
            places-left old ys,
            places-left new ys',
            places-right new ys',
            ap (λ l. length (at_places l)) (same-front moves places xs ys ys' rest old new before behind),
          )

-- two lists of what comes after an offset, where one is the other moved
behind-moved : (moves : Token → Token) (a b n : ℕ) (rest : List ℕ) (old new : List Inlay) → a ≤ b
    → ((c : ℕ) → Byte (a + n) c ≡ moves (Byte b c))
    → ((k : ℕ) → b < k → inlays_at new (k + n - (b - a)) ≡ map moves (inlays_at old k))
    → ((k c : ℕ) → b < k → Byte (k + n - (b - a)) c ≡ moves (Byte k c))
    → shown_behind new (a + n) rest ≡ map moves (shown_behind old b rest)
behind-moved moves a b n [] old new le first inlays bytes = refl
behind-moved moves a b n (c ∷ cs) old new le first inlays bytes =
    let each : (k d : ℕ) → b + 1 ≤ k → shown new [] (k + n - (b - a)) d ≡ map moves (shown old [] k d) =
    λ k d lt. (λ i. inlays k (omega arith) i ++ bytes k d (omega arith) i ∷ []) ∙ sym (map-append moves (inlays_at old k) (Byte k d ∷ [])) in
    let next : a + n + 1 ≡ b + 1 + n - (b - a) = omega arith in
    let end : a + n + 1 + length cs ≡ b + 1 + length cs + n - (b - a) = omega arith in
    (λ i. first c i ∷ (show_each-moved (shown old []) (shown new []) moves n (b - a) (b + 1) (a + n + 1) cs (omega arith) next each i ++ (ap (inlays_at new) end ∙ inlays (b + 1 + length cs) (omega arith)) i))
    ∙ ap (λ l. moves (Byte b c) ∷ l) (sym (map-append moves (show_each (shown old []) (b + 1) cs) (inlays_at old (b + 1 + length cs))))

-- a text in three parts
record InThree (text xs ys rest : List ℕ) (a b : ℕ) : Type 0 where
  is : text ≡ (xs ++ ys) ++ rest
  front : length xs ≡ a
  back : length (xs ++ ys) ≡ b

in-three : (text : List ℕ) (a b : ℕ) → a ≤ b → b ≤ length text → InThree text (take a text) (take (b - a) (drop a text)) (drop b text) a b
in-three text a b le within =
    let rest : drop (b - a) (drop a text) ≡ drop b text = drop-drop (b - a) a text ∙ ap (λ k. drop k text) (omega arith) in
    record {
      is =
          sym (take-append-drop a text)
          ∙ ap (λ l. take a text ++ l) (sym (take-append-drop (b - a) (drop a text)) ∙ ap (λ l. take (b - a) (drop a text) ++ l) rest)
          ∙ sym (append_assoc (take a text) (take (b - a) (drop a text)) (drop b text));
      front = omega (arith, length-take a text);
      back = omega (arith, length-append (take a text) (take (b - a) (drop a text)), length-take a text, length-take (b - a) (drop a text), length-drop a text);
    }

abbrev LeadsHere : (Token → Token) → List Inlay → List Inlay → List ℕ × List ℕ × ℕ × ℕ × ℕ → Type 0
LeadsHere moves old new x =
    Leads (map moves) (layer_places (inlay_source x.0 old)) (layer_places (inlay_source x.1 new))
    (shown_shift (inlay_source x.0 old) x.2 x.3 (shown_between (inlay_source x.1 new) x.2 x.4))

pub moved-leads : (s : Reach) (text new : List ℕ) (inlays : List Inlay) → IsSorted inlay_le inlays → s.start ≤ s.end → s.end ≤ length text → length new ≡ s.count
    → LayerLeads (Some s) (inlay_source text inlays) (inlay_source (replaced_text text s.start s.end new) (moved_inlays s.start s.end s.count inlays))
    (Some (inlaid_shift (inlay_source text inlays) (inlay_source (replaced_text text s.start s.end new) (moved_inlays s.start s.end s.count inlays)) s))
moved-leads s text new inlays sorted le within long =
    let a = s.start in
    let b = s.end in
    let n = s.count in
    let xs = take a text in
    let ys = take (b - a) (drop a text) in
    let rest = drop b text in
    let after = moved_inlays a b n inlays in
    let three = in-three text a b le within in
    let grown : length (xs ++ new) ≡ a + n = omega (arith, length-append xs new, three.front, long) in
    let behind : shown_behind after (a + n) rest ≡ map (token_after (Some s)) (shown_behind inlays b rest) =
    behind-moved (token_after (Some s)) a b n rest inlays after le (λ c. ap (λ k. Byte k c) (sym (move-end a b n le)))
    (λ k lt. inlays_behind a b n le [] inlays sorted k lt ∙ same-move s (inlays_at inlays k))
    (λ k c lt. ap (λ j. Byte j c) (sym (move-above k Right a b n le lt))) in
    subst (LeadsHere (token_after (Some s)) inlays after)
    (λ i. (sym three.is i, append_assoc xs new rest i, three.front i, three.back i, grown i))
    (parts-lead xs ys new rest inlays after (token_after (Some s)) (places-after s) (λ k lt. inlays_before a b n le [] inlays sorted k (omega (arith, lt, three.front)))
    ((λ i. shown_behind after (grown i) rest) ∙ behind ∙ (λ i. map (token_after (Some s)) (shown_behind inlays (sym three.back i) rest))))

pub inlay-leads : (text : List ℕ) (old new : List Inlay) (o : ℕ) → o ≤ length text → ((k : ℕ) → k ≢ o → inlays_at new k ≡ inlays_at old k)
    → LayerLeads None (inlay_source text old) (inlay_source text new) (Some (inlay_shift (inlay_source text old) (inlay_source text new) o))
inlay-leads text old new o within same =
    let xs = take o text in
    let rest = drop o text in
    let front : length xs ≡ o = omega (arith, length-take o text) in
    let back : length (xs ++ []) ≡ o = ap (λ l. length l) (append-nil xs) ∙ front in
    let is : (xs ++ []) ++ rest ≡ text = ap (λ l. l ++ rest) (append-nil xs) ∙ take-append-drop o text in
    let none : o + 0 ≡ o = omega arith in
    let behind : shown_behind new (o + 0) rest ≡ map (token_after None) (shown_behind old o rest) =
    behind-moved (token_after None) o o 0 rest old new (omega arith) (λ c. ap (λ k. Byte k c) none)
    (λ k lt. let stays : k + 0 - (o - o) ≡ k = omega arith in ap (inlays_at new) stays ∙ same k (λ e. omega (arith, e, lt)) ∙ still (inlays_at old k))
    (λ k c lt. let stays : k + 0 - (o - o) ≡ k = omega arith in ap (λ j. Byte j c) stays) in
    subst (LeadsHere (token_after None) old new)
    (λ i. (is i, is i, front i, back i, back i))
    (parts-lead xs [] [] rest old new (token_after None) places-still (λ k lt. same k (λ e. omega (arith, e, lt, front)))
    ((λ i. shown_behind new ((back ∙ sym none) i) rest) ∙ behind ∙ (λ i. map (token_after None) (shown_behind old (sym back i) rest))))
