-- Places in a list of clusters: which are inside one, and that the others are ends of characters.
use Rattle.std.proofs.Common.{◌≡◌, ℕ, ◌+◌, ◌-◌, ◌<◌, ◌≤◌, eqb, ltb, Bool, true, false, cond, not, ◌&&◌, ◌||◌, List, [], ◌∷◌, ◌++◌, length, map, take, encode_utf8, encode_utf8_all, refl, sym, ap, ◌∙◌, subst, length-append, inl, inr, ◌⊎◌, arith}
use Rattle.std.specs.List.{concat}
use Rattle.std.specs.Str.{IsUtf8, all_scalars, chars}
use Rattle.std.proofs.lemmas.Bool.{and_from, and_parts, cases_lt}
use Rattle.std.proofs.lemmas.Bool.Decides.{nat_tests}
use Rattle.std.proofs.lemmas.List.{take_at}
use Rattle.std.proofs.lemmas.List.Folds.{concat-append}
use Rattle.std.proofs.lemmas.Str.{IsUtf8-append, IsUtf8-nil, encodes-append, encodes-chars, length-encode, len_utf8_bounds, scalars-chars}
use Rattle.unicode_segmentation.specs.Segments.{Rule, cut, prepend, segments}
use Rattle.unicode_segmentation.specs.Grapheme.{graphemes, is_grapheme_break}
use Rattle.cell_line.specs.Elements.{cells_of, placed}
use Rattle.plain_rows.specs.Spots.{is_within}
use Rattle.spot_laws.proofs.ElementSides.{HaveBytes}

-- a place is inside a cluster
abbrev pub is_inside : List (List ℕ) → ℕ → Bool
is_inside [] a = false
is_inside (c ∷ cs) a = not (eqb a 0) && (ltb a (length c) || is_inside cs (a - length c))

pub is_within-placed : (tab column : ℕ) (cs : List (List ℕ)) (a : ℕ) → is_within (placed tab column cs) a ≡ is_inside cs a
is_within-placed tab column [] a = refl
is_within-placed tab column (c ∷ cs) a =
    ap (λ (b : Bool). not (eqb a 0) && (ltb a (length c) || b)) (is_within-placed tab (column + cells_of tab column c) cs (a - length c))

inside-zero : (cs : List (List ℕ)) → is_inside cs 0 ≡ false
inside-zero [] = refl
inside-zero (c ∷ cs) = refl

past_cluster : (c : List ℕ) (cs : List (List ℕ)) (a : ℕ) → is_inside (c ∷ cs) (length c + a) ≡ is_inside cs a
past_cluster c cs a = go (cases_lt 0 a) where
  at : length c + a - length c ≡ a
  at = omega arith

  go : (0 < a) ⊎ (a ≤ 0) → is_inside (c ∷ cs) (length c + a) ≡ is_inside cs a
  go (inl l) =
      let some : eqb (length c + a) 0 ≡ false = grind (arith, nat_tests, l) in
      let past : ltb (length c + a) (length c) ≡ false = grind (arith, nat_tests) in
      ap (λ (b : Bool). not b && (ltb (length c + a) (length c) || is_inside cs (length c + a - length c))) some
      ∙ ap (λ (b : Bool). b || is_inside cs (length c + a - length c)) past
      ∙ ap (is_inside cs) at
  go (inr l) =
      let none : a ≡ 0 = omega (arith, l) in
      let past : ltb (length c + a) (length c) ≡ false = grind (arith, nat_tests) in
      ap (λ (b : Bool). not (eqb (length c + a) 0) && (b || is_inside cs (length c + a - length c))) past
      ∙ ap (λ (k : ℕ). not (eqb (length c + a) 0) && is_inside cs k) (at ∙ none)
      ∙ both_false (not (eqb (length c + a) 0)) (is_inside cs 0) (inside-zero cs)
      ∙ sym (ap (is_inside cs) none ∙ inside-zero cs) where
        both_false : (x y : Bool) → y ≡ false → (x && y) ≡ false
        both_false true y e = e
        both_false false y e = refl

-- after some clusters, the others decide
pub inside-behind : (cs ds : List (List ℕ)) (a : ℕ) → is_inside (cs ++ ds) (length (concat cs) + a) ≡ is_inside ds a
inside-behind [] ds a = let e : 0 + a ≡ a = omega arith in ap (is_inside ds) e
inside-behind (c ∷ cs) ds a =
    let sum : length (concat (c ∷ cs)) + a ≡ length c + (length (concat cs) + a) = omega (arith, length-append c (concat cs)) in
    ap (is_inside (c ∷ (cs ++ ds))) sum
    ∙ past_cluster c (cs ++ ds) (length (concat cs) + a)
    ∙ inside-behind cs ds a

-- between clusters
pub inside-between : (cs ds : List (List ℕ)) → is_inside (cs ++ ds) (length (concat cs)) ≡ false
inside-between cs ds =
    let e : length (concat cs) ≡ length (concat cs) + 0 = omega arith in
    ap (is_inside (cs ++ ds)) e ∙ inside-behind cs ds 0 ∙ inside-zero ds

-- up to the end of some clusters, these decide
pub inside-before : (cs ds : List (List ℕ)) (a : ℕ) → a ≤ length (concat cs) → is_inside (cs ++ ds) a ≡ is_inside cs a
inside-before [] ds a h = let e : a ≡ 0 = omega (arith, h) in ap (is_inside ds) e ∙ inside-zero ds
inside-before (c ∷ cs) ds a h =
    ap (λ (b : Bool). not (eqb a 0) && (ltb a (length c) || b)) (inside-before cs ds (a - length c) (omega (arith, h, length-append c (concat cs))))

record Seam (cs : List (List ℕ)) (a : ℕ) : Type 0 where
  before : List (List ℕ)
  after : List (List ℕ)
  is : cs ≡ before ++ after
  at : length (concat before) ≡ a

-- a place that is inside no cluster is between two
seam : (cs : List (List ℕ)) (a : ℕ) → is_inside cs a ≡ false → a ≤ length (concat cs) → Seam cs a
seam [] a h le = record { before = []; after = []; is = refl; at = omega (arith, le) }
seam (c ∷ cs) a h le = go (cases_lt 0 a) (cases_lt a (length c)) (seam cs (a - length c)) where
  go : (0 < a) ⊎ (a ≤ 0) → (a < length c) ⊎ (length c ≤ a) → (is_inside cs (a - length c) ≡ false → a - length c ≤ length (concat cs) → Seam cs (a - length c)) → Seam (c ∷ cs) a
  go (inr z) x ih = record { before = []; after = c ∷ cs; is = refl; at = omega (arith, z) }
  go (inl l) (inl x) ih = absurd (inner (is_inside cs (a - length c)) h) where
    inner : (w : Bool) → (not (eqb a 0) && (ltb a (length c) || w)) ≡ false → ⊥
    inner w h = grind (arith, nat_tests, h, l, x)
  go (inl l) (inr x) ih =
      let s = ih (inner (is_inside cs (a - length c)) h) (omega (arith, le, length-append c (concat cs))) in
      record { before = c ∷ s.before; after = s.after; is = ap (λ (l : List (List ℕ)). c ∷ l) s.is; at = omega (arith, s.at, x, length-append c (concat s.before)) } where
        inner : (w : Bool) → (not (eqb a 0) && (ltb a (length c) || w)) ≡ false → w ≡ false
        inner true h = grind (arith, nat_tests, h, l, x)
        inner false h = refl

-- ---- the clusters of a text

-- each of them is a text, and none is empty
abbrev pub AreTexts : List (List ℕ) → Type 0
AreTexts [] = Unit {0}
AreTexts (c ∷ cs) = IsUtf8 c × (0 < length c) × AreTexts cs

pub concat-texts : (cs ds : List (List ℕ)) → AreTexts (cs ++ ds) → IsUtf8 (concat cs)
concat-texts [] ds h = IsUtf8-nil
concat-texts (c ∷ cs) ds h = IsUtf8-append c (concat cs) h.0 (concat-texts cs ds h.2)

pub texts-append : (cs ds : List (List ℕ)) → AreTexts cs → AreTexts ds → AreTexts (cs ++ ds)
texts-append [] ds h k = k
texts-append (c ∷ cs) ds h k = (h.0, h.1, texts-append cs ds h.2 k)

abbrev AreGroups : List (List ℕ) → Type 0
AreGroups [] = Unit {0}
AreGroups (g ∷ gs) = (all_scalars g ≡ true) × (0 < length g) × AreGroups gs

with_char : (c : ℕ) (b : Bool) (gs : List (List ℕ)) → all_scalars (c ∷ []) ≡ true → AreGroups gs → AreGroups (cond b ((c ∷ []) ∷ gs) (prepend (c ∷ []) gs))
with_char c true gs h k = (h, omega arith, k)
with_char c false [] h k = (h, omega arith, tt)
with_char c false (g ∷ gs) h k = (and_from _ (all_scalars g) (and_parts _ true h).0 k.0, omega arith, k.2)

groups : (rule : Rule) (before cs after : List ℕ) → all_scalars cs ≡ true → AreGroups (cut rule before cs after)
unfolding cut
groups rule before [] after h = tt
groups rule before (c ∷ cs) after h =
    let parts = and_parts _ (all_scalars cs) h in
    with_char c (rule (c ∷ before) (cs ++ after)) (cut rule (c ∷ before) cs after) (and_from _ true parts.0 refl) (groups rule (c ∷ before) cs after parts.1)

groups-concat : (rule : Rule) (before cs after : List ℕ) → concat (cut rule before cs after) ≡ cs
unfolding cut
groups-concat rule before [] after = refl
groups-concat rule before (c ∷ cs) after = go (rule (c ∷ before) (cs ++ after)) (cut rule (c ∷ before) cs after) (groups-concat rule (c ∷ before) cs after) where
  go : (b : Bool) (gs : List (List ℕ)) → concat gs ≡ cs → concat (cond b ((c ∷ []) ∷ gs) (prepend (c ∷ []) gs)) ≡ c ∷ cs
  go true gs e = ap (λ (l : List ℕ). c ∷ l) e
  go false [] e = ap (λ (l : List ℕ). c ∷ l) e
  go false (g ∷ gs) e = ap (λ (l : List ℕ). c ∷ l) e

encoded_groups : (gs : List (List ℕ)) → AreGroups gs → AreTexts (map encode_utf8_all gs)
encoded_groups [] h = tt
encoded_groups ([] ∷ gs) h = absurd (omega (arith, h.1))
encoded_groups ((c ∷ g) ∷ gs) h =
    ((c ∷ g, (h.0, refl)), omega (arith, length-append (encode_utf8 c) (encode_utf8_all g), length-encode c, (len_utf8_bounds c).0), encoded_groups gs h.2)

encoded_concat : (gs : List (List ℕ)) → concat (map encode_utf8_all gs) ≡ encode_utf8_all (concat gs)
encoded_concat [] = refl
encoded_concat (g ∷ gs) = ap (λ (l : List ℕ). encode_utf8_all g ++ l) (encoded_concat gs) ∙ sym (encodes-append g (concat gs))

pub graphemes-texts : (p : List ℕ) → IsUtf8 p → AreTexts (graphemes true p)
unfolding segments
graphemes-texts p u = encoded_groups (cut (is_grapheme_break true) [] (chars p) []) (groups (is_grapheme_break true) [] (chars p) [] (scalars-chars p u))

pub graphemes-concat : (p : List ℕ) → IsUtf8 p → concat (graphemes true p) ≡ p
unfolding segments
graphemes-concat p u =
    encoded_concat (cut (is_grapheme_break true) [] (chars p) [])
    ∙ ap encode_utf8_all (groups-concat (is_grapheme_break true) [] (chars p) [])
    ∙ encodes-chars p u

-- a place of a text that is inside none of its clusters is the end of a character
pub apart-utf8 : (p : List ℕ) (a : ℕ) → IsUtf8 p → a ≤ length p → is_inside (graphemes true p) a ≡ false → IsUtf8 (take a p)
apart-utf8 p a u le h =
    let whole = graphemes-concat p u in
    let s = seam (graphemes true p) a h (omega (arith, le, ap length whole)) in
    let parts : p ≡ concat s.before ++ concat s.after = sym whole ∙ ap concat s.is ∙ concat-append s.before s.after in
    subst IsUtf8 (sym (ap (take a) parts ∙ take_at (concat s.before) (concat s.after) a s.at))
    (concat-texts s.before s.after (subst AreTexts s.is (graphemes-texts p u)))

pub placed-bytes : (tab column : ℕ) (cs : List (List ℕ)) → AreTexts cs → HaveBytes (placed tab column cs)
placed-bytes tab column [] h = tt
placed-bytes tab column (c ∷ cs) h = (h.1, placed-bytes tab (column + cells_of tab column c) cs h.2)
