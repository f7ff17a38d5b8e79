-- Where two quiet characters are side by side, a text may be cut into clusters in two parts.
use Rattle.std.proofs.Common.{◌≡◌, inl, inr, ℕ, ◌+◌, ◌-◌, ◌<◌, ◌≤◌, length, length-append, slice_range, take-add, take_at, take, drop, append_assoc, Bool, true, false, not, ◌&&◌, ◌||◌, List, [], ◌∷◌, ◌++◌, map, unwrap_or, Some, encode_utf8_all, append-nil, take-append-drop, take_all, refl, arith, ap, ap₂, sym, subst, ◌∙◌}
use Rattle.std.specs.Char.{IsScalar, encode_utf8, len_utf8}
use Rattle.std.specs.Str.{chars, IsUtf8, IsCharBoundary}
use Rattle.std.proofs.lemmas.Bool.{and_right}
use Rattle.std.proofs.lemmas.List.{map-append, drop_all, length-drop}
use Rattle.std.proofs.lemmas.Str.{chars-nil, chars-append, IsUtf8-append, IsUtf8-encode, IsUtf8-nil, IsUtf8-past_char, IsUtf8-take, drop_past_char, len_utf8_bounds, length-encode, IsCharBoundary-at_seam, IsCharBoundary-end, IsCharBoundary-from_drop}
use Rattle.ucd_breaks.specs.GraphemeClusterBreak.{grapheme_cluster_break}
use Rattle.ucd_breaks.specs.declared.GraphemeClusterBreak.{GraphemeClusterBreak}
use Rattle.ucd_breaks.specs.declared.GraphemeClusterBreak.TheVariants.{Control, Other}
use Rattle.ucd_derived.specs.IndicConjunctBreak.{indic_conjunct_break}
use Rattle.ucd_derived.specs.declared.IndicConjunctBreak.{IndicConjunctBreak}
use Rattle.ucd_derived.specs.declared.IndicConjunctBreak.TheVariants as InCb
use Rattle.ucd_emoji.specs.Binary.{is_extended_pictographic}
use Rattle.unicode_segmentation.specs.Segments.{Rule, cut, segments}
use Rattle.unicode_segmentation.specs.Grapheme.{break_by_pair, ends_in_linker, is_consonant, joins_conjunct, is_extend, is_zwj, is_regional, ends_in_pictograph, joins_emoji, ends_in_half_flag, joins_flag, is_grapheme_break, graphemes}
use Rattle.unicode_segmentation.proofs.GraphemeLemmas.{is_grapheme_break-inside, joins_emoji-not_zwj}
use Rattle.unicode_segmentation.proofs.SegmentsLemmas.{attach}
use Rattle.unicode_segmentation.proofs.TextLemmas.{chars-encode_utf8, IsUtf8-after}
use Rattle.cell_line.specs.inside.Quiet.{is_alone, EndsAlone, IsSeam, StartsAlone}
use Rattle.cell_line.proofs.Quiet.{IsQuiet, alone_is_quiet}

-- ---- the rule of clusters at a quiet character

control_left : (v : GraphemeClusterBreak) → break_by_pair true Control v ≡ Some true
control_left v = refl

between : (a b : ℕ) (before after : List ℕ) → GraphemeClusterBreak → GraphemeClusterBreak → Bool
between a b before after l r =
    unwrap_or (break_by_pair true l r)
    (not ((true && joins_conjunct (a ∷ before) b) || joins_emoji (a ∷ before) b || joins_flag (a ∷ before) b))

others_part : (a b : ℕ) (before after : List ℕ) → IsQuiet b → grapheme_cluster_break a ≡ Other → grapheme_cluster_break b ≡ Other →
    is_grapheme_break true (a ∷ before) (b ∷ after) ≡ true
others_part a b before after q left right =
    let conjunct : joins_conjunct (a ∷ before) b ≡ false = and_right (ends_in_linker (map indic_conjunct_break (a ∷ before))) _ (ap is_consonant q.conjunct) in
    let emoji : joins_emoji (a ∷ before) b ≡ false = joins_emoji-not_zwj (a ∷ before) b (ap is_zwj left) in
    let flag : joins_flag (a ∷ before) b ≡ false = and_right (ends_in_half_flag (a ∷ before)) _ (ap is_regional right) in
    let rest = not ((true && joins_conjunct (a ∷ before) b) || joins_emoji (a ∷ before) b || joins_flag (a ∷ before) b) in
    is_grapheme_break-inside true (a ∷ before) b after (omega arith)
    ∙ ap₂ (λ l r. unwrap_or (break_by_pair true l r) rest) left right
    ∙ ap not (ap₂ ◌||◌ (ap₂ ◌||◌ conjunct emoji) flag)

-- two of them part
quiet_part : (a b : ℕ) (before after : List ℕ) → IsQuiet a → IsQuiet b → is_grapheme_break true (a ∷ before) (b ∷ after) ≡ true
unfolding is_grapheme_break between
quiet_part a b before after p q =
    let F : GraphemeClusterBreak → GraphemeClusterBreak → Bool = between a b before after in
    elim p.apart [
      | inl other ↦ elim q.apart [
        | inl also ↦ others_part a b before after q other also
        | inr control ↦ ap₂ F other control
      ]
      | inr control ↦ ap (λ l. F l (grapheme_cluster_break b)) control ∙ ap (λ o. unwrap_or o
          (not ((true && joins_conjunct (a ∷ before) b) || joins_emoji (a ∷ before) b || joins_flag (a ∷ before) b))) (control_left (grapheme_cluster_break b))
    ]

linker_more : (v : IndicConjunctBreak) (xs ys : List IndicConjunctBreak) → ends_in_linker xs ≡ ends_in_linker ys →
    ends_in_linker (v ∷ xs) ≡ ends_in_linker (v ∷ ys)
unfolding ends_in_linker
linker_more InCb.Linker xs ys h = refl
linker_more InCb.Extend xs ys h = h
linker_more InCb.Consonant xs ys h = refl
linker_more InCb.None xs ys h = refl

linker_none : (xs : List IndicConjunctBreak) → ends_in_linker (InCb.None ∷ xs) ≡ ends_in_linker []
unfolding ends_in_linker
linker_none xs = refl

linker_wall : (zs : List ℕ) (a : ℕ) (before : List ℕ) → IsQuiet a →
    ends_in_linker (map indic_conjunct_break (zs ++ a ∷ before)) ≡ ends_in_linker (map indic_conjunct_break zs)
linker_wall [] a before q =
    ap (λ v. ends_in_linker (v ∷ map indic_conjunct_break before)) q.conjunct ∙ linker_none (map indic_conjunct_break before)
linker_wall (z ∷ zs) a before q = linker_more (indic_conjunct_break z) _ _ (linker_wall zs a before q)

not_extend : (a : ℕ) → IsQuiet a → is_extend (grapheme_cluster_break a) ≡ false
not_extend a q = elim q.apart [ inl e ↦ ap is_extend e | inr e ↦ ap is_extend e ]

not_regional : (a : ℕ) → IsQuiet a → is_regional (grapheme_cluster_break a) ≡ false
not_regional a q = elim q.apart [ inl e ↦ ap is_regional e | inr e ↦ ap is_regional e ]

pictograph_wall : (zs : List ℕ) (a : ℕ) (before : List ℕ) → IsQuiet a →
    ends_in_pictograph (zs ++ a ∷ before) ≡ ends_in_pictograph zs
unfolding ends_in_pictograph
pictograph_wall [] a before q = ap₂ (λ p e. p || (e && ends_in_pictograph before)) q.pictograph (not_extend a q)
pictograph_wall (z ∷ zs) a before q =
    ap (λ t. is_extended_pictographic z || (is_extend (grapheme_cluster_break z) && t)) (pictograph_wall zs a before q)

flag_wall : (zs : List ℕ) (a : ℕ) (before : List ℕ) → IsQuiet a → ends_in_half_flag (zs ++ a ∷ before) ≡ ends_in_half_flag zs
unfolding ends_in_half_flag
flag_wall [] a before q = ap (λ r. r && not (ends_in_half_flag before)) (not_regional a q)
flag_wall (z ∷ zs) a before q = ap (λ t. is_regional (grapheme_cluster_break z) && not t) (flag_wall zs a before q)

-- what is before one of them is not looked at
wall : (z : ℕ) (zs : List ℕ) (a : ℕ) (before after : List ℕ) → IsQuiet a →
    is_grapheme_break true (z ∷ (zs ++ a ∷ before)) after ≡ is_grapheme_break true (z ∷ zs) after
unfolding is_grapheme_break
wall z zs a before [] q = refl
wall z zs a before (n ∷ after) q =
    let F : Bool → Bool → Bool → Bool = λ l p f. unwrap_or (break_by_pair true (grapheme_cluster_break z) (grapheme_cluster_break n))
    (not ((true && (l && is_consonant (indic_conjunct_break n)))
    || (is_zwj (grapheme_cluster_break z) && p && is_extended_pictographic n)
    || (f && is_regional (grapheme_cluster_break n)))) in
    let l0 = ends_in_linker (map indic_conjunct_break (z ∷ (zs ++ a ∷ before))) in
    let f0 = ends_in_half_flag (z ∷ (zs ++ a ∷ before)) in
    ap (λ p. F l0 p f0) (pictograph_wall zs a before q)
    ∙ ap₂ (λ l f. F l (ends_in_pictograph zs) f) (linker_wall (z ∷ zs) a before q) (flag_wall (z ∷ zs) a before q)

-- of what follows a place, the rule reads one character
one_ahead : (before : List ℕ) (c : ℕ) (xs ys : List ℕ) → is_grapheme_break true before (c ∷ xs) ≡ is_grapheme_break true before (c ∷ ys)
unfolding is_grapheme_break
one_ahead [] c xs ys = refl
one_ahead (z ∷ zs) c xs ys = refl

-- ---- the cut

cut_behind : (zs cs : List ℕ) (a : ℕ) (before after : List ℕ) → IsQuiet a →
    cut (is_grapheme_break true) (zs ++ a ∷ before) cs after ≡ cut (is_grapheme_break true) zs cs after
unfolding cut
cut_behind zs [] a before after q = refl
cut_behind zs (c ∷ cs) a before after q =
    ap₂ (λ b ps. attach b (c ∷ []) ps) (wall c zs a before (cs ++ after) q) (cut_behind (c ∷ zs) cs a before after q)

attach_some : (b : Bool) (x : List ℕ) (ps : List (List ℕ)) → (p : List ℕ) × (qs : List (List ℕ)) × (attach b x ps ≡ p ∷ qs)
attach_some true x ps = (x, ps, refl)
attach_some false x [] = (x, [], refl)
attach_some false x (p ∷ ps) = (x ++ p, ps, refl)

attach-append : (b : Bool) (x p : List ℕ) (ps qs : List (List ℕ)) → attach b x ((p ∷ ps) ++ qs) ≡ attach b x (p ∷ ps) ++ qs
attach-append true x p ps qs = refl
attach-append false x p ps qs = refl

attach_past : (b : Bool) (x : List ℕ) (ps qs : List (List ℕ)) → (p : List ℕ) × (rs : List (List ℕ)) × (ps ≡ p ∷ rs) →
    attach b x (ps ++ qs) ≡ attach b x ps ++ qs
attach_past b x ps qs some =
    ap (λ t. attach b x (t ++ qs)) some.2 ∙ attach-append b x some.0 some.1 qs ∙ ap (λ t. attach b x t ++ qs) (sym some.2)

cut_some : (rule : Rule) (before us : List ℕ) (a : ℕ) → (p : List ℕ) × (qs : List (List ℕ)) × (cut rule before (us ++ a ∷ []) [] ≡ p ∷ qs)
unfolding cut
cut_some rule before [] a = attach_some (rule (a ∷ before) []) (a ∷ []) []
cut_some rule before (u ∷ us) a = attach_some (rule (u ∷ before) ((us ++ a ∷ []) ++ [])) (u ∷ []) (cut rule (u ∷ before) (us ++ a ∷ []) [])

same_ahead : (before us : List ℕ) (a b : ℕ) (ys : List ℕ) →
    is_grapheme_break true before ((us ++ a ∷ b ∷ ys) ++ []) ≡ is_grapheme_break true before ((us ++ a ∷ []) ++ [])
same_ahead before [] a b ys = one_ahead before a _ _
same_ahead before (u ∷ us) a b ys = one_ahead before u _ _

cut_seam : (before us : List ℕ) (a b : ℕ) (ys : List ℕ) → IsQuiet a → IsQuiet b →
    cut (is_grapheme_break true) before (us ++ a ∷ b ∷ ys) []
    ≡ cut (is_grapheme_break true) before (us ++ a ∷ []) [] ++ cut (is_grapheme_break true) [] (b ∷ ys) []
unfolding cut is_grapheme_break
cut_seam before [] a b ys p q =
    ap₂ (λ t ps. attach t (a ∷ []) ps) (quiet_part a b before (ys ++ []) p q) (cut_behind [] (b ∷ ys) a before [] p)
cut_seam before (u ∷ us) a b ys p q =
    let rest = cut (is_grapheme_break true) (u ∷ before) (us ++ a ∷ []) [] in
    let right = cut (is_grapheme_break true) [] (b ∷ ys) [] in
    ap₂ (λ t ps. attach t (u ∷ []) ps) (same_ahead (u ∷ before) us a b ys) (cut_seam (u ∷ before) us a b ys p q)
    ∙ attach_past (is_grapheme_break true (u ∷ before) ((us ++ a ∷ []) ++ [])) (u ∷ []) rest right (cut_some (is_grapheme_break true) (u ∷ before) us a)

-- ---- texts

chars-cons : (c : ℕ) (rest : List ℕ) → IsScalar c → chars (encode_utf8 c ++ rest) ≡ c ∷ chars rest
chars-cons c rest h =
    let utf8 = IsUtf8-encode c h in
    chars-append (encode_utf8 c) rest utf8 ∙ ap (λ t. t ++ chars rest) (chars-encode_utf8 c utf8)

chars-end : (p : List ℕ) (c : ℕ) → IsUtf8 p → IsScalar c → chars (p ++ encode_utf8 c) ≡ chars p ++ c ∷ []
chars-end p c u h = chars-append p (encode_utf8 c) u ∙ ap (λ t. chars p ++ t) (chars-encode_utf8 c (IsUtf8-encode c h))

-- between two quiet characters the clusters of a text part
graphemes_seam : (p q : List ℕ) (a b : ℕ) → IsUtf8 p → IsQuiet a → IsQuiet b →
    graphemes true (p ++ (encode_utf8 a ++ (encode_utf8 b ++ q))) ≡ graphemes true (p ++ encode_utf8 a) ++ graphemes true (encode_utf8 b ++ q)
unfolding segments
graphemes_seam p q a b u x y =
    let whole : chars (p ++ (encode_utf8 a ++ (encode_utf8 b ++ q))) ≡ chars p ++ a ∷ b ∷ chars q =
    chars-append p (encode_utf8 a ++ (encode_utf8 b ++ q)) u
    ∙ ap (λ t. chars p ++ t) (chars-cons a (encode_utf8 b ++ q) x.scalar ∙ ap (λ t. a ∷ t) (chars-cons b q y.scalar)) in
    ap (λ cs. map encode_utf8_all (cut (is_grapheme_break true) [] cs [])) whole
    ∙ ap (map encode_utf8_all) (cut_seam [] (chars p) a b (chars q) x y)
    ∙ map-append encode_utf8_all _ _
    ∙ ap₂ (λ xs ys. map encode_utf8_all (cut (is_grapheme_break true) [] xs []) ++ map encode_utf8_all (cut (is_grapheme_break true) [] ys []))
    (sym (chars-end p a u x.scalar)) (sym (chars-cons b q y.scalar))

-- a character by itself is one cluster
graphemes_one : (c : ℕ) → IsScalar c → graphemes true (encode_utf8 c) ≡ encode_utf8 c ∷ []
unfolding segments cut is_grapheme_break
graphemes_one c h =
    ap (λ cs. map encode_utf8_all (cut (is_grapheme_break true) [] cs [])) (chars-encode_utf8 c (IsUtf8-encode c h))
    ∙ ap (λ t. t ∷ []) (append-nil (encode_utf8 c))

pub graphemes_none : graphemes true [] ≡ []
unfolding segments cut
graphemes_none = ap (λ cs. map encode_utf8_all (cut (is_grapheme_break true) [] cs [])) chars-nil

-- the character with which a text begins is one cluster, where the next one is its like
pub graphemes_start : (text : List ℕ) (c : ℕ) (rest : List ℕ) → StartsAlone text c rest → graphemes true text ≡ encode_utf8 c ∷ graphemes true rest
graphemes_start text c rest s =
    let quiet = alone_is_quiet c s.alone in
    ap (graphemes true) s.text_is
    ∙ elim s.next [
      | inl none ↦
          ap (λ t. graphemes true (encode_utf8 c ++ t)) none ∙ ap (graphemes true) (append-nil (encode_utf8 c)) ∙ graphemes_one c quiet.scalar
          ∙ ap (λ gs. encode_utf8 c ∷ gs) (sym (ap (graphemes true) none ∙ graphemes_none))
      | inr next ↦
          ap (λ t. graphemes true (encode_utf8 c ++ t)) next.2
          ∙ graphemes_seam [] next.1 c next.0 IsUtf8-nil quiet (alone_is_quiet next.0 next.3)
          ∙ ap₂ (λ l r. l ++ r) (graphemes_one c quiet.scalar) (ap (graphemes true) (sym next.2))
    ]

-- ---- places in a text

pub seam_boundary : (text : List ℕ) (at : ℕ) → IsUtf8 text → IsSeam text at → IsCharBoundary text at
seam_boundary text at u s =
    elim s.apart [
      | inl end ↦ rw end (IsCharBoundary-end text)
      | inr inside ↦
          let left = inside.0 in
          let front : IsUtf8 (take at text) =
          subst IsUtf8 (sym left.3) (IsUtf8-append left.0 (encode_utf8 left.1) left.2 (IsUtf8-encode left.1 (alone_is_quiet left.1 left.4).scalar)) in
          IsCharBoundary-from_drop text at s.within (IsUtf8-after text (take at text) (drop at text) u front (sym (take-append-drop at text)))
    ]

taken_apart : (text : List ℕ) (at : ℕ) → IsSeam text at → graphemes true text ≡ graphemes true (take at text) ++ graphemes true (drop at text)
taken_apart text at s =
    elim s.apart [
      | inl end ↦
          let whole : take at text ≡ text = ap (λ n. take n text) end ∙ take_all (length text) text (omega arith) in
          let none : drop at text ≡ [] = drop_all at text (omega (arith, end)) in
          sym (append-nil (graphemes true text))
          ∙ ap₂ (λ l r. l ++ r) (ap (graphemes true) (sym whole)) (sym (ap (graphemes true) none ∙ graphemes_none))
      | inr inside ↦
          let left = inside.0 in
          let right = inside.1 in
          ap (graphemes true) (sym (take-append-drop at text) ∙ ap₂ (λ l r. l ++ r) left.3 right.2 ∙ append_assoc left.0 (encode_utf8 left.1) (encode_utf8 right.0 ++ right.1))
          ∙ graphemes_seam left.0 right.1 left.1 right.0 left.2 (alone_is_quiet left.1 left.4) (alone_is_quiet right.0 right.3)
          ∙ ap₂ (λ l r. graphemes true l ++ graphemes true r) (sym left.3) (sym right.2)
    ]

from_start : (text : List ℕ) (at : ℕ) → slice_range text 0 at ≡ take at text
from_start text at = let e : at - 0 ≡ at = omega arith in ap (λ n. take n text) e

pub graphemes_at_seam : (text : List ℕ) (at : ℕ) → IsSeam text at → graphemes true text ≡ graphemes true (slice_range text 0 at) ++ graphemes true (drop at text)
graphemes_at_seam text at s = taken_apart text at s ∙ ap (λ t. graphemes true t ++ graphemes true (drop at text)) (sym (from_start text at))

-- the character with which a text begins
pub start_boundary : (text : List ℕ) (c : ℕ) (rest : List ℕ) → StartsAlone text c rest → IsCharBoundary text (length (encode_utf8 c))
start_boundary text c rest s = IsCharBoundary-at_seam text (encode_utf8 c) rest s.text_is s.utf8

pub start_slice : (text : List ℕ) (c : ℕ) (rest : List ℕ) (n : ℕ) → StartsAlone text c rest → n ≡ length (encode_utf8 c) → slice_range text 0 n ≡ encode_utf8 c
start_slice text c rest n s size = from_start text n ∙ ap (take n) s.text_is ∙ take_at (encode_utf8 c) rest n (sym size)

-- ---- a walk over the characters

-- the walk is at the place, and has this left; the character before may part the clusters
pub record IsSearched (text rest : List ℕ) (at : ℕ) (parts : Bool) : Type 0 where
  pub within : at ≤ length text
  pub left : rest ≡ drop at text
  pub utf8 : IsUtf8 rest
  pub before : parts ≡ true → (0 < at) × EndsAlone (take at text)

pub searched_start : (text : List ℕ) → IsUtf8 text → IsSearched text text 0 false
searched_start text utf8 = record { within = omega arith; left = refl; utf8 = utf8; before = λ h. absurd (cc) }

pub searched_more : (text rest rest' : List ℕ) (at c : ℕ) (parts : Bool) → IsUtf8 text → IsSearched text rest at parts → rest ≡ encode_utf8 c ++ rest' →
    IsSearched text rest' (at + len_utf8 c) (is_alone c)
searched_more text rest rest' at c parts utf8 s is =
    let n = len_utf8 c in
    let here : drop at text ≡ encode_utf8 c ++ rest' = sym s.left ∙ is in
    let size : length (drop at text) ≡ n + length rest' =
    ap length here ∙ length-append (encode_utf8 c) rest' ∙ ap (λ k. k + length rest') (length-encode c) in
    let one : take (at + n) text ≡ take at text ++ encode_utf8 c =
    take-add at n text ∙ ap (λ t. take at text ++ t) (ap (take n) here ∙ take_at (encode_utf8 c) rest' n (length-encode c)) in
    let front : IsUtf8 (take at text) = IsUtf8-take text at utf8 (IsCharBoundary-from_drop text at s.within (subst IsUtf8 s.left s.utf8)) in
    record {
      within = let h = s.within in omega (arith, size, length-drop at text);
      left = sym (drop_past_char text rest' at c here);
      utf8 = IsUtf8-past_char rest rest' c s.utf8 is;
      before = λ h. (let b = (len_utf8_bounds c).0 in omega arith, (take at text, c, front, one, h));
    }

pub searched_seam : (text rest rest' : List ℕ) (at c : ℕ) → IsSearched text rest at true → rest ≡ encode_utf8 c ++ rest' → is_alone c ≡ true → IsSeam text at
searched_seam text rest rest' at c s is alone =
    let left = s.before refl in
    record { past = left.0; within = s.within; apart = inr (left.1, (c, rest', sym s.left ∙ is, alone)) }
