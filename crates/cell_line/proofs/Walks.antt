-- The elements of a line, one after another.
use Rattle.std.proofs.Common.{◌≡◌, ◌⊎◌, inl, inr, ℕ, ◌+◌, ◌-◌, ◌^◌, ◌<◌, ◌≤◌, Bool, true, false, not, ◌||◌, cond, zero, suc, nat_eq, nat_le, nat_lt, is_some, Option, Some, None, List, [], ◌∷◌, ◌++◌, length, take, drop, get_or, slice_index, slice_range, append_assoc, refl, ap, ap₂, sym, subst, subst₂, ◌∙◌, arith}
use Rattle.std.specs.Int.{is_in_range}
use Rattle.std.specs.List.{concat}
use Rattle.std.specs.Str.{chars, IsCharBoundary, IsUtf8}
use Rattle.std.proofs.lemmas.Bool.{and_parts, cases_eq, cases_lt, eq-eqb, ne_eqb}
use Rattle.std.proofs.lemmas.Bool.Decides.{nat_tests}
use Rattle.std.proofs.lemmas.List.{drop_all, drop_more, length-drop, nil_from_length}
use Rattle.std.proofs.lemmas.List.Sums.{prefix_len-le-length}
use Rattle.std.proofs.lemmas.Str.{encode_ascii, IsCharBoundary-before_ascii, IsCharBoundary-start, IsUtf8-encode, IsUtf8-past_char}
use Rattle.std.specs.Char.{encode_utf8}
use Rattle.unicode_segmentation.specs.Grapheme.{graphemes, is_grapheme_break}
use Rattle.unicode_segmentation.specs.declared.grapheme.Graphemes.{Graphemes}
use Rattle.unicode_segmentation.proofs.SegmentsLemmas.{concat-segments}
use Rattle.unicode_width.specs.Width.{str_width}
use Rattle.unicode_segmentation.proofs.TextLemmas.{chars-encode_utf8}
use Rattle.cell_units.specs.declared.piece.Piece.{Piece}
use Rattle.cell_line.specs.declared.element.Element.{Element}
use Rattle.cell_line.specs.Elements.{cells_of, clusters, is_tab, placed, tab_cells_of, total_cells}
use Rattle.cell_line.specs.declared.mark.Lead.{Lead}
use Rattle.cell_line.specs.declared.mark.Mark.{Mark}
use Rattle.cell_line.specs.Wrapping.{element_at, is_blank, lead_of, nothing}
use Rattle.cell_line.specs.inside.Filling.{IsMarkAt}
use Rattle.cell_line.specs.inside.Marks.{element_of, letter, mark_of, AreLetters, IsLead, IsMarked}
use Rattle.cell_line.specs.inside.Parts.{clusters_in}
use Rattle.cell_line.specs.inside.Quiet.{is_alone, quiet_cells, BeginsAlone, IsSeam, StartsAlone}
use Rattle.cell_line.specs.inside.Simple.{is_letter_before, is_simple, StartsSimple, StartsWithLetters}
use Rattle.cell_line.proofs.Placed.{clusters_step, total_cells-cons}
use Rattle.cell_line.proofs.Quiet.{alone_is_quiet, char_byte, quiet_width}
use Rattle.cell_line.proofs.Seam.{graphemes_at_seam, graphemes_none, graphemes_start}

-- ---- one character

pub simple_alone : (b : ℕ) → is_simple b ≡ true → is_alone b ≡ true
simple_alone b h = grind (arith, nat_tests)

pub simple_below : (b : ℕ) → is_simple b ≡ true → b < 128
simple_below b h = grind (arith, nat_tests)

-- no tab
pub alone_quiet : (c : ℕ) → is_alone c ≡ true → (c ≡ 9 → ⊥) → nat_lt 0 (quiet_cells c) ≡ true
alone_quiet c h differs = let other = ne_eqb c 9 differs in sym (ap (λ b. b || nat_lt 0 (quiet_cells c)) other) ∙ h

tab_of : (c : ℕ) → is_tab (encode_utf8 c) ≡ nat_eq c 9
tab_of c = char_byte c 9 (omega arith)

alone_cells : (tab column c : ℕ) → is_alone c ≡ true → (c ≡ 9 → ⊥) → cells_of tab column (encode_utf8 c) ≡ quiet_cells c
alone_cells tab column c h differs =
    ap (λ v. cond v (tab_cells_of tab column) (str_width false (chars (encode_utf8 c)))) (tab_of c ∙ ne_eqb c 9 differs)
    ∙ ap (str_width false) (chars-encode_utf8 c (IsUtf8-encode c (alone_is_quiet c h).scalar))
    ∙ quiet_width c (alone_quiet c h differs)

pub alone_element : (tab column c : ℕ) → is_alone c ≡ true → (c ≡ 9 → ⊥) →
    ◌≡◌ {A = Element} (record { text = encode_utf8 c; cells = quiet_cells c; tab = false }) (element_of tab column (encode_utf8 c))
alone_element tab column c h differs =
    let E : ℕ → Bool → Element = λ w v. record { text = encode_utf8 c; cells = w; tab = v } in
    ap₂ E (sym (alone_cells tab column c h differs)) (sym (tab_of c ∙ ne_eqb c 9 differs))

pub tab_element : (tab column c : ℕ) → c ≡ 9 →
    ◌≡◌ {A = Element} (record { text = encode_utf8 c; cells = tab_cells_of tab column; tab = true }) (element_of tab column (encode_utf8 c))
tab_element tab column c is =
    let E : Bool → Element = λ v. record {
      text = encode_utf8 c;
      cells = cond v (tab_cells_of tab column) (str_width false (chars (encode_utf8 c)));
      tab = v;
    } in
    ap E (sym (tab_of c ∙ eq-eqb c 9 is))

pub alone_mark : (tab column c : ℕ) → is_alone c ≡ true → (c ≡ 9 → ⊥) →
    ◌≡◌ {A = Mark} (record { cells = quiet_cells c; blank = nat_eq c 32; wide = nat_le 2 (quiet_cells c) }) (mark_of (element_of tab column (encode_utf8 c)))
alone_mark tab column c h differs =
    let M : Bool → Mark = λ s. record { cells = quiet_cells c; blank = s; wide = nat_le 2 (quiet_cells c) } in
    ap M (sym (char_byte c 32 (omega arith))) ∙ ap mark_of (alone_element tab column c h differs)

pub tab_mark : (tab column c : ℕ) → c ≡ 9 →
    ◌≡◌ {A = Mark} (record { cells = tab_cells_of tab column; blank = true; wide = false }) (mark_of (element_of tab column (encode_utf8 c)))
tab_mark tab column c is = ap mark_of (tab_element tab column c is)

-- the same of a byte
simple_cells : (b : ℕ) → is_simple b ≡ true → (b ≡ 9 → ⊥) → quiet_cells b ≡ 1
simple_cells b h differs = let other = ne_eqb b 9 differs in grind (arith, nat_tests)

byte_mark : (tab column b : ℕ) → is_simple b ≡ true → mark_of (element_of tab column (encode_utf8 b)) ≡ mark_of (element_of tab column (b ∷ []))
byte_mark tab column b h = ap (λ (t : List ℕ). mark_of (element_of tab column t)) (encode_ascii b (simple_below b h))

pub simple_mark : (tab column b : ℕ) → is_simple b ≡ true → (b ≡ 9 → ⊥) →
    ◌≡◌ {A = Mark} (record { cells = 1; blank = nat_eq b 32; wide = false }) (mark_of (element_of tab column (b ∷ [])))
simple_mark tab column b simple differs =
    let M : ℕ → Mark = λ n. record { cells = n; blank = nat_eq b 32; wide = nat_le 2 n } in
    ap M (sym (simple_cells b simple differs)) ∙ alone_mark tab column b (simple_alone b simple) differs ∙ byte_mark tab column b simple

pub tab_byte_mark : (tab column b : ℕ) → b ≡ 9 →
    ◌≡◌ {A = Mark} (record { cells = tab_cells_of tab column; blank = true; wide = false }) (mark_of (element_of tab column (b ∷ [])))
tab_byte_mark tab column b is = ap (λ (n : ℕ). mark_of (element_of tab column (n ∷ []))) (sym is)

-- ---- pieces

pub skip_empty : (pieces : List Piece) (i : ℕ) (piece : Piece) (text : List ℕ) → i < length pieces → piece ≡ get_or pieces i piece → text ≡ piece.text →
    length text ≤ 0 → clusters (drop i pieces) ≡ clusters (drop (i + 1) pieces)
skip_empty pieces i piece text lt is same empty =
    let none : piece.text ≡ [] = sym same ∙ nil_from_length text (omega (arith, empty)) in
    clusters_step pieces i piece lt is
    ∙ ap (λ (t : List ℕ). graphemes true t ++ clusters (drop (i + 1) pieces)) none
    ∙ ap (λ (g : List (List ℕ)). g ++ clusters (drop (i + 1) pieces)) graphemes_none

pub no_rest : (rest : List ℕ) (more : List (List ℕ)) → length rest ≤ 0 → graphemes true rest ++ more ≡ more
no_rest rest more empty =
    ap (λ (t : List ℕ). graphemes true t ++ more) (nil_from_length rest (omega (arith, empty)))
    ∙ ap (λ (g : List (List ℕ)). g ++ more) graphemes_none

-- ---- the walk

-- the next cluster of the part
pub next_in_part : (tab column : ℕ) (part part' rest : List (List ℕ)) (cluster : List ℕ) → part ≡ cluster ∷ part' →
    placed tab column (part ++ rest) ≡ element_of tab column cluster ∷ placed tab (column + cells_of tab column cluster) (part' ++ rest)
next_in_part tab column part part' rest cluster is = ap (λ (p : List (List ℕ)). placed tab column (p ++ rest)) is

-- the first cluster of the next part
pub next_part : (tab column end : ℕ) (part rest more text' more' : List (List ℕ)) (text : List ℕ) → part ≡ [] → rest ++ more ≡ graphemes true text ++ more' →
    IsSeam text end → (cluster : List ℕ) → graphemes true (slice_range text 0 end) ≡ cluster ∷ text' →
    placed tab column (part ++ (rest ++ more))
    ≡ element_of tab column cluster ∷ placed tab (column + cells_of tab column cluster) (text' ++ (graphemes true (drop end text) ++ more'))
next_part tab column end part rest more text' more' text none same seam cluster first =
    ap (λ (p : List (List ℕ)). placed tab column (p ++ (rest ++ more))) none
    ∙ ap (placed tab column) same
    ∙ ap (λ (g : List (List ℕ)). placed tab column (g ++ more')) (graphemes_at_seam text end seam)
    ∙ ap (placed tab column) (append_assoc (graphemes true (slice_range text 0 end)) (graphemes true (drop end text)) more')
    ∙ next_in_part tab column (graphemes true (slice_range text 0 end)) text' (graphemes true (drop end text) ++ more') cluster first

-- a text of some bytes has a cluster
pub some_clusters : (text : List ℕ) → IsUtf8 text → 0 < length text → graphemes true text ≡ [] → ⊥
some_clusters text utf8 some none =
    let empty : text ≡ [] = sym (concat-segments (is_grapheme_break true) text utf8) ∙ ap concat none in
    let size = ap length empty in
    omega arith

-- the walk up to the first cluster of the next part, as its fields are then
pub walk_to : (tab column end cells : ℕ) (part rest more part' more' : List (List ℕ)) (text rest' cluster : List ℕ) (e : Element) →
    part ≡ [] → rest ++ more ≡ graphemes true text ++ more' → IsSeam text end → graphemes true (slice_range text 0 end) ≡ cluster ∷ part' →
    e ≡ element_of tab column cluster → cells ≡ e.cells → rest' ≡ drop end text →
    placed tab column (part ++ (rest ++ more)) ≡ e ∷ placed tab (column + cells) (part' ++ (graphemes true rest' ++ more'))
walk_to tab column end cells part rest more part' more' text rest' cluster e none same seam first is size left =
    next_part tab column end part rest more part' more' text none same seam cluster first
    ∙ ap₂ (λ (x : Element) (r : List ℕ). x ∷ placed tab (column + cells_of tab column cluster) (part' ++ (graphemes true r ++ more'))) (sym is) (sym left)
    ∙ ap (λ (n : ℕ). e ∷ placed tab (column + n) (part' ++ (graphemes true rest' ++ more'))) (sym (size ∙ ap (λ (x : Element). x.cells) is))

pub cells_fit : (column : ℕ) (all : List Element) (e : Element) (rest : List Element) → all ≡ e ∷ rest → column + total_cells all < 2 ^ 32 →
    (e.cells < 2 ^ 32) × (column + e.cells < 2 ^ 32) × (column + e.cells + total_cells rest < 2 ^ 32)
cells_fit column all e rest is fits =
    let sum = ap total_cells is ∙ total_cells-cons e rest in
    (omega (arith, sum, fits), omega (arith, sum, fits), omega (arith, sum, fits))

-- the first of the elements has so many cells, and what is left fits
pub record IsStep (tab column cells : ℕ) (all : List Element) (e : Element) (left : List (List ℕ)) : Type 0 where
  pub first : all ≡ e ∷ placed tab (column + cells) left
  pub sum : column + cells < 2 ^ 32
  pub rest : column + cells + total_cells (placed tab (column + cells) left) < 2 ^ 32

pub step_fits : (tab column cells : ℕ) (inside all : List Element) (e : Element) (left : List (List ℕ)) → inside ≡ all → column + total_cells inside < 2 ^ 32 →
    cells ≡ e.cells → inside ≡ e ∷ placed tab (column + cells) left → IsStep tab column cells all e left
step_fits tab column cells inside all e left view fits size first =
    let f = cells_fit column inside e (placed tab (column + cells) left) first fits in
    record { first = sym view ∙ first; sum = omega (arith, f.1, size); rest = omega (arith, f.2, size) }

-- the walk over the character with which a text begins
pub walk_alone : (tab column cells c : ℕ) (part rest more part' more' : List (List ℕ)) (text rest' : List ℕ) (e : Element) →
    part ≡ [] → part' ≡ [] → rest ++ more ≡ graphemes true text ++ more' → StartsAlone text c rest' → e ≡ element_of tab column (encode_utf8 c) → cells ≡ e.cells →
    placed tab column (part ++ (rest ++ more)) ≡ e ∷ placed tab (column + cells) (part' ++ (graphemes true rest' ++ more'))
walk_alone tab column cells c part rest more part' more' text rest' e none none' same starts is size =
    let cluster = encode_utf8 c in
    ap (λ (p : List (List ℕ)). placed tab column (p ++ (rest ++ more))) none
    ∙ ap (placed tab column) same
    ∙ ap (λ (g : List (List ℕ)). placed tab column (g ++ more')) (graphemes_start text c rest' starts)
    ∙ ap (λ (x : Element). x ∷ placed tab (column + cells_of tab column cluster) (graphemes true rest' ++ more')) (sym is)
    ∙ ap₂ (λ (n : ℕ) (p : List (List ℕ)). e ∷ placed tab (column + n) (p ++ (graphemes true rest' ++ more'))) (sym (size ∙ ap (λ (x : Element). x.cells) is)) (sym none')

-- no part is being cut
pub part_absent : (part : Option Graphemes) (some : Bool) → some ≡ is_some part → some ≡ false → clusters_in part ≡ []
part_absent None some h is = refl
part_absent (Some part) some h is = absurd (let d : true ≡ false = sym h ∙ is in cc)

pub part_none : (part : Option Graphemes) (none : Bool) → is_some part ≡ not none → none ≡ true → clusters_in part ≡ []
part_none None none h is = refl
part_none (Some part) none h is = absurd (let d : true ≡ false = h ∙ ap not is in cc)

-- the walk over it where no part is being cut
pub step_alone : (tab column cells c : ℕ) (part more : List (List ℕ)) (text rest : List ℕ) (all : List Element) → part ≡ [] → StartsAlone text c rest →
    cells ≡ (element_of tab column (encode_utf8 c)).cells →
    placed tab column (part ++ (graphemes true text ++ more)) ≡ all → column + total_cells (placed tab column (part ++ (graphemes true text ++ more))) < 2 ^ 32 →
    IsStep tab column cells all (element_of tab column (encode_utf8 c)) (part ++ (graphemes true rest ++ more))
step_alone tab column cells c part more text rest all none starts size view fits =
    let e = element_of tab column (encode_utf8 c) in
    step_fits tab column cells _ all e (part ++ (graphemes true rest ++ more)) view fits size
    (walk_alone tab column cells c part (graphemes true text) more part more text rest e none none refl starts refl size)

-- ---- simple bytes

begins_simple : (text : List ℕ) → 0 < length text → is_simple (slice_index text 0) ≡ true → BeginsAlone text
begins_simple [] some h = absurd (omega arith)
begins_simple (b ∷ text) some h = (b, text, ap (λ (t : List ℕ). t ++ text) (sym (encode_ascii b (simple_below b h))), simple_alone b h)

next_simple : (b : ℕ) (text : List ℕ) → (length (b ∷ text) ≡ 1) ⊎ ((1 < length (b ∷ text)) × (is_simple (slice_index (b ∷ text) 1) ≡ true)) →
    (text ≡ []) ⊎ BeginsAlone text
next_simple b text (inl one) = inl (nil_from_length text (omega (arith, one)))
next_simple b text (inr next) = inr (begins_simple text (omega (arith, next.0)) next.1)

pub simple_start : (text : List ℕ) → IsUtf8 text → StartsSimple text → StartsAlone text (slice_index text 0) (drop 1 text)
simple_start [] utf8 s = absurd (let h = s.some in omega arith)
simple_start (b ∷ text) utf8 s =
    let is : b ∷ text ≡ encode_utf8 b ++ text = ap (λ (t : List ℕ). t ++ text) (sym (encode_ascii b (simple_below b s.first))) in
    record { text_is = is; alone = simple_alone b s.first; next = next_simple b text s.next; utf8 = IsUtf8-past_char (b ∷ text) text b utf8 is }

-- the walk over one
pub step_simple : (tab column cells : ℕ) (part more : List (List ℕ)) (text rest : List ℕ) (all : List Element) → part ≡ [] → IsUtf8 text →
    StartsSimple text → rest ≡ drop 1 text → cells ≡ (element_of tab column (slice_index text 0 ∷ [])).cells →
    placed tab column (part ++ (graphemes true text ++ more)) ≡ all → column + total_cells (placed tab column (part ++ (graphemes true text ++ more))) < 2 ^ 32 →
    IsStep tab column cells all (element_of tab column (slice_index text 0 ∷ [])) (part ++ (graphemes true rest ++ more))
step_simple tab column cells part more text rest all none utf8 starts left size view fits =
    let b = slice_index text 0 in
    let one : b ∷ [] ≡ encode_utf8 b = sym (encode_ascii b (simple_below b starts.first)) in
    let S : List ℕ → List ℕ → Type 0 = λ t r. IsStep tab column cells all (element_of tab column t) (part ++ (graphemes true r ++ more)) in
    subst₂ S (sym one) (sym left)
    (step_alone tab column cells b part more text (drop 1 text) all none (simple_start text utf8 starts) (size ∙ ap (λ (t : List ℕ). (element_of tab column t).cells) one) view fits)

-- ---- letters

pub letters_cells : (es : List Element) (n : ℕ) (rest : List Element) → AreLetters es n rest → total_cells es ≡ n + total_cells rest
letters_cells es zero rest h = let e = ap total_cells h in omega (arith, e)
letters_cells es (suc n) rest h =
    let whole : total_cells es ≡ h.0.cells + total_cells h.1 = ap total_cells h.2 ∙ total_cells-cons h.0 h.1 in
    let one : 1 ≡ h.0.cells = ap (λ (m : Mark). m.cells) h.3 in
    omega (arith, whole, one, letters_cells h.1 n rest h.4)

pub letters_length : (es : List Element) (n : ℕ) (rest : List Element) → AreLetters es n rest → length es ≡ n + length rest
letters_length es zero rest h = let e : length es ≡ length rest = ap length h in omega (arith, e)
letters_length es (suc n) rest h =
    let whole : length es ≡ suc (length h.1) = ap length h.2 in
    omega (arith, whole, letters_length h.1 n rest h.4)

pub letters_drop : (es : List Element) (n k : ℕ) (rest : List Element) → AreLetters es n rest → n ≤ k → drop k es ≡ drop (k - n) rest
letters_drop es zero k rest h le = let e : k ≡ k - 0 = omega arith in ap (drop k) h ∙ ap (λ (i : ℕ). drop i rest) e
letters_drop es (suc n) zero rest h le = absurd (omega (arith, le))
letters_drop es (suc n) (suc k) rest h le =
    let e : k - n ≡ suc k - suc n = omega arith in
    ap (drop (suc k)) h.2 ∙ letters_drop h.1 n k rest h.4 (omega (arith, le)) ∙ ap (λ (i : ℕ). drop i rest) e

letter_from : (b : ℕ) → is_in_range 33 126 b ≡ true → 33 ≤ b
letter_from b h = grind (arith, nat_tests)

letter_simple : (b : ℕ) → is_in_range 33 126 b ≡ true → is_simple b ≡ true
letter_simple b h = grind (arith, nat_tests)

letter_mark : (tab column b : ℕ) → is_in_range 33 126 b ≡ true → letter ≡ mark_of (element_of tab column (b ∷ []))
letter_mark tab column b h =
    let low = letter_from b h in
    let other : nat_eq b 32 ≡ false = grind (arith, nat_tests) in
    let M : Bool → Mark = λ v. record { cells = 1; blank = v; wide = false } in
    ap M (sym other) ∙ simple_mark tab column b (letter_simple b h) (λ e. omega (arith, low, e))

pub letters_more : (text : List ℕ) (n : ℕ) → StartsWithLetters text n → n + 1 < length text → is_letter_before (slice_index text n) (slice_index text (n + 1)) ≡ true →
    StartsWithLetters text (n + 1)
letters_more text n h lt is i less = elim (cases_lt i n) [
  | inl before ↦ h i before
  | inr past ↦
      let e : n ≡ i = omega (arith, less, past) in
      subst (λ (k : ℕ). (k + 1 < length text) × (is_letter_before (slice_index text k) (slice_index text (k + 1)) ≡ true)) e (lt, is)
]

-- the first of them, and the byte after it
letter_at : (text : List ℕ) (n i : ℕ) → StartsWithLetters text n → i < n →
    (i + 1 < length text) × (is_in_range 33 126 (slice_index text i) ≡ true) × (is_simple (slice_index text (i + 1)) ≡ true)
letter_at text n i h lt =
    let w = h i lt in
    let both = and_parts (is_in_range 33 126 (slice_index text i)) (is_simple (slice_index text (i + 1))) w.1 in
    (w.0, both.0, both.1)

letters_tail : (b : ℕ) (text : List ℕ) (n : ℕ) → StartsWithLetters (b ∷ text) (suc n) → StartsWithLetters text n
letters_tail b text n h i lt =
    let w = h (suc i) (omega (arith, lt)) in
    let e : suc i + 1 ≡ suc (i + 1) = omega arith in
    (omega (arith, w.0), sym (ap (λ (k : ℕ). is_letter_before (slice_index text i) (slice_index (b ∷ text) k)) e) ∙ w.1)

letter_start : (text : List ℕ) (n : ℕ) → StartsWithLetters text (suc n) → StartsSimple text
letter_start text n h =
    let w = letter_at text (suc n) 0 h (omega arith) in record {
      some = omega (arith, w.0);
      first = letter_simple (slice_index text 0) w.1;
      next = inr (omega (arith, w.0), w.2);
    }

pub letters_boundary : (text : List ℕ) (n : ℕ) → IsUtf8 text → StartsWithLetters text n → IsCharBoundary text n
letters_boundary text zero utf8 h = IsCharBoundary-start text utf8
letters_boundary text (suc n) utf8 h =
    let w = letter_at text (suc n) n h (omega arith) in
    let e : n + 1 ≡ suc n = omega arith in
    let simple : is_simple (slice_index text (suc n)) ≡ true = sym (ap (λ (k : ℕ). is_simple (slice_index text k)) e) ∙ w.2 in
    IsCharBoundary-before_ascii text (suc n) (omega (arith, w.0)) (simple_below (slice_index text (suc n)) simple)

-- the walk over letters
pub letters_walk : (tab column n : ℕ) (text : List ℕ) (more : List (List ℕ)) → IsUtf8 text → StartsWithLetters text n →
    AreLetters (placed tab column (graphemes true text ++ more)) n (placed tab (column + n) (graphemes true (drop n text) ++ more))
letters_walk tab column zero text more utf8 h =
    let e : column ≡ column + 0 = omega arith in
    ap (λ (k : ℕ). placed tab k (graphemes true text ++ more)) e
letters_walk tab column (suc n) [] more utf8 h = absurd (let w = (h 0 (omega arith)).0 in omega (arith, w))
letters_walk tab column (suc n) (b ∷ text) more utf8 h =
    let is = (letter_at (b ∷ text) (suc n) 0 h (omega arith)).1 in
    let starts = simple_start (b ∷ text) utf8 (letter_start (b ∷ text) n h) in
    let e = element_of tab column (b ∷ []) in
    let mark = letter_mark tab column b is in
    let one : 1 ≡ e.cells = ap (λ (m : Mark). m.cells) mark in
    let byte : e ≡ element_of tab column (encode_utf8 b) = ap (element_of tab column) (sym (encode_ascii b (simple_below b (letter_simple b is)))) in
    let step : placed tab column (graphemes true (b ∷ text) ++ more) ≡ e ∷ placed tab (column + 1) (graphemes true text ++ more) =
    walk_alone tab column 1 b [] (graphemes true (b ∷ text)) more [] more (b ∷ text) text e refl refl refl starts byte one in
    let to : column + 1 + n ≡ column + suc n = omega arith in
    let rest = letters_walk tab (column + 1) n text more starts.utf8 (letters_tail b text n h) in (
      e,
      placed tab (column + 1) (graphemes true text ++ more),
      step,
      mark,
      subst (λ (k : ℕ). AreLetters (placed tab (column + 1) (graphemes true text ++ more)) n (placed tab k (graphemes true (drop n text) ++ more))) to rest,
    )

pub pass_walk : (tab column n : ℕ) (part more : List (List ℕ)) (text rest : List ℕ) (all : List Element) → part ≡ [] → IsUtf8 text → StartsWithLetters text n →
    rest ≡ drop n text → placed tab column (part ++ (graphemes true text ++ more)) ≡ all → column + total_cells (placed tab column (part ++ (graphemes true text ++ more))) < 2 ^ 32 →
    AreLetters all n (placed tab (column + n) (part ++ (graphemes true rest ++ more)))
    × (column + n + total_cells (placed tab (column + n) (part ++ (graphemes true rest ++ more))) < 2 ^ 32)
pass_walk tab column n part more text rest all none utf8 starts left view fits =
    let front : placed tab column (graphemes true text ++ more) ≡ all =
    ap (λ (p : List (List ℕ)). placed tab column (p ++ (graphemes true text ++ more))) (sym none) ∙ view in
    let behind : placed tab (column + n) (graphemes true (drop n text) ++ more) ≡ placed tab (column + n) (part ++ (graphemes true rest ++ more)) =
    ap₂ (λ (p : List (List ℕ)) (r : List ℕ). placed tab (column + n) (p ++ (graphemes true r ++ more))) (sym none) (sym left) in
    let are : AreLetters all n (placed tab (column + n) (part ++ (graphemes true rest ++ more))) =
    subst (AreLetters all n) behind
    (subst (λ (es : List Element). AreLetters es n (placed tab (column + n) (graphemes true (drop n text) ++ more))) front (letters_walk tab column n text more utf8 starts)) in
    let cells : total_cells (placed tab column (part ++ (graphemes true text ++ more))) ≡ total_cells all = ap total_cells view in
    (are, omega (arith, fits, cells, letters_cells all n (placed tab (column + n) (part ++ (graphemes true rest ++ more))) are))

-- ---- where a walk is

pub taken_at : (es : List Element) (at : ℕ) (e : Element) (rest : List Element) → drop at es ≡ e ∷ rest →
    (at < length es) × (element_at es at ≡ e) × (rest ≡ drop (at + 1) es)
taken_at es at e rest is =
    let lt : at < length es = omega (arith, length-drop at es, ap length is) in
    let both : element_at es at ∷ drop (at + 1) es ≡ e ∷ rest = sym (drop_more es at nothing lt) ∙ is in
    (lt, heads both, sym (tails both)) where
      heads : {x y : Element} {xs ys : List Element} → x ∷ xs ≡ y ∷ ys → x ≡ y
      heads h = cc

      tails : {x y : Element} {xs ys : List Element} → x ∷ xs ≡ y ∷ ys → xs ≡ ys
      tails h = cc

pub taken_none : (es : List Element) (at : ℕ) → drop at es ≡ [] → length es ≤ at
taken_none es at is = omega (arith, length-drop at es, ap length is)

-- the mark of an element more was taken
pub dropped : (k : ℕ) (es rest : List Element) (taken : Option Mark) → IsMarked es taken rest → drop (suc k) es ≡ drop k rest
dropped k es rest None h = ap (drop (suc k)) h.0 ∙ drop_all (suc k) [] (omega arith) ∙ sym (drop_all k [] (omega arith)) ∙ ap (drop k) (sym h.1)
dropped k es rest (Some mark) h = ap (drop (suc k)) h.1

pub mark_at : (es : List Element) (lead at : ℕ) (mark : Mark) (rest : List Element) → lead ≡ lead_of es → lead < length es →
    IsMarked (drop at es) (Some mark) rest → IsMarkAt es lead at mark × (rest ≡ drop (at + 1) es)
mark_at es lead at mark rest is some marked =
    let t = taken_at es at marked.0 rest marked.1 in
    (record { lead_is = is; some = some; within = t.0; mark_is = marked.2 ∙ ap mark_of (sym t.1) }, t.2)

-- ---- the blanks that lead a line

-- so many blanks with so many cells were taken of the elements, and `left` is left
pub record IsLeading (es left : List Element) (count cells : ℕ) : Type 0 where
  pub count_is : count + lead_of left ≡ lead_of es
  pub cells_are : cells + total_cells (take (lead_of left) left) ≡ total_cells (take (lead_of es) es)
  pub length_is : count + length left ≡ length es
  pub sum_is : cells + total_cells left ≡ total_cells es

lead-cons : (e : Element) (rest : List Element) → is_blank e ≡ true → lead_of (e ∷ rest) ≡ suc (lead_of rest)
lead-cons e rest blank = ap (λ b. cond b (1 + lead_of rest) 0) blank ∙ (omega arith)

pub leading_more : (es left rest : List Element) (count cells : ℕ) (mark : Mark) → IsLeading es left count cells → IsMarked left (Some mark) rest → mark.blank ≡ true →
    IsLeading es rest (count + 1) (cells + mark.cells)
leading_more es left rest count cells mark h marked blank =
    let e = marked.0 in
    let first : is_blank e ≡ true = sym (ap (λ (m : Mark). m.blank) marked.2) ∙ blank in
    let size : mark.cells ≡ e.cells = ap (λ (m : Mark). m.cells) marked.2 in
    let lead : lead_of left ≡ suc (lead_of rest) = ap lead_of marked.1 ∙ lead-cons e rest first in
    let front : total_cells (take (lead_of left) left) ≡ e.cells + total_cells (take (lead_of rest) rest) =
    ap₂ (λ (n : ℕ) (xs : List Element). total_cells (take n xs)) lead marked.1 ∙ total_cells-cons e (take (lead_of rest) rest) in
    let whole : total_cells left ≡ e.cells + total_cells rest = ap total_cells marked.1 ∙ total_cells-cons e rest in
    let size_of : length left ≡ suc (length rest) = ap length marked.1 in
    record {
      count_is = omega (arith, h.count_is, lead);
      cells_are = omega (arith, h.cells_are, front, size);
      length_is = omega (arith, h.length_is, size_of);
      sum_is = omega (arith, h.sum_is, whole, size);
    }

pub lead_alone : (es : List Element) (lead : Lead) → IsLead es lead → lead.alone ≡ true → lead_of es ≡ length es
lead_alone es lead h is = elim (cases_eq (lead_of es) (length es)) [
  | inl e ↦ e
  | inr ne ↦ absurd (let c : nat_eq (lead_of es) (length es) ≡ false = ne_eqb (lead_of es) (length es) ne in let d : true ≡ false = sym is ∙ h.alone ∙ c in cc)
]

pub lead_some : (es : List Element) (lead : Lead) → IsLead es lead → lead.alone ≡ false → lead_of es < length es
lead_some es lead h is = elim (cases_lt (lead_of es) (length es)) [
  | inl lt ↦ lt
  | inr le ↦
      absurd (let e : lead_of es ≡ length es = omega (arith, prefix_len-le-length is_blank es) in
      let c : nat_eq (lead_of es) (length es) ≡ true = grind (arith, nat_tests) in
      let d : false ≡ true = sym is ∙ h.alone ∙ c in cc)
]
