-- How many rows a line has, which elements each of them shows, and its text.
use Rattle.std.proofs.Common.{◌≡◌, ℕ, ◌+◌, ◌-◌, ◌^◌, ◌<◌, ◌≤◌, inl, inr, true, false, cond, zero, suc, nat_eq, nat_lt, List, [], ◌∷◌, ◌++◌, length, take, drop, get_or, slice_range, min, length-drop, add-one, append_assoc, refl, sym, ap, ap₂, ◌∙◌, arith}
use Rattle.std.proofs.lemmas.Bool.{cases_lt}
use Rattle.std.proofs.lemmas.Bool.Decides.{nat_tests}
use Rattle.std.proofs.lemmas.List.{drop-drop, drop_all, get_or-drop, get_or-map, get_or_default, get_or_past, length-map, take_all, take_min, take_more, take_rest}
use Rattle.cell_line.specs.declared.element.Element.{Element}
use Rattle.cell_line.specs.Laws.{AreRowStarts}
use Rattle.cell_line.specs.Wrapping.{cuts_of, indent_of, next_start_of}
use Rattle.cell_line.specs.RowTexts.{later_text, parted, row_texts_of, shown_element, shown_elements, texts_of_parts}
use Rattle.cell_line.proofs.LineLaws.{cuts_law}
use Rattle.cell_line.proofs.Rows.{cuts-off, next_start_within}

pub length-parted : (es : List Element) (start : ℕ) (cuts : List ℕ) → length (parted es start cuts) ≡ length cuts + 1
length-parted es start [] = refl
length-parted es start (cut ∷ cuts) = omega (arith, length-parted es cut cuts)

length-texts_of_parts : (indent : ℕ) (parts : List (List Element)) → length (texts_of_parts indent parts) ≡ length parts
length-texts_of_parts indent [] = refl
length-texts_of_parts indent (part ∷ parts) = ap suc (length-map parts (later_text indent))

-- a line has one more row than it has cuts
pub length-row_texts_of : (es : List Element) (width : ℕ) → length (row_texts_of es width) ≡ length (cuts_of es width) + 1
length-row_texts_of es width =
    length-texts_of_parts (indent_of es width) (parted es 0 (cuts_of es width)) ∙ length-parted es 0 (cuts_of es width)

pub get_or-parted : (es : List Element) (start : ℕ) (cuts : List ℕ) (row : ℕ) → row ≤ length cuts →
    get_or (parted es start cuts) row [] ≡ slice_range es (get_or (start ∷ cuts) row 0) (get_or cuts row (length es))
get_or-parted es start [] zero le = sym (take_rest es start)
get_or-parted es start [] (suc row) le = absurd (omega arith)
get_or-parted es start (cut ∷ cuts) zero le = refl
get_or-parted es start (cut ∷ cuts) (suc row) le = get_or-parted es cut cuts row (omega arith)

-- ---- the rows of a line in terms of its cuts

-- from each row's start to its end, within the line
bounded : (es : List Element) (room prev start : ℕ) (cuts : List ℕ) (row : ℕ) → prev ≤ start → prev ≤ length es → AreRowStarts es room start cuts → row ≤ length cuts →
    (get_or (prev ∷ cuts) row 0 ≤ get_or cuts row (length es)) × (get_or cuts row (length es) ≤ length es)
bounded es room prev start [] zero le within h in_cuts = (within, omega arith)
bounded es room prev start [] (suc row) le within h in_cuts = absurd (omega arith)
bounded es room prev start (k ∷ ks) zero le within h in_cuts = (omega (arith, h.0), omega (arith, h.1))
bounded es room prev start (k ∷ ks) (suc row) le within h in_cuts =
    let next = next_start_within es room k h.1 in
    bounded es room k (next_start_of es room k) ks row (omega (arith, next.0)) (omega (arith, h.1)) h.2 (omega arith)

pub row_bounds : (es : List Element) (width : ℕ) (row : ℕ) → row ≤ length (cuts_of es width) →
    (get_or (0 ∷ cuts_of es width) row 0 ≤ get_or (cuts_of es width) row (length es)) × (get_or (cuts_of es width) row (length es) ≤ length es)
row_bounds es zero row le =
    rw (cuts-off es) (go row (omega (arith, ap length (cuts-off es)))) where
      go : (row : ℕ) → row ≤ 0 → (get_or (0 ∷ []) row 0 ≤ length es) × (length es ≤ length es)
      go zero le = (omega arith, omega arith)
      go (suc row) le = absurd (omega arith)
row_bounds es (suc width) row le =
    bounded es (suc width - indent_of es (suc width)) 0 (next_start_of es (suc width) 0) (cuts_of es (suc width)) row (omega arith) (omega arith) (cuts_law es (suc width) (omega arith)) le

part_text : (indent : ℕ) (parts : List (List Element)) (row : ℕ) → row < length parts →
    get_or (texts_of_parts indent parts) row [] ≡ later_text (cond (nat_eq row 0) 0 indent) (get_or parts row [])
part_text indent [] row lt = absurd (omega arith)
part_text indent (part ∷ parts) zero lt = refl
part_text indent (part ∷ parts) (suc row) lt =
    let later : nat_eq (suc row) 0 ≡ false = grind (arith, nat_tests) in
    get_or-map (later_text indent) parts row [] [] (omega arith)
    ∙ ap (λ b. later_text (cond b 0 indent) (get_or parts row [])) (sym later)

-- the text of a row
pub row_text_is : (es : List Element) (width row : ℕ) → row ≤ length (cuts_of es width) →
    get_or (row_texts_of es width) row []
    ≡ later_text (cond (nat_eq row 0) 0 (indent_of es width)) (slice_range es (get_or (0 ∷ cuts_of es width) row 0) (get_or (cuts_of es width) row (length es)))
row_text_is es width row le =
    part_text (indent_of es width) (parted es 0 (cuts_of es width)) row (omega (arith, length-parted es 0 (cuts_of es width)))
    ∙ ap (later_text (cond (nat_eq row 0) 0 (indent_of es width))) (get_or-parted es 0 (cuts_of es width) row le)

-- how many elements a row takes of those from its start on
pub row_part : (es : List Element) (width row most : ℕ) → length es < 2 ^ 32 → row ≤ length (cuts_of es width) →
    most ≡ cond (nat_lt row (length (cuts_of es width))) (get_or (cuts_of es width) row 0 - get_or (0 ∷ cuts_of es width) row 0) (2 ^ 32 - 1) →
    (take most (drop (get_or (0 ∷ cuts_of es width) row 0) es) ≡ slice_range es (get_or (0 ∷ cuts_of es width) row 0) (get_or (cuts_of es width) row (length es)))
    × (row < length (cuts_of es width) → drop most (drop (get_or (0 ∷ cuts_of es width) row 0) es) ≡ drop (get_or (0 ∷ cuts_of es width) (row + 1) 0) es)
row_part es width row most short le is =
    let cuts = cuts_of es width in
    let s = get_or (0 ∷ cuts) row 0 in
    let b = row_bounds es width row le in
    elim (cases_lt row (length cuts)) [
      | inl lt ↦
          let front : nat_lt row (length cuts) ≡ true = grind (arith, nat_tests) in
          let end : get_or cuts row (length es) ≡ get_or cuts row 0 = get_or_default cuts row (length es) 0 lt in
          let size : most ≡ get_or cuts row 0 - s = is ∙ ap (λ v. cond v (get_or cuts row 0 - s) (2 ^ 32 - 1)) front in
          let next : get_or (0 ∷ cuts) (row + 1) 0 ≡ get_or cuts row 0 = ap (λ (k : ℕ). get_or (0 ∷ cuts) k 0) (add-one row) in
          let to : s + most ≡ get_or (0 ∷ cuts) (row + 1) 0 = omega (arith, b.0, end, size, next) in (
            ap (λ (k : ℕ). take k (drop s es)) size ∙ ap (slice_range es s) (sym end),
            λ _. drop-drop most s es ∙ ap (λ (k : ℕ). drop k es) to,
          )
      | inr past ↦
          let behind : nat_lt row (length cuts) ≡ false = grind (arith, nat_tests) in
          let end : get_or cuts row (length es) ≡ length es = get_or_past cuts row (length es) past in
          let size : most ≡ 2 ^ 32 - 1 = is ∙ ap (λ v. cond v (get_or cuts row 0 - s) (2 ^ 32 - 1)) behind in (
            take_all most (drop s es) (omega (arith, size, length-drop s es, short)) ∙ sym (take_rest es s) ∙ ap (slice_range es s) (sym end),
            λ lt. absurd (omega (arith, lt, past)),
          )
    ]

-- one text more
pub text_more : (all : List (List ℕ)) (first row : ℕ) → first ≤ row → row < length all →
    take (row + 1 - first) (drop first all) ≡ take (row - first) (drop first all) ++ get_or all row [] ∷ []
text_more all first row le lt =
    let n : row + 1 - first ≡ row - first + 1 = omega arith in
    let at : first + (row - first) ≡ row = omega arith in
    ap (λ (k : ℕ). take k (drop first all)) n
    ∙ take_more (drop first all) (row - first) [] (omega (arith, length-drop first all))
    ∙ ap (λ (t : List ℕ). take (row - first) (drop first all) ++ t ∷ []) (get_or-drop first all (row - first) [] ∙ ap (λ (k : ℕ). get_or all k []) at)

-- one element more of a row
pub row_more : (text text' : List ℕ) (es rest : List Element) (e : Element) (k n : ℕ) → n ≡ suc k → es ≡ e ∷ rest → text' ≡ text ++ shown_element e →
    (text' ++ shown_elements (take k rest) ≡ text ++ shown_elements (take n es)) × (drop k rest ≡ drop n es)
row_more text text' es rest e k n is first more = (
  ap (λ (t : List ℕ). t ++ shown_elements (take k rest)) more
      ∙ append_assoc text (shown_element e) (shown_elements (take k rest))
      ∙ sym (ap₂ (λ (i : ℕ) (xs : List Element). text ++ shown_elements (take i xs)) is first),
  sym (ap₂ (λ (i : ℕ) (xs : List Element). drop i xs) is first),
)

-- past the last row there are no texts
pub texts_none : (es : List Element) (width first count : ℕ) → length (cuts_of es width) + 1 ≤ first → take count (drop first (row_texts_of es width)) ≡ []
texts_none es width first count le =
    ap (take count) (drop_all first (row_texts_of es width) (omega (arith, length-row_texts_of es width, le))) ∙ take_all count [] (omega arith)

pub in_order : (es : List Element) (width row : ℕ) (cuts : List ℕ) → cuts ≡ cuts_of es width → row < length cuts → get_or (0 ∷ cuts) row 0 ≤ get_or cuts row 0
in_order es width row cuts is lt =
    let b = row_bounds es width row (omega (arith, ap length is, lt)) in
    let end : get_or (cuts_of es width) row (length es) ≡ get_or cuts row 0 =
    get_or_default (cuts_of es width) row (length es) 0 (omega (arith, ap length is, lt)) ∙ ap (λ (cs : List ℕ). get_or cs row 0) (sym is) in
    omega (arith, ap (λ (cs : List ℕ). get_or (0 ∷ cs) row 0) is, b.0, end)

pub start_within : (es : List Element) (width row : ℕ) (cuts : List ℕ) → cuts ≡ cuts_of es width → row ≤ length cuts → get_or (0 ∷ cuts) row 0 ≤ length es
start_within es width row cuts is le =
    let b = row_bounds es width row (omega (arith, ap length is, le)) in
    omega (arith, ap (λ (cs : List ℕ). get_or (0 ∷ cs) row 0) is, b.0, b.1)

-- one row more of a line
pub text_step : (es : List Element) (width row first most indent spaces : ℕ) (cuts : List ℕ) (left left' : List Element) (texts texts' : List (List ℕ)) (text : List ℕ) →
    cuts ≡ cuts_of es width → length es < 2 ^ 32 → row ≤ length cuts → first ≤ row →
    most ≡ cond (nat_lt row (length cuts)) (get_or cuts row 0 - get_or (0 ∷ cuts) row 0) (2 ^ 32 - 1) →
    spaces ≡ cond (nat_eq row 0) 0 indent → indent ≡ indent_of es width →
    left ≡ drop (get_or (0 ∷ cuts) row 0) es → text ≡ later_text spaces (take most left) → left' ≡ drop most left →
    texts ≡ take (row - first) (drop first (row_texts_of es width)) → texts' ≡ texts ++ text ∷ [] →
    (row + 1 < length cuts + 1 → left' ≡ drop (get_or (0 ∷ cuts) (row + 1) 0) es) × (texts' ≡ take (row + 1 - first) (drop first (row_texts_of es width)))
text_step es width row first most indent spaces cuts left left' texts texts' text is short le from size gap deep at shown after so_far more =
    let rows = cuts_of es width in
    let within : row ≤ length rows = omega (arith, ap length is, le) in
    let size' : most ≡ cond (nat_lt row (length rows)) (get_or rows row 0 - get_or (0 ∷ rows) row 0) (2 ^ 32 - 1) =
    size ∙ ap (λ (cs : List ℕ). cond (nat_lt row (length cs)) (get_or cs row 0 - get_or (0 ∷ cs) row 0) (2 ^ 32 - 1)) is in
    let at' : left ≡ drop (get_or (0 ∷ rows) row 0) es = at ∙ ap (λ (cs : List ℕ). drop (get_or (0 ∷ cs) row 0) es) is in
    let part = row_part es width row most short within size' in
    let whole : text ≡ get_or (row_texts_of es width) row [] =
    shown
    ∙ ap₂ (λ (n : ℕ) (xs : List Element). later_text n xs) (gap ∙ ap (cond (nat_eq row 0) 0) deep) (ap (take most) at' ∙ part.0)
    ∙ sym (row_text_is es width row within) in (
      λ lt.
          after ∙ ap (drop most) at' ∙ part.1 (omega (arith, ap length is, lt))
          ∙ ap (λ (cs : List ℕ). drop (get_or (0 ∷ cs) (row + 1) 0) es) (sym is),
      more ∙ ap₂ (λ (ts : List (List ℕ)) (t : List ℕ). ts ++ t ∷ []) so_far whole
          ∙ sym (text_more (row_texts_of es width) first row from (omega (arith, length-row_texts_of es width, within))),
    )

pub texts_end : (es : List Element) (width row first count : ℕ) (cuts : List ℕ) (texts : List (List ℕ)) → cuts ≡ cuts_of es width →
    row ≡ first + min count (length cuts + 1 - first) → texts ≡ take (row - first) (drop first (row_texts_of es width)) →
    texts ≡ take count (drop first (row_texts_of es width))
texts_end es width row first count cuts texts is end so_far =
    let all = row_texts_of es width in
    let rows : length cuts + 1 - first ≡ length (drop first all) = omega (arith, ap length is, length-row_texts_of es width, length-drop first all) in
    let size : row - first ≡ min count (length cuts + 1 - first) = omega (arith, end) in
    so_far ∙ ap (λ (n : ℕ). take n (drop first all)) (size ∙ ap (min count) rows) ∙ take_min count (drop first all)
