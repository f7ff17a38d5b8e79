-- The rows of lines as they are wrapped, and what a replacement of lines does to them.
use Rattle.std.proofs.Common.{◌≡◌, ℕ, zero, suc, ◌+◌, ◌<◌, ◌≤◌, List, [], ◌∷◌, ◌++◌, length, map, get_or, take, drop, replicate, refl, ap, sym, ◌∙◌, arith, append_assoc, length-append, length-drop}
use Rattle.std.specs.List.{zip}
use Rattle.std.proofs.Math.Seq.{take-append_seam, drop-append_seam}
use Rattle.std.proofs.lemmas.Grind.{flat_map-append}
use Rattle.std.proofs.lemmas.List.{take-append-drop, take-map, drop-map, map-append, length-map, length-take-le, length-replicate, drop_all}
use Rattle.cell_line.specs.declared.element.Element.{Element}
use Rattle.cell_line.specs.RowTexts.{later_text, parted, row_texts_of, texts_of_parts}
use Rattle.cell_line.specs.Wrapping.{cuts_of, indent_of}
use Rattle.cell_units.specs.Rows.{all_rows, rows_before}
use Rattle.edit_patch.specs.Leads.{LeadsAt}
use Rattle.wrap_map.specs.Standing.{Standing, shown_rows, stood_of, stood_with}
use Rattle.wrap_map.specs.Stood.{Stood, rows_in, unwrapped}

-- ---- the rows of a line

length-parted : (es : List Element) (start : ℕ) (cuts : List ℕ) → length (parted es start cuts) ≡ length cuts + 1
length-parted es start [] = refl
length-parted es start (cut ∷ cuts) = let h = length-parted es cut cuts in omega (arith, h)

length-texts : (indent : ℕ) (parts : List (List Element)) → length (texts_of_parts indent parts) ≡ length parts
length-texts indent [] = refl
length-texts indent (part ∷ parts) = let h = length-map parts (later_text indent) in omega (arith, h)

-- a line has a row, and one more for each cut
pub length-row_texts : (es : List Element) (width : ℕ) → length (row_texts_of es width) ≡ 1 + length (cuts_of es width)
length-row_texts es width =
    let a = length-texts (indent_of es width) (parted es 0 (cuts_of es width)) in
    let b = length-parted es 0 (cuts_of es width) in
    omega (arith, a, b)

-- at mark 0 a line has no cuts
pub cuts-unwrapped : (es : List Element) → cuts_of es 0 ≡ []
unfolding cuts_of
cuts-unwrapped es = refl

-- ---- the rows of lines

pub rows_in-unwrapped : (n : ℕ) → rows_in (replicate n unwrapped) ≡ n
rows_in-unwrapped zero = refl
rows_in-unwrapped (suc n) = let h = rows_in-unwrapped n in omega (arith, h)

-- a line with its mark, and the texts of its rows
abbrev pub stood : List Element × ℕ → Stood
stood p = stood_with p.0 p.1

abbrev pub texts : List Element × ℕ → List (List ℕ)
texts p = row_texts_of p.0 p.1

pub rows_of-texts : (ps : List (List Element × ℕ)) → length (all_rows (map texts ps)) ≡ rows_in (map stood ps)
rows_of-texts [] = refl
rows_of-texts (p ∷ ps) =
    let h = rows_of-texts ps in
    let a = length-append (row_texts_of p.0 p.1) (all_rows (map texts ps)) in
    let b = length-row_texts p.0 p.1 in
    omega (arith, h, a, b)

-- the rows before a line, by how the lines before it are wrapped
pub rows_before-stood : (s : Standing) (k : ℕ) → rows_before (shown_rows s) k ≡ rows_in (take k (stood_of s))
rows_before-stood s k =
    let ps = zip s.lines s.marks in
    ap (λ (ls : List (List (List ℕ))). length (all_rows ls)) (take-map texts k ps)
    ∙ rows_of-texts (take k ps)
    ∙ ap rows_in (sym (take-map stood k ps))

pub rows-stood : (s : Standing) → length (all_rows (shown_rows s)) ≡ rows_in (stood_of s)
rows-stood s = rows_of-texts (zip s.lines s.marks)

-- ---- pairs

module _ {B : Type 0} (f : List Element × ℕ → B) where
  pub pair-at : (ls : List (List Element)) (ms : List ℕ) (k : ℕ) (d : B) → length ms ≡ length ls → k < length ls → get_or (map f (zip ls ms)) k d ≡ f (get_or ls k [], get_or ms k 0)
  pair-at [] ms k d e within = absurd (omega arith)
  pair-at (l ∷ ls) [] k d e within = absurd (omega arith)
  pair-at (l ∷ ls) (m ∷ ms) zero d e within = refl
  pair-at (l ∷ ls) (m ∷ ms) (suc k) d e within = pair-at ls ms k d (omega arith) (omega arith)

  pub length-pairs : (ls : List (List Element)) (ms : List ℕ) → length ms ≡ length ls → length (map f (zip ls ms)) ≡ length ls
  length-pairs [] ms e = refl
  length-pairs (l ∷ ls) [] e = absurd (omega arith)
  length-pairs (l ∷ ls) (m ∷ ms) e = omega (arith, length-pairs ls ms (omega arith))

pub zip-append : {A B : Type 0} (xs ys : List A) (us vs : List B) → length xs ≡ length us → zip (xs ++ ys) (us ++ vs) ≡ zip xs us ++ zip ys vs
zip-append [] ys [] vs h = refl
zip-append [] ys (u ∷ us) vs h = absurd (omega arith)
zip-append (x ∷ xs) ys [] vs h = absurd (omega arith)
zip-append (x ∷ xs) ys (u ∷ us) vs h = ap (λ ps. (x, u) ∷ ps) (zip-append xs ys us vs (omega arith))

zip-nil : {A B : Type 0} (xs : List A) → zip {K = A} {X = B} xs [] ≡ []
zip-nil [] = refl
zip-nil (x ∷ xs) = refl

pub zip-take : {A B : Type 0} (n : ℕ) (xs : List A) (us : List B) → zip (take n xs) (take n us) ≡ take n (zip xs us)
zip-take zero xs us = refl
zip-take (suc n) [] us = refl
zip-take (suc n) (x ∷ xs) [] = refl
zip-take (suc n) (x ∷ xs) (u ∷ us) = ap (λ ps. (x, u) ∷ ps) (zip-take n xs us)

pub zip-drop : {A B : Type 0} (n : ℕ) (xs : List A) (us : List B) → zip (drop n xs) (drop n us) ≡ drop n (zip xs us)
zip-drop zero xs us = refl
zip-drop (suc n) [] us = refl
zip-drop (suc n) (x ∷ xs) [] = zip-nil (drop n xs)
zip-drop (suc n) (x ∷ xs) (u ∷ us) = zip-drop n xs us

-- ---- a replacement of lines

-- what lies in a list from one place to another
pub drop-add : {X : Type 0} (n m : ℕ) (xs : List X) → drop n (drop m xs) ≡ drop (m + n) xs
drop-add n zero xs = ap (λ (k : ℕ). drop k xs) (omega arith)
drop-add n (suc m) [] = drop_all n [] (omega arith) ∙ sym (drop_all (suc m + n) [] (omega arith))
drop-add n (suc m) (x ∷ xs) = drop-add n m xs ∙ ap (λ (k : ℕ). drop k (x ∷ xs)) (let e : suc (m + n) ≡ suc m + n = omega arith in e)

-- the new list is the old one but for what was put in
pub leads-parts : {X : Type 0} (old new : List X) (a b n : ℕ) → LeadsAt old new a b n
    → new ≡ take a old ++ (take n (drop a new) ++ drop b old)
leads-parts old new a b n l =
    sym (take-append-drop a new)
    ∙ ap (λ xs. xs ++ drop a new) l.before
    ∙ ap (λ xs. take a old ++ xs) (sym (take-append-drop n (drop a new))
    ∙ ap (λ xs. take n (drop a new) ++ xs) (drop-add n a new ∙ l.behind))

pub put-in : {X : Type 0} (old new : List X) (a b n : ℕ) → LeadsAt old new a b n → length (take n (drop a new)) ≡ n
put-in old new a b n l = length-take-le n (drop a new) (let h = length-drop a new in let r = l.reaches in omega (arith, h, r))

-- what is made of lines with marks, of which some are replaced by unwrapped ones
pub mapped-after : {B : Type 0} (f : List Element × ℕ → B) (old new : List (List Element)) (marks : List ℕ) (a b n : ℕ)
    → LeadsAt old new a b n → a ≤ b → length marks ≡ length old
    → map f (zip new (take a marks ++ replicate n 0 ++ drop b marks))
    ≡ take a (map f (zip old marks)) ++ map f (zip (take n (drop a new)) (replicate n 0)) ++ drop b (map f (zip old marks))
mapped-after f old new marks a b n l order one_each =
    let within = l.within in
    let mid = take n (drop a new) in
    let ps = zip old marks in
    let first : length (take a old) ≡ length (take a marks) =
    length-take-le a old (omega (arith, within)) ∙ sym (length-take-le a marks (omega (arith, within))) in
    let second : length mid ≡ length (replicate n 0) = put-in old new a b n l ∙ sym (length-replicate n 0) in
    ap (λ xs. map f (zip xs (take a marks ++ replicate n 0 ++ drop b marks))) (leads-parts old new a b n l)
    ∙ ap (λ us. map f (zip (take a old ++ (mid ++ drop b old)) us)) (append_assoc (take a marks) (replicate n 0) (drop b marks))
    ∙ ap (map f) (zip-append (take a old) (mid ++ drop b old) (take a marks) (replicate n 0 ++ drop b marks) first
    ∙ ap (λ qs. zip (take a old) (take a marks) ++ qs) (zip-append mid (drop b old) (replicate n 0) (drop b marks) second))
    ∙ map-append f (zip (take a old) (take a marks)) (zip mid (replicate n 0) ++ zip (drop b old) (drop b marks))
    ∙ ap (λ qs. map f (zip (take a old) (take a marks)) ++ qs) (map-append f (zip mid (replicate n 0)) (zip (drop b old) (drop b marks)))
    ∙ sym (append_assoc (map f (zip (take a old) (take a marks))) (map f (zip mid (replicate n 0))) (map f (zip (drop b old) (drop b marks))))
    ∙ ap (λ qs. qs ++ map f (zip mid (replicate n 0)) ++ map f (zip (drop b old) (drop b marks))) (ap (map f) (zip-take a old marks) ∙ sym (take-map f a ps))
    ∙ ap (λ qs. take a (map f ps) ++ map f (zip mid (replicate n 0)) ++ qs) (ap (map f) (zip-drop b old marks) ∙ sym (drop-map f b ps))

pub all-unwrapped : (lines : List (List Element)) (n : ℕ) → length lines ≡ n → map stood (zip lines (replicate n 0)) ≡ replicate n unwrapped
all-unwrapped [] zero h = refl
all-unwrapped [] (suc n) h = absurd (omega arith)
all-unwrapped (es ∷ lines) zero h = absurd (omega arith)
all-unwrapped (es ∷ lines) (suc n) h =
    ap (λ (cuts : List ℕ). record { mark = 0; cuts = cuts } ∷ map stood (zip lines (replicate n 0))) (cuts-unwrapped es)
    ∙ ap (λ ls. unwrapped ∷ ls) (all-unwrapped lines n (omega arith))

-- ---- rows

-- where lines' rows are replaced, all their rows lead to what they are then
pub rows-lead : (old put : List (List (List ℕ))) (a b : ℕ) → a ≤ b → b ≤ length old
    → LeadsAt (all_rows old) (all_rows (take a old ++ put ++ drop b old)) (length (all_rows (take a old))) (length (all_rows (take b old))) (length (all_rows put))
rows-lead old put a b order within =
    let f : List (List ℕ) → List (List ℕ) = λ rows. rows in
    let A = all_rows (take a old) in
    let P = all_rows put in
    let C = all_rows (drop b old) in
    let new-is : all_rows (take a old ++ put ++ drop b old) ≡ A ++ P ++ C =
    flat_map-append f (take a old ++ put) (drop b old) ∙ ap (λ xs. xs ++ C) (flat_map-append f (take a old) put) in
    let old-is : all_rows old ≡ all_rows (take b old) ++ C =
    ap all_rows (sym (take-append-drop b old)) ∙ flat_map-append f (take b old) (drop b old) in
    let old-first : all_rows old ≡ A ++ all_rows (drop a old) =
    ap all_rows (sym (take-append-drop a old)) ∙ flat_map-append f (take a old) (drop a old) in
    record {
      within = let h = ap length old-is in let k = length-append (all_rows (take b old)) C in omega (arith, h, k);
      reaches = let h = ap length new-is in let k = length-append (A ++ P) C in let m = length-append A P in omega (arith, h, k, m);
      before = ap (take (length A)) (new-is ∙ append_assoc A P C) ∙ take-append_seam A (P ++ C)
          ∙ sym (ap (take (length A)) old-first ∙ take-append_seam A (all_rows (drop a old)));
      behind = ap (λ n. drop n (all_rows (take a old ++ put ++ drop b old))) (sym (length-append A P))
          ∙ ap (drop (length (A ++ P))) new-is ∙ drop-append_seam (A ++ P) C
          ∙ sym (ap (drop (length (all_rows (take b old)))) old-is ∙ drop-append_seam (all_rows (take b old)) C);
    }

-- ---- no more lines are shown than there are

pairs-few : {X Y Z : Type 0} (f : X × Y → Z) (xs : List X) (ys : List Y) → length (map f (zip xs ys)) ≤ length xs
pairs-few f [] ys = omega arith
pairs-few f (x ∷ xs) [] = omega arith
pairs-few f (x ∷ xs) (y ∷ ys) = omega (arith, pairs-few f xs ys)

pub shown-few : (s : Standing) → length (shown_rows s) ≤ length s.lines
shown-few s = pairs-few (λ p. row_texts_of p.0 p.1) s.lines s.marks
