-- Rows that go past a window.
use Rattle.std.proofs.Common.{◌≡◌, ℕ, ◌-◌, ◌<◌, ◌≤◌, zero, suc, false, true, List, [], ◌∷◌, ◌++◌, length, map, flat_map, take, drop, refl, sym, ap, ◌∙◌, arith, append-nil, append_assoc, length-append, length-drop}
use Rattle.std.specs.Prelude.{Option, None, Some}
use Rattle.std.specs.List.{slice_get}
use Rattle.std.specs.Option.{IsSome, option_to_list}
use Rattle.std.proofs.lemmas.List.{take-append-drop, take-map, drop-map, length-map, drop_all}
use Rattle.std.proofs.lemmas.List.Concat.{flat_map-append}
use Rattle.plain_rows.specs.Plain.{row_pairs}
use Rattle.plain_rows.specs.Rows.{Row, head_and_more, more_row}
use Rattle.plain_rows.specs.declared.shown.Shown.{Shown}
use Rattle.display_sheet.specs.declared.window.Window.{Window}
use Rattle.plain_rows.proofs.BuiltRows.{pairs-append}
use Rattle.plain_rows.specs.ShownRows.{letter_of, row_of_shown, shown_row, shown_rows}
use Rattle.display_sheet.specs.Windows.{HasPassed, kind_and_more, shown_pairs}

module _ {X : Type 0} where
  pub drop-part : (n : ℕ) (xs ys : List X) → drop n (xs ++ ys) ≡ drop n xs ++ drop (n - length xs) ys
  drop-part zero xs ys = let e : 0 - length xs ≡ 0 = omega arith in ap (λ (m : ℕ). xs ++ drop m ys) (sym e)
  drop-part (suc n) [] ys = let e : suc n ≡ suc n - 0 = omega arith in ap (λ (m : ℕ). drop m ys) e
  drop-part (suc n) (x ∷ xs) ys = let e : n - length xs ≡ suc n - length (x ∷ xs) = omega arith in drop-part n xs ys ∙ ap (λ (m : ℕ). drop n xs ++ drop m ys) e

  pub take-part : (n : ℕ) (xs ys : List X) → take n (xs ++ ys) ≡ take n xs ++ take (n - length xs) ys
  take-part zero xs ys = let e : 0 - length xs ≡ 0 = omega arith in ap (λ (m : ℕ). take m ys) (sym e)
  take-part (suc n) [] ys = let e : suc n ≡ suc n - 0 = omega arith in ap (λ (m : ℕ). take m ys) e
  take-part (suc n) (x ∷ xs) ys = let e : n - length xs ≡ suc n - length (x ∷ xs) = omega arith in ap (λ (l : List X). x ∷ l) (take-part n xs ys ∙ ap (λ (m : ℕ). take n xs ++ take m ys) e)

  pub window-part : (left skip : ℕ) (xs ys : List X) →
      take left (drop skip (xs ++ ys)) ≡ take left (drop skip xs) ++ take (left - (length xs - skip)) (drop (skip - length xs) ys)
  window-part left skip xs ys =
      ap (take left) (drop-part skip xs ys)
      ∙ take-part left (drop skip xs) (drop (skip - length xs) ys)
      ∙ ap (λ (n : ℕ). take left (drop skip xs) ++ take (left - n) (drop (skip - length xs) ys)) (length-drop skip xs)

  pub window-nil : (left skip : ℕ) → take left (drop {A = X} skip []) ≡ []
  window-nil zero zero = refl
  window-nil (suc left) zero = refl
  window-nil zero (suc skip) = refl
  window-nil (suc left) (suc skip) = refl

abbrev pub Pairs : Type 0
Pairs = List (ℕ × List ℕ)

pub passed-nil : (a : Window) → HasPassed [] a a
passed-nil a = record {
  kept = sym (append-nil (shown_pairs a.rows.items)) ∙ ap (λ (l : Pairs). shown_pairs a.rows.items ++ l) (sym (window-nil a.left a.skip));
  skip = omega arith;
  left = omega arith;
}

pub passed-append : (xs ys : Pairs) (a b c : Window) → HasPassed xs a b → HasPassed ys b c → HasPassed (xs ++ ys) a c
passed-append xs ys a b c f g = record {
  kept =
      g.kept
      ∙ ap (λ (l : Pairs). l ++ take b.left (drop b.skip ys)) f.kept
      ∙ append_assoc (shown_pairs a.rows.items) (take a.left (drop a.skip xs)) (take b.left (drop b.skip ys))
      ∙ (λ i. shown_pairs a.rows.items ++ (take a.left (drop a.skip xs) ++ take (f.left i) (drop (f.skip i) ys)))
      ∙ ap (λ (l : Pairs). shown_pairs a.rows.items ++ l) (sym (window-part a.left a.skip xs ys));
  skip = omega (arith, f.skip, g.skip, length-append xs ys);
  left = omega (arith, f.left, g.left, f.skip, length-append xs ys);
}

-- what is skipped as a whole
pub skipped : (left skip : ℕ) (xs : Pairs) → length xs ≤ skip → take left (drop skip xs) ≡ []
skipped left skip xs le = ap (take left) (drop_all skip xs le) ∙ window-nil left 0

-- ---- texts of a line

pub pairs-head : (texts : List (List ℕ)) → row_pairs (head_and_more texts) ≡ kind_and_more 116 texts
pairs-head [] = refl
pairs-head (t ∷ ts) = ap (λ (ps : Pairs). (116, t) ∷ ps) (go ts) where
  go : (ts : List (List ℕ)) → row_pairs (map more_row ts) ≡ map {B = ℕ × List ℕ} (λ t. (119, t)) ts
  go [] = refl
  go (x ∷ xs) = ap (λ (ps : Pairs). (119, x) ∷ ps) (go xs)

abbrev more : List ℕ → ℕ × List ℕ
more t = (119, t)

kind-map : (texts : List (List ℕ)) → kind_and_more 119 texts ≡ map {B = ℕ × List ℕ} (λ t. (119, t)) texts
kind-map [] = refl
kind-map (t ∷ ts) = refl

pub take-kind : (n kind : ℕ) (texts : List (List ℕ)) → take n (kind_and_more kind texts) ≡ kind_and_more kind (take n texts)
take-kind zero kind texts = refl
take-kind (suc n) kind [] = refl
take-kind (suc n) kind (t ∷ ts) = ap (λ (ps : Pairs). (kind, t) ∷ ps) (take-map more n ts)

pub drop-kind : (n kind : ℕ) (texts : List (List ℕ)) → drop (suc n) (kind_and_more kind texts) ≡ kind_and_more 119 (drop (suc n) texts)
drop-kind n kind [] = refl
drop-kind n kind (t ∷ ts) = drop-map more n ts ∙ sym (kind-map (drop n ts))

pub length-kind : (kind : ℕ) (texts : List (List ℕ)) → length (kind_and_more kind texts) ≡ length texts
length-kind kind [] = refl
length-kind kind (t ∷ ts) = ap suc (length-map ts (λ t. (119, t)))

-- one more text
abbrev pub after : ℕ → List (List ℕ) → ℕ
after kind [] = kind
after kind (t ∷ ts) = 119

pub kind-push : (kind : ℕ) (texts : List (List ℕ)) (text : List ℕ) → kind_and_more kind (texts ++ text ∷ []) ≡ kind_and_more kind texts ++ (after kind texts, text) ∷ []
kind-push kind [] text = refl
kind-push kind (t ∷ ts) text = ap (λ (ps : Pairs). (kind, t) ∷ ps) (go ts) where
  go : (ts : List (List ℕ)) → map {B = ℕ × List ℕ} (λ t. (119, t)) (ts ++ text ∷ []) ≡ map {B = ℕ × List ℕ} (λ t. (119, t)) ts ++ (119, text) ∷ []
  go [] = refl
  go (x ∷ xs) = ap (λ (ps : Pairs). (119, x) ∷ ps) (go xs)

pub after-push : (kind : ℕ) (texts : List (List ℕ)) (text : List ℕ) → after kind (texts ++ text ∷ []) ≡ 119
after-push kind [] text = refl
after-push kind (t ∷ ts) text = refl

-- one more row
pub shown-push : (shown : List Shown) (s : Shown) → shown_pairs (shown ++ s ∷ []) ≡ shown_pairs shown ++ (letter_of s.kind, s.text) ∷ []
shown-push [] s = refl
shown-push (x ∷ xs) s = ap (λ (ps : Pairs). (letter_of x.kind, x.text) ∷ ps) (shown-push xs s)

abbrev unpaired : Pairs → List Row
unpaired pairs = map (λ p. record { kind = p.0; text = p.1 }) pairs

unpaired-pairs : (rows : List Row) → unpaired (row_pairs rows) ≡ rows
unpaired-pairs [] = refl
unpaired-pairs (r ∷ rs) = ap (λ (l : List Row). r ∷ l) (unpaired-pairs rs)

pub same-rows : (xs ys : List Row) → row_pairs xs ≡ row_pairs ys → xs ≡ ys
same-rows xs ys e = sym (unpaired-pairs xs) ∙ ap unpaired e ∙ unpaired-pairs ys

-- the kept of a line that doesn't go past as a whole
pub passed-texts : (texts kept : List (List ℕ)) (kind : ℕ) (a : Window) → kept ≡ take a.left (drop a.skip texts) →
    (a.skip ≡ 0 → kind ≡ 116) → (0 < a.skip → kind ≡ 119) →
    take a.left (drop a.skip (row_pairs (head_and_more texts))) ≡ kind_and_more kind kept
passed-texts texts kept kind a is head more = ap (λ (l : Pairs). take a.left (drop a.skip l)) (pairs-head texts) ∙ go a.skip head more ∙ ap (kind_and_more kind) (sym is) where
  go : (skip : ℕ) → (skip ≡ 0 → kind ≡ 116) → (0 < skip → kind ≡ 119) → take a.left (drop skip (kind_and_more 116 texts)) ≡ kind_and_more kind (take a.left (drop skip texts))
  go zero head more = take-kind a.left 116 texts ∙ ap (λ (k : ℕ). kind_and_more k (take a.left texts)) (sym (head refl))
  go (suc n) head more =
      ap (take a.left) (drop-kind n 116 texts) ∙ take-kind a.left 119 (drop (suc n) texts)
      ∙ ap (λ (k : ℕ). kind_and_more k (take a.left (drop (suc n) texts))) (sym (more (omega arith)))

-- ---- all rows up to a line

-- of rows that went past a window those from a number on, up to a count
pub record HasKept (first count : ℕ) (rows : Pairs) (w : Window) : Type 0 where
  pub kept : shown_pairs w.rows.items ≡ take count (drop first rows)
  pub skip : w.skip ≡ first - length rows
  pub left : w.left ≡ count - (length rows - first)

pub kept-append : (first count : ℕ) (xs ys : Pairs) (v w : Window) → HasKept first count xs v → HasPassed ys v w → HasKept first count (xs ++ ys) w
kept-append first count xs ys v w f g = record {
  kept =
      g.kept
      ∙ (λ i. f.kept i ++ take (f.left i) (drop (f.skip i) ys))
      ∙ sym (window-part count first xs ys);
  skip = omega (arith, f.skip, g.skip, length-append xs ys);
  left = omega (arith, f.left, g.left, f.skip, length-append xs ys);
}

-- a full window keeps nothing of what follows
pub kept-full : (first count : ℕ) (xs ys : Pairs) (w : Window) → HasKept first count xs w → w.left ≡ 0 → shown_pairs w.rows.items ≡ take count (drop first (xs ++ ys))
kept-full first count xs ys w f full =
    f.kept
    ∙ sym (append-nil (take count (drop first xs)))
    ∙ ap (λ (n : ℕ). take count (drop first xs) ++ take n (drop (first - length xs) ys)) (sym full ∙ f.left)
    ∙ sym (window-part count first xs ys)

pub kept-rows : (first count : ℕ) (shown : List Shown) (rows : List Row) → shown_pairs shown ≡ take count (drop first (row_pairs rows)) → shown_rows shown ≡ take count (drop first rows)
kept-rows first count shown rows e =
    let pair : Row → ℕ × List ℕ = λ row. (row.kind, row.text) in
    same-rows (shown_rows shown) (take count (drop first rows)) (e ∙ ap (take count) (drop-map pair first rows) ∙ take-map pair count (drop first rows))

-- the rows of a line more
pub rows-split : (lines : List (List Row)) (k : ℕ) → row_pairs (flat_map (λ rows. rows) lines) ≡ row_pairs (flat_map (λ rows. rows) (take k lines)) ++ row_pairs (flat_map (λ rows. rows) (drop k lines))
rows-split lines k =
    ap (λ (ls : List (List Row)). row_pairs (flat_map (λ rows. rows) ls)) (sym (take-append-drop k lines))
    ∙ ap row_pairs (flat_map-append (λ (rows : List Row). rows) (take k lines) (drop k lines))
    ∙ pairs-append (flat_map (λ rows. rows) (take k lines)) (flat_map (λ rows. rows) (drop k lines))

-- ---- a line goes past

took : (n : ℕ) (xs : List (List ℕ)) → n - length (take n xs) ≡ n - length xs
took zero xs = omega arith
took (suc n) [] = refl
took (suc n) (x ∷ xs) = omega (arith, took n xs)

line-size : (texts : List (List ℕ)) → length (row_pairs (head_and_more texts)) ≡ length texts
line-size texts = ap length (pairs-head texts) ∙ length-kind 116 texts

pub passed-skipped : (texts : List (List ℕ)) (w v : Window) → length texts ≤ w.skip → shown_pairs v.rows.items ≡ shown_pairs w.rows.items → v.skip ≡ w.skip - length texts → v.left ≡ w.left →
    HasPassed (row_pairs (head_and_more texts)) w v
passed-skipped texts w v le same skip left = record {
  kept =
      same
      ∙ sym (append-nil (shown_pairs w.rows.items))
      ∙ ap (λ (l : Pairs). shown_pairs w.rows.items ++ l) (sym (skipped w.left w.skip (row_pairs (head_and_more texts)) (omega (arith, le, line-size texts))));
  skip = omega (arith, skip, line-size texts);
  left = omega (arith, left, le, line-size texts);
}

pub passed-kept : (texts kept : List (List ℕ)) (kind : ℕ) (w v : Window) → w.skip < length texts → kept ≡ take w.left (drop w.skip texts) → (w.skip ≡ 0 → kind ≡ 116) → (0 < w.skip → kind ≡ 119) →
    shown_pairs v.rows.items ≡ shown_pairs w.rows.items ++ kind_and_more kind kept → v.skip ≡ 0 → v.left ≡ w.left - length kept → HasPassed (row_pairs (head_and_more texts)) w v
passed-kept texts kept kind w v lt is head more added skip left = record {
  kept = added ∙ ap (λ (l : Pairs). shown_pairs w.rows.items ++ l) (sym (passed-texts texts kept kind w is head more));
  skip = omega (arith, skip, lt, line-size texts);
  left = omega (arith, left, ap length is, took w.left (drop w.skip texts), length-drop w.skip texts, line-size texts);
}

-- ---- one row

one : (rows : List Row) (n : ℕ) → take 1 (drop n rows) ≡ option_to_list (slice_get rows n)
one [] zero = refl
one [] (suc n) = refl
one (r ∷ rs) zero = refl
one (r ∷ rs) (suc n) = one rs n

-- the last row of at most one
pub last-row : (shown rest : List Shown) (last : Option Shown) (rows : List Row) (n : ℕ) → shown ≡ rest ++ option_to_list last →
    (0 < length shown → IsSome last) → shown_rows shown ≡ take 1 (drop n rows) → shown_row last ≡ slice_get rows n
last-row shown rest None rows n split some is = go shown some (slice_get rows n) (is ∙ one rows n) where
  go : (shown : List Shown) → (0 < length shown → IsSome {T = Shown} None) → (found : Option Row) → shown_rows shown ≡ option_to_list found → None ≡ found
  go [] some None e = refl
  go [] some (Some r) e = absurd (omega (arith, ap length e))
  go (s ∷ ss) some found e = let no : false ≡ true = some (omega arith) in absurd (cc)
last-row shown rest (Some s) rows n split some is = go rest (slice_get rows n) (sym (ap shown_rows split) ∙ is ∙ one rows n) where
  go : (rest : List Shown) (found : Option Row) → shown_rows (rest ++ s ∷ []) ≡ option_to_list found → Some (row_of_shown s) ≡ found
  go [] None e = absurd (omega (arith, ap length e))
  go [] (Some r) e = let same : row_of_shown s ∷ [] ≡ r ∷ [] = e in cc
  go (t ∷ ts) None e = absurd (omega (arith, ap length e))
  go (t ∷ ts) (Some r) e = absurd (omega (arith, ap length e, length-map (ts ++ s ∷ []) row_of_shown, length-append ts (s ∷ [])))
