-- The lines of a text in which bytes were replaced.
use Rattle.std.proofs.Common.{◌≡◌, ℕ, ◌+◌, ◌<◌, zero, suc, cond, Bool, true, false, List, [], ◌∷◌, ◌++◌, length, take, drop, refl, sym, ap, ◌∙◌, arith}
use Rattle.std.specs.List.{count_by}
use Rattle.std.proofs.lemmas.List.{append_assoc, take-append-drop}
use Rattle.cell_units.specs.Text.{is_feed, row_of}
use Rattle.cell_units.specs.Cutting.{onto_line}
use Rattle.cell_units.specs.Operation.{replaced_text}
use Rattle.cell_units.specs.BufferLines.{buffer_lines}
use Rattle.cell_units.proofs.BufferLines.{feeds-cons, feeds-append, length-buffer_lines}

feeds-feed : (x : ℕ) (xs : List ℕ) → is_feed x ≡ true → count_by is_feed (x ∷ xs) ≡ suc (count_by is_feed xs)
feeds-feed x xs e = omega (arith, feeds-cons x xs, ap {B = ℕ} (λ (c : Bool). cond c 1 0) e)

feeds-other : (x : ℕ) (xs : List ℕ) → is_feed x ≡ false → count_by is_feed (x ∷ xs) ≡ count_by is_feed xs
feeds-other x xs e = omega (arith, feeds-cons x xs, ap {B = ℕ} (λ (c : Bool). cond c 1 0) e)

take_onto : (n x : ℕ) (lines : List (List ℕ)) → take (suc n) (onto_line x lines) ≡ onto_line x (take (suc n) lines)
take_onto zero x [] = refl
take_onto (suc n) x [] = refl
take_onto n x (l ∷ ls) = refl

take_both : (n x : ℕ) (lines others : List (List ℕ)) → take n lines ≡ take n others → take n (onto_line x lines) ≡ take n (onto_line x others)
take_both zero x lines others e = refl
take_both (suc n) x lines others e = take_onto n x lines ∙ ap (onto_line x) e ∙ sym (take_onto n x others)

drop_onto : (n x : ℕ) (lines : List (List ℕ)) → 0 < length lines → drop (n + 1) (onto_line x lines) ≡ drop (n + 1) lines
drop_onto n x [] some = absurd (omega arith)
drop_onto n x (l ∷ ls) some =
    let e : n + 1 ≡ suc n = omega arith in
    ap (λ (k : ℕ). drop k ((x ∷ l) ∷ ls)) e ∙ ap (λ (k : ℕ). drop k (l ∷ ls)) (sym e)

-- the first lines of joined bytes are those of the first of them
take_lines-append : (xs ys zs : List ℕ) → take (count_by is_feed xs) (buffer_lines (xs ++ ys)) ≡ take (count_by is_feed xs) (buffer_lines (xs ++ zs))
take_lines-append [] ys zs = refl
take_lines-append (x ∷ xs) ys zs = go (is_feed x) refl (take_lines-append xs ys zs) where
  go : (c : Bool) → is_feed x ≡ c → take (count_by is_feed xs) (buffer_lines (xs ++ ys)) ≡ take (count_by is_feed xs) (buffer_lines (xs ++ zs)) →
      take (count_by is_feed (x ∷ xs)) (cond c ([] ∷ buffer_lines (xs ++ ys)) (onto_line x (buffer_lines (xs ++ ys))))
      ≡ take (count_by is_feed (x ∷ xs)) (cond c ([] ∷ buffer_lines (xs ++ zs)) (onto_line x (buffer_lines (xs ++ zs))))
  go true e same =
      ap (λ (k : ℕ). take k ([] ∷ buffer_lines (xs ++ ys))) (feeds-feed x xs e)
      ∙ ap (λ (l : List (List ℕ)). [] ∷ l) same
      ∙ ap (λ (k : ℕ). take k ([] ∷ buffer_lines (xs ++ zs))) (sym (feeds-feed x xs e))
  go false e same =
      ap (λ (k : ℕ). take k (onto_line x (buffer_lines (xs ++ ys)))) (feeds-other x xs e)
      ∙ take_both (count_by is_feed xs) x (buffer_lines (xs ++ ys)) (buffer_lines (xs ++ zs)) same
      ∙ ap (λ (k : ℕ). take k (onto_line x (buffer_lines (xs ++ zs)))) (sym (feeds-other x xs e))

-- after the line in which they are joined the lines are those of the second of them
drop_lines-append : (xs ys : List ℕ) → drop (count_by is_feed xs + 1) (buffer_lines (xs ++ ys)) ≡ drop 1 (buffer_lines ys)
drop_lines-append [] ys = refl
drop_lines-append (x ∷ xs) ys = go (is_feed x) refl (drop_lines-append xs ys) where
  go : (c : Bool) → is_feed x ≡ c → drop (count_by is_feed xs + 1) (buffer_lines (xs ++ ys)) ≡ drop 1 (buffer_lines ys) →
      drop (count_by is_feed (x ∷ xs) + 1) (cond c ([] ∷ buffer_lines (xs ++ ys)) (onto_line x (buffer_lines (xs ++ ys)))) ≡ drop 1 (buffer_lines ys)
  go true e same =
      let one_more : count_by is_feed (x ∷ xs) + 1 ≡ suc (count_by is_feed xs + 1) = omega (arith, feeds-feed x xs e) in
      ap (λ (k : ℕ). drop k ([] ∷ buffer_lines (xs ++ ys))) one_more ∙ same
  go false e same =
      ap (λ (k : ℕ). drop (k + 1) (onto_line x (buffer_lines (xs ++ ys)))) (feeds-other x xs e)
      ∙ drop_onto (count_by is_feed xs) x (buffer_lines (xs ++ ys)) (omega (arith, length-buffer_lines (xs ++ ys)))
      ∙ same

-- a replacement leaves the lines above the row of its start
pub lines_above-replaced : (text : List ℕ) (a b : ℕ) (s : List ℕ) →
    take (row_of text a) (buffer_lines (replaced_text text a b s)) ≡ take (row_of text a) (buffer_lines text)
lines_above-replaced text a b s =
    take_lines-append (take a text) (s ++ drop b text) (drop a text)
    ∙ ap (λ (t : List ℕ). take (row_of text a) (buffer_lines t)) (take-append-drop a text)

-- and those after the row of its end
pub lines_below-replaced : (text : List ℕ) (a b : ℕ) (s : List ℕ) →
    drop (row_of text a + (count_by is_feed s + 1)) (buffer_lines (replaced_text text a b s)) ≡ drop (row_of text b + 1) (buffer_lines text)
lines_below-replaced text a b s =
    let feeds : row_of text a + (count_by is_feed s + 1) ≡ count_by is_feed (take a text ++ s) + 1 = omega (arith, feeds-append (take a text) s) in
    (λ i. drop (feeds i) (buffer_lines (sym (append_assoc (take a text) s (drop b text)) i)))
    ∙ drop_lines-append (take a text ++ s) (drop b text)
    ∙ sym (drop_lines-append (take b text) (drop b text))
    ∙ ap (λ (t : List ℕ). drop (row_of text b + 1) (buffer_lines t)) (take-append-drop b text)
