-- The rows of a text in which bytes were replaced.
use Rattle.std.proofs.Common.{◌≡◌, ℕ, ◌+◌, ◌-◌, ◌<◌, ◌≤◌, cond, List, ◌++◌, length, take, drop, sym, ap, ◌∙◌, arith, length-append, length-drop}
use Rattle.std.specs.List.{count_by}
use Rattle.std.proofs.lemmas.List.{append_assoc, take-append-drop, take-take, take-append-le, take_at, length-take-le}
use Rattle.std.proofs.lemmas.List.Sums.{sum_by-take-le}
use Rattle.cell_units.specs.Text.{is_feed, row_of}
use Rattle.cell_units.specs.Record.{line_count}
use Rattle.cell_units.specs.Operation.{replaced_text}
use Rattle.cell_units.proofs.BufferLines.{feeds-append, line_count-is}

-- the lines up to an offset's and those after it
pub line_count_at : (text : List ℕ) (o : ℕ) → line_count text ≡ row_of text o + count_by is_feed (drop o text) + 1
line_count_at text o =
    line_count-is text
    ∙ ap (λ (t : List ℕ). count_by is_feed t + 1) (sym (take-append-drop o text))
    ∙ ap (λ (n : ℕ). n + 1) (feeds-append (take o text) (drop o text))

pub row_of-lt : (text : List ℕ) (o : ℕ) → row_of text o < line_count text
row_of-lt text o = omega (arith, line_count_at text o)

pub row_of-le : (text : List ℕ) (a b : ℕ) → a ≤ b → row_of text a ≤ row_of text b
row_of-le text a b le =
    omega (arith, sum_by-take-le (λ (c : ℕ). cond (is_feed c) 1 0) (take b text) a, ap (count_by is_feed) (take-take a b text le))

pub length-replaced_text : (text : List ℕ) (a b : ℕ) (s : List ℕ) → a ≤ length text →
    length (replaced_text text a b s) ≡ a + length s + (length text - b)
length-replaced_text text a b s le =
    omega (arith, length-append (take a text) (s ++ drop b text), length-append s (drop b text), length-take-le a text le, length-drop b text)

-- what is before the replaced bytes stays
pub take-replaced_text : (text : List ℕ) (a b : ℕ) (s : List ℕ) (o : ℕ) → a ≤ length text → o ≤ a →
    take o (replaced_text text a b s) ≡ take o text
take-replaced_text text a b s o le before =
    take-append-le o (take a text) (s ++ drop b text) (omega (arith, length-take-le a text le)) ∙ take-take o a text before

pub row_of_start-replaced : (text : List ℕ) (a b : ℕ) (s : List ℕ) → a ≤ length text → row_of (replaced_text text a b s) a ≡ row_of text a
row_of_start-replaced text a b s le = ap (count_by is_feed) (take-replaced_text text a b s a le (omega arith))

pub row_of_end-replaced : (text : List ℕ) (a b : ℕ) (s : List ℕ) → a ≤ length text →
    row_of (replaced_text text a b s) (a + length s) ≡ row_of text a + count_by is_feed s
row_of_end-replaced text a b s le =
    let long : length (take a text ++ s) ≡ a + length s = omega (arith, length-append (take a text) s, length-take-le a text le) in
    ap (λ (t : List ℕ). row_of t (a + length s)) (sym (append_assoc (take a text) s (drop b text)))
    ∙ ap (count_by is_feed) (take_at (take a text ++ s) (drop b text) (a + length s) long)
    ∙ feeds-append (take a text) s
