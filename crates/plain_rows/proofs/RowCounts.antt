-- How many rows a line has at most.
use Rattle.std.proofs.Common.{◌≡◌, ℕ, ◌+◌, ◌-◌, ◌≤◌, ◌==◌, suc, zero, Bool, true, false, cond, ltb, List, [], ◌∷◌, length, refl, ap, ◌∙◌, arith}
use Rattle.std.proofs.lemmas.List.{length-map}
use Rattle.cell_line.specs.declared.element.Element.{Element}
use Rattle.cell_line.specs.RowTexts.{later_text, parted, row_texts_of, texts_of_parts}
use Rattle.cell_line.specs.Wrapping.{cuts_of, indent_of, next_start_of, row_starts}

starts-size : (es : List Element) (room most start : ℕ) → length (row_starts es room most start) ≤ most
unfolding row_starts
starts-size es room zero start = omega arith
starts-size es room (suc most) start = go (ltb start (length es)) (starts-size es room most (next_start_of es room start)) where
  go : (c : Bool) → length (row_starts es room most (next_start_of es room start)) ≤ most → length (cond c (start ∷ row_starts es room most (next_start_of es room start)) []) ≤ suc most
  go true h = omega (arith, h)
  go false h = omega arith

pub cuts-size : (es : List Element) (width : ℕ) → length (cuts_of es width) ≤ length es
unfolding cuts_of
cuts-size es width = go (width == 0) where
  go : (c : Bool) → length (cond c [] (row_starts es (width - indent_of es width) (length es) (next_start_of es width 0))) ≤ length es
  go true = omega arith
  go false = starts-size es (width - indent_of es width) (length es) (next_start_of es width 0)

parted-size : (es : List Element) (start : ℕ) (cuts : List ℕ) → length (parted es start cuts) ≡ length cuts + 1
parted-size es start [] = refl
parted-size es start (cut ∷ cuts) = let e : suc (length cuts + 1) ≡ length (cut ∷ cuts) + 1 = omega arith in ap suc (parted-size es cut cuts) ∙ e

texts-size : (indent : ℕ) (parts : List (List Element)) → length (texts_of_parts indent parts) ≡ length parts
texts-size indent [] = refl
texts-size indent (part ∷ parts) = ap suc (length-map parts (later_text indent))

pub rows-size : (es : List Element) (width : ℕ) → length (row_texts_of es width) ≤ length es + 1
rows-size es width = omega (arith, texts-size (indent_of es width) (parted es 0 (cuts_of es width)), parted-size es 0 (cuts_of es width), cuts-size es width)
