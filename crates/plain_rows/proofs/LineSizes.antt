-- How many bytes one display line shows at most.
use Rattle.std.proofs.Common.{◌≡◌, ℕ, ◌+◌, ◌≤◌, suc, zero, Bool, true, false, cond, Some, None, List, [], ◌∷◌, length, map, get_or, refl, sym, ap, ◌∙◌, arith, length-append}
use Rattle.std.specs.List.{slice_get}
use Rattle.cell_units.specs.declared.piece.Piece.{Piece}
use Rattle.cell_units.specs.Cutting.{cut_lines, onto_line}
use Rattle.cell_units.specs.Inlaid.{Token, is_break}
use Rattle.cell_units.specs.Folded.{display_lines, folded}
use Rattle.cell_units.specs.Layers.{Source, shown_lines}
use Rattle.cell_units.specs.Pieces.{before_break, pieces_of}
use Rattle.cell_units.proofs.ShownText.{bytes-pieces_of, line_bytes}
use Rattle.cell_line.specs.Elements.{bytes_in}
use Rattle.plain_rows.specs.FoldedLines.{IsLawfulSource}
use Rattle.plain_rows.proofs.ShownSizes.{folded-size, size, size-append}

pub bytes-in : (ps : List Piece) → bytes_in ps ≡ length (line_bytes ps)
bytes-in [] = refl
bytes-in (p ∷ ps) = ap (λ (n : ℕ). length p.text + n) (bytes-in ps) ∙ sym (length-append p.text (line_bytes ps))

pub front-size : (l : List Token) → size (before_break l) ≤ size l
front-size [] = omega arith
front-size (t ∷ []) = omega arith
front-size (t ∷ u ∷ us) = omega (arith, size-append (t ∷ []) (before_break (u ∷ us)), size-append (t ∷ []) (u ∷ us), front-size (u ∷ us))

onto-first : (t : Token) (ls : List (List Token)) → get_or (onto_line t ls) 0 [] ≡ t ∷ get_or ls 0 []
onto-first t [] = refl
onto-first t (l ∷ ls) = refl

onto-later : (t : Token) (ls : List (List Token)) (k : ℕ) → get_or (onto_line t ls) (suc k) [] ≡ get_or ls (suc k) []
onto-later t [] k = refl
onto-later t (l ∷ ls) k = refl

line-size : (ts : List Token) (k : ℕ) → size (get_or (cut_lines is_break ts) k []) ≤ size ts
line-size [] k = omega arith
line-size (t ∷ ts) k = go (is_break t) k (line-size ts) where
  go : (c : Bool) (k : ℕ) → ((k : ℕ) → size (get_or (cut_lines is_break ts) k []) ≤ size ts) →
      size (get_or (cond c ((t ∷ []) ∷ cut_lines is_break ts) (onto_line t (cut_lines is_break ts))) k []) ≤ size (t ∷ ts)
  go true zero rest = omega (arith, size-append (t ∷ []) ts)
  go true (suc k) rest = omega (arith, rest k, size-append (t ∷ []) ts)
  go false zero rest =
      omega (arith, rest 0, ap size (onto-first t (cut_lines is_break ts)), size-append (t ∷ []) (get_or (cut_lines is_break ts) 0 []), size-append (t ∷ []) ts)
  go false (suc k) rest = omega (arith, rest (suc k), ap size (onto-later t (cut_lines is_break ts) k), size-append (t ∷ []) ts)

mapped : {X Y : Type 0} (f : X → Y) (xs : List X) (k : ℕ) (d : X) (y : Y) → slice_get (map f xs) k ≡ Some y → y ≡ f (get_or xs k d)
mapped f [] k d y is = let no' : None ≡ Some y = is in absurd (cc)
mapped f (x ∷ xs) zero d y is = let e : Some (f x) ≡ Some y = is in cc
mapped f (x ∷ xs) (suc k) d y is = mapped f xs k d y is

-- the bytes of a display line's pieces
pub pieces-size : (s : Source) → IsLawfulSource s → (k : ℕ) (ps : List Piece) → slice_get (shown_lines s) k ≡ Some ps → bytes_in ps ≤ 134348801
pieces-size s lawful k ps is =
    let l = get_or (display_lines s.text s.inlays s.folds) k [] in
    let same : ps ≡ pieces_of l = mapped pieces_of (display_lines s.text s.inlays s.folds) k [] ps is in
    omega (
      arith,
      ap bytes_in same,
      bytes-in (pieces_of l),
      ap length (bytes-pieces_of l),
      front-size l,
      line-size (folded s.text s.inlays s.folds) k,
      folded-size s lawful,
    )

-- what a read in the list gives
pub read-some : {X : Type 0} (xs : List X) (k : ℕ) (d x : X) → slice_get xs k ≡ Some x → get_or xs k d ≡ x
read-some [] k d x is = let none : None ≡ Some x = is in absurd (cc)
read-some (y ∷ ys) zero d x is = let e : Some y ≡ Some x = is in cc
read-some (y ∷ ys) (suc k) d x is = read-some ys k d x is
