-- The elements of a line one after another, as far as wrapping asks for them.
use Rattle.std.specs.Prelude.{◌≡◌, ◌<◌, ◌≤◌, ◌==◌, ◌++◌, ℕ, zero, suc, false, List, [], ◌∷◌, Option, Some, None, drop, length, take, true}
use Rattle.std.specs.Str.{IsUtf8}
use Rattle.unicode_segmentation.specs.Grapheme.{graphemes}
use Rattle.cell_units.specs.declared.piece.Piece.{Piece}
use Rattle.cell_line.specs.declared.element.Element.{Element}
use Rattle.cell_line.specs.declared.mark.Mark.{Mark}
use Rattle.cell_line.specs.declared.mark.Lead.{Lead}
use Rattle.cell_line.specs.declared.mark.Walk.{Walk}
use Rattle.cell_line.specs.declared.mark.Walk.TheVariants.{Elements, Pieces}
use Rattle.cell_line.specs.Elements.{cells_of, clusters, is_tab, total_cells}
use Rattle.cell_line.specs.Wrapping.{is_blank, is_wide, lead_of}

-- the text is where a line goes on that has `rest` and the pieces from `begun` on left: in `rest`, or in a later piece
pub record IsNextText (pieces : List Piece) (begun : ℕ) (rest : List ℕ) (begun' : ℕ) (text : List ℕ) : Type 0 where
  pub some : 0 < length text
  pub utf8 : IsUtf8 text
  pub within : begun' ≤ length pieces
  pub same : graphemes true rest ++ clusters (drop begun pieces) ≡ graphemes true text ++ clusters (drop begun' pieces)

-- of the elements, the first was given and the others are left; none was given where there was none
abbrev pub IsTaken : List Element → Option Element → List Element → Type 0
IsTaken es None rest = (es ≡ []) × (rest ≡ [])
IsTaken es (Some e) rest = es ≡ e ∷ rest

-- the element of a cluster that `column` cells of its line precede
abbrev pub element_of : ℕ → ℕ → List ℕ → Element
element_of tab column cluster = record { text = cluster; cells = cells_of tab column cluster; tab = is_tab cluster }

-- what wrapping asks of an element
abbrev pub mark_of : Element → Mark
mark_of e = record { cells = e.cells; blank = is_blank e; wide = is_wide e }

-- the same with the mark of the element that was given
abbrev pub IsMarked : List Element → Option Mark → List Element → Type 0
IsMarked es None rest = (es ≡ []) × (rest ≡ [])
IsMarked es (Some mark) rest = (e : Element) × (es ≡ e ∷ rest) × (mark ≡ mark_of e)

-- the mark of a letter
abbrev pub letter : Mark
letter = record { cells = 1; blank = false; wide = false }

-- of the elements, so many letters were taken and the others are left
abbrev pub AreLetters : List Element → ℕ → List Element → Type 0
AreLetters es zero rest = es ≡ rest
AreLetters es (suc n) rest = (e : Element) × (more : List Element) × (es ≡ e ∷ more) × (letter ≡ mark_of e) × AreLetters more n rest

-- the elements that are left
abbrev pub left_of : Walk → List Element
left_of (Pieces es) = es
left_of (Elements es) = es.now

-- the blanks that lead a line
pub record IsLead (es : List Element) (lead : Lead) : Type 0 where
  pub count : lead.count ≡ lead_of es
  pub cells : lead.cells ≡ total_cells (take (lead_of es) es)
  pub alone : lead.alone ≡ (lead_of es == length es)
