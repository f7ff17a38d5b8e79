-- The display lines that a job holds, and one of them.
use Rattle.std.specs.Prelude.{ℕ, List, map}
use Rattle.std.specs.Arc.{arc_value}
use Rattle.cell_units.specs.Layers.{Source, shown_lines}
use Rattle.cell_units.specs.Lawful.{IsTab, IsWellFormed}
use Rattle.cell_line.specs.Elements.{elements_of}
use Rattle.cell_line.specs.Lines.{LineFitsU32}
use Rattle.cell_line.specs.declared.element.Element.{Element}
use Rattle.plain_rows.specs.FoldedLines.{AreLinesOf}
use Rattle.plain_rows.specs.Plain.{fold_of, inlay_of}
use Rattle.display_sheet.specs.declared.held.Held.TheInside.{Inside}
use Rattle.display_sheet.specs.declared.piece_line.PieceLine.TheInside as inside_line

-- the elements of each display line that the source shows
abbrev pub shown_elements : ℕ → Source → List (List Element)
shown_elements tab source = map (λ pieces. elements_of pieces tab) (shown_lines source)

abbrev pub source_in : Inside → Source
source_in h = record {
  text = arc_value h.text;
  inlays = map inlay_of (arc_value h.inlays).items;
  folds = map fold_of (arc_value h.folds).items;
}

-- the elements of each display line
abbrev pub elements_in : Inside → List (List Element)
elements_in h = shown_elements h.tab (source_in h)

pub record KeepsLines (h : Inside) : Type 0 where
  pub formed : IsWellFormed (source_in h)
  pub laid_out : AreLinesOf (source_in h) (arc_value h.lines)
  pub tab : IsTab h.tab

-- ---- one line

abbrev pub elements_in_line : inside_line.Inside → List Element
elements_in_line l = elements_of l.pieces.items l.tab

abbrev pub FitsLine : inside_line.Inside → Type 0
FitsLine l = IsTab l.tab × LineFitsU32 (elements_in_line l)
