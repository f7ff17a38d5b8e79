-- The lines `a` and tab, `b` have so few bytes that their elements and cells fit.
use Rattle.std.proofs.Common.{◌≡◌, ℕ, ◌≤◌, List, sym, subst, arith}
use Rattle.std.proofs.lemmas.List.Elements.{All-map, All-weaker}
use Rattle.std.specs.Prelude.{codes}
use Rattle.cell_units.specs.declared.piece.Piece.{Piece}
use Rattle.cell_units.specs.Layers.{plain_source, shown_lines}
use Rattle.cell_units.specs.Text.{clean}
use Rattle.cell_units.proofs.FoundEntries.{All-from_Every}
use Rattle.cell_line.specs.Elements.{bytes_in, elements_of}
use Rattle.cell_line.specs.Lines.{FitsU32, LineFitsU32}
use Rattle.cell_line.proofs.CellBounds.{length-elements_of, total_cells-le}
use Rattle.tab_map.specs.TabLines.{lines_at}

abbrev pub tabbed : List ℕ
tabbed = clean (codes "a\n\tb")

few_bytes-fit : (pieces : List Piece) → bytes_in pieces ≤ 100 → LineFitsU32 (elements_of pieces 8)
few_bytes-fit pieces few = (
  omega (arith, length-elements_of pieces 8, few),
  omega (arith, total_cells-le pieces 8 (omega arith), few),
)

tabbed-fits : FitsU32 (lines_at (plain_source tabbed) 8)
tabbed-fits =
    let lines = shown_lines (plain_source tabbed) in
    let Fits : List Piece → Type 0 = λ pieces. LineFitsU32 (elements_of pieces 8) in
    let Few : List Piece → Type 0 = λ pieces. bytes_in pieces ≤ 100 in (
      omega arith,
      All-map LineFitsU32 (λ pieces. elements_of pieces 8) lines (All-weaker Few Fits few_bytes-fit lines (All-from_Every Few lines (omega arith, (omega arith, tt)))),
    )

pub fits : (text : List ℕ) → text ≡ tabbed → FitsU32 (lines_at (plain_source text) 8)
fits text is = let Fits : List ℕ → Type 0 = λ text. FitsU32 (lines_at (plain_source text) 8) in subst Fits (sym is) tabbed-fits
