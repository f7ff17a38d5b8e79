-- One display line out of those that are shown.
use Rattle.std.proofs.Common.{◌≡◌, ℕ, ◌<◌, ◌≤◌, Some, List, [], length, get_or, sym, ap, ◌∙◌, arith}
use Rattle.std.specs.List.{slice_get}
use Rattle.std.proofs.lemmas.List.{get_or-map}
use Rattle.cell_units.specs.declared.piece.Piece.{Piece}
use Rattle.cell_units.specs.Layers.{Source, shown_lines}
use Rattle.cell_line.specs.Elements.{elements_of}
use Rattle.cell_line.specs.Lines.{LineFitsU32}
use Rattle.cell_line.proofs.CellBounds.{length-elements_of, total_cells-le}
use Rattle.plain_rows.specs.FoldedLines.{IsLawfulSource}
use Rattle.plain_rows.proofs.LineSizes.{pieces-size, read-some}
use Rattle.display_sheet.specs.HeldLines.{shown_elements}

module _ (tab : ℕ) (s : Source) (line : ℕ) (pieces : List Piece) (is : slice_get (shown_lines s) line ≡ Some pieces) where
  pub line-found : line < length (shown_lines s) → elements_of pieces tab ≡ get_or (shown_elements tab s) line []
  line-found lt =
      ap (λ (ps : List Piece). elements_of ps tab) (sym (read-some (shown_lines s) line [] pieces is))
      ∙ sym (get_or-map (λ (ps : List Piece). elements_of ps tab) (shown_lines s) line [] [] lt)

  pub line-fits : tab ≤ 16 → IsLawfulSource s → LineFitsU32 (elements_of pieces tab)
  line-fits small lawful =
      let size = pieces-size s lawful line pieces is in
      (omega (arith, size, length-elements_of pieces tab), omega (arith, size, total_cells-le pieces tab small))
