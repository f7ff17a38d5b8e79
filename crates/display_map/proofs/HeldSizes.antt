-- The lines of a lawful record fit what a job may hold.
use Rattle.std.proofs.Common.{◌<◌, ◌≤◌, List, [], length, get_or, sym, subst, arith}
use Rattle.std.proofs.lemmas.List.Elements.{All-from_get_or}
use Rattle.cell_units.specs.declared.piece.Piece.{Piece}
use Rattle.cell_units.specs.Lawful.{IsLawful, source_of}
use Rattle.cell_units.specs.Pieces.{folded_lines}
use Rattle.cell_units.specs.Record.{Record}
use Rattle.cell_line.specs.Lines.{FitsU32, LineFitsU32}
use Rattle.cell_line.proofs.CellBounds.{length-elements_of, total_cells-le}
use Rattle.plain_rows.specs.Rows.{line_elements}
use Rattle.plain_rows.proofs.LawfulSources.{lawful_source}
use Rattle.plain_rows.proofs.LineSizes.{pieces-size}
use Rattle.plain_rows.proofs.SpotSizes.{elements-is, few-lines, length-elements, lines-count_of}
use Rattle.display_map.proofs.Jobs.{slice_get_some}

pub fits-lines : (r : Record) → IsLawful r → length r.text ≤ 67108864 → FitsU32 (line_elements r)
fits-lines r lawful short =
    let long = length-elements r lawful short in
    let few = few-lines r lawful short in (
      omega (arith, long, few),
      All-from_get_or LineFitsU32 (line_elements r) [] (λ k lt.
          let at : k < length r.marks = omega (arith, lt, long) in
          let pieces : List Piece = get_or (folded_lines r.text r.inlays r.folds) k [] in
          let some = slice_get_some (folded_lines r.text r.inlays r.folds) k [] (omega (arith, at, lines-count_of r lawful short)) in
          let bytes = pieces-size (source_of r) (lawful_source (source_of r) lawful.entries.source short) k pieces some in
          let tab = lawful.entries.tab in
          subst LineFitsU32 (sym (elements-is r lawful short k at)) (omega (arith, length-elements_of pieces r.tab, bytes), omega (arith, total_cells-le pieces r.tab tab.1, bytes))),
    )
