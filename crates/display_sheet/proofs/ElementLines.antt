-- A record has one list of elements for each display line.
use Rattle.std.proofs.Common.{◌≡◌, ◌∙◌, length}
use Rattle.std.proofs.lemmas.List.{length-map}
use Rattle.cell_units.specs.Record.{Record}
use Rattle.cell_units.specs.Folded.{display_lines}
use Rattle.cell_units.specs.Pieces.{folded_lines, pieces_of}
use Rattle.cell_line.specs.Elements.{elements_of}
use Rattle.plain_rows.specs.Rows.{line_elements}

pub elements_long : (r : Record) → length (line_elements r) ≡ length (display_lines r.text r.inlays r.folds)
elements_long r =
    length-map (folded_lines r.text r.inlays r.folds) (λ pieces. elements_of pieces r.tab)
    ∙ length-map (display_lines r.text r.inlays r.folds) pieces_of
