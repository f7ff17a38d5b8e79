-- The lines of a lawful record have room, and so have their rows.
use Rattle.std.proofs.Common.{◌≡◌, ◌≤◌, ◌^◌, length, arith}
use Rattle.std.proofs.lemmas.List.{length-map}
use Rattle.cell_units.specs.declared.limits.TheConstants.{LAID_LIMIT}
use Rattle.cell_units.specs.Lawful.{IsLawful}
use Rattle.cell_units.specs.LineCounts.{lines_of}
use Rattle.cell_units.specs.Record.{Mark, Record}
use Rattle.cell_units.specs.Rows.{all_rows}
use Rattle.plain_rows.specs.Rows.{line_elements}
use Rattle.plain_rows.proofs.SpotSizes.{length-elements, lines-count_of}
use Rattle.kept_sheet.specs.Kept.{widths_of}
use Rattle.wrap_map.specs.Standing.{Standing}
use Rattle.wrap_map.proofs.Rooms.{rows-few}
use Rattle.wrap_map.proofs.Standings.{length-pairs, rows-stood, texts}
use Rattle.wrapped_lines.specs.WrappedSource.{HaveRoom}
use Rattle.wrapped_lines.proofs.LawfulLines.{lawful-room, lawful-sum}
use Rattle.blocked_rows.specs.Records.{row_texts}

module _ (r : Record) (lawful : IsLawful r) (short : length r.text ≤ LAID_LIMIT) where
  pub lines-room : HaveRoom (line_elements r)
  lines-room = lawful-room r lawful short

  pub rows-room : length (all_rows (row_texts r)) ≤ 2 ^ 31
  rows-room =
      let s : Standing = record { lines = line_elements r; marks = widths_of r } in
      let rows = rows-stood s in
      let most = rows-few (line_elements r) (widths_of r) in
      omega (arith, rows, most, lawful-sum r lawful short)

  pub marks-each : length (widths_of r) ≡ length (line_elements r)
  marks-each = omega (arith, length-map r.marks (λ (m : Mark). m.width), length-elements r lawful short)

  pub rows-each : length (lines_of r) ≡ length (row_texts r)
  rows-each =
      omega (arith, lines-count_of r lawful short, length-elements r lawful short, length-pairs texts (line_elements r) (widths_of r) marks-each)
