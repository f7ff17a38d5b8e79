use Rattle.std.proofs.Common.{◌≡◌, ◌<◌, ◌≤◌, ℕ, List, drop, length, not, ap, sym, ◌∙◌, arith, length-drop}
use Rattle.std.proofs.lemmas.List.Sums.{prefix_len-le-length}
use Rattle.cell_units.specs.declared.place.Bias.TheVariants.{Right}
use Rattle.cell_units.specs.Text.{is_feed, row_end}
use Rattle.cell_units.specs.Record.{Record}
use Rattle.cell_units.specs.Folded.{line_of}
use Rattle.cell_units.specs.LineCounts.{line_of_row_end, lines_of}
use Rattle.cell_units.specs.Lawful.{HasLawfulEntries, source_of}
use Rattle.cell_units.proofs.TouchedRuns.{rows_are_one_run}
use Rattle.display_sheet.proofs.sheet.end_line.Goals as goal

end_within : (text : List ℕ) (o : ℕ) → o ≤ length text → row_end text o ≤ length text
end_within text o le = omega (arith, prefix_len-le-length (λ b. not (is_feed b)) (drop o text), length-drop o text)

last_within : (r : Record) → HasLawfulEntries r → (o : ℕ) → o ≤ length r.text → line_of_row_end r o < length (lines_of r)
last_within r is o le = (rows_are_one_run r is o o (omega arith) le).1

pub returns : goal.returns
returns c r is laid same =
    let offset = c.args.offset in
    let within : offset ≤ length r.text = omega (arith, ap length same, c.requires) in
    let end : c.row_end.result ≡ row_end r.text offset = c.row_end.ensures ∙ ap (λ (t : List ℕ). row_end t offset) (sym same) in
    let last : c.line_of-last.result ≡ line_of_row_end r offset =
    c.line_of-last.ensures (source_of r) laid (omega (arith, end, end_within r.text offset within)) ∙ ap (λ (o : ℕ). line_of r.text r.inlays r.folds o Right) end in
    let count = c.lines.ensures (source_of r) laid in
    omega (arith, c.saturating_add.ensures, c.min.ensures, last, count, last_within r is offset within)
