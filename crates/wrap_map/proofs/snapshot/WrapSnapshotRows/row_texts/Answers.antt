use Rattle.std.proofs.Common.{◌≡◌, ◌<◌, ℕ, List, IfOk, length, take, drop, ap, sym, subst, ◌∙◌}
use Rattle.cell_line.specs.Lines.{line_at}
use Rattle.cell_line.specs.RowTexts.{row_texts_of}
use Rattle.cell_line.specs.Wrapping.{cuts_of}
use Rattle.cell_units.specs.Lawful.{IsWidth}
use Rattle.cell_units.specs.Rows.{line_rows}
use Rattle.wrap_map.specs.Standing.{Standing, shown_rows}
use Rattle.wrap_map.specs.Stood.{Stood, stood_at}
use Rattle.wrap_map.proofs.Snapshots.{mark-lawful, rows-there, stood-there, within-lines}
use Rattle.wrap_map.proofs.snapshot.WrapSnapshotRows.row_texts.Goals as goal

pub row_texts-requires-clause-lawful : goal.row_texts-requires-clause-lawful
row_texts-requires-clause-lawful g c =
    let is = c.self.invariant.0 in
    let line = c.args.line in
    let there = subst (λ (t : Standing). line < length (shown_rows t)) (sym c.self.view_is) c.requires in
    let within = within-lines _ is line there in
    let stood = ap (λ (l : List Stood). stood_at l line) c.self.invariant.1 ∙ stood-there _ is line within in
    let mark = c.mark-width.ensures.mark ∙ ap (λ (l : Stood). l.mark) stood in
    subst (λ (w : ℕ). IsWidth w) (sym mark) (mark-lawful _ is line within)

pub row_texts-requires-clause-cut : goal.row_texts-requires-clause-cut
row_texts-requires-clause-cut g c =
    let is = c.self.invariant.0 in
    let line = c.args.line in
    let lines = g.N.Lines.elements_by_line c.self.inside.lines in
    let there = subst (λ (t : Standing). line < length (shown_rows t)) (sym c.self.view_is) c.requires in
    let within = within-lines _ is line there in
    let stood = ap (λ (l : List Stood). stood_at l line) c.self.invariant.1 ∙ stood-there _ is line within in
    let mark = c.mark-width.ensures.mark ∙ ap (λ (l : Stood). l.mark) stood in
    c.cuts-cuts.ensures.cuts
    ∙ ap (λ (l : Stood). l.cuts) stood
    ∙ ap (λ (w : ℕ). cuts_of (line_at lines line) w) (sym mark)

pub returns : goal.returns
returns g c =
    let is = c.self.invariant.0 in
    let line = c.args.line in
    let lines = g.N.Lines.elements_by_line c.self.inside.lines in
    let there = subst (λ (t : Standing). line < length (shown_rows t)) (sym c.self.view_is) c.requires in
    let within = within-lines _ is line there in
    let stood = ap (λ (l : List Stood). stood_at l line) c.self.invariant.1 ∙ stood-there _ is line within in
    let mark = c.mark-width.ensures.mark ∙ ap (λ (l : Stood). l.mark) stood in
    let rows = ap (λ (w : ℕ). row_texts_of (line_at lines line) w) mark
    ∙ sym (rows-there _ is line within)
    ∙ ap (λ (t : Standing). line_rows (shown_rows t) line) c.self.view_is in
    subst (λ (l : List (List ℕ)). IfOk c.row_texts.result (λ texts. texts.items ≡ take c.args.count (drop c.args.first l))) rows c.row_texts.ensures
