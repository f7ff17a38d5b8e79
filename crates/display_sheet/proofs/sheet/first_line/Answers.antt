use Rattle.std.proofs.Common.{◌≡◌, ℕ, List, length, ap, sym, ◌∙◌, arith}
use Rattle.cell_units.specs.declared.place.Bias.TheVariants.{Left}
use Rattle.cell_units.specs.Text.{row_start}
use Rattle.cell_units.specs.Folded.{line_of}
use Rattle.cell_units.specs.Lawful.{source_of}
use Rattle.display_sheet.proofs.sheet.first_line.Goals as goal

pub returns : goal.returns
returns c r laid same =
    let start : c.row_start.result ≡ row_start r.text c.args.offset = c.row_start.ensures ∙ ap (λ (t : List ℕ). row_start t c.args.offset) (sym same) in
    c.line_of.ensures (source_of r) laid (omega (arith, start, ap length same, c.requires))
    ∙ ap (λ (o : ℕ). line_of r.text r.inlays r.folds o Left) start
