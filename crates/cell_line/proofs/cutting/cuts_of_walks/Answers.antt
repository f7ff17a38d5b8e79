use Rattle.std.proofs.Common.{◌-◌, ◌<◌, ◌++◌, ℕ, List, length, ap, sym, ◌∙◌, arith}
use Rattle.cell_line.specs.Wrapping.{cuts_of, indent_of, next_start_of, row_starts}
use Rattle.cell_line.specs.inside.Marks.{left_of}
use Rattle.cell_line.proofs.Rows.{cuts-blank, cuts-off, cuts-on, next_start_within, row_starts_done}
use Rattle.cell_line.proofs.Walks.{lead_alone, lead_some}
use Rattle.cell_line.proofs.cutting.cuts_of_walks.Goals as goal
use Rattle.cell_line.proofs.cutting.cuts_of_walks.Goals.{then-width-eq0-via-then-width-eq0, then-width-eq0-via-else-width-eq0+then-lead}

pub returns-then-width-eq0 : goal.returns-then-width-eq0
returns-then-width-eq0 c =
    let es = left_of c.args.first in
    elim c.then-width-eq0.branch [
      | then-width-eq0-via-then-width-eq0 w ↦ c.new-cuts.ensures.items ∙ sym (ap (cuts_of es) w.if-width-eq0.true ∙ cuts-off es)
      | then-width-eq0-via-else-width-eq0+then-lead w ↦
          c.new-cuts.ensures.items ∙ sym (cuts-blank es c.args.width (lead_alone es c.args.lead c.requires.lead w.if-lead.true))
    ]

pub returns-in_default : goal.returns-in_default
returns-in_default c =
    let es = left_of c.args.first in
    let on : 0 < c.args.width = omega arith in
    c.new-cuts.ensures.items
    ∙ sym (cuts-on es c.args.width on ∙ row_starts_done es (c.args.width - indent_of es c.args.width) (next_start_of es c.args.width 0) c.in_default.ensures.none)

pub push_starts-requires-clause-within : goal.push_starts-requires-clause-within
push_starts-requires-clause-within c =
    let es = left_of c.args.first in
    let some = lead_some es c.args.lead c.requires.lead c.if-lead.false in
    let next = next_start_within es c.args.width 0 (omega (arith, some)) in
    omega (arith, ap length c.requires.same, c.in-Some.ensures.some, next.1)

pub returns : goal.returns
returns c =
    let es = left_of c.args.first in
    let on : 0 < c.args.width = omega arith in
    let indent = c.indent.ensures es c.requires.lead in
    c.in_ok-push_starts.ensures
    ∙ ap (λ (before : List ℕ). before ++ row_starts (left_of c.args.later) (c.args.width - c.indent.result) (length (left_of c.args.later)) c.in-Some.end) c.new-cuts.ensures.items
    ∙ (λ i. row_starts (c.requires.same i) (c.args.width - indent i) (length (c.requires.same i)) (c.in-Some.ensures.some i))
    ∙ sym (cuts-on es c.args.width on)
