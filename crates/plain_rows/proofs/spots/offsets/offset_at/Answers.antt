use Rattle.std.proofs.Common.{ℕ, Option, unwrap_or, ap, sym, ◌∙◌}
use Rattle.plain_rows.specs.Spots.{back, clip}
use Rattle.plain_rows.proofs.SpotOffsets.{back-left, back-right}
use Rattle.plain_rows.proofs.spots.offsets.offset_at.Goals as goal

pub returns-in-Left-clause-offset : goal.returns-in-Left-clause-offset
returns-in-Left-clause-offset g c = λ d at.
    let r = g.R.SpotRows.kept c.args.rows.now in
    let left = c.first_offset-left.result in
    let right = c.first_offset-right.result in
    c.unwrap_or.ensures
    ∙ ap (λ (found : Option ℕ). unwrap_or found 0) c.lesser.ensures
    ∙ back-left r d c.args.aim.now.spot left right (at ∙ ap (clip r d) c.in-Left.is) c.first_offset-left.ensures.first c.first_offset-right.ensures.first
    ∙ ap (back r d) (sym c.in-Left.is)

pub returns-in-Right-clause-offset : goal.returns-in-Right-clause-offset
returns-in-Right-clause-offset g c = λ d at.
    let r = g.R.SpotRows.kept c.args.rows.now in
    let left = c.last_offset-left.result in
    let right = c.last_offset-right.result in
    c.unwrap_or-in-Right.ensures
    ∙ ap (λ (found : Option ℕ). unwrap_or found 0) c.greater.ensures
    ∙ back-right r d c.args.aim.now.spot left right (at ∙ ap (clip r d) c.in-Right.is) c.last_offset-left.ensures.last c.last_offset-right.ensures.last
    ∙ ap (back r d) (sym c.in-Right.is)
