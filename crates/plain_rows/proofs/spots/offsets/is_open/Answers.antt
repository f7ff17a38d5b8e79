use Rattle.std.proofs.Common.{not, Bool, ap, ◌∙◌}
use Rattle.plain_rows.proofs.SpotOffsets.{open-is}
use Rattle.plain_rows.proofs.spots.offsets.is_open.Goals as goal

pub returns-clause-value : goal.returns-clause-value
returns-clause-value g c = λ at out.
    let aim = c.args.aim.now in
    ap (λ (b : Bool). not b) c.is_within.ensures
    ∙ open-is (g.R.SpotRows.kept c.args.rows.now) c.args.offset c.args.bias aim.number c.place-place.result.1 aim.line.elements.items out at c.place-place.ensures.byte c.requires.aim.elements
