use Rattle.std.proofs.Common.{ap, sym, ◌∙◌}
use Rattle.cell_units.specs.declared.place.Spot.{Spot}
use Rattle.plain_rows.specs.inside.SpotSearch.{stands_before}
use Rattle.plain_rows.proofs.SpotSearches.{other-line}
use Rattle.plain_rows.proofs.spots.searching.is_shown_before.Goals as goal

pub returns-then-line-aim-clause-value : goal.returns-then-line-aim-clause-value
returns-then-line-aim-clause-value g c =
    let is = c.requires.aim in
    other-line (g.R.SpotRows.kept c.args.rows.now) is.lawful is.short c.args.aim.now is c.args.offset c.args.bias c.args.side c.place-place.result.0 c.requires.boundary.0
    c.place-place.ensures.line c.if-line-aim.true

pub returns-clause-value : goal.returns-clause-value
returns-clause-value g c =
    c.stands_before.ensures
    ∙ ap (λ (s : Spot). stands_before c.args.side s c.args.aim.now.spot)
    (c.own_spot-spot.ensures.spot c.args.offset (sym c.if-line-aim.false ∙ c.place-place.ensures.line) c.place-place.ensures.byte)
