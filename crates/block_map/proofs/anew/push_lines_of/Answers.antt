use Rattle.std.proofs.Common.{ℕ, List, [], ◌∷◌, length, arith}
use Rattle.std.proofs.lemmas.Result.{on_ok_weaker}
use Rattle.block_map.specs.Stops.{Stop}
use Rattle.block_map.specs.inside.Anew.{Grows, IsEditedAt, IsIn, IsTouchedAt}
use Rattle.block_map.proofs.Gathered.{grows-weaker}
use Rattle.block_map.proofs.GatheredSteps.{edited-in, no-row, rows-in_order, touched-in}
use Rattle.block_map.proofs.anew.push_lines_of.Goals as goal

pub returns-then-edit-clause-ok : goal.returns-then-edit-clause-ok
returns-then-edit-clause-ok g c = no-row (length c.args.stops.now) c.args.edit (g.R.Rows.shown c.args.rows.now) c.args.side c.args.stops.now c.args.places.now.items c.if-edit.true

pub places_through-touched-requires : goal.places_through-touched-requires
places_through-touched-requires g c =
    rows-in_order (g.R.Rows.shown c.args.rows.now) c.args.side c.args.edit c.row_beside-low.result c.last_beside-high.result c.if-edit.false c.row_beside-low.ensures c.last_beside-high.ensures

pub returns-clause-ok : goal.returns-clause-ok
returns-clause-ok g c =
    let lines = g.R.Rows.shown c.args.rows.now in
    let ss : List Stop = c.args.stops.now in
    let from : ℕ = c.places_through-touched.result.from in
    let to : ℕ = c.places_through-touched.result.to in
    let xs : List ℕ = c.args.places.now.items in
    let ys : List ℕ = c.push_range.new.places.items in
    let low = c.row_beside-low.ensures in
    let high = c.last_beside-high.ensures in
    on_ok_weaker c.push_range.result
    (λ (r : Grows (length ss) (IsIn from to) (IsIn from to) xs ys).
    grows-weaker (length ss) (IsIn from to) (IsIn from to) (IsEditedAt (c.args.edit ∷ []) lines c.args.side ss) (IsTouchedAt (c.args.edit ∷ []) lines c.args.side ss) xs ys
    (edited-in c.args.edit lines c.args.side ss low.line high.line c.row_beside-low.result c.last_beside-high.result from to c.if-edit.false
    low.of_line high.of_line low.stands high.stands c.places_through-touched.ensures.from c.places_through-touched.ensures.to)
    (touched-in c.args.edit lines c.args.side ss low.line high.line c.row_beside-low.result c.last_beside-high.result from to c.lines-lines.ensures.rows c.if-edit.false
    low.of_line high.of_line low.stands high.stands c.places_through-touched.ensures.from c.places_through-touched.ensures.to) r)
    (c.push_range.ensures (length ss) c.places_through-touched.ensures.within)

pub returns-clause-steps : goal.returns-clause-steps
returns-clause-steps g c h few = omega (arith, c.places_through-touched.ensures.steps h few)
