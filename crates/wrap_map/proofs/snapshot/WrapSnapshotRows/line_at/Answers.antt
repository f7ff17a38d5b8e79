use Rattle.std.proofs.Common.{◌+◌, ◌<◌, ◌≤◌, List, length, take, ap, subst, ◌∙◌, arith}
use Rattle.wrap_map.specs.Standing.{IsStanding, Standing, stood_of}
use Rattle.wrap_map.specs.Stood.{Stood, rows_in}
use Rattle.wrap_map.proofs.Snapshots.{found-at, none-at}
use Rattle.wrap_map.proofs.snapshot.WrapSnapshotRows.line_at.Goals as goal

pub returns-then-row-rows : goal.returns-then-row-rows
returns-then-row-rows g c =
    let s = c.args.self.now in
    let st = c.self.invariant.1 ∙ ap stood_of c.self.view_is in
    none-at s c.args.row (omega (arith, c.rows.ensures, ap rows_in st))

pub returns : goal.returns
returns g c =
    let s = c.args.self.now in
    let is = subst (λ (t : Standing). IsStanding t) c.self.view_is c.self.invariant.0 in
    let st = c.self.invariant.1 ∙ ap stood_of c.self.view_is in
    let line = c.line_at-line.result in
    found-at s is c.args.row line c.rows_before-before.result
    (subst (λ (l : List Stood). line < length l) st c.line_at-line.ensures.within)
    (subst (λ (l : List Stood). rows_in (take line l) ≤ c.args.row) st c.line_at-line.ensures.begun)
    (subst (λ (l : List Stood). c.args.row < rows_in (take (line + 1) l)) st c.line_at-line.ensures.ends)
    (c.rows_before-before.ensures.rows ∙ ap (λ (l : List Stood). rows_in (take line l)) st)
