use Rattle.std.proofs.Common.{ℕ, List, subst, sym}
use Rattle.block_map.specs.Stops.{Stop}
use Rattle.block_map.specs.inside.StopLists.{MayBePut, StopsFit, stop_with, with_stop}
use Rattle.block_map.proofs.RisingStops.{fits-with, row-between}
use Rattle.block_map.proofs.stops.Stops.with_none.Goals as goal

pub insert-requires : goal.insert-requires
insert-requires c =
    let fits = fits-with c.args.self.now c.args.at c.row_before-row.result c.row_before-row.ensures.row c.requires.room c.requires.fit in
    let between = row-between c.args.self.now c.args.at c.row_before-row.result c.len-count.ensures.rising c.requires.within c.row_before-row.ensures.row in
    subst (λ (l : List Stop). MayBePut l c.args.at (stop_with c.row_before-row.result c.in_ok-none.field-0)) (sym c.in_ok-next.ensures)
    (subst (λ (l : List (List ℕ)). MayBePut c.args.self.now c.args.at (stop_with c.row_before-row.result l)) (sym c.in_ok-none.ensures) (record { place = between; fit = c.requires.fit; fits = fits }))

pub returns-clause-fits : goal.returns-clause-fits
returns-clause-fits c =
    let fits = fits-with c.args.self.now c.args.at c.row_before-row.result c.row_before-row.ensures.row c.requires.room c.requires.fit in
    subst StopsFit (sym c.in_ok-insert.ensures.ok)
    (subst (λ (l : List Stop). StopsFit (with_stop c.args.at (stop_with c.row_before-row.result c.in_ok-none.field-0) l)) (sym c.in_ok-next.ensures)
    (subst (λ (l : List (List ℕ)). StopsFit (with_stop c.args.at (stop_with c.row_before-row.result l) c.args.self.now)) (sym c.in_ok-none.ensures) fits))
