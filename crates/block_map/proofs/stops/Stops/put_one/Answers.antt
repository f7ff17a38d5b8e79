use Rattle.std.proofs.Common.{◌≡◌, ◌∙◌, ℕ, List, get_or, sym, subst}
use Rattle.std.proofs.lemmas.Option.{same_Some}
use Rattle.cell_units.specs.Text.{IsBoundary}
use Rattle.block_map.specs.inside.Sides.{BlockMark}
use Rattle.block_map.specs.inside.SideMoves.{stop_of_mark}
use Rattle.block_map.specs.inside.StopLists.{MayBePut, stop_with}
use Rattle.block_map.proofs.StopLoops.{got}
use Rattle.block_map.proofs.stops.Stops.put_one.Goals as goal

pub row_at_side-row-requires-clause-boundary : goal.row_at_side-row-requires-clause-boundary
row_at_side-row-requires-clause-boundary g c κs lives =
    let marks : List BlockMark = c.args.marks.now in
    let at : ℕ = c.args.at in
    let m : BlockMark = record { offset = c.in-Some.offset; bias = c.in-Some.field-0-1; id = c.in-Some.field-0-2; load = c.in-Some.lines.now } in
    let same : get_or marks at m ≡ m = same_Some (get_or marks at m) m (sym (got marks at m c.requires.there) ∙ c.in-Some.ensures.mark) in
    subst (λ (m : BlockMark). IsBoundary (g.P.Layer.source c.args.layer.now).text m.offset) same (c.requires.marks.anchors at m c.requires.there)

pub row_at_side-row-requires-clause-equal : goal.row_at_side-row-requires-clause-equal
row_at_side-row-requires-clause-equal g c κs lives = c.requires.marks.equal

pub insert-requires : goal.insert-requires
insert-requires g c =
    let m : BlockMark = record { offset = c.in-Some.offset; bias = c.in-Some.field-0-1; id = c.in-Some.field-0-2; load = c.in-Some.lines.now } in
    let stop-is : stop_with c.row_at_side-row.result c.in_ok-copy-in-Some.field-0 ≡ stop_of_mark (g.P.Layer.source c.args.layer.now) (g.R.Rows.shown c.args.rows.now) c.args.side m =
    λ i. record { row = c.row_at_side-row.ensures i; lines = c.in_ok-copy-in-Some.ensures i } in
    subst (MayBePut c.args.self.now c.args.at) (sym stop-is) (c.requires.room m c.in-Some.ensures.mark)
