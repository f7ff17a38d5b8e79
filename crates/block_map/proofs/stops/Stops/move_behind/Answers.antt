use Rattle.std.proofs.Common.{◌≡◌, ◌+◌, ◌-◌, ◌*◌, ◌^◌, ◌<◌, [], List, Some, ap, subst, sym, ◌∙◌, length, slice_get, arith}
use Rattle.std.specs.Option.{option_copied}
use Rattle.std.proofs.lemmas.Result.{on_ok_weaker}
use Rattle.sum_core.specs.Sums.{total}
use Rattle.splice_tree.specs.Sides.{none, both, BothFit}
use Rattle.splice_tree.specs.Splices.{piece_sum, replaced}
use Rattle.block_map.specs.declared.row_count.RowCount.{RowCount}
use Rattle.block_map.specs.RowCounts.{RowsFit, more_rows, no_rows}
use Rattle.block_map.specs.inside.StopLists.{AreStopPieces, StopPiece, stops_from}
use Rattle.block_map.proofs.KeptSplices.{either}
use Rattle.block_map.proofs.StopMoves.{are-moved, count-moved, fits-moved, gap-small, gap-wide, gaps-fit, none-moves, small-moved, stops-moved}
use Rattle.block_map.proofs.StopPlaces.{length-stops}
use Rattle.block_map.proofs.stops.Stops.move_behind.Goals as goal

pub overflow_sub-kept-in-Some : goal.overflow_sub-kept-in-Some
overflow_sub-kept-in-Some c =
    let p : StopPiece = c.in-Some.splice.now in
    let there : slice_get c.self.inside.splices c.find_lower-found.result.index ≡ Some p = sym (ap option_copied (sym c.in-Some.is) ∙ c.find_lower-found.ensures.splice) in
    let gap : RowCount = record { rows = c.gap.result.rows - (c.args.rows.end - c.args.rows.start) + c.args.rows.count } in
    let wide : gap.rows ≡ p.gap.rows - (c.args.rows.end - c.args.rows.start) + c.args.rows.count = ap (λ (g : RowCount). g.rows - (c.args.rows.end - c.args.rows.start) + c.args.rows.count) c.gap.ensures in
    omega (arith, gap-wide c.self.inside.splices c.args.self.now c.self.invariant c.self.view_is c.args.bias c.args.rows.start c.args.rows.end c.args.rows.count c.find_lower-found.result.index c.args.rows.ordered c.find_lower-found.ensures.first c.requires.clear p there, ap (λ (g : RowCount). g.rows) c.gap.ensures)

pub overflow_add-gap : goal.overflow_add-gap
overflow_add-gap c =
    let p : StopPiece = c.in-Some.splice.now in
    let there : slice_get c.self.inside.splices c.find_lower-found.result.index ≡ Some p = sym (ap option_copied (sym c.in-Some.is) ∙ c.find_lower-found.ensures.splice) in
    let gap : RowCount = record { rows = c.gap.result.rows - (c.args.rows.end - c.args.rows.start) + c.args.rows.count } in
    let wide : gap.rows ≡ p.gap.rows - (c.args.rows.end - c.args.rows.start) + c.args.rows.count = ap (λ (g : RowCount). g.rows - (c.args.rows.end - c.args.rows.start) + c.args.rows.count) c.gap.ensures in
    omega (arith, gap-small c.self.inside.splices c.args.self.now c.self.invariant c.self.view_is c.args.bias c.args.rows.start c.args.rows.end c.args.rows.count c.find_lower-found.result.index c.args.rows.ordered c.find_lower-found.ensures.first c.requires.clear p there gap wide c.requires.fits)

pub replace-requires-clause-gap_fits : goal.replace-requires-clause-gap_fits
replace-requires-clause-gap_fits c =
    let p : StopPiece = c.in-Some.splice.now in
    let there : slice_get c.self.inside.splices c.find_lower-found.result.index ≡ Some p = sym (ap option_copied (sym c.in-Some.is) ∙ c.find_lower-found.ensures.splice) in
    let gap : RowCount = record { rows = c.gap.result.rows - (c.args.rows.end - c.args.rows.start) + c.args.rows.count } in
    let wide : gap.rows ≡ p.gap.rows - (c.args.rows.end - c.args.rows.start) + c.args.rows.count = ap (λ (g : RowCount). g.rows - (c.args.rows.end - c.args.rows.start) + c.args.rows.count) c.gap.ensures in
    gaps-fit c.self.inside.splices c.args.self.now c.self.invariant c.self.view_is c.args.bias c.args.rows.start c.args.rows.end c.args.rows.count c.find_lower-found.result.index c.args.rows.ordered c.find_lower-found.ensures.first c.requires.clear p there gap wide c.requires.fits

pub replace-requires-clause-fits : goal.replace-requires-clause-fits
replace-requires-clause-fits c =
    let p : StopPiece = c.in-Some.splice.now in
    let there : slice_get c.self.inside.splices c.find_lower-found.result.index ≡ Some p = sym (ap option_copied (sym c.in-Some.is) ∙ c.find_lower-found.ensures.splice) in
    let gap : RowCount = record { rows = c.gap.result.rows - (c.args.rows.end - c.args.rows.start) + c.args.rows.count } in
    let wide : gap.rows ≡ p.gap.rows - (c.args.rows.end - c.args.rows.start) + c.args.rows.count = ap (λ (g : RowCount). g.rows - (c.args.rows.end - c.args.rows.start) + c.args.rows.count) c.gap.ensures in
    let same : replaced c.find_lower-found.result.index c.find_lower-found.result.index [] gap c.self.inside.splices ≡ replaced c.find_lower-found.result.index c.find_lower-found.result.index c.new.result.items gap c.self.inside.splices =
    ap (λ (l : List StopPiece). replaced c.find_lower-found.result.index c.find_lower-found.result.index l gap c.self.inside.splices) (sym c.new.ensures.items) in
    subst (λ qs. BothFit RowsFit (total (none no_rows) (both more_rows) (piece_sum more_rows) qs)) same (fits-moved c.self.inside.splices c.args.self.now c.self.invariant c.self.view_is c.args.bias c.args.rows.start c.args.rows.end c.args.rows.count c.find_lower-found.result.index c.args.rows.ordered c.find_lower-found.ensures.first c.requires.clear p there gap wide c.requires.fits)

pub replace-requires-clause-small : goal.replace-requires-clause-small
replace-requires-clause-small c =
    let p : StopPiece = c.in-Some.splice.now in
    let there : slice_get c.self.inside.splices c.find_lower-found.result.index ≡ Some p = sym (ap option_copied (sym c.in-Some.is) ∙ c.find_lower-found.ensures.splice) in
    let gap : RowCount = record { rows = c.gap.result.rows - (c.args.rows.end - c.args.rows.start) + c.args.rows.count } in
    let wide : gap.rows ≡ p.gap.rows - (c.args.rows.end - c.args.rows.start) + c.args.rows.count = ap (λ (g : RowCount). g.rows - (c.args.rows.end - c.args.rows.start) + c.args.rows.count) c.gap.ensures in
    let same : replaced c.find_lower-found.result.index c.find_lower-found.result.index [] gap c.self.inside.splices ≡ replaced c.find_lower-found.result.index c.find_lower-found.result.index c.new.result.items gap c.self.inside.splices =
    ap (λ (l : List StopPiece). replaced c.find_lower-found.result.index c.find_lower-found.result.index l gap c.self.inside.splices) (sym c.new.ensures.items) in
    subst (λ (qs : List StopPiece). length qs < 2 ^ 32) same (small-moved c.self.inside.splices c.args.self.now c.self.invariant c.self.view_is c.args.bias c.args.rows.start c.args.rows.end c.args.rows.count c.find_lower-found.result.index c.args.rows.ordered c.find_lower-found.ensures.first c.requires.clear p there gap wide c.requires.fits)

pub invariant_of-self : goal.invariant_of-self
invariant_of-self c =
    let p : StopPiece = c.in-Some.splice.now in
    let there : slice_get c.self.inside.splices c.find_lower-found.result.index ≡ Some p = sym (ap option_copied (sym c.in-Some.is) ∙ c.find_lower-found.ensures.splice) in
    let gap : RowCount = record { rows = c.gap.result.rows - (c.args.rows.end - c.args.rows.start) + c.args.rows.count } in
    let wide : gap.rows ≡ p.gap.rows - (c.args.rows.end - c.args.rows.start) + c.args.rows.count = ap (λ (g : RowCount). g.rows - (c.args.rows.end - c.args.rows.start) + c.args.rows.count) c.gap.ensures in
    let same : replaced c.find_lower-found.result.index c.find_lower-found.result.index [] gap c.self.inside.splices ≡ replaced c.find_lower-found.result.index c.find_lower-found.result.index c.new.result.items gap c.self.inside.splices =
    ap (λ (l : List StopPiece). replaced c.find_lower-found.result.index c.find_lower-found.result.index l gap c.self.inside.splices) (sym c.new.ensures.items) in
    either c.replace.result c.replace.new.self (replaced c.find_lower-found.result.index c.find_lower-found.result.index c.new.result.items gap c.self.inside.splices) c.self.inside.splices c.replace.ensures.ok c.replace.ensures.unchanged c.self.invariant
    (subst AreStopPieces same (are-moved c.self.inside.splices c.args.self.now c.self.invariant c.self.view_is c.args.bias c.args.rows.start c.args.rows.end c.args.rows.count c.find_lower-found.result.index c.args.rows.ordered c.find_lower-found.ensures.first c.requires.clear p there gap wide))

pub returns-in-None-clause-ok : goal.returns-in-None-clause-ok
returns-in-None-clause-ok c = none-moves c.self.inside.splices c.args.self.now c.self.invariant c.self.view_is c.args.bias c.args.rows.start c.args.rows.end c.args.rows.count c.find_lower-found.result.index c.args.rows.ordered c.find_lower-found.ensures.first c.requires.clear (sym (ap option_copied (sym c.in-None.is) ∙ c.find_lower-found.ensures.splice))

pub returns-in-None-clause-steps : goal.returns-in-None-clause-steps
returns-in-None-clause-steps c h few =
    let few' : length c.self.inside.splices < 2 * 6 ^ (h + 1) = omega (arith, few, length-stops 0 c.self.inside.splices, ap length c.self.view_is) in
    omega (arith, c.find_lower-found.ensures.steps h few')

pub returns-in-Some-clause-ok : goal.returns-in-Some-clause-ok
returns-in-Some-clause-ok c =
    let p : StopPiece = c.in-Some.splice.now in
    let there : slice_get c.self.inside.splices c.find_lower-found.result.index ≡ Some p = sym (ap option_copied (sym c.in-Some.is) ∙ c.find_lower-found.ensures.splice) in
    let gap : RowCount = record { rows = c.gap.result.rows - (c.args.rows.end - c.args.rows.start) + c.args.rows.count } in
    let wide : gap.rows ≡ p.gap.rows - (c.args.rows.end - c.args.rows.start) + c.args.rows.count = ap (λ (g : RowCount). g.rows - (c.args.rows.end - c.args.rows.start) + c.args.rows.count) c.gap.ensures in
    let same : replaced c.find_lower-found.result.index c.find_lower-found.result.index [] gap c.self.inside.splices ≡ replaced c.find_lower-found.result.index c.find_lower-found.result.index c.new.result.items gap c.self.inside.splices =
    ap (λ (l : List StopPiece). replaced c.find_lower-found.result.index c.find_lower-found.result.index l gap c.self.inside.splices) (sym c.new.ensures.items) in
    on_ok_weaker c.replace.result
    (λ (e : c.replace.new.self ≡ replaced c.find_lower-found.result.index c.find_lower-found.result.index c.new.result.items gap c.self.inside.splices).
    ap (stops_from 0) (e ∙ sym same) ∙ stops-moved c.self.inside.splices c.args.self.now c.self.invariant c.self.view_is c.args.bias c.args.rows.start c.args.rows.end c.args.rows.count c.find_lower-found.result.index c.args.rows.ordered c.find_lower-found.ensures.first c.requires.clear p there gap wide)
    c.replace.ensures.ok

pub returns-in-Some-clause-steps : goal.returns-in-Some-clause-steps
returns-in-Some-clause-steps c h few =
    let p : StopPiece = c.in-Some.splice.now in
    let there : slice_get c.self.inside.splices c.find_lower-found.result.index ≡ Some p = sym (ap option_copied (sym c.in-Some.is) ∙ c.find_lower-found.ensures.splice) in
    let gap : RowCount = record { rows = c.gap.result.rows - (c.args.rows.end - c.args.rows.start) + c.args.rows.count } in
    let wide : gap.rows ≡ p.gap.rows - (c.args.rows.end - c.args.rows.start) + c.args.rows.count = ap (λ (g : RowCount). g.rows - (c.args.rows.end - c.args.rows.start) + c.args.rows.count) c.gap.ensures in
    let same : replaced c.find_lower-found.result.index c.find_lower-found.result.index [] gap c.self.inside.splices ≡ replaced c.find_lower-found.result.index c.find_lower-found.result.index c.new.result.items gap c.self.inside.splices =
    ap (λ (l : List StopPiece). replaced c.find_lower-found.result.index c.find_lower-found.result.index l gap c.self.inside.splices) (sym c.new.ensures.items) in
    let few' : length c.self.inside.splices < 2 * 6 ^ (h + 1) = omega (arith, few, length-stops 0 c.self.inside.splices, ap length c.self.view_is) in
    let size = count-moved c.self.inside.splices c.args.self.now c.self.invariant c.self.view_is c.args.bias c.args.rows.start c.args.rows.end c.args.rows.count c.find_lower-found.result.index c.args.rows.ordered c.find_lower-found.ensures.first c.requires.clear p there gap wide in
    let more' : length (replaced c.find_lower-found.result.index c.find_lower-found.result.index c.new.result.items gap c.self.inside.splices) < 2 * 6 ^ (h + 1) = omega (arith, few, size, ap length same) in
    omega (arith, c.find_lower-found.ensures.steps h few', c.replace.ensures.steps h few' more', ap length c.new.ensures.items)
