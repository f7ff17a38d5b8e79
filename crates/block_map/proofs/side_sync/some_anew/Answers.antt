use Rattle.std.proofs.Common.{◌≡◌, ℕ, ◌+◌, ◌*◌, ◌^◌, ◌<◌, [], List, length, map, sym, ap, subst, ◌∙◌, arith}
use Rattle.std.specs.List.{All}
use Rattle.cell_units.specs.declared.place.Bias.{Bias}
use Rattle.edit_patch.specs.declared.edit.Edit.{Edit}
use Rattle.mark_tree.specs.declared.mark.Mark.{Mark}
use Rattle.sum_core.specs.declared.load.NoLoad.{NoLoad}
use Rattle.block_map.specs.Stops.{Stop}
use Rattle.block_map.specs.inside.RowMoves.{MayBeMoved, carried}
use Rattle.block_map.specs.inside.SideMoves.{MayStand, bias_of, marks_after, met_count, stops_of_marks}
use Rattle.block_map.specs.inside.Sides.{BlockMark, IsSide, kept_of}
use Rattle.block_map.specs.inside.StopLists.{StopsFit}
use Rattle.block_map.specs.inside.Without.{without}
use Rattle.block_map.proofs.LeftOut.{length-left}
use Rattle.block_map.proofs.MarksAfter.{length-after}
use Rattle.block_map.proofs.StepSums.{remade-first, remade-second, remade-steps, remade-third}
use Rattle.block_map.proofs.side_sync.some_anew.Goals as goal

pub take_out-requires-clause-within : goal.take_out-requires-clause-within
take_out-requires-clause-within g c = subst (λ (l : List Stop). All (λ a. a < length l) c.args.places.now) (sym c.in_ok-stops.ensures) c.requires.remade.within

pub take_out-requires-clause-fit : goal.take_out-requires-clause-fit
take_out-requires-clause-fit g c = subst StopsFit (sym c.in_ok-stops.ensures) c.requires.remade.fit

pub carry-requires-clause-stops : goal.carry-requires-clause-stops
carry-requires-clause-stops g c =
    let es : List Edit = c.args.change.now.edits.now in
    let places : List ℕ = c.args.places.now in
    let ss : List Stop = c.args.stops.now in
    let taken : c.take_out.new.self ≡ without places 0 ss = c.in_ok-take_out.ensures.ok ∙ ap (without places 0) c.in_ok-stops.ensures in
    subst (λ (l : List Stop). MayBeMoved c.bias_of.result es l) (sym taken)
    (subst (λ (b : Bias). MayBeMoved b es (without places 0 ss)) (sym c.bias_of.ensures) c.requires.remade.moved)

pub put_in-requires-clause-within : goal.put_in-requires-clause-within
put_in-requires-clause-within g c κs lives =
    let r = c.requires.remade in
    let ms : List BlockMark = c.args.marks in
    let ss : List Stop = c.args.stops.now in
    let same : length ss ≡ length c.in_ok-marks.marks = omega (arith, r.paired, length-after c.args.change.now.shift ms, ap length c.in_ok-marks.ensures.ok) in
    subst (λ (n : ℕ). All (λ a. a < n) c.args.places.now) same r.within

pub put_in-requires-clause-others : goal.put_in-requires-clause-others
put_in-requires-clause-others g c κs lives =
    let s = g.P.Layer.source c.args.layer.now in
    let new = g.R.Rows.shown c.args.change.now.rows.now in
    let es : List Edit = c.args.change.now.edits.now in
    let places : List ℕ = c.args.places.now in
    let ss : List Stop = c.args.stops.now in
    let marks-are : c.in_ok-marks.marks ≡ marks_after c.args.change.now.shift c.args.marks = c.in_ok-marks.ensures.ok in
    let taken : c.take_out.new.self ≡ without places 0 ss = c.in_ok-take_out.ensures.ok ∙ ap (without places 0) c.in_ok-stops.ensures in
    let moved : map (carried c.bias_of.result es) c.take_out.new.self ≡ map (carried (bias_of c.args.side) es) (without places 0 ss) = λ i. map (carried (c.bias_of.ensures i) es) (taken i) in
    c.in_ok-carry.ensures.ok ∙ moved ∙ c.requires.remade.others ∙ ap (λ (l : List BlockMark). without places 0 (stops_of_marks s new c.args.side l)) (sym marks-are)

pub put_in-requires-clause-marks : goal.put_in-requires-clause-marks
put_in-requires-clause-marks g c κs lives =
    let s = g.P.Layer.source c.args.layer.now in
    let new = g.R.Rows.shown c.args.change.now.rows.now in
    subst (MayStand s new c.args.side) (sym c.in_ok-marks.ensures.ok) c.requires.remade.stand

pub invariant_of-result : goal.invariant_of-result
invariant_of-result g c =
    let s = g.P.Layer.source c.args.layer.now in
    let new = g.R.Rows.shown c.args.change.now.rows.now in
    let after : List BlockMark = marks_after c.args.change.now.shift c.args.marks in
    let marks-are : c.in_ok-marks.marks ≡ after = c.in_ok-marks.ensures.ok in
    let of-are : c.of.result ≡ after = c.of.ensures ∙ marks-are in
    let stops-are : c.put_in.new.self ≡ stops_of_marks s new c.args.side after = c.in_ok-put_in.ensures.ok ∙ ap (stops_of_marks s new c.args.side) marks-are in
    subst (λ (l : List (Mark NoLoad)). IsSide c.of.result c.put_in.new.self l) (sym c.new.ensures)
    (subst (λ (l : List Stop). IsSide c.of.result l []) (sym stops-are)
    (subst (λ (l : List BlockMark). IsSide l (stops_of_marks s new c.args.side after) []) (sym of-are) c.requires.remade.is_side))

pub returns-clause-ok : goal.returns-clause-ok
returns-clause-ok g c =
    let s = g.P.Layer.source c.args.layer.now in
    let new = g.R.Rows.shown c.args.change.now.rows.now in
    let after : List BlockMark = marks_after c.args.change.now.shift c.args.marks in
    let marks-are : c.in_ok-marks.marks ≡ after = c.in_ok-marks.ensures.ok in
    let of-are : c.of.result ≡ after = c.of.ensures ∙ marks-are in
    let stops-are : c.put_in.new.self ≡ stops_of_marks s new c.args.side after = c.in_ok-put_in.ensures.ok ∙ ap (stops_of_marks s new c.args.side) marks-are in
    λ i. kept_of (of-are i) (stops-are i)

pub returns-in_err-marks-clause-steps : goal.returns-in_err-marks-clause-steps
returns-in_err-marks-clause-steps g c h few =
    remade-first h (met_count c.args.change.now.shift c.args.marks) (length c.args.places.now) (length c.args.change.now.edits.now) c.args.steps.now c.moved.new.steps (c.moved.ensures.steps h few)

pub returns-in_err-stops-clause-steps : goal.returns-in_err-stops-clause-steps
returns-in_err-stops-clause-steps g c h few =
    remade-first h (met_count c.args.change.now.shift c.args.marks) (length c.args.places.now) (length c.args.change.now.edits.now) c.args.steps.now c.moved.new.steps (c.moved.ensures.steps h few)

pub returns-in_err-take_out-clause-steps : goal.returns-in_err-take_out-clause-steps
returns-in_err-take_out-clause-steps g c h few =
    let few-stops : length c.in_ok-stops.stops < 2 * 6 ^ (h + 1) = omega (arith, few, c.requires.remade.paired, ap length c.in_ok-stops.ensures) in
    remade-second h (met_count c.args.change.now.shift c.args.marks) (length c.args.places.now) (length c.args.change.now.edits.now) c.args.steps.now c.moved.new.steps c.take_out.new.steps
    (c.moved.ensures.steps h few) (c.take_out.ensures.steps h few-stops)

pub returns-in_err-carry-clause-steps : goal.returns-in_err-carry-clause-steps
returns-in_err-carry-clause-steps g c h few =
    let ss : List Stop = c.args.stops.now in
    let places : List ℕ = c.args.places.now in
    let few-stops : length c.in_ok-stops.stops < 2 * 6 ^ (h + 1) = omega (arith, few, c.requires.remade.paired, ap length c.in_ok-stops.ensures) in
    let taken : c.take_out.new.self ≡ without places 0 ss = c.in_ok-take_out.ensures.ok ∙ ap (without places 0) c.in_ok-stops.ensures in
    let few-left : length c.take_out.new.self < 2 * 6 ^ (h + 1) = omega (arith, few, c.requires.remade.paired, ap length taken, length-left places 0 ss) in
    remade-third h (met_count c.args.change.now.shift c.args.marks) (length places) (length c.args.change.now.edits.now) c.args.steps.now c.moved.new.steps c.take_out.new.steps c.carry.new.steps
    (c.moved.ensures.steps h few) (c.take_out.ensures.steps h few-stops) (c.carry.ensures.steps h few-left)

pub returns-in_err-put_in-clause-steps : goal.returns-in_err-put_in-clause-steps
returns-in_err-put_in-clause-steps g c h few =
    let ss : List Stop = c.args.stops.now in
    let places : List ℕ = c.args.places.now in
    let few-stops : length c.in_ok-stops.stops < 2 * 6 ^ (h + 1) = omega (arith, few, c.requires.remade.paired, ap length c.in_ok-stops.ensures) in
    let taken : c.take_out.new.self ≡ without places 0 ss = c.in_ok-take_out.ensures.ok ∙ ap (without places 0) c.in_ok-stops.ensures in
    let few-left : length c.take_out.new.self < 2 * 6 ^ (h + 1) = omega (arith, few, c.requires.remade.paired, ap length taken, length-left places 0 ss) in
    let few-after : length c.in_ok-marks.marks < 2 * 6 ^ (h + 1) = omega (arith, few, length-after c.args.change.now.shift c.args.marks, ap length c.in_ok-marks.ensures.ok) in
    remade-steps h (met_count c.args.change.now.shift c.args.marks) (length places) (length c.args.change.now.edits.now) c.args.steps.now c.moved.new.steps c.take_out.new.steps c.carry.new.steps c.put_in.new.steps
    (c.moved.ensures.steps h few) (c.take_out.ensures.steps h few-stops) (c.carry.ensures.steps h few-left) (c.put_in.ensures.steps h few-after)

pub returns-clause-steps : goal.returns-clause-steps
returns-clause-steps g c h few =
    let ss : List Stop = c.args.stops.now in
    let places : List ℕ = c.args.places.now in
    let few-stops : length c.in_ok-stops.stops < 2 * 6 ^ (h + 1) = omega (arith, few, c.requires.remade.paired, ap length c.in_ok-stops.ensures) in
    let taken : c.take_out.new.self ≡ without places 0 ss = c.in_ok-take_out.ensures.ok ∙ ap (without places 0) c.in_ok-stops.ensures in
    let few-left : length c.take_out.new.self < 2 * 6 ^ (h + 1) = omega (arith, few, c.requires.remade.paired, ap length taken, length-left places 0 ss) in
    let few-after : length c.in_ok-marks.marks < 2 * 6 ^ (h + 1) = omega (arith, few, length-after c.args.change.now.shift c.args.marks, ap length c.in_ok-marks.ensures.ok) in
    remade-steps h (met_count c.args.change.now.shift c.args.marks) (length places) (length c.args.change.now.edits.now) c.args.steps.now c.moved.new.steps c.take_out.new.steps c.carry.new.steps c.put_in.new.steps
    (c.moved.ensures.steps h few) (c.take_out.ensures.steps h few-stops) (c.carry.ensures.steps h few-left) (c.put_in.ensures.steps h few-after)
