use Rattle.std.proofs.Common.{◌≡◌, ℕ, ◌+◌, ◌*◌, ◌<◌, ◌≤◌, [], List, Some, get_or, length, drop, sym, ap, subst, ◌∙◌, arith}
use Rattle.std.specs.List.{slice_get}
use Rattle.cell_units.specs.declared.place.Bias.TheVariants.{Left}
use Rattle.block_map.specs.Stops.{Stop}
use Rattle.block_map.specs.inside.SideMoves.{stop_of_mark, stops_of_marks}
use Rattle.block_map.specs.inside.Sides.{BlockMark}
use Rattle.block_map.specs.inside.StopLists.{MayBePut, with_stop}
use Rattle.block_map.specs.inside.Without.{without}
use Rattle.std.proofs.lemmas.List.{length-map}
use Rattle.block_map.proofs.LeftOut.{length-left}
use Rattle.block_map.proofs.RisingStops.{length-more}
use Rattle.block_map.proofs.SideStops.{get-map}
use Rattle.block_map.proofs.StepSums.{turn-steps, turns-within}
use Rattle.block_map.proofs.StopLoops.{PutNext, drop-all, drop-none, got, put-next, without-none}
use Rattle.block_map.proofs.stops.Stops.put_in.Goals as goal

pub loop-done-init : goal.loop-done-init
loop-done-init g c = record {
  within = omega arith;
  rest = c.requires.others ∙ ap (λ (l : List ℕ). without l 0 (stops_of_marks (g.P.Layer.source c.args.layer.now) (g.R.Rows.shown c.args.rows.now) c.args.side c.args.marks.now)) (sym (drop-none c.args.places.now));
  counted = omega arith;
  steps = λ h few. omega arith;
}

pub put_one-requires-clause-room : goal.put_one-requires-clause-room
put_one-requires-clause-room g c κs lives m e =
    let s = g.P.Layer.source c.args.layer.now in
    let lines = g.R.Rows.shown c.args.rows.now in
    let marks = c.args.marks.now in
    let all : List Stop = stops_of_marks s lines c.args.side marks in
    let places = c.args.places.now in
    let i : ℕ = c.loop-done.done in
    let lt : i < length places = c.loop-done-test.true in
    let a : ℕ = get_or places i 0 in
    let next : (m : BlockMark) → slice_get marks a ≡ Some m → PutNext places all i a (stop_of_mark s lines c.args.side m) =
    λ m e. put-next places all i a (stop_of_mark s lines c.args.side m) c.requires.rising c.requires.marks.order c.requires.marks.fits (got places i 0 lt) (get-map (stop_of_mark s lines c.args.side) marks a m e) in
    subst (λ (l : List Stop). MayBePut l a (stop_of_mark s lines c.args.side m)) (sym c.loop-done.invariant.rest) (next m e).room

pub loop-done-preserved : goal.loop-done-preserved
loop-done-preserved g c =
    let s = g.P.Layer.source c.args.layer.now in
    let lines = g.R.Rows.shown c.args.rows.now in
    let marks = c.args.marks.now in
    let all : List Stop = stops_of_marks s lines c.args.side marks in
    let places = c.args.places.now in
    let i : ℕ = c.loop-done.done in
    let lt : i < length places = c.loop-done-test.true in
    let a : ℕ = get_or places i 0 in
    let next : (m : BlockMark) → slice_get marks a ≡ Some m → PutNext places all i a (stop_of_mark s lines c.args.side m) =
    λ m e. put-next places all i a (stop_of_mark s lines c.args.side m) c.requires.rising c.requires.marks.order c.requires.marks.fits (got places i 0 lt) (get-map (stop_of_mark s lines c.args.side) marks a m e) in
    let d : BlockMark = record { offset = 0; bias = Left; id = 0; load = [] } in
    let m : BlockMark = get_or marks a d in
    let e : slice_get marks a ≡ Some m = got marks a d (c.requires.within i 0 lt) in
    let room : length c.loop-done.self + 1 ≤ length marks =
    omega (
      arith,
      ap length c.loop-done.invariant.rest,
      length-more a (stop_of_mark s lines c.args.side m) (without (drop i places) 0 all),
      ap length (next m e).next,
      length-left (drop (i + 1) places) 0 all,
      length-map marks (stop_of_mark s lines c.args.side),
    ) in
    record {
      within = omega (arith, lt);
      rest = c.in_ok-put_one.ensures.ok m e ∙ ap (with_stop a (stop_of_mark s lines c.args.side m)) c.loop-done.invariant.rest ∙ (next m e).next;
      counted = omega (arith, c.loop-done.invariant.counted, c.in_ok-put_one.ensures.counted);
      steps = λ h few.
          turn-steps i (171 * (h + 1)) c.args.steps.now c.loop-done.steps c.put_one.new.steps (c.loop-done.invariant.steps h few) (c.put_one.ensures.steps h (omega (arith, few, room)) few);
    }

pub returns-in_err-put_one-clause-steps : goal.returns-in_err-put_one-clause-steps
returns-in_err-put_one-clause-steps g c h few =
    let s = g.P.Layer.source c.args.layer.now in
    let lines = g.R.Rows.shown c.args.rows.now in
    let marks = c.args.marks.now in
    let all : List Stop = stops_of_marks s lines c.args.side marks in
    let places = c.args.places.now in
    let i : ℕ = c.loop-done.done in
    let lt : i < length places = c.loop-done-test.true in
    let a : ℕ = get_or places i 0 in
    let next : (m : BlockMark) → slice_get marks a ≡ Some m → PutNext places all i a (stop_of_mark s lines c.args.side m) =
    λ m e. put-next places all i a (stop_of_mark s lines c.args.side m) c.requires.rising c.requires.marks.order c.requires.marks.fits (got places i 0 lt) (get-map (stop_of_mark s lines c.args.side) marks a m e) in
    let d : BlockMark = record { offset = 0; bias = Left; id = 0; load = [] } in
    let m : BlockMark = get_or marks a d in
    let e : slice_get marks a ≡ Some m = got marks a d (c.requires.within i 0 lt) in
    let room : length c.loop-done.self + 1 ≤ length marks =
    omega (
      arith,
      ap length c.loop-done.invariant.rest,
      length-more a (stop_of_mark s lines c.args.side m) (without (drop i places) 0 all),
      ap length (next m e).next,
      length-left (drop (i + 1) places) 0 all,
      length-map marks (stop_of_mark s lines c.args.side),
    ) in
    turns-within (i + 1) (length places) (171 * (h + 1)) c.args.steps.now c.put_one.new.steps (omega (arith, lt))
    (turn-steps i (171 * (h + 1)) c.args.steps.now c.loop-done.steps c.put_one.new.steps (c.loop-done.invariant.steps h few) (c.put_one.ensures.steps h (omega (arith, few, room)) few))

pub returns-clause-steps : goal.returns-clause-steps
returns-clause-steps g c h few = turns-within c.loop-done.done (length c.args.places.now) (171 * (h + 1)) c.args.steps.now c.loop-done.steps c.loop-done.invariant.within (c.loop-done.invariant.steps h few)

pub returns-clause-ok : goal.returns-clause-ok
returns-clause-ok g c =
    let places = c.args.places.now in
    let all : List Stop = stops_of_marks (g.P.Layer.source c.args.layer.now) (g.R.Rows.shown c.args.rows.now) c.args.side c.args.marks.now in
    let end : c.loop-done.done ≡ length places = omega (arith, c.loop-done.invariant.within, c.loop-done-test.false) in
    c.loop-done.invariant.rest ∙ ap (λ (n : ℕ). without (drop n places) 0 all) end ∙ ap (λ (l : List ℕ). without l 0 all) (drop-all places) ∙ without-none 0 all
