use Rattle.std.proofs.Common.{ℕ, List, [], Option, Some, get_or, inl, length, sym, subst, arith}
use Rattle.cell_units.specs.declared.place.Bias.TheVariants.{Left}
use Rattle.std.proofs.lemmas.Result.{on_ok_weaker}
use Rattle.cell_units.specs.declared.place.Shift.{Shift}
use Rattle.block_map.specs.inside.Anew.{Grows, IsIn, IsMetAt}
use Rattle.block_map.specs.inside.Sides.{BlockMark}
use Rattle.block_map.proofs.AnewPlaces.{in-order}
use Rattle.block_map.proofs.Gathered.{grows-weaker, met-only, met-run}
use Rattle.block_map.proofs.StopLoops.{got}
use Rattle.block_map.proofs.anew.push_met.Goals as goal

pub returns-in-Some-clause-ok : goal.returns-in-Some-clause-ok
returns-in-Some-clause-ok c =
    let ms : List BlockMark = c.args.marks.now in
    let from : ℕ = c.places_met-met.result.from in
    let to : ℕ = c.places_met-met.result.to in
    let xs : List ℕ = c.args.places.now.items in
    let ys : List ℕ = c.push_range.new.places.items in
    on_ok_weaker c.push_range.result
    (λ (g : Grows (length ms) (IsIn from to) (IsIn from to) xs ys).
    subst (λ (s : Option Shift). Grows (length ms) (IsMetAt s ms) (IsMetAt s ms) xs ys) (sym c.in-Some.is)
    (grows-weaker (length ms) (IsIn from to) (IsIn from to) (IsMetAt (Some c.in-Some.shift) ms) (IsMetAt (Some c.in-Some.shift) ms) xs ys
    (λ k at. let r = met-run c.in-Some.shift ms (in-order ms c.len-count.ensures.lawful) k at in (omega (arith, r.0, c.places_met-met.ensures.from), omega (arith, r.1, c.places_met-met.ensures.to)))
    (λ k at.
    let d : BlockMark = record { offset = 0; bias = Left; id = 0; load = [] } in
    met-only c.in-Some.shift ms (in-order ms c.len-count.ensures.lawful) k (get_or ms k d) (got ms k d (omega (arith, at.1, c.places_met-met.ensures.within)))
    (omega (arith, at.0, c.places_met-met.ensures.from), omega (arith, at.1, c.places_met-met.ensures.to))) g))
    (c.push_range.ensures (length ms) c.places_met-met.ensures.within)

pub returns-in-None-clause-ok : goal.returns-in-None-clause-ok
returns-in-None-clause-ok c =
    let ms : List BlockMark = c.args.marks.now in
    let xs : List ℕ = c.args.places.now.items in
    subst (λ (s : Option Shift). Grows (length ms) (IsMetAt s ms) (IsMetAt s ms) xs xs) (sym c.in-None.is)
    (record { kept = λ k at. at; more = λ k at. absurd at; only = λ k at. inl at; within = λ w. w })

pub returns-in-Some-clause-steps : goal.returns-in-Some-clause-steps
returns-in-Some-clause-steps c h few = omega (arith, c.places_met-met.ensures.steps h few)
