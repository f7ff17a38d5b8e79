use Rattle.std.proofs.Common.{◌≡◌, ℕ, ◌+◌, ◌∙◌, List, length, Result, Ok, Err, ap, sym, subst, arith}
use Rattle.std.specs.Prelude.{IfOk}
use Rattle.cell_line.specs.declared.lines.Run.{Run}
use Rattle.cell_line.specs.Lines.{line_at}
use Rattle.edit_patch.specs.declared.edit.Edit.{Edit}
use Rattle.edit_patch.specs.Patch.{IsPatch}
use Rattle.wrap_map.specs.Landing.{IsPatchOfLanded, standing_landed}
use Rattle.wrap_map.specs.Standing.{Standing, standing_of, stood_of, stood_with}
use Rattle.wrap_map.specs.Stood.{Stood}
use Rattle.wrap_map.specs.inside.Landings.{FitBetween, IsPut, Landings, begun, closed_if_any}
use Rattle.wrap_map.proofs.Calls.{wrap-item, wraps-long}
use Rattle.wrap_map.proofs.Carried.{IsLandingTo, landing-first}
use Rattle.wrap_map.proofs.LandingSteps.{can-close, landing-carried, landing-finished, present-fits, short-fits}
use Rattle.wrap_map.proofs.StepSums.{landing-closed, landing-grouped}
use Rattle.wrap_map.proofs.landing.put_run.Goals as goal

fit-from : (s : Standing) (since : List Edit) (run : Run) (mark : ℕ) (from : List Stood) → from ≡ stood_of s
    → FitBetween from (stood_of (standing_landed since run mark s)) → FitBetween (stood_of s) (stood_of (standing_landed since run mark s))
fit-from s since run mark from h f = subst (λ (ls : List Stood). FitBetween ls (stood_of (standing_landed since run mark s))) h f

if_ok_both : {A E : Type 0} (P Q R : A → Type 0) → ((x : A) → P x → Q x → R x) → (r : Result A E) → IfOk r P → IfOk r Q → IfOk r R
if_ok_both P Q R f (Ok x) p q = f x p q
if_ok_both P Q R f (Err e) p q = tt

put-as : (s : Standing) (since : List Edit) (run : Run) (mark : ℕ) (ls lines : List Stood) (es edits : List Edit) → IsPut s since run mark lines edits
    → ls ≡ lines → es ≡ edits → IsPut s since run mark ls es
put-as s since run mark ls lines es edits put a b = record {
  lines_are = a ∙ put.lines_are;
  rows = subst (IsPatchOfLanded s (standing_landed since run mark s) since run) (sym b) put.rows;
}

pub loop-place-init : goal.loop-place-init
loop-place-init g c =
    let from = c.args.from.now in
    let s : Standing = standing_of (g.N.Lines.elements_by_line c.args.lines.now) from in
    let run = c.args.late.now.run in
    let same : begun from ≡ c.new-landing.result = ap begun (sym c.in_ok-share.ensures) ∙ sym c.new-landing.ensures in
    let first : IsLandingTo s c.args.late.now.since.now run c.args.late.now.mark c.new-landing.result run.first =
    subst (λ (l : Landings). IsLandingTo s c.args.late.now.since.now run c.args.late.now.mark l run.first)
    (ap begun (sym c.requires.late.stands.1) ∙ same) (landing-first s c.args.late.now.since.now run c.args.late.now.mark) in
    record {
      landing = subst (IsLandingTo s c.args.late.now.since.now run c.args.late.now.mark c.new-landing.result) (let e : run.first ≡ run.first + 0 = omega arith in e) first;
      counted = omega arith;
      steps = λ h high. let none = ap (λ (l : Landings). length l.fresh) (sym same) in omega (arith, none);
    }

pub overflow_cast-line : goal.overflow_cast-line
overflow_cast-line g c =
    let w = wraps-long (λ cuts. cuts.items) c.args.late.now.wraps.now (g.N.Lines.elements_by_line c.args.late.now.old.now) c.args.late.now.run c.args.late.now.mark c.requires.late.cuts c.requires.late.within in
    omega (arith, w, c.loop-place-test.true, c.requires.late.within, c.lines-lines.ensures, c.lines-lines.type_inv)

pub overflow_add-line : goal.overflow_add-line
overflow_add-line g c =
    let w = wraps-long (λ cuts. cuts.items) c.args.late.now.wraps.now (g.N.Lines.elements_by_line c.args.late.now.old.now) c.args.late.now.run c.args.late.now.mark c.requires.late.cuts c.requires.late.within in
    omega (arith, w, c.loop-place-test.true, c.requires.late.within, c.lines-lines.ensures, c.lines-lines.type_inv)

pub carry-requires-clause-close : goal.carry-requires-clause-close
carry-requires-clause-close g c =
    let from = c.args.from.now in
    let s : Standing = standing_of (g.N.Lines.elements_by_line c.args.lines.now) from in
    let is = c.requires.late.stands.0 in
    can-close s c.args.late.now.since.now c.args.late.now.run c.args.late.now.mark c.loop-place.landing (c.args.late.now.run.first + c.loop-place.place) from c.requires.late.stands.1
    is.room.fits.0 (fit-from s c.args.late.now.since.now c.args.late.now.run c.args.late.now.mark from c.requires.late.stands.1 c.requires.fits) is.one_each c.loop-place.invariant.landing

pub carry-requires-clause-present : goal.carry-requires-clause-present
carry-requires-clause-present g c =
    let from = c.args.from.now in
    let s : Standing = standing_of (g.N.Lines.elements_by_line c.args.lines.now) from in
    let old = g.N.Lines.elements_by_line c.args.late.now.old.now in
    let w = wraps-long (λ cuts. cuts.items) c.args.late.now.wraps.now old c.args.late.now.run c.args.late.now.mark c.requires.late.cuts c.requires.late.within in
    present-fits s old c.args.late.now.since.now (c.args.late.now.run.first + c.loop-place.place)
    (subst IsPatch c.edits-edits.ensures.value c.edits-edits.ensures.normal)
    c.requires.late.leads c.requires.late.stands.0.room.fits.0
    (omega (arith, w, c.loop-place-test.true, c.requires.late.within))

pub carry-requires-clause-short : goal.carry-requires-clause-short
carry-requires-clause-short g c =
    let from = c.args.from.now in
    let s : Standing = standing_of (g.N.Lines.elements_by_line c.args.lines.now) from in
    let is = c.requires.late.stands.0 in
    let old = g.N.Lines.elements_by_line c.args.late.now.old.now in
    let item = wrap-item (λ cuts. cuts.items) c.args.late.now.wraps.now c.loop-place.place c.index-wraps-place.result old c.args.late.now.run c.args.late.now.mark
    c.loop-place-test.true c.index-wraps-place.is c.requires.late.cuts c.requires.late.within in
    short-fits s old c.args.late.now.since.now c.args.late.now.run c.args.late.now.mark (c.args.late.now.run.first + c.loop-place.place) (length c.index-wraps-place.result.items)
    (subst IsPatch c.edits-edits.ensures.value c.edits-edits.ensures.normal)
    c.requires.late.leads (fit-from s c.args.late.now.since.now c.args.late.now.run c.args.late.now.mark from c.requires.late.stands.1 c.requires.fits) is.one_each
    (omega arith) (omega (arith, item.1)) c.requires.late.within (ap length item.0)

pub returns-in_err-carry-clause-steps : goal.returns-in_err-carry-clause-steps
returns-in_err-carry-clause-steps g c h high =
    let from = c.args.from.now in
    let s : Standing = standing_of (g.N.Lines.elements_by_line c.args.lines.now) from in
    let w = wraps-long (λ cuts. cuts.items) c.args.late.now.wraps.now (g.N.Lines.elements_by_line c.args.late.now.old.now) c.args.late.now.run c.args.late.now.mark c.requires.late.cuts c.requires.late.within in
    landing-closed c.loop-place.place c.args.late.now.run.count h (length c.loop-place.landing.fresh) c.args.steps.now c.loop-place.steps c.carry.new.steps
    (c.loop-place.invariant.steps h high) (c.carry.ensures.steps h high) (omega (arith, w, c.loop-place-test.true))

pub loop-place-preserved : goal.loop-place-preserved
loop-place-preserved g c =
    let from = c.args.from.now in
    let s : Standing = standing_of (g.N.Lines.elements_by_line c.args.lines.now) from in
    let is = c.requires.late.stands.0 in
    let since = c.args.late.now.since.now in
    let run = c.args.late.now.run in
    let place = c.loop-place.place in
    let old = g.N.Lines.elements_by_line c.args.late.now.old.now in
    let item = wrap-item (λ cuts. cuts.items) c.args.late.now.wraps.now place c.index-wraps-place.result old run c.args.late.now.mark
    c.loop-place-test.true c.index-wraps-place.is c.requires.late.cuts c.requires.late.within in
    let stood : Stood = record { mark = c.args.late.now.mark; cuts = c.index-wraps-place.result.items } in
    let stood-is : stood ≡ stood_with (line_at old (run.first + place)) c.args.late.now.mark = ap (λ (cuts : List ℕ). record { mark = c.args.late.now.mark; cuts = cuts }) item.0 in
    let next = landing-carried s old since run c.args.late.now.mark c.loop-place.landing (run.first + place) from stood c.requires.late.stands.1
    (subst IsPatch c.edits-edits.ensures.value c.edits-edits.ensures.normal)
    c.requires.late.leads is.one_each c.loop-place.invariant.landing
    (omega arith) (omega (arith, item.1)) c.requires.late.within stood-is in
    let before = c.loop-place.invariant.counted in
    let during = c.carry.ensures.counted in
    record {
      landing = subst (IsLandingTo s since run c.args.late.now.mark c.carry.new.self) (let e : run.first + place + 1 ≡ run.first + (place + 1) = omega arith in e)
          (subst (λ (l : Landings). IsLandingTo s since run c.args.late.now.mark l (run.first + place + 1)) (sym c.in_ok-carry.ensures.carried) next);
      counted = omega (arith, before, during);
      steps = λ h high. landing-grouped place h (length c.loop-place.landing.fresh) (length c.carry.new.self.fresh) c.args.steps.now c.loop-place.steps c.carry.new.steps
          (c.loop-place.invariant.steps h high) (c.in_ok-carry.ensures.grouped h high);
    }

pub finish-requires-clause-close : goal.finish-requires-clause-close
finish-requires-clause-close g c =
    let from = c.args.from.now in
    let s : Standing = standing_of (g.N.Lines.elements_by_line c.args.lines.now) from in
    let is = c.requires.late.stands.0 in
    can-close s c.args.late.now.since.now c.args.late.now.run c.args.late.now.mark c.loop-place.landing (c.args.late.now.run.first + c.loop-place.place) from c.requires.late.stands.1
    is.room.fits.0 (fit-from s c.args.late.now.since.now c.args.late.now.run c.args.late.now.mark from c.requires.late.stands.1 c.requires.fits) is.one_each c.loop-place.invariant.landing

pub finish-requires-clause-patch : goal.finish-requires-clause-patch
finish-requires-clause-patch g c =
    let from = c.args.from.now in
    let s : Standing = standing_of (g.N.Lines.elements_by_line c.args.lines.now) from in
    let run = c.args.late.now.run in
    let w = wraps-long (λ cuts. cuts.items) c.args.late.now.wraps.now (g.N.Lines.elements_by_line c.args.late.now.old.now) run c.args.late.now.mark c.requires.late.cuts c.requires.late.within in
    let all : run.first + c.loop-place.place ≡ run.first + run.count = omega (arith, w, c.loop-place-test.false, c.loop-place.auto.place-end) in
    (landing-finished s c.args.late.now.since.now run c.args.late.now.mark c.loop-place.landing from c.requires.late.stands.1 c.requires.late.stands.0.one_each
    (subst (IsLandingTo s c.args.late.now.since.now run c.args.late.now.mark c.loop-place.landing) all c.loop-place.invariant.landing)).rows.normal

pub returns-clause-put : goal.returns-clause-put
returns-clause-put g c =
    let from = c.args.from.now in
    let s : Standing = standing_of (g.N.Lines.elements_by_line c.args.lines.now) from in
    let since = c.args.late.now.since.now in
    let run = c.args.late.now.run in
    let w = wraps-long (λ cuts. cuts.items) c.args.late.now.wraps.now (g.N.Lines.elements_by_line c.args.late.now.old.now) run c.args.late.now.mark c.requires.late.cuts c.requires.late.within in
    let all : run.first + c.loop-place.place ≡ run.first + run.count = omega (arith, w, c.loop-place-test.false, c.loop-place.auto.place-end) in
    let f = closed_if_any from c.loop-place.landing in
    let by : IsPut s since run c.args.late.now.mark f.lines f.edits = landing-finished s since run c.args.late.now.mark c.loop-place.landing from c.requires.late.stands.1 c.requires.late.stands.0.one_each
    (subst (IsLandingTo s since run c.args.late.now.mark c.loop-place.landing) all c.loop-place.invariant.landing) in
    if_ok_both (λ made. made.0 ≡ f.lines) (λ made. made.1 ≡ f.edits) (λ made. IsPut s since run c.args.late.now.mark made.0 made.1)
    (λ made a b. put-as s since run c.args.late.now.mark made.0 f.lines made.1 f.edits by a b)
    c.finish.result c.finish.ensures.lines c.finish.ensures.edits

pub returns-clause-steps : goal.returns-clause-steps
returns-clause-steps g c h high =
    let from = c.args.from.now in
    let s : Standing = standing_of (g.N.Lines.elements_by_line c.args.lines.now) from in
    let w = wraps-long (λ cuts. cuts.items) c.args.late.now.wraps.now (g.N.Lines.elements_by_line c.args.late.now.old.now) c.args.late.now.run c.args.late.now.mark c.requires.late.cuts c.requires.late.within in
    landing-closed c.loop-place.place c.args.late.now.run.count h (length c.loop-place.landing.fresh) c.args.steps.now c.loop-place.steps c.finish.new.steps
    (c.loop-place.invariant.steps h high) (c.finish.ensures.steps h high) (omega (arith, w, c.loop-place.auto.place-end))
