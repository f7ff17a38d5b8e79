use Rattle.std.proofs.Common.{sym, subst, refl, arith}
use Rattle.cell_units.specs.Lawful.{IsWidth}
use Rattle.edit_patch.specs.Patch.{IsPatch}
use Rattle.wrap_map.specs.Landing.{standing_landed}
use Rattle.wrap_map.specs.Standing.{Standing, standing_of}
use Rattle.wrap_map.proofs.Calls.{kept-as, land-landed, standing-landed, view-long}
use Rattle.wrap_map.proofs.Clearings.{fits-now, rows-now}
use Rattle.wrap_map.proofs.FewEdits.{few-edits}
use Rattle.wrap_map.proofs.map.WrapMap.land.Goals as goal

pub put_landed-requires-clause-late : goal.put_landed-requires-clause-late
put_landed-requires-clause-late g c κs lives =
    let m = c.self.inside in
    let s : Standing = standing_of (g.N.Lines.elements_by_line m.lines) m.stretches in
    record {
      stands = c.self.invariant.0;
      leads = fits-now c.args.self.now s m.width c.args.since.now (g.N.Lines.elements_by_line c.args.old.now) c.self.view_is c.requires.since;
      within = c.requires.within;
      cuts = c.requires.wraps;
    }

pub put_landed-requires-clause-rows_fit : goal.put_landed-requires-clause-rows_fit
put_landed-requires-clause-rows_fit g c κs lives =
    let m = c.self.inside in
    let s : Standing = standing_of (g.N.Lines.elements_by_line m.lines) m.stretches in
    rows-now c.args.self.now s m.width c.args.since.now c.args.run c.args.width c.self.view_is c.if-width-self.false c.requires.rows_fit

pub returns-in_err-stretches-clause-steps : goal.returns-in_err-stretches-clause-steps
returns-in_err-stretches-clause-steps g c h high =
    let m = c.self.inside in
    let s : Standing = standing_of (g.N.Lines.elements_by_line m.lines) m.stretches in
    let long = view-long c.args.self.now s m.stretches m.width c.self.view_is c.self.invariant.0.1 c.self.invariant.0.0 in
    c.put_landed.ensures.steps h (omega (arith, long, high))

pub returns-clause-steps : goal.returns-clause-steps
returns-clause-steps g c h high =
    let m = c.self.inside in
    let s : Standing = standing_of (g.N.Lines.elements_by_line m.lines) m.stretches in
    let long = view-long c.args.self.now s m.stretches m.width c.self.view_is c.self.invariant.0.1 c.self.invariant.0.0 in
    c.put_landed.ensures.steps h (omega (arith, long, high))

pub invariant_of-self : goal.invariant_of-self
invariant_of-self g c =
    let m = c.self.inside in
    let s : Standing = standing_of (g.N.Lines.elements_by_line m.lines) m.stretches in
    let few = rows-now c.args.self.now s m.width c.args.since.now c.args.run c.args.width c.self.view_is c.if-width-self.false c.requires.rows_fit in
    let is = c.self.invariant.0.0 in
    let landed = standing-landed s c.args.since.now c.args.run c.args.width is (subst IsWidth (sym c.if-width-self.false) c.self.invariant.1)
    (record { fits = is.room.fits; rows_fit = few }) in (
      kept-as (standing_landed c.args.since.now c.args.run c.args.width s) s.lines c.in_ok-stretches.stretches refl
          c.in_ok-stretches.ensures.put.lines_are landed,
      c.self.invariant.1,
    )

pub returns-clause-landed : goal.returns-clause-landed
returns-clause-landed g c width-is =
    let m = c.self.inside in
    let s : Standing = standing_of (g.N.Lines.elements_by_line m.lines) m.stretches in
    land-landed c.args.self.now s m.width c.args.since.now c.args.run c.args.width c.in_ok-stretches.stretches c.in_ok-stretches.patch
    c.self.view_is c.self.invariant.0.0 width-is c.in_ok-stretches.ensures.put

pub returns-clause-few : goal.returns-clause-few
returns-clause-few g c =
    let m = c.self.inside in
    let s : Standing = standing_of (g.N.Lines.elements_by_line m.lines) m.stretches in
    few-edits s c.args.since.now c.args.run c.args.width c.in_ok-stretches.patch c.self.invariant.0.0.one_each
    (subst IsPatch c.edits-edits.ensures.value c.edits-edits.ensures.normal) c.in_ok-stretches.ensures.put.rows
