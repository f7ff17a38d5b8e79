use Rattle.std.proofs.Common.{subst}
use Rattle.edit_patch.specs.Patch.{IsPatch}
use Rattle.wrap_map.specs.Standing.{Standing, standing_of}
use Rattle.wrap_map.proofs.StepSums.{landing-once}
use Rattle.wrap_map.proofs.Rises.{risen-fit}
use Rattle.wrap_map.proofs.landing.put_landed.Goals as goal

pub put_run-requires-clause-fits : goal.put_run-requires-clause-fits
put_run-requires-clause-fits g c κs lives =
    let s : Standing = standing_of (g.N.Lines.elements_by_line c.args.lines.now) c.args.from.now in
    let old = g.N.Lines.elements_by_line c.args.late.now.old.now in
    risen-fit s old c.args.late.now.since.now c.args.late.now.run c.args.late.now.mark (λ cuts. cuts.items) c.args.late.now.wraps.now c.args.from.now
    c.requires.late.stands.1 c.requires.late.stands.0 (subst IsPatch c.edits-edits.ensures.value c.edits-edits.ensures.normal) c.requires.late.leads c.requires.late.within c.requires.late.cuts
    (c.may_rise.ensures.0 c.if-may_rise.true)

pub returns-then-may_rise-clause-steps : goal.returns-then-may_rise-clause-steps
returns-then-may_rise-clause-steps g c h high =
    landing-once c.args.late.now.run.count h c.args.steps.now c.put_run.new.steps (c.put_run.ensures.steps h high)
