use Rattle.std.proofs.Common.{◌≡◌, ◌∙◌, length, map, ap, sym, subst, arith}
use Rattle.wrap_map.specs.Landing.{cuts_of_run}
use Rattle.wrap_map.specs.Standing.{Standing, standing_of}
use Rattle.wrap_map.proofs.Clearings.{cleared-so, falls-fit, no-wraps, put-long, rises-fit, two-fit, two-puts}
use Rattle.wrap_map.proofs.StepSums.{landing-once, landing-twice}
use Rattle.wrap_map.proofs.Synced.{length-stood_of}
use Rattle.wrap_map.proofs.landing.put_twice.Goals as goal

pub put_run-requires-clause-late : goal.put_run-requires-clause-late
put_run-requires-clause-late g c κs lives =
    record {
      stands = c.requires.late.stands;
      leads = c.requires.late.leads;
      within = c.requires.late.within;
      cuts = subst (λ ws. map (λ cuts. cuts.items) ws ≡ cuts_of_run (g.N.Lines.elements_by_line c.args.late.now.old.now) c.args.late.now.run 0) (sym c.as_slice.ensures.value)
          (no-wraps (λ cuts. cuts.items) c.in_ok-none.none.items (g.N.Lines.elements_by_line c.args.late.now.old.now) c.args.late.now.run c.requires.late.within
          c.in_ok-none.ensures.count c.in_ok-none.ensures.empty);
    }

pub put_run-requires-clause-fits : goal.put_run-requires-clause-fits
put_run-requires-clause-fits g c κs lives =
    let s : Standing = standing_of (g.N.Lines.elements_by_line c.args.lines.now) c.args.from.now in
    falls-fit s c.args.late.now.since.now c.args.late.now.run c.args.from.now c.requires.late.stands.1 c.requires.late.stands.0

pub put_run-requires-2-clause-late : goal.put_run-requires-2-clause-late
put_run-requires-2-clause-late g c κs lives =
    let s : Standing = standing_of (g.N.Lines.elements_by_line c.args.lines.now) c.args.from.now in
    record {
      stands = cleared-so s c.args.late.now.since.now c.args.late.now.run c.in_ok-cleared.cleared c.requires.late.stands.0 c.in_ok-cleared.ensures.put.lines_are;
      leads = c.requires.late.leads;
      within = c.requires.late.within;
      cuts = c.requires.late.cuts;
    }

pub put_run-requires-2-clause-fits : goal.put_run-requires-2-clause-fits
put_run-requires-2-clause-fits g c κs lives =
    let s : Standing = standing_of (g.N.Lines.elements_by_line c.args.lines.now) c.args.from.now in
    rises-fit s c.args.late.now.since.now c.args.late.now.run c.args.late.now.mark c.in_ok-cleared.cleared c.requires.late.stands.0 c.in_ok-cleared.ensures.put.lines_are c.requires.rows_fit

pub compose-requires : goal.compose-requires
compose-requires g c =
    let s : Standing = standing_of (g.N.Lines.elements_by_line c.args.lines.now) c.args.from.now in
    two-fit s c.args.late.now.since.now c.args.late.now.run c.args.late.now.mark c.in_ok-cleared.cleared c.in_ok-landed.landed c.in_ok-cleared.falls c.in_ok-landed.rises
    c.requires.late.stands.0 c.in_ok-cleared.ensures.put c.in_ok-landed.ensures.put c.requires.rows_fit

pub returns-in_err-cleared-clause-steps : goal.returns-in_err-cleared-clause-steps
returns-in_err-cleared-clause-steps g c h high =
    landing-once c.args.late.now.run.count h c.args.steps.now c.put_run.new.steps (c.put_run.ensures.steps h high)

pub returns-in_err-landed-clause-steps : goal.returns-in_err-landed-clause-steps
returns-in_err-landed-clause-steps g c h high =
    let s : Standing = standing_of (g.N.Lines.elements_by_line c.args.lines.now) c.args.from.now in
    let same = put-long s c.args.late.now.since.now c.args.late.now.run 0 c.in_ok-cleared.cleared c.in_ok-cleared.falls c.requires.late.stands.0 c.in_ok-cleared.ensures.put in
    let lines = ap length c.requires.late.stands.1 ∙ length-stood_of s c.requires.late.stands.0.one_each in
    landing-twice c.args.late.now.run.count h c.args.steps.now c.put_run.new.steps c.put_run-2.new.steps
    (c.put_run.ensures.steps h high) (c.put_run-2.ensures.steps h (omega (arith, lines, same, high)))

pub returns-in_err-patch-clause-steps : goal.returns-in_err-patch-clause-steps
returns-in_err-patch-clause-steps g c h high =
    let s : Standing = standing_of (g.N.Lines.elements_by_line c.args.lines.now) c.args.from.now in
    let same = put-long s c.args.late.now.since.now c.args.late.now.run 0 c.in_ok-cleared.cleared c.in_ok-cleared.falls c.requires.late.stands.0 c.in_ok-cleared.ensures.put in
    let lines = ap length c.requires.late.stands.1 ∙ length-stood_of s c.requires.late.stands.0.one_each in
    landing-twice c.args.late.now.run.count h c.args.steps.now c.put_run.new.steps c.put_run-2.new.steps
    (c.put_run.ensures.steps h high) (c.put_run-2.ensures.steps h (omega (arith, lines, same, high)))

pub returns-clause-steps : goal.returns-clause-steps
returns-clause-steps g c h high =
    let s : Standing = standing_of (g.N.Lines.elements_by_line c.args.lines.now) c.args.from.now in
    let same = put-long s c.args.late.now.since.now c.args.late.now.run 0 c.in_ok-cleared.cleared c.in_ok-cleared.falls c.requires.late.stands.0 c.in_ok-cleared.ensures.put in
    let lines = ap length c.requires.late.stands.1 ∙ length-stood_of s c.requires.late.stands.0.one_each in
    landing-twice c.args.late.now.run.count h c.args.steps.now c.put_run.new.steps c.put_run-2.new.steps
    (c.put_run.ensures.steps h high) (c.put_run-2.ensures.steps h (omega (arith, lines, same, high)))

pub returns-clause-put : goal.returns-clause-put
returns-clause-put g c =
    let s : Standing = standing_of (g.N.Lines.elements_by_line c.args.lines.now) c.args.from.now in
    two-puts s c.args.late.now.since.now c.args.late.now.run c.args.late.now.mark c.in_ok-cleared.cleared c.in_ok-landed.landed
    c.in_ok-cleared.falls c.in_ok-landed.rises c.in_ok-patch.patch c.requires.late.stands.0
    c.in_ok-cleared.ensures.put c.in_ok-landed.ensures.put c.in_ok-patch.ensures
