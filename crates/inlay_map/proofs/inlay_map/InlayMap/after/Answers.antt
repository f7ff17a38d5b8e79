use Rattle.std.proofs.Common.{◌+◌, ◌≤◌, ◌∙◌, Option, option_map, ap, sym, subst}
use Rattle.cell_units.specs.declared.place.Shift.{Shift}
use Rattle.edit_patch.specs.Leads.{LeadsIfAny, reach_of, unmoved}
use Rattle.inlay_map.specs.Bounds.{met_by, syncing}
use Rattle.inlay_map.specs.Maps.{InlayState, StandAfter, answer_of, source_after}
use Rattle.inlay_map.proofs.MapStates.{pending-alone}
use Rattle.inlay_map.proofs.inlay_map.InlayMap.after.Goals as goal

pub over-requires : goal.over-requires
over-requires c =
    subst (λ (o : Option Shift). LeadsIfAny unmoved c.args.self.now.current.text c.args.rope (option_map reach_of o)) c.in-None.is c.requires.leads
    ∙ ap (λ (s : InlayState). s.current.text) (sym c.self.view_is)

pub returns-in_ok-over-in-None-clause-snapshot : goal.returns-in_ok-over-in-None-clause-snapshot
returns-in_ok-over-in-None-clause-snapshot c =
    c.in_ok-over-in-None.ensures ∙ (λ i. source_after c.args.rope (option_map reach_of (sym c.in-None.is i)) (c.self.view_is i).current)

pub returns-in_ok-over-in-None-clause-answer : goal.returns-in_ok-over-in-None-clause-answer
returns-in_ok-over-in-None-clause-answer c =
    pending-alone (option_map reach_of c.self.inside.pending) ∙ (λ i. answer_of c.args.rope (option_map reach_of (sym c.in-None.is i)) (c.self.view_is i))

pub moved-requires-clause-leads : goal.moved-requires-clause-leads
moved-requires-clause-leads c =
    subst (λ (o : Option Shift). LeadsIfAny unmoved c.args.self.now.current.text c.args.rope (option_map reach_of o)) c.in-Some.is c.requires.leads

pub moved-requires-clause-boundaries : goal.moved-requires-clause-boundaries
moved-requires-clause-boundaries c =
    subst (λ (o : Option Shift). StandAfter c.args.rope (option_map reach_of o) c.args.self.now.current.inlays) c.in-Some.is c.requires.boundaries

pub returns-in_ok-next-in-Some-clause-snapshot : goal.returns-in_ok-next-in-Some-clause-snapshot
returns-in_ok-next-in-Some-clause-snapshot c = c.in_ok-next-in-Some.ensures.snapshot ∙ (λ i. source_after c.args.rope (option_map reach_of (sym c.in-Some.is i)) c.args.self.now.current)

pub returns-in_ok-next-in-Some-clause-answer : goal.returns-in_ok-next-in-Some-clause-answer
returns-in_ok-next-in-Some-clause-answer c = c.in_ok-next-in-Some.ensures.answer ∙ (λ i. answer_of c.args.rope (option_map reach_of (sym c.in-Some.is i)) c.args.self.now)

-- ---- steps

pub returns-in_ok-next-in-Some-clause-steps : goal.returns-in_ok-next-in-Some-clause-steps
returns-in_ok-next-in-Some-clause-steps c h high =
    subst (λ (o : Option Shift). c.moved.new.steps ≤ c.args.steps.now + syncing (met_by (option_map reach_of o) c.args.self.now.current.inlays) h) (sym c.in-Some.is) (c.moved.ensures.steps h high)

pub returns-in_err-next-in-Some-clause-steps : goal.returns-in_err-next-in-Some-clause-steps
returns-in_err-next-in-Some-clause-steps c h high =
    subst (λ (o : Option Shift). c.moved.new.steps ≤ c.args.steps.now + syncing (met_by (option_map reach_of o) c.args.self.now.current.inlays) h) (sym c.in-Some.is) (c.moved.ensures.steps h high)
