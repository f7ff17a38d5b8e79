use Rattle.std.proofs.Common.{◌∙◌, Option, option_map, None, sym, subst}
use Rattle.cell_units.specs.Layers.{Source}
use Rattle.edit_patch.specs.LayerLeads.{LayerLeads}
use Rattle.edit_patch.specs.Leads.{LeadsIfAny, Reach, reach_of, unmoved}
use Rattle.inlay_map.specs.Kept.{IsKept}
use Rattle.inlay_map.specs.Maps.{InlayState, answer_of, source_after}
use Rattle.inlay_map.proofs.MapStates.{kept-none, leads-after, ordered-pending}
use Rattle.inlay_map.proofs.inlay_map.InlayMap.sync.Goals as goal

pub invariant_of-self : goal.invariant_of-self
invariant_of-self c = subst (λ (s : Source). IsKept c.in_ok-next.next s None) (sym c.in_ok-shown.ensures) (kept-none c.in_ok-next.next)

pub returns-clause-synced : goal.returns-clause-synced
returns-clause-synced c =
    let m = c.self.inside in
    let e = c.text_len-len.ensures.lawful in
    let v = c.args.self.now in
    let shift = option_map reach_of c.args.shift in
    let led : LayerLeads shift m.shown (source_after c.args.rope shift m.current) (answer_of c.args.rope shift (record { current = m.current; shown = m.shown; pending = option_map reach_of m.pending })) =
    leads-after shift c.args.rope m.shown m.current (option_map reach_of m.pending) e.folds e.inlays (ordered-pending c.args.shift)
    (subst (λ (s : InlayState). LeadsIfAny unmoved s.current.text c.args.rope shift) (sym c.self.view_is) c.requires.leads) (ordered-pending m.pending) c.self.invariant in
    let same = subst (λ (s : InlayState). LayerLeads shift s.shown (source_after c.args.rope shift s.current) (answer_of c.args.rope shift s)) c.self.view_is led in
    let next = c.in_ok-answered.ensures ∙ c.in_ok-next.ensures.snapshot in
    record {
      made = next;
      answered = c.in_ok-next.ensures.answer;
      leads = subst (λ (p : Source × Option Reach). LayerLeads shift v.shown p.0 p.1) (λ i. (sym next i, sym c.in_ok-next.ensures.answer i)) same;
    }

pub returns-clause-ok : goal.returns-clause-ok
returns-clause-ok c =
    let next = c.in_ok-next.ensures.snapshot in
    λ i. record { current = next i; shown = (c.in_ok-shown.ensures ∙ next) i; pending = None }
