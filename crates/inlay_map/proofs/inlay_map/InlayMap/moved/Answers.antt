use Rattle.std.proofs.Common.{◌≡◌, ◌+◌, ◌*◌, ◌≤◌, ◌<◌, ◌^◌, ◌∙◌, ℕ, length, map, option_map, Some, ap, sym, subst, arith}
use Rattle.cell_units.specs.declared.place.Bias.TheVariants.{Left, Right}
use Rattle.cell_units.specs.Layers.{Source, place_of}
use Rattle.cell_units.specs.Operation.{move_inlay}
use Rattle.edit_patch.specs.Covering.{with_pending}
use Rattle.edit_patch.specs.Leads.{Leads, Reach, reach_of, unmoved}
use Rattle.inlay_map.specs.InlaidShifts.{inlaid_shift}
use Rattle.inlay_map.specs.Maps.{InlayState, StandAfter, answer_of, source_after}
use Rattle.inlay_map.proofs.MapStates.{left-moved, pending-fits, places-small, shown-small, source-is}
use Rattle.std.proofs.lemmas.List.{length-map}
use Rattle.cell_units.specs.Record.{inlay_le}
use Rattle.mark_tree.proofs.Sorting as sorting
use Rattle.inlay_map.specs.Bounds.{IsHeight, met}
use Rattle.inlay_map.proofs.StepSums.{synced-steps}
use Rattle.inlay_map.proofs.inlay_map.InlayMap.moved.Goals as goal
use Rattle.inlay_map.proofs.inlay_map.InlayMap.moved.Goals.{After-text_len-current}

leads : (c : After-text_len-current) → Leads unmoved c.self.inside.current.text c.args.rope (reach_of c.args.shift)
leads c = subst (λ (s : InlayState). Leads unmoved s.current.text c.args.rope (reach_of c.args.shift)) (sym c.self.view_is) c.requires.leads

pub moved-requires-clause-leads : goal.moved-requires-clause-leads
moved-requires-clause-leads c = leads (goal.at.moved-requires-clause-leads c).After-text_len-current

pub moved-requires-clause-boundaries : goal.moved-requires-clause-boundaries
moved-requires-clause-boundaries c =
    subst (λ (s : InlayState). StandAfter c.args.rope (Some (reach_of c.args.shift)) s.current.inlays) (sym c.self.view_is) c.requires.boundaries

pub shift_over-moved-requires-clause-within : goal.shift_over-moved-requires-clause-within
shift_over-moved-requires-clause-within c = (leads (goal.at.shift_over-moved-requires-clause-within c).After-text_len-current).within

pub shift_over-moved-requires-clause-reaches : goal.shift_over-moved-requires-clause-reaches
shift_over-moved-requires-clause-reaches c =
    subst (λ (s : Source). c.args.shift.start + c.args.shift.count ≤ length s.text) (sym c.in_ok-next.ensures.ok) (leads (goal.at.shift_over-moved-requires-clause-reaches c).After-text_len-current).reaches

pub shift_over-moved-requires-clause-before : goal.shift_over-moved-requires-clause-before
shift_over-moved-requires-clause-before c =
    let a = (goal.at.shift_over-moved-requires-clause-before c).After-text_len-current in
    let m = c.self.inside.current in
    let e = c.text_len-current.ensures.lawful in
    ap (λ (s : Source). place_of s c.args.shift.start Left) c.in_ok-next.ensures.ok
    ∙ left-moved (reach_of c.args.shift) m.text c.args.rope m.inlays e.inlays c.args.shift.ordered (leads a)
    ∙ ap (λ (s : Source). place_of s c.args.shift.start Left) (source-is m e.folds)

pub with_pending-answer-requires : goal.with_pending-answer-requires
with_pending-answer-requires c =
    let a = (goal.at.with_pending-answer-requires c).After-text_len-current in
    let m = c.self.inside in
    let cur = c.text_len-current.ensures.lawful in
    let old = c.text_len-shown.ensures.lawful in
    let new = c.text_len-next.ensures.lawful in
    let next = c.in_ok-next.next in
    let s = c.args.shift in
    let shift = c.shift_over-moved.result in
    let is = c.shift_over-moved.ensures.shift in
    let within = (leads a).within in
    let reaches : s.start + s.count ≤ length next.text = subst (λ (v : Source). s.start + s.count ≤ length v.text) (sym c.in_ok-next.ensures.ok) (leads a).reaches in
    pending-fits m.shown m.current m.pending (reach_of shift) c.self.invariant.leads
    (places-small m.shown old.folds old.inlays old.short) (places-small m.current cur.folds cur.inlays cur.short)
    (omega (
      arith,
      ap (λ (r : Reach). r.start) is,
      ap (λ (r : Reach). r.count) is,
      ap (λ (r : Reach). r.end) is,
      shown-small m.current.text m.current.inlays Left s.start cur.inlays cur.short (omega (arith, within, s.ordered)),
      shown-small m.current.text m.current.inlays Right s.end cur.inlays cur.short within,
      shown-small next.text next.inlays Right (s.start + s.count) new.inlays new.short reaches,
      ap (λ (v : Source). place_of v s.start Left) (source-is m.current cur.folds),
      ap (λ (v : Source). place_of v s.end Right) (source-is m.current cur.folds),
      ap (λ (v : Source). place_of v (s.start + s.count) Right) (source-is next new.folds),
    ))

pub returns-clause-snapshot : goal.returns-clause-snapshot
returns-clause-snapshot c = c.in_ok-next.ensures.ok ∙ (λ i. source_after c.args.rope (Some (reach_of c.args.shift)) (c.self.view_is i).current)

pub returns-clause-answer : goal.returns-clause-answer
returns-clause-answer c =
    let m = c.self.inside in
    let r = reach_of c.args.shift in
    c.with_pending-answer.ensures
    ∙ ap (λ (x : Reach). with_pending (option_map reach_of m.pending) (Some x)) (c.shift_over-moved.ensures.shift ∙ ap (λ (s : Source). inlaid_shift m.current s r) c.in_ok-next.ensures.ok)
    ∙ ap (answer_of c.args.rope (Some r)) c.self.view_is

-- ---- steps

pub returns-in_err-next-clause-steps : goal.returns-in_err-next-clause-steps
returns-in_err-next-clause-steps c h high =
    let k = met (reach_of c.args.shift) c.self.inside.current.inlays in
    let here : k ≡ met (reach_of c.args.shift) c.args.self.now.current.inlays = ap (λ (s : InlayState). met (reach_of c.args.shift) s.current.inlays) c.self.view_is in
    let first = c.moved.ensures.steps h (subst (λ (s : InlayState). IsHeight h c.args.rope (length s.current.inlays)) (sym c.self.view_is) high) in
    subst (λ (n : ℕ). c.moved.new.steps ≤ c.args.steps.now + 339 * (n + 1) * (h + 1)) here
    (synced-steps k h c.args.steps.now c.moved.new.steps c.moved.new.steps first (omega arith))

pub returns-clause-steps : goal.returns-clause-steps
returns-clause-steps c h high =
    let m = c.self.inside.current in
    let s = c.args.shift in
    let k = met (reach_of s) m.inlays in
    let here : k ≡ met (reach_of s) c.args.self.now.current.inlays = ap (λ (v : InlayState). met (reach_of s) v.current.inlays) c.self.view_is in
    let high' = subst (λ (v : InlayState). IsHeight h c.args.rope (length v.current.inlays)) (sym c.self.view_is) high in
    let long : length c.in_ok-next.next.inlays ≡ length m.inlays =
    ap (λ (v : Source). length v.inlays) c.in_ok-next.ensures.ok ∙ sorting.length-sort inlay_le (map (move_inlay s.start s.end s.count) m.inlays) ∙ length-map m.inlays (move_inlay s.start s.end s.count) in
    subst (λ (n : ℕ). c.shift_over-moved.new.steps ≤ c.args.steps.now + 339 * (n + 1) * (h + 1)) here
    (synced-steps k h c.args.steps.now c.moved.new.steps c.shift_over-moved.new.steps (c.moved.ensures.steps h high')
    (c.shift_over-moved.ensures.steps h high'.1 (subst (λ (n : ℕ). n < 2 * 6 ^ (h + 1)) (sym long) high'.1)))
