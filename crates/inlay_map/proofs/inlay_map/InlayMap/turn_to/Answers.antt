use Rattle.std.proofs.Common.{◌≡◌, ◌+◌, ◌*◌, ◌≤◌, ◌<◌, ◌^◌, ◌∙◌, ℕ, List, length, Option, option_map, Some, ap, sym, subst, arith}
use Rattle.cell_units.specs.declared.place.Bias.TheVariants.{Left, Right}
use Rattle.cell_units.specs.Inlaid.{inlays_at}
use Rattle.cell_units.specs.Layers.{Source, inlay_source, place_of}
use Rattle.edit_patch.specs.Covering.{with_pending}
use Rattle.edit_patch.specs.Leads.{Reach, reach_of}
use Rattle.inlay_map.specs.Kept.{IsKept}
use Rattle.inlay_map.specs.InlaidShifts.{inlay_shift}
use Rattle.inlay_map.specs.Maps.{InlayState}
use Rattle.inlay_map.proofs.MapStates.{kept-turned, ordered-pending, pending-fits, places-small, shown-small, source-is, turned-left}
use Rattle.inlay_map.proofs.inlay_map.InlayMap.turn_to.Goals as goal

abbrev turned : Source → Source → Option Reach → InlayState
turned current shown pending = record { current = current; shown = shown; pending = pending }

pub shift_to-shift-requires-clause-before : goal.shift_to-shift-requires-clause-before
shift_to-shift-requires-clause-before c =
    let m = c.self.inside in
    let now : m.current ≡ c.args.self.now.current = ap (λ (v : InlayState). v.current) c.self.view_is in
    turned-left m.current c.args.next c.args.offset c.text_len-current.ensures.lawful.folds c.text_len-next.ensures.lawful.folds
    (c.requires.text ∙ sym (ap (λ (v : Source). v.text) now))
    (λ k ne. c.requires.differ k ne ∙ sym (ap (λ (v : Source). inlays_at v.inlays k) now))

pub with_pending-requires : goal.with_pending-requires
with_pending-requires c =
    let m = c.self.inside in
    let cur = c.text_len-current.ensures.lawful in
    let old = c.text_len-shown.ensures.lawful in
    let now : m.current ≡ c.args.self.now.current = ap (λ (v : InlayState). v.current) c.self.view_is in
    let o = c.args.offset in
    let next = c.args.next in
    let new = c.text_len-next.ensures.lawful in
    let le : o ≤ length m.current.text = omega (arith, c.requires.within, ap (λ (t : List ℕ). length t) (c.requires.text ∙ sym (ap (λ (v : Source). v.text) now))) in
    let shift = c.shift_to-shift.result in
    let is = c.shift_to-shift.ensures.shift in
    pending-fits m.shown m.current m.pending (reach_of shift) c.self.invariant.leads
    (places-small m.shown old.folds old.inlays old.short) (places-small m.current cur.folds cur.inlays cur.short)
    (omega (
      arith,
      ap (λ (r : Reach). r.start) is,
      ap (λ (r : Reach). r.count) is,
      ap (λ (r : Reach). r.end) is,
      shown-small m.current.text m.current.inlays Left o cur.inlays cur.short le,
      shown-small m.current.text m.current.inlays Right o cur.inlays cur.short le,
      shown-small next.text next.inlays Right o new.inlays new.short c.requires.within,
      ap (λ (v : Source). place_of v o Left) (source-is m.current cur.folds),
      ap (λ (v : Source). place_of v o Right) (source-is m.current cur.folds),
      ap (λ (v : Source). place_of v o Right) (source-is next new.folds),
    ))

pub invariant_of-self : goal.invariant_of-self
invariant_of-self c =
    let m = c.self.inside in
    let now : m.current ≡ c.args.self.now.current = ap (λ (v : InlayState). v.current) c.self.view_is in
    subst (λ (p : Option Reach). IsKept c.args.next m.shown p)
    (ap (λ (r : Reach). with_pending (option_map reach_of m.pending) (Some r)) (sym c.shift_to-shift.ensures.shift) ∙ sym c.with_pending.ensures)
    (kept-turned m.current m.shown c.args.next c.args.offset (option_map reach_of m.pending) c.text_len-current.ensures.lawful.folds c.text_len-next.ensures.lawful.folds
    (c.requires.text ∙ sym (ap (λ (v : Source). v.text) now)) c.requires.within
    (λ k ne. c.requires.differ k ne ∙ sym (ap (λ (v : Source). inlays_at v.inlays k) now))
    (ordered-pending m.pending) c.self.invariant)

pub returns-clause-now : goal.returns-clause-now
returns-clause-now c =
    let m = c.self.inside in
    let v = c.args.self.now in
    let next = c.args.next in
    let is : next ≡ inlay_source v.current.text next.inlays = sym (source-is next c.text_len-next.ensures.lawful.folds) ∙ ap (λ (t : List ℕ). inlay_source t next.inlays) c.requires.text in
    let pending = c.with_pending.ensures ∙ ap (λ (r : Reach). with_pending (option_map reach_of m.pending) (Some r)) c.shift_to-shift.ensures.shift in
    (λ i. turned next m.shown (pending i))
    ∙ ap (λ (s : InlayState). turned next s.shown (with_pending s.pending (Some (inlay_shift s.current next c.args.offset)))) c.self.view_is
    ∙ ap (λ (s : Source). turned s v.shown (with_pending v.pending (Some (inlay_shift v.current s c.args.offset)))) is

pub returns-clause-steps : goal.returns-clause-steps
returns-clause-steps c h few few' = c.shift_to-shift.ensures.steps h (subst (λ (s : InlayState). length s.current.inlays < 2 * 6 ^ (h + 1)) (sym c.self.view_is) few) few'
