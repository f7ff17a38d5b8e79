use Rattle.std.proofs.Common.{◌≡◌, ◌==◌, ◌≤◌, ◌∙◌, not, arith, ℕ, Option, None, Some, false, length, ap, refl, sym, subst}
use Rattle.std.specs.List.{Contains, find}
use Rattle.std.specs.Option.{is_some}
use Rattle.std.proofs.lemmas.List.Sums.{count_by-le-length, length-filter}
use Rattle.cell_units.specs.declared.fault.Fault.TheVariants.{Refused}
use Rattle.cell_units.specs.declared.fault.Refusal.{Refusal}
use Rattle.cell_units.specs.declared.fault.Refusal.TheVariants.{UnknownId}
use Rattle.cell_units.specs.Inlaid.{inlays_at}
use Rattle.cell_units.specs.Layers.{Source, inlay_source}
use Rattle.cell_units.specs.Operation.{without_inlay}
use Rattle.cell_units.specs.Record.{Inlay}
use Rattle.inlay_map.specs.Maps.{InlayState, IsOwed, remove_refusal, with_inlays}
use Rattle.inlay_map.proofs.MapStates.{removed-differs}
use Rattle.inlay_map.proofs.MetRows.{found-fits}
use Rattle.mark_tree.proofs.Finding.{position-some}
use Rattle.inlay_map.proofs.MovedInlays.{IsAt, at-position, contained-found, found-any}
use Rattle.inlay_map.proofs.Refusals.{known-id, owed-memory, unknown-id}
use Rattle.text_rope.specs.Ropes.{HasHeight}
use Rattle.inlay_map.proofs.inlay_map.InlayMap.remove.Goals as goal
use Rattle.inlay_map.proofs.inlay_map.InlayMap.remove.Goals.{After-text_len-len, In_ok-next}

-- the inlay of the id
here : (c : In_ok-next) → IsAt c.args.id c.self.inside.current.inlays c.in-Some.at
here c =
    at-position c.args.id c.self.inside.current.inlays c.in-Some.at (c.text_len-len.ensures.lawful.inlays.distinct c.args.id) (sym c.find_id.ensures.index ∙ c.in-Some.is)

offset-is : (c : In_ok-next) → (here c).inlay.offset ≡ c.in_ok-next.offset
offset-is c = c.in_ok-next.ensures.offset (here c).inlay (here c).stands

-- it is there no more
next-is : (c : In_ok-next) → c.in_ok-next.next ≡ inlay_source c.self.inside.current.text (without_inlay (here c).inlay.id c.self.inside.current.inlays)
next-is c = c.in_ok-next.ensures.ok ∙ ap (inlay_source c.self.inside.current.text) (here c).left

none-found : (found : Option ℕ) → ((at : ℕ) → found ≡ Some at → ⊥) → is_some found ≡ false
none-found None not = refl
none-found (Some at) not = absurd (not at refl)

pub returns-in_default-clause-refused : goal.returns-in_default-clause-refused
returns-in_default-clause-refused c =
    let none = found-any c.args.id c.self.inside.current.inlays c.find_id.result c.find_id.ensures.index ∙ none-found c.find_id.result c.in_default.not-Some in
    subst (λ (o : Option Refusal). IsOwed o (Refused UnknownId))
    (unknown-id c.self.inside.current c.args.id none ∙ ap (λ (s : InlayState). remove_refusal s.current c.args.id) c.self.view_is) refl

pub removed-requires : goal.removed-requires
removed-requires c = (position-some (λ (i : Inlay). i.id == c.args.id) c.self.inside.current.inlays c.in-Some.at (sym c.find_id.ensures.index ∙ c.in-Some.is)).0

pub returns-in_err-next-clause-refused : goal.returns-in_err-next-clause-refused
returns-in_err-next-clause-refused c =
    let any = found-any c.args.id c.self.inside.current.inlays c.find_id.result c.find_id.ensures.index ∙ ap is_some c.in-Some.is in
    owed-memory (remove_refusal c.args.self.now.current c.args.id) c.from_residual.result
    (known-id c.self.inside.current c.args.id any ∙ ap (λ (s : InlayState). remove_refusal s.current c.args.id) c.self.view_is) c.from_residual.ensures.1

pub turn_to-requires-clause-text : goal.turn_to-requires-clause-text
turn_to-requires-clause-text c = ap (λ (s : Source). s.text) c.in_ok-next.ensures.ok ∙ ap (λ (s : InlayState). s.current.text) c.self.view_is

pub turn_to-requires-clause-within : goal.turn_to-requires-clause-within
turn_to-requires-clause-within c =
    let a = (goal.at.turn_to-requires-clause-within c).In_ok-next in
    let m = c.self.inside.current in
    let fits = found-fits m.text m.inlays (here a).inlay c.text_len-len.ensures.lawful.inlays (here a).found in
    subst (λ (s : Source). c.in_ok-next.offset ≤ length s.text) (sym c.in_ok-next.ensures.ok) (subst (λ (o : ℕ). o ≤ length m.text) (offset-is a) fits.boundary.0)

pub turn_to-requires-clause-differ : goal.turn_to-requires-clause-differ
turn_to-requires-clause-differ c k ne =
    let a = (goal.at.turn_to-requires-clause-differ c).In_ok-next in
    let m = c.self.inside.current in
    let i = (here a).inlay in
    ap (λ (s : Source). inlays_at s.inlays k) (next-is a)
    ∙ removed-differs i m.inlays (c.text_len-len.ensures.lawful.inlays.distinct i.id) (here a).found k (λ e. ne (e ∙ offset-is a))
    ∙ ap (λ (s : InlayState). inlays_at s.current.inlays k) c.self.view_is

-- no other inlay has the id
pub returns-clause-ok : goal.returns-clause-ok
returns-clause-ok c i has same =
    let a = (goal.at.returns-clause-ok c).In_ok-next in
    let v = c.args.self.now in
    let m = c.self.inside.current in
    let few = c.text_len-len.ensures.lawful.inlays.distinct c.args.id in
    let there = subst (λ (s : InlayState). Contains s.current.inlays i) (sym c.self.view_is) has in
    let this : (here a).inlay ≡ i = found-same (sym (subst (λ n. find (λ j. j.id == n) m.inlays ≡ Some (here a).inlay) (here a).same (here a).found) ∙ contained-found c.args.id m.inlays i few there same) in
    c.turn_to.ensures.now
    ∙ ap (λ (s : Source). with_inlays s.inlays c.in_ok-next.offset v) (next-is a)
    ∙ ap (λ (o : ℕ). with_inlays (without_inlay (here a).inlay.id m.inlays) o v) (sym (offset-is a))
    ∙ (λ j. with_inlays (without_inlay (this j).id (c.self.view_is j).current.inlays) (this j).offset v) where
      found-same : {x y : Inlay} → Some x ≡ Some y → x ≡ y
      found-same e = cc

pub returns-clause-accepted : goal.returns-clause-accepted
returns-clause-accepted c =
    let any = found-any c.args.id c.self.inside.current.inlays c.find_id.result c.find_id.ensures.index ∙ ap is_some c.in-Some.is in
    sym (known-id c.self.inside.current c.args.id any ∙ ap (λ (s : InlayState). remove_refusal s.current c.args.id) c.self.view_is)

-- ---- steps

same_length : (c : After-text_len-len) → length c.self.inside.current.inlays ≡ length c.args.self.now.current.inlays
same_length c = ap (λ (s : InlayState). length s.current.inlays) c.self.view_is

pub returns-in_err-next-clause-steps : goal.returns-in_err-next-clause-steps
returns-in_err-next-clause-steps c h high =
    let same = same_length (goal.at.returns-in_err-next-clause-steps c).After-text_len-len in
    omega (
      arith,
      c.find_id.ensures.steps,
      c.removed.ensures.steps h (subst (λ (s : InlayState). HasHeight h s.current.text) (sym c.self.view_is) high.0, omega (arith, high.1, same)),
      same,
    )

pub returns-clause-steps : goal.returns-clause-steps
returns-clause-steps c h high =
    let m = c.self.inside.current in
    let a = (goal.at.returns-clause-steps c).In_ok-next in
    let same = same_length (goal.at.returns-clause-steps c).After-text_len-len in
    let less : length c.in_ok-next.next.inlays ≤ length m.inlays =
    omega (arith, ap (λ (s : Source). length s.inlays) (next-is a), length-filter (λ (i : Inlay). not (i.id == (here a).inlay.id)) m.inlays, count_by-le-length (λ (i : Inlay). not (i.id == (here a).inlay.id)) m.inlays) in
    omega (
      arith,
      c.find_id.ensures.steps,
      c.removed.ensures.steps h (subst (λ (s : InlayState). HasHeight h s.current.text) (sym c.self.view_is) high.0, omega (arith, high.1, same)),
      c.turn_to.ensures.steps h high.1 (omega (arith, high.1, less, same)),
      same,
    )
