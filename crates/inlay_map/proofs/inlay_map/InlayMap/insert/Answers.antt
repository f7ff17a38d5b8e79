use Rattle.std.proofs.Common.{◌≡◌, ◌+◌, ◌*◌, ◌≤◌, ◌∙◌, ℕ, List, Option, length, ap, refl, sym, subst, arith}
use Rattle.std.specs.Str.{IsUtf8}
use Rattle.cell_units.specs.declared.fault.Fault.TheVariants.{Refused}
use Rattle.cell_units.specs.declared.fault.Refusal.{Refusal}
use Rattle.cell_units.specs.Inlaid.{inlays_at}
use Rattle.cell_units.specs.Layers.{Source}
use Rattle.cell_units.specs.Record.{Inlay, inlay_le}
use Rattle.cell_units.specs.Sorting.{insert_by}
use Rattle.cell_units.specs.Text.{IsBoundary}
use Rattle.cell_units.proofs.TextLaws.{tells_boundaries}
use Rattle.inlay_map.specs.Maps.{InlayState, IsOwed, add_refusal, with_inlays}
use Rattle.inlay_map.proofs.MapStates.{IsAccepted, accepted-is, added-differs, none-counted}
use Rattle.inlay_map.proofs.Refusals.{owed-memory}
use Rattle.mark_tree.proofs.Sorting as sorting
use Rattle.text_rope.specs.Ropes.{HasHeight}
use Rattle.inlay_map.specs.Bounds.{IsHeight}
use Rattle.inlay_map.proofs.inlay_map.InlayMap.insert.Goals as goal
use Rattle.inlay_map.proofs.inlay_map.InlayMap.insert.Goals.{After-added, After-refusal_to_add, After-text_len-len}

-- the inlay isn't refused
accepted : (c : After-text_len-len) → IsAccepted c.self.inside.current c.args.id c.args.offset c.args.text.now
accepted c = accepted-is c.self.inside.current c.args.id c.args.offset c.args.text.now (sym c.in_default.ensures.refusal)

boundary : (c : After-text_len-len) → IsBoundary c.self.inside.current.text c.args.offset
boundary c = (tells_boundaries c.self.inside.current.text c.text_len-len.ensures.lawful.text.0 c.args.offset).0 (accepted c).boundary

pub returns-in-Some-clause-refused : goal.returns-in-Some-clause-refused
returns-in-Some-clause-refused c =
    subst (λ (o : Option Refusal). IsOwed o (Refused c.in-Some.refusal))
    (c.in-Some.ensures.refusal ∙ ap (λ (s : InlayState). add_refusal s.current c.args.id c.args.offset c.args.text.now) c.self.view_is) refl

pub returns-in_err-new-clause-refused : goal.returns-in_err-new-clause-refused
returns-in_err-new-clause-refused c =
    owed-memory (add_refusal c.args.self.now.current c.args.id c.args.offset c.args.text.now) c.from_residual.result
    (c.in_default.ensures.refusal ∙ ap (λ (s : InlayState). add_refusal s.current c.args.id c.args.offset c.args.text.now) c.self.view_is) c.from_residual.ensures.1

pub added-requires-clause-fits : goal.added-requires-clause-fits
added-requires-clause-fits c =
    let a = (goal.at.added-requires-clause-fits c).After-text_len-len in
    let x = accepted a in
    let text = c.in_ok-new.ensures in
    record {
      boundary = boundary a;
      utf8 = subst IsUtf8 (sym text) c.utf8.text;
      some = omega (arith, x.some, ap (λ (l : List ℕ). length l) text);
      short = omega (arith, x.short, ap (λ (l : List ℕ). length l) text);
    }

pub added-requires-clause-room : goal.added-requires-clause-room
added-requires-clause-room c =
    let x = accepted (goal.at.added-requires-clause-room c).After-text_len-len in
    record { fresh = none-counted c.args.id c.self.inside.current.inlays x.fresh; room = x.room }

pub returns-in_err-next-clause-refused : goal.returns-in_err-next-clause-refused
returns-in_err-next-clause-refused c =
    owed-memory (add_refusal c.args.self.now.current c.args.id c.args.offset c.args.text.now) c.from_residual-in_err-next.result
    (c.in_default.ensures.refusal ∙ ap (λ (s : InlayState). add_refusal s.current c.args.id c.args.offset c.args.text.now) c.self.view_is) c.from_residual-in_err-next.ensures.1

pub turn_to-requires-clause-text : goal.turn_to-requires-clause-text
turn_to-requires-clause-text c = ap (λ (s : Source). s.text) c.in_ok-next.ensures.ok ∙ ap (λ (s : InlayState). s.current.text) c.self.view_is

pub turn_to-requires-clause-within : goal.turn_to-requires-clause-within
turn_to-requires-clause-within c =
    let a = (goal.at.turn_to-requires-clause-within c).After-text_len-len in
    subst (λ (s : Source). c.args.offset ≤ length s.text) (sym c.in_ok-next.ensures.ok) (boundary a).0

pub turn_to-requires-clause-differ : goal.turn_to-requires-clause-differ
turn_to-requires-clause-differ c k ne =
    let i : Inlay = record { offset = c.args.offset; bias = c.args.bias; id = c.args.id; text = c.in_ok-new.field-0 } in
    ap (λ (s : Source). inlays_at s.inlays k) c.in_ok-next.ensures.ok
    ∙ added-differs i c.self.inside.current.inlays k ne
    ∙ ap (λ (s : InlayState). inlays_at s.current.inlays k) c.self.view_is

pub returns-clause-ok : goal.returns-clause-ok
returns-clause-ok c =
    let text = c.in_ok-new.ensures in
    c.turn_to.ensures.now
    ∙ ap (λ (s : Source). with_inlays s.inlays c.args.offset c.args.self.now) c.in_ok-next.ensures.ok
    ∙ (λ j. with_inlays (insert_by inlay_le (record { offset = c.args.offset; bias = c.args.bias; id = c.args.id; text = text j }) (c.self.view_is j).current.inlays) c.args.offset c.args.self.now)

pub returns-clause-accepted : goal.returns-clause-accepted
returns-clause-accepted c =
    sym (c.in_default.ensures.refusal ∙ ap (λ (s : InlayState). add_refusal s.current c.args.id c.args.offset c.args.text.now) c.self.view_is)

-- ---- steps

judged : (c : After-refusal_to_add) (h : ℕ) → IsHeight h c.args.self.now.current.text (length c.args.self.now.current.inlays + 1)
    → 5 * c.refusal_to_add.new.steps ≤ 5 * c.args.steps.now + (length c.args.self.now.current.inlays + 5 * (2 * (h + 1)))
judged c h high =
    let same : length c.self.inside.current.inlays ≡ length c.args.self.now.current.inlays = ap (λ (s : InlayState). length s.current.inlays) c.self.view_is in
    omega (
      arith,
      c.refusal_to_add.ensures.steps h (subst (λ (s : InlayState). HasHeight h s.current.text) (sym c.self.view_is) high.0, omega (arith, high.1, same)),
      same,
    )

pub returns-in-Some-clause-steps : goal.returns-in-Some-clause-steps
returns-in-Some-clause-steps c h high = omega (arith, judged (goal.at.returns-in-Some-clause-steps c).After-refusal_to_add h high)

pub returns-in_err-new-clause-steps : goal.returns-in_err-new-clause-steps
returns-in_err-new-clause-steps c h high = omega (arith, judged (goal.at.returns-in_err-new-clause-steps c).After-refusal_to_add h high)

placed : (c : After-added) (h : ℕ) → IsHeight h c.args.self.now.current.text (length c.args.self.now.current.inlays + 1)
    → c.added.new.steps ≤ c.refusal_to_add.new.steps + 524 * (h + 1)
placed c h high =
    let same : length c.self.inside.current.inlays ≡ length c.args.self.now.current.inlays = ap (λ (s : InlayState). length s.current.inlays) c.self.view_is in
    omega (
      arith,
      c.added.ensures.steps h (subst (λ (s : InlayState). HasHeight h s.current.text) (sym c.self.view_is) high.0, omega (arith, high.1, same)),
      same,
    )

pub returns-in_err-next-clause-steps : goal.returns-in_err-next-clause-steps
returns-in_err-next-clause-steps c h high =
    let at = goal.at.returns-in_err-next-clause-steps c in
    omega (arith, judged at.After-refusal_to_add h high, placed at.After-added h high)

pub returns-clause-steps : goal.returns-clause-steps
returns-clause-steps c h high =
    let at = goal.at.returns-clause-steps c in
    let i : Inlay = record { offset = c.args.offset; bias = c.args.bias; id = c.args.id; text = c.in_ok-new.field-0 } in
    let m = c.self.inside.current in
    let same : length m.inlays ≡ length c.args.self.now.current.inlays = ap (λ (s : InlayState). length s.current.inlays) c.self.view_is in
    let more : length c.in_ok-next.next.inlays ≡ length m.inlays + 1 = ap (λ (s : Source). length s.inlays) c.in_ok-next.ensures.ok ∙ sorting.length-insert inlay_le i m.inlays in
    omega (arith, judged at.After-refusal_to_add h high, placed at.After-added h high, c.turn_to.ensures.steps h (omega (arith, high.1)) (omega (arith, high.1, more, same)))
