use Rattle.std.proofs.Common.{◌≡◌, ◌<◌, ◌≤◌, ◌+◌, ◌*◌, ◌^◌, ◌∙◌, ℕ, List, ap, sym, subst, length, length-append, length-drop, take, drop, arith}
use Rattle.std.specs.List.{slice_get}
use Rattle.std.proofs.lemmas.List.{length-take}
use Rattle.cell_units.specs.Layers.{Source}
use Rattle.text_rope.specs.Ropes.{HasHeight}
use Rattle.inlay_map.specs.Bounds.{TakesInlaid, putting}
use Rattle.sum_core.specs.declared.load.NoLoad.{NoLoad}
use Rattle.splice_tree.specs.Splices.{Piece, with_first_gap}
use Rattle.inlay_map.specs.declared.amount.Amount.{Amount}
use Rattle.inlay_map.specs.Splices.{splices_from, without_at}
use Rattle.inlay_map.proofs.SpliceLists.{length-splices, run-front, run-rest, taken-front, taken-rest}
use Rattle.inlay_map.proofs.snapshot.InlaySnapshot.removed.Goals as goal
use Rattle.inlay_map.proofs.snapshot.InlaySnapshot.removed.Goals.{After-respliced}

pub respliced-requires-clause-within : goal.respliced-requires-clause-within
respliced-requires-clause-within c =
    let s = c.self.inside.inlaid in
    omega (
      arith,
      c.new.ensures.end,
      c.requires,
      ap (λ (v : Source). length v.inlays) c.self.view_is,
      length-splices s.text 0 s.inlays,
      ap (λ (l : List (Piece Amount NoLoad)). length l) c.self.invariant,
    )

pub respliced-requires-clause-reaches : goal.respliced-requires-clause-reaches
respliced-requires-clause-reaches c =
    let at = c.args.at in
    let is = c.in_ok-inlaid.inlaid.inlays in
    let within : at < length is = subst (λ (s : Source). c.args.at < length s.inlays) (sym (c.in_ok-inlaid.ensures ∙ c.self.view_is)) c.requires in
    omega (
      arith,
      c.new.ensures.start,
      c.new.ensures.count,
      within,
      ap (λ (v : Source). length v.inlays) c.in_ok-offset.ensures.ok,
      length-append (take at is) (drop (at + 1) is),
      length-take at is,
    )

pub respliced-requires-clause-front : goal.respliced-requires-clause-front
respliced-requires-clause-front c =
    let at = c.args.at in
    let s = c.in_ok-inlaid.inlaid in
    let new = c.take.new.self in
    let within : at < length s.inlays = subst (λ (s : Source). c.args.at < length s.inlays) (sym (c.in_ok-inlaid.ensures ∙ c.self.view_is)) c.requires in
    let le : at ≤ length s.inlays = omega (arith, within) in
    let place : new.inlays ≡ without_at at s.inlays = ap (λ (v : Source). v.inlays) c.in_ok-offset.ensures.ok in
    let text : s.text ≡ new.text = sym (ap (λ (v : Source). v.text) c.in_ok-offset.ensures.ok) in
    ap (λ k. take k c.self.inside.splices) c.new.ensures.start
    ∙ ap (take at) (c.self.invariant ∙ ap (λ (v : Source). splices_from v.text 0 v.inlays) (sym c.in_ok-inlaid.ensures))
    ∙ run-front s.text s.inlays new.inlays at (taken-front s.inlays new.inlays at le place)
    ∙ (λ i. take (sym c.new.ensures.start i) (splices_from (text i) 0 new.inlays))

pub respliced-requires-clause-rest : goal.respliced-requires-clause-rest
respliced-requires-clause-rest c gap =
    let at = c.args.at in
    let s = c.in_ok-inlaid.inlaid in
    let new = c.take.new.self in
    let within : at < length s.inlays = subst (λ (s : Source). c.args.at < length s.inlays) (sym (c.in_ok-inlaid.ensures ∙ c.self.view_is)) c.requires in
    let le : at ≤ length s.inlays = omega (arith, within) in
    let place : new.inlays ≡ without_at at s.inlays = ap (λ (v : Source). v.inlays) c.in_ok-offset.ensures.ok in
    let text : s.text ≡ new.text = sym (ap (λ (v : Source). v.text) c.in_ok-offset.ensures.ok) in
    let size : at ≡ c.new.result.start + c.new.result.count = omega (arith, c.new.ensures.start, c.new.ensures.count) in
    ap (λ k. with_first_gap gap (drop k c.self.inside.splices)) c.new.ensures.end
    ∙ ap (λ l. with_first_gap gap (drop (at + 1) l)) (c.self.invariant ∙ ap (λ (v : Source). splices_from v.text 0 v.inlays) (sym c.in_ok-inlaid.ensures))
    ∙ run-rest s.text s.inlays new.inlays (at + 1) at gap (taken-rest s.inlays new.inlays at le place)
    ∙ (λ i. with_first_gap gap (drop (size i) (splices_from (text i) 0 new.inlays)))

pub returns-clause-offset : goal.returns-clause-offset
returns-clause-offset c i is =
    c.in_ok-offset.ensures.offset i (ap (λ (s : Source). slice_get s.inlays c.args.at) (c.in_ok-inlaid.ensures ∙ c.self.view_is) ∙ is)

-- ---- steps

pub returns-in_err-offset-clause-steps : goal.returns-in_err-offset-clause-steps
returns-in_err-offset-clause-steps c h high =
    let same : length c.in_ok-inlaid.inlaid.inlays ≡ length c.args.self.now.inlays = ap (λ (s : Source). length s.inlays) (c.in_ok-inlaid.ensures ∙ c.self.view_is) in
    omega (arith, c.take.ensures.steps h (omega (arith, high.1, same)), same)

whole : (c : After-respliced) → TakesInlaid putting c.args.self.now c.args.steps.now c.respliced.new.steps
whole c h high =
    let was = c.in_ok-inlaid.ensures ∙ c.self.view_is in
    let at = c.args.at in
    let is = c.in_ok-inlaid.inlaid.inlays in
    let same : length is ≡ length c.args.self.now.inlays = ap (λ (s : Source). length s.inlays) was in
    let less : length c.take.new.self.inlays ≤ length c.args.self.now.inlays =
    omega (arith, same, c.requires, ap (λ (v : Source). length v.inlays) c.in_ok-offset.ensures.ok, length-append (take at is) (drop (at + 1) is), length-take at is, length-drop (at + 1) is) in
    let text : c.take.new.self.text ≡ c.args.self.now.text = ap (λ (s : Source). s.text) c.in_ok-offset.ensures.ok ∙ ap (λ (s : Source). s.text) was in
    let few : length c.self.inside.splices < 2 * 6 ^ (h + 1) =
    omega (
      arith,
      high.1,
      length-splices c.self.inside.inlaid.text 0 c.self.inside.inlaid.inlays,
      ap (λ (l : List (Piece Amount NoLoad)). length l) c.self.invariant,
      ap (λ (s : Source). length s.inlays) c.self.view_is,
    ) in
    let spliced =
    subst (λ (n : ℕ). c.respliced.new.steps ≤ c.take.new.steps + 164 * (n + 1) * (h + 1)) c.new.ensures.count
    (c.respliced.ensures.steps h (subst (HasHeight h) (sym text) high.0, omega (arith, less, high.1)) few) in
    omega (arith, c.take.ensures.steps h (omega (arith, high.1, same)), spliced, same)

pub returns-in_err-splices-clause-steps : goal.returns-in_err-splices-clause-steps
returns-in_err-splices-clause-steps c = whole (goal.at.returns-in_err-splices-clause-steps c).After-respliced

pub returns-clause-steps : goal.returns-clause-steps
returns-clause-steps c = whole (goal.at.returns-clause-steps c).After-respliced
