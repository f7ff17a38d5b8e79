use Rattle.std.proofs.Common.{◌≡◌, ◌<◌, ◌≤◌, ◌+◌, ◌*◌, ◌^◌, ◌∷◌, ◌∙◌, ℕ, List, ap, sym, subst, length, length-append, length-drop, take, drop, arith}
use Rattle.std.proofs.lemmas.List.{length-take}
use Rattle.cell_units.specs.Layers.{Source}
use Rattle.cell_units.specs.Record.{Inlay, inlay_le}
use Rattle.mark_tree.proofs.Sorting as sorting
use Rattle.text_rope.specs.Ropes.{HasHeight}
use Rattle.inlay_map.specs.Bounds.{TakesAmong, putting}
use Rattle.sum_core.specs.declared.load.NoLoad.{NoLoad}
use Rattle.splice_tree.specs.Splices.{Piece, with_first_gap}
use Rattle.inlay_map.specs.declared.amount.Amount.{Amount}
use Rattle.inlay_map.specs.Splices.{inlay_of, splices_from}
use Rattle.inlay_map.proofs.SpliceLists.{length-splices, put-front, put-rest, run-front, run-rest}
use Rattle.inlay_map.proofs.snapshot.InlaySnapshot.added.Goals as goal
use Rattle.inlay_map.proofs.snapshot.InlaySnapshot.added.Goals.{After-respliced}

pub respliced-requires-clause-within : goal.respliced-requires-clause-within
respliced-requires-clause-within c =
    let s = c.self.inside.inlaid in
    omega (
      arith,
      c.new.ensures.end,
      c.in_ok-at.ensures.put.within,
      ap (λ (v : Source). length v.inlays) c.in_ok-inlaid.ensures,
      length-splices s.text 0 s.inlays,
      ap (λ (l : List (Piece Amount NoLoad)). length l) c.self.invariant,
    )

pub respliced-requires-clause-reaches : goal.respliced-requires-clause-reaches
respliced-requires-clause-reaches c =
    let at = c.in_ok-at.at in
    let is = c.in_ok-inlaid.inlaid.inlays in
    omega (
      arith,
      c.new.ensures.start,
      c.new.ensures.count,
      c.in_ok-at.ensures.put.within,
      ap (λ (l : List Inlay). length l) c.in_ok-at.ensures.put.place,
      length-append (take at is) (inlay_of c.args.mark ∷ drop at is),
      length-take at is,
      length-drop at is,
    )

pub respliced-requires-clause-front : goal.respliced-requires-clause-front
respliced-requires-clause-front c =
    let at = c.in_ok-at.at in
    let s = c.in_ok-inlaid.inlaid in
    let new = c.add.new.self in
    let text : s.text ≡ new.text = sym (ap (λ (v : Source). v.text) c.in_ok-at.ensures.ok) in
    ap (λ k. take k c.self.inside.splices) c.new.ensures.start
    ∙ ap (take at) (c.self.invariant ∙ ap (λ (v : Source). splices_from v.text 0 v.inlays) (sym c.in_ok-inlaid.ensures))
    ∙ run-front s.text s.inlays new.inlays at (put-front s.inlays new.inlays at (inlay_of c.args.mark) c.in_ok-at.ensures.put.within c.in_ok-at.ensures.put.place)
    ∙ (λ i. take (sym c.new.ensures.start i) (splices_from (text i) 0 new.inlays))

pub respliced-requires-clause-rest : goal.respliced-requires-clause-rest
respliced-requires-clause-rest c gap =
    let at = c.in_ok-at.at in
    let s = c.in_ok-inlaid.inlaid in
    let new = c.add.new.self in
    let text : s.text ≡ new.text = sym (ap (λ (v : Source). v.text) c.in_ok-at.ensures.ok) in
    let size : at + 1 ≡ c.new.result.start + c.new.result.count = omega (arith, c.new.ensures.start, c.new.ensures.count) in
    ap (λ k. with_first_gap gap (drop k c.self.inside.splices)) c.new.ensures.end
    ∙ ap (λ l. with_first_gap gap (drop at l)) (c.self.invariant ∙ ap (λ (v : Source). splices_from v.text 0 v.inlays) (sym c.in_ok-inlaid.ensures))
    ∙ run-rest s.text s.inlays new.inlays at (at + 1) gap (put-rest s.inlays new.inlays at (inlay_of c.args.mark) c.in_ok-at.ensures.put.within c.in_ok-at.ensures.put.place)
    ∙ (λ i. with_first_gap gap (drop (size i) (splices_from (text i) 0 new.inlays)))

-- ---- steps

pub returns-in_err-at-clause-steps : goal.returns-in_err-at-clause-steps
returns-in_err-at-clause-steps c h high =
    let same : length c.in_ok-inlaid.inlaid.inlays ≡ length c.args.self.now.inlays = ap (λ (s : Source). length s.inlays) (c.in_ok-inlaid.ensures ∙ c.self.view_is) in
    omega (arith, c.add.ensures.steps h (omega (arith, high.1, same)), same)

whole : (c : After-respliced) → TakesAmong putting c.args.self.now.text (length c.args.self.now.inlays + 1) c.args.steps.now c.respliced.new.steps
whole c h high =
    let was = c.in_ok-inlaid.ensures ∙ c.self.view_is in
    let same : length c.in_ok-inlaid.inlaid.inlays ≡ length c.args.self.now.inlays = ap (λ (s : Source). length s.inlays) was in
    let more : length c.add.new.self.inlays ≡ length c.args.self.now.inlays + 1 =
    ap (λ (s : Source). length s.inlays) c.in_ok-at.ensures.ok ∙ sorting.length-insert inlay_le (inlay_of c.args.mark) c.in_ok-inlaid.inlaid.inlays ∙ ap (λ (n : ℕ). n + 1) same in
    let text : c.add.new.self.text ≡ c.args.self.now.text = ap (λ (s : Source). s.text) c.in_ok-at.ensures.ok ∙ ap (λ (s : Source). s.text) was in
    let few : length c.self.inside.splices < 2 * 6 ^ (h + 1) =
    omega (
      arith,
      high.1,
      length-splices c.self.inside.inlaid.text 0 c.self.inside.inlaid.inlays,
      ap (λ (l : List (Piece Amount NoLoad)). length l) c.self.invariant,
      ap (λ (s : Source). length s.inlays) c.self.view_is,
    ) in
    let spliced =
    subst (λ (n : ℕ). c.respliced.new.steps ≤ c.add.new.steps + 164 * (n + 1) * (h + 1)) c.new.ensures.count
    (c.respliced.ensures.steps h (subst (HasHeight h) (sym text) high.0, subst (λ (n : ℕ). n < 2 * 6 ^ (h + 1)) (sym more) high.1) few) in
    omega (arith, c.add.ensures.steps h (omega (arith, high.1, same)), spliced, same)

pub returns-in_err-splices-clause-steps : goal.returns-in_err-splices-clause-steps
returns-in_err-splices-clause-steps c = whole (goal.at.returns-in_err-splices-clause-steps c).After-respliced

pub returns-clause-steps : goal.returns-clause-steps
returns-clause-steps c = whole (goal.at.returns-clause-steps c).After-respliced
