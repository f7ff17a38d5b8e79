use Rattle.std.proofs.Common.{◌≡◌, ◌<◌, ◌≤◌, ◌+◌, ◌*◌, ◌^◌, ◌∙◌, ℕ, List, ap, sym, subst, length, take, drop, arith}
use Rattle.std.specs.List.{All}
use Rattle.cell_units.specs.Layers.{Source, inlay_source}
use Rattle.cell_units.specs.Operation.{moved_inlays}
use Rattle.cell_units.specs.Record.{Inlay}
use Rattle.cell_units.specs.Text.{IsBoundary}
use Rattle.sum_core.specs.declared.load.NoLoad.{NoLoad}
use Rattle.splice_tree.specs.Splices.{Piece, with_first_gap}
use Rattle.edit_patch.specs.Leads.{Leads, reach_of, unmoved}
use Rattle.inlay_map.specs.declared.amount.Amount.{Amount}
use Rattle.inlay_map.specs.Bounds.{IsHeight, met}
use Rattle.inlay_map.specs.Splices.{splices_from}
use Rattle.inlay_map.proofs.MovedRuns.{IsRun, first_from, run-is}
use Rattle.inlay_map.proofs.SpliceLists.{length-splices}
use Rattle.inlay_map.proofs.StepSums.{moved-steps}
use Rattle.inlay_map.proofs.snapshot.InlaySnapshot.moved.Goals as goal
use Rattle.inlay_map.proofs.snapshot.InlaySnapshot.moved.Goals.{After-len-len, After-moved, After-respliced}

abbrev from : After-len-len → ℕ
from c = first_from c.args.shift.start c.self.inside.inlaid.inlays

abbrev to : After-len-len → ℕ
to c = first_from (c.args.shift.end + 1) c.self.inside.inlaid.inlays

abbrev moved : After-len-len → List Inlay
moved c = moved_inlays c.args.shift.start c.args.shift.end c.args.shift.count c.self.inside.inlaid.inlays

-- the run that is met
run : (c : After-len-len) → IsRun c.args.shift c.self.inside.inlaid c.args.rope (from c) (to c) (moved c)
run c =
    run-is c.args.shift c.self.inside.inlaid c.args.rope c.len-len.ensures.lawful.inlays
    (subst (λ (s : Source). Leads unmoved s.text c.args.rope (reach_of c.args.shift)) (sym c.self.view_is) c.requires.leads)

pub overflow_add-shift : goal.overflow_add-shift
overflow_add-shift c = omega (arith, c.requires.leads.within, c.len-len.ensures.value, c.len-len.ensures.lawful.short, ap (λ (s : Source). length s.text) c.self.view_is)

pub moved-requires-clause-within : goal.moved-requires-clause-within
moved-requires-clause-within c = c.requires.leads.reaches

pub moved-requires-clause-boundaries : goal.moved-requires-clause-boundaries
moved-requires-clause-boundaries c =
    subst (λ (s : Source). All (λ i. IsBoundary c.args.rope i.offset) (moved_inlays c.args.shift.start c.args.shift.end c.args.shift.count s.inlays)) (sym c.self.view_is) c.requires.boundaries

pub overflow_sub-last : goal.overflow_sub-last
overflow_sub-last c =
    let a = (goal.at.overflow_sub-last c).After-len-len in
    omega (arith, (run a).order, c.index_from-first.ensures.index, c.index_from-last.ensures.index)

pub new-run-requires : goal.new-run-requires
new-run-requires c =
    let a = (goal.at.new-run-requires c).After-len-len in
    omega (arith, (run a).order, c.index_from-first.ensures.index, c.index_from-last.ensures.index)

pub respliced-requires-clause-within : goal.respliced-requires-clause-within
respliced-requires-clause-within c =
    let a = (goal.at.respliced-requires-clause-within c).After-len-len in
    let s = c.self.inside.inlaid in
    omega (
      arith,
      (run a).within,
      c.new-run.ensures.end,
      c.index_from-last.ensures.index,
      length-splices s.text 0 s.inlays,
      ap (λ (l : List (Piece Amount NoLoad)). length l) c.self.invariant,
    )

pub respliced-requires-clause-reaches : goal.respliced-requires-clause-reaches
respliced-requires-clause-reaches c =
    let a = (goal.at.respliced-requires-clause-reaches c).After-len-len in
    omega (
      arith,
      (run a).order,
      (run a).within,
      (run a).long,
      c.new-run.ensures.start,
      c.new-run.ensures.count,
      c.index_from-first.ensures.index,
      c.index_from-last.ensures.index,
      ap (λ (v : Source). length v.inlays) c.in_ok-inlaid.ensures.ok,
    )

pub respliced-requires-clause-front : goal.respliced-requires-clause-front
respliced-requires-clause-front c =
    let a = (goal.at.respliced-requires-clause-front c).After-len-len in
    let start : c.new-run.result.start ≡ from a = c.new-run.ensures.start ∙ c.index_from-first.ensures.index in
    (λ i. take (start i) (c.self.invariant i))
    ∙ (run a).front
    ∙ (λ i. take (sym start i) (splices_from (sym c.in_ok-inlaid.ensures.ok i).text 0 (sym c.in_ok-inlaid.ensures.ok i).inlays))

pub respliced-requires-clause-rest : goal.respliced-requires-clause-rest
respliced-requires-clause-rest c gap =
    let a = (goal.at.respliced-requires-clause-rest c).After-len-len in
    let end : c.new-run.result.end ≡ to a = c.new-run.ensures.end ∙ c.index_from-last.ensures.index in
    let last : to a ≡ c.new-run.result.start + c.new-run.result.count =
    omega (arith, (run a).order, c.new-run.ensures.start, c.new-run.ensures.count, c.index_from-first.ensures.index, c.index_from-last.ensures.index) in
    (λ i. with_first_gap gap (drop (end i) (c.self.invariant i)))
    ∙ (run a).rest gap
    ∙ (λ i. with_first_gap gap (drop (last i) (splices_from (sym c.in_ok-inlaid.ensures.ok i).text 0 (sym c.in_ok-inlaid.ensures.ok i).inlays)))

pub returns-clause-ok : goal.returns-clause-ok
returns-clause-ok c =
    c.in_ok-inlaid.ensures.ok
    ∙ ap (λ (s : Source). inlay_source c.args.rope (moved_inlays c.args.shift.start c.args.shift.end c.args.shift.count s.inlays)) c.self.view_is

-- ---- steps

-- what is met is counted in the source as it is seen
met-here : (c : After-len-len) → met (reach_of c.args.shift) c.self.inside.inlaid.inlays ≡ met (reach_of c.args.shift) c.args.self.now.inlays
met-here c = ap (λ (s : Source). met (reach_of c.args.shift) s.inlays) c.self.view_is

few : (c : After-len-len) (h : ℕ) → length c.args.self.now.inlays < 2 * 6 ^ (h + 1) → length c.self.inside.inlaid.inlays < 2 * 6 ^ (h + 1)
few c h lt = subst (λ (s : Source). length s.inlays < 2 * 6 ^ (h + 1)) (sym c.self.view_is) lt

sought : (c : After-moved) (h : ℕ) → length c.args.self.now.inlays < 2 * 6 ^ (h + 1) → c.moved.new.steps ≤ c.index_from-last.new.steps + 170 * (h + 1) * (met (reach_of c.args.shift) c.self.inside.inlaid.inlays + 1)
sought c h lt = c.moved.ensures.steps h (subst (λ (s : Source). length s.inlays < 2 * 6 ^ (h + 1)) (sym c.self.view_is) lt)

pub returns-in_err-inlaid-clause-steps : goal.returns-in_err-inlaid-clause-steps
returns-in_err-inlaid-clause-steps c h high =
    let b = (goal.at.returns-in_err-inlaid-clause-steps c).After-len-len in
    let a = (goal.at.returns-in_err-inlaid-clause-steps c).After-moved in
    let k = met (reach_of c.args.shift) c.self.inside.inlaid.inlays in
    subst (λ (n : ℕ). c.moved.new.steps ≤ c.args.steps.now + 336 * (n + 1) * (h + 1)) (met-here b)
    (moved-steps k h c.args.steps.now c.index_from-first.new.steps c.index_from-last.new.steps c.moved.new.steps c.moved.new.steps
    (c.index_from-first.ensures.steps h (few b h high.1)) (c.index_from-last.ensures.steps h (few b h high.1)) (sought a h high.1) (omega arith))

whole : (c : After-respliced) (h : ℕ) → IsRun c.args.shift c.self.inside.inlaid c.args.rope (first_from c.args.shift.start c.self.inside.inlaid.inlays) (first_from (c.args.shift.end + 1) c.self.inside.inlaid.inlays) (moved_inlays c.args.shift.start c.args.shift.end c.args.shift.count c.self.inside.inlaid.inlays)
    → IsHeight h c.args.rope (length c.args.self.now.inlays) → c.respliced.new.steps ≤ c.args.steps.now + 336 * (met (reach_of c.args.shift) c.args.self.now.inlays + 1) * (h + 1)
whole c h run high =
    let s = c.self.inside.inlaid in
    let k = met (reach_of c.args.shift) s.inlays in
    let here : met (reach_of c.args.shift) s.inlays ≡ met (reach_of c.args.shift) c.args.self.now.inlays = ap (λ (v : Source). met (reach_of c.args.shift) v.inlays) c.self.view_is in
    let lt : length s.inlays < 2 * 6 ^ (h + 1) = subst (λ (v : Source). length v.inlays < 2 * 6 ^ (h + 1)) (sym c.self.view_is) high.1 in
    let count : c.new-run.result.count ≡ k = omega (arith, c.new-run.ensures.count, run.count, c.index_from-first.ensures.index, c.index_from-last.ensures.index) in
    let new : IsHeight h c.in_ok-inlaid.inlaid.text (length c.in_ok-inlaid.inlaid.inlays) =
    subst (λ (v : Source). IsHeight h v.text (length v.inlays)) (sym c.in_ok-inlaid.ensures.ok) (high.0, subst (λ (n : ℕ). n < 2 * 6 ^ (h + 1)) (sym run.long) lt) in
    let old : length c.self.inside.splices < 2 * 6 ^ (h + 1) =
    subst (λ (n : ℕ). n < 2 * 6 ^ (h + 1)) (sym (ap (λ (l : List (Piece Amount NoLoad)). length l) c.self.invariant ∙ length-splices s.text 0 s.inlays)) lt in
    let spliced = subst (λ (n : ℕ). c.respliced.new.steps ≤ c.moved.new.steps + 164 * (n + 1) * (h + 1)) count (c.respliced.ensures.steps h new old) in
    subst (λ (n : ℕ). c.respliced.new.steps ≤ c.args.steps.now + 336 * (n + 1) * (h + 1)) here
    (moved-steps k h c.args.steps.now c.index_from-first.new.steps c.index_from-last.new.steps c.moved.new.steps c.respliced.new.steps
    (c.index_from-first.ensures.steps h lt) (c.index_from-last.ensures.steps h lt) (c.moved.ensures.steps h lt) spliced)

pub returns-in_err-splices-clause-steps : goal.returns-in_err-splices-clause-steps
returns-in_err-splices-clause-steps c h high =
    let b = (goal.at.returns-in_err-splices-clause-steps c).After-len-len in
    whole (goal.at.returns-in_err-splices-clause-steps c).After-respliced h (run b) high

pub returns-clause-steps : goal.returns-clause-steps
returns-clause-steps c h high =
    let b = (goal.at.returns-clause-steps c).After-len-len in
    whole (goal.at.returns-clause-steps c).After-respliced h (run b) high
