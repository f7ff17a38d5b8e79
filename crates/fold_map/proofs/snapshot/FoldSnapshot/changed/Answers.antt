use Rattle.std.proofs.Common.{◌≡◌, ℕ, ◌+◌, ◌*◌, ◌<◌, ◌≤◌, ◌^◌, List, length, map, Some, ap, sym, ◌∙◌, subst, arith}
use Rattle.std.specs.List.{slice_get}
use Rattle.cell_units.specs.Layers.{Source, unfolded}
use Rattle.cell_units.specs.Text.{IsBoundary}
use Rattle.joined_folds.specs.declared.joined_fold.JoinedFold.{JoinedFold}
use Rattle.joined_folds.specs.JoinedLists.{AreJoined, last_end}
use Rattle.joined_folds.specs.Sweeps.{fold_of}
use Rattle.sum_core.specs.Sums.{total}
use Rattle.sum_core.specs.declared.load.NoLoad.{NoLoad}
use Rattle.splice_tree.specs.Bounds.{splicing}
use Rattle.splice_tree.specs.Sides.{BothFit, both, none}
use Rattle.splice_tree.specs.Splices.{Piece, piece_sum, replaced}
use Rattle.sum_tree.specs.Bounds.{ChangesAtMost}
use Rattle.fold_map.specs.declared.amount.Amount.{Amount}
use Rattle.fold_map.specs.Amounts.{AmountFits, nothing, together}
use Rattle.fold_map.specs.Changes.{IsGapTo, IsMovedNext}
use Rattle.fold_map.specs.Positions.{AreInText}
use Rattle.fold_map.specs.Snapshots.{IsSnapshot, PlacesFit}
use Rattle.fold_map.specs.Splices.{AreSplices, splices_from}
use Rattle.fold_map.proofs.ChangedFolds.{after-fits, after-small, base-in, gap-fits, met-within, next-moved, snapshot-after, spliced-by, stand, window-is}
use Rattle.joined_folds.specs.Sweeps.{count_met}
use Rattle.fold_map.proofs.ChangedSteps.{few-after, few-fresh, found-met}
use Rattle.fold_map.proofs.Cuts.{length-splices}
use Rattle.fold_map.proofs.FoldCounts.{snapshot-splices}
use Rattle.fold_map.proofs.StepSums.{rejoined-steps}
use Rattle.fold_map.proofs.snapshot.FoldSnapshot.changed.Goals as goal
use Rattle.fold_map.proofs.snapshot.FoldSnapshot.changed.Goals.{In_ok-splices}
use Rattle.fold_map.proofs.snapshot.FoldSnapshot.changed.Given.{Over}

pub met-met-requires-clause-order : goal.met-met-requires-clause-order
met-met-requires-clause-order g c κs h = c.requires.order

pub splices_of-requires-clause-bare : goal.splices_of-requires-clause-bare
splices_of-requires-clause-bare g c κs h = c.requires.bare

pub splices_of-requires-clause-stand : goal.splices_of-requires-clause-stand
splices_of-requires-clause-stand g c κs h =
    let s = c.args.self.now in
    let layer = g.L.Layer.source c.args.layer in
    let folds = map fold_of c.args.folds in
    let is = c.text_len.ensures.lawful in
    let met = c.met-met.ensures.met is.joined is.all in
    let made = c.in_ok-joined.ensures.ok (window-is s is.joined is.all layer c.requires.bare folds c.args.change c.requires.change c.met-met.result met) in
    subst (AreInText layer c.met-met.result.base) (sym c.as_slice.ensures.value)
    (stand s is.joined is.all layer c.requires.bare folds c.args.change c.requires.change c.met-met.result met c.in_ok-joined.joined.items made)

pub gap_to-gap-requires-clause-bare : goal.gap_to-gap-requires-clause-bare
gap_to-gap-requires-clause-bare g c κs h = c.requires.bare

pub gap_to-gap-requires-clause-base : goal.gap_to-gap-requires-clause-base
gap_to-gap-requires-clause-base g c κs h =
    let s = c.args.self.now in
    let layer = g.L.Layer.source c.args.layer in
    let folds = map fold_of c.args.folds in
    let is = c.text_len.ensures.lawful in
    let met = c.met-met.ensures.met is.joined is.all in
    let made = c.in_ok-joined.ensures.ok (window-is s is.joined is.all layer c.requires.bare folds c.args.change c.requires.change c.met-met.result met) in
    let base = c.last_end-base.ensures ∙ ap (λ (l : List JoinedFold). last_end c.met-met.result.base l) c.as_slice-2.ensures.value in
    subst (IsBoundary layer.text) (sym base)
    (base-in s is.joined is.all layer c.requires.bare folds c.args.change c.requires.change c.met-met.result met c.in_ok-joined.joined.items made)

pub gap_to-gap-requires-clause-next : goal.gap_to-gap-requires-clause-next
gap_to-gap-requires-clause-next g c κs h j e =
    let s = c.args.self.now in
    let layer = g.L.Layer.source c.args.layer in
    let folds = map fold_of c.args.folds in
    let is = c.text_len.ensures.lawful in
    let met = c.met-met.ensures.met is.joined is.all in
    let made = c.in_ok-joined.ensures.ok (window-is s is.joined is.all layer c.requires.bare folds c.args.change c.requires.change c.met-met.result met) in
    let base = c.last_end-base.ensures ∙ ap (λ (l : List JoinedFold). last_end c.met-met.result.base l) c.as_slice-2.ensures.value in
    subst (λ (b : ℕ). IsMovedNext layer.text b c.args.change j) (sym base)
    (next-moved s is.joined is.all layer c.requires.bare folds c.args.change c.requires.change c.met-met.result met c.in_ok-joined.joined.items made j
    (sym (c.joined_at-next.ensures.joined is.joined is.all) ∙ e))

-- the joined folds of the window
made : (g : Over) (c : In_ok-splices g) → AreJoined (map fold_of c.args.folds) c.met-met.result.window.from c.in_ok-joined.joined.items c.met-met.result.window.to
made g c =
    let is = c.text_len.ensures.lawful in
    c.in_ok-joined.ensures.ok
    (window-is c.args.self.now is.joined is.all (g.L.Layer.source c.args.layer) c.requires.bare (map fold_of c.args.folds) c.args.change c.requires.change c.met-met.result (c.met-met.ensures.met is.joined is.all))

-- the gap of the one after them
gap-is : (g : Over) (c : In_ok-splices g) (j : JoinedFold) → slice_get c.text_len.ensures.lawful.joined c.met-met.result.last ≡ Some j
    → IsGapTo (g.L.Layer.source c.args.layer) (last_end c.met-met.result.base c.in_ok-joined.joined.items) c.args.change c.gap_to-gap.result j
gap-is g c j e =
    let is = c.text_len.ensures.lawful in
    let base = c.last_end-base.ensures ∙ ap (λ (l : List JoinedFold). last_end c.met-met.result.base l) c.as_slice-2.ensures.value in
    subst (λ (b : ℕ). IsGapTo (g.L.Layer.source c.args.layer) b c.args.change c.gap_to-gap.result j) base
    (c.gap_to-gap.ensures j (c.joined_at-next.ensures.joined is.joined is.all ∙ e))

-- the splices are those of the joined folds
spliced : (g : Over) (c : In_ok-splices g) → c.in_ok-splices.splices ≡ splices_from (unfolded c.args.self.now) 0 c.text_len.ensures.lawful.joined
spliced g c =
    let is = c.text_len.ensures.lawful in
    c.in_ok-splices.ensures
    ∙ spliced-by c.args.self.now c.self.inside.splices is.joined (subst (λ (v : Source). AreSplices v c.self.inside.splices) c.self.view_is c.self.invariant.spliced) is.all

-- what they are then
after-is : (g : Over) (c : In_ok-splices g) → replaced c.met-met.result.first c.met-met.result.last c.in_ok-fresh.fresh.items c.gap_to-gap.result c.in_ok-splices.splices
    ≡ replaced c.met-met.result.first c.met-met.result.last (splices_from (g.L.Layer.source c.args.layer) c.met-met.result.base c.in_ok-joined.joined.items) c.gap_to-gap.result c.in_ok-splices.splices
after-is g c =
    ap (λ (l : List (Piece Amount NoLoad)). replaced c.met-met.result.first c.met-met.result.last l c.gap_to-gap.result c.in_ok-splices.splices)
    (c.in_ok-fresh.ensures.ok ∙ ap (splices_from (g.L.Layer.source c.args.layer) c.met-met.result.base) c.as_slice.ensures.value)

text-small : (g : Over) (c : In_ok-splices g) → length (g.L.Layer.source c.args.layer).text < 2 ^ 32
text-small g c = let x = c.buffer_len.type_inv in omega (arith, x, c.buffer_len.ensures.value)

places-small : (g : Over) (c : In_ok-splices g) → PlacesFit (g.L.Layer.source c.args.layer)
places-small g c = let x = c.length.type_inv in omega (arith, x, c.length.ensures)

pub replace-requires-clause-order : goal.replace-requires-clause-order
replace-requires-clause-order g c =
    let is = c.text_len.ensures.lawful in
    (met-within c.args.self.now is.joined is.all (g.L.Layer.source c.args.layer) c.requires.bare (map fold_of c.args.folds) c.args.change c.requires.change c.met-met.result (c.met-met.ensures.met is.joined is.all)
    c.in_ok-splices.splices (spliced g (goal.at.replace-requires-clause-order g c).In_ok-splices)).0

pub replace-requires-clause-within : goal.replace-requires-clause-within
replace-requires-clause-within g c =
    let is = c.text_len.ensures.lawful in
    (met-within c.args.self.now is.joined is.all (g.L.Layer.source c.args.layer) c.requires.bare (map fold_of c.args.folds) c.args.change c.requires.change c.met-met.result (c.met-met.ensures.met is.joined is.all)
    c.in_ok-splices.splices (spliced g (goal.at.replace-requires-clause-within g c).In_ok-splices)).1

pub replace-requires-clause-gap_fits : goal.replace-requires-clause-gap_fits
replace-requires-clause-gap_fits g c p e =
    let a = (goal.at.replace-requires-clause-gap_fits g c).In_ok-splices in
    let is = c.text_len.ensures.lawful in
    gap-fits c.args.self.now is.joined is.all (g.L.Layer.source c.args.layer) c.requires.bare (map fold_of c.args.folds) c.args.change c.requires.change c.met-met.result (c.met-met.ensures.met is.joined is.all)
    c.in_ok-joined.joined.items (made g a) c.in_ok-splices.splices (spliced g a) c.gap_to-gap.result (gap-is g a) (text-small g a) (places-small g a) p e

pub replace-requires-clause-fits : goal.replace-requires-clause-fits
replace-requires-clause-fits g c =
    let a = (goal.at.replace-requires-clause-fits g c).In_ok-splices in
    let is = c.text_len.ensures.lawful in
    subst (λ (l : List (Piece Amount NoLoad)). BothFit AmountFits (total (none nothing) (both together) (piece_sum together) l)) (sym (after-is g a))
    (after-fits c.args.self.now is.joined is.all (g.L.Layer.source c.args.layer) c.requires.bare (map fold_of c.args.folds) c.args.change c.requires.change c.met-met.result (c.met-met.ensures.met is.joined is.all)
    c.in_ok-joined.joined.items (made g a) c.in_ok-splices.splices (spliced g a) c.gap_to-gap.result (gap-is g a) (text-small g a) (places-small g a))

pub replace-requires-clause-small : goal.replace-requires-clause-small
replace-requires-clause-small g c =
    let a = (goal.at.replace-requires-clause-small g c).In_ok-splices in
    let is = c.text_len.ensures.lawful in
    subst (λ (l : List (Piece Amount NoLoad)). length l < 2 ^ 32) (sym (after-is g a))
    (after-small c.args.self.now is.joined is.all (g.L.Layer.source c.args.layer) c.requires.bare (map fold_of c.args.folds) c.args.change c.requires.change c.met-met.result (c.met-met.ensures.met is.joined is.all)
    c.in_ok-joined.joined.items (made g a) c.in_ok-splices.splices (spliced g a) c.gap_to-gap.result (gap-is g a) (text-small g a))

pub invariant_of-result : goal.invariant_of-result
invariant_of-result g c =
    let a = (goal.at.invariant_of-result g c).In_ok-splices in
    let is = c.text_len.ensures.lawful in
    subst (IsSnapshot (g.L.Layer.source c.args.layer) (map fold_of c.args.folds)) (sym (c.in_ok-replace.ensures.ok ∙ after-is g a))
    (snapshot-after c.args.self.now is.joined is.all (g.L.Layer.source c.args.layer) c.requires.bare (map fold_of c.args.folds) c.args.change c.requires.change c.met-met.result (c.met-met.ensures.met is.joined is.all)
    c.in_ok-joined.joined.items (made g a) c.in_ok-splices.splices (spliced g a) c.gap_to-gap.result (gap-is g a))

-- ---- steps

-- the folds that the change meets are found
pub returns-in_err-joined-clause-steps : goal.returns-in_err-joined-clause-steps
returns-in_err-joined-clause-steps g c h lt lt' =
    let is = c.text_len.ensures.lawful in
    let now = map fold_of c.args.folds in
    let found = found-met c.args.self.now is.joined is.all (g.L.Layer.source c.args.layer) c.requires.bare now c.args.change c.requires.change c.met-met.result (c.met-met.ensures.met is.joined is.all)
    h c.met-met.new.steps c.joined_in.new.steps c.joined_in.ensures.steps lt' in
    rejoined-steps (count_met c.args.change.start c.args.change.last now) 0 h c.args.steps.now c.met-met.new.steps c.joined_in.new.steps c.joined_in.new.steps c.joined_in.new.steps
    (omega arith) (c.met-met.ensures.steps h lt) found (omega arith) (omega arith)

pub returns-in_err-fresh-clause-steps : goal.returns-in_err-fresh-clause-steps
returns-in_err-fresh-clause-steps g c h lt lt' =
    let is = c.text_len.ensures.lawful in
    let now = map fold_of c.args.folds in
    let found = found-met c.args.self.now is.joined is.all (g.L.Layer.source c.args.layer) c.requires.bare now c.args.change c.requires.change c.met-met.result (c.met-met.ensures.met is.joined is.all)
    h c.met-met.new.steps c.joined_in.new.steps c.joined_in.ensures.steps lt' in
    rejoined-steps (count_met c.args.change.start c.args.change.last now) 0 h c.args.steps.now c.met-met.new.steps c.joined_in.new.steps c.joined_in.new.steps c.joined_in.new.steps
    (omega arith) (c.met-met.ensures.steps h lt) found (omega arith) (omega arith)

pub returns-in_err-splices-clause-steps : goal.returns-in_err-splices-clause-steps
returns-in_err-splices-clause-steps g c h lt lt' =
    let is = c.text_len.ensures.lawful in
    let now = map fold_of c.args.folds in
    let found = found-met c.args.self.now is.joined is.all (g.L.Layer.source c.args.layer) c.requires.bare now c.args.change c.requires.change c.met-met.result (c.met-met.ensures.met is.joined is.all)
    h c.met-met.new.steps c.joined_in.new.steps c.joined_in.ensures.steps lt' in
    rejoined-steps (count_met c.args.change.start c.args.change.last now) 0 h c.args.steps.now c.met-met.new.steps c.joined_in.new.steps c.joined_at-next.new.steps c.joined_at-next.new.steps
    (omega arith) (c.met-met.ensures.steps h lt) found (c.joined_at-next.ensures.steps h lt) (omega arith)

-- no more splices are put in place than that, and one
full : (g : Over) (c : In_ok-splices g) (h new : ℕ) → length c.args.self.now.folds < 2 * 6 ^ (h + 1) → length (map fold_of c.args.folds) < 2 * 6 ^ (h + 1)
    → ChangesAtMost (splicing (length c.in_ok-fresh.fresh.items)) (length c.in_ok-splices.splices) (length (replaced c.met-met.result.first c.met-met.result.last c.in_ok-fresh.fresh.items c.gap_to-gap.result c.in_ok-splices.splices)) c.joined_at-next.new.steps new
    → new ≤ c.args.steps.now + 250 * (count_met c.args.change.start c.args.change.last (map fold_of c.args.folds) + 1) * (h + 1)
full g c h new lt lt' replacing =
    let s = c.args.self.now in
    let layer = g.L.Layer.source c.args.layer in
    let is = c.text_len.ensures.lawful in
    let now = map fold_of c.args.folds in
    let m = c.met-met.result in
    let met = c.met-met.ensures.met is.joined is.all in
    let found = found-met s is.joined is.all layer c.requires.bare now c.args.change c.requires.change m met h c.met-met.new.steps c.joined_in.new.steps c.joined_in.ensures.steps lt' in
    let size =
    ap (λ (l : List (Piece Amount NoLoad)). length l) c.in_ok-fresh.ensures.ok
    ∙ length-splices layer m.base c.as_slice.result.now
    ∙ ap (λ (l : List JoinedFold). length l) c.as_slice.ensures.value in
    let few = few-fresh s is.joined is.all layer c.requires.bare now c.args.change c.requires.change m met c.in_ok-joined.joined.items (made g c) in
    let before = ap (λ (l : List (Piece Amount NoLoad)). length l) c.in_ok-splices.ensures in
    let fewer = snapshot-splices (g.L.Layer.source c.self.inside.layer) (map fold_of c.self.inside.folds) c.self.inside.splices s c.self.invariant c.self.view_is in
    let after =
    few-after layer now _
    (snapshot-after s is.joined is.all layer c.requires.bare now c.args.change c.requires.change m met c.in_ok-joined.joined.items (made g c) c.in_ok-splices.splices (spliced g c) c.gap_to-gap.result (gap-is g c)) in
    let same = ap (λ (l : List (Piece Amount NoLoad)). length l) (after-is g c) in
    rejoined-steps (count_met c.args.change.start c.args.change.last now) (length c.in_ok-fresh.fresh.items) h c.args.steps.now c.met-met.new.steps c.joined_in.new.steps c.joined_at-next.new.steps new
    (omega (arith, size, few)) (c.met-met.ensures.steps h lt) found (c.joined_at-next.ensures.steps h lt) (replacing h (omega (arith, lt, before, fewer)) (omega (arith, lt', same, after)))

pub returns-in_err-replace-clause-steps : goal.returns-in_err-replace-clause-steps
returns-in_err-replace-clause-steps g c h lt lt' = full g (goal.at.returns-in_err-replace-clause-steps g c).In_ok-splices h c.replace.new.steps lt lt' c.replace.ensures.steps

pub returns-clause-steps : goal.returns-clause-steps
returns-clause-steps g c h lt lt' = full g (goal.at.returns-clause-steps g c).In_ok-splices h c.replace.new.steps lt lt' c.replace.ensures.steps
