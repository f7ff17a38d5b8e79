use Rattle.std.proofs.Common.{◌≡◌, [], ℕ, ◌+◌, ◌*◌, ◌^◌, ◌<◌, ◌≤◌, List, length, map, Option, option_map, refl, ap, sym, ◌∙◌, subst, arith}
use Rattle.std.proofs.lemmas.List.{length-drop}
use Rattle.cell_units.specs.declared.place.Shift.{Shift}
use Rattle.cell_units.specs.Layers.{Source, shown_text, unfolded}
use Rattle.cell_units.specs.Record.{Fold}
use Rattle.cell_units.specs.Text.{IsBoundary}
use Rattle.joined_folds.specs.Sweeps.{fold_of}
use Rattle.edit_patch.specs.Leads.{LeadsIfAny, reach_of, unmoved}
use Rattle.fold_map.specs.declared.met.Change.{Change}
use Rattle.fold_map.specs.Changes.{IsChange}
use Rattle.fold_map.specs.Replaced.{shown_change}
use Rattle.fold_map.specs.Snapshots.{with_folds}
use Rattle.fold_map.specs.Synced.{end_after, row_end_at, row_start_at}
use Rattle.fold_map.proofs.Positions.{unfold-same}
use Rattle.fold_map.proofs.StateMaps.{ordered-pending}
use Rattle.fold_map.proofs.StateSynced.{below-within, last-size, low-is, met-end, moved-change, row-end-in, row-start-in, rows-in_order}
use Rattle.joined_folds.specs.Sweeps.{count_met}
use Rattle.sum_tree.specs.Bounds.{ChangesAtMost}
use Rattle.fold_map.specs.Bounds.{met_on_rows, rejoining, touched}
use Rattle.fold_map.proofs.FoldCounts.{fewer-moved}
use Rattle.fold_map.proofs.StepSums.{synced-steps}
use Rattle.fold_map.proofs.snapshot.FoldSnapshot.moved.Goals as goal
use Rattle.fold_map.proofs.snapshot.FoldSnapshot.moved.Goals.{After-rows_met-rows}
use Rattle.fold_map.proofs.snapshot.FoldSnapshot.moved.Given.{Over}

pub moved_folds-requires-clause-within : goal.moved_folds-requires-clause-within
moved_folds-requires-clause-within g c κs h x e =
    let led = subst (λ (o : Option Shift). LeadsIfAny unmoved c.args.self.now.text (g.L.Layer.source c.args.layer).text (option_map reach_of o)) e c.requires.follows.text in
    led.within

pub moved_folds-requires-clause-reaches : goal.moved_folds-requires-clause-reaches
moved_folds-requires-clause-reaches g c κs h x e =
    let s = c.args.self.now in
    let layer = g.L.Layer.source c.args.layer in
    let led = subst (λ (o : Option Shift). LeadsIfAny unmoved s.text layer.text (option_map reach_of o)) e c.requires.follows.text in
    let w = led.within in
    let t = led.reaches in
    let small = c.buffer_len.type_inv in
    omega (arith, w, t, small, c.buffer_len.ensures.value, ap (λ (l : List ℕ). length l) led.behind, length-drop (x.start + x.count) layer.text, length-drop x.end s.text)

-- the lower layer, as the snapshot is seen
low-same : (low s : Source) (folds : List Fold) → low.folds ≡ [] → with_folds low folds ≡ s → low ≡ unfolded s
low-same low s folds bare view = unfold-same low bare ∙ ap unfolded view

start-is : (g : Over) (c : After-rows_met-rows g) → c.rows_met-rows.result.start ≡ row_start_at (unfolded c.args.self.now) c.args.below.start
start-is g c = c.rows_met-rows.ensures.start ∙ ap (λ (v : Source). row_start_at v c.args.below.start) (low-same (g.L.Layer.source c.self.inside.layer) c.args.self.now (map fold_of c.self.inside.folds) c.self.invariant.bare c.self.view_is)

end-is : (g : Over) (c : After-rows_met-rows g) → c.rows_met-rows.result.end ≡ row_end_at (unfolded c.args.self.now) c.args.below.end
end-is g c = c.rows_met-rows.ensures.end ∙ ap (λ (v : Source). row_end_at v c.args.below.end) (low-same (g.L.Layer.source c.self.inside.layer) c.args.self.now (map fold_of c.self.inside.folds) c.self.invariant.bare c.self.view_is)

pub rows_met-rows-requires-clause-order : goal.rows_met-rows-requires-clause-order
rows_met-rows-requires-clause-order g c κs h = c.args.below.ordered

pub rows_met-rows-requires-clause-within : goal.rows_met-rows-requires-clause-within
rows_met-rows-requires-clause-within g c κs h =
    let layer = g.L.Layer.source c.args.layer in
    subst (λ (v : Source). c.args.below.end ≤ length (shown_text v)) (sym (low-same (g.L.Layer.source c.self.inside.layer) c.args.self.now (map fold_of c.self.inside.folds) c.self.invariant.bare c.self.view_is))
    (below-within c.args.self.now c.text_len.ensures.lawful layer c.buffer_len.ensures.well_formed (option_map reach_of c.args.shift) (ordered-pending c.args.shift) (reach_of c.args.below) c.args.below.ordered c.requires.follows)

pub end_after-requires-clause-within : goal.end_after-requires-clause-within
end_after-requires-clause-within g c x e =
    let layer = g.L.Layer.source c.args.layer in
    let m = met-end c.args.self.now c.text_len.ensures.lawful layer c.buffer_len.ensures.well_formed (option_map reach_of c.args.shift) (ordered-pending c.args.shift) (reach_of c.args.below) c.args.below.ordered c.requires.follows (reach_of x) (ap (option_map reach_of) e) in
    omega (arith, m.1, end-is g (goal.at.end_after-requires-clause-within g c).After-rows_met-rows)

pub end_after-requires-clause-reaches : goal.end_after-requires-clause-reaches
end_after-requires-clause-reaches g c =
    let layer = g.L.Layer.source c.args.layer in
    let shift = option_map reach_of c.args.shift in
    let small = c.buffer_len.type_inv in
    let size = last-size c.args.self.now c.text_len.ensures.lawful layer c.buffer_len.ensures.well_formed shift (ordered-pending c.args.shift) (reach_of c.args.below) c.args.below.ordered c.requires.follows in
    omega (arith, small, size, c.buffer_len.ensures.value, ap (end_after shift) (end-is g (goal.at.end_after-requires-clause-reaches g c).After-rows_met-rows))

pub changed-requires-clause-bare : goal.changed-requires-clause-bare
changed-requires-clause-bare g c κs h = c.requires.follows.bare

pub changed-requires-clause-order : goal.changed-requires-clause-order
changed-requires-clause-order g c κs h =
    let layer = g.L.Layer.source c.args.layer in
    let a = (goal.at.changed-requires-clause-order g c).After-rows_met-rows in
    omega (
      arith,
      start-is g a,
      end-is g a,
      rows-in_order c.args.self.now c.text_len.ensures.lawful layer c.buffer_len.ensures.well_formed (option_map reach_of c.args.shift) (ordered-pending c.args.shift) (reach_of c.args.below) c.args.below.ordered c.requires.follows,
    )

pub changed-requires-clause-change : goal.changed-requires-clause-change
changed-requires-clause-change g c κs h =
    let s = c.args.self.now in
    let layer = g.L.Layer.source c.args.layer in
    let shift = option_map reach_of c.args.shift in
    let a = (goal.at.changed-requires-clause-change g c).After-rows_met-rows in
    let last = c.end_after.ensures ∙ ap (end_after shift) (end-is g a) in
    subst (λ (p : List Fold × Change). IsChange s (with_folds layer p.0) p.1)
    (λ i. (sym c.in_ok-folds.ensures.ok i, record { start = sym (start-is g a) i; end = sym (end-is g a) i; last = sym last i }))
    (moved-change s c.text_len.ensures.lawful layer c.buffer_len.ensures.well_formed shift (ordered-pending c.args.shift) (reach_of c.args.below) c.args.below.ordered c.requires.follows)

pub change_to-replaced-requires-clause-start : goal.change_to-replaced-requires-clause-start
change_to-replaced-requires-clause-start g c κs h =
    let s = c.args.self.now in
    let low = low-is s c.text_len.ensures.lawful (g.L.Layer.source c.args.layer) c.buffer_len.ensures.well_formed (option_map reach_of c.args.shift) (ordered-pending c.args.shift) (reach_of c.args.below) c.args.below.ordered c.requires.follows in
    subst (IsBoundary s.text) (sym (start-is g (goal.at.change_to-replaced-requires-clause-start g c).After-rows_met-rows)) (row-start-in (unfolded s) refl low c.args.below.start)

pub change_to-replaced-requires-clause-end : goal.change_to-replaced-requires-clause-end
change_to-replaced-requires-clause-end g c κs h =
    let s = c.args.self.now in
    let low = low-is s c.text_len.ensures.lawful (g.L.Layer.source c.args.layer) c.buffer_len.ensures.well_formed (option_map reach_of c.args.shift) (ordered-pending c.args.shift) (reach_of c.args.below) c.args.below.ordered c.requires.follows in
    subst (IsBoundary s.text) (sym (end-is g (goal.at.change_to-replaced-requires-clause-end g c).After-rows_met-rows)) (row-end-in (unfolded s) refl low c.args.below.end)

pub change_to-replaced-requires-clause-order : goal.change_to-replaced-requires-clause-order
change_to-replaced-requires-clause-order g c κs h =
    let layer = g.L.Layer.source c.args.layer in
    let a = (goal.at.change_to-replaced-requires-clause-order g c).After-rows_met-rows in
    omega (
      arith,
      start-is g a,
      end-is g a,
      rows-in_order c.args.self.now c.text_len.ensures.lawful layer c.buffer_len.ensures.well_formed (option_map reach_of c.args.shift) (ordered-pending c.args.shift) (reach_of c.args.below) c.args.below.ordered c.requires.follows,
    )

pub returns-clause-ok : goal.returns-clause-ok
returns-clause-ok g c = c.in_ok-next.ensures.ok ∙ ap (with_folds (g.L.Layer.source c.args.layer)) c.in_ok-folds.ensures.ok

pub returns-clause-change : goal.returns-clause-change
returns-clause-change g c =
    let a = (goal.at.returns-clause-change g c).After-rows_met-rows in
    c.change_to-replaced.ensures.change ∙ (λ i. shown_change c.args.self.now c.in_ok-next.next (start-is g a i) (end-is g a i))

-- ---- steps

-- the folds that meet the rows are joined anew
joined : (g : Over) (c : After-rows_met-rows g) (last h new : ℕ) → last ≡ end_after (option_map reach_of c.args.shift) c.rows_met-rows.result.end
    → ChangesAtMost (rejoining (count_met c.rows_met-rows.result.start last (map fold_of c.in_ok-folds.folds))) (length c.args.self.now.folds) (length (map fold_of c.in_ok-folds.folds)) c.moved_folds.new.steps new
    → length c.args.self.now.folds < 2 * 6 ^ (h + 1) → new ≤ c.moved_folds.new.steps + 250 * (met_on_rows (option_map reach_of c.args.shift) (reach_of c.args.below) c.args.self.now + 1) * (h + 1)
joined g c last h new is steps lt =
    let s = c.args.self.now in
    let shift = option_map reach_of c.args.shift in
    let last-is = is ∙ ap (end_after shift) (end-is g c) in
    let here =
    subst (λ (p : (ℕ × ℕ) × List Fold). ChangesAtMost (rejoining (count_met (p.0).0 (p.0).1 p.1)) (length s.folds) (length p.1) c.moved_folds.new.steps new)
    (λ i. ((start-is g c i, last-is i), c.in_ok-folds.ensures.ok i)) steps in
    here h lt (omega (arith, lt, fewer-moved shift s.folds))

pub returns-in_err-folds-clause-steps : goal.returns-in_err-folds-clause-steps
returns-in_err-folds-clause-steps g c h lt =
    synced-steps (touched (option_map reach_of c.args.shift) c.args.self.now.folds) (met_on_rows (option_map reach_of c.args.shift) (reach_of c.args.below) c.args.self.now) h
    c.args.steps.now c.moved_folds.new.steps c.moved_folds.new.steps c.moved_folds.new.steps (c.moved_folds.ensures.steps h lt) (omega arith) (omega arith)

pub returns-in_err-next-clause-steps : goal.returns-in_err-next-clause-steps
returns-in_err-next-clause-steps g c h lt =
    let a = (goal.at.returns-in_err-next-clause-steps g c).After-rows_met-rows in
    synced-steps (touched (option_map reach_of c.args.shift) c.args.self.now.folds) (met_on_rows (option_map reach_of c.args.shift) (reach_of c.args.below) c.args.self.now) h
    c.args.steps.now c.moved_folds.new.steps c.changed.new.steps c.changed.new.steps (c.moved_folds.ensures.steps h lt)
    (joined g a c.end_after.result h c.changed.new.steps c.end_after.ensures c.changed.ensures.steps lt) (omega arith)

pub returns-clause-steps : goal.returns-clause-steps
returns-clause-steps g c h lt =
    let s = c.args.self.now in
    let shift = option_map reach_of c.args.shift in
    let a = (goal.at.returns-clause-steps g c).After-rows_met-rows in
    let size = ap (λ (v : Source). length v.folds) c.in_ok-next.ensures.ok in
    let moved = ap (λ (l : List Fold). length l) c.in_ok-folds.ensures.ok in
    synced-steps (touched shift s.folds) (met_on_rows shift (reach_of c.args.below) s) h c.args.steps.now c.moved_folds.new.steps c.changed.new.steps c.change_to-replaced.new.steps (c.moved_folds.ensures.steps h lt)
    (joined g a c.end_after.result h c.changed.new.steps c.end_after.ensures c.changed.ensures.steps lt)
    (c.change_to-replaced.ensures.steps h lt (omega (arith, lt, size, moved, fewer-moved shift s.folds)))
