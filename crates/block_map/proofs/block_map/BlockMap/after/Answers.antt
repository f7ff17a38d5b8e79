use Rattle.std.proofs.Common.{◌∙◌, ◌+◌, ◌<◌, ◌^◌, ◌*◌, ℕ, List, length, sym, ap, subst, arith}
use Rattle.cell_units.specs.declared.place.Side.TheVariants.{Above, Below}
use Rattle.block_map.specs.Carried.{HaveAnew}
use Rattle.block_map.specs.Follows.{IsFollowed}
use Rattle.block_map.specs.Maps.{BlockState, Kept, synced}
use Rattle.block_map.specs.inside.TwoSides.{IsState}
use Rattle.block_map.proofs.StepSums.{both-steps, one-steps}
use Rattle.block_map.proofs.SyncedMaps.{above-followed, below-followed, state-after}
use Rattle.block_map.proofs.block_map.BlockMap.after.Goals as goal

abbrev state : List (List (List ℕ)) → List Kept → List Kept → BlockState
state lines above below = record { lines = lines; above = above; below = below }

pub synced-requires-after_bounds : goal.synced-requires-after_bounds
synced-requires-after_bounds g c κs within =
    let s = g.P.Layer.source c.args.layer.now in
    let lines = g.R.Rows.shown c.args.rows in
    let es = c.args.row_edits.now in
    let before : BlockState = state (g.R.Rows.shown c.self.inside.rows) c.self.inside.above c.self.inside.below in
    let followed = subst (IsFollowed s c.args.shift es lines) (sym c.self.view_is) c.requires in
    above-followed s c.buffer_len-len.ensures.well_formed c.args.shift es lines before followed c.self.invariant

pub synced-requires-2-after_bounds : goal.synced-requires-2-after_bounds
synced-requires-2-after_bounds g c κs within =
    let s = g.P.Layer.source c.args.layer.now in
    let lines = g.R.Rows.shown c.args.rows in
    let es = c.args.row_edits.now in
    let before : BlockState = state (g.R.Rows.shown c.self.inside.rows) c.self.inside.above c.self.inside.below in
    let followed = subst (IsFollowed s c.args.shift es lines) (sym c.self.view_is) c.requires in
    below-followed s c.buffer_len-len.ensures.well_formed c.args.shift es lines before followed c.self.invariant

pub returns-in_err-above-clause-steps : goal.returns-in_err-above-clause-steps
returns-in_err-above-clause-steps g c above below first second h few =
    let es = c.args.row_edits.now in
    let few-above : length c.self.inside.above < 2 * 6 ^ (h + 1) = omega (arith, few, ap (λ (s : BlockState). length s.above) c.self.view_is) in
    let first' = subst (λ (s : BlockState). HaveAnew c.args.shift es s.lines Above s.above above) (sym c.self.view_is) first in
    one-steps h (length above) (length below) (length es) c.args.steps.now c.synced.new.steps (c.synced.ensures.steps above first' h few-above)

pub returns-in_err-below-clause-steps : goal.returns-in_err-below-clause-steps
returns-in_err-below-clause-steps g c above below first second h few =
    let es = c.args.row_edits.now in
    let few-above : length c.self.inside.above < 2 * 6 ^ (h + 1) = omega (arith, few, ap (λ (s : BlockState). length s.above) c.self.view_is) in
    let few-below : length c.self.inside.below < 2 * 6 ^ (h + 1) = omega (arith, few, ap (λ (s : BlockState). length s.below) c.self.view_is) in
    let first' = subst (λ (s : BlockState). HaveAnew c.args.shift es s.lines Above s.above above) (sym c.self.view_is) first in
    let second' = subst (λ (s : BlockState). HaveAnew c.args.shift es s.lines Below s.below below) (sym c.self.view_is) second in
    both-steps h (length above) (length below) (length es) c.args.steps.now c.synced.new.steps c.synced-2.new.steps (c.synced.ensures.steps above first' h few-above) (c.synced-2.ensures.steps below second' h few-below)

pub invariant_of-self : goal.invariant_of-self
invariant_of-self g c = subst IsState (λ i. state (g.R.Rows.shown c.self.inside.rows) (sym c.synced.ensures.kept i) c.self.inside.below) c.self.invariant

pub invariant_of-self-2 : goal.invariant_of-self-2
invariant_of-self-2 g c = subst IsState (λ i. state (g.R.Rows.shown c.self.inside.rows) (sym c.synced.ensures.kept i) (sym c.synced-2.ensures.kept i)) c.self.invariant

pub invariant_of-result : goal.invariant_of-result
invariant_of-result g c =
    let s = g.P.Layer.source c.args.layer.now in
    let lines = g.R.Rows.shown c.args.rows in
    let es = c.args.row_edits.now in
    let before : BlockState = state (g.R.Rows.shown c.self.inside.rows) c.self.inside.above c.self.inside.below in
    let followed = subst (IsFollowed s c.args.shift es lines) (sym c.self.view_is) c.requires in
    subst IsState (λ i. state lines (sym c.in_ok-above.ensures.ok i) (sym c.in_ok-below.ensures.ok i)) (state-after s c.buffer_len-len.ensures.well_formed c.args.shift es lines before followed c.self.invariant)

pub returns-clause-ok : goal.returns-clause-ok
returns-clause-ok g c =
    let s = g.P.Layer.source c.args.layer.now in
    let lines = g.R.Rows.shown c.args.rows in
    (λ i. state lines (c.in_ok-above.ensures.ok i) (c.in_ok-below.ensures.ok i)) ∙ ap (synced s c.args.shift lines) c.self.view_is

pub returns-clause-steps : goal.returns-clause-steps
returns-clause-steps g c above below first second h few =
    let es = c.args.row_edits.now in
    let few-above : length c.self.inside.above < 2 * 6 ^ (h + 1) = omega (arith, few, ap (λ (s : BlockState). length s.above) c.self.view_is) in
    let few-below : length c.self.inside.below < 2 * 6 ^ (h + 1) = omega (arith, few, ap (λ (s : BlockState). length s.below) c.self.view_is) in
    let first' = subst (λ (s : BlockState). HaveAnew c.args.shift es s.lines Above s.above above) (sym c.self.view_is) first in
    let second' = subst (λ (s : BlockState). HaveAnew c.args.shift es s.lines Below s.below below) (sym c.self.view_is) second in
    both-steps h (length above) (length below) (length es) c.args.steps.now c.synced.new.steps c.synced-2.new.steps (c.synced.ensures.steps above first' h few-above) (c.synced-2.ensures.steps below second' h few-below)
