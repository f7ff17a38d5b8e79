use Rattle.std.proofs.Common.{◌≡◌, List, length, take, map, min, ap, sym, ◌∙◌, subst, arith}
use Rattle.std.specs.List.{slice_get}
use Rattle.std.specs.Option.{option_map}
use Rattle.cell_units.specs.Layers.{Source, unfolded}
use Rattle.joined_folds.specs.declared.joined_fold.JoinedFold.{JoinedFold}
use Rattle.joined_folds.specs.JoinedLists.{AreAllJoined, last_end}
use Rattle.joined_folds.specs.Sweeps.{fold_of}
use Rattle.joined_folds.proofs.JoinedLists.{one-list}
use Rattle.sum_core.specs.Sums.{total}
use Rattle.sum_core.specs.declared.load.NoLoad.{NoLoad}
use Rattle.splice_tree.specs.Sides.{none, both}
use Rattle.splice_tree.specs.Splices.{Piece, piece_sum}
use Rattle.splice_tree.specs.declared.sides.Sides.{Sides}
use Rattle.fold_map.specs.declared.amount.Amount.{Amount}
use Rattle.fold_map.specs.Amounts.{nothing, together}
use Rattle.fold_map.specs.Cuts.{joined_behind}
use Rattle.fold_map.proofs.Cuts.{length-splices, next-is, next-within, number-is, slice-min}
use Rattle.fold_map.proofs.FoldCounts.{snapshot-splices}
use Rattle.fold_map.proofs.snapshot.FoldSnapshot.joined_at.Goals as goal

pub joined_behind-requires : goal.joined_behind-requires
joined_behind-requires g c x e =
    let low = g.L.Layer.source c.self.inside.layer in
    let folds = map fold_of c.self.inside.folds in
    let spliced = c.self.invariant.spliced in
    let i = c.find_at-found.result.index in
    let here = ap (λ (ps : List (Piece Amount NoLoad)). slice_get ps i) (sym spliced.spliced) ∙ sym c.find_at-found.ensures.splice ∙ e in
    let within = next-within (unfolded low) folds 0 spliced.joined (length low.text) i x spliced.all.1 here in
    let sum = ap (λ (s : Sides Amount). s.lower.buffer) c.find_at-found.ensures.before in
    let list = ap (λ (ps : List (Piece Amount NoLoad)). (total (none nothing) (both together) (piece_sum together) (take i ps)).lower.buffer) spliced.spliced in
    let base = number-is low.text low.inlays folds spliced.joined spliced.all i in
    let long = c.text_len-len.type_inv in
    let text = ap (λ (s : Source). length s.text) c.self.view_is in
    omega (arith, within, sum, list, base, long, c.text_len-len.ensures.value, text)

pub returns-clause-joined : goal.returns-clause-joined
returns-clause-joined g c js all =
    let low = g.L.Layer.source c.self.inside.layer in
    let folds = map fold_of c.self.inside.folds in
    let spliced = c.self.invariant.spliced in
    let i = c.find_at-found.result.index in
    let mine : AreAllJoined folds (length low.text) js = subst (λ (v : Source). AreAllJoined v.folds (length v.text) js) (sym c.self.view_is) all in
    let same : spliced.joined ≡ js = one-list folds (length low.text) spliced.joined js spliced.all mine in
    let base : c.find_at-found.result.before.lower.buffer ≡ last_end 0 (take i spliced.joined) =
    ap (λ (s : Sides Amount). s.lower.buffer) c.find_at-found.ensures.before
    ∙ ap (λ (ps : List (Piece Amount NoLoad)). (total (none nothing) (both together) (piece_sum together) (take i ps)).lower.buffer) spliced.spliced
    ∙ number-is low.text low.inlays folds spliced.joined spliced.all i in
    let is = c.find_at-found.ensures.splice ∙ ap (λ (ps : List (Piece Amount NoLoad)). slice_get ps i) spliced.spliced in
    let long : length c.self.inside.splices ≡ length js =
    ap (λ (ps : List (Piece Amount NoLoad)). length ps) spliced.spliced ∙ length-splices (unfolded low) 0 spliced.joined ∙ ap (λ (l : List JoinedFold). length l) same in
    c.joined_behind.ensures
    ∙ (λ k. option_map (joined_behind (base k)) (is k))
    ∙ next-is (unfolded low) folds 0 spliced.joined (length low.text) i spliced.all.1
    ∙ ap (λ (l : List JoinedFold). slice_get l i) same
    ∙ slice-min js c.args.index i (c.find_at-found.ensures.index ∙ ap (min c.args.index) long)

pub returns-clause-steps : goal.returns-clause-steps
returns-clause-steps g c h lt =
    c.find_at-found.ensures.steps h
    (omega (arith, lt, snapshot-splices (g.L.Layer.source c.self.inside.layer) (map fold_of c.self.inside.folds) c.self.inside.splices c.args.self.now c.self.invariant c.self.view_is))
