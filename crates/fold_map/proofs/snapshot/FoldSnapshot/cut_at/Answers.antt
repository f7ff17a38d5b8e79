use Rattle.std.proofs.Common.{◌≡◌, List, length, take, map, ap, sym, ◌∙◌, subst, arith}
use Rattle.std.specs.List.{slice_get}
use Rattle.cell_units.specs.declared.place.Bias.TheVariants.{Right}
use Rattle.cell_units.specs.Layers.{Source, unfolded}
use Rattle.joined_folds.specs.declared.joined_fold.JoinedFold.{JoinedFold}
use Rattle.joined_folds.specs.JoinedLists.{AreAllJoined}
use Rattle.joined_folds.specs.Sweeps.{fold_of}
use Rattle.joined_folds.proofs.JoinedLists.{one-list}
use Rattle.sum_core.specs.Sums.{total}
use Rattle.sum_core.specs.declared.load.NoLoad.{NoLoad}
use Rattle.sum_tree.specs.Firsts.{IsFirst}
use Rattle.splice_tree.specs.Sides.{none, both}
use Rattle.splice_tree.specs.Splices.{Piece, piece_sum}
use Rattle.splice_tree.specs.declared.sides.Sides.{Sides}
use Rattle.fold_map.specs.declared.amount.Amount.{Amount}
use Rattle.fold_map.specs.declared.cut.Cut.{Cut}
use Rattle.fold_map.specs.Amounts.{buffer_of, nothing, together}
use Rattle.fold_map.specs.Cuts.{IsCut}
use Rattle.fold_map.proofs.Cuts.{found-cut, next-within, number-is}
use Rattle.fold_map.proofs.FoldCounts.{snapshot-splices}
use Rattle.fold_map.proofs.snapshot.FoldSnapshot.cut_at.Goals as goal

pub joined_behind-requires : goal.joined_behind-requires
joined_behind-requires g c x e =
    let low = g.L.Layer.source c.self.inside.layer in
    let folds = map fold_of c.self.inside.folds in
    let spliced = c.self.invariant.spliced in
    let i = c.find_lower-found.result.index in
    let here = ap (λ (ps : List (Piece Amount NoLoad)). slice_get ps i) (sym spliced.spliced) ∙ sym c.find_lower-found.ensures.splice ∙ e in
    let within = next-within (unfolded low) folds 0 spliced.joined (length low.text) i x spliced.all.1 here in
    let sum = ap (λ (s : Sides Amount). s.lower.buffer) c.find_lower-found.ensures.before in
    let list = ap (λ (ps : List (Piece Amount NoLoad)). (total (none nothing) (both together) (piece_sum together) (take i ps)).lower.buffer) spliced.spliced in
    let base = number-is low.text low.inlays folds spliced.joined spliced.all i in
    let long = c.text_len-len.type_inv in
    let text = ap (λ (s : Source). length s.text) c.self.view_is in
    omega (arith, within, sum, list, base, long, c.text_len-len.ensures.value, text)

pub returns-clause-cut : goal.returns-clause-cut
returns-clause-cut g c js all =
    let low = g.L.Layer.source c.self.inside.layer in
    let folds = map fold_of c.self.inside.folds in
    let spliced = c.self.invariant.spliced in
    let i = c.find_lower-found.result.index in
    let cut : Cut = record { index = i; base = c.find_lower-found.result.before.lower.buffer; next = c.joined_behind.result } in
    let mine : AreAllJoined folds (length low.text) js = subst (λ (v : Source). AreAllJoined v.folds (length v.text) js) (sym c.self.view_is) all in
    let same : spliced.joined ≡ js = one-list folds (length low.text) spliced.joined js spliced.all mine in
    let first =
    subst (λ (ps : List (Piece Amount NoLoad)). IsFirst (none nothing) (both together) (piece_sum together) (λ s. buffer_of s.lower) ps c.args.offset Right i) spliced.spliced c.find_lower-found.ensures.first in
    let base =
    ap (λ (s : Sides Amount). s.lower.buffer) c.find_lower-found.ensures.before
    ∙ ap (λ (ps : List (Piece Amount NoLoad)). (total (none nothing) (both together) (piece_sum together) (take i ps)).lower.buffer) spliced.spliced in
    let is = c.find_lower-found.ensures.splice ∙ ap (λ (ps : List (Piece Amount NoLoad)). slice_get ps i) spliced.spliced in
    subst (λ (l : List JoinedFold). IsCut l c.args.offset cut) same
    (found-cut low.text low.inlays folds spliced.joined spliced.all c.args.offset cut first _ base is c.joined_behind.ensures)

pub returns-clause-steps : goal.returns-clause-steps
returns-clause-steps g c h lt =
    c.find_lower-found.ensures.steps h
    (omega (arith, lt, snapshot-splices (g.L.Layer.source c.self.inside.layer) (map fold_of c.self.inside.folds) c.self.inside.splices c.args.self.now c.self.invariant c.self.view_is))
