use Rattle.std.proofs.Common.{◌≡◌, ◌∙◌, ap, sym, subst, take, length, arith}
use Rattle.cell_units.specs.Layers.{Source}
use Rattle.sum_core.specs.Sums.{total}
use Rattle.splice_tree.specs.Sides.{none, both}
use Rattle.splice_tree.specs.Splices.{piece_sum}
use Rattle.splice_tree.specs.declared.sides.Sides.{Sides}
use Rattle.inlay_map.specs.declared.amount.Amount.{Amount}
use Rattle.inlay_map.specs.Amounts.{amount_between, nothing, together}
use Rattle.std.specs.List.{slice_get}
use Rattle.std.specs.Option.{option_copied}
use Rattle.inlay_map.specs.declared.spot.Spot.{Spot}
use Rattle.inlay_map.specs.Splices.{base_at}
use Rattle.inlay_map.specs.Spots.{IsSpot, end_at, sum_before}
use Rattle.inlay_map.proofs.SpotsFound.{before-is, before-within, gap-none, gap-some, spot-is}
use Rattle.inlay_map.proofs.Spread.{spread}
use Rattle.inlay_map.proofs.snapshot.InlaySnapshot.find.Goals as goal
use Rattle.inlay_map.proofs.snapshot.InlaySnapshot.find.Goals.{in-Some, in-None}

pub behind-gap-requires-clause-within : goal.behind-gap-requires-clause-within
behind-gap-requires-clause-within g c =
    let s = c.self.inside.inlaid in
    let f = c.find_upper-found in
    let sp = spread s.text s.inlays c.len-len.ensures.lawful.inlays in
    let same : f.result.before ≡ sum_before s.text 0 s.inlays f.result.index = f.ensures.before ∙ ap (λ l. total (none nothing) (both together) (piece_sum together) (take f.result.index l)) c.self.invariant in
    omega (arith, ap (λ (b : Sides Amount). b.lower.bytes) same, before-within s.text s.inlays f.result.index sp)

pub behind-gap-requires-clause-before : goal.behind-gap-requires-clause-before
behind-gap-requires-clause-before g c =
    let s = c.self.inside.inlaid in
    let f = c.find_upper-found in
    let sp = spread s.text s.inlays c.len-len.ensures.lawful.inlays in
    let same : f.result.before ≡ sum_before s.text 0 s.inlays f.result.index = f.ensures.before ∙ ap (λ l. total (none nothing) (both together) (piece_sum together) (take f.result.index l)) c.self.invariant in
    subst (λ (b : Sides Amount). b.lower ≡ amount_between s.text 0 b.lower.bytes) (sym same) (before-is s.text s.inlays f.result.index sp)

pub returns-clause-spot : goal.returns-clause-spot
returns-clause-spot g c =
    let s = c.self.inside.inlaid in
    let f = c.find_upper-found in
    let n = f.result.index in
    let sp = spread s.text s.inlays c.len-len.ensures.lawful.inlays in
    let same : f.result.before ≡ sum_before s.text 0 s.inlays n = f.ensures.before ∙ ap (λ l. total (none nothing) (both together) (piece_sum together) (take n l)) c.self.invariant in
    let spot : Spot = record { index = n; before = f.result.before; gap = c.match-found.gap } in
    let gap : c.match-found.gap ≡ amount_between s.text (base_at 0 s.inlays n) (end_at s.text s.inlays n) =
    elim c.match-found.branch [
      | in-Some w ↦ w.gap-is ∙ w.gap-gap.ensures
          ∙ gap-some s.text 0 s.inlays n w.in-Some.splice.now (ap (λ l. slice_get l n) (sym c.self.invariant) ∙ sym f.ensures.splice ∙ ap option_copied w.in-Some.is)
      | in-None w ↦ w.gap-is ∙ w.behind-gap.ensures
          ∙ ap (λ (b : Sides Amount). amount_between s.text b.lower.bytes (length s.text)) same
          ∙ gap-none s.text s.inlays n sp (ap (λ l. slice_get l n) (sym c.self.invariant) ∙ sym f.ensures.splice ∙ ap option_copied w.in-None.is)
    ] in
    subst (λ (v : Source). IsSpot v g.M.Measure.number c.args.target c.args.bias spot) c.self.view_is
    (spot-is s g.M.Measure.number c.args.target c.args.bias spot c.self.inside.splices c.self.invariant f.ensures.first f.ensures.before gap)
