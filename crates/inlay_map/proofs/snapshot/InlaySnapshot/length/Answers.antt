use Rattle.std.proofs.Common.{◌∙◌, ap, length, arith}
use Rattle.cell_units.specs.Layers.{Source, shown_text}
use Rattle.sum_core.specs.Sums.{total}
use Rattle.splice_tree.specs.Sides.{none, both}
use Rattle.splice_tree.specs.Splices.{piece_sum}
use Rattle.splice_tree.specs.declared.sides.Sides.{Sides}
use Rattle.inlay_map.specs.declared.amount.Amount.{Amount}
use Rattle.inlay_map.specs.Amounts.{nothing, together}
use Rattle.inlay_map.proofs.MapStates.{source-is}
use Rattle.inlay_map.proofs.SpotsFound.{byte-sum}
use Rattle.inlay_map.proofs.snapshot.InlaySnapshot.length.Goals as goal

pub overflow_sub-result : goal.overflow_sub-result
overflow_sub-result c =
    let s = c.self.inside.inlaid in
    let sum = byte-sum s.text s.inlays c.len-len.ensures.lawful.inlays c.len-len.ensures.lawful.short in
    let same = c.sum-sum.ensures ∙ ap (total (none nothing) (both together) (piece_sum together)) c.self.invariant in
    omega (arith, sum.order, c.len-len.ensures.value, ap (λ (t : Sides Amount). t.lower.bytes) same)

pub overflow_add-result : goal.overflow_add-result
overflow_add-result c =
    let s = c.self.inside.inlaid in
    let sum = byte-sum s.text s.inlays c.len-len.ensures.lawful.inlays c.len-len.ensures.lawful.short in
    let same = c.sum-sum.ensures ∙ ap (total (none nothing) (both together) (piece_sum together)) c.self.invariant in
    omega (arith, sum.bytes, sum.small, c.len-len.ensures.value, ap (λ (t : Sides Amount). t.lower.bytes) same, ap (λ (t : Sides Amount). t.upper.bytes) same)

pub returns : goal.returns
returns c =
    let s = c.self.inside.inlaid in
    let len = c.len-len.ensures.lawful in
    let sum = byte-sum s.text s.inlays len.inlays len.short in
    let same = c.sum-sum.ensures ∙ ap (total (none nothing) (both together) (piece_sum together)) c.self.invariant in
    omega (
      arith,
      sum.bytes,
      c.len-len.ensures.value,
      ap (λ (t : Sides Amount). t.lower.bytes) same,
      ap (λ (t : Sides Amount). t.upper.bytes) same,
      ap (λ (v : Source). length (shown_text v)) (source-is s len.folds),
      ap (λ (v : Source). length (shown_text v)) c.self.view_is,
    )
