use Rattle.std.proofs.Common.{◌∙◌, ap, length, count_by, arith}
use Rattle.cell_units.specs.Layers.{Source, shown_lines, shown_text}
use Rattle.cell_units.specs.Text.{is_feed}
use Rattle.cell_units.proofs.Sources.{lines-are}
use Rattle.sum_core.specs.Sums.{total}
use Rattle.splice_tree.specs.Sides.{none, both}
use Rattle.splice_tree.specs.Splices.{piece_sum}
use Rattle.splice_tree.specs.declared.sides.Sides.{Sides}
use Rattle.inlay_map.specs.declared.amount.Amount.{Amount}
use Rattle.inlay_map.specs.Amounts.{nothing, together}
use Rattle.inlay_map.proofs.InlaidSources.{well-formed}
use Rattle.inlay_map.proofs.MapStates.{source-is}
use Rattle.inlay_map.proofs.SpotsFound.{feed-sum}
use Rattle.inlay_map.proofs.snapshot.InlaySnapshot.lines.Goals as goal

pub overflow_sub-result : goal.overflow_sub-result
overflow_sub-result c =
    let s = c.self.inside.inlaid in
    let sum = feed-sum s.text s.inlays c.len-len.ensures.lawful.inlays (omega (arith, c.len-len.ensures.value, c.len-len.ensures.lawful.short)) in
    let same = c.sum-sum.ensures ∙ ap (total (none nothing) (both together) (piece_sum together)) c.self.invariant in
    omega (arith, sum.order, ap (λ (t : Sides Amount). t.lower.feeds) same, ap (λ (t : Sides Amount). t.upper.feeds) same)

pub overflow_add-result : goal.overflow_add-result
overflow_add-result c =
    let s = c.self.inside.inlaid in
    let sum = feed-sum s.text s.inlays c.len-len.ensures.lawful.inlays (omega (arith, c.len-len.ensures.value, c.len-len.ensures.lawful.short)) in
    let same = c.sum-sum.ensures ∙ ap (total (none nothing) (both together) (piece_sum together)) c.self.invariant in
    omega (arith, sum.order, sum.feeds, sum.small, c.line_count.ensures, ap (λ (t : Sides Amount). t.lower.feeds) same, ap (λ (t : Sides Amount). t.upper.feeds) same)

pub returns : goal.returns
returns c =
    let s = c.self.inside.inlaid in
    let len = c.len-len.ensures.lawful in
    let sum = feed-sum s.text s.inlays len.inlays len.short in
    let same = c.sum-sum.ensures ∙ ap (total (none nothing) (both together) (piece_sum together)) c.self.invariant in
    let lines = lines-are s (well-formed s len.text len.inlays len.folds) in
    omega (
      arith,
      sum.feeds,
      c.line_count.ensures,
      lines,
      ap (λ (t : Sides Amount). t.lower.feeds) same,
      ap (λ (t : Sides Amount). t.upper.feeds) same,
      ap (λ (v : Source). count_by is_feed (shown_text v)) (source-is s len.folds),
      ap (λ (v : Source). length (shown_lines v)) c.self.view_is,
    )
