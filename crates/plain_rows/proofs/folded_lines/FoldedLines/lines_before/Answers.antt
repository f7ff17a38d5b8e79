use Rattle.std.proofs.Common.{◌≡◌, length, ap, ◌∙◌, arith, rules}
use Rattle.std.proofs.lemmas.List.Sorted.{IsPartitionPoint-from_clause}
use Rattle.plain_rows.specs.declared.folded_lines.LineEnd.{LineEnd}
use Rattle.plain_rows.specs.FoldedLines.{LaidOut, before_all}
use Rattle.plain_rows.specs.inside.PartPieces.{ends_from}
use Rattle.plain_rows.specs.inside.Passed.{part_passed}
use Rattle.plain_rows.proofs.SearchedEnds.{ends-counted, ends-parted}
use Rattle.plain_rows.proofs.ShownSizes.{ends-size}
use Rattle.plain_rows.proofs.folded_lines.FoldedLines.lines_before.Goals as goal

pub returns-clause-count : goal.returns-clause-count
returns-clause-count c = λ source are.
    let parts = c.args.self.now.parts in
    let ends = c.as_slice-ends.result.now in
    let is : ends ≡ ends_from 0 parts = c.as_slice-ends.ensures.value ∙ c.self.invariant.ends_are ∙ ap (λ (l : LaidOut). ends_from 0 l.parts) c.self.view_is in
    let parted = ends-parted source c.args.offset c.args.bias before_all parts are.shown.chain are.shown.lie ends is in
    let point = IsPartitionPoint-from_clause (λ (e : LineEnd). part_passed c.args.offset c.args.bias e.feed) _ _ c.partition_point.ensures.partitioned parted (λ a r q k. search rules) in
    ends-counted c.args.offset c.args.bias parts ends c.partition_point.result is c.partition_point.ensures.bound point

pub returns-clause-fits : goal.returns-clause-fits
returns-clause-fits c =
    omega (arith, c.partition_point.ensures.bound, ap length c.as_slice-ends.ensures.value, ap length c.self.invariant.ends_are, ends-size 0 c.self.inside.parts.items, c.self.invariant.size)
