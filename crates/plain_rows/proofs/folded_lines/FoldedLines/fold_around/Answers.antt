use Rattle.std.proofs.Common.{◌≡◌, ◌<◌, ℕ, leb, length, get_or, ap, sym, subst, ◌∙◌, arith, rules}
use Rattle.std.proofs.lemmas.Bool.{leb-false}
use Rattle.std.proofs.lemmas.List.{get_or_default}
use Rattle.std.proofs.lemmas.List.Sorted.{IsPartitionPoint-from_clause}
use Rattle.plain_rows.specs.declared.folded_lines.Joined.{Joined}
use Rattle.plain_rows.specs.FoldedLines.{Joins, LaidOut}
use Rattle.plain_rows.proofs.LaidSteps.{range-folds}
use Rattle.plain_rows.proofs.RangesApart.{range-at}
use Rattle.plain_rows.proofs.SearchedEnds.{outside-ranges, ranges-parted}
use Rattle.plain_rows.proofs.folded_lines.FoldedLines.fold_around.Goals as goal
use Rattle.plain_rows.proofs.folded_lines.FoldedLines.fold_around.Goals.{else-index-joined-via-then-index-joined+else-joined-index, else-index-joined-via-else-index-joined}

abbrev none : Joined
none = record { start = 0; end = 0 }

pub returns-then-joined-index : goal.returns-then-joined-index
returns-then-joined-index c = λ source are.
    let joined = c.as_slice-joined.result.now in
    let is : joined ≡ c.args.self.now.joined = c.as_slice-joined.ensures.value ∙ ap (λ (l : LaidOut). l.joined) c.self.view_is in
    let joins = subst (Joins source.folds) (sym is) are.joins in
    let index : ℕ = c.partition_point-index.result in
    let parted = ranges-parted 0 c.args.offset joined joins.apart in
    let point = IsPartitionPoint-from_clause (λ (j : Joined). leb j.end c.args.offset) _ _ c.partition_point-index.ensures.partitioned parted (λ a r q k. search rules) in
    let lt : index < length joined = c.if-index-joined.true in
    let fold = range-folds source are.lawful joined joins index none lt in
    let r = range-at 0 joined index none joins.apart lt in
    let behind : c.args.offset < (get_or joined index none).end = leb-false (get_or joined index none).end c.args.offset (point.1 index none (omega arith) lt) in
    (fold, c.if-joined-index.true, behind, sym (joins.inside_same (get_or joined index none).end) ∙ r.end_outside)

pub returns : goal.returns
returns c = λ source are.
    let joined = c.as_slice-joined.result.now in
    let is : joined ≡ c.args.self.now.joined = c.as_slice-joined.ensures.value ∙ ap (λ (l : LaidOut). l.joined) c.self.view_is in
    let joins = subst (Joins source.folds) (sym is) are.joins in
    let index : ℕ = c.partition_point-index.result in
    let parted = ranges-parted 0 c.args.offset joined joins.apart in
    let point = IsPartitionPoint-from_clause (λ (j : Joined). leb j.end c.args.offset) _ _ c.partition_point-index.ensures.partitioned parted (λ a r q k. search rules) in
    let out = outside-ranges 0 c.args.offset joined index joins.apart c.partition_point-index.ensures.bound point.0 (λ d lt. elim c.else-index-joined.branch [
      | else-index-joined-via-then-index-joined+else-joined-index w ↦ omega (arith, w.if-joined-index.false, ap (λ (j : Joined). j.start) (get_or_default joined index d none lt))
      | else-index-joined-via-else-index-joined w ↦ absurd (omega (arith, w.if-index-joined.false, lt))
    ]) in
    sym (joins.inside_same c.args.offset) ∙ out
