use Rattle.std.proofs.Common.{ℕ, leb, get_or, arith, rules}
use Rattle.std.proofs.lemmas.Bool.{leb-false, leb-true}
use Rattle.std.proofs.lemmas.List.Sorted.{IsPartitionPoint-from_clause, IsPartitionedBy-leb}
use Rattle.plain_rows.proofs.spots.laid_rows.line_of_row.Goals as goal

pub returns-clause-begins : goal.returns-clause-begins
returns-clause-begins c = λ some.
    let rows = c.args.first_rows.now in
    let parted = IsPartitionedBy-leb (λ (first : ℕ). first) rows c.args.row c.requires.rising in
    let point = IsPartitionPoint-from_clause (λ (first : ℕ). leb first c.args.row) rows c.partition_point-begun.result c.partition_point-begun.ensures.partitioned parted (λ a r q k. search rules) in
    leb-true (get_or rows c.saturating_sub.result 0) c.args.row (point.0 c.saturating_sub.result 0 (omega arith) (omega (arith, some, c.saturating_sub.ensures)))

pub returns-clause-ends : goal.returns-clause-ends
returns-clause-ends c = λ line past within.
    let rows = c.args.first_rows.now in
    let parted = IsPartitionedBy-leb (λ (first : ℕ). first) rows c.args.row c.requires.rising in
    let point = IsPartitionPoint-from_clause (λ (first : ℕ). leb first c.args.row) rows c.partition_point-begun.result c.partition_point-begun.ensures.partitioned parted (λ a r q k. search rules) in
    leb-false (get_or rows line 0) c.args.row (point.1 line 0 (omega (arith, past, c.saturating_sub.ensures)) within)
