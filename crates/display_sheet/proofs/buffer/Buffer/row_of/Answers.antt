use Rattle.std.proofs.Common.{◌≡◌, ◌≤◌, ◌+◌, ℕ, List, nat_le, true, false, length, ap, sym, subst, ◌∙◌, arith, rules}
use Rattle.std.specs.List.Sorted.{IsPartitionedBy, IsPartitionPoint}
use Rattle.std.proofs.lemmas.List.Sorted.{IsPartitionPoint-from_clause}
use Rattle.std.specs.String.{string_bytes}
use Rattle.cell_units.specs.Text.{row_of}
use Rattle.cell_units.specs.Record.{line_count}
use Rattle.cell_units.specs.BufferLines.{line_starts}
use Rattle.cell_units.proofs.BufferLines.{length-line_starts}
use Rattle.cell_units.proofs.StartSearch.{starts_partitioned, row_of_searched}
use Rattle.display_sheet.proofs.buffer.Buffer.row_of.Goals as goal

searched : (text starts : List ℕ) (o i : ℕ) → starts ≡ line_starts text → i ≤ length starts →
    IsPartitionPoint (λ s. nat_le s o ≡ true) (λ s. nat_le s o ≡ false) starts i → row_of text o + 1 ≡ i
searched text starts o i is le point =
    row_of_searched text o i (subst (λ (l : List ℕ). i ≤ length l) is le)
    (subst (λ (l : List ℕ). IsPartitionPoint (λ s. nat_le s o ≡ true) (λ s. nat_le s o ≡ false) l i) is point)

pub overflow_sub-result : goal.overflow_sub-result
overflow_sub-result c =
    let text = string_bytes c.self.inside.text in
    let starts = c.deref.ensures.value ∙ c.self.invariant.0 in
    let parted = subst (λ (l : List ℕ). IsPartitionedBy (λ (s : ℕ). nat_le s c.args.offset) l) (sym starts) (starts_partitioned text c.args.offset) in
    let point = IsPartitionPoint-from_clause (λ (s : ℕ). nat_le s c.args.offset) _ _ c.partition_point.ensures.partitioned parted (λ a r q k. search rules) in
    omega (arith, searched text c.deref.result.now c.args.offset c.partition_point.result starts c.partition_point.ensures.bound point)

pub returns-clause-row : goal.returns-clause-row
returns-clause-row c =
    let text = string_bytes c.self.inside.text in
    let starts = c.deref.ensures.value ∙ c.self.invariant.0 in
    let parted = subst (λ (l : List ℕ). IsPartitionedBy (λ (s : ℕ). nat_le s c.args.offset) l) (sym starts) (starts_partitioned text c.args.offset) in
    let point = IsPartitionPoint-from_clause (λ (s : ℕ). nat_le s c.args.offset) _ _ c.partition_point.ensures.partitioned parted (λ a r q k. search rules) in
    omega (
      arith,
      searched text c.deref.result.now c.args.offset c.partition_point.result starts c.partition_point.ensures.bound point,
      ap (λ (t : List ℕ). row_of t c.args.offset) c.self.view_is,
    )

pub returns-clause-within : goal.returns-clause-within
returns-clause-within c =
    let text = string_bytes c.self.inside.text in
    let starts = c.deref.ensures.value ∙ c.self.invariant.0 in
    let parted = subst (λ (l : List ℕ). IsPartitionedBy (λ (s : ℕ). nat_le s c.args.offset) l) (sym starts) (starts_partitioned text c.args.offset) in
    let point = IsPartitionPoint-from_clause (λ (s : ℕ). nat_le s c.args.offset) _ _ c.partition_point.ensures.partitioned parted (λ a r q k. search rules) in
    omega (
      arith,
      searched text c.deref.result.now c.args.offset c.partition_point.result starts c.partition_point.ensures.bound point,
      c.partition_point.ensures.bound,
      ap length starts,
      length-line_starts text,
      ap line_count c.self.view_is,
    )
