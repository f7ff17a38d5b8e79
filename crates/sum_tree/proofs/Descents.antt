-- From a place on a path to a child below it.
use Rattle.std.proofs.Common.{◌≡◌, ℕ, ◌+◌, ◌<◌, ◌≤◌, List, ◌++◌, length, map, take, drop, get_or, ap, ◌∙◌, arith}
use Rattle.sum_core.specs.Nodes.{contents, inner, child_value, items_in, items_under}
use Rattle.sum_core.specs.declared.node.Child.{Child}
use Rattle.sum_core.specs.declared.node.Entries.{Entries}
use Rattle.sum_core.proofs.Children.{items-split, items-taken, taken-small}
use Rattle.sum_core.proofs.Levels.{items-seen}
use Rattle.sum_tree.proofs.Prefixes.{drop-part}

module _ {T S : Type 0} where
  -- the items of child i, and what follows them
  pub child-ahead : (all rest : List T) (e : Entries T S) (children : List (Child T S)) (n first i : ℕ) (k : Child T S) → drop n all ≡ items_in e ++ rest → contents e ≡ inner (map child_value children) → i < length children → k ≡ get_or children i k → first ≡ n + length (items_under (take i (map child_value children))) → drop first all ≡ items_in (child_value k).2 ++ (items_under (drop (i + 1) (map child_value children)) ++ rest)
  child-ahead all rest e children n first i k below shows lt is at =
      let cs = map child_value children in
      ap (λ m. drop m all) at
      ∙ drop-part all (items_in e) rest (items_under (take i cs)) (items_in (child_value k).2) (items_under (drop (i + 1) cs)) n below
      (items-seen e cs shows ∙ items-split children i k lt is)

  -- the end of child i is where the next one begins
  pub child-end : (children : List (Child T S)) (n first i count : ℕ) (k : Child T S) → i < length children → k ≡ get_or children i k → count ≡ length (items_in (child_value k).2) → first ≡ n + length (items_under (take i (map child_value children))) → first + count ≡ n + length (items_under (take (i + 1) (map child_value children)))
  child-end children n first i count k lt is c at = omega (arith, items-taken children i k lt is)

  -- and lies within the list
  pub child-within : (all : List T) (e : Entries T S) (children : List (Child T S)) (n m first i count : ℕ) (k : Child T S) → n + m ≤ length all → m ≡ length (items_in e) → contents e ≡ inner (map child_value children) → i < length children → k ≡ get_or children i k → count ≡ length (items_in (child_value k).2) → first ≡ n + length (items_under (take i (map child_value children))) → first + count ≤ length all
  child-within all e children n m first i count k within len shows lt is c at =
      let cs = map child_value children in
      omega (arith, child-end children n first i count k lt is c at, taken-small cs (i + 1), ap length (items-seen e cs shows))
