-- The words of clauses on nodes, on children as a node has them, and on trees. `items` and `sums` are what a function's
-- bounds say of items and of their sums.
use Rattle.std.specs.Prelude.{ℕ, min, List, map}
use Rattle.sum_core.specs.Sums.{total}
use Rattle.sum_core.specs.Nodes.{IsLawful, IsRoot, IsChild, IsChildList, contents, width, entries_of, child_value, items_under}
use Rattle.sum_core.specs.declared.node.Child.{Child}
use Rattle.sum_core.specs.declared.node.Node.{Node}
use Rattle.sum_core.specs.declared.summary.Item.{Ghosts as Items}
use Rattle.sum_core.specs.declared.summary.Summary.{Ghosts as Sums}
use Rattle.sum_tree.specs.inside.Parts.{IsCut, IsInner, IsMelded, IsPacked, IsParted, IsRaisable}
use Rattle.sum_tree.specs.inside.Trees.{IsTree, IsTreeOf}
use Rattle.sum_tree.specs.declared.open.Parted.{Parted}
use Rattle.sum_tree.specs.declared.splits.Cut.{Cut}
use Rattle.sum_tree.specs.declared.trees.Tree.{Tree}

module _ {T S : Type 0} where
  -- all items below these children
  abbrev pub items_below : List (Child T S) → List T
  items_below children = items_under (map child_value children)

  -- the number of a node's entries
  abbrev pub entry_count : Node T S → ℕ
  entry_count node = width (contents (entries_of node))

module _ {T S : Type 0} (items : Items T S) (sums : Sums S) where
  -- the sum of a list of items
  abbrev pub sum_of : List T → S
  sum_of held = total sums.empty sums.joined items.summary held

  -- which is within the ranges of its type
  abbrev pub SumFits : List T → Type 0
  SumFits held = sums.fits (sum_of held)

  -- a lawful node of this height
  abbrev pub IsLawfulNode : ℕ → Node T S → Type 0
  IsLawfulNode height node = IsLawful sums.empty sums.joined items.summary height (entries_of node)

  -- one that can be a root
  abbrev pub IsLawfulRoot : ℕ → Node T S → Type 0
  IsLawfulRoot height node = IsRoot sums.empty sums.joined items.summary height (entries_of node)

  -- A lawful node of this height with at least `least` entries, with its sum and number.
  abbrev pub IsWideChild : ℕ → ℕ → Child T S → Type 0
  IsWideChild height least child =
      IsChild sums.empty sums.joined items.summary (IsLawful sums.empty sums.joined items.summary height) least (child_value child)

  -- one that is no root
  abbrev pub IsChildAt : ℕ → Child T S → Type 0
  IsChildAt height child = IsWideChild height 6 child

  -- Lawful nodes of this height, each with at least 6 entries, with their sums and numbers.
  abbrev pub AreChildren : ℕ → List (Child T S) → Type 0
  AreChildren height children =
      IsChildList sums.empty sums.joined items.summary (IsLawful sums.empty sums.joined items.summary height) 6 (map child_value children)

  -- One node or two of this height, made of so many entries, with these items below.
  abbrev pub ArePacked : ℕ → ℕ → List T → List (Child T S) → Type 0
  ArePacked height count held pieces =
      IsPacked sums.empty sums.joined items.summary height (min 6 count) held (map child_value pieces)

  -- one node or two of the larger height, from two roots
  abbrev pub AreMelded : ℕ → Node T S → ℕ → Node T S → List (Child T S) → Type 0
  AreMelded left_height left right_height right pieces =
      IsMelded sums.empty sums.joined items.summary left_height (entries_of left) right_height (entries_of right) (map child_value pieces)

  -- one node that can be a root, or at most twelve that can be below one
  abbrev pub AreRaisable : ℕ → List (Child T S) → Type 0
  AreRaisable height pieces = IsRaisable sums.empty sums.joined items.summary height (map child_value pieces)

  -- the children of a lawful inner node of this height
  abbrev pub AreChildrenOf : ℕ → Node T S → List (Child T S) → Type 0
  AreChildrenOf height node children =
      IsInner sums.empty sums.joined items.summary height (entries_of node) (map child_value children)

  -- A lawful inner node of this height is `rest` and, at one end, a child. `held` are the items below.
  abbrev pub IsPartedNode : ℕ → Node T S → List T → Parted T S → Type 0
  IsPartedNode height node held p =
      IsParted sums.empty sums.joined items.summary height (entries_of node) (map child_value p.rest.items) (entries_of p.node) held

  -- a lawful inner node of this height, cut at the child that the place `at` lies in
  abbrev pub IsCutNode : ℕ → Node T S → ℕ → Cut T S → Type 0
  IsCutNode height node at cut =
      let before = map child_value cut.before.items in
      let after = map child_value cut.after.items in
      IsCut sums.empty sums.joined items.summary height (entries_of node) before (entries_of cut.node) after at cut.offset

  abbrev pub IsLawfulTree : Tree T S → Type 0
  IsLawfulTree tree = IsTree sums.empty sums.joined items.summary tree

  -- a lawful tree of these items
  abbrev pub IsTreeHolding : Tree T S → List T → Type 0
  IsTreeHolding tree held = IsTreeOf sums.empty sums.joined items.summary tree held
