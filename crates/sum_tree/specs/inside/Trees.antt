-- What a whole tree keeps.
use Rattle.std.specs.Prelude.{◌≡◌, ◌^◌, ◌<◌, List, [], length, Option, None, Some}
use Rattle.sum_core.specs.Sums.{total}
use Rattle.sum_core.specs.Nodes.{IsRoot, entries_of, items_of}
use Rattle.sum_tree.specs.declared.trees.Tree.{Tree}

module _ {T S : Type 0} where
  -- a tree's items, and none where there is no node yet
  abbrev pub items_held : Option (Tree T S) → List T
  items_held None = []
  items_held (Some t) = items_of t.node

  -- the same root, wherever it lies
  pub record IsSameTree (s t : Tree T S) : Type 0 where
    pub node_is : entries_of s.node ≡ entries_of t.node
    pub height_is : s.height ≡ t.height
    pub sum_is : s.sum ≡ t.sum
    pub count_is : s.count ≡ t.count

  module _ (empty : S) (joined : S → S → S) (summary : T → S) where
    -- A lawful root of the stored height, with the sum and the number of the items below.
    pub record IsTree (t : Tree T S) : Type 0 where
      pub root : IsRoot empty joined summary t.height (entries_of t.node)
      pub sum_is : t.sum ≡ total empty joined summary (items_of t.node)
      pub count_is : t.count ≡ length (items_of t.node)

    -- a tree of these items
    pub record IsTreeOf (t : Tree T S) (items : List T) : Type 0 where
      pub tree : IsTree t
      pub items_is : items_of t.node ≡ items

    abbrev pub IsTreeIfAny : Option (Tree T S) → Type 0
    IsTreeIfAny None = Unit {0}
    IsTreeIfAny (Some t) = IsTree t

    -- What a sum tree holds: no tree or a lawful one, whose sum fits and whose items are fewer than 2 ^ 32.
    pub record IsHeld (fits : S → Type 0) (held : Option (Tree T S)) : Type 0 where
      pub tree : IsTreeIfAny held
      pub sum_fits : fits (total empty joined summary (items_held held))
      pub small : length (items_held held) < 2 ^ 32
