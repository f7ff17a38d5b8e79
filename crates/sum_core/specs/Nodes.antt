-- What a node holds, and when it is lawful.
use Rattle.std.specs.Prelude.{◌≡◌, ℕ, zero, suc, ◌≤◌, ◌<◌, List, length, map, All}
use Rattle.std.specs.List.{flat_map}
use Rattle.sum_core.specs.Sums.{total}
use Rattle.sum_core.specs.declared.node.Node.{Node, out-Node}
use Rattle.sum_core.specs.declared.node.Entries.{Entries, out-Entries, fold-Entries}
use Rattle.sum_core.specs.declared.node.Entries.TheOpen.{Entries-F, Child-F, Node-F, Leaf, Inner}
use Rattle.sum_core.specs.declared.node.Child.{Child, out-Child}

-- The entries of one node with their addresses left out. They are a leaf's items, or for each child the stored sum, the
-- stored count and what its node holds. Equal nodes may lie at different addresses, so clauses compare their contents.
pub data Contents (T S E : Type 0) : Type 0 where
  leaf : List T → Contents T S E
  inner : List (S × ℕ × E) → Contents T S E

-- the number of entries
abbrev pub width : {T S E : Type 0} → Contents T S E → ℕ
width (leaf items) = length items
width (inner children) = length children

module _ {T S : Type 0} where
  -- what a node holds
  abbrev pub entries_of : Node T S → Entries T S
  entries_of n = (out-Node T S n).inner.value

  -- a child's stored sum, its stored count, and what its node holds
  abbrev pub child_value : Child T S → S × ℕ × Entries T S
  child_value c = ((out-Child T S c).sum, (out-Child T S c).count, entries_of (out-Child T S c).node)

  abbrev pub layer_contents : Entries-F T S (Entries T S) (Child T S) (Node T S) → Contents T S (Entries T S)
  layer_contents (Leaf items) = leaf items.items
  layer_contents (Inner children) = inner (map child_value children.items)

  -- the contents of one node
  abbrev pub contents : Entries T S → Contents T S (Entries T S)
  contents e = layer_contents (out-Entries T S e)

  -- The items below a node are those of its leaf, or those below each child in turn: one step for each kind of part.
  abbrev pub entries_step : Entries-F T S (List T) (List T) (List T) → List T
  entries_step (Leaf items) = items.items
  entries_step (Inner children) = flat_map (λ items. items) children.items

  abbrev pub child_step : Child-F T S (List T) (List T) (List T) → List T
  child_step c = c.node

  abbrev pub node_step : Node-F T S (List T) (List T) (List T) → List T
  node_step n = n.inner.value

  -- all items below, from left to right
  abbrev pub items_in : Entries T S → List T
  items_in = fold-Entries T S (List T) (List T) (List T) entries_step child_step node_step

  -- all items below a list of children
  abbrev pub items_under : List (S × ℕ × Entries T S) → List T
  items_under children = flat_map (λ c. items_in c.2) children

  -- the same items, read off the contents of the node
  abbrev pub contents_items : Contents T S (Entries T S) → List T
  contents_items (leaf items) = items
  contents_items (inner children) = items_under children

  -- all items below a node
  abbrev pub items_of : Node T S → List T
  items_of n = items_in (entries_of n)

  module _ (empty : S) (joined : S → S → S) (summary : T → S) where
    -- A child with a node that is P and has at least `least` entries. The stored sum and count are those of the items
    -- below.
    pub record IsChild (P : Entries T S → Type 0) (least : ℕ) (c : S × ℕ × Entries T S) : Type 0 where
      pub below : P c.2
      pub wide : least ≤ width (contents c.2)
      pub sum_is : c.0 ≡ total empty joined summary (items_in c.2)
      pub count_is : c.1 ≡ length (items_in c.2)

    pub record IsChildList (P : Entries T S → Type 0) (least : ℕ) (children : List (S × ℕ × Entries T S)) : Type 0 where
      pub each : All (IsChild P least) children

    -- a leaf has at most 12 items
    abbrev pub IsLawfulLeaf : Contents T S (Entries T S) → Type 0
    IsLawfulLeaf (leaf items) = length items ≤ 12
    IsLawfulLeaf (inner children) = ⊥

    -- an inner node has at most 12 children, each of which is P and has at least 6 entries
    abbrev pub IsLawfulInner : (Entries T S → Type 0) → Contents T S (Entries T S) → Type 0
    IsLawfulInner P (leaf items) = ⊥
    IsLawfulInner P (inner children) = (length children ≤ 12) × IsChildList P 6 children

    -- A lawful node of a height is a leaf at 0, and above that an inner node with lawful children of the height below.
    abbrev pub IsLawful : ℕ → Entries T S → Type 0
    IsLawful zero e = IsLawfulLeaf (contents e)
    IsLawful (suc h) e = IsLawfulInner (IsLawful h) (contents e)

    -- A lawful root of a height: the root may have fewer than 6 entries, and at least two where it is no leaf.
    pub record IsRoot (h : ℕ) (e : Entries T S) : Type 0 where
      pub lawful : IsLawful h e
      pub two : 0 < h → 2 ≤ width (contents e)
