-- The nodes on a path from the root down.
use Rattle.std.specs.Prelude.{◌≡◌, ℕ, ◌+◌, ◌-◌, ◌^◌, ◌<◌, ◌≤◌, Bool, true, false, nat_lt, List, [], ◌∷◌, ◌++◌, length, drop, Option, None, Some}
use Rattle.std.specs.Borrow.{Bor}
use Rattle.std.specs.List.{slice_get}
use Rattle.std.specs.Option.{option_copied}
use Rattle.std.specs.declared.cmp.Ordering.{Ordering}
use Rattle.sum_core.specs.Sums.{total}
use Rattle.sum_core.specs.Nodes.{IsLawful, items_in, items_of}
use Rattle.sum_tree.specs.Cursors.{measure_to, is_reached, last_of}
use Rattle.sum_tree.specs.inside.Trees.{IsTree}
use Rattle.sum_tree.specs.declared.trees.Tree.{Tree}
use Rattle.sum_tree.specs.declared.path.Aim.{Aim}
use Rattle.sum_tree.specs.declared.path.Aim.TheVariants.{Item, Sum}
use Rattle.sum_tree.specs.declared.path.Ahead.{Ahead}
use Rattle.sum_tree.specs.declared.path.Place.{Place}
use Rattle.sum_tree.specs.declared.path.Found.{Found}
use Rattle.sum_tree.specs.declared.path.Path.{Path}

-- The first n items with this measure go as far as the aim asks.
abbrev pub is_met : {D : Type 0} → (D → D → Ordering) → Aim D → ℕ → D → Bool
is_met cmp (Item at) n sum = nat_lt at n
is_met cmp (Sum target bias) n sum = is_reached cmp bias target sum

module _ {T S : Type 0} where
  -- the items of the tree, or none where there is no tree
  abbrev pub items_seen : Option (Bor (Tree T S)) → List T
  items_seen None = []
  items_seen (Some tree) = items_of tree.now.node

  abbrev pub height_seen : Option (Bor (Tree T S)) → ℕ
  height_seen None = 0
  height_seen (Some tree) = tree.now.height

  module _ (empty : S) (joined : S → S → S) (summary : T → S) where
    -- there is no tree, or a lawful one
    abbrev pub IsTreeSeen : Option (Bor (Tree T S)) → Type 0
    IsTreeSeen None = Unit {0}
    IsTreeSeen (Some tree) = IsTree empty joined summary tree.now

    -- A lawful node below which lie the `count` items from item `first` on.
    pub record IsPlace (items : List T) (p : Place T S) : Type 0 where
      pub lawful : IsLawful empty joined summary p.height p.entries.now
      pub below : drop p.first items ≡ items_in p.entries.now ++ drop (p.first + p.count) items
      pub count_is : p.count ≡ length (items_in p.entries.now)
      pub within : p.first + p.count ≤ length items

    -- Places of heights that fall by one, from a root of this height, where `depth` of them come before.
    abbrev pub ArePlaces : List T → ℕ → ℕ → List (Option (Place T S)) → Type 0
    ArePlaces items height depth [] = Unit {0}
    ArePlaces items height depth (None ∷ ps) = ⊥
    ArePlaces items height depth (Some p ∷ ps) = IsPlace items p × (p.height + depth ≡ height) × ArePlaces items height (depth + 1) ps

    -- A path down a lawful tree, with room for all its heights.
    pub record IsPath (fits : S → Type 0) (path : Path T S) : Type 0 where
      pub tree : IsTreeSeen path.root
      pub sum_fits : fits (total empty joined summary (items_seen path.root))
      pub small : length (items_seen path.root) < 2 ^ 32
      pub places : ArePlaces (items_seen path.root) (height_seen path.root) 0 path.places.items
      pub room : path.places.capacity ≡ 16

  module _ {D : Type 0} (empty : S) (joined : S → S → S) (summary : T → S) (measure : S → D) where
    -- A place within which the aim is met, and not before, with the measure of the items before it.
    pub record IsAhead (cmp : D → D → Ordering) (items : List T) (aim : Aim D) (a : Ahead T D S) : Type 0 where
      pub place : IsPlace empty joined summary items a.place
      pub some : 0 < a.place.count
      pub start_is : a.start ≡ measure_to empty joined summary measure items a.place.first
      pub not_before : 0 < a.place.first → is_met cmp aim a.place.first a.start ≡ false
      pub met : is_met cmp aim (a.place.first + a.place.count) (measure_to empty joined summary measure items (a.place.first + a.place.count)) ≡ true

    -- An item of the list with its index, and the measures before and through it.
    pub record IsItem (items : List T) (found : Found T D S) : Type 0 where
      pub within : found.index < length items
      pub item_is : slice_get items found.index ≡ Some found.item.now
      pub start_is : found.start ≡ measure_to empty joined summary measure items found.index
      pub end_is : found.end ≡ measure_to empty joined summary measure items (found.index + 1)

    -- The first item with which the aim is met.
    pub record IsFound (cmp : D → D → Ordering) (items : List T) (aim : Aim D) (found : Found T D S) : Type 0 where
      pub item : IsItem items found
      pub not_before : 0 < found.index → is_met cmp aim found.index found.start ≡ false
      pub met : is_met cmp aim (found.index + 1) found.end ≡ true

    -- What a cursor keeps: the item at its place, and the measures before and through it.
    pub record IsCursor (fits : S → Type 0) (path : Path T S) (place : ℕ) (item : Option (Bor T)) (start end : D) : Type 0 where
      pub path_is : IsPath empty joined summary fits path
      pub within : place ≤ length (items_seen path.root) + 1
      pub item_is : option_copied item ≡ last_of (items_seen path.root) place
      pub start_is : start ≡ measure_to empty joined summary measure (items_seen path.root) (place - 1)
      pub end_is : end ≡ measure_to empty joined summary measure (items_seen path.root) place
