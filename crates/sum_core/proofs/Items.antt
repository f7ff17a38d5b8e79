-- The items below a node, level by level.
use Rattle.std.proofs.Common.{◌≡◌, List, [], ◌∷◌, map, ◌∙◌, refl}
use Rattle.std.specs.List.{flat_map}
use Rattle.sum_core.specs.Nodes.{child_value, contents, layer_contents, items_in, contents_items, entries_step, child_step, node_step}
use Rattle.sum_core.specs.declared.node.Node.{Node, fold-Node, fold_out-Node}
use Rattle.sum_core.specs.declared.node.Entries.{Entries, out-Entries, fold_out-Entries, map-Entries}
use Rattle.sum_core.specs.declared.node.Entries.TheOpen.{Entries-F, Leaf, Inner}
use Rattle.sum_core.specs.declared.node.Child.{Child, out-Child, fold-Child, fold_out-Child}

module _ {T S : Type 0} where
  abbrev items_below : Child T S → List T
  items_below = fold-Child T S (List T) (List T) (List T) entries_step child_step node_step

  abbrev items_at : Node T S → List T
  items_at = fold-Node T S (List T) (List T) (List T) entries_step child_step node_step

  items_below-is : (c : Child T S) → items_below c ≡ items_in (child_value c).2
  items_below-is c =
      fold_out-Child T S (List T) (List T) (List T) entries_step child_step node_step c
      ∙ fold_out-Node T S (List T) (List T) (List T) entries_step child_step node_step (out-Child T S c).node

  children_items : (cs : List (Child T S)) → flat_map (λ items. items) (map items_below cs) ≡ flat_map (λ c. items_in c.2) (map child_value cs)
  children_items [] = refl
  children_items (c ∷ cs) = rw (items_below-is c, children_items cs) refl

  layer_items : (l : Entries-F T S (Entries T S) (Child T S) (Node T S)) → entries_step (map-Entries T S (Entries T S) (Child T S) (Node T S) (List T) (List T) (List T) items_in items_below items_at l) ≡ contents_items (layer_contents l)
  layer_items (Leaf items) = refl
  layer_items (Inner children) = children_items children.items

  -- a node's items are what it shows
  pub items-contents : (e : Entries T S) → items_in e ≡ contents_items (contents e)
  items-contents e =
      fold_out-Entries T S (List T) (List T) (List T) entries_step child_step node_step e
      ∙ layer_items (out-Entries T S e)
