-- What the parts of joining and cutting hand on. A child is shown as its stored sum, its stored count and what its node
-- holds.
use Rattle.std.specs.Prelude.{◌≡◌, ℕ, ◌+◌, ◌-◌, ◌<◌, ◌≤◌, List, length, ◌++◌, max}
use Rattle.sum_core.specs.Nodes.{IsLawful, IsChildList, inner, width, contents, items_in, items_under}
use Rattle.sum_core.specs.declared.node.Entries.{Entries}

module _ {T S : Type 0} (empty : S) (joined : S → S → S) (summary : T → S) where
  -- The entries e of a lawful inner node of this height are these children.
  pub record IsInner (height : ℕ) (e : Entries T S) (all : List (S × ℕ × Entries T S)) : Type 0 where
    pub shows : contents e ≡ inner all
    pub children : IsChildList empty joined summary (IsLawful empty joined summary (height - 1)) 6 all
    pub room : length all ≤ 12

  -- The entries e of a lawful inner node of this height are `rest` and, at one end, a child that holds f. `items` are
  -- those below e.
  pub record IsParted (height : ℕ) (e : Entries T S) (rest : List (S × ℕ × Entries T S)) (f : Entries T S) (items : List T) : Type 0 where
    pub items_is : items_in e ≡ items
    pub children : IsChildList empty joined summary (IsLawful empty joined summary (height - 1)) 6 rest
    pub lawful : IsLawful empty joined summary (height - 1) f
    pub wide : 6 ≤ width (contents f)
    pub count : length rest + 1 ≡ width (contents e)
    pub room : length rest ≤ 11

  -- One or two lawful nodes of this height, each with at least `least` entries.
  pub record IsPacked (height : ℕ) (least : ℕ) (items : List T) (pieces : List (S × ℕ × Entries T S)) : Type 0 where
    pub children : IsChildList empty joined summary (IsLawful empty joined summary height) least pieces
    pub both : 2 ≤ length pieces → IsChildList empty joined summary (IsLawful empty joined summary height) 6 pieces
    pub some : 1 ≤ length pieces
    pub few : length pieces ≤ 2
    pub items_is : items_under pieces ≡ items

  -- One or two lawful nodes of the larger height, from two trees. `children` bounds their width from below by whatever
  -- the wider root's width allows, up to 6.
  pub record IsMelded (lh : ℕ) (le : Entries T S) (rh : ℕ) (re : Entries T S) (pieces : List (S × ℕ × Entries T S)) : Type 0 where
    pub children : (least : ℕ) → least ≤ 6 → (rh < lh → least ≤ width (contents le)) → (lh < rh → least ≤ width (contents re)) → (lh ≡ rh → least ≤ width (contents le) + width (contents re)) → IsChildList empty joined summary (IsLawful empty joined summary (max lh rh)) least pieces
    pub both : 2 ≤ length pieces → IsChildList empty joined summary (IsLawful empty joined summary (max lh rh)) 6 pieces
    pub some : 1 ≤ length pieces
    pub few : length pieces ≤ 2
    pub items_is : items_under pieces ≡ items_in le ++ items_in re

  -- One node that can be a root, or at most twelve that can be below one.
  pub record IsRaisable (height : ℕ) (pieces : List (S × ℕ × Entries T S)) : Type 0 where
    pub children : (least : ℕ) → least ≤ 2 → (height ≡ 0 → least ≡ 0) → IsChildList empty joined summary (IsLawful empty joined summary height) least pieces
    pub both : 2 ≤ length pieces → IsChildList empty joined summary (IsLawful empty joined summary height) 6 pieces
    pub some : 1 ≤ length pieces
    pub few : length pieces ≤ 12

  -- The entries e of a lawful inner node of this height are `before`, a child that holds f, and `after`. The place `at`
  -- lies below f or at its end.
  pub record IsCut (height : ℕ) (e : Entries T S) (before : List (S × ℕ × Entries T S)) (f : Entries T S) (after : List (S × ℕ × Entries T S)) (at offset : ℕ) : Type 0 where
    pub items_is : items_in e ≡ items_under before ++ (items_in f ++ items_under after)
    pub before_children : IsChildList empty joined summary (IsLawful empty joined summary (height - 1)) 6 before
    pub after_children : IsChildList empty joined summary (IsLawful empty joined summary (height - 1)) 6 after
    pub lawful : IsLawful empty joined summary (height - 1) f
    pub wide : 6 ≤ width (contents f)
    pub room : length before + length after ≤ 11
    pub offset_is : offset ≡ length (items_under before)
    pub low : offset ≤ at
    pub high : at ≤ offset + length (items_in f)
