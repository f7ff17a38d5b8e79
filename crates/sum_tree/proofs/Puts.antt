-- Items put in the place of others, below a node.
use Rattle.std.proofs.Common.{◌≡◌, ℕ, zero, suc, ◌+◌, ◌-◌, ◌<◌, ◌≤◌, List, [], ◌∷◌, ◌++◌, map, length, take, drop, get_or, set, ap, ◌∙◌, subst, sym, refl, arith, append_assoc, Result, Ok, Err}
use Rattle.std.proofs.lemmas.List.{length-map, length-append, length-drop, length-take-le, map-append, map-set, take-map, drop-map, take-set, drop-set, take-append-drop, take-append-le, drop_at}
use Rattle.std.specs.List.{splice, insert}
use Rattle.sum_core.specs.Sums.{SummaryLaws}
use Rattle.sum_core.specs.Nodes.{IsLawful, IsLawfulLeaf, IsLawfulInner, IsChildList, inner, contents, width, contents_items, child_value, items_in, items_under}
use Rattle.sum_core.specs.declared.node.Child.{Child}
use Rattle.sum_core.specs.declared.node.Entries.{Entries}
use Rattle.sum_core.specs.declared.summary.Item.{Ghosts as Items}
use Rattle.sum_core.specs.declared.summary.Summary.{Ghosts as Sums}
use Rattle.sum_core.proofs.Items.{items-contents}
use Rattle.sum_core.proofs.Levels.{lawful_above}
use Rattle.sum_core.proofs.Children.{children-append, children-take, children-drop, children-one, items_under-append, items-split, items-taken, cut-middle, fits-left, fits-right}
use Rattle.std.specs.declared.alloc.Global.{Global}
use Rattle.std.specs.declared.vec.Vec.{Vec}
use Rattle.sum_tree.specs.declared.in_place.PutError.{PutError}
use Rattle.sum_tree.specs.declared.in_place.PutError.TheVariants.{NoRoom, NoMemory}
use Rattle.sum_tree.specs.declared.in_place.Span.{Span}
use Rattle.sum_tree.specs.inside.InPlace.{CanRefill, IfNoRoom, IsNode, IsRefilled, IsRefilledAlone, refilled}
use Rattle.sum_tree.specs.inside.Nodes.{AreChildren, IsChildAt, items_below}
use Rattle.sum_tree.proofs.Melds.{small-left, small-right}

-- items put within the middle part of a list
pub splice-middle : {X : Type 0} (all B F A : List X) (from to offset : ℕ) (new : List X) → all ≡ B ++ (F ++ A) → offset ≡ length B → offset ≤ from → from ≤ to → to ≤ offset + length F → splice all from to new ≡ B ++ (splice F (from - offset) (to - offset) new ++ A)
splice-middle all B F A from to offset new e oe low order high =
    let front = (cut-middle all B F A from offset e oe low (omega arith)).0 in
    let back = (cut-middle all B F A to offset e oe (omega arith) high).1 in
    let f = take (from - offset) F in
    let b = drop (to - offset) F in
    ap (λ l. l ++ (new ++ drop to all)) front
    ∙ ap (λ l. (B ++ f) ++ (new ++ l)) back
    ∙ append_assoc B f (new ++ (b ++ A))
    ∙ ap (λ l. B ++ (f ++ l)) (sym (append_assoc new b A))
    ∙ ap (λ l. B ++ l) (sym (append_assoc f (new ++ b) A))

-- an element written at its place
pub set-apart : {X : Type 0} (xs : List X) (i : ℕ) (y : X) → i < length xs → set xs i y ≡ take i xs ++ (y ∷ drop (i + 1) xs)
set-apart xs i y lt =
    sym (take-append-drop i (set xs i y))
    ∙ ap (λ l. l ++ drop i (set xs i y)) (take-set xs i y)
    ∙ ap (λ l. take i xs ++ l) (drop-set xs i y lt)

-- one element more after it, and another one in its place
pub set-insert : {X : Type 0} (xs : List X) (i : ℕ) (x y : X) → i < length xs → set (insert xs (i + 1) y) i x ≡ take i xs ++ (x ∷ y ∷ drop (i + 1) xs)
set-insert xs i x y lt =
    let front = take (i + 1) xs in
    let all = front ++ (y ∷ drop (i + 1) xs) in
    let n : length front ≡ i + 1 = length-take-le (i + 1) xs (omega (arith, lt)) in
    let within : i < length all = omega (arith, n, length-append front (y ∷ drop (i + 1) xs)) in
    let same : take i front ≡ take i xs = sym (take-append-le i front (drop (i + 1) xs) (omega (arith, n))) ∙ ap (take i) (take-append-drop (i + 1) xs) in
    set-apart all i x within
    ∙ ap (λ l. l ++ (x ∷ drop (i + 1) all)) (take-append-le i front (y ∷ drop (i + 1) xs) (omega (arith, n)) ∙ same)
    ∙ ap (λ l. take i xs ++ (x ∷ l)) (drop_at front (y ∷ drop (i + 1) xs) (i + 1) n)

-- how many there are then
pub length-splice : {X : Type 0} (xs : List X) (from to : ℕ) (new : List X) → from ≤ to → to ≤ length xs → length (splice xs from to new) ≡ length xs - (to - from) + length new
length-splice xs from to new order within =
    omega (arith, length-append (take from xs) (new ++ drop to xs), length-append new (drop to xs), length-take-le from xs (omega (arith, order, within)), length-drop to xs, order, within)

-- what follows from what holds where there is no room
pub in-vain-then : {V P Q : Type 0} → (r : Result V PutError) → (P → Q) → IfNoRoom r P → IfNoRoom r Q
in-vain-then (Ok _) f p = tt
in-vain-then (Err NoRoom) f p = f p
in-vain-then (Err NoMemory) f p = tt

-- what holds at all
pub in-vain : {V P : Type 0} → (r : Result V PutError) → P → IfNoRoom r P
in-vain (Ok _) p = tt
in-vain (Err NoRoom) p = p
in-vain (Err NoMemory) p = tt

module _ {T S : Type 0} where
  -- Child i of these has `offset` items before it, and the place `to` lies below it or at its end.
  pub record IsPlaced (children : List (Child T S)) (i offset to : ℕ) : Type 0 where
    pub index : i < length children
    pub offset_is : offset ≡ length (items_under (take i (map child_value children)))
    pub low : offset ≤ to
    pub high : to ≤ length (items_under (take (i + 1) (map child_value children)))

  -- The items below the children are those before child k, those below it, and those after it.
  pub record IsBelow (children : List (Child T S)) (i from to offset : ℕ) (k : Child T S) (new : List T) : Type 0 where
    pub split : items_below children ≡ items_under (take i (map child_value children)) ++ (items_in (child_value k).2 ++ items_under (drop (i + 1) (map child_value children)))
    pub splice_is : splice (items_below children) from to new ≡ items_under (take i (map child_value children)) ++ (splice (items_in (child_value k).2) (from - offset) (to - offset) new ++ items_under (drop (i + 1) (map child_value children)))
    pub within : to - offset ≤ length (items_in (child_value k).2)

  pub below-child : (children : List (Child T S)) (i from to offset : ℕ) (k : Child T S) (new : List T) → IsPlaced children i offset to → k ≡ get_or children i k → offset ≤ from → from ≤ to → IsBelow children i from to offset k new
  below-child children i from to offset k new p is low order =
      let cs = map child_value children in
      let split = items-split children i k p.index is in
      let taken = items-taken children i k p.index is in
      let high : to ≤ offset + length (items_in (child_value k).2) = omega (arith, taken, p.offset_is, p.high) in
      record {
        split = split;
        splice_is = splice-middle (items_below children) (items_under (take i cs)) (items_in (child_value k).2) (items_under (drop (i + 1) cs)) from to offset new split p.offset_is low order high;
        within = omega (arith, high);
      }

  -- the children with another one in the place of child i
  pub values-set : (children : List (Child T S)) (i : ℕ) (k : Child T S) → i < length children → map child_value (set children i k) ≡ take i (map child_value children) ++ (child_value k ∷ drop (i + 1) (map child_value children))
  values-set children i k lt =
      map-set child_value children i k ∙ set-apart (map child_value children) i (child_value k) (rw length-map lt)

  items-set : (children : List (Child T S)) (i : ℕ) (k : Child T S) → i < length children → items_below (set children i k) ≡ items_under (take i (map child_value children)) ++ (items_in (child_value k).2 ++ items_under (drop (i + 1) (map child_value children)))
  items-set children i k lt =
      let cs = map child_value children in
      ap items_under (values-set children i k lt) ∙ items_under-append (take i cs) (child_value k ∷ drop (i + 1) cs)

  -- the children with two others in the place of child i
  pub values-two : (children : List (Child T S)) (i : ℕ) (l r : Child T S) → i < length children → map child_value (set (insert children (i + 1) r) i l) ≡ take i (map child_value children) ++ (child_value l ∷ child_value r ∷ drop (i + 1) (map child_value children))
  values-two children i l r lt =
      ap (map child_value) (set-insert children i l r lt)
      ∙ map-append child_value (take i children) (l ∷ r ∷ drop (i + 1) children)
      ∙ ap (λ f. f ++ (child_value l ∷ child_value r ∷ map child_value (drop (i + 1) children))) (sym (take-map child_value i children))
      ∙ ap (λ b. take i (map child_value children) ++ (child_value l ∷ child_value r ∷ b)) (sym (drop-map child_value (i + 1) children))

  pub same-items : (a b : Entries T S) → contents a ≡ contents b → items_in a ≡ items_in b
  same-items a b e = items-contents a ∙ ap contents_items e ∙ sym (items-contents b)

  -- what a write below child i, which then is l, does to the items below the children
  pub items-put : (children : List (Child T S)) (i from to offset : ℕ) (new : List T) (k l : Child T S) → IsPlaced children i offset to → k ≡ get_or children i k → offset ≤ from → from ≤ to → items_in (child_value l).2 ≡ splice (items_in (child_value k).2) (from - offset) (to - offset) new → items_below (set children i l) ≡ splice (items_below children) from to new
  items-put children i from to offset new k l p is low order e =
      let cs = map child_value children in
      items-set children i l p.index
      ∙ ap (λ m. items_under (take i cs) ++ (m ++ items_under (drop (i + 1) cs))) e
      ∙ sym ((below-child children i from to offset k new p is low order).splice_is)

  -- what two others in its place do that hold its items after a write
  pub items-two : (children : List (Child T S)) (i offset : ℕ) (span : Span) (new : List T) (k l r : Child T S) → IsPlaced children i offset span.to → k ≡ get_or children i k → offset ≤ span.from → span.from ≤ span.to → items_in (child_value l).2 ++ items_in (child_value r).2 ≡ splice (items_in (child_value k).2) (span.from - offset) (span.to - offset) new → items_below (set (insert children (i + 1) r) i l) ≡ refilled (items_below children) span new
  items-two children i offset span new k l r p is low order e =
      let cs = map child_value children in
      ap items_under (values-two children i l r p.index)
      ∙ items_under-append (take i cs) (child_value l ∷ child_value r ∷ drop (i + 1) cs)
      ∙ ap (λ m. items_under (take i cs) ++ m) (sym (append_assoc (items_in (child_value l).2) (items_in (child_value r).2) (items_under (drop (i + 1) cs))))
      ∙ ap (λ m. items_under (take i cs) ++ (m ++ items_under (drop (i + 1) cs))) e
      ∙ sym ((below-child children i span.from span.to offset k new p is low order).splice_is)

  pub items-kept : (children : List (Child T S)) (i : ℕ) (k l : Child T S) → i < length children → k ≡ get_or children i k → items_in (child_value l).2 ≡ items_in (child_value k).2 → items_below (set children i l) ≡ items_below children
  items-kept children i k l lt is e =
      let cs = map child_value children in
      items-set children i l lt
      ∙ ap (λ m. items_under (take i cs) ++ (m ++ items_under (drop (i + 1) cs))) e
      ∙ sym (items-split children i k lt is)

  -- what a write below child i, which then is l, leaves below the children
  pub refilled-below : (children : List (Child T S)) (i offset : ℕ) (span : Span) (given left : Vec T Global) (k l : Child T S) (r : Result (Unit {0}) PutError) → IsPlaced children i offset span.to → k ≡ get_or children i k → offset ≤ span.from → span.from ≤ span.to → IsRefilledAlone (items_in (child_value k).2) (record { from = span.from - offset; to = span.to - offset }) given left (items_in (child_value l).2) r → IsRefilledAlone (items_below children) span given left (items_below (set children i l)) r
  refilled-below children i offset span given left k l (Ok x) p is low order m = items-put children i span.from span.to offset given.items k l p is low order m
  refilled-below children i offset span given left k l (Err x) p is low order m = (items-kept children i k l p.index is m.0, m.1)

module _ {T S : Type 0} (items : Items T S) (sums : Sums S) where
  pub children-set : (h : ℕ) (children : List (Child T S)) (i : ℕ) (k : Child T S) → i < length children → IsChildAt items sums h k → AreChildren items sums h children → AreChildren items sums h (set children i k)
  children-set h children i k lt here all =
      let P : Entries T S → Type 0 = IsLawful sums.empty sums.joined items.summary h in
      let cs = map child_value children in
      subst (IsChildList sums.empty sums.joined items.summary P 6) (sym (values-set children i k lt))
      (children-append sums.empty sums.joined items.summary P 6 (take i cs) (child_value k ∷ drop (i + 1) cs) (children-take sums.empty sums.joined items.summary P 6 i cs all)
      (children-append sums.empty sums.joined items.summary P 6 (child_value k ∷ []) (drop (i + 1) cs) (children-one sums.empty sums.joined items.summary P 6 (child_value k) here) (children-drop sums.empty sums.joined items.summary P 6 (i + 1) cs all)))

  pub children-two : (h : ℕ) (children : List (Child T S)) (i : ℕ) (l r : Child T S) → i < length children → IsChildAt items sums h l → IsChildAt items sums h r → AreChildren items sums h children → AreChildren items sums h (set (insert children (i + 1) r) i l)
  children-two h children i l r lt left right all =
      let P : Entries T S → Type 0 = IsLawful sums.empty sums.joined items.summary h in
      let cs = map child_value children in
      let front = children-take sums.empty sums.joined items.summary P 6 i cs all in
      let back = children-drop sums.empty sums.joined items.summary P 6 (i + 1) cs all in
      let one = children-append sums.empty sums.joined items.summary P 6 (child_value r ∷ []) (drop (i + 1) cs) (children-one sums.empty sums.joined items.summary P 6 (child_value r) right) back in
      let two = children-append sums.empty sums.joined items.summary P 6 (child_value l ∷ []) (child_value r ∷ drop (i + 1) cs) (children-one sums.empty sums.joined items.summary P 6 (child_value l) left) one in
      subst (IsChildList sums.empty sums.joined items.summary P 6) (sym (values-two children i l r lt))
      (children-append sums.empty sums.joined items.summary P 6 (take i cs) (child_value l ∷ child_value r ∷ drop (i + 1) cs) front two)

  -- a part in which the span lies
  pub can-below : SummaryLaws sums.empty sums.joined sums.fits → (children : List (Child T S)) (i offset : ℕ) (span : Span) (k : Child T S) (new : List T) → IsPlaced children i offset span.to → k ≡ get_or children i k → offset ≤ span.from → CanRefill items sums (items_below children) span new → CanRefill items sums (items_in (child_value k).2) (record { from = span.from - offset; to = span.to - offset }) new
  can-below laws children i offset span k new p is low c =
      let cs = map child_value children in
      let b = below-child children i span.from span.to offset k new p is low c.order in
      let B = items_under (take i cs) in
      let F = items_in (child_value k).2 in
      let A = items_under (drop (i + 1) cs) in
      let P = splice F (span.from - offset) (span.to - offset) new in
      let rest = small-right 4294967296 (items_below children) B (F ++ A) b.split c.small in
      let put = small-right 4294967296 (splice (items_below children) span.from span.to new) B (P ++ A) b.splice_is c.still_small in
      record {
        order = omega (arith, c.order, low);
        within = b.within;
        small = small-left 4294967296 (F ++ A) F A refl rest;
        still_small = small-left 4294967296 (P ++ A) P A refl put;
        fits = fits-left sums.empty sums.joined sums.fits items.summary laws (P ++ A) P A refl (fits-right sums.empty sums.joined sums.fits items.summary laws _ B (P ++ A) b.splice_is c.fits);
      }

  -- the same of an equal list
  pub can-same : (held same : List T) (span : Span) (new : List T) → held ≡ same → CanRefill items sums held span new → CanRefill items sums same span new
  can-same held same span new e c = subst (λ l. CanRefill items sums l span new) e c

  pub refilled-same : (held same : List T) (span : Span) (given left : Vec T Global) (after now : List T) (r : Result (S × ℕ) PutError) → held ≡ same → after ≡ now → IsRefilled items sums held span given left after r → IsRefilled items sums same span given left now r
  refilled-same held same span given left after now r e f m =
      subst (λ l. IsRefilled items sums l span given left now r) e (subst (λ l. IsRefilled items sums held span given left l r) f m)

  same-lawful : (h : ℕ) (a b : Entries T S) → contents a ≡ contents b → IsLawful sums.empty sums.joined items.summary h a → IsLawful sums.empty sums.joined items.summary h b
  same-lawful zero a b e l = subst (IsLawfulLeaf sums.empty sums.joined items.summary) e l
  same-lawful (suc h) a b e l = subst (IsLawfulInner sums.empty sums.joined items.summary (IsLawful sums.empty sums.joined items.summary h)) e l

  -- the entries with other addresses
  pub node-same : (h least : ℕ) (a b : Entries T S) → contents a ≡ contents b → IsNode items sums h least a → IsNode items sums h least b
  node-same h least a b e n = record { lawful = same-lawful h a b e n.lawful; wide = omega (arith, n.wide, ap width e); some = n.some }

  -- as many other children or more in the place of a node's
  pub node-inner : (h least : ℕ) (e f : Entries T S) (cs ds : List (Child T S)) → 1 ≤ h → IsNode items sums h least e → contents e ≡ inner (map child_value cs) → contents f ≡ inner (map child_value ds) → length cs ≤ length ds → length ds ≤ 12 → AreChildren items sums (h - 1) ds → IsNode items sums h least f
  node-inner h least e f cs ds high n is to more room all =
      let before = length-map cs child_value in
      let after = length-map ds child_value in
      record {
        lawful = lawful_above sums.empty sums.joined items.summary h f (map child_value ds) high to (omega (arith, after, room)) all;
        wide = omega (arith, ap width to, ap width is, before, after, more, n.wide);
        some = n.some;
      }
