use Rattle.std.proofs.Common.{◌≡◌, ◌-◌, ◌<◌, ◌≤◌, ◌∙◌, ap, sym, refl, subst, arith, map, length, is_ok, le_trans, le-add_right}
use Rattle.std.proofs.lemmas.List.{length-map}
use Rattle.sum_core.specs.declared.node.Entries as entries
use Rattle.sum_core.specs.declared.node.Entries.TheVariants.{Inner}
use Rattle.sum_core.specs.Nodes.{IsLawful, entries_of, contents, width, inner, child_value, items_in, items_of}
use Rattle.sum_core.proofs.Levels.{contents-Inner, items-seen, lawful_below, inner-high}
use Rattle.sum_core.proofs.Children.{children-at}
use Rattle.sum_tree.specs.inside.InPlace.{IsNode, IsRefilled}
use Rattle.sum_tree.specs.inside.Nodes.{AreChildren, items_below}
use Rattle.sum_tree.proofs.Puts.{IsPlaced, in-vain, in-vain-then, below-child, can-below, can-same, refilled-same, refilled-below, items-two, length-splice, children-set, children-two, node-same, node-inner, same-items}
use Rattle.sum_tree.proofs.in_place.+put.Goals as goal

pub put_below-takes_two-requires-clause-leaf : goal.put_below-takes_two-requires-clause-leaf
put_below-takes_two-requires-clause-leaf g t c =
    let m = g.T.Sum.Summary in
    let xs = c.args.children.now.items in
    let i = c.find_child-found.result.0 in
    let lt = subst (λ l. i < length l) c.deref.ensures.value c.find_child-found.ensures.index in
    let leaves = subst (λ h. AreChildren g.T.Item m h xs) c.if-below-eq0.true c.requires.children in
    children-at m.empty m.joined g.T.Item.summary (IsLawful m.empty m.joined g.T.Item.summary 0) 6 xs i c.index-child.result.now lt c.index-child.ensures leaves

pub put_below-takes_two-requires-clause-within : goal.put_below-takes_two-requires-clause-within
put_below-takes_two-requires-clause-within g t c =
    let xs = c.args.children.now.items in
    let f = c.find_child-found.ensures in
    let i = c.find_child-found.result.0 in
    let o = c.find_child-found.result.1 in
    let p : IsPlaced xs i o c.args.span.to = subst (λ l. IsPlaced l i o c.args.span.to) c.deref.ensures.value (record { index = f.index; offset_is = f.offset; low = f.low; high = f.high }) in
    (below-child xs i c.args.span.from c.args.span.to o c.index-child.result.now c.args.items.now.items p c.index-child.ensures (omega arith) c.requires.can.order).within

pub put_below-refill_in_two-requires-clause-leaf : goal.put_below-refill_in_two-requires-clause-leaf
put_below-refill_in_two-requires-clause-leaf g t c =
    let m = g.T.Sum.Summary in
    let xs = c.args.children.now.items in
    let i = c.find_child-found.result.0 in
    let lt = subst (λ l. i < length l) c.deref.ensures.value c.find_child-found.ensures.index in
    let leaves = subst (λ h. AreChildren g.T.Item m h xs) c.if-below-eq0.true c.requires.children in
    (children-at m.empty m.joined g.T.Item.summary (IsLawful m.empty m.joined g.T.Item.summary 0) 6 xs i c.index-child.result.now lt c.index-child.ensures leaves).below

pub put_below-refill_in_two-requires-clause-can : goal.put_below-refill_in_two-requires-clause-can
put_below-refill_in_two-requires-clause-can g t c =
    let xs = c.args.children.now.items in
    let f = c.find_child-found.ensures in
    let i = c.find_child-found.result.0 in
    let o = c.find_child-found.result.1 in
    let p : IsPlaced xs i o c.args.span.to = subst (λ l. IsPlaced l i o c.args.span.to) c.deref.ensures.value (record { index = f.index; offset_is = f.offset; low = f.low; high = f.high }) in
    can-below g.T.Item g.T.Sum.Summary g.met.T.Sum.Summary.laws xs i o c.args.span c.index-child.result.now c.args.items.now.items p c.index-child.ensures (omega arith) c.requires.can

pub put_below-refill_in_two-requires-clause-enough : goal.put_below-refill_in_two-requires-clause-enough
put_below-refill_in_two-requires-clause-enough g t c =
    let xs = c.args.children.now.items in
    let k = c.index-child.result.now in
    let f = c.find_child-found.ensures in
    let i = c.find_child-found.result.0 in
    let o = c.find_child-found.result.1 in
    let p : IsPlaced xs i o c.args.span.to = subst (λ l. IsPlaced l i o c.args.span.to) c.deref.ensures.value (record { index = f.index; offset_is = f.offset; low = f.low; high = f.high }) in
    let b = below-child xs i c.args.span.from c.args.span.to o k c.args.items.now.items p c.index-child.ensures (omega arith) c.requires.can.order in
    let n = length-splice (items_of k.node) (c.args.span.from - o) (c.args.span.to - o) c.args.items.now.items (omega (arith, c.requires.can.order)) b.within in
    omega (arith, n, (c.if-takes_two.ensures.0 refl).0, c.len-then-len-lt-MOST.ensures)

pub put_below-refill_in_two-requires-clause-room : goal.put_below-refill_in_two-requires-clause-room
put_below-refill_in_two-requires-clause-room g t c =
    let xs = c.args.children.now.items in
    let k = c.index-child.result.now in
    let f = c.find_child-found.ensures in
    let i = c.find_child-found.result.0 in
    let o = c.find_child-found.result.1 in
    let p : IsPlaced xs i o c.args.span.to = subst (λ l. IsPlaced l i o c.args.span.to) c.deref.ensures.value (record { index = f.index; offset_is = f.offset; low = f.low; high = f.high }) in
    let b = below-child xs i c.args.span.from c.args.span.to o k c.args.items.now.items p c.index-child.ensures (omega arith) c.requires.can.order in
    let n = length-splice (items_of k.node) (c.args.span.from - o) (c.args.span.to - o) c.args.items.now.items (omega (arith, c.requires.can.order)) b.within in
    omega (arith, n, (c.if-takes_two.ensures.0 refl).1, c.len-then-len-lt-MOST.ensures)

pub put_below-put_in_child-requires : goal.put_below-put_in_child-requires
put_below-put_in_child-requires g t c κs within =
    let m = g.T.Sum.Summary in
    let xs = c.args.children.now.items in
    let f = c.find_child-found.ensures in
    let i = c.find_child-found.result.0 in
    let o = c.find_child-found.result.1 in
    let k = c.index_mut.result.now in
    let p : IsPlaced xs i o c.args.span.to = subst (λ l. IsPlaced l i o c.args.span.to) c.deref.ensures.value (record { index = f.index; offset_is = f.offset; low = f.low; high = f.high }) in (
      omega arith,
      (
        within.0,
        (
          within.1,
          (
            children-at m.empty m.joined g.T.Item.summary (IsLawful m.empty m.joined g.T.Item.summary c.args.below) 6 xs i k p.index c.index_mut.ensures.value c.requires.children,
            can-below g.T.Item m g.met.T.Sum.Summary.laws xs i o c.args.span k c.args.items.now.items p c.index_mut.ensures.value (omega arith) c.requires.can,
          ),
        ),
      ),
    )

pub put_below-returns-in_ok-replace_by_two-clause-children : goal.put_below-returns-in_ok-replace_by_two-clause-children
put_below-returns-in_ok-replace_by_two-clause-children g t c =
    let m = g.T.Sum.Summary in
    let xs = c.args.children.now.items in
    let i = c.find_child-found.result.0 in
    let l = c.in_ok-left.left in
    let r = c.in_ok-left.right in
    let lt = subst (λ l. i < length l) c.deref.ensures.value c.find_child-found.ensures.index in
    let leaves = subst (λ h. AreChildren g.T.Item m h xs) c.if-below-eq0.true c.requires.children in
    subst (λ h. AreChildren g.T.Item m h c.replace_by_two.new.children.items) (sym c.if-below-eq0.true)
    (subst (AreChildren g.T.Item m 0) (sym c.in_ok-replace_by_two.ensures.ok)
    (children-two g.T.Item m 0 xs i l r lt c.in_ok-left.ensures.left c.in_ok-left.ensures.right leaves))

pub put_below-returns-in_ok-replace_by_two-clause-put : goal.put_below-returns-in_ok-replace_by_two-clause-put
put_below-returns-in_ok-replace_by_two-clause-put g t c =
    let xs = c.args.children.now.items in
    let f = c.find_child-found.ensures in
    let i = c.find_child-found.result.0 in
    let o = c.find_child-found.result.1 in
    let p : IsPlaced xs i o c.args.span.to = subst (λ l. IsPlaced l i o c.args.span.to) c.deref.ensures.value (record { index = f.index; offset_is = f.offset; low = f.low; high = f.high }) in
    ap items_below c.in_ok-replace_by_two.ensures.ok
    ∙ items-two xs i o c.args.span c.args.items.now.items c.index-child.result.now c.in_ok-left.left c.in_ok-left.right p c.index-child.ensures (omega arith) c.requires.can.order c.in_ok-left.ensures.items

pub put_below-returns-else-below-eq0-clause-children : goal.put_below-returns-else-below-eq0-clause-children
put_below-returns-else-below-eq0-clause-children g t c =
    let i = c.find_child-found.result.0 in
    let lt = subst (λ l. i < length l) c.deref.ensures.value c.find_child-found.ensures.index in
    children-set g.T.Item g.T.Sum.Summary c.args.below c.args.children.now.items i c.put_in_child.new.child lt c.put_in_child.ensures.child c.requires.children

pub put_below-returns-else-below-eq0-clause-put : goal.put_below-returns-else-below-eq0-clause-put
put_below-returns-else-below-eq0-clause-put g t c =
    let xs = c.args.children.now.items in
    let f = c.find_child-found.ensures in
    let i = c.find_child-found.result.0 in
    let o = c.find_child-found.result.1 in
    let p : IsPlaced xs i o c.args.span.to = subst (λ l. IsPlaced l i o c.args.span.to) c.deref.ensures.value (record { index = f.index; offset_is = f.offset; low = f.low; high = f.high }) in
    refilled-below xs i o c.args.span c.args.items.now c.put_in_child.new.items c.index_mut.result.now c.put_in_child.new.child c.put_in_child.result p c.index_mut.ensures.value (omega arith) c.requires.can.order c.put_in_child.ensures.put

pub put_in_node-put_in_entries-requires : goal.put_in_node-put_in_entries-requires
put_in_node-put_in_entries-requires g t c κs within =
    let e = c.in-Ok.entries.now in
    let n = entries_of c.args.node.now in
    let same : contents n ≡ contents e = sym c.in-Ok.ensures.value in (
      omega arith,
      (
        within.0,
        (
          within.1,
          (
            node-same g.T.Item g.T.Sum.Summary c.args.height c.args.least n e same c.requires.node,
            can-same g.T.Item g.T.Sum.Summary (items_in n) (items_in e) c.args.span c.args.items.now.items (same-items n e same) c.requires.can,
          ),
        ),
      ),
    )

pub put_in_node-returns-in-Ok-clause-node : goal.put_in_node-returns-in-Ok-clause-node
put_in_node-returns-in-Ok-clause-node g t c =
    let w = c.put_in_entries.new.entries in
    let held : w ≡ entries_of (c.alter.follows.lender w) = sym (c.alter.follows.holds w (ap is_ok c.in-Ok.is)) in
    subst (λ e. IsNode g.T.Item g.T.Sum.Summary c.args.height c.args.least e) held c.put_in_entries.ensures.node

pub put_in_node-returns-in-Ok-clause-put : goal.put_in_node-returns-in-Ok-clause-put
put_in_node-returns-in-Ok-clause-put g t c =
    let w = c.put_in_entries.new.entries in
    let held : w ≡ entries_of (c.alter.follows.lender w) = sym (c.alter.follows.holds w (ap is_ok c.in-Ok.is)) in
    let e = c.in-Ok.entries.now in
    let n = entries_of c.args.node.now in
    refilled-same g.T.Item g.T.Sum.Summary (items_in e) (items_in n) c.args.span c.args.items.now c.put_in_entries.new.items (items_in w) _ c.put_in_entries.result (same-items e n c.in-Ok.ensures.value) (ap items_in held) c.put_in_entries.ensures.put

pub put_in_node-returns-in-Err-clause-node : goal.put_in_node-returns-in-Err-clause-node
put_in_node-returns-in-Err-clause-node g t c =
    let same = rw c.in-Err.is at c.alter.follows.holds-at-none in
    node-same g.T.Item g.T.Sum.Summary c.args.height c.args.least (entries_of c.args.node.now) (entries_of c.alter.follows.lender-at-none) (sym same) c.requires.node

pub put_in_node-returns-in-Err-clause-put : goal.put_in_node-returns-in-Err-clause-put
put_in_node-returns-in-Err-clause-put g t c =
    let same = rw c.in-Err.is at c.alter.follows.holds-at-none in
    (same-items (entries_of c.alter.follows.lender-at-none) (entries_of c.args.node.now) same, tt)

pub put_in_entries-put_in_children-requires : goal.put_in_entries-put_in_children-requires
put_in_entries-put_in_children-requires g t c κs within =
    let m = g.T.Sum.Summary in
    let e = c.args.entries.now in
    let xs = c.in-Inner.children.items in
    let is : contents e ≡ inner (map child_value xs) = ap contents c.in-Inner.is ∙ contents-Inner c.in-Inner.children in
    let high = inner-high m.empty m.joined g.T.Item.summary c.args.height e (map child_value xs) c.requires.node.lawful is in
    let below = lawful_below m.empty m.joined g.T.Item.summary c.args.height e (map child_value xs) c.requires.node.lawful is in
    rw c.in-Inner.children-is (
      omega (arith, high),
      (
        within.0,
        (
          within.1,
          (
            high,
            (
              omega (arith, c.requires.node.some high, c.requires.node.wide, ap width is, length-map xs child_value),
              (
                omega (arith, below.0, length-map xs child_value),
                (
                  below.1,
                  can-same g.T.Item m (items_in e) (items_below xs) c.args.span c.args.items.now.items (items-seen e (map child_value xs) is) c.requires.can,
                ),
              ),
            ),
          ),
        ),
      ),
    )

-- What was lent of the entries is seen in them again where the checker's own way to read a recursive type is unfolded.
pub put_in_entries-returns-in-Inner-clause-node : goal.put_in_entries-returns-in-Inner-clause-node
unfolding entries.out-Entries denote.Hole.Carrier.out
put_in_entries-returns-in-Inner-clause-node g t c =
    let m = g.T.Sum.Summary in
    let e = c.args.entries.now in
    let xs = c.in-Inner.children.items in
    let ys = c.put_in_children.new.children in
    let is : contents e ≡ inner (map child_value xs) = ap contents c.in-Inner.is ∙ contents-Inner c.in-Inner.children in
    let high = inner-high m.empty m.joined g.T.Item.summary c.args.height e (map child_value xs) c.requires.node.lawful is in
    let more : length xs ≤ length ys.items = subst (λ v. length v.items ≤ length ys.items) c.in-Inner.children-is c.put_in_children.ensures.more in
    rw c.in-Inner.is (node-inner g.T.Item m c.args.height c.args.least e (Inner ys) xs ys.items high c.requires.node is (contents-Inner ys) more c.put_in_children.ensures.room c.put_in_children.ensures.children)

pub put_in_entries-returns-in-Inner-clause-put : goal.put_in_entries-returns-in-Inner-clause-put
unfolding entries.out-Entries denote.Hole.Carrier.out
put_in_entries-returns-in-Inner-clause-put g t c =
    let old = c.in-Inner.children in
    let new = c.put_in_children.new.children in
    let put = subst (λ v. IsRefilled g.T.Item g.T.Sum.Summary (items_below v.items) c.args.span c.args.items.now c.put_in_children.new.items (items_below new.items) c.put_in_children.result) c.in-Inner.children-is c.put_in_children.ensures.put in
    rw c.in-Inner.is
    (refilled-same g.T.Item g.T.Sum.Summary (items_below old.items) (items_in (Inner old)) c.args.span c.args.items.now c.put_in_children.new.items (items_below new.items) (items_in (Inner new)) c.put_in_children.result
    (sym (items-seen (Inner old) (map child_value old.items) (contents-Inner old))) (sym (items-seen (Inner new) (map child_value new.items) (contents-Inner new))) put)

pub put_in_node-returns-in-Ok-clause-counted : goal.put_in_node-returns-in-Ok-clause-counted
put_in_node-returns-in-Ok-clause-counted g t c = le_trans c.in-Ok.ensures.counted c.put_in_entries.ensures.counted

pub put_in_node-returns-in-Ok-clause-steps : goal.put_in_node-returns-in-Ok-clause-steps
put_in_node-returns-in-Ok-clause-steps g t c = omega (arith, c.in-Ok.ensures.ticks, c.put_in_entries.ensures.steps)

pub put_in_node-returns-in-Ok-clause-in_vain : goal.put_in_node-returns-in-Ok-clause-in_vain
put_in_node-returns-in-Ok-clause-in_vain g t c =
    in-vain-then c.put_in_entries.result (λ few. omega (arith, few, c.in-Ok.ensures.ticks)) c.put_in_entries.ensures.in_vain

pub put_in_entries-returns-in-Leaf-clause-in_vain : goal.put_in_entries-returns-in-Leaf-clause-in_vain
put_in_entries-returns-in-Leaf-clause-in_vain g t c = in-vain c.put_in_leaf.result (le-add_right _ _)

pub put_in_children-returns-in_err-put_below-clause-steps : goal.put_in_children-returns-in_err-put_below-clause-steps
put_in_children-returns-in_err-put_below-clause-steps g t c = omega (arith, c.requires.is_inner, c.in_err-put_below.ensures.steps)

pub put_in_children-returns-clause-steps : goal.put_in_children-returns-clause-steps
put_in_children-returns-clause-steps g t c = omega (arith, c.requires.is_inner, c.in_ok-put_below.ensures.steps)

pub put_below-returns-in_err-left-clause-steps : goal.put_below-returns-in_err-left-clause-steps
put_below-returns-in_err-left-clause-steps g t c = omega (arith, c.in_err-left.ensures.steps)

pub put_below-returns-in_err-replace_by_two-clause-steps : goal.put_below-returns-in_err-replace_by_two-clause-steps
put_below-returns-in_err-replace_by_two-clause-steps g t c = omega (arith, c.in_ok-left.ensures.steps)

pub put_below-returns-in_ok-replace_by_two-clause-steps : goal.put_below-returns-in_ok-replace_by_two-clause-steps
put_below-returns-in_ok-replace_by_two-clause-steps g t c = omega (arith, c.in_ok-left.ensures.steps)

pub put_below-returns-else-below-eq0-clause-counted : goal.put_below-returns-else-below-eq0-clause-counted
put_below-returns-else-below-eq0-clause-counted g t c = c.put_in_child.ensures.counted

pub put_below-returns-else-below-eq0-clause-steps : goal.put_below-returns-else-below-eq0-clause-steps
put_below-returns-else-below-eq0-clause-steps g t c = c.put_in_child.ensures.steps

pub put_below-returns-else-below-eq0-clause-in_vain : goal.put_below-returns-else-below-eq0-clause-in_vain
put_below-returns-else-below-eq0-clause-in_vain g t c = c.put_in_child.ensures.in_vain
