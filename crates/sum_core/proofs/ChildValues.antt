-- What a child shows, once made.
use Rattle.std.proofs.Common.{◌≡◌, ap, ◌∙◌}
use Rattle.sum_core.specs.Nodes.{entries_of, child_value}
use Rattle.sum_core.specs.declared.node.Node.{Node}
use Rattle.sum_core.specs.declared.node.Entries.{Entries}
use Rattle.sum_core.specs.declared.node.Entries.TheOpen.{Child-F}
use Rattle.sum_core.specs.declared.node.Child.{Child, out-Child, roll-Child, out-roll-Child}

module _ {T S : Type 0} where
  pub value-roll : (r : Child-F T S (Entries T S) (Child T S) (Node T S)) → child_value (roll-Child T S r) ≡ (r.sum, r.count, entries_of r.node)
  value-roll r = ap (λ k. (k.sum, k.count, entries_of k.node)) (out-roll-Child T S r)

  -- a copy of a child whose node holds the same shows the same
  pub value-copy : (k : Child T S) (m : Node T S) → entries_of m ≡ entries_of (out-Child T S k).node → child_value (roll-Child T S (record { sum = (out-Child T S k).sum; count = (out-Child T S k).count; node = m })) ≡ child_value k
  value-copy k m same = value-roll (record { sum = (out-Child T S k).sum; count = (out-Child T S k).count; node = m }) ∙ ap (λ e. ((out-Child T S k).sum, (out-Child T S k).count, e)) same
