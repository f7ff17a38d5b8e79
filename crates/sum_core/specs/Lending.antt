-- How a node lends its entries for writing.
use Rattle.std.specs.Prelude.{◌≡◌, Result}
use Rattle.std.specs.Borrow.{LendsSoOk, MutBor, Fml}
use denote.RattleType.{RattleType}
use Rattle.sum_core.specs.Nodes.{entries_of, contents}
use Rattle.sum_core.specs.declared.node.Node.{Node}
use Rattle.sum_core.specs.declared.node.Entries.{Entries}
use Rattle.sum_core.specs.contracts.node.Node.{the_row}
use Rattle.sum_core.specs.contracts.node.Entries as entries

-- The node n ends with what was written last through the result r, and at `Err` with the contents that it had.
abbrev pub LendsEntries : (T S : RattleType) → MutBor (Node T.Denot S.Denot) → {E : Type 0} → Result (MutBor (Entries T.Denot S.Denot)) E → Fml
LendsEntries T S n r =
    LendsSoOk (the_row T S) (entries.the_row T S) n r (λ m w. entries_of m ≡ w) (λ m. contents (entries_of m) ≡ contents (entries_of n.now))
