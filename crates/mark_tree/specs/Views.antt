-- What things at offsets are seen as.
use Rattle.std.specs.Prelude.{◌≡◌, List}
use Rattle.std.specs.List.{All}
use Rattle.mark_tree.specs.declared.entry.Placed.{Placed}
use Rattle.mark_tree.specs.declared.mark.Mark.{Mark}
use Rattle.mark_tree.specs.Order.{IsOrdered}

module _ {P : Type 0} where
  abbrev pub mark_of : Placed P → Mark P
  mark_of p = record { offset = p.offset; bias = p.bias; id = p.id; load = p.load }

  -- what a tree of marks keeps: things of no length, in order
  pub record AreMarks (ps : List (Placed P)) : Type 0 where
    pub flat : All (λ p. p.length ≡ 0) ps
    pub ordered : IsOrdered ps
