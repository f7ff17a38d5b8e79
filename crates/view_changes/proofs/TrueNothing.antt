-- Nothing is replaced where all rows stay.
use Rattle.std.proofs.Common.{◌≡◌, List, refl, sym, subst, arith}
use Rattle.row_pieces.specs.declared.row_change.RowChange.{RowChange}
use Rattle.row_pieces.specs.Changed.{IsTrue, RowLook, no_change}

pub true-nothing : (rows : RowChange) (xs : List RowLook) → rows ≡ no_change → IsTrue rows xs xs
true-nothing rows xs e =
    subst (λ (c : RowChange). IsTrue c xs xs) (sym e) (record {
      order = omega arith;
      within_old = omega arith;
      within_new = omega arith;
      before = refl;
      after = refl;
    })
