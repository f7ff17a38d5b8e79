-- What is so of the views of a split after a call.
use Rattle.std.proofs.Common.{◌≡◌, ◌≤◌, List, [], ◌∷◌, length, Result, Ok, Err, sym, subst, arith}
use Rattle.std.specs.Prelude.{OnErr, OnOk}
use Rattle.display_sheet.specs.declared.change.Op.{Op}
use Rattle.display_sheet.specs.declared.change.Op.TheVariants.{Block, Fold, Inlay, Replace, Tab, Unblock, Unfold, Uninlay, Width}
use Rattle.display_sheet.specs.Changes.{One, operation_of, operations_in, splice_of}
use Rattle.display_map.specs.Replay.{History}
use Rattle.display_map.proofs.DidEvents.{batch-le-length}

-- what holds of the histories that a call makes, and of those before it, holds after it
pub after : {A E : Type 0} (P : List History → Type 0) (r : Result A E) (old new made : List History) → OnOk r (new ≡ made) → OnErr r (new ≡ old) → P made → P old → P new
after P (Ok x) old new made is none p q = subst P (sym is) p
after P (Err e) old new made none is p q = subst P (sym is) q

-- an operation is at most one
pub one_at_most : (op : Op) → length (operations_in (One (operation_of op))) ≤ 1
one_at_most (Replace s) = batch-le-length (splice_of s.start s.end s.text ∷ [])
one_at_most (Inlay id offset bias text) = omega arith
one_at_most (Uninlay id) = omega arith
one_at_most (Fold id start end) = omega arith
one_at_most (Unfold id) = omega arith
one_at_most (Block id side row lines) = omega arith
one_at_most (Unblock id) = omega arith
one_at_most (Tab size) = omega arith
one_at_most (Width cells) = omega arith
