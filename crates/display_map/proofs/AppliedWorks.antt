-- The one operation of a change takes the steps of what does it.
use Rattle.std.proofs.Common.{◌≡◌, ℕ, cond, Bool, true, false, List, [], ◌∷◌, length, map, refl, sym, ap, subst, ◌∙◌, arith}
use Rattle.std.specs.Prelude.{reverse}
use Rattle.cell_units.specs.Operation.{Operation}
use Rattle.cell_units.specs.Record.{Record}
use Rattle.plain_rows.specs.Reach.{WorksAtMost}
use Rattle.display_sheet.specs.Changes.{One, batch, is_operation, is_replacement, operation_of, operations_in, replacement}
use Rattle.display_sheet.specs.declared.change.Op.{Op}
use Rattle.display_sheet.specs.declared.change.Op.TheVariants.{Block, Fold, Inlay, Replace, Tab, Unblock, Unfold, Uninlay, Width}
use Rattle.display_sheet.specs.declared.change.Splice.{Splice}

one-entry : (splices : List Splice) → length splices ≡ 1 → (splice : Splice) × (splices ≡ splice ∷ [])
one-entry [] one = absurd (omega (arith, one))
one-entry (s ∷ []) one = (s, refl)
one-entry (s ∷ t ∷ splices) one = absurd (omega (arith, one))

-- the one operation of an entry is its replacement
one-replaced : (splice : Splice) (operation : Operation) → batch (splice ∷ []) ≡ operation ∷ [] → replacement splice ≡ operation
one-replaced splice operation is = go (is_operation splice) is where
  go : (c : Bool) → map replacement (reverse (cond c (splice ∷ []) [])) ≡ operation ∷ [] → replacement splice ≡ operation
  go true is = cc
  go false is = absurd (cc)

-- an operation that isn't a replacement is the one of its change
pub ops-other : (op : Op) → is_replacement op ≡ false → operations_in (One (operation_of op)) ≡ operation_of op ∷ []
ops-other (Replace s) other = absurd (cc)
ops-other (Inlay id offset bias text) other = refl
ops-other (Uninlay id) other = refl
ops-other (Fold id start end) other = refl
ops-other (Unfold id) other = refl
ops-other (Block id side row lines) other = refl
ops-other (Unblock id) other = refl
ops-other (Tab size) other = refl
ops-other (Width cells) other = refl

same-head : (x y : Operation) → x ∷ [] ≡ y ∷ [] → x ≡ y
same-head x y is = cc

module _ (r : Record) (old new : ℕ) where
  abbrev Works : Operation → Type 0
  Works operation = WorksAtMost operation r old new

  -- a batch of one entry
  pub edit-works : (splices : List Splice) → ((splice : Splice) → splices ≡ splice ∷ [] → Works (replacement splice))
      → length splices ≡ 1 → (operation : Operation) → batch splices ≡ operation ∷ [] → Works operation
  edit-works splices took one operation is =
      let entry = one-entry splices one in
      subst Works (one-replaced entry.0 operation (ap batch (sym entry.1) ∙ is)) (took entry.0 entry.1)

  pub splice-works : (splice : Splice) → Works (replacement splice) → (operation : Operation)
      → operations_in (One (operation_of (Replace splice))) ≡ operation ∷ [] → Works operation
  splice-works splice took operation is = subst Works (one-replaced splice operation is) took

  -- an operation that isn't a replacement
  pub other-works : (op : Op) → is_replacement op ≡ false → Works (operation_of op)
      → (operation : Operation) → operations_in (One (operation_of op)) ≡ operation ∷ [] → Works operation
  other-works op other took operation is = subst Works (same-head (operation_of op) operation (sym (ops-other op other) ∙ is)) took
