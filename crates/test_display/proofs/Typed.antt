-- The text `let x = 1` with an inlay is a lawful record.
use Rattle.std.proofs.Common.{◌≡◌, ◌≢◌, ℕ, ◌+◌, ◌<◌, ◌≤◌, Bool, true, false, cond, eqb, [], ◌∷◌, refl, sym, subst, inr, arith}
use lib.Utf8.{encode}
use Rattle.std.specs.Prelude.{codes}
use Rattle.cell_units.specs.declared.place.Bias.TheVariants.{Right}
use Rattle.cell_units.specs.Text.{IsBoundary, carriage_return}
use Rattle.cell_units.specs.Record.{Block, Fold, Inlay, Record, block_le, fold_le, inlay_le}
use Rattle.cell_units.specs.Worked.{folded_record, inlay}
use Rattle.cell_units.specs.Lawful.{AreEntries, IsBlockOf, IsFoldOf, IsInlayOf, IsLawful, IsWidth}
use Rattle.cell_units.proofs.FoundEntries.{All-from_Every}
use Rattle.cell_units.proofs.PlainLayers.{no_entries}
use Rattle.cell_units.proofs.SortedLists.{count-cons}

abbrev pub typed : Record
typed = folded_record (codes "let x = 1") (inlay 5 Right 1 (codes ": i32") ∷ []) []

apart : (b n : ℕ) → n < b → b ≢ n
apart b n h = λ e. omega (arith, h, e)

one_id : (a b : ℕ) → cond (eqb a b) 1 0 + 0 ≤ 1
one_id a b = go (eqb a b) where
  go : (t : Bool) → cond t 1 0 + 0 ≤ 1
  go true = omega arith
  go false = omega arith

one_inlay : (i : Inlay) → IsInlayOf typed.text i → AreEntries inlay_le (λ (j : Inlay). j.id) (IsInlayOf typed.text) (i ∷ [])
one_inlay i fits = record {
  in_order = refl;
  distinct = λ id. omega (arith, count-cons (λ (j : Inlay). eqb j.id id) i [], one_id i.id id);
  few = omega arith;
  each = All-from_Every (IsInlayOf typed.text) (i ∷ []) (fits, tt);
}

other : (b : ℕ) → 13 < b → b ≢ carriage_return
other b h = apart b 13 h

pub typed-lawful : IsLawful typed
unfolding encode
typed-lawful = record {
  entries = record {
    source = record {
      text = (
        (codes "let x = 1", (refl, refl)),
        All-from_Every (λ b. b ≢ carriage_return) (codes "let x = 1") (
          other 108 (omega arith),
          (
            other 101 (omega arith),
            (
              other 116 (omega arith),
              (
                other 32 (omega arith),
                (
                  other 120 (omega arith),
                  (other 32 (omega arith), (other 61 (omega arith), (other 32 (omega arith), (other 49 (omega arith), tt)))),
                ),
              ),
            ),
          ),
        ),
      );
      inlays = one_inlay (inlay 5 Right 1 (codes ": i32"))
          (record { boundary = (omega arith, (codes "let x", (refl, refl))); utf8 = (codes ": i32", (refl, refl)); some = omega arith; short = omega arith });
      folds = no_entries fold_le (λ (f : Fold). f.id) (IsFoldOf typed.text);
    };
    blocks = no_entries block_le (λ (k : Block). k.id) (IsBlockOf typed.text);
    tab = (omega arith, omega arith);
    width = inr (omega arith, omega arith);
  };
  marked = refl;
  widths = All-from_Every (λ m. IsWidth m.width) typed.marks (inr (omega arith, omega arith), tt);
}

pub is-lawful : (r : Record) → r ≡ typed → IsLawful r
is-lawful r e = subst IsLawful (sym e) typed-lawful

pub behind-name : (r : Record) → r ≡ typed → IsBoundary r.text 5
unfolding encode
behind-name r e = let P : Record → Type 0 = λ r. IsBoundary r.text 5 in subst P (sym e) (omega arith, (codes "let x", (refl, refl)))

pub at-end : (r : Record) → r ≡ typed → IsBoundary r.text 9
unfolding encode
at-end r e = let P : Record → Type 0 = λ r. IsBoundary r.text 9 in subst P (sym e) (omega arith, (codes "let x = 1", (refl, refl)))
