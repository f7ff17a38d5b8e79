-- A record with an inlay, a fold and a block that is lawful.
use Rattle.std.proofs.Common.{◌≢◌, ℕ, ◌+◌, ◌<◌, ◌≤◌, Bool, true, false, cond, eqb, [], ◌∷◌, refl, inr, arith}
use lib.Utf8.{encode}
use Rattle.std.specs.Prelude.{codes}
use Rattle.cell_units.specs.declared.place.Bias.TheVariants.{Right}
use Rattle.cell_units.specs.declared.place.Side.TheVariants.{Above}
use Rattle.cell_units.specs.Text.{carriage_return, line_feed}
use Rattle.cell_units.specs.Record.{Block, Fold, Inlay, Record, block_le, fold_le, inlay_le}
use Rattle.cell_units.specs.Worked.{block, fold, inlay, settled}
use Rattle.cell_units.specs.Lawful.{AreEntries, IsBlockLine, IsBlockOf, IsFoldOf, IsInlayOf, IsLawful, IsWidth}
use Rattle.cell_units.proofs.FoundEntries.{All-from_Every}
use Rattle.cell_units.proofs.SortedLists.{count-cons}

abbrev pub example : Record
example = settled (codes "abcdef") (inlay 5 Right 1 (codes "xy") ∷ []) (fold 1 4 1 ∷ []) (block 0 1 Above (codes "up" ∷ []) ∷ []) 80

apart : (b n : ℕ) → n < b → b ≢ n
apart b n h = λ e. omega (arith, h, e)

one_id : (a b : ℕ) → cond (eqb a b) 1 0 + 0 ≤ 1
one_id a b = go (eqb a b) where
  go : (t : Bool) → cond t 1 0 + 0 ≤ 1
  go true = omega arith
  go false = omega arith

one_entry : {X : Type 0} (le : X → X → Bool) (id_of : X → ℕ) (Fits : X → Type 0) (x : X) → Fits x → AreEntries le id_of Fits (x ∷ [])
one_entry le id_of Fits x fits = record {
  in_order = refl;
  distinct = λ id. omega (arith, count-cons (λ y. eqb (id_of y) id) x [], one_id (id_of x) id);
  few = omega arith;
  each = All-from_Every Fits (x ∷ []) (fits, tt);
}

block_line : IsBlockLine (codes "up")
unfolding encode
block_line = record {
  utf8 = (codes "up", (refl, refl));
  unbroken = All-from_Every (λ b. (b ≢ carriage_return) × (b ≢ line_feed)) (codes "up")
      ((apart 117 13 (omega arith), apart 117 10 (omega arith)), ((apart 112 13 (omega arith), apart 112 10 (omega arith)), tt));
  short = omega arith;
}

pub example-lawful : IsLawful example
unfolding encode
example-lawful = record {
  entries = record {
    source = record {
      text = (
        (codes "abcdef", (refl, refl)),
        All-from_Every (λ b. b ≢ carriage_return) (codes "abcdef")
            (apart 97 13 (omega arith), (apart 98 13 (omega arith), (apart 99 13 (omega arith), (apart 100 13 (omega arith), (apart 101 13 (omega arith), (apart 102 13 (omega arith), tt)))))),
      );
      inlays = one_entry inlay_le (λ (i : Inlay). i.id) (IsInlayOf example.text) (inlay 5 Right 1 (codes "xy"))
          (record { boundary = (omega arith, (codes "abcde", (refl, refl))); utf8 = (codes "xy", (refl, refl)); some = omega arith; short = omega arith });
      folds = one_entry fold_le (λ (f : Fold). f.id) (IsFoldOf example.text) (fold 1 4 1)
          (record { start = (omega arith, (codes "a", (refl, refl))); end = (omega arith, (codes "abcd", (refl, refl))); some = omega arith });
    };
    blocks = one_entry block_le (λ (k : Block). k.id) (IsBlockOf example.text) (block 0 1 Above (codes "up" ∷ []))
        (record {
          boundary = (omega arith, ([], (refl, refl)));
          lines = record { some = omega arith; few = omega arith; each = All-from_Every IsBlockLine (codes "up" ∷ []) (block_line, tt) };
        });
    tab = (omega arith, omega arith);
    width = inr (omega arith, omega arith);
  };
  marked = refl;
  widths = All-from_Every (λ m. IsWidth m.width) example.marks (inr (omega arith, omega arith), tt);
}
