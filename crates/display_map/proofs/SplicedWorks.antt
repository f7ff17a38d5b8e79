-- How many steps one replacement takes that is judged and then done.
use Rattle.std.proofs.Common.{◌≡◌, ℕ, ◌+◌, ◌-◌, ◌*◌, ◌≤◌, List, [], ◌∷◌, get_or, length, sym, ap, subst, ◌∙◌, arith, mul-le-mul_right}
use Rattle.cell_units.specs.Record.{Record}
use Rattle.plain_rows.specs.Reach.{WorksAtMost, reach_of_operation}
use Rattle.display_sheet.specs.Changes.{replacement}
use Rattle.display_sheet.specs.declared.change.Splice.{Splice}
use Rattle.display_sheet.specs.Shown.{unstamped}
use Rattle.kept_sheet.specs.Bounds.{LooksAtMost, ReplacesAtMost}
use Rattle.display_map.proofs.StampedWorks.{works-stamped}

-- ---- sums

looked-sum : (h reach a b : ℕ) → b ≤ a + 2 * 1 * (h + 1) → b ≤ a + (0 + 4000 * (reach + 1) * (h + 1))
looked-sum h reach a b looked = omega (arith, looked)

replaced-sum : (h reach a b c : ℕ) → b ≤ a + 2 * 1 * (h + 1) → c + 2 * (h + 1) ≤ b + 4000 * (reach + 1) * (h + 1) → c ≤ a + (0 + 4000 * (reach + 1) * (h + 1))
replaced-sum h reach a b c looked done = omega (arith, looked, done)

none-sum : (h reach a : ℕ) → a + 2 * (h + 1) ≤ a + 4000 * (reach + 1) * (h + 1)
none-sum h reach a = omega arith

-- ---- offsets that are looked up

-- one entry more
pub looks-more : (i : ℕ) (r : Record) (a b c : ℕ) → LooksAtMost (2 * i) r a b → LooksAtMost 2 r b c → LooksAtMost (2 * (i + 1)) r a c
looks-more i r a b c before one h high = omega (arith, before h high, one h high)

-- no more entries than so many
pub looks-fewer : (i n : ℕ) (r : Record) (a b : ℕ) → i ≤ n → LooksAtMost (2 * i) r a b → LooksAtMost (2 * n) r a b
looks-fewer i n r a b few looked h high = omega (arith, looked h high, mul-le-mul_right (h + 1) few)

-- ---- one entry of a batch

-- one that isn't done takes none
pub passed-by : (splice : Splice) (r : Record) (old : ℕ) → ReplacesAtMost (replacement splice) r old old
passed-by splice r old h before after = none-sum h (reach_of_operation (replacement splice) r) old

-- where there is one alone, it is done from the start on
module _ (splices : List Splice) (x : Splice) (i : ℕ) (x_is : x ≡ get_or splices (i - 1) x) (now sheet : Record) (start old : ℕ)
    (unbegun : i ≡ length splices → (old ≡ start) × (now ≡ sheet)) (splice : Splice) (only : splices ≡ splice ∷ []) (last : i ≡ 1) where
  begun : (old ≡ start) × (now ≡ sheet)
  begun = unbegun (omega (arith, last, ap length only))

  pub only-done : (new : ℕ) → ReplacesAtMost (replacement x) now old new → ReplacesAtMost (replacement splice) sheet start new
  only-done new done =
      let at : i - 1 ≡ 0 = omega (arith, last) in
      let same : x ≡ splice = x_is ∙ (λ j. get_or (only j) (at j) x) in
      subst (λ (s : Splice). ReplacesAtMost (replacement s) sheet start new) same
      (subst (λ (q : Record). ReplacesAtMost (replacement x) q start new) begun.1
      (subst (λ (n : ℕ). ReplacesAtMost (replacement x) now n new) begun.0 done))

  pub only-passed : ReplacesAtMost (replacement splice) sheet start old
  only-passed = subst (λ (n : ℕ). ReplacesAtMost (replacement splice) sheet start n) (sym begun.0) (passed-by splice sheet start)

module _ (r sheet : Record) (sheet_is : unstamped r ≡ sheet) (splices : List Splice) (splice : Splice) (is : splices ≡ splice ∷ []) (old mid : ℕ)
    (looked : LooksAtMost (2 * length splices) sheet old mid) where
  one : LooksAtMost (2 * 1) sheet old mid
  one = subst (λ (l : List Splice). LooksAtMost (2 * length l) sheet old mid) is looked

  pub judged-works : WorksAtMost (replacement splice) r old mid
  judged-works =
      works-stamped (replacement splice) r sheet old mid sheet_is
      (λ h before after. looked-sum h (reach_of_operation (replacement splice) sheet) old mid (one h before))

  pub replaced-works : (new : ℕ) → ReplacesAtMost (replacement splice) sheet mid new → WorksAtMost (replacement splice) r old new
  replaced-works new done =
      works-stamped (replacement splice) r sheet old new sheet_is
      (λ h before after. replaced-sum h (reach_of_operation (replacement splice) sheet) old mid new (one h before) (done h before after))
