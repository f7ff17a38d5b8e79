-- The exchange that adds a version keeps the rule.
use Rattle.std.proofs.Common.{◌≡◌, ℕ, ◌+◌, ◌<◌, ◌==◌, Bool, true, false, List, [], ◌∷◌, ◌++◌, length, refl, ap, sym, subst, arith, inl, length-append, None}
use Rattle.std.proofs.lemmas.List.{append-nil}
use Rattle.std.proofs.lemmas.Bool.Decides.{nat_tests}
use mathlib.Core.List.{IsPrefix}
use prog.Atomic.{either}
use Rattle.logbook.specs.Pages.{Cell, cell, keeps, no_nib, step, Moves, Goes}
use Rattle.display_map.specs.Versions.{Version}
use Rattle.version_board.specs.Rows.{IsRow}
use Rattle.version_board.specs.inside.Book.{IsKept, Adds}
use Rattle.version_board.proofs.Prefixes.{prefix_whole}

abbrev pub shown : List Version → List Version
shown row = []

abbrev pub moved : List Version → List Version → ℕ → Type 0
moved xs ys n = Unit {0}

adds_goes : (row v : List Version) (e : Version) (old new n : ℕ) → length v ≡ old + 1 → new ≡ old + 1 → IsRow (v ++ e ∷ []) → length row ≡ n + 1 → IsRow row → IsPrefix v row
    → (b : Bool) → (n == old) ≡ b
    → Goes IsKept shown moved 0 (v, (no_nib, None)) (λ n. either (n == old) new n) (Adds (step 0 old new e) (v, (no_nib, None))) ((n, true) ∷ []) row
adds_goes row v e old new n len next may counted is_row pre true is =
    let here : n ≡ old = grind (arith, nat_tests) in
    let same : v ≡ row = prefix_whole v row pre (omega arith) in
    let may' : IsRow (row ++ e ∷ []) = subst (λ (l : List Version). IsRow (l ++ e ∷ [])) same may in
    let long : length (row ++ e ∷ []) ≡ new + 1 = omega (arith, length-append row (e ∷ [])) in (
      keeps,
      e ∷ [],
      None,
      tt,
      record { number = new; word = rw is refl; counted = long; is_row = may' },
      inl (refl, refl),
      rw is (ap (λ w. w ++ e ∷ []) (sym same)),
    )
adds_goes row v e old new n len next may counted is_row pre false is =
    let all : row ++ [] ≡ row = append-nil row in
    let is_row' : IsRow (row ++ []) = subst IsRow (sym all) is_row in
    let long : length (row ++ []) ≡ n + 1 = rw all counted in (
      keeps,
      [],
      None,
      tt,
      record { number = n; word = rw is refl; counted = long; is_row = is_row' },
      inl (refl, refl),
      rw is tt,
    )

-- whatever the book is, the exchange adds the version to all that was seen, or finds that the row is longer
pub adds_moves : (v : List Version) (e : Version) (old new : ℕ) → length v ≡ old + 1 → new ≡ old + 1 → IsRow (v ++ e ∷ [])
    → Moves IsKept shown moved 0 (v, (no_nib, None)) (λ n. either (n == old) new n) (Adds (step 0 old new e) (v, (no_nib, None)))
adds_moves v e old new len next may cs row kept pre away =
    let P : List Cell → Type 0 = λ c. (0 < length c) × ((cell c 0).1 ≡ true) × Goes IsKept shown moved 0 (v, (no_nib, None)) (λ n. either (n == old) new n) (Adds (step 0 old new e) (v, (no_nib, None))) c row in
    subst P (sym kept.word) (omega arith, refl, adds_goes row v e old new kept.number len next may kept.counted kept.is_row pre (kept.number == old) refl)
