-- A line of three letters, and so many empty lines after it.
use Rattle.std.proofs.Common.{◌≡◌, ℕ, zero, suc, ◌+◌, ◌<◌, ◌≤◌, ◌^◌, List, [], ◌∷◌, length, replicate, inl, inr, ap, arith}
use Rattle.std.proofs.lemmas.Bool.{cases_lt}
use Rattle.std.proofs.lemmas.List.{get_or-replicate, get_or_past, length-replicate}
use Rattle.std.proofs.lemmas.List.Elements.{All-cons, All-replicate}
use Rattle.std.proofs.lemmas.List.Folds.{sum_by-replicate}
use Rattle.std.proofs.lemmas.List.Sums.{sum_by-cons}
use Rattle.cell_line.specs.declared.element.Element.{Element}
use Rattle.cell_line.specs.Lines.{FitsU32, LineFitsU32, line_at}
use Rattle.cell_line.specs.Worked.{wide}
use Rattle.wrap_map.proofs.Rooms.{has-room}
use Rattle.wrapped_lines.specs.WrappedSource.{HaveRoom}

abbrev pub three : List Element
three = replicate 3 (wide (230 ∷ 188 ∷ 162 ∷ []))

abbrev pub before-empty : ℕ → List (List Element)
before-empty n = three ∷ replicate n []

pub first_line : (n line : ℕ) → line ≡ 0 → line_at (before-empty n) line ≡ three
first_line n line e = ap (line_at (before-empty n)) e

pub empty_line : (n line : ℕ) → 0 < line → line_at (before-empty n) line ≡ []
empty_line n zero some = absurd (omega arith)
empty_line n (suc line) some = elim (cases_lt line n) [
  | inl within ↦ get_or-replicate n line [] [] within
  | inr past ↦ get_or_past (replicate n []) line [] (omega (arith, length-replicate {A = List Element} n []))
]

pub fits-before-empty : (n : ℕ) → n + 5 ≤ 2 ^ 32 → FitsU32 (before-empty n)
fits-before-empty n few = (
  omega (arith, length-replicate {A = List Element} n []),
  All-cons LineFitsU32 three (replicate n []) (omega arith, omega arith)
      (All-replicate LineFitsU32 n [] (omega arith, omega arith)),
)

pub room-before-empty : (n : ℕ) → n + 5 ≤ 2 ^ 32 → HaveRoom (before-empty n)
room-before-empty n few marks =
    has-room (record { lines = before-empty n; marks = marks }) (fits-before-empty n few)
    (omega (arith, sum_by-cons (λ (es : List Element). length es + 1) three (replicate n []), sum_by-replicate (λ (es : List Element). length es + 1) n []))
