-- The test for a boundary, and where a text may be cut.
use Rattle.std.proofs.Common.{◌≡◌, ℕ, ◌<◌, ◌&&◌, not, leb, ltb, eqb, true, false, List, length, get_or, inl, inr, arith}
use Rattle.std.specs.Str.{IsCharBoundary}
use Rattle.std.proofs.lemmas.Bool.{cases_lt, or_cases, or_left, or_right, and_parts, and_cases, and_from, and_left, and_right, not-true, not_from_false, eqb-true, ltb-true, leb-false, ltb-false, eq-eqb, lt-ltb, lt-leb, le-ltb}
use Rattle.cell_units.specs.Text.{is_boundary, goes_on}

-- a boundary is where a character begins, or the text's end
pub boundary_from_test : (text : List ℕ) (o : ℕ) → is_boundary text o ≡ true → IsCharBoundary text o
boundary_from_test text o h =
    let byte = get_or text o 0 in
    elim (or_cases (eqb o (length text)) (ltb o (length text) && not (goes_on byte)) h) [
      | inl e ↦
          let end : o ≡ length text = eqb-true o (length text) e in
          (omega arith, λ lt _. absurd (omega (arith, end, lt)))
      | inr e ↦
          let both = and_parts (ltb o (length text)) (not (goes_on byte)) e in
          let within : o < length text = ltb-true o (length text) both.0 in (
            omega arith,
            λ _ from. elim (and_cases (leb 128 byte) (ltb byte 192) (not-true (goes_on byte) both.1)) [
              | inl small ↦ absurd (omega (arith, leb-false 128 byte small, from))
              | inr great ↦ ltb-false byte 192 great
            ],
          )
    ]

pub test_from_boundary : (text : List ℕ) (o : ℕ) → IsCharBoundary text o → is_boundary text o ≡ true
test_from_boundary text o h =
    let byte = get_or text o 0 in
    let rest = ltb o (length text) && not (goes_on byte) in
    elim (cases_lt o (length text)) [
      | inl within ↦
          let first : goes_on byte ≡ false =
          elim (cases_lt byte 128) [
            | inl small ↦ and_left (leb 128 byte) (ltb byte 192) (lt-leb 128 byte small)
            | inr from ↦ and_right (leb 128 byte) (ltb byte 192) (le-ltb byte 192 (h.1 within from))
          ] in
          or_right (eqb o (length text)) rest (and_from (ltb o (length text)) (not (goes_on byte)) (lt-ltb o (length text) within) (not_from_false (goes_on byte) first))
      | inr past ↦
          let end : o ≡ length text = omega (arith, past, h.0) in
          or_left (eqb o (length text)) rest (eq-eqb o (length text) end)
    ]
