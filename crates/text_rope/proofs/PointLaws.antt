-- A point has one offset, and the point of a boundary has that boundary.
use Rattle.std.proofs.Common.{◌≡◌, ℕ, ◌+◌, ◌-◌, List, sym, ◌∙◌, subst, inl, inr, arith}
use Rattle.std.proofs.lemmas.Bool.{cases_lt}
use Rattle.cell_units.specs.Record.{line_count}
use Rattle.cell_units.specs.Text.{IsBoundary, row_of, row_start}
use Rattle.cell_units.specs.BufferLines.{line_end, line_start}
use Rattle.cell_units.specs.declared.place.Bias.{Bias}
use Rattle.cell_units.specs.declared.place.Bias.TheVariants.{Left, Right}
use Rattle.cell_units.specs.declared.place.Point.{Point}
use Rattle.cell_units.specs.Layers.{point_of}
use Rattle.cell_units.specs.Points.{IsAtPoint, IsNearBoundary}
use Rattle.cell_units.proofs.PlainLayers.{line_of_offset}
use Rattle.cell_units.proofs.ReplacedRows.{row_of-lt}
use Rattle.text_rope.proofs.RowStarts.{row_start_is}

one_near : (text : List ℕ) (o : ℕ) (bias : Bias) (r s : ℕ) → IsNearBoundary text o bias r → IsNearBoundary text o bias s → r ≡ s
one_near text o Left r s p q = elim (cases_lt r s) [
  | inl lt ↦ absurd (p.nearest s lt q.order q.boundary)
  | inr le ↦ elim (cases_lt s r) [
    | inl lt ↦ absurd (q.nearest r lt p.order p.boundary)
    | inr ge ↦ omega (arith, le, ge)
  ]
]
one_near text o Right r s p q = elim (cases_lt r s) [
  | inl lt ↦ absurd (q.nearest r p.order lt p.boundary)
  | inr le ↦ elim (cases_lt s r) [
    | inl lt ↦ absurd (p.nearest s q.order lt q.boundary)
    | inr ge ↦ omega (arith, le, ge)
  ]
]

pub one_offset : (text : List ℕ) (point : Point) (bias : Bias) (r s : ℕ) → IsAtPoint text point bias r → IsAtPoint text point bias s → r ≡ s
one_offset text point bias r s p q =
    let start = line_start text point.row in
    elim (cases_lt point.row (line_count text)) [
      | inr past ↦ p.past_rows past ∙ sym (q.past_rows past)
      | inl within ↦ elim (cases_lt (line_end text point.row) (start + point.column)) [
        | inl past ↦ p.past_end within past ∙ sym (q.past_end within past)
        | inr here ↦ one_near text (start + point.column) bias r s (p.in_row within here) (q.in_row within here)
      ]
    ]

near_itself : (text : List ℕ) (o : ℕ) (bias : Bias) → IsBoundary text o → IsNearBoundary text o bias o
near_itself text o Left b = record { boundary = b; order = omega arith; nearest = λ i lt le. absurd (omega (arith, lt, le)) }
near_itself text o Right b = record { boundary = b; order = omega arith; nearest = λ i le lt. absurd (omega (arith, lt, le)) }

pub back_to_offset : (text : List ℕ) (o : ℕ) (bias : Bias) → IsBoundary text o → IsAtPoint text (point_of text o) bias o
back_to_offset text o bias b =
    let row = row_of text o in
    let lt = row_of-lt text o in
    let same : line_start text row + (o - row_start text o) ≡ o = omega (arith, row_start_is text o b.0, (line_of_offset text o b.0).0) in
    record {
      past_rows = λ past. absurd (omega (arith, past, lt));
      past_end = λ _ past. absurd (omega (arith, past, same, (line_of_offset text o b.0).1));
      in_row = λ _ _. subst (λ (k : ℕ). IsNearBoundary text k bias o) (sym same) (near_itself text o bias b);
    }
