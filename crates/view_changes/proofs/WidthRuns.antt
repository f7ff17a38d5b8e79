-- The lines from one on that are wrapped at its width.
use Rattle.std.proofs.Common.{◌≡◌, ℕ, ◌<◌, ◌≤◌, length, unwrap_or, sym, ap, subst, ◌∙◌, inl, inr, arith}
use Rattle.std.specs.Prelude.{Option, None, Some}
use Rattle.std.proofs.lemmas.Bool.{cases_lt}
use Rattle.std.proofs.lemmas.List.{get_or-map}
use Rattle.cell_units.specs.declared.limits.TheConstants.{LAID_LIMIT}
use Rattle.cell_units.specs.Lawful.{IsLawful}
use Rattle.cell_units.specs.Record.{Mark, Record, plain_mark}
use Rattle.plain_rows.specs.Rows.{line_elements}
use Rattle.plain_rows.specs.Spots.{mark_at}
use Rattle.plain_rows.proofs.SpotSizes.{length-elements}
use Rattle.kept_sheet.specs.Kept.{widths_of}
use Rattle.wrap_map.specs.Standing.{Standing, stood_of}
use Rattle.wrap_map.specs.Stood.{IsOtherIfAny, Stood, stood_at, unwrapped}
use Rattle.wrap_map.proofs.Standings.{length-pairs, pair-at, stood}
use Rattle.wrapped_lines.specs.WrappedSource.{standing_lines}
use Rattle.map_sheet.specs.Kept.{lines_in}
use Rattle.map_sheet.proofs.Rooms.{marks-each}

-- the lines from this one to the end are wrapped at the width
abbrev pub AreAt : Record → ℕ → ℕ → ℕ → Type 0
AreAt r line end width = (k : ℕ) → line ≤ k → k < end → (mark_at r k).width ≡ width

-- ... and this one is among them
pub record IsRun (r : Record) (line width end : ℕ) : Type 0 where
  pub some : line < end
  pub within : end ≤ length r.marks
  pub at : AreAt r line end width

module _ (r : Record) (is : IsLawful r) (short : length r.text ≤ LAID_LIMIT) where
  abbrev here : Standing
  here = standing_lines (lines_in r)

  count : length (stood_of here) ≡ length r.marks
  count = length-pairs stood (line_elements r) (widths_of r) (marks-each r is short) ∙ length-elements r is short

  width-at : (k : ℕ) → k < length r.marks → (stood_at (stood_of here) k).mark ≡ (mark_at r k).width
  width-at k lt =
      ap (λ (l : Stood). l.mark) (pair-at stood (line_elements r) (widths_of r) k unwrapped (marks-each r is short) (omega (arith, lt, length-elements r is short)))
      ∙ get_or-map (λ (m : Mark). m.width) r.marks k (plain_mark 0) 0 lt

  module _ (line width : ℕ) (lt : line < length r.marks) (width_is : width ≡ (mark_at r line).width) where
    to-other : (o : Option ℕ) → IsOtherIfAny (stood_of here) line width o → IsRun r line width (unwrap_or o (length r.marks))
    to-other None same = record {
      some = lt;
      within = omega arith;
      at = λ k le below. sym (width-at k below) ∙ same k le (omega (arith, below, count));
    }
    to-other (Some end) other = record {
      some = elim (cases_lt line end) [
        | inl less ↦ less
        | inr ge ↦
            let at : end ≡ line = omega (arith, ge, other.order) in
            absurd (other.other (ap (λ (k : ℕ). (stood_at (stood_of here) k).mark) at ∙ width-at line lt ∙ sym width_is))
      ];
      within = omega (arith, other.within, count);
      at = λ k le below. sym (width-at k (omega (arith, below, other.within, count))) ∙ other.before k le below;
    }

    pub run : (rows : Standing) → rows ≡ here → (o : Option ℕ) → IsOtherIfAny (stood_of rows) line width o → (end all : ℕ) → all ≡ length r.marks → end ≡ unwrap_or o all → IsRun r line width end
    run rows rows_are o other end all all_is end_is =
        let found = to-other o (subst (λ (s : Standing). IsOtherIfAny (stood_of s) line width o) rows_are other) in
        subst (IsRun r line width) (sym (end_is ∙ ap (unwrap_or o) all_is)) found
