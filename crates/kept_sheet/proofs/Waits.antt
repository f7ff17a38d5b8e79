-- Lines that wait, one by one.
use Rattle.std.proofs.Common.{◌≡◌, ℕ, ◌+◌, ◌<◌, ◌≤◌, ◌&&◌, eqb, ltb, not, Bool, true, false, List, length, get_or, refl, sym, ap, subst, ◌∙◌, inl, inr, arith}
use Rattle.std.specs.List.{list_any}
use Rattle.std.proofs.lemmas.Bool.{cases_lt, eq-eqb, le-ltb, lt-ltb, ne_eqb, true≢false}
use Rattle.std.proofs.lemmas.List.{get_or-map, length-map}
use Rattle.cell_line.specs.declared.lines.Run.{Run}
use Rattle.display_sheet.specs.Sheets.{marks_in}
use Rattle.display_sheet.specs.declared.wraps.Wrapped.{Wrapped}
use Rattle.cell_line.specs.Waiting.{has_line, waits}

-- no line after the last waits
pub past : (marks : List ℕ) (width : ℕ) (out : List Run) (line : ℕ) → length marks ≤ line → waits marks width out line ≡ false
past marks width out line le =
    ap (λ (b : Bool). b && not (eqb (get_or marks line 0) width) && not (list_any (λ run. has_line run line) out)) (le-ltb line (length marks) le)

pub before : (marks : List ℕ) (width : ℕ) (out : List Run) (line : ℕ) → waits marks width out line ≡ true → line < length marks
before marks width out line h = elim (cases_lt line (length marks)) [
  | inl lt ↦ lt
  | inr ge ↦ absurd (true≢false (sym h ∙ past marks width out line ge))
]

-- what holds of the first ones and of the next
pub and-next : (P : ℕ → Type 0) (n : ℕ) → ((k : ℕ) → k < n → P k) → P n → (k : ℕ) → k < n + 1 → P k
and-next P n all here k lt = elim (cases_lt k n) [
  | inl below ↦ all k below
  | inr from ↦ subst P (let e : n ≡ k = omega (arith, lt, from) in e) here
]

pub long : (wraps : List Wrapped) → length (marks_in wraps) ≡ length wraps
long wraps = length-map wraps (λ w. w.mark)

-- the mark of a line
mark-at : (wraps : List Wrapped) (line : ℕ) (w : Wrapped) → line < length wraps → w ≡ get_or wraps line w → get_or (marks_in wraps) line 0 ≡ w.mark
mark-at wraps line w lt is = get_or-map (λ (w : Wrapped). w.mark) wraps line w 0 lt ∙ ap (λ (w : Wrapped). w.mark) (sym is)

-- a line that is wrapped at the width doesn't wait, and any other does that no run has
module _ (wraps : List Wrapped) (width : ℕ) (out : List Run) (line : ℕ) (w : Wrapped) (lt : line < length wraps) (is : w ≡ get_or wraps line w) where
  pub stands : w.mark ≡ width → waits (marks_in wraps) width out line ≡ false
  stands same =
      ap (λ (b : Bool). (ltb line (length (marks_in wraps)) && not b) && not (list_any (λ run. has_line run line) out)) (eq-eqb (get_or (marks_in wraps) line 0) width (mark-at wraps line w lt is ∙ same))
      ∙ ap (λ (b : Bool). b && not (list_any (λ run. has_line run line) out)) (and_false (ltb line (length (marks_in wraps)))) where
        and_false : (b : Bool) → (b && false) ≡ false
        and_false true = refl
        and_false false = refl

  pub differs : (w.mark ≡ width → ⊥) → waits (marks_in wraps) width out line ≡ not (list_any (λ run. has_line run line) out)
  differs other =
      λ i.
      (lt-ltb line (length (marks_in wraps)) (omega (arith, lt, long wraps)) i && not (ne_eqb (get_or (marks_in wraps) line 0) width (λ e. other (sym (mark-at wraps line w lt is) ∙ e)) i))
      && not (list_any (λ run. has_line run line) out)
