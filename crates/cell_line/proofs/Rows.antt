-- The rows of a line, one after another.
use Rattle.std.proofs.Common.{◌≡◌, ℕ, ◌+◌, ◌-◌, ◌*◌, ◌<◌, ◌≤◌, ◌&&◌, Bool, true, false, List, [], ◌∷◌, zero, suc, length, take, nat_lt, nat_le, nat_eq, slice_range, unwrap_or, Option, Some, None, cond, refl, ap, sym, ◌∙◌, inl, inr, arith}
use Rattle.std.proofs.lemmas.Bool.{cases_lt}
use Rattle.std.proofs.lemmas.Bool.Decides.{nat_tests}
use Rattle.std.proofs.lemmas.Grind.{common_steps}
use Rattle.std.specs.List.{list_all, prefix_len}
use Rattle.cell_line.specs.declared.element.Element.{Element}
use Rattle.cell_line.specs.Elements.{total_cells}
use Rattle.cell_line.specs.Wrapping.{is_blank, lead_of, indent_of, is_opportunity, trimmed, greatest, ends_well, fits, next_start_of, row_starts, cuts_of}
use Rattle.cell_line.proofs.Greatest.{greatest-at}
use Rattle.cell_line.proofs.Scan.{ends_well-within}

-- ---- a row is not empty and ends within the line

abbrev IsPlaceAfter : ℕ → ℕ → Option ℕ → Type 0
IsPlaceAfter from end None = Unit {0}
IsPlaceAfter from end (Some k) = (from < k) × (k ≤ end)

greatest_within : (test : ℕ → Bool) (from to end : ℕ) → to ≤ end → IsPlaceAfter from end (greatest test from to)
unfolding greatest
greatest_within test from zero end le = tt
greatest_within test from (suc to) end le = elim (cases_lt from (suc to)) [
  | inl lt ↦
      let front : nat_lt from (suc to) ≡ true = grind (arith, nat_tests) in
      rw front (elim (test (suc to)) as (λ v. IsPlaceAfter from end (cond v (Some (suc to)) (greatest test from to)))
      [ true ↦ (lt, le) | false ↦ greatest_within test from to end (omega arith) ])
  | inr past ↦
      let behind : nat_lt from (suc to) ≡ false = grind (arith, nat_tests) in
      rw behind (greatest_within test from to end (omega arith))
]

unwrap_within : (from end : ℕ) (o : Option ℕ) (k : ℕ) → IsPlaceAfter from end o → (from < k) × (k ≤ end) → (from < unwrap_or o k) × (unwrap_or o k ≤ end)
unwrap_within from end None k h other = other
unwrap_within from end (Some j) k h other = h

pub next_start_within : (es : List Element) (room s : ℕ) → s < length es →
    (s < next_start_of es room s) × (next_start_of es room s ≤ length es)
unfolding next_start_of
next_start_within es room s lt =
    unwrap_within s (length es) (greatest (ends_well es room s) s (length es)) (unwrap_or (greatest (fits es room s) s (length es)) (s + 1))
    (greatest_within (ends_well es room s) s (length es) (length es) (omega arith))
    (unwrap_within s (length es) (greatest (fits es room s) s (length es)) (s + 1)
    (greatest_within (fits es room s) s (length es) (length es) (omega arith))
    (omega arith, omega arith))

-- ---- how many rows may follow

pub row_starts-end : (es : List Element) (room most s : ℕ) → length es ≤ s → row_starts es room most s ≡ []
unfolding row_starts
row_starts-end es room zero s le = refl
row_starts-end es room (suc most) s le =
    let past : nat_lt s (length es) ≡ false = grind (arith, nat_tests) in
    rw past refl

pub row_starts-suc : (es : List Element) (room most s : ℕ) → s < length es →
    row_starts es room (suc most) s ≡ s ∷ row_starts es room most (next_start_of es room s)
unfolding row_starts
row_starts-suc es room most s lt =
    let front : nat_lt s (length es) ≡ true = grind (arith, nat_tests) in
    rw front refl

-- any number of rows that is enough gives the same
row_starts_enough : (es : List Element) (room f g s : ℕ) → length es ≤ s + f → length es ≤ s + g →
    row_starts es room f s ≡ row_starts es room g s
row_starts_enough es room zero g s a b = row_starts-end es room zero s (omega arith) ∙ sym (row_starts-end es room g s (omega arith))
row_starts_enough es room (suc f) zero s a b = row_starts-end es room (suc f) s (omega arith) ∙ sym (row_starts-end es room zero s (omega arith))
row_starts_enough es room (suc f) (suc g) s a b = elim (cases_lt s (length es)) [
  | inl lt ↦
      let next = next_start_within es room s lt in
      row_starts-suc es room f s lt
      ∙ ap (λ (rest : List ℕ). s ∷ rest) (row_starts_enough es room f g (next_start_of es room s) (omega (arith, next.0)) (omega (arith, next.0)))
      ∙ sym (row_starts-suc es room g s lt)
  | inr past ↦ row_starts-end es room (suc f) s past ∙ sym (row_starts-end es room (suc g) s past)
]

-- the starts from s on are s and those from the next start on
pub row_starts_next : (es : List Element) (room s : ℕ) → s < length es →
    row_starts es room (length es) s ≡ s ∷ row_starts es room (length es) (next_start_of es room s)
row_starts_next es room s lt =
    let next = next_start_within es room s lt in
    row_starts_enough es room (length es) (suc (length es)) s (omega arith) (omega arith)
    ∙ row_starts-suc es room (length es) s lt

pub row_starts_done : (es : List Element) (room s : ℕ) → length es ≤ s → row_starts es room (length es) s ≡ []
row_starts_done es room s le = row_starts-end es room (length es) s le

-- ---- the whole line

pub indent_le : (es : List Element) (width : ℕ) → indent_of es width ≤ width
indent_le es width = elim (cases_lt width (2 * total_cells (take (lead_of es) es))) [
  | inl wide ↦
      let h : nat_le (2 * total_cells (take (lead_of es) es)) width ≡ false = grind (arith, nat_tests) in
      rw h (omega arith)
  | inr small ↦
      elim (nat_le (2 * total_cells (take (lead_of es) es)) width && nat_lt (lead_of es) (length es))
      as (λ v. cond v (total_cells (take (lead_of es) es)) 0 ≤ width)
      [ true ↦ omega (arith, small) | false ↦ omega arith ]
]

all_blank : (es : List Element) → prefix_len is_blank es ≡ length es → list_all is_blank es ≡ true
all_blank [] h = refl
all_blank (e ∷ es) h =
    elim (is_blank e) as (λ v. cond v (1 + prefix_len is_blank es) 0 ≡ suc (length es) → (v && list_all is_blank es) ≡ true)
    [ true ↦ λ k. all_blank es (omega (arith, k)) | false ↦ λ k. absurd (omega (arith, k)) ] h

trimmed_none : (es : List Element) → list_all is_blank es ≡ true → trimmed es ≡ []
unfolding trimmed
trimmed_none [] h = refl
trimmed_none (e ∷ es) h = rw h refl

next_blank : (es : List Element) (width : ℕ) → lead_of es ≡ length es → length es ≤ next_start_of es width 0
unfolding next_start_of
next_blank es width h = elim (cases_lt 0 (length es)) [
  | inl some ↦
      let whole : slice_range es 0 (length es) ≡ es = grind (arith, common_steps) in
      let none : total_cells (trimmed (slice_range es 0 (length es))) ≡ 0 =
      ap (λ (xs : List Element). total_cells (trimmed xs)) whole ∙ ap total_cells (trimmed_none es (all_blank es h)) in
      let here : nat_eq (length es) (length es) ≡ true = grind (arith, nat_tests) in
      let ends : is_opportunity es (length es) ≡ true = rw here refl in
      let last : greatest (ends_well es width 0) 0 (length es) ≡ Some (length es) =
      greatest-at (ends_well es width 0) 0 (length es) some (ends_well-within es width 0 (length es) (omega (arith, none)) ∙ ends) in
      rw last (omega arith)
  | inr none ↦ omega arith
]

pub cuts-off : (es : List Element) → cuts_of es 0 ≡ []
unfolding cuts_of
cuts-off es = refl

pub cuts-on : (es : List Element) (width : ℕ) → 0 < width →
    cuts_of es width ≡ row_starts es (width - indent_of es width) (length es) (next_start_of es width 0)
unfolding cuts_of
cuts-on es width h =
    let on : nat_eq width 0 ≡ false = grind (arith, nat_tests) in
    rw on refl

-- a line of blanks is in one row
pub cuts-blank : (es : List Element) (width : ℕ) → lead_of es ≡ length es → cuts_of es width ≡ []
cuts-blank es width h = elim (cases_lt 0 width) [
  | inl on ↦ cuts-on es width on ∙ row_starts_done es (width - indent_of es width) (next_start_of es width 0) (next_blank es width h)
  | inr off ↦
      let zero_width : width ≡ 0 = omega arith in
      ap (cuts_of es) zero_width ∙ cuts-off es
]
