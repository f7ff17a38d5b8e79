-- Worked rows, by computation.
use Rattle.std.proofs.Common.{◌≡◌, ℕ, ◌+◌, ◌<◌, List, [], length, replicate, take, drop, ◌++◌, None, refl, ap, sym, subst, ◌∙◌, ⊎_elim, arith}
use Rattle.std.specs.Prelude.{codes, slice_index_or}
use Rattle.std.proofs.lemmas.Bool.{cases_lt}
use Rattle.std.proofs.lemmas.List.{get_or-replicate}
use Rattle.cell_line.specs.Wrapping.{cuts_of, row_starts, next_start_of, greatest, ends_well, fits, trimmed}
use Rattle.cell_units.specs.Rows.{all_rows, line_rows, rows_before}
use Rattle.cell_units.specs.declared.place.Shift.{Shift}
use Rattle.wrap_map.specs.Items.{items_of}
use Rattle.wrap_map.specs.Standing.{all_at, shown_rows}
use Rattle.wrap_map.specs.Stood.{Stood, stood_at, unwrapped}
use Rattle.cell_line.specs.Waiting.{IsNext, IsNextIfAny}
use Rattle.wrap_map.specs.Worked.{ten, three_hundred}
use Rattle.wrap_map.proofs.NextRuns.{past_end, settled, waiting}

at-replicate : (n k : ℕ) (l : Stood) → k < n → stood_at (replicate n l) k ≡ l
at-replicate n k l h = get_or-replicate n k l unwrapped h

pub next_ten : IsNext (replicate 10 0) 5 [] (record { first = 0; count = 10 })
next_ten = record {
  some = omega arith;
  few = omega arith;
  none_before = λ line h. absurd (omega arith);
  each = λ k h. waiting (replicate 10 unwrapped) 5 [] (0 + k) (omega arith)
      (λ e. let z = ap (λ (l : Stood). l.mark) (at-replicate 10 (0 + k) unwrapped (omega arith)) in let q : 0 ≡ 5 = sym z ∙ e in absurd (omega arith))
      (λ i d h. absurd (omega arith));
  no_longer = λ h. past_end (replicate 10 unwrapped) 5 [] 10 (omega arith);
}

pub no_next : IsNextIfAny (replicate 10 5) 5 [] None
no_next line =
    let five : Stood = record { mark = 5; cuts = [] } in
    ⊎_elim (λ h. settled (replicate 10 five) 5 [] line (ap (λ (l : Stood). l.mark) (at-replicate 10 line five h)))
    (λ h. past_end (replicate 10 five) 5 [] line h)
    (cases_lt line 10)

pub twenty_rows : length (all_rows (shown_rows (all_at 5 ten))) ≡ 20
unfolding cuts_of row_starts next_start_of greatest ends_well fits trimmed
twenty_rows = refl

pub before_five : rows_before (shown_rows (all_at 5 ten)) 5 ≡ 10
unfolding cuts_of row_starts next_start_of greatest ends_well fits trimmed
before_five = refl

pub before_six : rows_before (shown_rows (all_at 5 ten)) 6 ≡ 12
unfolding cuts_of row_starts next_start_of greatest ends_well fits trimmed
before_six = refl

pub second_row : slice_index_or (line_rows (shown_rows (all_at 5 ten)) 0) 1 [] ≡ codes "bbb"
unfolding cuts_of row_starts next_start_of greatest ends_well fits trimmed
second_row = refl

pub one_item : items_of (all_at 0 ten) ≡ 1
unfolding cuts_of
one_item = refl

pub ten_items : items_of (all_at 5 ten) ≡ 10
unfolding cuts_of row_starts next_start_of greatest ends_well fits trimmed
ten_items = refl

-- after the sixth line is replaced
abbrev pub sixth_replaced : ℕ → ℕ → ℕ → List ℕ
sixth_replaced start end count = take start (replicate 10 5) ++ replicate count 0 ++ drop end (replicate 10 5)

pub items_after : items_of (record { lines = ten; marks = sixth_replaced 5 6 1 }) ≡ 10
unfolding cuts_of row_starts next_start_of greatest ends_well fits trimmed
items_after = refl

pub one_letter : items_of (all_at 40 three_hundred) ≡ 1
unfolding cuts_of row_starts next_start_of greatest ends_well fits trimmed
one_letter = refl

abbrev pub letter_replaced : ℕ → ℕ → ℕ → List ℕ
letter_replaced start end count = take start (replicate 300 40) ++ replicate count 0 ++ drop end (replicate 300 40)

pub letters_after : items_of (record { lines = three_hundred; marks = letter_replaced 150 151 1 }) ≡ 3
unfolding cuts_of row_starts next_start_of greatest ends_well fits trimmed
letters_after = refl

-- what holds of the numbers of a replacement holds of it
pub at_shift : (P : ℕ → ℕ → ℕ → Type 0) (a b n : ℕ) → P a b n → (s : Shift) → s.start ≡ a → s.end ≡ b → s.count ≡ n → P s.start s.end s.count
at_shift P a b n p s start end count =
    subst (λ (x : ℕ). P x s.end s.count) (sym start) (subst (λ (x : ℕ). P a x s.count) (sym end) (subst (λ (x : ℕ). P a b x) (sym count) p))
