-- Which lines keep their rows when a run of lines lands.
use Rattle.std.proofs.Common.{◌≡◌, ℕ, ◌+◌, ◌-◌, ◌<◌, Bool, true, false, cond, List, [], length, Some, None, refl, sym, ap, subst, ◌∙◌, arith, inl, inr}
use Rattle.std.proofs.lemmas.Bool.{cases_lt, cases_order}
use Rattle.std.proofs.lemmas.List.{take_all}
use Rattle.cell_line.specs.declared.lines.Run.{Run}
use Rattle.cell_units.specs.Rows.{all_rows, line_rows, rows_before}
use Rattle.edit_patch.specs.declared.edit.Edit.{Edit}
use Rattle.edit_patch.specs.Came.{Came, IsReplaced, origin_of}
use Rattle.edit_patch.proofs.Correspondence.{corresponds}
use Rattle.edit_patch.proofs.Fitting.{from_end}
use Rattle.wrap_map.specs.Landing.{IsPatchOfLanded, is_landed, row_origin, standing_landed}
use Rattle.wrap_map.specs.Standing.{Standing, shown_rows}
use Rattle.wrap_map.proofs.Carried.{length-marks_landed}
use Rattle.wrap_map.proofs.Landed.{IsRow, length-shown, row-at, texts-kept}
use Rattle.wrap_map.proofs.Snapshots.{shown-have-rows}
use Rattle.block_map.proofs.LineStarts.{rows_before-next, rows_before-rises}
use Rattle.blocked_rows.specs.Records.{Lines}

-- a row of a line is one of all
row-within : (ls : Lines) (i k : ℕ) → i < length ls → k < length (line_rows ls i) → rows_before ls i + k < length (all_rows ls)
row-within ls i k lt within =
    let all : rows_before ls (length ls) ≡ length (all_rows ls) = ap (λ (xs : Lines). length (all_rows xs)) (take_all (length ls) ls (omega arith)) in
    omega (arith, rows_before-next ls i lt, rows_before-rises ls (i + 1) (length ls) (omega (arith, lt)), all, within)

-- a row that is in two lines is in one
one-line : (ls : Lines) (i k l m : ℕ) → i < length ls → l < length ls → k < length (line_rows ls i) → m < length (line_rows ls l)
    → rows_before ls i + k ≡ rows_before ls l + m → i ≡ l
one-line ls i k l m ilt llt kin min same = elim (cases_order i l) [
  | inl e ↦ e
  | inr (inl lt) ↦ absurd (omega (arith, rows_before-next ls i ilt, rows_before-rises ls (i + 1) l (omega (arith, lt)), same, kin))
  | inr (inr gt) ↦ absurd (omega (arith, rows_before-next ls l llt, rows_before-rises ls (l + 1) i (omega (arith, gt)), same, min))
]

some-is : (x : Bool) (n j : ℕ) → cond x None (Some n) ≡ Some j → (x ≡ false) × (n ≡ j)
some-is true n j h = absurd (cc)
some-is false n j h = (refl, cc)

module _ (old : Standing) (since : List Edit) (run : Run) (width : ℕ) (patch : List Edit) (one_each : length old.marks ≡ length old.lines)
    (landed : IsPatchOfLanded old (standing_landed since run width old) since run patch) where
  abbrev was : Lines
  was = shown_rows old

  abbrev is : Lines
  is = shown_rows (standing_landed since run width old)

  are : length is ≡ length old.lines
  are = length-shown (standing_landed since run width old) (length-marks_landed since run width old.marks ∙ one_each)

  were : length was ≡ length old.lines
  were = length-shown old one_each

  -- a new row came from a row of the same line, which didn't land
  pub record IsFrom (i line k : ℕ) : Type 0 where
    pub within : line < length old.lines
    pub stays : is_landed since run line ≡ false
    pub there : k < length (line_rows was line)
    pub place : rows_before was line + k ≡ i

  row-from : (x j : ℕ) → x < length (all_rows is) → origin_of patch x ≡ Some j → (line : ℕ) × (k : ℕ) × IsFrom j line k
  row-from x j lt origin =
      let at = row-at is x lt in
      let line = at.0 in
      let k = at.1 in
      let row : IsRow is x line k = at.2 in
      let within : line < length old.lines = omega (arith, row.line_within, are) in
      let said : row_origin old since run line k ≡ Some j =
      sym (landed.came line k within row.within) ∙ ap (origin_of patch) row.place ∙ origin in
      let some = some-is (is_landed since run line) (rows_before was line + k) j said in (
        line,
        k,
        record {
          within = within;
          stays = some.0;
          there = omega (arith, row.within, ap length (texts-kept old since run width line within one_each some.0));
          place = some.1;
        },
      )

  -- where each row of a line stays the line didn't land
  pub kept-stays : (i : ℕ) → i < length old.lines → ((k : ℕ) → k < length (line_rows was i) → ¬ IsReplaced patch (rows_before was i + k)) → is_landed since run i ≡ false
  kept-stays i lt keeps =
      let here : i < length was = omega (arith, lt, were) in
      let some : 0 < length (line_rows was i) = omega (arith, shown-have-rows old i [] here) in
      let j = rows_before was i + 0 in
      let from = ((corresponds patch landed.normal).stays j).1 (keeps 0 some) in
      let x = from.0 in
      let low : j < length (all_rows was) = row-within was i 0 here some in
      let within : x < length (all_rows is) = elim (cases_lt x (length (all_rows is))) [
        | inl l ↦ l
        | inr ge ↦
            let k = x - length (all_rows is) in
            let past = from_end patch (all_rows was) (all_rows is) k landed.normal landed.fits in
            let at : length (all_rows is) + k ≡ x = omega (arith, ge) in
            let beyond : Some (length (all_rows was) + k) ≡ Some j = sym past ∙ ap (origin_of patch) at ∙ from.1 in
            let more : length (all_rows was) + k ≡ j = cc in
            absurd (omega (arith, more, low))
      ] in
      let r = row-from x j within from.1 in
      let f : IsFrom j r.0 r.1 = r.2 in
      let same : r.0 ≡ i = one-line was r.0 r.1 i 0 (omega (arith, f.within, were)) here f.there some f.place in
      subst (λ (line : ℕ). is_landed since run line ≡ false) same f.stays

  -- and then its rows are what they were, and came from there
  pub stays-same : (i : ℕ) → i < length old.lines → is_landed since run i ≡ false → line_rows is i ≡ line_rows was i
  stays-same i lt stays = texts-kept old since run width i lt one_each stays

  pub stays-came : (i k : ℕ) → i < length old.lines → is_landed since run i ≡ false → k < length (line_rows was i)
      → Came patch (rows_before is i + k) (rows_before was i + k)
  stays-came i k lt stays within =
      landed.came i k lt (omega (arith, within, ap length (stays-same i lt stays)))
      ∙ ap (λ (b : Bool). cond b None (Some (rows_before was i + k))) stays
