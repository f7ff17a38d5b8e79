-- Which lines keep their rows when others land.
use Rattle.std.proofs.Common.{◌≡◌, ℕ, zero, suc, ◌+◌, ◌-◌, ◌<◌, ◌≤◌, Bool, true, false, cond, List, [], ◌∷◌, length, take, get_or, Option, Some, None, refl, sym, ap, subst, ◌∙◌, arith, inl, inr, add-one, append-nil, zero-add}
use Rattle.std.specs.List.{enumerate_from}
use Rattle.std.proofs.lemmas.Bool.{cases_lt, cases_order, cond-false}
use Rattle.std.proofs.lemmas.List.{get_or-map, length-append, length-map, take_all}
use Rattle.std.proofs.lemmas.List.FromFn.{get_or-enumerate_from, length-enumerate_from}
use Rattle.cell_line.specs.Lines.{line_at}
use Rattle.cell_line.specs.RowTexts.{row_texts_of}
use Rattle.cell_units.specs.Rows.{all_rows, line_rows, rows_before}
use Rattle.edit_patch.specs.declared.edit.Edit.{Edit}
use Rattle.edit_patch.specs.Came.{origin_of}
use Rattle.edit_patch.proofs.Correspondence.{corresponds}
use Rattle.edit_patch.proofs.Fitting.{from_end}
use Rattle.wrap_map.proofs.Landed.{IsRow, length-shown, row-at, texts-at}
use Rattle.wrap_map.proofs.Snapshots.{shown-have-rows}
use Rattle.wrapped_lines.specs.Changed.{IsLandedAt}
use Rattle.wrapped_lines.specs.Laws.{IsKept, KeepsLine, KeptLinesStay}
use Rattle.wrapped_lines.specs.Places.{is_at, marks_at}
use Rattle.wrapped_lines.specs.WrappedSource.{WrappedSource, lines_of, row_texts, standing_lines}

abbrev Lines : Type 0
Lines = List (List (List ℕ))

-- ---- rows of lines

rows_before-next : (lines : Lines) (l : ℕ) → l < length lines → rows_before lines (l + 1) ≡ rows_before lines l + length (line_rows lines l)
rows_before-next lines l lt = ap (rows_before lines) (add-one l) ∙ go lines l lt where
  go : (lines : Lines) (l : ℕ) → l < length lines → rows_before lines (suc l) ≡ rows_before lines l + length (line_rows lines l)
  go [] l lt = absurd (omega (arith, lt))
  go (x ∷ xs) zero lt = ap length (append-nil x) ∙ omega arith
  go (x ∷ xs) (suc l) lt = omega (arith, length-append x (all_rows (take (suc l) xs)), length-append x (all_rows (take l xs)), go xs l (omega arith))

rows_before-rises : (lines : Lines) (l m : ℕ) → l ≤ m → rows_before lines l ≤ rows_before lines m
rows_before-rises [] zero m le = omega arith
rows_before-rises [] (suc l) m le = omega arith
rows_before-rises (x ∷ xs) zero m le = omega arith
rows_before-rises (x ∷ xs) (suc l) zero le = absurd (omega (arith, le))
rows_before-rises (x ∷ xs) (suc l) (suc m) le = omega (arith, length-append x (all_rows (take l xs)), length-append x (all_rows (take m xs)), rows_before-rises xs l m (omega arith))

-- a row of a line is one of all
row-within : (ls : Lines) (i k : ℕ) → i < length ls → k < length (line_rows ls i) → rows_before ls i + k < length (all_rows ls)
row-within ls i k lt within =
    let all : rows_before ls (length ls) ≡ length (all_rows ls) = ap (λ (xs : Lines). length (all_rows xs)) (take_all (length ls) ls (omega arith)) in
    omega (arith, rows_before-next ls i lt, rows_before-rises ls (i + 1) (length ls) (omega (arith, lt)), all, within)

-- a row that is in two lines is in one
one-line : (ls : Lines) (i k l m : ℕ) → i < length ls → l < length ls → k < length (line_rows ls i) → m < length (line_rows ls l)
    → rows_before ls i + k ≡ rows_before ls l + m → i ≡ l
one-line ls i k l m ilt llt kin min same = elim (cases_order i l) [
  | inl e ↦ e
  | inr (inl lt) ↦ absurd (omega (arith, rows_before-next ls i ilt, rows_before-rises ls (i + 1) l (omega (arith, lt)), same, kin))
  | inr (inr gt) ↦ absurd (omega (arith, rows_before-next ls l llt, rows_before-rises ls (l + 1) i (omega (arith, gt)), same, min))
]

some-is : (x : Bool) (n j : ℕ) → cond x None (Some n) ≡ Some j → (x ≡ false) × (n ≡ j)
some-is true n j h = absurd (cc)
some-is false n j h = (refl, cc)

-- ---- marks

length-marks : (places : List (Option ℕ)) (width : ℕ) (marks : List ℕ) → length (marks_at places width marks) ≡ length marks
length-marks places width marks =
    length-map (enumerate_from 0 marks) (λ (p : ℕ × ℕ). cond (is_at places p.0) width p.1) ∙ length-enumerate_from 0 marks

mark-is : (places : List (Option ℕ)) (width : ℕ) (marks : List ℕ) (i : ℕ) → i < length marks →
    get_or (marks_at places width marks) i 0 ≡ cond (is_at places i) width (get_or marks i 0)
mark-is places width marks i h =
    let f : ℕ × ℕ → ℕ = λ p. cond (is_at places p.0) width p.1 in
    get_or-map f (enumerate_from 0 marks) i (0, 0) 0 (omega (arith, length-enumerate_from 0 marks, h))
    ∙ ap f (get_or-enumerate_from 0 marks i (0, 0) h)
    ∙ ap (λ (n : ℕ). cond (is_at places n) width (get_or marks i 0)) (zero-add i)

module _ (old : WrappedSource) (places : List (Option ℕ)) (patch : List Edit) (one_each : length old.marks ≡ length (lines_of old)) where
  abbrev new : WrappedSource
  new = record old { marks = marks_at places old.width old.marks }

  abbrev was : Lines
  was = row_texts old

  abbrev is : Lines
  is = row_texts new

  new-each : length new.marks ≡ length (lines_of new)
  new-each = length-marks places old.width old.marks ∙ one_each

  are : length is ≡ length (lines_of old)
  are = length-shown (standing_lines new) new-each

  were : length was ≡ length (lines_of old)
  were = length-shown (standing_lines old) one_each

  -- a line that isn't at a place has the rows that it had
  same-texts : (i : ℕ) → i < length (lines_of old) → is_at places i ≡ false → line_rows is i ≡ line_rows was i
  same-texts i lt stays =
      texts-at (lines_of old) (marks_at places old.width old.marks) i lt new-each
      ∙ ap (row_texts_of (line_at (lines_of old) i))
      (mark-is places old.width old.marks i (omega (arith, lt, one_each)) ∙ cond-false (is_at places i) old.width (get_or old.marks i 0) stays)
      ∙ sym (texts-at (lines_of old) old.marks i lt one_each)

  module _ (landed : IsLandedAt old places new patch) where
    -- a new row came from a row of the same line, which didn't land
    record IsFrom (i line k : ℕ) : Type 0 where
      within : line < length (lines_of old)
      stays : is_at places line ≡ false
      there : k < length (line_rows was line)
      place : rows_before was line + k ≡ i

    row-from : (x j : ℕ) → x < length (all_rows is) → origin_of patch x ≡ Some j → (line : ℕ) × (k : ℕ) × IsFrom j line k
    row-from x j lt origin =
        let at = row-at is x lt in
        let line = at.0 in
        let k = at.1 in
        let row : IsRow is x line k = at.2 in
        let within : line < length (lines_of old) = omega (arith, row.line_within, are) in
        let said : cond (is_at places line) None (Some (rows_before was line + k)) ≡ Some j =
        sym (landed.came line k within row.within) ∙ ap (origin_of patch) row.place ∙ origin in
        let some = some-is (is_at places line) (rows_before was line + k) j said in (
          line,
          k,
          record {
            within = within;
            stays = some.0;
            there = omega (arith, row.within, ap length (same-texts line within some.0));
            place = some.1;
          },
        )

    -- where each row of a line stays the line didn't land
    kept-stays : (i : ℕ) → i < length (lines_of old) → KeepsLine patch was i → is_at places i ≡ false
    kept-stays i lt keeps =
        let here : i < length was = omega (arith, lt, were) in
        let some : 0 < length (line_rows was i) = omega (arith, shown-have-rows (standing_lines old) i [] here) in
        let j = rows_before was i + 0 in
        let from = ((corresponds patch landed.normal).stays j).1 (keeps 0 some) in
        let x = from.0 in
        let low : j < length (all_rows was) = row-within was i 0 here some in
        let within : x < length (all_rows is) = elim (cases_lt x (length (all_rows is))) [
          | inl l ↦ l
          | inr ge ↦
              let k = x - length (all_rows is) in
              let past = from_end patch (all_rows was) (all_rows is) k landed.normal landed.fits in
              let at : length (all_rows is) + k ≡ x = omega (arith, ge) in
              let beyond : Some (length (all_rows was) + k) ≡ Some j = sym past ∙ ap (origin_of patch) at ∙ from.1 in
              let more : length (all_rows was) + k ≡ j = cc in
              absurd (omega (arith, more, low))
        ] in
        let r = row-from x j within from.1 in
        let f : IsFrom j r.0 r.1 = r.2 in
        let same : r.0 ≡ i = one-line was r.0 r.1 i 0 (omega (arith, f.within, were)) here f.there some f.place in
        subst (λ (line : ℕ). is_at places line ≡ false) same f.stays

    -- and where it didn't land, each stays
    rows-stay : (i : ℕ) → i < length (lines_of old) → is_at places i ≡ false → KeepsLine patch was i
    rows-stay i lt stays k there =
        let j = rows_before was i + k in
        let came : origin_of patch (rows_before is i + k) ≡ Some j =
        landed.came i k lt (omega (arith, there, ap length (same-texts i lt stays))) ∙ ap (λ (b : Bool). cond b None (Some j)) stays in
        ((corresponds patch landed.normal).stays j).0 (rows_before is i + k, came)

    -- a line of which each row stays is where it was
    is-kept : (line : ℕ) → line < length was → KeepsLine patch was line → IsKept patch was is line
    is-kept line lt keeps =
        let within : line < length (lines_of old) = omega (arith, lt, were) in
        let stays = kept-stays line within keeps in
        let size = ap length (same-texts line within stays) in
        record {
          there = omega (arith, within, are);
          size = size;
          rows = λ k there.
              landed.came line k within (omega (arith, there, size))
              ∙ ap (λ (b : Bool). cond b None (Some (rows_before was line + k))) stays;
        }

pub kept-lines : KeptLinesStay
kept-lines old new places rows one_each landed line lt keeps =
    subst (λ (w : WrappedSource). IsKept rows (row_texts old) (row_texts w) line) (sym landed.made)
    (is-kept old places rows one_each (subst (λ (w : WrappedSource). IsLandedAt old places w rows) landed.made landed) line lt keeps)

pub others-keep : (old new : WrappedSource) (places : List (Option ℕ)) (rows : List Edit) → length old.marks ≡ length (lines_of old) → IsLandedAt old places new rows
    → (line : ℕ) → line < length (row_texts old) → is_at places line ≡ false → KeepsLine rows (row_texts old) line
others-keep old new places rows one_each landed line lt stays =
    rows-stay old places rows one_each (subst (λ (w : WrappedSource). IsLandedAt old places w rows) landed.made landed)
    line (omega (arith, lt, were old places rows one_each)) stays
