-- What is read of lines as they are wrapped.
use Rattle.std.proofs.Common.{◌≡◌, ℕ, zero, suc, ◌+◌, ◌-◌, ◌<◌, ◌≤◌, ◌^◌, List, [], ◌∷◌, length, map, get_or, take, drop, Some, None, sym, ap, ◌∙◌, arith, length-append}
use Rattle.std.specs.List.{slice_get, zip}
use Rattle.std.proofs.lemmas.List.{drop_more, take_more}
use Rattle.std.proofs.lemmas.List.Elements.{All-cons, All-get_or, All-nil}
use Rattle.std.proofs.lemmas.Option.{slice_get-get_or}
use Rattle.cell_line.specs.declared.element.Element.{Element}
use Rattle.cell_line.specs.Lines.{line_at}
use Rattle.cell_line.specs.RowTexts.{row_texts_of}
use Rattle.cell_units.specs.Lawful.{IsWidth}
use Rattle.cell_units.specs.Rows.{HaveRows, IsLineAt, all_rows, line_rows}
use Rattle.wrap_map.specs.Standing.{IsStanding, Standing, mark_at, shown_rows, stood_of, stood_with}
use Rattle.wrap_map.specs.Stood.{Stood, rows_in, stood_at, unwrapped}
use Rattle.wrap_map.proofs.Spreads.{rows-append}
use Rattle.wrap_map.proofs.Standings.{length-pairs, length-row_texts, pair-at, rows-stood, rows_before-stood, stood, texts}

-- ---- line by line

module _ (s : Standing) (is : IsStanding s) where
  pub count-stood : length (stood_of s) ≡ length s.lines
  count-stood = length-pairs stood s.lines s.marks is.one_each

  pub count-shown : length (shown_rows s) ≡ length s.lines
  count-shown = length-pairs texts s.lines s.marks is.one_each

  pub stood-there : (k : ℕ) → k < length s.lines → stood_at (stood_of s) k ≡ stood_with (line_at s.lines k) (mark_at s k)
  stood-there k within = pair-at stood s.lines s.marks k unwrapped is.one_each within

  pub rows-there : (k : ℕ) → k < length s.lines → line_rows (shown_rows s) k ≡ row_texts_of (line_at s.lines k) (mark_at s k)
  rows-there k within = pair-at texts s.lines s.marks k [] is.one_each within

  pub mark-lawful : (k : ℕ) → k < length s.lines → IsWidth (mark_at s k)
  mark-lawful k within = All-get_or IsWidth s.marks k 0 (omega (arith, is.one_each)) is.lawful

  pub count-there : (k : ℕ) → k < length s.lines → length (line_rows (shown_rows s) k) ≡ length (stood_at (stood_of s) k).cuts + 1
  count-there k within =
      omega (
        arith,
        ap length (rows-there k within),
        length-row_texts (line_at s.lines k) (mark_at s k),
        ap (λ (l : Stood). length l.cuts) (stood-there k within),
      )

-- each line has a row
have-rows : (ps : List (List Element × ℕ)) → HaveRows (map texts ps)
have-rows [] = All-nil (λ rows. 1 ≤ length rows)
have-rows (p ∷ ps) =
    All-cons (λ rows. 1 ≤ length rows) (texts p) (map texts ps) (omega (arith, length-row_texts p.0 p.1)) (have-rows ps)

pub shown-have-rows : (s : Standing) → HaveRows (shown_rows s)
shown-have-rows s = have-rows (zip s.lines s.marks)

-- ---- rows

line-of-all : (lines : List (List (List ℕ))) (k : ℕ) → length (line_rows lines k) ≤ length (all_rows lines)
line-of-all [] k = omega arith
line-of-all (l ∷ ls) zero = omega (arith, length-append l (all_rows ls))
line-of-all (l ∷ ls) (suc k) = omega (arith, length-append l (all_rows ls), line-of-all ls k)

pub rows-small : (s : Standing) → IsStanding s → (k : ℕ) → length (line_rows (shown_rows s) k) < 2 ^ 32
rows-small s is k = omega (arith, line-of-all (shown_rows s) k, is.room.rows_fit)

rows-next : (ls : List Stood) (k : ℕ) → k < length ls → rows_in (take (k + 1) ls) ≡ rows_in (take k ls) + (length (stood_at ls k).cuts + 1)
rows-next ls k within =
    ap rows_in (take_more ls k unwrapped within) ∙ rows-append (take k ls) (stood_at ls k ∷ []) ∙ omega arith

pub found-at : (s : Standing) → IsStanding s → (row line before : ℕ) → line < length (stood_of s) → rows_in (take line (stood_of s)) ≤ row → row < rows_in (take (line + 1) (stood_of s))
    → before ≡ rows_in (take line (stood_of s)) → IsLineAt (shown_rows s) row (Some (line, row - before))
found-at s is row line before within begun ends e =
    let lines : line < length s.lines = omega (arith, count-stood s is) in (
      omega (arith, count-shown s is),
      omega (arith, count-there s is line lines, rows-next (stood_of s) line within),
      omega (arith, rows_before-stood s line),
    )

pub none-at : (s : Standing) (row : ℕ) → rows_in (stood_of s) ≤ row → IsLineAt (shown_rows s) row None
none-at s row past = omega (arith, rows-stood s)

-- the first of those from a row on is the row
pub first-text : (rows texts : List (List ℕ)) (row : ℕ) (text : List ℕ) → row < length rows → texts ≡ take 1 (drop row rows) → text ≡ get_or texts 0 text → slice_get rows row ≡ Some text
first-text rows texts row text within e is =
    let first = ap (λ (l : List (List ℕ)). get_or (take 1 l) 0 text) (drop_more rows row text within) in
    slice_get-get_or rows row text within
    ∙ ap Some (sym (is ∙ ap (λ (l : List (List ℕ)). get_or l 0 text) e ∙ first))

pub within-lines : (s : Standing) → IsStanding s → (k : ℕ) → k < length (shown_rows s) → k < length s.lines
within-lines s is k within = omega (arith, count-shown s is)
