-- The patch of rows that a landing returns.
use Rattle.std.proofs.Common.{◌≡◌, ⊎_elim, ℕ, suc, ◌+◌, ◌-◌, ◌<◌, ◌≤◌, Bool, true, false, cond, List, [], ◌∷◌, length, take, get_or, Some, None, refl, ap, sym, subst, ◌∙◌, arith, length-append, zero-add}
use Rattle.std.specs.Prelude.{slice_get}
use Rattle.std.proofs.lemmas.Bool.{cases_lt, cond-false}
use Rattle.std.proofs.lemmas.List.{append-nil, take_all}
use Rattle.std.proofs.lemmas.List.Concat.{get_or-flat_map}
use Rattle.std.proofs.lemmas.List.Folds.{length-flat_map-take}
use Rattle.std.proofs.lemmas.Option.{slice_get-get_or}
use Rattle.cell_line.specs.declared.element.Element.{Element}
use Rattle.cell_line.specs.declared.lines.Run.{Run}
use Rattle.cell_line.specs.Lines.{line_at}
use Rattle.cell_line.specs.RowTexts.{row_texts_of}
use Rattle.cell_units.specs.Rows.{all_rows, line_rows, rows_before}
use Rattle.edit_patch.specs.declared.edit.Edit.{Edit}
use Rattle.edit_patch.specs.Came.{origin_of}
use Rattle.edit_patch.specs.Patch.{IsPatch}
use Rattle.wrap_map.specs.Landing.{IsPatchOfLanded, is_landed, marks_landed, row_origin}
use Rattle.wrap_map.specs.Standing.{Standing, shown_rows, stood_of}
use Rattle.wrap_map.specs.Stood.{Stood, rows_in, stood_at}
use Rattle.wrap_map.proofs.Carried.{landed-plan, landed_standing, length-marks_landed, mark-landed, stood-at}
use Rattle.wrap_map.proofs.Groups.{IsDoneTo, all-came}
use Rattle.wrap_map.proofs.Standings.{length-pairs, length-row_texts, pair-at, rows-stood, rows_before-stood, texts}
use Rattle.wrap_map.proofs.StoodRows.{rows-agree, rows-span}
use Rattle.wrap_map.proofs.Synced.{length-stood_of}

-- ---- the rows of one line

pub texts-at : (lines : List (List Element)) (marks : List ℕ) (i : ℕ) → i < length lines → length marks ≡ length lines
    → line_rows (shown_rows (record { lines = lines; marks = marks })) i ≡ row_texts_of (line_at lines i) (get_or marks i 0)
texts-at lines marks i h e = pair-at texts lines marks i [] e h

pub length-texts_at : (s : Standing) (i : ℕ) → i < length s.lines → length s.marks ≡ length s.lines
    → length (line_rows (shown_rows s) i) ≡ 1 + length (stood_at (stood_of s) i).cuts
length-texts_at s i h e =
    ap length (texts-at s.lines s.marks i h e)
    ∙ length-row_texts (line_at s.lines i) (get_or s.marks i 0)
    ∙ ap (λ st. 1 + length st.cuts) (sym (stood-at s.lines s.marks i h e))

-- a line that did not land has the rows that it had
pub texts-kept : (s : Standing) (since : List Edit) (run : Run) (width i : ℕ) → i < length s.lines → length s.marks ≡ length s.lines
    → is_landed since run i ≡ false → line_rows (shown_rows (landed_standing s since run width)) i ≡ line_rows (shown_rows s) i
texts-kept s since run width i h e f =
    texts-at s.lines (marks_landed since run width s.marks) i h (length-marks_landed since run width s.marks ∙ e)
    ∙ ap (row_texts_of (line_at s.lines i)) (mark-landed since run width s.marks i (omega arith) ∙ cond-false (is_landed since run i) width (get_or s.marks i 0) f)
    ∙ sym (texts-at s.lines s.marks i h e)

pub length-shown : (s : Standing) → length s.marks ≡ length s.lines → length (shown_rows s) ≡ length s.lines
length-shown s e = length-pairs texts s.lines s.marks e

-- ---- a row, by its line

-- a row is so far in that line
pub record IsRow (rows : List (List (List ℕ))) (i line k : ℕ) : Type 0 where
  pub line_within : line < length rows
  pub within : k < length (line_rows rows line)
  pub place : rows_before rows line + k ≡ i

row-cons : (first : List (List ℕ)) (rows : List (List (List ℕ))) (i line k : ℕ) → length first ≤ i → IsRow rows (i - length first) line k
    → IsRow (first ∷ rows) i (suc line) k
row-cons first rows i line k h r =
    let place = r.place in
    let l = length-append first (all_rows (take line rows)) in
    record {
      line_within = let w = r.line_within in omega arith;
      within = r.within;
      place = omega (arith, place, l, h);
    }

pub row-at : (rows : List (List (List ℕ))) (i : ℕ) → i < length (all_rows rows) → (line : ℕ) × (k : ℕ) × IsRow rows i line k
row-at [] i h = absurd (omega arith)
row-at (first ∷ rows) i h =
    let l = length-append first (all_rows rows) in
    ⊎_elim
    (λ (a : i < length first). (0, i, record { line_within = omega arith; within = a; place = zero-add i }))
    (λ (a : length first ≤ i).
    let r = row-at rows (i - length first) (omega (arith, l, h)) in
    (suc r.0, r.1, row-cons first rows i r.0 r.1 a r.2))
    (cases_lt i (length first))

-- the text at the place of a row
row-get : (rows : List (List (List ℕ))) (line k : ℕ) → line < length rows → k < length (line_rows rows line)
    → slice_get (all_rows rows) (rows_before rows line + k) ≡ Some (get_or (line_rows rows line) k [])
row-get rows line k h l =
    let f : List (List ℕ) → List (List ℕ) = λ x. x in
    let most = length-flat_map-take f rows line [] h in
    slice_get-get_or (all_rows rows) (rows_before rows line + k) [] (omega (arith, most, l))
    ∙ ap Some (get_or-flat_map f rows line k [] [] h l)

-- ---- the patch

some-of : (x : Bool) (n j : ℕ) → cond x None (Some n) ≡ Some j → (x ≡ false) × (n ≡ j)
some-of true n j h = absurd (cc)
some-of false n j h = (refl, cc)

pub rows-came : (s : Standing) (since : List Edit) (run : Run) (width : ℕ) (edits : List Edit) (lines : List Stood) (done line k : ℕ)
    → length s.marks ≡ length s.lines
    → IsDoneTo (stood_of s) (stood_of (landed_standing s since run width)) (is_landed since run) lines edits done
    → ((i : ℕ) → done ≤ i → is_landed since run i ≡ false)
    → line < length s.lines → k < length (line_rows (shown_rows (landed_standing s since run width)) line)
    → origin_of edits (rows_before (shown_rows (landed_standing s since run width)) line + k) ≡ row_origin s since run line k
rows-came s since run width edits lines done line k e d none h kh =
    let new = landed_standing s since run width in
    let e' : length new.marks ≡ length new.lines = length-marks_landed since run width s.marks ∙ e in
    let long = length-stood_of new e' in
    let rows = length-texts_at new line h e' in
    ap (λ (n : ℕ). origin_of edits (n + k)) (rows_before-stood new line)
    ∙ all-came (stood_of s) (stood_of new) (is_landed since run) lines edits done line k (landed-plan s since run width e) d none (omega (arith, long, h)) (omega (arith, rows, kh))
    ∙ ap (λ (n : ℕ). cond (is_landed since run line) None (Some (n + k))) (sym (rows_before-stood s line))

rows-same : (s : Standing) (since : List Edit) (run : Run) (width : ℕ) (edits : List Edit) (lines : List Stood) (done i j : ℕ)
    → length s.marks ≡ length s.lines
    → IsDoneTo (stood_of s) (stood_of (landed_standing s since run width)) (is_landed since run) lines edits done
    → ((i : ℕ) → done ≤ i → is_landed since run i ≡ false)
    → i < length (all_rows (shown_rows (landed_standing s since run width))) → origin_of edits i ≡ Some j
    → slice_get (all_rows (shown_rows (landed_standing s since run width))) i ≡ slice_get (all_rows (shown_rows s)) j
rows-same s since run width edits lines done i j e d none h came =
    let new = landed_standing s since run width in
    let e' : length new.marks ≡ length new.lines = length-marks_landed since run width s.marks ∙ e in
    let at = row-at (shown_rows new) i h in
    let line = at.0 in let k = at.1 in
    let r : IsRow (shown_rows new) i line k = at.2 in
    let place = r.place in
    let long = length-shown new e' in let long-old = length-shown s e in
    let w = r.line_within in
    let there : line < length s.lines = omega (arith, long, w) in
    let from = some-of (is_landed since run line) (rows_before (shown_rows s) line + k) j
    (sym (rows-came s since run width edits lines done line k e d none there r.within) ∙ ap (origin_of edits) place ∙ came) in
    let kept = texts-kept s since run width line there e from.0 in
    ap (slice_get (all_rows (shown_rows new))) (sym place)
    ∙ row-get (shown_rows new) line k w r.within
    ∙ ap (λ (xs : List (List ℕ)). Some (get_or xs k [])) kept
    ∙ sym (row-get (shown_rows s) line k (omega (arith, long-old, there)) (subst (λ (xs : List (List ℕ)). k < length xs) kept r.within))
    ∙ ap (slice_get (all_rows (shown_rows s))) from.1

pub patch-of_landed : (s : Standing) (since : List Edit) (run : Run) (width : ℕ) (edits : List Edit) (lines : List Stood) (done : ℕ)
    → length s.marks ≡ length s.lines
    → IsDoneTo (stood_of s) (stood_of (landed_standing s since run width)) (is_landed since run) lines edits done
    → ((i : ℕ) → done ≤ i → is_landed since run i ≡ false)
    → IsPatchOfLanded s (landed_standing s since run width) since run edits
patch-of_landed s since run width edits lines done e d none =
    let new = landed_standing s since run width in
    let before = stood_of s in let after = stood_of new in
    let plan = landed-plan s since run width e in
    let same_long = plan.same_long in
    let within = d.within in
    let n = length before in
    let old-rows : length (all_rows (shown_rows s)) ≡ rows_in (take n before) = rows-stood s ∙ ap rows_in (sym (take_all n before (omega arith))) in
    let new-rows : length (all_rows (shown_rows new)) ≡ rows_in (take n after) = rows-stood new ∙ ap rows_in (sym (take_all n after (omega arith))) in
    let old-span = rows-span before done n within (omega arith) in
    let new-span = rows-span after done n within (omega arith) in
    let even = rows-agree before after done n within (omega arith) (omega arith) (λ i a b. plan.kept i (none i a)) in
    let lengths = d.edits_to.lengths in
    record {
      normal = subst IsPatch (append-nil edits) (d.edits_to.patch [] tt);
      fits = record {
        within = λ k x h. let w = d.edits_to.within k x h in (omega (arith, w.0, old-rows, old-span), omega (arith, w.1, new-rows, new-span));
        lengths = omega (arith, lengths, even, old-rows, new-rows);
        same = λ i j h came. rows-same s since run width edits lines done i j e d none h came;
      };
      came = λ line k h kh. rows-came s since run width edits lines done line k e d none h kh;
    }
