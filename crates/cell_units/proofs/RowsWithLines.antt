-- The rows of lines that an operation doesn't touch go with these.
use Rattle.std.proofs.Common.{◌≡◌, ℕ, ◌+◌, ◌-◌, ◌<◌, ◌≤◌, ◌⊎◌, zero, suc, not, Bool, true, false, List, [], ◌∷◌, ◌++◌, length, map, take, drop, replicate, get_or, refl, sym, ap, subst, ◌∙◌, arith, inl, inr, length-append}
use Rattle.std.specs.List.{count_by, prefix_len}
use Rattle.std.proofs.lemmas.Bool.{cases_lt}
use Rattle.std.proofs.lemmas.List.{get_or-take, get_or-drop, take_all, length-drop, length-map, length-replicate, length-take-le}
use Rattle.cell_units.specs.declared.place.Bias.{Bias}
use Rattle.cell_units.specs.declared.place.Bias.TheVariants.{Left, Right}
use Rattle.cell_units.specs.Text.{row_end, row_of, row_start}
use Rattle.cell_units.specs.Record.{Record}
use Rattle.cell_units.specs.Operation.{Operation, operated}
use Rattle.cell_units.specs.Inlaid.{Token}
use Rattle.cell_units.specs.Folded.{display_lines, line_of, span_end, span_start}
use Rattle.cell_units.specs.Pieces.{pieces_of}
use Rattle.cell_units.specs.Layers.{place_of}
use Rattle.cell_units.specs.Touched.{RowRange, Touched, NoLine, EachLine, Rows, is_touched, one_run, touched, touched_after, touched_before}
use Rattle.cell_units.specs.Lawful.{HasLawfulEntries, IsAllowed, source_of}
use Rattle.cell_units.specs.LineCounts.{GoWithLines, IsLineThen, LiesBefore, LiesBehind, TouchesOneRun, line_of_row_end, line_of_row_start, lines_of, operated_offset, operated_piece}
use Rattle.cell_units.proofs.FoundEntries.{All-from_Every}
use Rattle.cell_units.proofs.LineSpans.{place-line, span-has}
use Rattle.cell_units.proofs.Sources.{ends_open, row-lt}
use Rattle.cell_units.proofs.TouchedRuns.{count-append, count-cons}
use Rattle.cell_units.proofs.UntouchedLines.{AreApart, KeepsLines, LieApart}
use Rattle.cell_units.proofs.OperatedLines.{keeps_lines}
use Rattle.cell_units.proofs.RowsAway.{row_end-within, row_of-end, row_of-start}
use Rattle.cell_units.proofs.KeptRows.{keeps_rows}

-- ---- the numbers of a run

count_false : (n : ℕ) → count_by (λ t. t) (replicate n false) ≡ 0
count_false zero = refl
count_false (suc n) = omega (arith, count-cons (λ t. t) false (replicate n false), count_false n)

count_true : (n : ℕ) → count_by (λ t. t) (replicate n true) ≡ n
count_true zero = refl
count_true (suc n) = omega (arith, count-cons (λ t. t) true (replicate n true), count_true n)

count_run : (front middle back : ℕ) → count_by (λ t. t) (one_run front middle back) ≡ middle
count_run front middle back =
    omega (
      arith,
      count-append (λ t. t) (replicate front false) (replicate middle true ++ replicate back false),
      count-append (λ t. t) (replicate middle true) (replicate back false),
      count_false front,
      count_true middle,
      count_false back,
    )

long_run : (front middle back : ℕ) → length (one_run front middle back) ≡ front + (middle + back)
long_run front middle back =
    omega (
      arith,
      length-append (replicate front false) (replicate middle true ++ replicate back false),
      length-append (replicate middle true) (replicate back false),
      length-replicate front false,
      length-replicate middle true,
      length-replicate back false,
    )

front_run : (front middle back : ℕ) → 0 < middle → prefix_len not (one_run front middle back) ≡ front
front_run zero zero back some = absurd (omega arith)
front_run zero (suc middle) back some = refl
front_run (suc front) middle back some = ap (λ n. 1 + n) (front_run front middle back some) ∙ omega arith

-- of one list of flags there is one run, if it isn't empty
same-front : (f m k f' m' k' : ℕ) → 0 < m → one_run f m k ≡ one_run f' m' k' → f ≡ f'
same-front f m k f' m' k' some e =
    let middle : m ≡ m' = sym (count_run f m k) ∙ ap (count_by (λ t. t)) e ∙ count_run f' m' k' in
    sym (front_run f m k some) ∙ ap (prefix_len not) e ∙ front_run f' m' k' (omega (arith, some, middle))

same-middle : (f m k f' m' k' : ℕ) → one_run f m k ≡ one_run f' m' k' → m ≡ m'
same-middle f m k f' m' k' e = sym (count_run f m k) ∙ ap (count_by (λ t. t)) e ∙ count_run f' m' k'

-- flags that are all one
all_flags : {X : Type 0} (v : Bool) (xs : List X) → map (λ x. v) xs ≡ replicate (length xs) v
all_flags v [] = refl
all_flags v (x ∷ xs) = λ i. v ∷ all_flags v xs i

none_is : {X : Type 0} (xs : List X) (f m k : ℕ) → map (λ x. false) xs ≡ one_run f m k → m ≡ 0
none_is xs f m k e = sym (count_run f m k) ∙ ap (count_by (λ t. t)) (sym e ∙ all_flags false xs) ∙ count_false (length xs)

each_is : {X : Type 0} (xs : List X) (f m k : ℕ) → map (λ x. true) xs ≡ one_run f m k → (f ≡ 0) × (m ≡ length xs)
each_is xs f m k e =
    let all : m ≡ length xs = sym (count_run f m k) ∙ ap (count_by (λ t. t)) (sym e ∙ all_flags true xs) ∙ count_true (length xs) in
    let long : f + (m + k) ≡ length xs = sym (long_run f m k) ∙ ap length (sym e) ∙ length-map xs (λ x. true) in
    (omega (arith, all, long), all)

-- ---- a position whose row isn't touched

module _ (r : Record) (is : HasLawfulEntries r) where
  abbrev lines : List (List Token)
  lines = display_lines r.text r.inlays r.folds

  -- its line is one of the record's, and spans its row
  line-within : (p : ℕ) (bias : Bias) → p ≤ length r.text → line_of r.text r.inlays r.folds p bias < length lines
  line-within p bias le =
      let s = source_of r in
      omega (
        arith,
        row-lt s is.source (place_of s p bias),
        place-line s (ends_open s is.source) p bias le,
        length-map (display_lines r.text r.inlays r.folds) pieces_of,
      )

  -- where it is before the touched ones, its row is before those that are touched. Where it is after them, its row is
  -- after those
  module _ (rows : RowRange) (front middle : ℕ) (apart : LieApart rows r front middle) (p : ℕ) (bias : Bias) (le : p ≤ length r.text) where
    abbrev line : ℕ
    line = line_of r.text r.inlays r.folds p bias

    row-in_front : line < front → row_of r.text p < rows.first
    row-in_front lt =
        let spans = span-has (source_of r) (ends_open (source_of r) is.source) p bias le in
        let long = line-within p bias le in
        let end : span_end r.text (get_or (take front lines) line []) < rows.first
        = All-from_Every (λ (l : List Token). span_end r.text l < rows.first) (take front lines) apart.in_front line [] (within (cases_lt front (length lines)) long) in
        omega (arith, spans.1, subst (λ (l : List Token). span_end r.text l < rows.first) (get_or-take front lines line [] lt) end) where
          within : (front < length lines) ⊎ (length lines ≤ front) → line < length lines → line < length (take front lines)
          within (inl l) long = omega (arith, lt, length-take-le front lines (omega (arith, l)))
          within (inr l) long = omega (arith, long, ap (λ (ls : List (List Token)). length ls) (take_all front lines l))

    row-behind : front + middle ≤ line → rows.last < row_of r.text p
    row-behind from =
        let spans = span-has (source_of r) (ends_open (source_of r) is.source) p bias le in
        let long = line-within p bias le in
        let at : front + middle + (line - (front + middle)) ≡ line = omega (arith, from) in
        let start : rows.last < span_start r.text (get_or (drop (front + middle) lines) (line - (front + middle)) [])
        = All-from_Every (λ (l : List Token). rows.last < span_start r.text l) (drop (front + middle) lines) apart.behind (line - (front + middle)) []
        (omega (arith, long, from, length-drop (front + middle) lines)) in
        omega (arith, spans.0, subst (λ (l : List Token). rows.last < span_start r.text l) (get_or-drop (front + middle) lines (line - (front + middle)) [] ∙ ap (λ k. get_or lines k []) at) start)

-- ---- after an operation

module _ (r : Record) (is : HasLawfulEntries r) (operation : Operation) (ok : IsAllowed operation r)
    (run : TouchesOneRun (touched operation r) r (operated operation r)) where
  abbrev r' : Record
  r' = operated operation r

  -- of the lines before and after, those outside of the run are as many
  pub lines-after : length (lines_of r') + run.before ≡ length (lines_of r) + run.after
  lines-after =
      omega (
        arith,
        count-flags (touched operation r) r,
        count-flags' (touched operation r) r',
        ap length run.before_are,
        ap length run.after_are,
        long_run run.front run.before run.back,
        long_run run.front run.after run.back,
      ) where
        count : (q : Record) → length (lines_of q) ≡ length (display_lines q.text q.inlays q.folds)
        count q = length-map (display_lines q.text q.inlays q.folds) pieces_of

        count-flags : (t : Touched) (q : Record) → length (lines_of q) ≡ length (touched_before t q)
        count-flags NoLine q = count q ∙ sym (length-map (display_lines q.text q.inlays q.folds) (λ line. false))
        count-flags EachLine q = count q ∙ sym (length-map (display_lines q.text q.inlays q.folds) (λ line. true))
        count-flags (Rows rows after) q = count q ∙ sym (length-map (display_lines q.text q.inlays q.folds) (is_touched q.text rows))

        count-flags' : (t : Touched) (q : Record) → length (lines_of q) ≡ length (touched_after t q)
        count-flags' NoLine q = count q ∙ sym (length-map (display_lines q.text q.inlays q.folds) (λ line. false))
        count-flags' EachLine q = count q ∙ sym (length-map (display_lines q.text q.inlays q.folds) (λ line. true))
        count-flags' (Rows before rows) q = count q ∙ sym (length-map (display_lines q.text q.inlays q.folds) (is_touched q.text rows))

  goes : (p : ℕ) (bias : Bias) → p ≤ length r.text → (row : ℕ) → row_of r.text p ≡ row → (line' : ℕ)
      → (LiesBefore (touched operation r) row → line' ≡ line_of r.text r.inlays r.folds p bias)
      → (LiesBehind (touched operation r) row → line' + length (lines_of r) ≡ line_of r.text r.inlays r.folds p bias + length (lines_of r'))
      → IsLineThen run.front run.before run.after (line_of r.text r.inlays r.folds p bias) line'
  goes p bias le row at line' before behind =
      go (touched operation r) k.run.front k.run.before k.run.after k.run.back k.run.before_are k.run.after_are run.before_are run.after_are k.apart before behind where
        k : KeepsLines (touched operation r) (operated_piece operation) r (operated operation r)
        k = keeps_lines r is operation ok

        line : ℕ
        line = line_of r.text r.inlays r.folds p bias

        count : (q : Record) → length (lines_of q) ≡ length (display_lines q.text q.inlays q.folds)
        count q = length-map (display_lines q.text q.inlays q.folds) pieces_of

        go : (t : Touched) (f m n b : ℕ) → touched_before t r ≡ one_run f m b → touched_after t r' ≡ one_run f n b
            → touched_before t r ≡ one_run run.front run.before run.back → touched_after t r' ≡ one_run run.front run.after run.back
            → AreApart t r f m → (LiesBefore t row → line' ≡ line) → (LiesBehind t row → line' + length (lines_of r) ≡ line + length (lines_of r'))
            → IsLineThen run.front run.before run.after line line'
        go NoLine f m n b e e' h h' apart before behind =
            let none = none_is (display_lines r.text r.inlays r.folds) run.front run.before run.back h in
            let none' = none_is (display_lines r'.text r'.inlays r'.folds) run.front run.after run.back h' in
            record { in_front = λ lt. before tt; behind = λ from. omega (arith, none, none', before tt) }
        go EachLine f m n b e e' h h' apart before behind =
            let each = each_is (display_lines r.text r.inlays r.folds) run.front run.before run.back h in
            let long = line-within r is p bias le in
            record { in_front = λ lt. absurd (omega (arith, lt, each.0)); behind = λ from. absurd (omega (arith, from, each.1, long)) }
        go (Rows rows after) f m n b e e' h h' apart before behind =
            let same : f ≡ run.front = same-front f m b run.front run.before run.back apart.some (sym e ∙ h) in
            let middle : m ≡ run.before = same-middle f m b run.front run.before run.back (sym e ∙ h) in
            let middle' : n ≡ run.after = same-middle f n b run.front run.after run.back (sym e' ∙ h') in
            let long : length (lines_of r) ≡ f + (m + b) = count r ∙ sym (length-map (display_lines r.text r.inlays r.folds) (is_touched r.text rows)) ∙ ap length e ∙ long_run f m b in
            let long' : length (lines_of r') ≡ f + (n + b) = count r' ∙ sym (length-map (display_lines r'.text r'.inlays r'.folds) (is_touched r'.text after)) ∙ ap length e' ∙ long_run f n b in
            record {
              in_front = λ lt. before (omega (arith, at, row-in_front r is rows f m apart p bias le (omega (arith, lt, same))));
              behind = λ from.
                  let moved = behind (omega (arith, at, row-behind r is rows f m apart p bias le (omega (arith, from, same, middle)))) in
                  omega (arith, moved, long, long', middle, middle');
            }

  pub go_with_lines : GoWithLines (operated_offset operation) r (operated operation r) run.front run.before run.after
  go_with_lines = record {
    start = λ o le.
        let p = row_start r.text o in
        goes p Left (omega (arith, le)) (row_of r.text o) (row_of-start r.text o le) (line_of_row_start r' (operated_offset operation o))
        (λ lies. let k = keeps_rows r is operation ok in (k.before o lies).start)
        (λ lies. let k = keeps_rows r is operation ok in (k.behind o le lies).start);
    end = λ o le.
        let p = row_end r.text o in
        goes p Right (row_end-within r.text o le) (row_of r.text o) (row_of-end r.text o le) (line_of_row_end r' (operated_offset operation o))
        (λ lies. let k = keeps_rows r is operation ok in (k.before o lies).end)
        (λ lies. let k = keeps_rows r is operation ok in (k.behind o le lies).end);
  }
