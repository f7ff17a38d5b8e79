-- The display lines that an operation splices.
use Rattle.std.proofs.Common.{◌≡◌, ℕ, ◌+◌, ◌-◌, ◌≤◌, Bool, true, false, List, [], ◌∷◌, ◌++◌, length, map, take, drop, replicate, refl, sym, ap, subst, ◌∙◌, arith, append-nil}
use Rattle.std.proofs.lemmas.List.{length-map, length-take-le, map-append, take_at, drop_at, drop_all, take-map, drop-map}
use Rattle.unicode_segmentation.specs.Grapheme.{graphemes}
use Rattle.cell_units.specs.declared.piece.Piece.{Piece}
use Rattle.cell_line.specs.Elements.{clusters, elements_of, placed}
use Rattle.plain_rows.specs.Rows.{line_elements}
use Rattle.cell_units.specs.Record.{Record, plain_marks}
use Rattle.cell_units.specs.Operation.{Operation, Replace, AddInlay, RemoveInlay, AddFold, RemoveFold, AddBlock, RemoveBlock, SetTab, SetWidth, operated}
use Rattle.cell_units.specs.Folded.{display_lines}
use Rattle.cell_units.specs.Touched.{Touched, NoLine, EachLine, Rows, row_range, touched, touched_before, touched_after, one_run, untouched}
use Rattle.cell_units.specs.LineCounts.{KeepsPieces, lines_of, line_of_row_start, line_of_row_end, operated_piece}
use Rattle.cell_units.specs.Lawful.{HasLawfulEntries, IsAllowed, IsMarked}
use Rattle.cell_units.proofs.LawfulOperations.{lawful-operated}
use Rattle.cell_units.proofs.OperatedLines.{keeps_lines}
use Rattle.cell_units.proofs.TouchedRuns.{rows_are_one_run}
use Rattle.display_sheet.specs.LineStep.{flags_before, flags_after, line_step}
use Rattle.display_sheet.specs.LineSplices.{IsLineSplice}
use Rattle.display_sheet.proofs.StepRuns.{kept_marks, stepped_run}
use Rattle.display_sheet.proofs.StepLaws.{length-run, length-before, length-after, length-marked}
use Rattle.display_sheet.proofs.StepSplices.{same_run}

-- moving keeps the clusters
clusters-moved : (operation : Operation) (ps : List Piece) → clusters (map (operated_piece operation) ps) ≡ clusters ps
clusters-moved operation [] = refl
clusters-moved operation (p ∷ ps) = λ i. graphemes true (same operation i) ++ clusters-moved operation ps i where
  same : (operation : Operation) → (operated_piece operation p).text ≡ p.text
  same (Replace a b s) = refl
  same (AddInlay inlay) = refl
  same (RemoveInlay id) = refl
  same (AddFold fold) = refl
  same (RemoveFold id) = refl
  same (AddBlock row id side lines) = refl
  same (RemoveBlock id) = refl
  same (SetTab tab) = refl
  same (SetWidth width) = refl

elements-moved : (operation : Operation) (tab : ℕ) (lines : List (List Piece)) →
    map (λ pieces. elements_of pieces tab) (map (map (operated_piece operation)) lines) ≡ map (λ pieces. elements_of pieces tab) lines
elements-moved operation tab [] = refl
elements-moved operation tab (ps ∷ lines) = λ i. placed tab 0 (clusters-moved operation ps i) ∷ elements-moved operation tab lines i

module _ {X : Type 0} (xs ys xs' ys' : List X) (e : xs ++ ys ≡ xs' ++ ys') (same : length xs ≡ length xs') where
  fronts : xs ≡ xs'
  fronts = sym (take_at xs ys (length xs) refl) ∙ ap (take (length xs)) e ∙ take_at xs' ys' (length xs) (sym same)

  rests : ys ≡ ys'
  rests = sym (drop_at xs ys (length xs) refl) ∙ ap (drop (length xs)) e ∙ drop_at xs' ys' (length xs) (sym same)

-- one run of flags, of the record before and of the one after
module _ (operation : Operation) (r : Record) (first before after back : ℕ) (marked : IsMarked r)
    (before_are : flags_before operation r ≡ one_run first before back)
    (after_are : flags_after operation r (operated operation r) ≡ one_run first after back)
    (pieces : KeepsPieces (touched operation r) (operated_piece operation) r (operated operation r)) where
  abbrev r' : Record
  r' = operated operation r

  abbrev moved : List (List Piece) → List (List Piece)
  moved ls = map (map (operated_piece operation)) ls

  long : length (lines_of r) ≡ first + (before + back)
  long = omega (arith, length-marked r, length-before (touched operation r) r, ap length before_are, length-run first before back)

  long' : length (lines_of r') ≡ first + (after + back)
  long' = omega (arith, length-marked r', length-after (touched operation r) r', ap length after_are, length-run first after back)

  kept : take first (lines_of r') ++ drop (first + after) (lines_of r') ≡ moved (take first (lines_of r)) ++ moved (drop (first + before) (lines_of r))
  kept =
      sym (kept_marks first after back (lines_of r') long')
      ∙ ap (λ (flags : List Bool). untouched flags (lines_of r')) (sym after_are)
      ∙ pieces
      ∙ ap (λ (flags : List Bool). moved (untouched flags (lines_of r))) before_are
      ∙ ap moved (kept_marks first before back (lines_of r) long)
      ∙ map-append (map (operated_piece operation)) (take first (lines_of r)) (drop (first + before) (lines_of r))

  same : length (take first (lines_of r')) ≡ length (moved (take first (lines_of r)))
  same =
      omega (
        arith,
        length-take-le first (lines_of r') (omega (arith, long')),
        length-map (take first (lines_of r)) (map (operated_piece operation)),
        length-take-le first (lines_of r) (omega (arith, long)),
      )

  step_is : line_step operation r ≡ record (operated operation r) {
    marks = take first r.marks ++ (plain_marks r.next_stamp after ++ drop (first + before) r.marks);
    next_stamp = r.next_stamp + after;
  }
  unfolding line_step
  step_is = stepped_run operation r r' first before after back before_are after_are (omega (arith, marked, length-marked r, long))

  elements_long : (s : Record) → length (line_elements s) ≡ length (lines_of s)
  elements_long s = length-map (lines_of s) (λ pieces. elements_of pieces s.tab)

  pub spliced_run : r'.tab ≡ r.tab → IsLineSplice operation r first (first + before) after
  spliced_run tab = record {
    order = omega arith;
    within = omega (arith, long, elements_long r);
    long = omega (arith, long, long', elements_long r, elements_long r');
    step = step_is;
    above =
        take-map (λ pieces. elements_of pieces r'.tab) first (lines_of r')
        ∙ (λ i. map (λ pieces. elements_of pieces (tab i)) (fronts (take first (lines_of r')) (drop (first + after) (lines_of r')) (moved (take first (lines_of r))) (moved (drop (first + before) (lines_of r))) kept same i))
        ∙ elements-moved operation r.tab (take first (lines_of r))
        ∙ sym (take-map (λ pieces. elements_of pieces r.tab) first (lines_of r));
    below =
        drop-map (λ pieces. elements_of pieces r'.tab) (first + after) (lines_of r')
        ∙ (λ i. map (λ pieces. elements_of pieces (tab i)) (rests (take first (lines_of r')) (drop (first + after) (lines_of r')) (moved (take first (lines_of r))) (moved (drop (first + before) (lines_of r))) kept same i))
        ∙ elements-moved operation r.tab (drop (first + before) (lines_of r))
        ∙ sym (drop-map (λ pieces. elements_of pieces r.tab) (first + before) (lines_of r));
  }

  -- where all lines are touched, nothing is said of elements
  pub spliced_all : first ≡ 0 → back ≡ 0 → IsLineSplice operation r first (first + before) after
  spliced_all none none' = record {
    order = omega arith;
    within = omega (arith, long, elements_long r);
    long = omega (arith, long, long', elements_long r, elements_long r');
    step = step_is;
    above = ap (λ (n : ℕ). take n (line_elements r')) none ∙ ap (λ (n : ℕ). take n (line_elements r)) (sym none);
    below =
        drop_all (first + after) (line_elements r') (omega (arith, long', elements_long r', none'))
        ∙ sym (drop_all (first + before) (line_elements r) (omega (arith, long, elements_long r, none')));
  }

each_flag : {X : Type 0} (v : Bool) (xs : List X) → map (λ x. v) xs ≡ replicate (length xs) v
each_flag v [] = refl
each_flag v (x ∷ xs) = λ i. v ∷ each_flag v xs i

module _ (operation : Operation) (r : Record) (is : HasLawfulEntries r) (allowed : IsAllowed operation r) (marked : IsMarked r) where
  abbrev lines' : ℕ
  lines' = length (display_lines (operated operation r).text (operated operation r).inlays (operated operation r).folds)

  abbrev lines : ℕ
  lines = length (display_lines r.text r.inlays r.folds)

  -- no line is touched
  pub spliced-none : touched operation r ≡ NoLine → lines' ≡ lines → (operated operation r).tab ≡ r.tab → IsLineSplice operation r 0 0 0
  spliced-none e same tab =
      let k = keeps_lines r is operation allowed in
      let flags : flags_before operation r ≡ one_run 0 0 lines = ap (λ (t : Touched). touched_before t r) e ∙ each_flag false (display_lines r.text r.inlays r.folds) in
      let flags' : flags_after operation r (operated operation r) ≡ one_run 0 0 lines' =
      ap (λ (t : Touched). touched_after t (operated operation r)) e ∙ each_flag false (display_lines (operated operation r).text (operated operation r).inlays (operated operation r).folds) in
      spliced_run operation r 0 0 0 lines marked flags (flags' ∙ ap (one_run 0 0) same) k.pieces tab

  -- each line is
  pub spliced-each : touched operation r ≡ EachLine → lines' ≡ lines → IsLineSplice operation r 0 lines lines
  spliced-each e same =
      let k = keeps_lines r is operation allowed in
      let flags : flags_before operation r ≡ one_run 0 lines 0 =
      ap (λ (t : Touched). touched_before t r) e ∙ each_flag true (display_lines r.text r.inlays r.folds) ∙ sym (append-nil (replicate lines true)) in
      let flags' : flags_after operation r (operated operation r) ≡ one_run 0 lines' 0 =
      ap (λ (t : Touched). touched_after t (operated operation r)) e ∙ each_flag true (display_lines (operated operation r).text (operated operation r).inlays (operated operation r).folds)
      ∙ sym (append-nil (replicate lines' true)) in
      let at : 0 + lines ≡ lines = omega arith in
      subst (λ (n : ℕ). IsLineSplice operation r 0 n lines) at
      (spliced_all operation r 0 lines lines 0 marked flags (flags' ∙ ap (λ (n : ℕ). one_run 0 n 0) same) k.pieces refl refl)

  -- those of rows are
  module _ (a b a' b' : ℕ) (e : touched operation r ≡ Rows (row_range r.text a b) (row_range (operated operation r).text a' b'))
      (ab : a ≤ b) (bt : b ≤ length r.text) (ab' : a' ≤ b') (bt' : b' ≤ length (operated operation r).text) (tab : (operated operation r).tab ≡ r.tab) where
    pub spliced-rows : IsLineSplice operation r (line_of_row_start r a) (line_of_row_end r b + 1)
        (line_of_row_end (operated operation r) b' + 1 - line_of_row_start (operated operation r) a')
    spliced-rows =
        let k = keeps_lines r is operation allowed in
        let run = k.run in
        let after = operated operation r in
        let x = rows_are_one_run r is a b ab bt in
        let y = rows_are_one_run after (lawful-operated r is operation allowed) a' b' ab' bt' in
        let f = line_of_row_start r a in
        let l = line_of_row_end r b in
        let f' = line_of_row_start after a' in
        let l' = line_of_row_end after b' in
        let before_are : flags_before operation r ≡ one_run f (l + 1 - f) (length (lines_of r) - (l + 1)) = ap (λ (t : Touched). touched_before t r) e ∙ x.2 in
        let after_are : flags_after operation r after ≡ one_run f' (l' + 1 - f') (length (lines_of after) - (l' + 1)) = ap (λ (t : Touched). touched_after t after) e ∙ y.2 in
        let s = same_run f (l + 1 - f) (length (lines_of r) - (l + 1)) run.front run.before run.back (omega (arith, x.0)) (sym run.before_are ∙ before_are) in
        let s' = same_run f' (l' + 1 - f') (length (lines_of after) - (l' + 1)) run.front run.after run.back (omega (arith, y.0)) (sym run.after_are ∙ after_are) in
        let upto : f + (l + 1 - f) ≡ l + 1 = omega (arith, x.0) in
        subst (λ (n : ℕ). IsLineSplice operation r f n (l' + 1 - f')) upto
        (spliced_run operation r f (l + 1 - f) (l' + 1 - f') (length (lines_of r) - (l + 1)) marked before_are
        (after_are ∙ (λ i. one_run ((s'.front ∙ sym s.front) i) (l' + 1 - f') ((s'.back ∙ sym s.back) i))) k.pieces tab)

    -- the first touched line is the same before and after
    pub same_first : line_of_row_start r a ≡ line_of_row_start (operated operation r) a'
    same_first =
        let k = keeps_lines r is operation allowed in
        let run = k.run in
        let after = operated operation r in
        let x = rows_are_one_run r is a b ab bt in
        let y = rows_are_one_run after (lawful-operated r is operation allowed) a' b' ab' bt' in
        let f = line_of_row_start r a in
        let l = line_of_row_end r b in
        let f' = line_of_row_start after a' in
        let l' = line_of_row_end after b' in
        let before_are : flags_before operation r ≡ one_run f (l + 1 - f) (length (lines_of r) - (l + 1)) = ap (λ (t : Touched). touched_before t r) e ∙ x.2 in
        let after_are : flags_after operation r after ≡ one_run f' (l' + 1 - f') (length (lines_of after) - (l' + 1)) = ap (λ (t : Touched). touched_after t after) e ∙ y.2 in
        let s = same_run f (l + 1 - f) (length (lines_of r) - (l + 1)) run.front run.before run.back (omega (arith, x.0)) (sym run.before_are ∙ before_are) in
        let s' = same_run f' (l' + 1 - f') (length (lines_of after) - (l' + 1)) run.front run.after run.back (omega (arith, y.0)) (sym run.after_are ∙ after_are) in
        s.front ∙ sym s'.front

-- every operation splices some lines
abbrev pub SomeSplice : Operation → Record → Type 0
SomeSplice operation r = (first : ℕ) × (end : ℕ) × (count : ℕ) × IsLineSplice operation r first end count

module _ (r : Record) (is : HasLawfulEntries r) (marked : IsMarked r) where
  by_run : (operation : Operation) → IsAllowed operation r → (operated operation r).tab ≡ r.tab → SomeSplice operation r
  by_run operation allowed tab =
      let k = keeps_lines r is operation allowed in
      let run = k.run in (
        run.front,
        run.front + run.before,
        run.after,
        spliced_run operation r run.front run.before run.after run.back marked run.before_are run.after_are k.pieces tab,
      )

  pub some_splice : (operation : Operation) → IsAllowed operation r → SomeSplice operation r
  some_splice (Replace a b s) allowed = by_run (Replace a b s) allowed refl
  some_splice (AddInlay inlay) allowed = by_run (AddInlay inlay) allowed refl
  some_splice (RemoveInlay id) allowed = by_run (RemoveInlay id) allowed refl
  some_splice (AddFold fold) allowed = by_run (AddFold fold) allowed refl
  some_splice (RemoveFold id) allowed = by_run (RemoveFold id) allowed refl
  some_splice (AddBlock row id side lines) allowed = by_run (AddBlock row id side lines) allowed refl
  some_splice (RemoveBlock id) allowed = by_run (RemoveBlock id) allowed refl
  some_splice (SetTab tab) allowed =
      let n = length (display_lines r.text r.inlays r.folds) in
      (0, n, n, spliced-each (SetTab tab) r is allowed marked refl refl)
  some_splice (SetWidth width) allowed = by_run (SetWidth width) allowed refl
