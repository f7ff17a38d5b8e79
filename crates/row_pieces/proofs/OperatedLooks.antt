-- The text rows of a line that an operation doesn't touch look the same after it.
use Rattle.std.proofs.Common.{◌≡◌, ◌⊎◌, ℕ, ◌+◌, ◌-◌, ◌<◌, Bool, true, cond, List, [], ◌∷◌, ◌++◌, length, map, take, drop, get_or, refl, sym, ap, subst, ◌∙◌, inl, inr, arith, length-append, length-drop}
use Rattle.std.specs.List.{count_by}
use Rattle.std.proofs.lemmas.List.{drop_at, get_or-append_right, get_or-drop, get_or-map, get_or-take, get_or_append_left, length-map, length-take-le, map-append, take_at}
use Rattle.std.proofs.lemmas.List.FromFn.{length-range_with_len}
use Rattle.std.proofs.lemmas.List.Sums.{sum_by-cons}
use Rattle.std.specs.List.{range_with_len}
use Rattle.cell_units.specs.declared.piece.Piece.{Piece}
use Rattle.cell_units.specs.declared.piece.PieceKind.{PieceKind}
use Rattle.cell_units.specs.Folded.{display_lines}
use Rattle.cell_units.specs.Lawful.{IsAllowed, IsLawful}
use Rattle.cell_units.specs.LineCounts.{TouchesOneRun, lines_of, operated_piece}
use Rattle.cell_units.specs.Operation.{AddBlock, AddFold, AddInlay, Operation, RemoveBlock, RemoveFold, RemoveInlay, Replace, SetTab, SetWidth, operated}
use Rattle.cell_units.specs.Record.{Mark, Record, plain_mark, plain_marks}
use Rattle.cell_units.specs.Touched.{EachLine, Touched, one_run, touched, touched_before, untouched}
use Rattle.cell_units.proofs.OperatedLines.{keeps_lines}
use Rattle.display_sheet.specs.LineStep.{line_step}
use Rattle.display_sheet.proofs.StepLaws.{length-after, length-before, length-marked, length-run}
use Rattle.display_sheet.proofs.StepRuns.{count_true, kept_marks, stepped_run}
use Rattle.row_pieces.specs.Changed.{look_of}
use Rattle.row_pieces.specs.Laws.{KeepsLooks, pieces_at, unplaced}
use Rattle.row_pieces.specs.Pieces.{pieces_by_row}
use Rattle.row_pieces.proofs.MovedLooks.{looks-moved}

-- ---- what an operation makes of a piece and of the tab size

moved-unplaced : (operation : Operation) (ps : List Piece) → unplaced (map (operated_piece operation) ps) ≡ unplaced ps
moved-unplaced operation [] = refl
moved-unplaced operation (p ∷ ps) = λ i. one operation p i ∷ moved-unplaced operation ps i where
  one : (operation : Operation) (p : Piece) → ◌≡◌ {A = PieceKind × List ℕ} ((operated_piece operation p).kind, (operated_piece operation p).text) (p.kind, p.text)
  one (Replace a b s) p = refl
  one (AddInlay inlay) p = refl
  one (RemoveInlay id) p = refl
  one (AddFold fold) p = refl
  one (RemoveFold id) p = refl
  one (AddBlock row id side lines) p = refl
  one (RemoveBlock id) p = refl
  one (SetTab tab) p = refl
  one (SetWidth width) p = refl

same-tab : (operation : Operation) (r : Record) → ((operated operation r).tab ≡ r.tab) ⊎ (touched operation r ≡ EachLine)
same-tab (Replace a b s) r = inl refl
same-tab (AddInlay inlay) r = inl refl
same-tab (RemoveInlay id) r = inl refl
same-tab (AddFold fold) r = inl refl
same-tab (RemoveFold id) r = inl refl
same-tab (AddBlock row id side lines) r = inl refl
same-tab (RemoveBlock id) r = inl refl
same-tab (SetTab tab) r = inr refl
same-tab (SetWidth width) r = inl refl

pub each-count : {X : Type 0} (xs : List X) → count_by (λ t. t) (map (λ x. true) xs) ≡ length xs
each-count [] = refl
each-count (x ∷ xs) = omega (arith, sum_by-cons (λ (t : Bool). cond t 1 0) true (map (λ x. true) xs), each-count xs)

module _ {X : Type 0} (xs ys xs' ys' : List X) (e : xs ++ ys ≡ xs' ++ ys') (same : length xs ≡ length xs') where
  fronts : xs ≡ xs'
  fronts = sym (take_at xs ys (length xs) refl) ∙ ap (take (length xs)) e ∙ take_at xs' ys' (length xs) (sym same)

  rests : ys ≡ ys'
  rests = sym (drop_at xs ys (length xs) refl) ∙ ap (drop (length xs)) e ∙ drop_at xs' ys' (length xs) (sym same)

-- ---- one run of touched lines

module _ (operation : Operation) (r : Record) (is : IsLawful r) (ok : IsAllowed operation r) (run : TouchesOneRun (touched operation r) r (operated operation r)) where
  abbrev r' : Record
  r' = operated operation r

  abbrev moved : List (List Piece) → List (List Piece)
  moved ls = map (map (operated_piece operation)) ls

  long : length (lines_of r) ≡ run.front + (run.before + run.back)
  long = omega (arith, length-marked r, length-before (touched operation r) r, ap length run.before_are, length-run run.front run.before run.back)

  long' : length (lines_of r') ≡ run.front + (run.after + run.back)
  long' = omega (arith, length-marked r', length-after (touched operation r) r', ap length run.after_are, length-run run.front run.after run.back)

  pub marks-long : length r.marks ≡ run.front + (run.before + run.back)
  marks-long = omega (arith, is.marked, length-marked r, long)

  kept : take run.front (lines_of r') ++ drop (run.front + run.after) (lines_of r') ≡ moved (take run.front (lines_of r)) ++ moved (drop (run.front + run.before) (lines_of r))
  kept =
      let k = keeps_lines r is.entries operation ok in
      sym (kept_marks run.front run.after run.back (lines_of r') long')
      ∙ ap (λ (flags : List Bool). untouched flags (lines_of r')) (sym run.after_are)
      ∙ k.pieces
      ∙ ap (λ (flags : List Bool). moved (untouched flags (lines_of r))) run.before_are
      ∙ ap moved (kept_marks run.front run.before run.back (lines_of r) long)
      ∙ map-append (map (operated_piece operation)) (take run.front (lines_of r)) (drop (run.front + run.before) (lines_of r))

  same-length : length (take run.front (lines_of r')) ≡ length (moved (take run.front (lines_of r)))
  same-length =
      omega (
        arith,
        length-take-le run.front (lines_of r') (omega (arith, long')),
        length-map (take run.front (lines_of r)) (map (operated_piece operation)),
        length-take-le run.front (lines_of r) (omega (arith, long)),
      )

  above : take run.front (lines_of r') ≡ moved (take run.front (lines_of r))
  above = fronts (take run.front (lines_of r')) (drop (run.front + run.after) (lines_of r')) (moved (take run.front (lines_of r))) (moved (drop (run.front + run.before) (lines_of r))) kept same-length

  below : drop (run.front + run.after) (lines_of r') ≡ moved (drop (run.front + run.before) (lines_of r))
  below = rests (take run.front (lines_of r')) (drop (run.front + run.after) (lines_of r')) (moved (take run.front (lines_of r))) (moved (drop (run.front + run.before) (lines_of r))) kept same-length

  -- the pieces of untouched lines are the old ones, moved
  pub pieces-above : (line : ℕ) → line < run.front → pieces_at r' line ≡ map (operated_piece operation) (pieces_at r line)
  pieces-above line lt =
      sym (get_or-take run.front (lines_of r') line [] lt)
      ∙ ap (λ (ls : List (List Piece)). get_or ls line []) above
      ∙ get_or-map (map (operated_piece operation)) (take run.front (lines_of r)) line [] [] (omega (arith, lt, long, length-take-le run.front (lines_of r) (omega (arith, long))))
      ∙ ap (map (operated_piece operation)) (get_or-take run.front (lines_of r) line [] lt)

  pub pieces-below : (j : ℕ) → j < run.back → pieces_at r' (run.front + run.after + j) ≡ map (operated_piece operation) (pieces_at r (run.front + run.before + j))
  pieces-below j lt =
      sym (get_or-drop (run.front + run.after) (lines_of r') j [])
      ∙ ap (λ (ls : List (List Piece)). get_or ls j []) below
      ∙ get_or-map (map (operated_piece operation)) (drop (run.front + run.before) (lines_of r)) j [] [] (omega (arith, lt, long, length-drop (run.front + run.before) (lines_of r)))
      ∙ ap (map (operated_piece operation)) (get_or-drop (run.front + run.before) (lines_of r) j [])

  -- ---- marks

  abbrev pub marks' : List Mark
  marks' = take run.front r.marks ++ (plain_marks r.next_stamp run.after ++ drop (run.front + run.before) r.marks)

  front-long : length (take run.front r.marks) ≡ run.front
  front-long = length-take-le run.front r.marks (omega (arith, marks-long))

  fresh-long : length (plain_marks r.next_stamp run.after) ≡ run.after
  fresh-long = length-map (range_with_len r.next_stamp run.after) plain_mark ∙ length-range_with_len r.next_stamp run.after

  mark-above : (line : ℕ) → line < run.front → get_or marks' line (plain_mark 0) ≡ get_or r.marks line (plain_mark 0)
  mark-above line lt =
      get_or_append_left (take run.front r.marks) (plain_marks r.next_stamp run.after ++ drop (run.front + run.before) r.marks) (plain_mark 0) line (omega (arith, lt, front-long))
      ∙ get_or-take run.front r.marks line (plain_mark 0) lt

  mark-below : (j : ℕ) → get_or marks' (run.front + run.after + j) (plain_mark 0) ≡ get_or r.marks (run.front + run.before + j) (plain_mark 0)
  mark-below j =
      let fresh = plain_marks r.next_stamp run.after in
      let rest = drop (run.front + run.before) r.marks in
      let one : run.front + run.after + j - run.front ≡ run.after + j = omega arith in
      let two : run.after + j - run.after ≡ j = omega arith in
      get_or-append_right (take run.front r.marks) (fresh ++ rest) run.front (run.front + run.after + j) (plain_mark 0) front-long (omega arith)
      ∙ ap (λ (n : ℕ). get_or (fresh ++ rest) n (plain_mark 0)) one
      ∙ get_or-append_right fresh rest run.after (run.after + j) (plain_mark 0) fresh-long (omega arith)
      ∙ ap (λ (n : ℕ). get_or rest n (plain_mark 0)) two
      ∙ get_or-drop (run.front + run.before) r.marks j (plain_mark 0)

  -- ---- looks

  abbrev pub stepped' : Record
  stepped' = record r' { marks = marks'; next_stamp = r.next_stamp + run.after }

  pub step-is : line_step operation r ≡ stepped'
  unfolding line_step
  step-is = stepped_run operation r r' run.front run.before run.after run.back run.before_are run.after_are marks-long

  pub marks-stepped : length (line_step operation r).marks ≡ run.front + (run.after + run.back)
  marks-stepped =
      let fresh = plain_marks r.next_stamp run.after in
      let rest = drop (run.front + run.before) r.marks in
      omega (
        arith,
        ap (λ (q : Record). length q.marks) step-is,
        length-append (take run.front r.marks) (fresh ++ rest),
        length-append fresh rest,
        front-long,
        fresh-long,
        length-drop (run.front + run.before) r.marks,
        marks-long,
      )

  -- all lines are touched, or the tab size stays
  pub tab-stays : (line : ℕ) → (line < run.front) ⊎ (0 < run.back) → r'.tab ≡ r.tab
  tab-stays line some = go (same-tab operation r) where
    go : (r'.tab ≡ r.tab) ⊎ (touched operation r ≡ EachLine) → r'.tab ≡ r.tab
    go (inl same) = same
    go (inr each) =
        let flags : one_run run.front run.before run.back ≡ map (λ line. true) (display_lines r.text r.inlays r.folds) = sym run.before_are ∙ ap (λ (t : Touched). touched_before t r) each in
        let all : run.before ≡ length (display_lines r.text r.inlays r.folds) =
        sym (count_true run.front run.before run.back) ∙ ap (count_by (λ t. t)) flags ∙ each-count (display_lines r.text r.inlays r.folds) in
        none some (omega (arith, all, long, length-marked r)) (omega (arith, all, long, length-marked r)) where
          none : (line < run.front) ⊎ (0 < run.back) → run.front ≡ 0 → run.back ≡ 0 → r'.tab ≡ r.tab
          none (inl lt) f b = absurd (omega (arith, lt, f))
          none (inr lt) f b = absurd (omega (arith, lt, b))

  pub looks-kept : KeepsLooks run.front run.before run.after r (line_step operation r)
  looks-kept = subst (KeepsLooks run.front run.before run.after r) (sym step-is) (record {
    above = λ line lt.
        looks-moved (pieces_at r' line) (pieces_at r line) r'.tab (get_or marks' line (plain_mark 0)).width (ap unplaced (pieces-above line lt) ∙ moved-unplaced operation (pieces_at r line))
        ∙ (λ i. map (map look_of) (pieces_by_row (pieces_at r line) (tab-stays line (inl lt) i) (mark-above line lt i).width));
    below = λ j lt.
        let back : j < run.back = omega (arith, lt, marks-long) in
        let line = run.front + run.before + j in
        let line' = run.front + run.after + j in
        looks-moved (pieces_at r' line') (pieces_at r line) r'.tab (get_or marks' line' (plain_mark 0)).width (ap unplaced (pieces-below j back) ∙ moved-unplaced operation (pieces_at r line))
        ∙ (λ i. map (map look_of) (pieces_by_row (pieces_at r line) (tab-stays line (inr (omega (arith, back))) i) (mark-below j i).width));
  })
