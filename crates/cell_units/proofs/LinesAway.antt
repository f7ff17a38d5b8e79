-- The display lines of rows away from what an operation touches: before it they are the same, and after it as far from
-- the end.
use Rattle.std.proofs.Common.{◌≡◌, ℕ, ◌+◌, ◌-◌, ◌<◌, ◌≤◌, Bool, false, true, cond, eqb, List, [], ◌∷◌, ◌++◌, length, take, drop, map, refl, sym, ap, ◌∙◌, arith, append_assoc, length-append}
use Rattle.std.specs.List.{count_by}
use Rattle.std.proofs.lemmas.List.{take-append-drop, length-drop, length-map, length-take-le}
use Rattle.std.proofs.lemmas.List.Sums.{length-filter}
use Rattle.cell_units.specs.declared.place.Bias.TheVariants.{Left, Right}
use Rattle.cell_units.specs.Text.{line_feed, row_of, row_start, row_end}
use Rattle.cell_units.specs.Record.{Inlay, Fold, Record}
use Rattle.cell_units.specs.Inlaid.{Token, is_break, show_each}
use Rattle.cell_units.specs.Folded.{covered, shown, folded, folded_before, line_of, display_lines}
use Rattle.cell_units.specs.Pieces.{pieces_of}
use Rattle.cell_units.specs.Touched.{RowRange, Rows, row_range}
use Rattle.cell_units.specs.LineCounts.{HasSameLines, HasSameLinesFromEnd, KeepsRows, lines_of}
use Rattle.cell_units.proofs.CutLists.{ended}
use Rattle.cell_units.proofs.CutRuns.{lines-count}
use Rattle.cell_units.proofs.ShownMoved.{show_each-append, show_each-same, show_each-moved, ended-each}
use Rattle.cell_units.proofs.RowFeeds.{RowEnd, row_end as end_of_row}
use Rattle.cell_units.proofs.CountedLines.{SameAway}
use Rattle.cell_units.proofs.TouchedRuns.{breaks_to_left, breaks_to_right, count-append, count-cons}
use Rattle.cell_units.proofs.RowsAway.{Spliced, before-range, behind-range, cut-at_end, dropped-behind, end-before, end-behind, row_end-is, start-before, start-behind, taken-before, taken-to_end}

-- ---- one record by itself

module _ (inlays : List Inlay) (folds : List Fold) (text : List ℕ) where
  abbrev g : ℕ → ℕ → List Token
  g = shown inlays folds

  -- there is a display line for each break
  breaks-are : covered folds (length text) ≡ false → length (display_lines text inlays folds) ≡ count_by is_break (folded text inlays folds)
  breaks-are free =
      lines-count is_break (folded text inlays folds) (ended-each inlays folds line_feed text ∙ ap (λ (d : Bool). cond d false true) free)
      ∙ length-filter is_break (folded text inlays folds)

  -- what is shown is what is before an offset, and what is from it on
  from-offset : (o : ℕ) → o ≤ length text →
      count_by is_break (folded text inlays folds)
      ≡ count_by is_break (folded_before text inlays folds o) + count_by is_break (show_each (shown inlays folds) o (drop o text ++ line_feed ∷ []))
  from-offset o le =
      let at : 0 + length (take o text) ≡ o = omega (arith, length-take-le o text le) in
      ap (λ (l : List ℕ). count_by is_break (show_each (shown inlays folds) 0 l)) (ap (λ (l : List ℕ). l ++ line_feed ∷ []) (sym (take-append-drop o text)) ∙ append_assoc (take o text) (drop o text) (line_feed ∷ []))
      ∙ ap (count_by is_break) (show_each-append (shown inlays folds) 0 (take o text) (drop o text ++ line_feed ∷ []))
      ∙ ap (λ (k : ℕ). count_by is_break (folded_before text inlays folds o ++ show_each (shown inlays folds) k (drop o text ++ line_feed ∷ []))) at
      ∙ count-append is_break (folded_before text inlays folds o) (show_each (shown inlays folds) o (drop o text ++ line_feed ∷ []))

  -- the same at the end of an offset's row, with what the line feed there shows
  from-end : (o : ℕ) → o ≤ length text → (r : RowEnd (drop o text)) →
      count_by is_break (folded text inlays folds)
      ≡ count_by is_break (folded_before text inlays folds (row_end text o) ++ shown inlays folds (row_end text o) line_feed)
      + count_by is_break (show_each (shown inlays folds) (row_end text o + 1) r.rest)
  from-end o le r =
      let taken = taken-to_end text o le r in
      let at : 0 + length (take o text ++ r.row) ≡ row_end text o = omega (arith, row_end-is text o r, length-append (take o text) r.row, length-take-le o text le) in
      ap (λ (l : List ℕ). count_by is_break (show_each (shown inlays folds) 0 l)) (cut-at_end text o r)
      ∙ ap (count_by is_break) (show_each-append (shown inlays folds) 0 (take o text ++ r.row) (line_feed ∷ r.rest))
      ∙ (λ i. count_by is_break (show_each (shown inlays folds) 0 (sym taken i) ++ (shown inlays folds (at i) line_feed ++ show_each (shown inlays folds) (at i + 1) r.rest)))
      ∙ ap (count_by is_break) (sym (append_assoc (folded_before text inlays folds (row_end text o)) (shown inlays folds (row_end text o) line_feed) (show_each (shown inlays folds) (row_end text o + 1) r.rest)))
      ∙ count-append is_break (folded_before text inlays folds (row_end text o) ++ shown inlays folds (row_end text o) line_feed) (show_each (shown inlays folds) (row_end text o + 1) r.rest)

-- ---- two that show the same away from a range

module _ (sh : Token → Token) (inlays inlays' : List Inlay) (folds folds' : List Fold) (text text' : List ℕ) (a b n : ℕ)
    (s : Spliced text text' a b n) (away : SameAway sh a b n inlays inlays' folds folds') where
  same-front : (o : ℕ) → o ≤ a → folded_before text' inlays' folds' o ≡ folded_before text inlays folds o
  same-front o le =
      let ab = s.ordered in
      let bt = s.within in
      ap (show_each (shown inlays' folds') 0) (taken-before text text' a b n s o le)
      ∙ show_each-same (shown inlays folds) (shown inlays' folds') 0 (take o text) (λ k x h. away.before k x (omega (arith, h, le, length-take-le o text (omega (arith, le, ab, bt)))))

  pub left-before : (o : ℕ) → o ≤ a → line_of text' inlays' folds' o Left ≡ line_of text inlays folds o Left
  left-before o le =
      let ab = s.ordered in
      let bt = s.within in
      let ra = s.reaches in
      breaks_to_left inlays' folds' text' o (omega (arith, le, ra))
      ∙ ap (count_by is_break) (same-front o le)
      ∙ sym (breaks_to_left inlays folds text o (omega (arith, le, ab, bt)))

  -- whether a line feed before the range is hidden
  same-hidden : (e : ℕ) → e < a → cond (covered folds' e) false (eqb line_feed line_feed) ≡ cond (covered folds e) false (eqb line_feed line_feed)
  same-hidden e lt =
      let ab = s.ordered in
      let bt = s.within in
      let long : length (take e text) ≡ e = length-take-le e text (omega (arith, lt, ab, bt)) in
      let upto = take e text ++ line_feed ∷ [] in
      ap (λ (k : ℕ). cond (covered folds' k) false (eqb line_feed line_feed)) (sym long)
      ∙ sym (ended-each inlays' folds' line_feed (take e text))
      ∙ ap (ended is_break true) (show_each-same (shown inlays folds) (shown inlays' folds') 0 upto (λ k x h. away.before k x (omega (arith, h, lt, long, length-append (take e text) (line_feed ∷ [])))))
      ∙ ended-each inlays folds line_feed (take e text)
      ∙ ap (λ (k : ℕ). cond (covered folds k) false (eqb line_feed line_feed)) long

  pub right-before : (e : ℕ) → e < a → line_of text' inlays' folds' e Right ≡ line_of text inlays folds e Right
  right-before e lt =
      let breaks : count_by is_break (folded_before text' inlays' folds' e ++ shown inlays' folds' e line_feed) ≡ count_by is_break (folded_before text inlays folds e ++ shown inlays folds e line_feed)
      = λ i. count_by is_break (same-front e (omega (arith, lt)) i ++ away.before e line_feed lt i) in
      omega (
        arith,
        breaks_to_right inlays' folds' text' e,
        breaks_to_right inlays folds text e,
        breaks,
        ap {B = ℕ} (λ (d : Bool). cond d 0 1) (same-hidden e lt),
      )

  -- ---- after the range

  count-moved : (ts : List Token) → count_by is_break (map sh ts) ≡ count_by is_break ts
  count-moved [] = refl
  count-moved (t ∷ ts) =
      count-cons is_break (sh t) (map sh ts)
      ∙ (λ i. cond (away.breaks_stay t i) 1 0 + count-moved ts i)
      ∙ sym (count-cons is_break t ts)

  moved-rest : (o o' : ℕ) → b < o → o' ≡ o + n - (b - a) → (xs : List ℕ) →
      count_by is_break (show_each (shown inlays' folds') o' xs) ≡ count_by is_break (show_each (shown inlays folds) o xs)
  moved-rest o o' lt at xs =
      let ab = s.ordered in
      ap (count_by is_break) (show_each-moved (shown inlays folds) (shown inlays' folds') sh n (b - a) o o' xs (omega (arith, lt)) at (λ k x h. away.behind k x (omega (arith, h, lt))))
      ∙ count-moved (show_each (shown inlays folds) o xs)

  long' : length text' ≡ length text + n - (b - a)
  long' =
      let ab = s.ordered in
      let bt = s.within in
      let ra = s.reaches in
      omega (arith, ab, bt, ra, ap (λ (l : List ℕ). length l) s.behind, length-drop (a + n) text', length-drop b text)

  free-after : covered folds (length text) ≡ false → covered folds' (length text') ≡ false
  free-after free = ap (covered folds') long' ∙ away.cover (length text) s.within ∙ free

  pub left-behind : covered folds (length text) ≡ false → (o : ℕ) → b < o → o ≤ length text →
      line_of text' inlays' folds' (o + n - (b - a)) Left + length (display_lines text inlays folds) ≡ line_of text inlays folds o Left + length (display_lines text' inlays' folds')
  left-behind free o lt le =
      let ab = s.ordered in
      let bt = s.within in
      let o' = o + n - (b - a) in
      let there : o' ≤ length text' = omega (arith, le, long', lt, ab) in
      let rest : count_by is_break (show_each (shown inlays' folds') o' (drop o' text' ++ line_feed ∷ [])) ≡ count_by is_break (show_each (shown inlays folds) o (drop o text ++ line_feed ∷ []))
      = ap (λ (l : List ℕ). count_by is_break (show_each (shown inlays' folds') o' (l ++ line_feed ∷ []))) (dropped-behind text text' a b n s o (omega (arith, lt)))
      ∙ moved-rest o o' lt refl (drop o text ++ line_feed ∷ []) in
      omega (
        arith,
        breaks-are inlays folds text free,
        breaks-are inlays' folds' text' (free-after free),
        from-offset inlays folds text o le,
        from-offset inlays' folds' text' o' there,
        rest,
        breaks_to_left inlays folds text o le,
        breaks_to_left inlays' folds' text' o' there,
      )

  pub right-behind : covered folds (length text) ≡ false → (o : ℕ) → b < o → o ≤ length text →
      line_of text' inlays' folds' (row_end text' (o + n - (b - a))) Right + length (display_lines text inlays folds)
      ≡ line_of text inlays folds (row_end text o) Right + length (display_lines text' inlays' folds')
  right-behind free o lt le = go (end_of_row (drop o text)) where
    go : RowEnd (drop o text) → line_of text' inlays' folds' (row_end text' (o + n - (b - a))) Right + length (display_lines text inlays folds)
        ≡ line_of text inlays folds (row_end text o) Right + length (display_lines text' inlays' folds')
    go r =
        let ab = s.ordered in
        let bt = s.within in
        let o' = o + n - (b - a) in
        let e = row_end text o in
        let e' = row_end text' o' in
        let there : o' ≤ length text' = omega (arith, le, long', lt, ab) in
        let r' : RowEnd (drop o' text') = record { row = r.row; rest = r.rest; is = ap (λ (l : List ℕ). l ++ line_feed ∷ []) (dropped-behind text text' a b n s o (omega (arith, lt))) ∙ r.is; free = r.free } in
        let end : e' ≡ e + n - (b - a) = end-behind text text' a b n s o (omega (arith, lt)) in
        let hidden : covered folds' e' ≡ covered folds e = ap (covered folds') end ∙ away.cover e (omega (arith, lt)) in
        let rest : count_by is_break (show_each (shown inlays' folds') (e' + 1) r.rest) ≡ count_by is_break (show_each (shown inlays folds) (e + 1) r.rest)
        = moved-rest (e + 1) (e' + 1) (omega (arith, lt)) (omega (arith, end, lt, ab)) r.rest in
        omega (
          arith,
          breaks-are inlays folds text free,
          breaks-are inlays' folds' text' (free-after free),
          from-end inlays folds text o le r,
          from-end inlays' folds' text' o' there r',
          rest,
          ap {B = ℕ} (λ (d : Bool). cond (cond d false (eqb line_feed line_feed)) 0 1) hidden,
          breaks_to_right inlays folds text e,
          breaks_to_right inlays' folds' text' e',
        )

-- ---- two records

module _ (sh : Token → Token) (moved : ℕ → ℕ) (r r' : Record) (a b n : ℕ) (s : Spliced r.text r'.text a b n)
    (away : SameAway sh a b n r.inlays r'.inlays r.folds r'.folds) (free : covered r.folds (length r.text) ≡ false)
    (stays : (o : ℕ) → o < a → moved o ≡ o) (moves : (o : ℕ) → b < o → moved o ≡ o + n - (b - a)) where
  same-lines : (o : ℕ) → row_of r.text o < row_of r.text a → HasSameLines r r' o (moved o)
  same-lines o lt =
      let l = before-range r.text r'.text a b n s o lt in
      let here = stays o l in
      let end = end-before r.text r'.text a b n s o lt in
      record {
        start = ap (λ (p : ℕ). line_of r'.text r'.inlays r'.folds p Left) (ap (row_start r'.text) here ∙ start-before r.text r'.text a b n s o (omega (arith, l)))
            ∙ left-before sh r.inlays r'.inlays r.folds r'.folds r.text r'.text a b n s away (row_start r.text o) (omega (arith, l));
        end = ap (λ (p : ℕ). line_of r'.text r'.inlays r'.folds p Right) (ap (row_end r'.text) here ∙ end.0)
            ∙ right-before sh r.inlays r'.inlays r.folds r'.folds r.text r'.text a b n s away (row_end r.text o) end.1;
      }

  count-is : (q : Record) → length (lines_of q) ≡ length (display_lines q.text q.inlays q.folds)
  count-is q = length-map (display_lines q.text q.inlays q.folds) pieces_of

  from-end-lines : (o : ℕ) → o ≤ length r.text → row_of r.text b < row_of r.text o → HasSameLinesFromEnd r r' o (moved o)
  from-end-lines o le lt =
      let l = behind-range r.text r'.text a b n s o lt in
      let here = moves o l in
      let start = start-behind r.text r'.text a b n s o lt le in
      let first : line_of r'.text r'.inlays r'.folds (row_start r'.text (moved o)) Left ≡ line_of r'.text r'.inlays r'.folds (row_start r.text o + n - (b - a)) Left
      = ap (λ (p : ℕ). line_of r'.text r'.inlays r'.folds p Left) (ap (row_start r'.text) here ∙ start.0) in
      let last : line_of r'.text r'.inlays r'.folds (row_end r'.text (moved o)) Right ≡ line_of r'.text r'.inlays r'.folds (row_end r'.text (o + n - (b - a))) Right
      = ap (λ (p : ℕ). line_of r'.text r'.inlays r'.folds (row_end r'.text p) Right) here in
      record {
        start = omega (arith, first, count-is r, count-is r', left-behind sh r.inlays r'.inlays r.folds r'.folds r.text r'.text a b n s away free (row_start r.text o) start.1 (omega (arith, le)));
        end = omega (arith, last, count-is r, count-is r', right-behind sh r.inlays r'.inlays r.folds r'.folds r.text r'.text a b n s away free o l le);
      }

  pub rows_kept : (after : RowRange) → KeepsRows (Rows (row_range r.text a b) after) moved r r'
  rows_kept after = record { before = same-lines; behind = from-end-lines }
