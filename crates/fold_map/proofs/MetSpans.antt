-- Which lines places meet, and which lines' spans meet rows.
use Rattle.std.proofs.Common.{◌≡◌, ℕ, zero, suc, ◌+◌, ◌-◌, ◌<◌, ◌≤◌, ◌&&◌, nat_le, Bool, true, false, cond, List, [], ◌∷◌, length, replicate, get_or, refl, sym, ap, ◌∙◌, inl, inr, ◌⊎◌, arith}
use Rattle.std.proofs.lemmas.Bool.{cases_lt, false≢true}
use Rattle.std.proofs.lemmas.Bool.Decides.{nat_tests}
use Rattle.std.proofs.lemmas.List.{get_or-map, length-map}
use Rattle.cell_units.specs.declared.place.Bias.TheVariants.{Left, Right}
use Rattle.cell_units.specs.BufferLines.{line_end, line_start}
use Rattle.cell_units.specs.Cutting.{cut_lines, onto_line}
use Rattle.cell_units.specs.Folded.{display_lines, folded, line_of, span_end, span_start, token_row}
use Rattle.cell_units.specs.Inlaid.{Token, is_break}
use Rattle.cell_units.specs.Lawful.{HasLawfulEntries, IsBlockOf, IsWellFormed}
use Rattle.cell_units.specs.Layers.{Source, inlay_source, line_tokens, place_of, shown_lines, shown_text, span_of}
use Rattle.cell_units.specs.LineCounts.{RowsAreOneRun}
use Rattle.cell_units.specs.Pieces.{pieces_of}
use Rattle.cell_units.specs.Record.{Inlay, Record, block_le, line_count}
use Rattle.cell_units.specs.Text.{row_end, row_of, row_start}
use Rattle.cell_units.specs.Touched.{RowRange, is_touched, one_run, row_range}
use Rattle.cell_units.proofs.BufferLines.{line_bounds, line_count-is, row_of_end, row_of_start}
use Rattle.cell_units.proofs.CutLists.{Every, FirstIs, First-lines}
use Rattle.cell_units.proofs.PlainLayers.{line_of_offset, no_entries}
use Rattle.cell_units.proofs.ReplacedRows.{row_of-le}
use Rattle.cell_units.proofs.Sources.{lines-are, row-lt}
use Rattle.cell_units.proofs.TouchedRuns.{rows_are_one_run}
use Rattle.fold_map.specs.MetLines.{MeetsLine, SpansMeet}
use Rattle.fold_map.proofs.MapRows.{Rises, end-row, has-row_left, one-row, rise, rises-each}

-- ---- the lines that places meet are those from the line of the first to the line of the last

module _ (s : Source) (formed : IsWellFormed s) where
  abbrev lines : ℕ
  lines = length (shown_lines s)

  counted : (line : ℕ) → line < lines → line < line_count (shown_text s)
  counted line lt = omega (arith, lt, lines-are s formed, line_count-is (shown_text s))

  pub met-between : (first last line : ℕ) → MeetsLine s first last line → (row_of (shown_text s) first ≤ line) × (line ≤ row_of (shown_text s) last)
  met-between first last line m =
      let lt = counted line m.there in (
        omega (arith, row_of-le (shown_text s) first (line_end (shown_text s) line) m.end, row_of_end (shown_text s) line lt),
        omega (arith, row_of-le (shown_text s) (line_start (shown_text s) line) last m.start, row_of_start (shown_text s) line lt),
      )

  pub between-met : (first last line : ℕ) → first ≤ length (shown_text s) → last ≤ length (shown_text s) → line < lines
      → row_of (shown_text s) first ≤ line → line ≤ row_of (shown_text s) last → MeetsLine s first last line
  between-met first last line within within' there low high = record {
    there = there;
    start = starts (cases_lt last (line_start (shown_text s) line));
    end = ends (cases_lt (line_end (shown_text s) line) first);
  } where
    starts : (last < line_start (shown_text s) line) ⊎ (line_start (shown_text s) line ≤ last) → line_start (shown_text s) line ≤ last
    starts (inr fine) = fine
    starts (inl x) =
        let rise = row_of-le (shown_text s) last (line_start (shown_text s) line) (omega (arith, x)) in
        let same : row_of (shown_text s) last ≡ line = omega (arith, rise, high, row_of_start (shown_text s) line (counted line there)) in
        let at = line_of_offset (shown_text s) last within' in
        absurd (omega (arith, x, at.0, ap (line_start (shown_text s)) same))

    ends : (line_end (shown_text s) line < first) ⊎ (first ≤ line_end (shown_text s) line) → first ≤ line_end (shown_text s) line
    ends (inr fine) = fine
    ends (inl x) =
        let rise = row_of-le (shown_text s) (line_end (shown_text s) line) first (omega (arith, x)) in
        let same : row_of (shown_text s) first ≡ line = omega (arith, rise, low, row_of_end (shown_text s) line (counted line there)) in
        let at = line_of_offset (shown_text s) first within in
        absurd (omega (arith, x, at.1, ap (line_end (shown_text s)) same))

-- ---- a span has a row

module _ (text : List ℕ) where
  abbrev IsOrdered : List Token → Type 0
  IsOrdered l = span_start text l ≤ span_end text l

  lines-ordered : (ts : List Token) → Rises text ts → Every IsOrdered (cut_lines is_break ts)
  lines-ordered [] r = tt
  lines-ordered (t ∷ ts) r = go (is_break t) (cut_lines is_break ts) (First-lines is_break (λ u. token_row text t ≤ token_row text u) ts r.0) (lines-ordered ts r.1) where
    longer : (t : Token) (l : List Token) → FirstIs (λ u. token_row text t ≤ token_row text u) l → IsOrdered l → IsOrdered (t ∷ l)
    longer t [] f a = absurd f
    longer t (u ∷ us) f a = omega (arith, f, a)

    go : (b : Bool) (ls : List (List Token)) → Every (FirstIs (λ u. token_row text t ≤ token_row text u)) ls → Every IsOrdered ls → Every IsOrdered (cond b ((t ∷ []) ∷ ls) (onto_line t ls))
    go true ls f a = (omega arith, a)
    go false [] f a = (omega arith, tt)
    go false (l ∷ ls) f a = (longer t l f.0 a.0, a.1)

  ordered-at : (ls : List (List Token)) (k : ℕ) → Every IsOrdered ls → IsOrdered (get_or ls k [])
  ordered-at [] k a = omega arith
  ordered-at (l ∷ ls) zero a = a.0
  ordered-at (l ∷ ls) (suc k) a = ordered-at ls k a.1

span-ordered : (s : Source) (line : ℕ) → (span_of s line).0 ≤ (span_of s line).1
span-ordered s line = ordered-at s.text (display_lines s.text s.inlays s.folds) line (lines-ordered s.text (folded s.text s.inlays s.folds) (rises-each s.text s.inlays s.folds 0 _))

-- two spans that have rows have one in common where each begins by the other's end
in-common : (x y a b : ℕ) → x ≤ y → a ≤ b → x ≤ b → a ≤ y → SpansMeet (x, y) (a, b)
in-common x y a b xy ab xb ay = go (cases_lt x a) where
  go : (x < a) ⊎ (a ≤ x) → SpansMeet (x, y) (a, b)
  go (inl l) = (a, (omega (arith, l), ay), (omega arith, ab))
  go (inr l) = (x, (omega arith, xy), (l, xb))

-- ---- the lines whose spans meet rows are those from the line of the first row's start to that of the last row's end

not-here : (n k : ℕ) → get_or (replicate n false) k false ≡ false
not-here zero k = refl
not-here (suc n) zero = refl
not-here (suc n) (suc k) = not-here n k

in-run : (f m b k : ℕ) → f ≤ k → k < f + m → get_or (one_run f m b) k false ≡ true
in-run zero zero b k l u = absurd (omega (arith, u))
in-run zero (suc m) b zero l u = refl
in-run zero (suc m) b (suc k) l u = in-run zero m b k (omega arith) (omega (arith, u))
in-run (suc f) m b zero l u = absurd (omega (arith, l))
in-run (suc f) m b (suc k) l u = in-run f m b k (omega (arith, l)) (omega (arith, u))

of-run : (f m b k : ℕ) → get_or (one_run f m b) k false ≡ true → (f ≤ k) × (k < f + m)
of-run zero zero b k e = absurd (false≢true (sym (not-here b k) ∙ e))
of-run zero (suc m) b zero e = (omega arith, omega arith)
of-run zero (suc m) b (suc k) e = let r = of-run zero m b k e in (omega arith, omega (arith, r.1))
of-run (suc f) m b zero e = absurd (false≢true e)
of-run (suc f) m b (suc k) e = let r = of-run f m b k e in (omega (arith, r.0), omega (arith, r.1))

module _ (s : Source) (formed : IsWellFormed s) (a b : ℕ) (order : a ≤ b) (within : b ≤ length s.text) where
  abbrev kept : Record
  kept = record { text = s.text; inlays = s.inlays; folds = s.folds; blocks = []; tab = 1; width = 0; marks = []; next_stamp = 0 }

  entries : HasLawfulEntries kept
  entries = record { source = formed; blocks = no_entries block_le (λ k. k.id) (IsBlockOf s.text); tab = (omega arith, omega arith); width = inl refl }

  abbrev rows : RowRange
  rows = row_range s.text a b

  abbrev from-line : ℕ
  from-line = line_of s.text s.inlays s.folds (row_start s.text a) Left

  abbrev to-line : ℕ
  to-line = line_of s.text s.inlays s.folds (row_end s.text b) Right

  run : RowsAreOneRun kept a b
  run = rows_are_one_run kept entries a b order within

  touched-at : (line : ℕ) → line < length (shown_lines s)
      → is_touched s.text rows (line_tokens s line) ≡ get_or (one_run from-line (to-line + 1 - from-line) (length (shown_lines s) - (to-line + 1))) line false
  touched-at line lt =
      sym (get_or-map (is_touched s.text rows) (display_lines s.text s.inlays s.folds) line [] false (omega (arith, lt, length-map (display_lines s.text s.inlays s.folds) pieces_of)))
      ∙ ap (λ (l : List Bool). get_or l line false) run.2

  pub meets-between : (line : ℕ) → line < length (shown_lines s) → SpansMeet (span_of s line) (row_of s.text a, row_of s.text b) → (from-line ≤ line) × (line ≤ to-line)
  meets-between line lt m =
      let h = m.1 in
      let h' = m.2 in
      let is : is_touched s.text rows (line_tokens s line) ≡ true = yes (span_of s line).0 (row_of s.text b) (row_of s.text a) (span_of s line).1 (omega (arith, h.0, h'.1)) (omega (arith, h.1, h'.0)) in
      let r = of-run from-line (to-line + 1 - from-line) (length (shown_lines s) - (to-line + 1)) line (sym (touched-at line lt) ∙ is) in
      (r.0, omega (arith, r.1, run.0)) where
        yes : (x l f y : ℕ) → x ≤ l → f ≤ y → (nat_le x l && nat_le f y) ≡ true
        yes x l f y p q = grind (arith, nat_tests)

  pub between-meets : (line : ℕ) → line < length (shown_lines s) → from-line ≤ line → line ≤ to-line → SpansMeet (span_of s line) (row_of s.text a, row_of s.text b)
  between-meets line lt low high =
      let is = touched-at line lt ∙ in-run from-line (to-line + 1 - from-line) (length (shown_lines s) - (to-line + 1)) line low (omega (arith, low, high, run.0)) in
      let r = tells (span_of s line).0 (row_of s.text b) (row_of s.text a) (span_of s line).1 is in
      in-common (span_of s line).0 (span_of s line).1 (row_of s.text a) (row_of s.text b) (span-ordered s line) (row_of-le s.text a b order) r.0 r.1 where
        tells : (x l f y : ℕ) → (nat_le x l && nat_le f y) ≡ true → (x ≤ l) × (f ≤ y)
        tells x l f y e = (grind (arith, nat_tests), grind (arith, nat_tests))

-- ---- the rows of the lines of a layer that places meet

module _ (text : List ℕ) (inlays : List Inlay) (formed : IsWellFormed (inlay_source text inlays)) (p q : ℕ) (order : p ≤ q) (within : q ≤ length (shown_text (inlay_source text inlays))) where
  abbrev v : Source
  v = inlay_source text inlays

  abbrev line-at : ℕ → ℕ
  line-at place = row_of (shown_text v) place

  abbrev first-row : ℕ
  first-row = (span_of v (line-at p)).0

  abbrev last-row : ℕ
  last-row = (span_of v (line-at q)).1

  in-lines : (place : ℕ) → line-at place < length (shown_lines v)
  in-lines place = row-lt v formed place

  pub lower-meets : (span : ℕ × ℕ) (lower : ℕ) → MeetsLine v p q lower → SpansMeet span (span_of v lower) → SpansMeet span (first-row, last-row)
  lower-meets span lower m meets =
      let r = meets.0 in
      let h = meets.2 in
      let between = met-between v formed p q lower m in
      let up = rise text inlays formed (line-at p) lower between.0 m.there in
      let down = rise text inlays formed lower (line-at q) between.1 (in-lines q) in
      (r, meets.1, (omega (arith, up, h.0), omega (arith, down, h.1, one-row text inlays formed lower m.there, one-row text inlays formed (line-at q) (in-lines q))))

  record LowerAt (row : ℕ) : Type 0 where
    line : ℕ
    low : line-at p ≤ line
    high : line ≤ line-at q
    has : (span_of v line).0 ≡ row

  lower-at : (row : ℕ) → first-row ≤ row → row ≤ last-row → LowerAt row
  lower-at row l u = go (cases_lt first-row row) (cases_lt row last-row) where
    rises : line-at p ≤ line-at q
    rises = row_of-le (shown_text v) p q order

    go : (first-row < row) ⊎ (row ≤ first-row) → (row < last-row) ⊎ (last-row ≤ row) → LowerAt row
    go (inr x) _ = record { line = line-at p; low = omega arith; high = rises; has = omega (arith, x, l) }
    go (inl x) (inr y) = record { line = line-at q; low = rises; high = omega arith; has = omega (arith, y, u, one-row text inlays formed (line-at q) (in-lines q)) }
    go (inl x) (inl y) =
        let there : row < line_count text = omega (arith, y, end-row text (line_tokens v (line-at q))) in
        let o = line_start text row in
        let bounds = line_bounds text row there in
        let has = has-row_left text inlays formed p (omega (arith, order, within)) o (omega (arith, bounds.0, bounds.1)) in
        let at : (span_of v (line-at (place_of v o Left))).0 ≡ row = omega (arith, has.1, row_of_start text row there) in
        record {
          line = line-at (place_of v o Left);
          low = low (line-at (place_of v o Left)) at x;
          high = high (line-at (place_of v o Left)) at has.0 y;
          has = at;
        }
      where
        low : (line : ℕ) → (span_of v line).0 ≡ row → first-row < row → line-at p ≤ line
        low line at x = elim (cases_lt line (line-at p)) [
          | inr fine ↦ fine
          | inl less ↦ absurd (omega (arith, rise text inlays formed line (line-at p) (omega (arith, less)) (in-lines p), at, x))
        ]

        high : (line : ℕ) → (span_of v line).0 ≡ row → line < length (shown_lines v) → row < last-row → line ≤ line-at q
        high line at lt y = elim (cases_lt (line-at q) line) [
          | inr fine ↦ fine
          | inl more ↦ absurd (omega (arith, rise text inlays formed (line-at q) line (omega (arith, more)) lt, at, y, one-row text inlays formed (line-at q) (in-lines q)))
        ]

  pub meets-lower : (span : ℕ × ℕ) → SpansMeet span (first-row, last-row) → (lower : ℕ) × MeetsLine v p q lower × SpansMeet span (span_of v lower)
  meets-lower span meets =
      let row = meets.0 in
      let h = meets.2 in
      let r = lower-at row h.0 h.1 in
      let at = r.has in
      let low = r.low in
      let high = r.high in
      let there : r.line < length (shown_lines v) = omega (arith, high, in-lines q) in (
        r.line,
        between-met v formed p q r.line (omega (arith, order, within)) within there low high,
        (row, meets.1, (omega (arith, at), omega (arith, at, one-row text inlays formed r.line there))),
      )
