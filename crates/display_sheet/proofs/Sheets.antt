-- What an operation makes of a record that a display keeps.
use Rattle.std.proofs.Common.{◌≡◌, ℕ, ◌+◌, zero, suc, List, [], ◌∷◌, ◌++◌, length, map, take, drop, replicate, refl, sym, ap, ◌∙◌, arith, length-drop}
use Rattle.std.specs.List.{enumerate_from}
use Rattle.std.proofs.lemmas.List.{length-map, length-replicate, length-take-le, map-append, take-map, drop-map, take-append-drop, drop-drop}
use Rattle.cell_units.specs.Record.{Mark, Record, plain_marks}
use Rattle.cell_units.specs.Operation.{Operation, Replace, AddInlay, RemoveInlay, AddFold, RemoveFold, AddBlock, RemoveBlock, SetTab, SetWidth, operated}
use Rattle.cell_units.specs.Touched.{touched}
use Rattle.cell_units.specs.Lawful.{HasLawfulEntries, IsAllowed, IsLawful, IsMarked}
use Rattle.cell_line.specs.declared.element.Element.{Element}
use Rattle.cell_line.specs.Wrapping.{cuts_of}
use Rattle.plain_rows.specs.Plain.{marks_of}
use Rattle.plain_rows.specs.Rows.{line_elements}
use Rattle.display_sheet.specs.LineSplices.{IsLineSplice, spliced}
use Rattle.display_sheet.specs.LineStep.{line_step}
use Rattle.display_sheet.specs.Sheets.{row_counts}
use Rattle.display_sheet.specs.Shown.{unstamped}

-- ---- widths and stamps

abbrev pub widths : List Mark → List ℕ
widths marks = map (λ m. m.width) marks

widths_from : (n : ℕ) (ws : List ℕ) → widths (map (λ p. record { stamp = p.0; width = p.1 }) (enumerate_from n ws)) ≡ ws
widths_from n [] = refl
widths_from n (w ∷ ws) = ap (λ (l : List ℕ). w ∷ l) (widths_from (n + 1) ws)

pub widths-marks_of : (ws : List ℕ) → widths (marks_of ws) ≡ ws
widths-marks_of ws = widths_from 0 ws

pub length-marks_of : (ws : List ℕ) → length (marks_of ws) ≡ length ws
length-marks_of ws = sym (length-map (marks_of ws) (λ m. m.width)) ∙ ap length (widths-marks_of ws)

-- a record whose stamps count its lines is so already
pub unstamped-counted : (r : Record) (ws : List ℕ) → r.marks ≡ marks_of ws → r.next_stamp ≡ length ws → unstamped r ≡ r
unstamped-counted r ws marks next =
    λ i. record r {
      marks = (ap (λ (l : List Mark). marks_of (widths l)) marks ∙ ap marks_of (widths-marks_of ws) ∙ sym marks) i;
      next_stamp = (ap length marks ∙ length-marks_of ws ∙ sym next) i;
    }

widths-plain_marks : (stamp n : ℕ) → widths (plain_marks stamp n) ≡ replicate n 0
widths-plain_marks stamp zero = refl
widths-plain_marks stamp (suc n) = ap (λ (l : List ℕ). 0 ∷ l) (widths-plain_marks (stamp + 1) n)

-- the widths after a splice
pub widths-spliced : (first end count stamp : ℕ) (marks : List Mark) →
    widths (take first marks ++ (plain_marks stamp count ++ drop end marks)) ≡ spliced first end count 0 (widths marks)
widths-spliced first end count stamp marks =
    let width : Mark → ℕ = λ (m : Mark). m.width in
    map-append width (take first marks) (plain_marks stamp count ++ drop end marks)
    ∙ ap (λ (l : List ℕ). widths (take first marks) ++ l) (map-append width (plain_marks stamp count) (drop end marks))
    ∙ (λ i. sym (take-map width first marks) i ++ (widths-plain_marks stamp count i ++ sym (drop-map width end marks) i))

-- ---- operations see no stamp

module _ (r : Record) (marks : List Mark) (next : ℕ) where
  abbrev other : Record
  other = record r { marks = marks; next_stamp = next }

  pub operated-other : (operation : Operation) → operated operation other ≡ record (operated operation r) { marks = marks; next_stamp = next }
  operated-other (Replace a b s) = refl
  operated-other (AddInlay inlay) = refl
  operated-other (RemoveInlay id) = refl
  operated-other (AddFold fold) = refl
  operated-other (RemoveFold id) = refl
  operated-other (AddBlock row id side lines) = refl
  operated-other (RemoveBlock id) = refl
  operated-other (SetTab tab) = refl
  operated-other (SetWidth width) = refl

  pub touched-other : (operation : Operation) → touched operation other ≡ touched operation r
  touched-other (Replace a b s) = refl
  touched-other (AddInlay inlay) = refl
  touched-other (RemoveInlay id) = refl
  touched-other (AddFold fold) = refl
  touched-other (RemoveFold id) = refl
  touched-other (AddBlock row id side lines) = refl
  touched-other (RemoveBlock id) = refl
  touched-other (SetTab tab) = refl
  touched-other (SetWidth width) = refl

  pub allowed-other : (operation : Operation) → IsAllowed operation other → IsAllowed operation r
  allowed-other (Replace a b s) h = h
  allowed-other (AddInlay inlay) h = h
  allowed-other (RemoveInlay id) h = h
  allowed-other (AddFold fold) h = h
  allowed-other (RemoveFold id) h = h
  allowed-other (AddBlock row id side lines) h = h
  allowed-other (RemoveBlock id) h = h
  allowed-other (SetTab tab) h = h
  allowed-other (SetWidth width) h = h

  pub entries-other : HasLawfulEntries other → HasLawfulEntries r
  entries-other h = record { source = h.source; blocks = h.blocks; tab = h.tab; width = h.width }

-- a record is lawful where it is without its stamps
pub lawful-stamped : (r : Record) → IsLawful (unstamped r) → HasLawfulEntries r × IsMarked r
lawful-stamped r is = (
  entries-other r (marks_of (widths r.marks)) (length r.marks) is.entries,
  sym (length-marks_of (widths r.marks) ∙ length-map r.marks (λ m. m.width)) ∙ is.marked,
)

-- what is left without stamps is the same whatever the stamps are
pub unstamped-step : (operation : Operation) (r after : Record) (first end count : ℕ) → IsLineSplice operation r first end count →
    after ≡ record (operated operation r) { marks = marks_of (spliced first end count 0 (widths r.marks)); next_stamp = length (spliced first end count 0 (widths r.marks)) } →
    unstamped (line_step operation r) ≡ after
unstamped-step operation r after first end count splice is =
    let marks = take first r.marks ++ (plain_marks r.next_stamp count ++ drop end r.marks) in
    let same = widths-spliced first end count r.next_stamp r.marks in
    ap unstamped splice.step
    ∙ (λ i. record (operated operation r) { marks = marks_of (same i); next_stamp = (sym (length-map marks (λ m. m.width)) ∙ ap length same) i })
    ∙ sym is

-- ---- numbers of rows

abbrev count_of : List Element × ℕ → ℕ
count_of p = length (cuts_of p.0 p.1) + 1

zip-append : (es fs : List (List Element)) (ws vs : List ℕ) → length es ≡ length ws → row_counts (es ++ fs) (ws ++ vs) ≡ row_counts es ws ++ row_counts fs vs
zip-append [] fs [] vs e = refl
zip-append [] fs (w ∷ ws) vs e = absurd (omega (arith, e))
zip-append (x ∷ es) fs [] vs e = absurd (omega (arith, e))
zip-append (x ∷ es) fs (w ∷ ws) vs e = ap (λ (l : List ℕ). (length (cuts_of x w) + 1) ∷ l) (zip-append es fs ws vs (omega (arith, e)))

pub counts-take : (n : ℕ) (es : List (List Element)) (ws : List ℕ) → row_counts (take n es) (take n ws) ≡ take n (row_counts es ws)
counts-take zero es ws = refl
counts-take (suc n) [] [] = refl
counts-take (suc n) [] (w ∷ ws) = refl
counts-take (suc n) (x ∷ es) [] = refl
counts-take (suc n) (x ∷ es) (w ∷ ws) = ap (λ (l : List ℕ). (length (cuts_of x w) + 1) ∷ l) (counts-take n es ws)

nothing-left : (n : ℕ) (ws : List ℕ) → row_counts [] (drop n ws) ≡ []
nothing-left zero [] = refl
nothing-left zero (w ∷ ws) = refl
nothing-left (suc n) [] = refl
nothing-left (suc n) (w ∷ ws) = nothing-left n ws

none-right : (es : List (List Element)) → row_counts es [] ≡ []
none-right [] = refl
none-right (x ∷ es) = refl

pub counts-drop : (n : ℕ) (es : List (List Element)) (ws : List ℕ) → row_counts (drop n es) (drop n ws) ≡ drop n (row_counts es ws)
counts-drop zero es ws = refl
counts-drop (suc n) [] [] = refl
counts-drop (suc n) [] (w ∷ ws) = nothing-left n ws
counts-drop (suc n) (x ∷ es) [] = none-right (drop n es)
counts-drop (suc n) (x ∷ es) (w ∷ ws) = counts-drop n es ws

-- a line that isn't wrapped has one row
pub one_row : (es : List (List Element)) (n : ℕ) → length es ≡ n → row_counts es (replicate n 0) ≡ replicate n 1
unfolding cuts_of
one_row [] zero e = refl
one_row [] (suc n) e = absurd (omega (arith, e))
one_row (x ∷ es) zero e = absurd (omega (arith, e))
one_row (x ∷ es) (suc n) e = ap (λ (l : List ℕ). 1 ∷ l) (one_row es n (omega (arith, e)))

-- the numbers of rows after a splice
module _ (operation : Operation) (r : Record) (first end count : ℕ) (s : IsLineSplice operation r first end count) (ws : List ℕ) (marked : length ws ≡ length (line_elements r)) where
  abbrev new : List (List Element)
  new = line_elements (operated operation r)

  abbrev between : List (List Element)
  between = take count (drop first new)

  whole : take first new ++ (between ++ drop (first + count) new) ≡ new
  whole =
      ap (λ (l : List (List Element)). take first new ++ (between ++ l)) (sym (drop-drop count first new))
      ∙ ap (λ (l : List (List Element)). take first new ++ l) (take-append-drop count (drop first new))
      ∙ take-append-drop first new

  long_between : length between ≡ count
  long_between = length-take-le count (drop first new) (omega (arith, length-drop first new, s.long))

  pub counts-spliced : spliced first end count 1 (row_counts (line_elements r) ws) ≡ row_counts new (spliced first end count 0 ws)
  counts-spliced =
      (λ i. sym (counts-take first (line_elements r) ws) i ++ (sym (one_row between count long_between) i ++ sym (counts-drop end (line_elements r) ws) i))
      ∙ (λ i. row_counts (sym s.above i) (take first ws) ++ (row_counts between (replicate count 0) ++ row_counts (sym s.below i) (drop end ws)))
      ∙ ap (λ (l : List ℕ). row_counts (take first new) (take first ws) ++ l)
      (sym (zip-append between (drop (first + count) new) (replicate count 0) (drop end ws) (long_between ∙ sym (length-replicate count 0))))
      ∙ sym (zip-append (take first new) (between ++ drop (first + count) new) (take first ws) (replicate count 0 ++ drop end ws)
      (length-take-le first new (omega (arith, s.long)) ∙ sym (length-take-le first ws (omega (arith, marked, s.order, s.within)))))
      ∙ ap (λ (l : List (List Element)). row_counts l (spliced first end count 0 ws)) whole
