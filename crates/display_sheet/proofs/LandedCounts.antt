-- The numbers of rows after a landing.
use Rattle.std.proofs.Common.{◌≡◌, ℕ, ◌+◌, ◌<◌, zero, suc, List, [], ◌∷◌, length, drop, set, get_or, refl, sym, ap, subst, ◌∙◌, inl, inr, arith}
use Rattle.std.specs.Prelude.{Option, Some, None}
use Rattle.std.specs.List.{All}
use Rattle.std.proofs.lemmas.Bool.{cases_eq}
use Rattle.std.proofs.lemmas.Grind.{get_or-set_at}
use Rattle.std.proofs.lemmas.List.{drop_more, get_or-set_other, length-set, map-set}
use Rattle.cell_units.specs.Lawful.{IsWidth}
use Rattle.cell_line.specs.declared.element.Element.{Element}
use Rattle.cell_line.specs.Wrapping.{cuts_of}
use Rattle.plain_rows.proofs.SpotLines.{cuts-few}
use Rattle.display_sheet.specs.declared.wraps.Wrapped.{Wrapped}
use Rattle.display_sheet.specs.Landing.{AreCutsAt, FitLines, landed_at, landed_rows, rows_in}
use Rattle.display_sheet.specs.Sheets.{marks_in, row_counts}

-- the numbers of rows, where one line gets another width
pub counts-set : (elements : List (List Element)) (ws : List ℕ) (k width : ℕ) → k < length elements → k < length ws →
    row_counts elements (set ws k width) ≡ set (row_counts elements ws) k (length (cuts_of (get_or elements k []) width) + 1)
counts-set [] ws k width lt lt' = absurd (omega (arith, lt))
counts-set (x ∷ elements) [] k width lt lt' = absurd (omega (arith, lt'))
counts-set (x ∷ elements) (w ∷ ws) zero width lt lt' = refl
counts-set (x ∷ elements) (w ∷ ws) (suc k) width lt lt' =
    ap (λ (l : List ℕ). (length (cuts_of x w) + 1) ∷ l) (counts-set elements ws k width (omega (arith, lt)) (omega (arith, lt')))

-- the numbers of rows after a landing
pub counts-landed : (elements : List (List Element)) (width : ℕ) (places : List (Option ℕ)) (cuts : List (List ℕ)) (ws : List ℕ) → length ws ≡ length elements → AreCutsAt elements width places cuts →
    landed_rows places cuts (row_counts elements ws) ≡ row_counts elements (landed_at width places ws)
counts-landed elements width [] [] ws long h = refl
counts-landed elements width [] (c ∷ cuts) ws long h = absurd h
counts-landed elements width (None ∷ places) [] ws long h = absurd h
counts-landed elements width (Some line ∷ places) [] ws long h = absurd h
counts-landed elements width (None ∷ places) (c ∷ cuts) ws long h = counts-landed elements width places cuts ws long h
counts-landed elements width (Some line ∷ places) (c ∷ cuts) ws long h =
    ap (landed_rows places cuts)
    (ap (λ (l : List ℕ). set (row_counts elements ws) line (length l + 1)) h.1 ∙ sym (counts-set elements ws line width h.0 (omega (arith, h.0, long))))
    ∙ counts-landed elements width places cuts (set ws line width) (length-set ws line width ∙ long) h.2

-- ---- places

pub length-landed : (width : ℕ) (places : List (Option ℕ)) (ws : List ℕ) → length (landed_at width places ws) ≡ length ws
length-landed width [] ws = refl
length-landed width (None ∷ places) ws = length-landed width places ws
length-landed width (Some line ∷ places) ws = length-landed width places (set ws line width) ∙ length-set ws line width

-- each width is lawful
pub widths-landed : (width : ℕ) (places : List (Option ℕ)) (ws : List ℕ) → IsWidth width → All IsWidth ws → All IsWidth (landed_at width places ws)
widths-landed width [] ws is all = all
widths-landed width (None ∷ places) ws is all = widths-landed width places ws is all
widths-landed width (Some line ∷ places) ws is all =
    widths-landed width places (set ws line width) is (λ k d lt. go k d (omega (arith, lt, length-set ws line width))) where
      go : (k d : ℕ) → k < length ws → IsWidth (get_or (set ws line width) k d)
      go k d lt = elim (cases_eq k line) [
        | inl same ↦
            let at : get_or (set ws line width) k d ≡ width = get_or-set_at ws line k width d same (omega (arith, lt, same)) in
            subst IsWidth (sym at) is
        | inr other ↦ subst IsWidth (sym (get_or-set_other ws line k width d other)) (all k d lt)
      ]

pub fit-size : (lines : ℕ) (places : List (Option ℕ)) (cuts : List (List ℕ)) → FitLines lines places cuts → length places ≡ length cuts
fit-size lines [] [] h = refl
fit-size lines [] (c ∷ cuts) h = absurd h
fit-size lines (None ∷ places) [] h = absurd h
fit-size lines (Some line ∷ places) [] h = absurd h
fit-size lines (None ∷ places) (c ∷ cuts) h = ap suc (fit-size lines places cuts h)
fit-size lines (Some line ∷ places) (c ∷ cuts) h = ap suc (fit-size lines places cuts h.2)

pub fit-at : (lines : ℕ) (places : List (Option ℕ)) (cuts : List (List ℕ)) (i line : ℕ) (d : Option ℕ) → FitLines lines places cuts → i < length places → get_or places i d ≡ Some line →
    (line < lines) × (length (get_or cuts i []) + 1 < 4294967296)
fit-at lines [] cuts i line d h lt is = absurd (omega (arith, lt))
fit-at lines (None ∷ places) [] i line d h lt is = absurd h
fit-at lines (Some own ∷ places) [] i line d h lt is = absurd h
fit-at lines (None ∷ places) (c ∷ cuts) zero line d h lt is = let no : None ≡ Some line = is in absurd (cc)
fit-at lines (None ∷ places) (c ∷ cuts) (suc i) line d h lt is = fit-at lines places cuts i line d h (omega (arith, lt)) is
fit-at lines (Some own ∷ places) (c ∷ cuts) zero line d h lt is =
    let same : own ≡ line = (let e : Some own ≡ Some line = is in cc) in
    (omega (arith, h.0, same), h.1)
fit-at lines (Some own ∷ places) (c ∷ cuts) (suc i) line d h lt is = fit-at lines places cuts i line d h.2 (omega (arith, lt)) is

-- cuts of lines of few elements are few
pub fit-cuts : (elements : List (List Element)) (width : ℕ) (places : List (Option ℕ)) (cuts : List (List ℕ)) → ((k : ℕ) → k < length elements → length (get_or elements k []) + 1 < 4294967296) →
    AreCutsAt elements width places cuts → FitLines (length elements) places cuts
fit-cuts elements width [] [] few h = tt
fit-cuts elements width [] (c ∷ cuts) few h = absurd h
fit-cuts elements width (None ∷ places) [] few h = absurd h
fit-cuts elements width (Some line ∷ places) [] few h = absurd h
fit-cuts elements width (None ∷ places) (c ∷ cuts) few h = fit-cuts elements width places cuts few h
fit-cuts elements width (Some line ∷ places) (c ∷ cuts) few h =
    (h.0, omega (arith, few line h.0, ap length h.1, cuts-few (get_or elements line []) width), fit-cuts elements width places cuts few h.2)

-- ---- one place after another

module _ (width : ℕ) (places : List (Option ℕ)) (cuts : List (List ℕ)) where
  -- the places from number i on are still to land
  pub record HaveLanded (i : ℕ) (old new : List Wrapped) : Type 0 where
    pub marks : landed_at width (drop i places) (marks_in new) ≡ landed_at width places (marks_in old)
    pub rows : landed_rows (drop i places) (drop i cuts) (rows_in new) ≡ landed_rows places cuts (rows_in old)
    pub long : length new ≡ length old

  module _ (i : ℕ) (d : Option ℕ) (old new : List Wrapped) (long : length places ≡ length cuts) (lt : i < length places) (h : HaveLanded i old new) where
    places-more : (p : Option ℕ) → get_or places i d ≡ p → drop i places ≡ p ∷ drop (i + 1) places
    places-more p is = drop_more places i d lt ∙ ap (λ (q : Option ℕ). q ∷ drop (i + 1) places) is

    cuts-more : drop i cuts ≡ get_or cuts i [] ∷ drop (i + 1) cuts
    cuts-more = drop_more cuts i [] (omega (arith, lt, long))

    pub landed-none : get_or places i d ≡ None → HaveLanded (i + 1) old new
    landed-none is = record {
      marks = sym (ap (λ (ps : List (Option ℕ)). landed_at width ps (marks_in new)) (places-more None is)) ∙ h.marks;
      rows = sym (λ j. landed_rows (places-more None is j) (cuts-more j) (rows_in new)) ∙ h.rows;
      long = h.long;
    }

    pub landed-some : (line rows : ℕ) → get_or places i d ≡ Some line → rows ≡ length (get_or cuts i []) + 1 →
        HaveLanded (i + 1) old (set new line (record { mark = width; rows = rows }))
    landed-some line rows is count =
        let w : Wrapped = record { mark = width; rows = rows } in
        record {
          marks =
              ap (landed_at width (drop (i + 1) places)) (map-set (λ (w : Wrapped). w.mark) new line w)
              ∙ sym (ap (λ (ps : List (Option ℕ)). landed_at width ps (marks_in new)) (places-more (Some line) is))
              ∙ h.marks;
          rows =
              ap (landed_rows (drop (i + 1) places) (drop (i + 1) cuts)) (map-set (λ (w : Wrapped). w.rows) new line w ∙ ap (set (rows_in new) line) count)
              ∙ sym (λ j. landed_rows (places-more (Some line) is j) (cuts-more j) (rows_in new))
              ∙ h.rows;
          long = length-set new line w ∙ h.long;
        }
