-- The laws of specs/Laws.antt.
use Rattle.std.proofs.Common.{◌≡◌, ℕ, ◌+◌, ◌-◌, ◌<◌, ◌≤◌, ◌⊎◌, All, map, inl, inr, Bool, List, [], ◌∷◌, zero, suc, length, take, get_or, unwrap_or, Option, Some, None, zero-add, add-zero, refl, ap, sym, ◌∙◌, arith}
use Rattle.std.proofs.lemmas.Bool.{cases_lt}
use Rattle.cell_units.specs.declared.piece.Piece.{Piece}
use Rattle.cell_line.specs.declared.element.Element.{Element}
use Rattle.cell_line.specs.Elements.{is_tab, cells_of, placed, clusters, elements_of, total_cells}
use Rattle.cell_line.specs.Wrapping.{nothing, greatest, ends_well, fits, indent_of, next_start_of, row_starts}
use Rattle.cell_line.specs.Laws.{AreRowStarts, CellsFollowColumns, CutsAreRowStarts, IsGreatest, NonePasses, StartsWhereSaid, TextsAreClusters}
use Rattle.cell_line.proofs.Greatest.{Greatest, greatest_is}
use Rattle.cell_line.proofs.Placed.{total_cells-cons}
use Rattle.cell_line.proofs.Rows.{cuts-on, next_start_within, row_starts-end, row_starts-suc}

placed_columns : (tab column : ℕ) (cs : List (List ℕ)) (k : ℕ) → k < length (placed tab column cs) →
    (get_or (placed tab column cs) k nothing).cells
    ≡ cells_of tab (column + total_cells (take k (placed tab column cs))) (get_or (placed tab column cs) k nothing).text
placed_columns tab column [] k lt = absurd (omega arith)
placed_columns tab column (c ∷ cs) zero lt = ap (λ (n : ℕ). cells_of tab n c) (sym (add-zero column))
placed_columns tab column (c ∷ cs) (suc k) lt =
    let w = cells_of tab column c in
    let rest = placed tab (column + w) cs in
    let e : Element = record { text = c; cells = w; tab = is_tab c } in
    let sum : column + w + total_cells (take k rest) ≡ column + total_cells (e ∷ take k rest) =
    omega (arith, total_cells-cons e (take k rest)) in
    placed_columns tab (column + w) cs k (omega arith)
    ∙ ap (λ (n : ℕ). cells_of tab n (get_or rest k nothing).text) sum

pub columns_law : (pieces : List Piece) (tab : ℕ) → CellsFollowColumns pieces tab
columns_law pieces tab k lt =
    placed_columns tab 0 (clusters pieces) k lt
    ∙ ap (λ (n : ℕ). cells_of tab n (get_or (elements_of pieces tab) k nothing).text) (zero-add (total_cells (take k (elements_of pieces tab))))

choose : (p q : ℕ → Bool) (from to : ℕ) (o r : Option ℕ) → Greatest p from to o → Greatest q from to r →
    IsGreatest p from to (unwrap_or o (unwrap_or r (from + 1)))
    ⊎ (NonePasses p from to × (IsGreatest q from to (unwrap_or o (unwrap_or r (from + 1))) ⊎ (NonePasses q from to × (unwrap_or o (unwrap_or r (from + 1)) ≡ from + 1))))
choose p q from to (Some k) r h i = inl h
choose p q from to None (Some k) h i = inr (h, inl i)
choose p q from to None None h i = inr (h, inr (i, refl))

pub rows_law : (es : List Element) (room start : ℕ) → StartsWhereSaid es room start
unfolding next_start_of
rows_law es room start =
    choose (ends_well es room start) (fits es room start) start (length es)
    (greatest (ends_well es room start) start (length es)) (greatest (fits es room start) start (length es))
    (greatest_is (ends_well es room start) start (length es)) (greatest_is (fits es room start) start (length es))

placed_texts : (tab column : ℕ) (cs : List (List ℕ)) → map (λ (e : Element). e.text) (placed tab column cs) ≡ cs
placed_texts tab column [] = refl
placed_texts tab column (c ∷ cs) = ap (λ (rest : List (List ℕ)). c ∷ rest) (placed_texts tab (column + cells_of tab column c) cs)

placed_tabs : (tab column : ℕ) (cs : List (List ℕ)) → All (λ (e : Element). e.tab ≡ is_tab e.text) (placed tab column cs)
placed_tabs tab column [] k d lt = absurd (omega (arith, lt))
placed_tabs tab column (c ∷ cs) zero d lt = refl
placed_tabs tab column (c ∷ cs) (suc k) d lt = placed_tabs tab (column + cells_of tab column c) cs k d (omega (arith, lt))

pub texts_law : (pieces : List Piece) (tab : ℕ) → TextsAreClusters pieces tab
texts_law pieces tab = (placed_texts tab 0 (clusters pieces), placed_tabs tab 0 (clusters pieces))

row_starts_are : (es : List Element) (room most start : ℕ) → length es ≤ start + most →
    AreRowStarts es room start (row_starts es room most start)
row_starts_are es room zero start enough = rw (row_starts-end es room zero start (omega arith)) (omega (arith, enough))
row_starts_are es room (suc most) start enough = elim (cases_lt start (length es)) [
  | inl lt ↦
      rw (row_starts-suc es room most start lt)
      (refl, lt, row_starts_are es room most (next_start_of es room start) (omega (arith, enough, (next_start_within es room start lt).0)))
  | inr past ↦ rw (row_starts-end es room (suc most) start past) past
]

pub cuts_law : (es : List Element) (width : ℕ) → 0 < width → CutsAreRowStarts es width
cuts_law es width on =
    rw (cuts-on es width on)
    (row_starts_are es (width - indent_of es width) (length es) (next_start_of es width 0) (omega arith))
