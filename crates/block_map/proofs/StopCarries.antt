-- Stops that edits of rows keep, as all edits carry them.
use Rattle.std.proofs.Common.{◌≡◌, ℕ, zero, suc, ◌+◌, ◌-◌, ◌<◌, ◌≤◌, Bool, true, false, cond, List, [], ◌∷◌, ◌++◌, Some, length, map, drop, refl, sym, ap, ◌∙◌, arith, inl, inr, ◌⊎◌}
use Rattle.std.proofs.lemmas.Bool.{cases_lt, false≢true}
use Rattle.std.proofs.lemmas.List.{length-map}
use Rattle.std.proofs.lemmas.List.Sums.{sum_by-cons}
use Rattle.std.proofs.lemmas.Option.{none-some}
use Rattle.mark_tree.proofs.Sorting.{Every}
use Rattle.cell_units.specs.declared.place.Bias.{Bias}
use Rattle.cell_units.specs.declared.place.Bias.TheVariants.{Left, Right}
use Rattle.edit_patch.specs.declared.edit.Edit.{Edit}
use Rattle.edit_patch.specs.Came.{carry_of, inverted, origin_from}
use Rattle.edit_patch.specs.Fits.{added_count}
use Rattle.edit_patch.specs.Patch.{IsNext, IsPatch, IsPatchFrom}
use Rattle.block_map.specs.Stops.{Stop, all_stop_rows, stands_before}
use Rattle.block_map.specs.inside.StopLists.{AreRising, StopsFit, last_row}
use Rattle.block_map.specs.inside.RowMoves.{grown, moved_stop, own, shrunk}
use Rattle.block_map.proofs.EditMoves.{behind-next, goes, inside-next, is-behind, shrunk-before, stop_at}
use Rattle.block_map.proofs.StopSizes.{IsUpto, each-upto, fit-upto}

abbrev the_height : Stop → ℕ
the_height s = length s.lines

-- ---- what moves keep

pub moved-lines : (bias : Bias) (start end count : ℕ) (s : Stop) → (moved_stop bias start end count s).lines ≡ s.lines
moved-lines bias start end count s = go (stands_before bias end s) where
  go : (b : Bool) → (cond b s (stop_at (s.row + count - (end - start)) s.lines)).lines ≡ s.lines
  go true = refl
  go false = refl

pub shrunk-lines : (bias : Bias) (es : List Edit) (s : Stop) → (shrunk bias es s).lines ≡ s.lines
shrunk-lines bias [] s = refl
shrunk-lines bias (e ∷ es) s = moved-lines bias e.old_start e.old_end 0 (shrunk bias es s) ∙ shrunk-lines bias es s

pub grown-lines : (bias : Bias) (es : List Edit) (s : Stop) → (grown bias es s).lines ≡ s.lines
grown-lines bias [] s = refl
grown-lines bias (e ∷ es) s = grown-lines bias es (moved_stop bias e.new_start e.new_start (added_count e) s) ∙ moved-lines bias e.new_start e.new_start (added_count e) s

moved-less : (bias : Bias) (start end : ℕ) (s : Stop) → (moved_stop bias start end 0 s).row ≤ s.row
moved-less bias start end s = go (stands_before bias end s) where
  go : (b : Bool) → (cond b s (stop_at (s.row + 0 - (end - start)) s.lines)).row ≤ s.row
  go true = omega arith
  go false = omega arith

moved-more : (bias : Bias) (start count : ℕ) (s : Stop) → s.row ≤ (moved_stop bias start start count s).row
moved-more bias start count s = go (stands_before bias start s) where
  go : (b : Bool) → s.row ≤ (cond b s (stop_at (s.row + count - (start - start)) s.lines)).row
  go true = omega arith
  go false = omega arith

pub shrunk-less : (bias : Bias) (es : List Edit) (s : Stop) → (shrunk bias es s).row ≤ s.row
shrunk-less bias [] s = omega arith
shrunk-less bias (e ∷ es) s = omega (arith, moved-less bias e.old_start e.old_end (shrunk bias es s), shrunk-less bias es s)

pub grown-more : (bias : Bias) (es : List Edit) (s : Stop) → s.row ≤ (grown bias es s).row
grown-more bias [] s = omega arith
grown-more bias (e ∷ es) s = omega (arith, moved-more bias e.new_start (added_count e) s, grown-more bias es (moved_stop bias e.new_start e.new_start (added_count e) s))

-- one edit more
pub grown-next : (bias : Bias) (es fs : List Edit) (e : Edit) (s : Stop) → grown bias (es ++ e ∷ fs) s ≡ grown bias fs (moved_stop bias e.new_start e.new_start (added_count e) (grown bias es s))
grown-next bias [] fs e s = refl
grown-next bias (d ∷ es) fs e s = grown-next bias es fs e (moved_stop bias d.new_start d.new_start (added_count d) s)

-- ---- lists

module _ (f : Stop → Stop) (lines : (s : Stop) → (f s).lines ≡ s.lines) where
  pub heights-same : (ss : List Stop) → all_stop_rows (map f ss) ≡ all_stop_rows ss
  heights-same [] = refl
  heights-same (s ∷ ss) = omega (arith, sum_by-cons the_height (f s) (map f ss), sum_by-cons the_height s ss, heights-same ss, ap length (lines s))

-- a map that moves no stop further than another does makes what fits where that does
module _ (f g : Stop → Stop) (lines : (s : Stop) → (f s).lines ≡ s.lines) (same : (s : Stop) → (g s).lines ≡ s.lines) (less : (s : Stop) → (f s).row ≤ (g s).row) where
  upto-map : (row : ℕ) (ss : List Stop) → Every (IsUpto row) (map g ss) → Every (IsUpto row) (map f ss)
  upto-map row [] each = tt
  upto-map row (s ∷ ss) each = (omega (arith, each.0, less s), upto-map row ss each.1)

  pub fits-less : (ss : List Stop) → AreRising 0 (map g ss) → StopsFit (map g ss) → StopsFit (map f ss)
  fits-less ss rise fit =
      fit-upto (last_row 0 (map g ss)) (map f ss) (upto-map (last_row 0 (map g ss)) ss (each-upto 0 (map g ss) rise))
      (omega (arith, heights-same f lines ss, heights-same g same ss, fit.rows)) (omega (arith, length-map ss f, length-map ss g, fit.count))

-- ---- stops that are kept

-- a row before all edits that are left, or one that they keep
abbrev pub IsKeptFrom : ℕ → ℕ → List Edit → ℕ → Type 0
IsKeptFrom old new es row = (row < old) ⊎ ((old ≤ row) × ((j : ℕ) × (origin_from new old (inverted es) row ≡ Some j)))

-- the same after the first edits
pub record Rest (es : List Edit) (row n : ℕ) : Type 0 where
  pub gap : ℕ
  pub old : ℕ
  pub new : ℕ
  pub patch : IsPatchFrom gap old new (drop n es)
  pub kept : IsKeptFrom old new (drop n es) row

pub rest-of : (es : List Edit) (gap old new row n : ℕ) → IsPatchFrom gap old new es → IsKeptFrom old new es row → Rest es row n
rest-of [] gap old new row zero p k = record { gap = gap; old = old; new = new; patch = p; kept = k }
rest-of [] gap old new row (suc n) p k = record { gap = gap; old = old; new = new; patch = p; kept = k }
rest-of (e ∷ es) gap old new row zero p k = record { gap = gap; old = old; new = new; patch = p; kept = k }
rest-of (e ∷ es) gap old new row (suc n) p k =
    let next = p.0 in
    let r = rest-of es 1 e.old_end e.new_end row n p.1 (on next k) in
    record { gap = r.gap; old = r.old; new = r.new; patch = r.patch; kept = r.kept } where
      on : IsNext gap old new e → IsKeptFrom old new (e ∷ es) row → IsKeptFrom e.old_end e.new_end es row
      on next k = elim (cases_lt row e.old_end) [
        | inl lt ↦ inl lt
        | inr end ↦ elim k [
          | inl lt ↦ absurd (omega (arith, lt, end, next.kept, next.old_order))
          | inr is ↦ inr (end, (is.1.0, sym (behind-next old new row e es (omega (arith, end, next.old_order)) end) ∙ is.1.1))
        ]
      ]

-- where the later edits have taken their rows away it isn't among the rows of the next one
pub clear-next : (bias : Bias) (e : Edit) (es : List Edit) (gap old new row : ℕ) (lines : List (List ℕ)) → IsPatchFrom gap old new (e ∷ es) → IsKeptFrom old new (e ∷ es) row
    → stands_before bias e.old_end (shrunk bias es (stop_at (row + own bias) lines)) ≡ true → (shrunk bias es (stop_at (row + own bias) lines)).row ≤ e.old_start
clear-next bias e es gap old new row lines p k before = elim (cases_lt row e.old_end) [
  | inl lt ↦ elim (cases_lt row e.old_start) [
    | inl less ↦ omega (arith, ap (λ (s : Stop). s.row) (shrunk-before bias 1 e.old_end e.new_end row lines es p.1 lt), less, own-small bias)
    | inr ge ↦ elim k [
      | inl lt' ↦ let next = p.0 in absurd (omega (arith, lt', ge, next.kept))
      | inr is ↦ absurd (none-some is.1.0 (sym (inside-next old new row e es ge lt) ∙ is.1.1))
    ]
  ]
  | inr end ↦ elim k [
    | inl lt ↦ let next = p.0 in absurd (omega (arith, lt, end, next.kept, next.old_order))
    | inr is ↦
        let next = p.0 in
        let there = sym (behind-next old new row e es (omega (arith, end, next.old_order)) end) ∙ is.1.1 in
        let g = goes bias es 1 e.old_end e.new_end row is.1.0 lines p.1 end there in
        absurd (false≢true (sym (is-behind bias g.0 e.old_end lines g.1.behind) ∙ sym (ap (stands_before bias e.old_end) g.1.shrinks) ∙ before))
  ]
] where
  own-small : (bias : Bias) → own bias ≤ 1
  own-small Left = omega arith
  own-small Right = omega arith

-- all edits carry a kept stop as they carry its row
pub carried-stop : (bias : Bias) (es : List Edit) (row j : ℕ) (lines : List (List ℕ)) → IsPatch es → carry_of es row ≡ Some j
    → grown bias es (shrunk bias es (stop_at (row + own bias) lines)) ≡ stop_at (j + own bias) lines
carried-stop bias es row j lines p is =
    let g = goes bias es 0 0 0 row j lines p (omega arith) is in
    let there : g.0 + 0 - 0 ≡ g.0 = omega arith in
    ap (grown bias es) (g.1.shrinks ∙ ap (λ (r : ℕ). stop_at (r + own bias) lines) (sym there)) ∙ g.1.grows
