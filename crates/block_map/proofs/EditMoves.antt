-- Where stops go that edits of rows keep.
use Rattle.std.proofs.Common.{◌≡◌, ℕ, ◌+◌, ◌-◌, ◌<◌, ◌≤◌, Bool, true, false, cond, nat_lt, List, [], ◌∷◌, Some, None, refl, sym, ap, ◌∙◌, inl, inr, arith}
use Rattle.std.proofs.lemmas.Bool.{cases_lt, le-leb, le-ltb, lt-leb, lt-ltb}
use Rattle.std.proofs.lemmas.Option.{none-some, same_Some}
use Rattle.cell_units.specs.declared.place.Bias.{Bias}
use Rattle.cell_units.specs.declared.place.Bias.TheVariants.{Left, Right}
use Rattle.edit_patch.specs.declared.edit.Edit.{Edit}
use Rattle.edit_patch.specs.Came.{inverted, origin_from}
use Rattle.edit_patch.specs.Fits.{added_count}
use Rattle.edit_patch.specs.Patch.{IsPatchFrom}
use Rattle.block_map.specs.Stops.{Stop, stands_before}
use Rattle.block_map.specs.inside.RowMoves.{grown, moved_stop, own, shrunk}

-- what lies before the next edit goes as far after `new` as it is after `old`
pub before-next : (old new row : ℕ) (e : Edit) (es : List Edit) → row < e.old_start → origin_from new old (inverted (e ∷ es)) row ≡ Some (new + (row - old))
before-next old new row e es lt = ap (λ (b : Bool). cond b (Some (new + (row - old))) (cond (nat_lt row e.old_end) None (origin_from e.new_end e.old_end (inverted es) row))) (lt-ltb row e.old_start lt)

pub inside-next : (old new row : ℕ) (e : Edit) (es : List Edit) → e.old_start ≤ row → row < e.old_end → origin_from new old (inverted (e ∷ es)) row ≡ None
inside-next old new row e es le lt =
    ap (λ (b : Bool). cond b (Some (new + (row - old))) (cond (nat_lt row e.old_end) None (origin_from e.new_end e.old_end (inverted es) row))) (le-ltb row e.old_start le)
    ∙ ap (λ (b : Bool). cond b None (origin_from e.new_end e.old_end (inverted es) row)) (lt-ltb row e.old_end lt)

pub behind-next : (old new row : ℕ) (e : Edit) (es : List Edit) → e.old_start ≤ row → e.old_end ≤ row → origin_from new old (inverted (e ∷ es)) row ≡ origin_from e.new_end e.old_end (inverted es) row
behind-next old new row e es le end =
    ap (λ (b : Bool). cond b (Some (new + (row - old))) (cond (nat_lt row e.old_end) None (origin_from e.new_end e.old_end (inverted es) row))) (le-ltb row e.old_start le)
    ∙ ap (λ (b : Bool). cond b None (origin_from e.new_end e.old_end (inverted es) row)) (le-ltb row e.old_end end)

-- ---- a stop before a row of text (Left), or after one (Right)

abbrev pub stop_at : ℕ → List (List ℕ) → Stop
stop_at row lines = record { row = row; lines = lines }

pub is-before : (bias : Bias) (row place : ℕ) (lines : List (List ℕ)) → row < place → stands_before bias place (stop_at (row + own bias) lines) ≡ true
is-before Left row place lines lt = lt-ltb (row + 0) place (omega (arith, lt))
is-before Right row place lines lt = le-leb (row + 1) place (omega (arith, lt))

pub is-behind : (bias : Bias) (row place : ℕ) (lines : List (List ℕ)) → place ≤ row → stands_before bias place (stop_at (row + own bias) lines) ≡ false
is-behind Left row place lines le = le-ltb (row + 0) place (omega (arith, le))
is-behind Right row place lines le = lt-leb (row + 1) place (omega (arith, le))

moved-before : (bias : Bias) (start end count row : ℕ) (lines : List (List ℕ)) → row < end → moved_stop bias start end count (stop_at (row + own bias) lines) ≡ stop_at (row + own bias) lines
moved-before bias start end count row lines lt =
    let s = stop_at (row + own bias) lines in
    ap (λ (b : Bool). cond b s (stop_at (row + own bias + count - (end - start)) lines)) (is-before bias row end lines lt)

moved-behind : (bias : Bias) (start end count row : ℕ) (lines : List (List ℕ)) → start ≤ end → end ≤ row
    → moved_stop bias start end count (stop_at (row + own bias) lines) ≡ stop_at (row + count - (end - start) + own bias) lines
moved-behind bias start end count row lines order le =
    let s = stop_at (row + own bias) lines in
    ap (λ (b : Bool). cond b s (stop_at (row + own bias + count - (end - start)) lines)) (is-behind bias row end lines le)
    ∙ ap (λ (r : ℕ). stop_at r lines) (let e : row + own bias + count - (end - start) ≡ row + count - (end - start) + own bias = omega (arith, order, le) in e)

-- ---- all edits

-- edits leave a row before them
pub shrunk-before : (bias : Bias) (gap old new row : ℕ) (lines : List (List ℕ)) (es : List Edit) → IsPatchFrom gap old new es → row < old → shrunk bias es (stop_at (row + own bias) lines) ≡ stop_at (row + own bias) lines
shrunk-before bias gap old new row lines [] p lt = refl
shrunk-before bias gap old new row lines (e ∷ es) p lt =
    let next = p.0 in
    let small : row < e.old_end = omega (arith, lt, next.kept, next.old_order) in
    ap (moved_stop bias e.old_start e.old_end 0) (shrunk-before bias 1 e.old_end e.new_end row lines es p.1 small) ∙ moved-before bias e.old_start e.old_end 0 row lines small

pub grown-before : (bias : Bias) (gap old new row : ℕ) (lines : List (List ℕ)) (es : List Edit) → IsPatchFrom gap old new es → row < new → grown bias es (stop_at (row + own bias) lines) ≡ stop_at (row + own bias) lines
grown-before bias gap old new row lines [] p lt = refl
grown-before bias gap old new row lines (e ∷ es) p lt =
    let next = p.0 in
    let small : row < e.new_start = omega (arith, lt, next.kept, next.even) in
    ap (grown bias es) (moved-before bias e.new_start e.new_start (added_count e) row lines small)
    ∙ grown-before bias 1 e.old_end e.new_end row lines es p.1 (omega (arith, small, next.new_order))

-- After what ends at `old` and `new`, a row that is kept goes to c when all edits have taken their rows away. From
-- there it goes to j, as far on as the edits before have moved it.
pub record Goes (bias : Bias) (old new : ℕ) (es : List Edit) (row j : ℕ) (lines : List (List ℕ)) (c : ℕ) : Type 0 where
  pub behind : old ≤ c
  pub shrinks : shrunk bias es (stop_at (row + own bias) lines) ≡ stop_at (c + own bias) lines
  pub grows : grown bias es (stop_at (c + new - old + own bias) lines) ≡ stop_at (j + own bias) lines

pub goes : (bias : Bias) (es : List Edit) (gap old new row j : ℕ) (lines : List (List ℕ)) → IsPatchFrom gap old new es → old ≤ row → origin_from new old (inverted es) row ≡ Some j
    → (c : ℕ) × Goes bias old new es row j lines c
goes bias [] gap old new row j lines p le is =
    let e : new + (row - old) ≡ j = same_Some (new + (row - old)) j is in
    (row, record { behind = le; shrinks = refl; grows = ap (λ (r : ℕ). stop_at (r + own bias) lines) (let f : row + new - old ≡ j = omega (arith, e, le) in f) })
goes bias (e ∷ es) gap old new row j lines p le is = elim (cases_lt row e.old_start) [
  | inl lt ↦
      let next = p.0 in
      let there : new + (row - old) ≡ j = same_Some (new + (row - old)) j (sym (before-next old new row e es lt) ∙ is) in
      let stays : row + new - old ≡ j = omega (arith, there, le) in
      let small : j < e.new_start = omega (arith, there, le, lt, next.even, next.kept) in
      let from : IsPatchFrom 0 e.old_start e.new_start (e ∷ es) = (record { kept = omega arith; even = omega arith; old_order = next.old_order; new_order = next.new_order; some = next.some }, p.1) in (
        row,
        record {
          behind = le;
          shrinks = shrunk-before bias 0 e.old_start e.new_start row lines (e ∷ es) from lt;
          grows = ap (λ (r : ℕ). grown bias (e ∷ es) (stop_at (r + own bias) lines)) stays ∙ grown-before bias 0 e.old_start e.new_start j lines (e ∷ es) from small;
        },
      )
  | inr ge ↦ elim (cases_lt row e.old_end) [
    | inl lt ↦ absurd (none-some j (sym (inside-next old new row e es ge lt) ∙ is))
    | inr end ↦
        let next = p.0 in
        let rest = goes bias es 1 e.old_end e.new_end row j lines p.1 end (sym (behind-next old new row e es ge end) ∙ is) in
        let c = rest.0 in
        let r = rest.1 in
        let left : ℕ = c + 0 - (e.old_end - e.old_start) in (
          left,
          record {
            behind = omega (arith, r.behind, next.kept, next.old_order);
            shrinks = ap (moved_stop bias e.old_start e.old_end 0) r.shrinks ∙ moved-behind bias e.old_start e.old_end 0 c lines next.old_order r.behind;
            grows =
                ap (grown bias es) (moved-behind bias e.new_start e.new_start (added_count e) (left + new - old) lines (omega arith) (omega (arith, r.behind, next.kept, next.old_order, next.even)))
                ∙ ap (λ (q : ℕ). grown bias es (stop_at (q + own bias) lines)) (let f : left + new - old + added_count e - (e.new_start - e.new_start) ≡ c + e.new_end - e.old_end = omega (arith, r.behind, next.kept, next.old_order, next.new_order, next.even) in f)
                ∙ r.grows;
          },
        )
  ]
]
