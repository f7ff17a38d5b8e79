-- Edits that put in as many rows as they take away carry each kept stop to where it is.
use Rattle.std.proofs.Common.{◌≡◌, ℕ, ◌+◌, ◌-◌, ◌≤◌, ◌==◌, ◌||◌, Bool, true, false, not, List, [], ◌∷◌, Some, map, refl, sym, ap, ◌∙◌, arith, inl, inr}
use Rattle.std.specs.List.{All, list_any}
use Rattle.std.proofs.lemmas.Bool.{cases_lt}
use Rattle.std.proofs.lemmas.Bool.Decides.{nat_tests}
use Rattle.std.proofs.lemmas.List.Elements.{All-head, All-tail}
use Rattle.std.proofs.lemmas.Option.{none-some, same_Some}
use Rattle.cell_units.specs.declared.place.Bias.{Bias}
use Rattle.edit_patch.specs.declared.edit.Edit.{Edit}
use Rattle.edit_patch.specs.Came.{inverted, origin_from}
use Rattle.edit_patch.specs.Patch.{IsPatch, IsPatchFrom}
use Rattle.block_map.specs.Stops.{Stop}
use Rattle.block_map.specs.inside.RowMoves.{IsKeptStop, carried, changes_count, own}
use Rattle.block_map.proofs.EditMoves.{before-next, behind-next, inside-next, stop_at}
use Rattle.block_map.proofs.StopCarries.{carried-stop}

neither : (a b : Bool) → (a || b) ≡ false → (a ≡ false) × (b ≡ false)
neither true b e = absurd (cc)
neither false b e = (refl, e)

same-sums : (x y : ℕ) → not (x == y) ≡ false → x ≡ y
same-sums x y e = grind (arith, nat_tests)

-- a row that they keep stays
stays : (es : List Edit) (gap old new row j : ℕ) → IsPatchFrom gap old new es → old ≡ new → list_any changes_count es ≡ false → old ≤ row → origin_from new old (inverted es) row ≡ Some j → j ≡ row
stays [] gap old new row j p same even le is =
    let there : new + (row - old) ≡ j = same_Some (new + (row - old)) j is in
    omega (arith, there, same, le)
stays (e ∷ es) gap old new row j p same even le is = elim (cases_lt row e.old_start) [
  | inl lt ↦
      let there : new + (row - old) ≡ j = same_Some (new + (row - old)) j (sym (before-next old new row e es lt) ∙ is) in
      omega (arith, there, same, le)
  | inr ge ↦ elim (cases_lt row e.old_end) [
    | inl lt ↦ absurd (none-some j (sym (inside-next old new row e es ge lt) ∙ is))
    | inr end ↦
        let next = p.0 in
        let both = neither (changes_count e) (list_any changes_count es) even in
        let sums : e.old_end + e.new_start ≡ e.new_end + e.old_start = same-sums (e.old_end + e.new_start) (e.new_end + e.old_start) both.0 in
        let ends : e.old_end ≡ e.new_end = omega (arith, sums, next.even, same) in
        stays es 1 e.old_end e.new_end row j p.1 ends both.1 end (sym (behind-next old new row e es ge end) ∙ is)
  ]
]

stop-stays : (bias : Bias) (es : List Edit) (s : Stop) → IsPatch es → list_any changes_count es ≡ false → IsKeptStop bias es s → carried bias es s ≡ s
stop-stays bias es s p even k =
    let row = k.0 in
    let j = k.1 in
    let there : j ≡ row = stays es 0 0 0 row j p refl even (omega arith) k.2.1 in
    let here : s ≡ stop_at (row + own bias) s.lines = ap (λ (r : ℕ). stop_at r s.lines) k.2.0 in
    ap (carried bias es) here
    ∙ carried-stop bias es row j s.lines p k.2.1
    ∙ ap (λ (r : ℕ). stop_at (r + own bias) s.lines) there
    ∙ sym here

pub stops-stay : (bias : Bias) (es : List Edit) (ss : List Stop) → IsPatch es → list_any changes_count es ≡ false → All (IsKeptStop bias es) ss → map (carried bias es) ss ≡ ss
stops-stay bias es [] p even all = refl
stops-stay bias es (s ∷ ss) p even all = λ i.
    stop-stays bias es s p even (All-head (IsKeptStop bias es) s ss all) i ∷ stops-stay bias es ss p even (All-tail (IsKeptStop bias es) s ss all) i
