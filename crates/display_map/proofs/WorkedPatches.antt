-- Worked rows: the line patches of two short histories.
use Rattle.std.proofs.Common.{◌≡◌, ℕ, ◌+◌, ◌<◌, ◌≤◌, List, [], ◌∷◌, refl, sym, ap, ◌∙◌, inl, inr, arith}
use Rattle.std.specs.Prelude.{Option, Some, None, codes, option_and_then}
use Rattle.std.proofs.lemmas.Bool.{cases_lt}
use Rattle.cell_units.specs.Operation.{Operation, Replace}
use Rattle.cell_units.specs.Record.{opened}
use Rattle.edit_patch.specs.declared.edit.Edit.{Edit}
use Rattle.edit_patch.specs.Came.{edit_of, origin_of}
use Rattle.edit_patch.specs.Patch.{IsComposed}
use Rattle.edit_patch.proofs.Composition.{neutral_later}
use Rattle.edit_patch.proofs.Origin.{origin-kept, origin-new, origin-past}
use Rattle.display_sheet.specs.LineStep.{line_step}
use Rattle.display_map.specs.Events.{Did}
use Rattle.display_map.specs.LinePatches.{IsLinePatch, IsPatchOver}
use Rattle.display_map.specs.Replay.{begun}
use Rattle.display_map.proofs.LinePatches.{run-patch}

-- what one edit says of a position before it, inside it and after it
one-kept : (e : Edit) (i : ℕ) → i < e.new_start → origin_of (e ∷ []) i ≡ Some i
one-kept e i lt = origin-kept 0 0 e [] i lt ∙ ap Some (omega arith)

one-new : (e : Edit) (i : ℕ) → e.new_start ≤ i → i < e.new_end → origin_of (e ∷ []) i ≡ None
one-new e i le lt = origin-new 0 0 e [] i le lt

one-past : (e : Edit) (i j : ℕ) → e.new_start ≤ i → e.new_end ≤ i → j + e.new_end ≡ i + e.old_end → origin_of (e ∷ []) i ≡ Some j
one-past e i j le past even = origin-past 0 0 e [] i le past ∙ ap Some (omega (arith, past, even))

through : (a b : List Edit) (i m : ℕ) (o : Option ℕ) → origin_of b i ≡ Some m → origin_of a m ≡ o → option_and_then (origin_of a) (origin_of b i) ≡ o
through a b i m o later earlier = ap (option_and_then (origin_of a)) later ∙ earlier

-- two operations and no more
two : (text : List ℕ) (first second : Operation) (a b c : List Edit) → IsLinePatch first (opened text) a → IsLinePatch second (line_step first (opened text)) b →
    IsComposed a b c → IsPatchOver (begun text) (Did first ∷ Did second ∷ []) c
two text first second a b c p q both = (a, b, p, (b, [], q, refl, neutral_later b q.normal), both)

-- ---- a line that is changed and changed back

abbrev changed : Edit
changed = edit_of 1 2 1 2

twice : IsComposed (changed ∷ []) (changed ∷ []) (changed ∷ [])
twice = record {
  normal = (record { kept = omega arith; even = refl; old_order = omega arith; new_order = omega arith; some = omega arith }, tt);
  came = λ i. elim (cases_lt i 1) [
    | inl above ↦
        one-kept changed i above
        ∙ sym (through (changed ∷ []) (changed ∷ []) i i _ (one-kept changed i above) (one-kept changed i above))
    | inr le ↦ elim (cases_lt i 2) [
      | inl within ↦ one-new changed i le within ∙ sym (ap (option_and_then (origin_of (changed ∷ []))) (one-new changed i le within))
      | inr past ↦
          one-past changed i i le past refl
          ∙ sym (through (changed ∷ []) (changed ∷ []) i i _ (one-past changed i i le past refl) (one-past changed i i le past refl))
    ]
  ];
}

abbrev two_lines : List ℕ
two_lines = 97 ∷ 10 ∷ 98 ∷ []

pub changed-back : IsPatchOver (begun two_lines) (Did (Replace 2 3 (codes "x")) ∷ Did (Replace 2 3 (codes "b")) ∷ []) (changed ∷ [])
unfolding line_step
changed-back =
    let first : Operation = Replace 2 3 (codes "x") in
    let second : Operation = Replace 2 3 (codes "b") in
    two two_lines first second (changed ∷ []) (changed ∷ []) (changed ∷ [])
    (run-patch first (opened two_lines) 1 1 1 0 refl refl)
    (run-patch second (line_step first (opened two_lines)) 1 1 1 0 refl refl)
    twice

-- ---- a line that is made into two, and the line above it taken away

abbrev split : Edit
split = edit_of 1 2 1 3

abbrev taken : Edit
taken = edit_of 0 2 0 1

abbrev both_lines : Edit
both_lines = edit_of 0 2 0 2

one_after_other : IsComposed (split ∷ []) (taken ∷ []) (both_lines ∷ [])
one_after_other = record {
  normal = (record { kept = omega arith; even = refl; old_order = omega arith; new_order = omega arith; some = omega arith }, tt);
  came = λ i. elim (cases_lt i 1) [
    | inl above ↦
        one-new both_lines i (omega arith) (omega (arith, above))
        ∙ sym (ap (option_and_then (origin_of (split ∷ []))) (one-new taken i (omega arith) above))
    | inr le ↦ elim (cases_lt i 2) [
      | inl within ↦
          one-new both_lines i (omega arith) within
          ∙ sym (through (split ∷ []) (taken ∷ []) i (i + 1) None (one-past taken i (i + 1) (omega arith) le (omega arith))
          (one-new split (i + 1) (omega (arith, le)) (omega (arith, within))))
      | inr past ↦
          one-past both_lines i i (omega arith) past refl
          ∙ sym (through (split ∷ []) (taken ∷ []) i (i + 1) _ (one-past taken i (i + 1) (omega arith) le (omega arith))
          (one-past split (i + 1) i (omega (arith, le)) (omega (arith, past)) (omega arith)))
    ]
  ];
}

abbrev three_lines : List ℕ
three_lines = 97 ∷ 10 ∷ 98 ∷ 10 ∷ 99 ∷ []

pub above-taken : IsPatchOver (begun three_lines) (Did (Replace 2 3 (120 ∷ 10 ∷ 121 ∷ [])) ∷ Did (Replace 0 2 []) ∷ []) (both_lines ∷ [])
unfolding line_step
above-taken =
    let first : Operation = Replace 2 3 (120 ∷ 10 ∷ 121 ∷ []) in
    let second : Operation = Replace 0 2 [] in
    two three_lines first second (split ∷ []) (taken ∷ []) (both_lines ∷ [])
    (run-patch first (opened three_lines) 1 1 2 1 refl refl)
    (run-patch second (line_step first (opened three_lines)) 0 2 1 2 refl refl)
    one_after_other
