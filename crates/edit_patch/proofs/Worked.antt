-- The worked examples of compositions, position by position.
use Rattle.std.proofs.Common.{◌≡◌, ℕ, ◌+◌, ◌<◌, ◌≤◌, List, [], ◌∷◌, Option, Some, None, ap, sym, subst, ◌^◌, refl, ◌∙◌, arith, ⊎_elim}
use Rattle.std.specs.Prelude.{option_and_then}
use Rattle.std.proofs.lemmas.Bool.{cases_lt}
use Rattle.std.proofs.lemmas.List.Elements.{All-nil, All-cons}
use Rattle.edit_patch.specs.declared.edit.Edit.{Edit}
use Rattle.edit_patch.specs.Came.{origin_of, edit_of}
use Rattle.edit_patch.specs.Patch.{IsPatch, IsComposed, AllFit}
use Rattle.edit_patch.proofs.Origin.{origin-kept, origin-new, origin-past}
use Rattle.edit_patch.proofs.Composition.{one_composition}

-- what the one edit says of a position before it, inside it and after it
one-kept : (e : Edit) (i : ℕ) → i < e.new_start → origin_of (e ∷ []) i ≡ Some i
one-kept e i h = origin-kept 0 0 e [] i h ∙ ap Some (omega arith)

one-new : (e : Edit) (i : ℕ) → e.new_start ≤ i → i < e.new_end → origin_of (e ∷ []) i ≡ None
one-new e i h k = origin-new 0 0 e [] i h k

one-past : (e : Edit) (i j : ℕ) → e.new_start ≤ i → e.new_end ≤ i → j + e.new_end ≡ i + e.old_end → origin_of (e ∷ []) i ≡ Some j
one-past e i j h k g = origin-past 0 0 e [] i h k ∙ ap Some (omega arith)

through : (a b : List Edit) (i m : ℕ) (o : Option ℕ) → origin_of b i ≡ Some m → origin_of a m ≡ o → option_and_then (origin_of a) (origin_of b i) ≡ o
through a b i m o h k = ap (option_and_then (origin_of a)) h ∙ k

abbrev first_edit : Edit
first_edit = edit_of 2 4 2 5

abbrev second_edit : Edit
second_edit = edit_of 3 6 3 3

abbrev both_edit : Edit
both_edit = edit_of 2 5 2 3

pub across : IsComposed (first_edit ∷ []) (second_edit ∷ []) (both_edit ∷ [])
across = record {
  normal = (record { kept = omega arith; even = refl; old_order = omega arith; new_order = omega arith; some = omega arith }, tt);
  came = λ i. ⊎_elim
      (λ (a : i < 2). one-kept both_edit i (omega arith) ∙ sym (through (first_edit ∷ []) (second_edit ∷ []) i i _ (one-kept second_edit i (omega arith)) (one-kept first_edit i (omega arith))))
      (λ (a : 2 ≤ i). ⊎_elim
      (λ (b : i < 3). one-new both_edit i (omega arith) (omega arith)
      ∙ sym (through (first_edit ∷ []) (second_edit ∷ []) i i _ (one-kept second_edit i (omega arith)) (one-new first_edit i (omega arith) (omega arith))))
      (λ (b : 3 ≤ i). one-past both_edit i (i + 2) (omega arith) (omega arith) (omega arith)
      ∙ sym (through (first_edit ∷ []) (second_edit ∷ []) i (i + 3) _ (one-past second_edit i (i + 3) (omega arith) (omega arith) (omega arith))
      (one-past first_edit (i + 3) (i + 2) (omega arith) (omega arith) (omega arith))))
      (cases_lt i 3))
      (cases_lt i 2);
}

abbrev inserted_edit : Edit
inserted_edit = edit_of 3 3 3 5

abbrev deleted_edit : Edit
deleted_edit = edit_of 3 5 3 3

pub undone : IsComposed (inserted_edit ∷ []) (deleted_edit ∷ []) []
undone = record {
  normal = tt;
  came = λ i. ⊎_elim
      (λ (a : i < 3). ap Some (omega arith)
      ∙ sym (through (inserted_edit ∷ []) (deleted_edit ∷ []) i i _ (one-kept deleted_edit i (omega arith)) (one-kept inserted_edit i (omega arith))))
      (λ (a : 3 ≤ i). ap Some (omega arith)
      ∙ sym (through (inserted_edit ∷ []) (deleted_edit ∷ []) i (i + 2) (Some i) (one-past deleted_edit i (i + 2) (omega arith) (omega arith) (omega arith))
      (one-past inserted_edit (i + 2) i (omega arith) (omega arith) (omega arith))))
      (cases_lt i 3);
}

-- so what the two of each example compose to fits u32
pub across-fits : (a b c : List Edit) (e f : Edit) → a ≡ e ∷ [] → e ≡ first_edit → b ≡ f ∷ [] → f ≡ second_edit → IsComposed a b c → AllFit c
across-fits a b c e f ae es bf fs h =
    let k = subst (λ (x : List Edit). IsComposed x b c) (ae ∙ ap (λ (x : Edit). x ∷ []) es) h in
    let l = subst (λ (x : List Edit). IsComposed (first_edit ∷ []) x c) (bf ∙ ap (λ (x : Edit). x ∷ []) fs) k in
    subst (λ (x : List Edit). AllFit x) (one_composition _ _ _ _ across l)
    (All-cons (λ x. (x.old_end < 2 ^ 32) × (x.new_end < 2 ^ 32)) both_edit [] (omega arith, omega arith) (All-nil (λ x. (x.old_end < 2 ^ 32) × (x.new_end < 2 ^ 32))))

pub undone-fits : (a b c : List Edit) (e f : Edit) → a ≡ e ∷ [] → e ≡ inserted_edit → b ≡ f ∷ [] → f ≡ deleted_edit → IsComposed a b c → AllFit c
undone-fits a b c e f ae es bf fs h =
    let k = subst (λ (x : List Edit). IsComposed x b c) (ae ∙ ap (λ (x : Edit). x ∷ []) es) h in
    let l = subst (λ (x : List Edit). IsComposed (inserted_edit ∷ []) x c) (bf ∙ ap (λ (x : Edit). x ∷ []) fs) k in
    subst (λ (x : List Edit). AllFit x) (one_composition _ _ _ _ undone l) (All-nil (λ x. (x.old_end < 2 ^ 32) × (x.new_end < 2 ^ 32)))

pub touching : ¬ IsPatch (edit_of 2 4 2 5 ∷ (edit_of 4 6 5 6 ∷ []))
touching h = let a = h.1.0 in let k : 4 + 1 ≤ 4 = a.kept in omega arith

pub empty : ¬ IsPatch (edit_of 3 3 3 3 ∷ [])
empty h = let a = h.0 in let k : 3 + 3 < 3 + 3 = a.some in omega arith
