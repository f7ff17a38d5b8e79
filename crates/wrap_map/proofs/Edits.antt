-- Edits of a patch, one after the other.
use Rattle.std.proofs.Common.{◌≡◌, ℕ, ◌+◌, ◌-◌, ◌<◌, ◌≤◌, min, List, [], ◌∷◌, ◌++◌, All, length, Some, None, refl, ap, sym, subst, ◌∙◌, arith, append_assoc, length-append}
use Rattle.std.specs.Prelude.{sum_by}
use Rattle.edit_patch.specs.declared.edit.Edit.{Edit}
use Rattle.edit_patch.specs.Came.{origin_from, origin_of}
use Rattle.edit_patch.specs.Fits.{added_count, removed_count}
use Rattle.edit_patch.specs.Patch.{IsNext, IsPatch, IsPatchFrom}
use Rattle.std.proofs.lemmas.List.Elements.{All-push}
use Rattle.std.proofs.lemmas.List.Sums.{sum_by-append}
use Rattle.edit_patch.proofs.Origin.{origin-kept, origin-new, origin-past}

-- how many positions have to be kept after the edits, before another one
abbrev pub gap_behind : List Edit → ℕ
gap_behind es = min 1 (length es)

-- more edits may follow after these
abbrev pub Follow : List Edit → ℕ → ℕ → List Edit → Type 0
Follow es o n rest = IsPatchFrom (gap_behind es) o n rest

-- edits up to an old and a new position. With those that may follow they are a patch, which says of later positions
-- what those that follow say
pub record AreEditsTo (es : List Edit) (o n : ℕ) : Type 0 where
  pub patch : (rest : List Edit) → Follow es o n rest → IsPatch (es ++ rest)
  pub behind : (rest : List Edit) (i : ℕ) → Follow es o n rest → n ≤ i → origin_of (es ++ rest) i ≡ origin_from o n rest i
  pub within : All (λ e. (e.old_end ≤ o) × (e.new_end ≤ n)) es
  pub lengths : o + sum_by added_count es ≡ n + sum_by removed_count es

pub no_edits : AreEditsTo [] 0 0
no_edits = record {
  patch = λ rest f. f;
  behind = λ rest i f h. refl;
  within = λ k d h. absurd (omega arith);
  lengths = refl;
}

gap_behind-push : (es : List Edit) (e : Edit) → gap_behind (es ++ e ∷ []) ≡ 1
gap_behind-push es e = let h = length-append es (e ∷ []) in omega (arith, h)

-- what follows after one more edit follows, with it, after those before
pub follow-push : (es : List Edit) (o n : ℕ) (e : Edit) (rest : List Edit) → IsNext (gap_behind es) o n e
    → Follow (es ++ e ∷ []) e.old_end e.new_end rest → Follow es o n (e ∷ rest)
follow-push es o n e rest next f = (next, subst (λ (g : ℕ). IsPatchFrom g e.old_end e.new_end rest) (gap_behind-push es e) f)

pub push-rest : (es : List Edit) (e : Edit) (rest : List Edit) → es ++ e ∷ [] ++ rest ≡ es ++ (e ∷ rest)
push-rest es e rest = append_assoc es (e ∷ []) rest

-- with one more edit
pub edits-push : (es : List Edit) (o n : ℕ) (e : Edit) → AreEditsTo es o n → IsNext (gap_behind es) o n e → AreEditsTo (es ++ e ∷ []) e.old_end e.new_end
edits-push es o n e a next =
    let kept = next.kept in let even = next.even in let old_order = next.old_order in let new_order = next.new_order in
    record {
      patch = λ rest f. subst IsPatch (sym (push-rest es e rest)) (a.patch (e ∷ rest) (follow-push es o n e rest next f));
      behind = λ rest i f h.
          ap (λ (xs : List Edit). origin_of xs i) (push-rest es e rest)
          ∙ a.behind (e ∷ rest) i (follow-push es o n e rest next f) (omega arith)
          ∙ origin-past o n e rest i (omega arith) h;
      within = All-push (λ e'. (e'.old_end ≤ e.old_end) × (e'.new_end ≤ e.new_end)) es e
          (λ k d h. let w = a.within k d h in (omega arith, omega arith)) (omega arith, omega arith);
      lengths =
          let added = sum_by-append added_count es (e ∷ []) in
          let removed = sum_by-append removed_count es (e ∷ []) in
          let l = a.lengths in
          omega arith;
    }

-- before one more edit the positions are those that follow the old and the new one
pub edits-kept : (es : List Edit) (o n : ℕ) (e : Edit) (rest : List Edit) (i : ℕ) → AreEditsTo es o n → IsNext (gap_behind es) o n e
    → Follow (es ++ e ∷ []) e.old_end e.new_end rest → n ≤ i → i < e.new_start → origin_of (es ++ e ∷ [] ++ rest) i ≡ Some (o + (i - n))
edits-kept es o n e rest i a next f h k =
    ap (λ (xs : List Edit). origin_of xs i) (push-rest es e rest)
    ∙ a.behind (e ∷ rest) i (follow-push es o n e rest next f) h
    ∙ origin-kept o n e rest i k

-- and inside it they are new
pub edits-new : (es : List Edit) (o n : ℕ) (e : Edit) (rest : List Edit) (i : ℕ) → AreEditsTo es o n → IsNext (gap_behind es) o n e
    → Follow (es ++ e ∷ []) e.old_end e.new_end rest → e.new_start ≤ i → i < e.new_end → origin_of (es ++ e ∷ [] ++ rest) i ≡ None
edits-new es o n e rest i a next f h k =
    let kept = next.kept in let even = next.even in
    ap (λ (xs : List Edit). origin_of xs i) (push-rest es e rest)
    ∙ a.behind (e ∷ rest) i (follow-push es o n e rest next f) (omega arith)
    ∙ origin-new o n e rest i h k
