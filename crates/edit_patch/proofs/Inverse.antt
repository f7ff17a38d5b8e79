-- The inverse of a patch is a patch. By it i came from j exactly where by the patch j came from i.
use Rattle.std.proofs.Common.{◌≡◌, ℕ, ◌+◌, ◌-◌, ◌≤◌, List, [], ◌∷◌, map, Some, ap, sym, subst, refl, ◌∙◌, arith, ⊎_elim}
use Rattle.std.proofs.lemmas.Bool.{cases_lt}
use Rattle.edit_patch.specs.declared.edit.Edit.{Edit}
use Rattle.edit_patch.specs.Came.{origin_from, Came, flipped, inverted}
use Rattle.edit_patch.specs.Patch.{IsPatchFrom, IsPatch}
use Rattle.edit_patch.proofs.Origin.{origin-kept, origin-new, origin-past, above}

inverted-from : (gap o n : ℕ) (es : List Edit) → IsPatchFrom gap o n es → IsPatchFrom gap n o (map flipped es)
inverted-from gap o n [] h = tt
inverted-from gap o n (e ∷ es) h = let a = h.0 in (
  record { kept = omega arith; even = omega arith; old_order = a.new_order; new_order = a.old_order; some = omega arith },
  inverted-from 1 e.old_end e.new_end es h.1,
)

-- the inverse is a patch
pub inverted-patch : (es : List Edit) → IsPatch es → IsPatch (inverted es)
inverted-patch es h = inverted-from 0 0 0 es h

back-from : (gap o n : ℕ) (es : List Edit) (i j : ℕ) → IsPatchFrom gap o n es → n ≤ i → origin_from o n es i ≡ Some j →
    origin_from n o (map flipped es) j ≡ Some i
back-from gap o n [] i j h k g = let e : o + (i - n) ≡ j = cc in ap Some (omega arith)
back-from gap o n (e ∷ es) i j h k g = let a = h.0 in
    ⊎_elim (λ b. let s = sym (origin-kept o n e es i b) ∙ g in let t : o + (i - n) ≡ j = cc in
    origin-kept n o (flipped e) (map flipped es) j (omega arith) ∙ ap Some (omega arith))
    (λ b. ⊎_elim (λ c. let s = sym (origin-new o n e es i b c) ∙ g in cc)
    (λ c. let s = sym (origin-past o n e es i b c) ∙ g in
    let t = above 1 e.old_end e.new_end es i j h.1 c s in
    origin-past n o (flipped e) (map flipped es) j (omega arith) t ∙ back-from 1 e.old_end e.new_end es i j h.1 c s)
    (cases_lt i e.new_end))
    (cases_lt i e.new_start)

-- the inverse of the inverse is the patch
pub twice : (es : List Edit) → inverted (inverted es) ≡ es
twice [] = refl
twice (e ∷ es) = ap (λ (x : List Edit). e ∷ x) (twice es)

-- where i came from j, by the inverse j came from i
pub back : (es : List Edit) (i j : ℕ) → IsPatch es → Came es i j → Came (inverted es) j i
back es i j h g = back-from 0 0 0 es i j h (omega arith) g

-- and the other way round
pub forth : (es : List Edit) (i j : ℕ) → IsPatch es → Came (inverted es) j i → Came es i j
forth es i j h g = subst (λ (x : List Edit). Came x i j) (twice es) (back (inverted es) j i (inverted-patch es h) g)
