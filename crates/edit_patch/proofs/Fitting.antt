-- Patches that fit lists, also one after the other and backwards.
use Rattle.std.proofs.Common.{◌≡◌, ℕ, ◌+◌, ◌-◌, ◌^◌, ◌<◌, ◌≤◌, List, [], ◌∷◌, length, Option, Some, None, ap, sym, refl, ◌∙◌, arith, ⊎_elim}
use Rattle.std.specs.Prelude.{All, slice_get, sum_by, option_and_then}
use Rattle.std.proofs.lemmas.Bool.{cases_lt}
use Rattle.std.proofs.lemmas.List.Elements.{All-nil, All-cons, All-head, All-tail, All-map, All-weaker}
use Rattle.std.proofs.lemmas.List.Sums.{sum_by-cons}
use Rattle.std.proofs.lemmas.Option.{slice_get_within, slice_get_cases}
use Rattle.edit_patch.specs.declared.edit.Edit.{Edit}
use Rattle.edit_patch.specs.Came.{origin_from, origin_of, flipped, inverted}
use Rattle.edit_patch.specs.Patch.{IsPatchFrom, IsPatch, IsComposed, AllFit}
use Rattle.edit_patch.specs.Fits.{added_count, removed_count, Fits}
use Rattle.edit_patch.proofs.Origin.{origin-kept, origin-new, origin-past, origin-behind, above}
use Rattle.edit_patch.proofs.Inverse.{forth}

abbrev pub IsInside : ℕ → ℕ → Edit → Type 0
IsInside old new e = (e.old_end ≤ old) × (e.new_end ≤ new)

-- the edits lie within lists of these lengths, and after (o, n) the lengths agree with them
record Reaches (o n old new : ℕ) (es : List Edit) : Type 0 where
  within : All (IsInside old new) es
  lengths : old + n + sum_by added_count es ≡ new + o + sum_by removed_count es

-- then the positions past the end of the new list came from those past the end of the old
past_end : (gap o n old new : ℕ) (es : List Edit) (k : ℕ) → IsPatchFrom gap o n es → n ≤ new → Reaches o n old new es →
    origin_from o n es (new + k) ≡ Some (old + k)
past_end gap o n old new [] k h l r = let e = r.lengths in ap Some (omega arith)
past_end gap o n old new (e ∷ es) k h l r =
    let a = h.0 in
    let inside = All-head (IsInside old new) e es r.within in
    let s = sum_by-cons added_count e es in
    let t = sum_by-cons removed_count e es in
    let g = r.lengths in
    origin-past o n e es (new + k) (omega arith) (omega arith)
    ∙ past_end 1 e.old_end e.new_end old new es k h.1 inside.1
    (record { within = All-tail (IsInside old new) e es r.within; lengths = omega arith })

-- where an edit ended past the new list, some position there would be new, or come from the wrong place
inside : (gap o n old new : ℕ) (e : Edit) (es : List Edit) → IsPatchFrom gap o n (e ∷ es) → n ≤ new →
    ((k : ℕ) → origin_from o n (e ∷ es) (new + k) ≡ Some (old + k)) → new < e.new_end → ⊥
inside gap o n old new e es h l past lt =
    let a = h.0 in
    let k = e.new_start - new in
    ⊎_elim
    (λ (b : e.new_start < e.new_end). let s = sym (origin-new o n e es (new + k) (omega arith) (omega arith)) ∙ past k in cc)
    (λ (b : e.new_end ≤ e.new_start).
    let at : new + k ≡ e.new_end = omega arith in
    let s = sym (origin-past o n e es (new + k) (omega arith) (omega arith) ∙ ap (origin_from e.old_end e.new_end es) at
    ∙ origin-behind e.old_end e.new_end es h.1) ∙ past k in
    let t : e.old_end ≡ old + k = cc in
    let u = sym (origin-kept o n e es (new + (k - 1)) (omega arith)) ∙ past (k - 1) in
    let v : o + (new + (k - 1) - n) ≡ old + (k - 1) = cc in
    absurd (omega arith))
    (cases_lt e.new_start e.new_end)

-- and the other way round
reaches : (gap o n old new : ℕ) (es : List Edit) → IsPatchFrom gap o n es → n ≤ new → o ≤ old →
    ((k : ℕ) → origin_from o n es (new + k) ≡ Some (old + k)) → Reaches o n old new es
reaches gap o n old new [] h l m past =
    let p = past 0 in let e : o + (new + 0 - n) ≡ old + 0 = cc in
    record { within = All-nil (IsInside old new); lengths = omega arith }
reaches gap o n old new (e ∷ es) h l m past =
    let a = h.0 in
    let b : e.new_end ≤ new = ⊎_elim (λ (c : new < e.new_end). absurd (inside gap o n old new e es h l past c)) (λ c. c) (cases_lt new e.new_end) in
    let later : (k : ℕ) → origin_from e.old_end e.new_end es (new + k) ≡ Some (old + k) =
    λ k. sym (origin-past o n e es (new + k) (omega arith) (omega arith)) ∙ past k in
    let d = above 1 e.old_end e.new_end es (new + 0) (old + 0) h.1 (omega arith) (later 0) in
    let r = reaches 1 e.old_end e.new_end old new es h.1 b (omega arith) later in
    let s = sum_by-cons added_count e es in
    let t = sum_by-cons removed_count e es in
    let g = r.lengths in
    record { within = All-cons (IsInside old new) e es (omega arith, b) r.within; lengths = omega arith }

-- a patch that fits leads from end to end
pub from_end : {A : Type 0} (es : List Edit) (old new : List A) (k : ℕ) → IsPatch es → Fits es old new → origin_of es (length new + k) ≡ Some (length old + k)
from_end es old new k h f = let g = f.lengths in
    past_end 0 0 0 (length old) (length new) es k h (omega arith) (record { within = f.within; lengths = omega arith })

-- the patch of no edit fits a list and itself
pub fits-none : {A : Type 0} (xs : List A) → Fits [] xs xs
fits-none xs = record {
  within = All-nil (IsInside (length xs) (length xs));
  lengths = refl;
  same = λ i j l g. let e : 0 + (i - 0) ≡ j = cc in ap (slice_get xs) (omega arith);
}

sum_by-inverted : (es : List Edit) → (sum_by added_count (inverted es) ≡ sum_by removed_count es) × (sum_by removed_count (inverted es) ≡ sum_by added_count es)
sum_by-inverted [] = (refl, refl)
sum_by-inverted (e ∷ es) =
    let r = sum_by-inverted es in
    let s = sum_by-cons added_count e es in
    let t = sum_by-cons removed_count e es in
    let u = sum_by-cons added_count (flipped e) (inverted es) in
    let v = sum_by-cons removed_count (flipped e) (inverted es) in
    (omega arith, omega arith)

-- the inverse of a patch that fits, fits backwards
pub fits-inverted : {A : Type 0} (es : List Edit) (old new : List A) → IsPatch es → Fits es old new → Fits (inverted es) new old
fits-inverted es old new h f =
    let s = sum_by-inverted es in
    let g = f.lengths in
    record {
      within = All-map (IsInside (length new) (length old)) flipped es
          (All-weaker (IsInside (length old) (length new)) (λ e. IsInside (length new) (length old) (flipped e)) (λ e x. (x.1, x.0)) es f.within);
      lengths = omega arith;
      same = λ j i l c.
          let d = forth es i j h c in
          ⊎_elim (λ (m : i < length new). sym (f.same i j m d))
          (λ (m : length new ≤ i).
          let at : length new + (i - length new) ≡ i = omega arith in
          let e = sym (ap (origin_of es) at ∙ d) ∙ from_end es old new (i - length new) h f in
          let t : j ≡ length old + (i - length new) = cc in absurd (omega arith))
          (cases_lt i (length new));
    }

came-through : {A : Type 0} (a b : List Edit) (old mid new : List A) (i j : ℕ) (o : Option ℕ) → Fits a old mid → Fits b mid new →
    i < length new → origin_of b i ≡ o → option_and_then (origin_of a) o ≡ Some j → slice_get new i ≡ slice_get old j
came-through a b old mid new i j None f g l p q = cc
came-through a b old mid new i j (Some m) f g l p q =
    let s = g.same i m l p in
    ⊎_elim
    (λ c. s ∙ f.same m j (slice_get_within mid m c.0 (sym s ∙ c.2)) q)
    (λ c. absurd (let k = c.0 in omega arith))
    (slice_get_cases new i).1

-- what composes two patches that fit, fits
pub fits-composed : {A : Type 0} (a b c : List Edit) (old mid new : List A) → IsPatch a → IsPatch b → IsComposed a b c →
    Fits a old mid → Fits b mid new → Fits c old new
fits-composed a b c old mid new x y h f g =
    let r = reaches 0 0 0 (length old) (length new) c h.normal (omega arith) (omega arith)
    (λ k. h.came (length new + k) ∙ ap (option_and_then (origin_of a)) (from_end b mid new k y g) ∙ from_end a old mid k x f) in
    let e = r.lengths in
    record {
      within = r.within;
      lengths = omega arith;
      same = λ i j l t. came-through a b old mid new i j (origin_of b i) f g l refl (sym (h.came i) ∙ t);
    }

-- the positions of a patch that fits are u32 where the lengths are
pub fits-u32 : {A : Type 0} (es : List Edit) (old new : List A) → Fits es old new → length old < 2 ^ 32 → length new < 2 ^ 32 → AllFit es
fits-u32 es old new f l m =
    All-weaker (IsInside (length old) (length new)) (λ e. (e.old_end < 2 ^ 32) × (e.new_end < 2 ^ 32)) (λ e x. (omega arith, omega arith)) es f.within
