-- A position's origin, by the last edit that begins at the position or before it.
use Rattle.std.proofs.Common.{◌≡◌, ℕ, zero, suc, ◌+◌, ◌-◌, ◌<◌, ◌≤◌, Bool, List, [], ◌∷◌, take, length, get_or, Option, Some, None, true, false, cond, ltb, leb, ap, sym, subst, refl, ◌∙◌, arith}
use Rattle.std.specs.Prelude.{slice_get, option_map}
use Rattle.std.specs.List.Sorted.{IsPartitionPoint, IsPartitionedBy, IsNonDecreasingBy}
use Rattle.std.specs.Fn.{Called, ComputesKey}
use denote.Param.Members.{Mut}
use denote.Ref.{Bor}
use Rattle.std.proofs.lemmas.Bool.{lt-ltb, le-ltb, leb-true, leb-false, cond-true, cond-false}
use Rattle.std.proofs.lemmas.List.{length-take-le, length-map, get_or-map}
use Rattle.std.proofs.lemmas.List.Sorted.{IsPartitionedBy-leb, IsPartitionPoint-from_clause}
use Rattle.std.proofs.lemmas.Option.{slice_get-map, slice_get-get_or, slice_get_within, get_or_from_slice_get}
use Rattle.edit_patch.specs.declared.edit.Edit.{Edit}
use Rattle.edit_patch.specs.Came.{origin_from, origin_of, carry_of, flipped, inverted}
use Rattle.edit_patch.specs.Patch.{IsPatchFrom, IsPatch}
use Rattle.edit_patch.proofs.Origin.{origin-kept, origin-past}
use Rattle.edit_patch.proofs.Inverse.{inverted-patch, twice}

-- just the first b edits start at i or before it
pub record IsSplit (start : Edit → ℕ) (es : List Edit) (i b : ℕ) : Type 0 where
  pub before : (j : ℕ) (e : Edit) → j < b → slice_get es j ≡ Some e → start e ≤ i
  pub after : (j : ℕ) (e : Edit) → b ≤ j → slice_get es j ≡ Some e → i < start e

abbrev pub new_start : Edit → ℕ
new_start e = e.new_start

abbrev pub old_start : Edit → ℕ
old_start e = e.old_start

-- no later edit starts before n
later : (gap o n : ℕ) (es : List Edit) (k : ℕ) (d : Edit) → IsPatchFrom gap o n es → k < length es → n ≤ (get_or es k d).new_start
later gap o n [] k d h l = absurd (omega arith)
later gap o n (e ∷ es) zero d h l = let a = h.0 in omega arith
later gap o n (e ∷ es) (suc k) d h l = let a = h.0 in let b = later 1 e.old_end e.new_end es k d h.1 (omega arith) in omega arith

rising-from : (gap o n : ℕ) (es : List Edit) → IsPatchFrom gap o n es → IsNonDecreasingBy new_start es
rising-from gap o n [] h i j d l k = absurd (omega arith)
rising-from gap o n (e ∷ es) h zero zero d l k = omega arith
rising-from gap o n (e ∷ es) h zero (suc j) d l k = let a = h.0 in let b = later 1 e.old_end e.new_end es j d h.1 (omega arith) in omega arith
rising-from gap o n (e ∷ es) h (suc i) zero d l k = absurd (omega arith)
rising-from gap o n (e ∷ es) h (suc i) (suc j) d l k = rising-from 1 e.old_end e.new_end es h.1 i j d (omega arith) (omega arith)

-- the edits of a patch rise
pub rising : (es : List Edit) → IsPatch es → IsNonDecreasingBy (λ e. e.new_start) es
rising es h = rising-from 0 0 0 es h

-- on the old side too
pub rising_old : (es : List Edit) → IsPatch es → IsNonDecreasingBy (λ e. e.old_start) es
rising_old es h i j d l k =
    let n : j < length (inverted es) = subst (λ (m : ℕ). j < m) (sym (length-map es flipped)) k in
    let r = rising (inverted es) (inverted-patch es h) i j (flipped d) l n in
    subst (λ (e : Edit). e.new_start ≤ (flipped (get_or es j d)).new_start) (get_or-map flipped es i d (flipped d) (omega arith))
    (subst (λ (e : Edit). (get_or (inverted es) i (flipped d)).new_start ≤ e.new_start) (get_or-map flipped es j d (flipped d) k) r)

-- what `partition_point` finds in a list that rises
pub split : (start : Edit → ℕ) {F : Type 0} {g : Mut F (Bor Edit × Unit {0}) Bool} {f : F} (es : List Edit) (i b : ℕ) → IsNonDecreasingBy start es →
    ((q : Edit → Bool) → ComputesKey g q f → IsPartitionedBy q es → IsPartitionPoint (λ y. q y ≡ true) (λ y. q y ≡ false) es b) →
    ((a : Bor Edit × Unit {0}) (r : Bool) (f' : F) → Called g f a r f' → (r ≡ leb (start a.0.now) i) × (f' ≡ f)) → IsSplit start es i b
split start es i b rises found called =
    let point = IsPartitionPoint-from_clause (λ e. leb (start e) i) es b found (IsPartitionedBy-leb start es i rises) called in
    record {
      before = λ j e l g. subst (λ (x : Edit). start x ≤ i) (get_or_from_slice_get es j e e g) (leb-true _ _ (point.0 j e (omega arith) l));
      after = λ j e l g. subst (λ (x : Edit). i < start x) (get_or_from_slice_get es j e e g) (leb-false _ _ (point.1 j e l (slice_get_within es j e g)));
    }

slice_get-inverted : (es : List Edit) (j : ℕ) (e : Edit) → slice_get (inverted es) j ≡ Some e → slice_get es j ≡ Some (flipped e)
slice_get-inverted es j e g =
    ap (λ (x : List Edit). slice_get x j) (sym (twice es)) ∙ slice_get-map flipped (inverted es) j ∙ ap (option_map flipped) g

pub split-inverted : (es : List Edit) (i b : ℕ) → IsSplit old_start es i b → IsSplit new_start (inverted es) i b
split-inverted es i b h = record {
  before = λ j e l g. h.before j (flipped e) l (slice_get-inverted es j e g);
  after = λ j e l g. h.after j (flipped e) l (slice_get-inverted es j e g);
}

split-tail : (e : Edit) (es : List Edit) (i b : ℕ) → IsSplit new_start (e ∷ es) i (suc b) → IsSplit new_start es i b
split-tail e es i b h = record { before = λ j f l g. h.before (suc j) f (omega arith) g; after = λ j f l g. h.after (suc j) f (omega arith) g }

-- where no edit starts at i or before it
before_all : (o n : ℕ) (es : List Edit) (i : ℕ) → IsSplit new_start es i 0 → origin_from o n es i ≡ Some (o + (i - n))
before_all o n [] i h = refl
before_all o n (e ∷ es) i h = origin-kept o n e es i (h.after 0 e (omega arith) refl)

-- what the last edit that starts at i or before it says of i
abbrev pub by_last : Edit → ℕ → Option ℕ
by_last e i = cond (ltb i e.new_end) None (Some (e.old_end + (i - e.new_end)))

last-from : (gap o n : ℕ) (es : List Edit) (i k : ℕ) (e : Edit) → IsPatchFrom gap o n es → IsSplit new_start es i (suc k) → slice_get es k ≡ Some e →
    origin_from o n es i ≡ by_last e i
last-from gap o n [] i k e h s g = cc
last-from gap o n (f ∷ es) i zero e h s g =
    let same : f ≡ e = cc in
    cond-false _ _ _ (le-ltb _ _ (s.before 0 f (omega arith) refl))
    ∙ ap (λ (x : Option ℕ). cond (ltb i f.new_end) None x) (before_all f.old_end f.new_end es i (split-tail f es i 0 s))
    ∙ ap (λ (x : Edit). by_last x i) same
last-from gap o n (f ∷ []) i (suc k) e h s g = cc
last-from gap o n (f ∷ (f2 ∷ es)) i (suc k) e h s g =
    let a = h.1.0 in
    let b : f2.new_start ≤ i = s.before 1 f2 (omega arith) refl in
    let d : f.new_start ≤ i = s.before 0 f (omega arith) refl in
    origin-past o n f (f2 ∷ es) i d (omega arith)
    ∙ last-from 1 f.old_end f.new_end (f2 ∷ es) i k e h.1 (split-tail f (f2 ∷ es) i (suc k) s) g

slice_get-take : (es : List Edit) (b k : ℕ) → k < b → slice_get (take b es) k ≡ slice_get es k
slice_get-take [] zero k h = refl
slice_get-take [] (suc b) k h = refl
slice_get-take (e ∷ es) zero k h = absurd (omega arith)
slice_get-take (e ∷ es) (suc b) zero h = refl
slice_get-take (e ∷ es) (suc b) (suc k) h = slice_get-take es b k (omega arith)

-- the last of the first b edits
abbrev pub last_of : List Edit → ℕ → Option Edit
last_of es b = slice_get (take b es) (length (take b es) - 1)

last_of-more : (es : List Edit) (k : ℕ) → suc k ≤ length es → last_of es (suc k) ≡ slice_get es k
last_of-more es k h =
    let n : length (take (suc k) es) - 1 ≡ k = omega (arith, length-take-le (suc k) es h) in
    ap (slice_get (take (suc k) es)) n ∙ slice_get-take es (suc k) k (omega arith)

no_edit : Edit
no_edit = record { old_start = 0; old_end = 0; new_start = 0; new_end = 0 }

-- where the search finds none
pub origin-first : (es : List Edit) (i b : ℕ) → b ≤ length es → IsSplit new_start es i b → last_of es b ≡ None → origin_of es i ≡ Some i
origin-first es i zero l s g = before_all 0 0 es i s ∙ ap Some (omega arith)
origin-first es i (suc k) l s g =
    let t = sym (slice_get-get_or es k no_edit (omega arith)) ∙ sym (last_of-more es k l) ∙ g in cc

-- where it finds one
pub origin-last : (es : List Edit) (i b : ℕ) (e : Edit) → IsPatch es → b ≤ length es → IsSplit new_start es i b → last_of es b ≡ Some e →
    origin_of es i ≡ by_last e i
origin-last es i zero e h l s g = let t : last_of es 0 ≡ None = refl in cc
origin-last es i (suc k) e h l s g = last-from 0 0 0 es i k e h s (sym (last_of-more es k l) ∙ g)

-- inside that edit
pub origin-inside : (es : List Edit) (i b : ℕ) (e : Edit) → IsPatch es → b ≤ length es → IsSplit new_start es i b → last_of es b ≡ Some e →
    i < e.new_end → origin_of es i ≡ None
origin-inside es i b e h l s g lt = origin-last es i b e h l s g ∙ cond-true _ _ _ (lt-ltb _ _ lt)

-- after it
pub origin-outside : (es : List Edit) (i b : ℕ) (e : Edit) → IsPatch es → b ≤ length es → IsSplit new_start es i b → last_of es b ≡ Some e →
    e.new_end ≤ i → origin_of es i ≡ Some (e.old_end + (i - e.new_end))
origin-outside es i b e h l s g le = origin-last es i b e h l s g ∙ cond-false _ _ _ (le-ltb _ _ le)

take-inverted : (es : List Edit) (b : ℕ) → take b (inverted es) ≡ inverted (take b es)
take-inverted [] zero = refl
take-inverted [] (suc b) = refl
take-inverted (e ∷ es) zero = refl
take-inverted (e ∷ es) (suc b) = ap (λ (x : List Edit). flipped e ∷ x) (take-inverted es b)

-- the last of the first b edits, seen from the new side
pub last_of-inverted : (es : List Edit) (b : ℕ) → last_of (inverted es) b ≡ option_map flipped (last_of es b)
last_of-inverted es b =
    ap (λ (x : List Edit). slice_get x (length x - 1)) (take-inverted es b)
    ∙ ap (slice_get (inverted (take b es))) (ap (λ (n : ℕ). n - 1) (length-map (take b es) flipped))
    ∙ slice_get-map flipped (take b es) (length (take b es) - 1)

-- the inverse has as many edits
pub length-inverted : (es : List Edit) → length (inverted es) ≡ length es
length-inverted es = length-map es flipped

-- the same three cases for `carry`
pub carry-first : (es : List Edit) (j b : ℕ) → b ≤ length es → IsSplit old_start es j b → last_of es b ≡ None → carry_of es j ≡ Some j
carry-first es j b l s g =
    origin-first (inverted es) j b (subst (λ (n : ℕ). b ≤ n) (sym (length-inverted es)) l) (split-inverted es j b s)
    (last_of-inverted es b ∙ ap (option_map flipped) g)

pub carry-inside : (es : List Edit) (j b : ℕ) (e : Edit) → IsPatch es → b ≤ length es → IsSplit old_start es j b → last_of es b ≡ Some e →
    j < e.old_end → carry_of es j ≡ None
carry-inside es j b e h l s g lt =
    origin-inside (inverted es) j b (flipped e) (inverted-patch es h) (subst (λ (n : ℕ). b ≤ n) (sym (length-inverted es)) l) (split-inverted es j b s)
    (last_of-inverted es b ∙ ap (option_map flipped) g) lt

pub carry-outside : (es : List Edit) (j b : ℕ) (e : Edit) → IsPatch es → b ≤ length es → IsSplit old_start es j b → last_of es b ≡ Some e →
    e.old_end ≤ j → carry_of es j ≡ Some (e.new_end + (j - e.old_end))
carry-outside es j b e h l s g le =
    origin-outside (inverted es) j b (flipped e) (inverted-patch es h) (subst (λ (n : ℕ). b ≤ n) (sym (length-inverted es)) l) (split-inverted es j b s)
    (last_of-inverted es b ∙ ap (option_map flipped) g) le
