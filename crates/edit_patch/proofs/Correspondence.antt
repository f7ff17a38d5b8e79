-- What a patch says is the one correspondence in order that its edits leave.
use Rattle.std.proofs.Common.{◌≡◌, ℕ, zero, suc, ◌+◌, ◌-◌, ◌<◌, ◌≤◌, List, [], ◌∷◌, map, length, Option, Some, None, ap, sym, subst, refl, ◌∙◌, arith, inl, inr, ⊎_elim, ◌⊎◌}
use Rattle.std.specs.Prelude.{Any, slice_index_or}
use Rattle.std.proofs.lemmas.Bool.{cases_lt, cases_order}
use Rattle.edit_patch.specs.declared.edit.Edit.{Edit}
use Rattle.edit_patch.specs.Came.{origin_from, origin_of, Came, IsNew, IsReplaced, CorrespondsInOrder, flipped, inverted}
use Rattle.edit_patch.specs.Patch.{IsPatchFrom, IsPatch}
use Rattle.edit_patch.proofs.Origin.{origin-kept, origin-new, origin-past, above}
use Rattle.edit_patch.proofs.Inverse.{inverted-patch, back, forth}

any-later : (P : Edit → Type 0) (e : Edit) (es : List Edit) → Any P es → Any P (e ∷ es)
any-later P e es h = (suc h.0, h.1, omega arith, h.3, h.4)

any-at : (P : Edit → Type 0) (e : Edit) (es : List Edit) (k : ℕ) (x : Edit) → k < length (e ∷ es) → slice_index_or (e ∷ es) k x ≡ x → P x → P e ⊎ Any P es
any-at P e es zero x l g p = inl (subst P (sym g) p)
any-at P e es (suc k) x l g p = inr (k, x, omega arith, g, p)

-- it holds of the first edit, or of one of the others
any-cases : (P : Edit → Type 0) (e : Edit) (es : List Edit) → Any P (e ∷ es) → P e ⊎ Any P es
any-cases P e es h = any-at P e es h.0 h.1 h.2 h.3 h.4

pub any-map : (P : Edit → Type 0) (es : List Edit) → Any (λ e. P (flipped e)) es → Any P (map flipped es)
any-map P [] h = absurd (let l = h.2 in omega arith)
any-map P (e ∷ es) h =
    ⊎_elim (λ a. (0, flipped e, omega arith, refl, a)) (λ a. any-later P (flipped e) (map flipped es) (any-map P es a)) (any-cases (λ x. P (flipped x)) e es h)

pub any-unmap : (P : Edit → Type 0) (es : List Edit) → Any P (map flipped es) → Any (λ e. P (flipped e)) es
any-unmap P [] h = absurd (let l = h.2 in omega arith)
any-unmap P (e ∷ es) h =
    ⊎_elim (λ a. (0, e, omega arith, refl, a)) (λ a. any-later (λ x. P (flipped x)) e es (any-unmap P es a)) (any-cases P (flipped e) (map flipped es) h)

-- a position that an edit makes new is not before it
new-above : (gap o n : ℕ) (es : List Edit) (i : ℕ) → IsPatchFrom gap o n es → IsNew es i → n ≤ i
new-above gap o n [] i h g = absurd (let l = g.2 in omega arith)
new-above gap o n (e ∷ es) i h g = let a = h.0 in
    ⊎_elim (λ (b : (e.new_start ≤ i) × (i < e.new_end)). omega arith)
    (λ b. let c = new-above 1 e.old_end e.new_end es i h.1 b in omega arith)
    (any-cases (λ x. (x.new_start ≤ i) × (i < x.new_end)) e es g)

new-none : (gap o n : ℕ) (es : List Edit) (i : ℕ) → IsPatchFrom gap o n es → IsNew es i → origin_from o n es i ≡ None
new-none gap o n [] i h g = absurd (let l = g.2 in omega arith)
new-none gap o n (e ∷ es) i h g = let a = h.0 in
    ⊎_elim (λ (b : (e.new_start ≤ i) × (i < e.new_end)). origin-new o n e es i b.0 b.1)
    (λ b. let c = new-above 1 e.old_end e.new_end es i h.1 b in
    origin-past o n e es i (omega arith) c ∙ new-none 1 e.old_end e.new_end es i h.1 b)
    (any-cases (λ x. (x.new_start ≤ i) × (i < x.new_end)) e es g)

none-new : (o n : ℕ) (es : List Edit) (i : ℕ) → origin_from o n es i ≡ None → IsNew es i
none-new o n [] i g = cc
none-new o n (e ∷ es) i g =
    ⊎_elim (λ a. let s = sym (origin-kept o n e es i a) ∙ g in cc)
    (λ a. ⊎_elim (λ b. (0, e, omega arith, refl, (a, b)))
    (λ b. any-later _ e es (none-new e.old_end e.new_end es i (sym (origin-past o n e es i a b) ∙ g)))
    (cases_lt i e.new_end))
    (cases_lt i e.new_start)

order-from : (gap o n : ℕ) (es : List Edit) (h i j k : ℕ) → IsPatchFrom gap o n es → n ≤ h → h < i →
    origin_from o n es h ≡ Some j → origin_from o n es i ≡ Some k → j < k
order-from gap o n [] h i j k p l m f g = let a : o + (h - n) ≡ j = cc in let b : o + (i - n) ≡ k = cc in omega arith
order-from gap o n (e ∷ es) h i j k p l m f g = let a = p.0 in
    ⊎_elim
    (λ b. let s = sym (origin-kept o n e es h b) ∙ f in let t : o + (h - n) ≡ j = cc in
    ⊎_elim (λ c. let u = sym (origin-kept o n e es i c) ∙ g in let v : o + (i - n) ≡ k = cc in omega arith)
    (λ c. ⊎_elim (λ d. let u = sym (origin-new o n e es i c d) ∙ g in cc)
    (λ d. let u = above 1 e.old_end e.new_end es i k p.1 d (sym (origin-past o n e es i c d) ∙ g) in omega arith)
    (cases_lt i e.new_end))
    (cases_lt i e.new_start))
    (λ b. ⊎_elim (λ c. let s = sym (origin-new o n e es h b c) ∙ f in cc)
    (λ c. order-from 1 e.old_end e.new_end es h i j k p.1 c m (sym (origin-past o n e es h b c) ∙ f)
    (sym (origin-past o n e es i (omega arith) (omega arith)) ∙ g))
    (cases_lt h e.new_end))
    (cases_lt h e.new_start)

replaced-none : (es : List Edit) (j : ℕ) → IsPatch es → IsReplaced es j → origin_of (inverted es) j ≡ None
replaced-none es j p r = new-none 0 0 0 (inverted es) j (inverted-patch es p) (any-map (λ x. (x.new_start ≤ j) × (j < x.new_end)) es r)

came-stays : (es : List Edit) (i j : ℕ) → IsPatch es → Came es i j → ¬ IsReplaced es j
came-stays es i j p g r = let s = sym (back es i j p g) ∙ replaced-none es j p r in cc

stays-came : (es : List Edit) (j : ℕ) (o : Option ℕ) → IsPatch es → ¬ IsReplaced es j → origin_of (inverted es) j ≡ o → (i : ℕ) × Came es i j
stays-came es j None p r g = absurd (r (any-unmap (λ x. (x.new_start ≤ j) × (j < x.new_end)) es (none-new 0 0 (inverted es) j g)))
stays-came es j (Some i) p r g = (i, forth es i j p g)

-- a patch makes its positions correspond in order
pub corresponds : (es : List Edit) → IsPatch es → CorrespondsInOrder es (origin_of es)
corresponds es p = record {
  new = λ i. (new-none 0 0 0 es i p, none-new 0 0 es i);
  stays = λ j. ((λ g. came-stays es g.0 j p g.1), (λ r. stays-came es j _ p r refl));
  order = λ h i j k l f g. order-from 0 0 0 es h i j k p (omega arith) l f g;
}

-- where two correspondences agree below i, neither is below the other at i
not-below : (es : List Edit) (f g : ℕ → Option ℕ) → CorrespondsInOrder es f → CorrespondsInOrder es g → (i a b : ℕ) →
    ((k : ℕ) → k < i → f k ≡ g k) → f i ≡ Some a → g i ≡ Some b → a < b → ⊥
not-below es f g h k i a b below fi gi lt =
    let found = (k.stays a).1 ((h.stays a).0 (i, fi)) in
    ⊎_elim (λ (same : found.0 ≡ i). let s = sym found.1 ∙ ap g same ∙ gi in let t : a ≡ b = cc in absurd (omega arith))
    (λ q. ⊎_elim
    (λ (l : found.0 < i). let t = h.order found.0 i a a l (below found.0 l ∙ found.1) fi in absurd (omega arith))
    (λ (l : i < found.0). let t = k.order i found.0 b a l gi found.1 in absurd (omega arith)) q)
    (cases_order found.0 i)

one-at : (es : List Edit) (f g : ℕ → Option ℕ) → CorrespondsInOrder es f → CorrespondsInOrder es g → (i : ℕ) →
    ((k : ℕ) → k < i → f k ≡ g k) → (x y : Option ℕ) → f i ≡ x → g i ≡ y → x ≡ y
one-at es f g h k i below None None fi gi = refl
one-at es f g h k i below None (Some b) fi gi = let s = sym gi ∙ (k.new i).0 ((h.new i).1 fi) in cc
one-at es f g h k i below (Some a) None fi gi = let s = sym fi ∙ (h.new i).0 ((k.new i).1 gi) in cc
one-at es f g h k i below (Some a) (Some b) fi gi =
    ⊎_elim (λ s. ap Some s)
    (λ q. ⊎_elim (λ l. absurd (not-below es f g h k i a b below fi gi l))
    (λ l. absurd (not-below es g f k h i b a (λ j m. sym (below j m)) gi fi l)) q)
    (cases_order a b)

one-below : (es : List Edit) (f g : ℕ → Option ℕ) → CorrespondsInOrder es f → CorrespondsInOrder es g → (n i : ℕ) → i < n → f i ≡ g i
one-below es f g h k zero i l = absurd (omega arith)
one-below es f g h k (suc n) i l = one-at es f g h k i (λ j m. one-below es f g h k n j (omega arith)) (f i) (g i) refl refl

-- there is one correspondence in order at most
pub one_correspondence : (es : List Edit) (f g : ℕ → Option ℕ) → CorrespondsInOrder es f → CorrespondsInOrder es g → (i : ℕ) → f i ≡ g i
one_correspondence es f g h k i = one-below es f g h k (suc i) i (omega arith)
