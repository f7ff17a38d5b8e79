-- The measures of the prefixes of a list, one part after the other.
use Rattle.std.proofs.Common.{◌≡◌, ℕ, get_or, drop-cons, add-one, ◌+◌, ◌-◌, ◌<◌, ◌≤◌, List, [], ◌∷◌, ◌++◌, length, take, drop, take-add, drop-drop, take_at, drop_at, append_assoc, ap, ◌∙◌, subst, sym, refl, arith, false, Some}
use Rattle.std.specs.List.{slice_get}
use Rattle.std.proofs.lemmas.List.{take-append-drop, length-take, length-drop}
use Rattle.std.specs.Ordering.{is_gt}
use Rattle.std.specs.declared.cmp.Ordering.{Ordering}
use Rattle.sum_core.specs.Sums.{SummaryLaws, DimensionLaws, total}
use Rattle.sum_core.proofs.Children.{total-append, fits-left}
use Rattle.sum_tree.proofs.Places.{drop-at}
use Rattle.sum_tree.specs.Cursors.{measure_to}

-- a part of a part of a list
pub drop-part : {X : Type 0} (all part rest before inside after : List X) (n : ℕ) → drop n all ≡ part ++ rest → part ≡ before ++ (inside ++ after) → drop (n + length before) all ≡ inside ++ (after ++ rest)
drop-part all part rest before inside after n e f =
    sym (drop-drop (length before) n all)
    ∙ ap (drop (length before)) (e ∙ ap (λ l. l ++ rest) f ∙ append_assoc before (inside ++ after) rest)
    ∙ drop_at before ((inside ++ after) ++ rest) (length before) refl
    ∙ append_assoc inside after rest

pub drop-past : {X : Type 0} (all part rest : List X) (n : ℕ) → drop n all ≡ part ++ rest → drop (n + length part) all ≡ rest
drop-past all part rest n e = sym (drop-drop (length part) n all) ∙ ap (drop (length part)) e ∙ drop_at part rest (length part) refl

-- item i of a part, and what follows it
pub item-ahead : {X : Type 0} (all part rest : List X) (n i : ℕ) (x : X) → drop n all ≡ part ++ rest → i < length part → x ≡ get_or part i x → drop (n + i) all ≡ (x ∷ []) ++ (drop (i + 1) part ++ rest)
item-ahead all part rest n i x e lt is =
    let open_at : drop i part ≡ x ∷ drop (i + 1) part = rw (add-one, drop-cons part i x lt, ← is) refl in
    let parts : part ≡ take i part ++ ((x ∷ []) ++ drop (i + 1) part) = sym (take-append-drop i part) ∙ ap (λ l. take i part ++ l) open_at in
    let k : n + length (take i part) ≡ n + i = omega (arith, length-take i part) in
    ap (λ m. drop m all) (sym k) ∙ drop-part all part rest (take i part) (x ∷ []) (drop (i + 1) part) n e parts

module _ {T S D : Type 0} (empty : S) (joined : S → S → S) (fits : S → Type 0) (summary : T → S) (laws : SummaryLaws empty joined fits) (jw : D → D → D) (fw : D → D → Type 0) (measure : S → D) (cmp : D → D → Ordering) (dim : DimensionLaws joined fits jw fw measure cmp) where
  -- the sum of some more items
  total-more : (all part rest : List T) (n : ℕ) → drop n all ≡ part ++ rest → total empty joined summary (take (n + length part) all) ≡ joined (total empty joined summary (take n all)) (total empty joined summary part)
  total-more all part rest n e =
      ap (total empty joined summary) (take-add n (length part) all ∙ ap (λ l. take n all ++ l) (ap (take (length part)) e ∙ take_at part rest (length part) refl))
      ∙ total-append empty joined fits summary laws (take n all) part

  fits-more : (all part rest : List T) (n : ℕ) → fits (total empty joined summary all) → drop n all ≡ part ++ rest → fits (joined (total empty joined summary (take n all)) (total empty joined summary part))
  fits-more all part rest n f e =
      subst fits (total-more all part rest n e)
      (fits-left empty joined fits summary laws all (take (n + length part) all) (drop (n + length part) all) (sym (take-append-drop (n + length part) all)) f)

  -- the measure of some more items
  pub measure-more : (all part rest : List T) (n : ℕ) → fits (total empty joined summary all) → drop n all ≡ part ++ rest → measure_to empty joined summary measure all (n + length part) ≡ jw (measure_to empty joined summary measure all n) (measure (total empty joined summary part))
  measure-more all part rest n f e = ap measure (total-more all part rest n e) ∙ dim.of_joined (total empty joined summary (take n all)) (total empty joined summary part)

  pub measure-more-fits : (all part rest : List T) (n : ℕ) → fits (total empty joined summary all) → drop n all ≡ part ++ rest → fw (measure_to empty joined summary measure all n) (measure (total empty joined summary part))
  measure-more-fits all part rest n f e = dim.fits_joined _ _ (fits-more all part rest n f e)

  -- a longer prefix has no smaller measure
  pub measure-not_greater : (all : List T) (n m : ℕ) → fits (total empty joined summary all) → n ≤ m → m ≤ length all → is_gt (cmp (measure_to empty joined summary measure all n) (measure_to empty joined summary measure all m)) ≡ false
  measure-not_greater all n m f le high =
      let part : List T = take (m - n) (drop n all) in
      let e : drop n all ≡ part ++ drop (m - n) (drop n all) = sym (take-append-drop (m - n) (drop n all)) in
      let k : n + length part ≡ m = omega (arith, length-take (m - n) (drop n all), length-drop n all) in
      let same : measure (joined (total empty joined summary (take n all)) (total empty joined summary part)) ≡ measure_to empty joined summary measure all m =
      ap measure (sym (total-more all part (drop (m - n) (drop n all)) n e)) ∙ ap (measure_to empty joined summary measure all) k in
      subst (λ d. is_gt (cmp (measure_to empty joined summary measure all n) d) ≡ false) same
      (dim.left_not_greater _ _ (fits-more all part (drop (m - n) (drop n all)) n f e))

  -- item i of a part: the measure through it
  pub measure-item : (all part rest : List T) (n i : ℕ) (x : T) (d : D) → fits (total empty joined summary all) → drop n all ≡ part ++ rest → i < length part → x ≡ get_or part i x → d ≡ measure_to empty joined summary measure all (n + i) → measure_to empty joined summary measure all (n + (i + 1)) ≡ jw d (measure (summary x))
  measure-item all part rest n i x d f e lt is ds =
      let one : total empty joined summary (x ∷ []) ≡ summary x = laws.right_identity (summary x) in
      let k : n + (i + 1) ≡ (n + i) + length (x ∷ []) = omega arith in
      ap (measure_to empty joined summary measure all) k
      ∙ measure-more all (x ∷ []) (drop (i + 1) part ++ rest) (n + i) f (item-ahead all part rest n i x e lt is)
      ∙ ap (λ v. jw v (measure (total empty joined summary (x ∷ [])))) (sym ds) ∙ ap (λ v. jw d (measure v)) one

  pub measure-item-fits : (all part rest : List T) (n i : ℕ) (x : T) (d : D) → fits (total empty joined summary all) → drop n all ≡ part ++ rest → i < length part → x ≡ get_or part i x → d ≡ measure_to empty joined summary measure all (n + i) → fw d (measure (summary x))
  measure-item-fits all part rest n i x d f e lt is ds =
      let one : total empty joined summary (x ∷ []) ≡ summary x = laws.right_identity (summary x) in
      subst (λ v. fw v (measure (summary x))) (sym ds)
      (subst (λ v. fw (measure_to empty joined summary measure all (n + i)) (measure v)) one
      (measure-more-fits all (x ∷ []) (drop (i + 1) part ++ rest) (n + i) f (item-ahead all part rest n i x e lt is)))

  -- one item more
  pub measure-next : (all : List T) (n : ℕ) (x : T) (d : D) → fits (total empty joined summary all) → slice_get all n ≡ Some x → d ≡ measure_to empty joined summary measure all n → measure_to empty joined summary measure all (n + 1) ≡ jw d (measure (summary x))
  measure-next all n x d f at is =
      let one : total empty joined summary (x ∷ []) ≡ summary x = laws.right_identity (summary x) in
      measure-more all (x ∷ []) (drop (n + 1) all) n f (drop-at all n x at)
      ∙ ap (λ v. jw v (measure (total empty joined summary (x ∷ [])))) (sym is) ∙ ap (λ v. jw d (measure v)) one

  pub measure-next-fits : (all : List T) (n : ℕ) (x : T) (d : D) → fits (total empty joined summary all) → slice_get all n ≡ Some x → d ≡ measure_to empty joined summary measure all n → fw d (measure (summary x))
  measure-next-fits all n x d f at is =
      let one : total empty joined summary (x ∷ []) ≡ summary x = laws.right_identity (summary x) in
      subst (λ v. fw v (measure (summary x))) (sym is)
      (subst (λ v. fw (measure_to empty joined summary measure all n) (measure v)) one
      (measure-more-fits all (x ∷ []) (drop (n + 1) all) n f (drop-at all n x at)))
