-- Rows of children: appended, cut, weakened, and their items and sums.
use Rattle.std.proofs.Common.{◌≡◌, ℕ, ◌+◌, ◌-◌, ◌<◌, ◌≤◌, List, [], ◌∷◌, ◌++◌, map, length, take, drop, get_or, drop-cons, add-one, ap, ◌∙◌, subst, sym, refl, arith, length-append, append_assoc}
use Rattle.std.proofs.lemmas.List.{length-take}
use Rattle.std.proofs.lemmas.List.{length-map, get_or-map, append-nil, take_at, drop_at, map-append, take-append-drop, take_more}
use Rattle.std.specs.List.{remove}
use Rattle.std.proofs.lemmas.List.Concat.{flat_map-append}
use Rattle.std.proofs.lemmas.List.Elements.{All-append, All-weaker, All-get_or, All-take, All-drop, All-cons, All-nil, All-head, All-tail}
use Rattle.sum_core.specs.Sums.{SummaryLaws, total}
use Rattle.sum_core.specs.Nodes.{IsChildList, IsChild, child_value, items_in, items_under}
use Rattle.sum_core.specs.declared.node.Child.{Child}
use Rattle.sum_core.specs.declared.node.Entries.{Entries}

module _ {T S : Type 0} (empty : S) (joined : S → S → S) (fits : S → Type 0) (summary : T → S) (laws : SummaryLaws empty joined fits) where
  pub total-append : (xs ys : List T) → total empty joined summary (xs ++ ys) ≡ joined (total empty joined summary xs) (total empty joined summary ys)
  total-append [] ys = sym (laws.left_identity (total empty joined summary ys))
  total-append (x ∷ xs) ys = ap (joined (summary x)) (total-append xs ys) ∙ sym (laws.assoc (summary x) (total empty joined summary xs) (total empty joined summary ys))

  -- one part more, of sum s
  pub same-split : (b s : S) (all xs ys : List T) → all ≡ xs ++ ys → s ≡ total empty joined summary xs → joined b (total empty joined summary all) ≡ joined (joined b s) (total empty joined summary ys)
  same-split b s all xs ys e se =
      ap (λ l. joined b (total empty joined summary l)) e
      ∙ ap (joined b) (total-append xs ys)
      ∙ ap (λ v. joined b (joined v (total empty joined summary ys))) (sym se)
      ∙ sym (laws.assoc b s (total empty joined summary ys))

  pub fits-split : (b s : S) (all xs ys : List T) → all ≡ xs ++ ys → s ≡ total empty joined summary xs → fits (joined b (total empty joined summary all)) → fits (joined (joined b s) (total empty joined summary ys))
  fits-split b s all xs ys e se f = subst fits (same-split b s all xs ys e se) f

  pub fits-left : (all xs ys : List T) → all ≡ xs ++ ys → fits (total empty joined summary all) → fits (total empty joined summary xs)
  fits-left all xs ys e f = laws.left_fits _ _ (subst fits (ap (total empty joined summary) e ∙ total-append xs ys) f)

  pub fits-right : (all xs ys : List T) → all ≡ xs ++ ys → fits (total empty joined summary all) → fits (total empty joined summary ys)
  fits-right all xs ys e f = laws.right_fits _ _ (subst fits (ap (total empty joined summary) e ∙ total-append xs ys) f)

module _ {T S : Type 0} where
  pub children-opened : (children : List (Child T S)) (i : ℕ) (c : Child T S) → i < length children → c ≡ get_or children i c → drop i (map child_value children) ≡ child_value c ∷ drop (i + 1) (map child_value children)
  children-opened children i c lt is =
      let lt' : i < length (map child_value children) = rw length-map lt in
      rw (add-one, drop-cons (map child_value children) i (child_value c), get_or-map child_value children i c (child_value c) lt, ← is) refl

  pub items_under-append : (xs ys : List (S × ℕ × Entries T S)) → items_under (xs ++ ys) ≡ items_under xs ++ items_under ys
  items_under-append xs ys = flat_map-append (λ c. items_in c.2) xs ys

  module _ (empty : S) (joined : S → S → S) (summary : T → S) (P : Entries T S → Type 0) where
    pub child-weaker : (n m : ℕ) (c : S × ℕ × Entries T S) → n ≤ m → IsChild empty joined summary P m c → IsChild empty joined summary P n c
    child-weaker n m c le k = record { below = k.below; wide = omega (arith, k.wide, le); sum_is = k.sum_is; count_is = k.count_is }

    pub children-weaker : (n m : ℕ) (cs : List (S × ℕ × Entries T S)) → n ≤ m → IsChildList empty joined summary P m cs → IsChildList empty joined summary P n cs
    children-weaker n m cs le r = record { each = All-weaker (IsChild empty joined summary P m) (IsChild empty joined summary P n) (λ c k. child-weaker n m c le k) cs r.each }

    pub children-append : (n : ℕ) (xs ys : List (S × ℕ × Entries T S)) → IsChildList empty joined summary P n xs → IsChildList empty joined summary P n ys → IsChildList empty joined summary P n (xs ++ ys)
    children-append n xs ys r s = record { each = All-append (IsChild empty joined summary P n) xs ys r.each s.each }

    pub children-take : (n i : ℕ) (xs : List (S × ℕ × Entries T S)) → IsChildList empty joined summary P n xs → IsChildList empty joined summary P n (take i xs)
    children-take n i xs r = record { each = All-take (IsChild empty joined summary P n) i xs r.each }

    pub children-drop : (n i : ℕ) (xs : List (S × ℕ × Entries T S)) → IsChildList empty joined summary P n xs → IsChildList empty joined summary P n (drop i xs)
    children-drop n i xs r = record { each = All-drop (IsChild empty joined summary P n) i xs r.each }

    pub children-one : (n : ℕ) (c : S × ℕ × Entries T S) → IsChild empty joined summary P n c → IsChildList empty joined summary P n (c ∷ [])
    children-one n c k = record { each = All-cons (IsChild empty joined summary P n) c [] k (All-nil (IsChild empty joined summary P n)) }

    pub children-head : (n : ℕ) (c : S × ℕ × Entries T S) (cs : List (S × ℕ × Entries T S)) → IsChildList empty joined summary P n (c ∷ cs) → IsChild empty joined summary P n c
    children-head n c cs r = All-head (IsChild empty joined summary P n) c cs r.each

    pub children-tail : (n : ℕ) (c : S × ℕ × Entries T S) (cs : List (S × ℕ × Entries T S)) → IsChildList empty joined summary P n (c ∷ cs) → IsChildList empty joined summary P n cs
    children-tail n c cs r = record { each = All-tail (IsChild empty joined summary P n) c cs r.each }

    pub children-at : (n : ℕ) (children : List (Child T S)) (i : ℕ) (c : Child T S) → i < length children → c ≡ get_or children i c → IsChildList empty joined summary P n (map child_value children) → IsChild empty joined summary P n (child_value c)
    children-at n children i c lt is r =
        let lt' : i < length (map child_value children) = rw length-map lt in
        subst (IsChild empty joined summary P n)
        (get_or-map child_value children i c (child_value c) lt ∙ ap child_value (sym is))
        (All-get_or (IsChild empty joined summary P n) (map child_value children) i (child_value c) lt' r.each)

  -- the items from child i on
  pub items-opened : (children : List (Child T S)) (i : ℕ) (c : Child T S) → i < length children → c ≡ get_or children i c → items_under (drop i (map child_value children)) ≡ items_in (child_value c).2 ++ items_under (drop (i + 1) (map child_value children))
  items-opened children i c lt is = ap items_under (children-opened children i c lt is)

  module _ (empty : S) (joined : S → S → S) (summary : T → S) (P : Entries T S → Type 0) where
    pub children-left : (n : ℕ) (all xs ys : List (S × ℕ × Entries T S)) → all ≡ xs ++ ys → IsChildList empty joined summary P n all → IsChildList empty joined summary P n xs
    children-left n all xs ys e r = subst (IsChildList empty joined summary P n) (ap (take (length xs)) e ∙ take_at xs ys (length xs) refl) (children-take empty joined summary P n (length xs) all r)

    pub children-right : (n : ℕ) (all xs ys : List (S × ℕ × Entries T S)) → all ≡ xs ++ ys → IsChildList empty joined summary P n all → IsChildList empty joined summary P n ys
    children-right n all xs ys e r = subst (IsChildList empty joined summary P n) (ap (drop (length xs)) e ∙ drop_at xs ys (length xs) refl) (children-drop empty joined summary P n (length xs) all r)

  pub values-append : (all xs ys : List (Child T S)) → all ≡ xs ++ ys → map child_value all ≡ map child_value xs ++ map child_value ys
  values-append all xs ys e = ap (map child_value) e ∙ map-append child_value xs ys

  pub items-append : (all xs ys : List (Child T S)) → all ≡ xs ++ ys → items_under (map child_value all) ≡ items_under (map child_value xs) ++ items_under (map child_value ys)
  items-append all xs ys e = ap items_under (values-append all xs ys e) ∙ items_under-append (map child_value xs) (map child_value ys)

  pub items-one : (c : S × ℕ × Entries T S) → items_under (c ∷ []) ≡ items_in c.2
  items-one c = append-nil (items_in c.2)

  -- one child more
  pub items-taken : (children : List (Child T S)) (i : ℕ) (c : Child T S) → i < length children → c ≡ get_or children i c → length (items_under (take (i + 1) (map child_value children))) ≡ length (items_under (take i (map child_value children))) + length (items_in (child_value c).2)
  items-taken children i c lt is =
      let cs = map child_value children in
      let lt' : i < length (map child_value children) = rw length-map lt in
      let g = get_or-map child_value children i c (child_value c) lt ∙ ap child_value (sym is) in
      ap (λ l. length (items_under l)) (take_more cs i (child_value c) lt' ∙ ap (λ x. take i cs ++ x ∷ []) g)
      ∙ ap length (items_under-append (take i cs) (child_value c ∷ []) ∙ ap (λ l. items_under (take i cs) ++ l) (items-one (child_value c)))
      ∙ length-append (items_under (take i cs)) (items_in (child_value c).2)

  -- the children before child i, child i, and those after it
  pub children-split : (children : List (Child T S)) (i : ℕ) (c : Child T S) → i < length children → c ≡ get_or children i c → map child_value children ≡ take i (map child_value children) ++ (child_value c ∷ drop (i + 1) (map child_value children))
  children-split children i c lt is =
      sym (take-append-drop i (map child_value children)) ∙ ap (λ l. take i (map child_value children) ++ l) (children-opened children i c lt is)

  -- the items before child i, those below it, and those after it
  pub items-split : (children : List (Child T S)) (i : ℕ) (c : Child T S) → i < length children → c ≡ get_or children i c → items_under (map child_value children) ≡ items_under (take i (map child_value children)) ++ (items_in (child_value c).2 ++ items_under (drop (i + 1) (map child_value children)))
  items-split children i c lt is =
      let cs = map child_value children in
      ap items_under (children-split children i c lt is) ∙ items_under-append (take i cs) (child_value c ∷ drop (i + 1) cs)

  pub taken-small : (cs : List (S × ℕ × Entries T S)) (i : ℕ) → length (items_under (take i cs)) ≤ length (items_under cs)
  taken-small cs i =
      let e = ap length (ap items_under (sym (take-append-drop i cs)) ∙ items_under-append (take i cs) (drop i cs)) in
      omega (arith, e, length-append (items_under (take i cs)) (items_under (drop i cs)))

-- a list that was cut in two
pub cut : {X : Type 0} (n : ℕ) (xs a b : List X) → a ≡ take n xs → b ≡ drop n xs → xs ≡ a ++ b
cut n xs a b p q = sym (take-append-drop n xs) ∙ ap (λ l. l ++ drop n xs) (sym p) ∙ ap (λ l. a ++ l) (sym q)

pub first-out : {X : Type 0} (xs ys : List X) (x : X) → 0 < length xs → x ≡ get_or xs 0 x → ys ≡ remove xs 0 → xs ≡ x ∷ ys
first-out [] ys x lt p q = absurd (omega arith)
first-out (z ∷ zs) ys x lt p q = ap (λ w. w ∷ zs) (sym p) ∙ ap (λ l. x ∷ l) (sym q)

-- the two parts of a list, cut within its middle part
pub cut-middle : {X : Type 0} (all B F A : List X) (at offset : ℕ) → all ≡ B ++ (F ++ A) → offset ≡ length B → offset ≤ at → at ≤ offset + length F → (take at all ≡ B ++ take (at - offset) F) × (drop at all ≡ drop (at - offset) F ++ A)
cut-middle all B F A at offset e oe low high =
    let k = at - offset in
    let parts : all ≡ (B ++ take k F) ++ (drop k F ++ A) = e ∙ ap (λ l. B ++ (l ++ A)) (sym (take-append-drop k F)) ∙ ap (λ l. B ++ l) (append_assoc (take k F) (drop k F) A) ∙ sym (append_assoc B (take k F) (drop k F ++ A)) in
    let n : length (B ++ take k F) ≡ at = length-append B (take k F) ∙ omega (arith, length-take k F) in
    (ap (take at) parts ∙ take_at (B ++ take k F) (drop k F ++ A) at n, ap (drop at) parts ∙ drop_at (B ++ take k F) (drop k F ++ A) at n)
