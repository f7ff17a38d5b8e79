-- The first item that passes a test, of lists one after the other and of the items below children.
use Rattle.std.proofs.Common.{◌≡◌, ℕ, ◌+◌, ◌-◌, ◌<◌, ◌≤◌, suc, Bool, true, false, cond, not, nat_lt, None, Some, List, [], ◌∷◌, ◌++◌, ◌||◌, ◌∙◌, length, map, take, drop, get_or, refl, ap, sym, inl, inr, arith, length-append}
use Rattle.std.specs.List.{list_any, position, position_or_len}
use Rattle.std.specs.Prelude.{All}
use Rattle.std.proofs.lemmas.Bool.{cases_lt}
use Rattle.std.proofs.lemmas.Bool.Decides.{nat_tests}
use Rattle.std.proofs.lemmas.List.{get_or-map, length-map, take_more, length-drop}
use Rattle.std.proofs.lemmas.List.Sums.{fails_before_first, passes_at_first}
use Rattle.sum_core.specs.Nodes.{IsLawful, IsChild, IsChildList, child_value, items_in, items_under}
use Rattle.sum_core.specs.declared.node.Child.{Child}
use Rattle.sum_core.specs.declared.node.Entries.{Entries}
use Rattle.sum_core.proofs.Children.{items-one, items-split, items_under-append, children-drop}
use Rattle.sum_core.proofs.Heights.{some-below}

true_false : true ≡ false → ⊥
true_false e = grind (arith, e)

module _ {T : Type 0} (p : T → Bool) where
  -- none passes
  pub position-missed : (xs : List T) → list_any p xs ≡ false → position_or_len p xs ≡ length xs
  position-missed [] none = refl
  position-missed (x ∷ xs) none = go (p x) none (λ e. position-missed xs e) where
    go : (b : Bool) → (b || list_any p xs) ≡ false → (list_any p xs ≡ false → position_or_len p xs ≡ length xs) →
        cond (not b) (1 + position_or_len p xs) 0 ≡ length (x ∷ xs)
    go true e rest = absurd (true_false e)
    go false e rest = omega (arith, rest e)

  pub position-none : (xs : List T) → list_any p xs ≡ false → None ≡ position p xs
  position-none xs none = go (nat_lt (position_or_len p xs) (length xs)) (past (position_or_len p xs) (length xs) (position-missed xs none)) where
    past : (m n : ℕ) → m ≡ n → nat_lt m n ≡ false
    past m n is = grind (arith, nat_tests)

    go : (b : Bool) → b ≡ false → None ≡ cond b (Some (position_or_len p xs)) None
    go true e = absurd (true_false e)
    go false e = refl

  pub position-in : (xs ys : List T) → position_or_len p xs < length xs → position_or_len p (xs ++ ys) ≡ position_or_len p xs
  position-in [] ys lt = absurd (omega arith)
  position-in (x ∷ xs) ys lt = go (p x) (λ le. position-in xs ys le) lt where
    go : (c : Bool) → (position_or_len p xs < length xs → position_or_len p (xs ++ ys) ≡ position_or_len p xs) →
        cond (not c) (1 + position_or_len p xs) 0 < length (x ∷ xs) →
        cond (not c) (1 + position_or_len p (xs ++ ys)) 0 ≡ cond (not c) (1 + position_or_len p xs) 0
    go true rest lt = refl
    go false rest lt = omega (arith, rest (omega (arith, lt)))

  pub position-past : (xs ys : List T) → length xs ≤ position_or_len p xs → position_or_len p (xs ++ ys) ≡ length xs + position_or_len p ys
  position-past [] ys le = omega arith
  position-past (x ∷ xs) ys le = go (p x) (λ le. position-past xs ys le) le where
    go : (c : Bool) → (length xs ≤ position_or_len p xs → position_or_len p (xs ++ ys) ≡ length xs + position_or_len p ys) →
        length (x ∷ xs) ≤ cond (not c) (1 + position_or_len p xs) 0 →
        cond (not c) (1 + position_or_len p (xs ++ ys)) 0 ≡ length (x ∷ xs) + position_or_len p ys
    go true rest le = absurd (omega (arith, le))
    go false rest le = omega (arith, rest (omega (arith, le)))

  -- none of the first i items passes, and item i does
  pub stops-at : (xs : List T) (i : ℕ) (d : T) → i ≤ position_or_len p xs → p (get_or xs i d) ≡ true → i ≡ position_or_len p xs
  stops-at xs i d le is = elim (cases_lt i (position_or_len p xs)) [
    | inl lt ↦ absurd (true_false (sym is ∙ fails_before_first p xs i d lt))
    | inr at ↦ omega (arith, at, le)
  ]

  -- and item i doesn't either
  pub goes_past : (xs : List T) (i : ℕ) (d : T) → i ≤ position_or_len p xs → i < length xs → p (get_or xs i d) ≡ false → i + 1 ≤ position_or_len p xs
  goes_past xs i d le lt none = elim (cases_lt i (position_or_len p xs)) [
    | inl before ↦ omega (arith, before)
    | inr at ↦
        let here : position_or_len p xs ≡ i = omega (arith, at, le) in
        absurd (true_false (sym (passes_at_first p xs d (omega (arith, here, lt))) ∙ ap (λ (k : ℕ). p (get_or xs k d)) here ∙ none))
  ]

module _ {T S : Type 0} where
  -- the items before the next child
  pub taken-more : (children : List (Child T S)) (i : ℕ) (c : Child T S) → i < length children → c ≡ get_or children i c →
      items_under (take (i + 1) (map child_value children)) ≡ items_under (take i (map child_value children)) ++ items_in (child_value c).2
  taken-more children i c lt is =
      let cs = map child_value children in
      let lt' : i < length (map child_value children) = rw length-map lt in
      let g = get_or-map child_value children i c (child_value c) lt ∙ ap child_value (sym is) in
      ap items_under (take_more cs i (child_value c) lt' ∙ ap (λ x. take i cs ++ x ∷ []) g)
      ∙ items_under-append (take i cs) (child_value c ∷ [])
      ∙ ap (λ l. items_under (take i cs) ++ l) (items-one (child_value c))

  module _ (empty : S) (joined : S → S → S) (summary : T → S) where
    -- below each child there is an item
    each-some : (below : ℕ) (cs : List (S × ℕ × Entries T S)) → All (IsChild empty joined summary (IsLawful empty joined summary below) 6) cs → length cs ≤ length (items_under cs)
    each-some below [] h = omega arith
    each-some below (c ∷ cs) h =
        let k = h 0 c (omega arith) in
        omega (
          arith,
          some-below empty joined summary below c.2 k.below k.wide,
          length-append (items_in c.2) (items_under cs),
          each-some below cs (λ i d lt. h (suc i) d (omega (arith, lt))),
        )

    -- so after a child there are at least as many items as children
    pub many-below : (below : ℕ) (children : List (Child T S)) (i : ℕ) (c : Child T S) → i < length children → c ≡ get_or children i c →
        IsChildList empty joined summary (IsLawful empty joined summary below) 6 (map child_value children) →
        length (items_under (take i (map child_value children))) + length (items_in (child_value c).2) + (length children - (i + 1)) ≤ length (items_under (map child_value children))
    many-below below children i c lt is list =
        let cs = map child_value children in
        let behind = drop (i + 1) cs in
        omega (
          arith,
          ap length (items-split children i c lt is),
          length-append (items_under (take i cs)) (items_in (child_value c).2 ++ items_under behind),
          length-append (items_in (child_value c).2) (items_under behind),
          each-some below behind (children-drop empty joined summary (IsLawful empty joined summary below) 6 (i + 1) cs list).each,
          length-drop (i + 1) cs,
          length-map children child_value,
        )
