-- How many items a tree of a height has at least and at most.
use Rattle.std.proofs.Common.{◌≡◌, ℕ, zero, suc, ◌+◌, ◌*◌, ◌^◌, ◌<◌, ◌≤◌, List, [], ◌∷◌, length, ap, ◌∙◌, subst, sym, refl, arith, length-append, add-one}
use Rattle.std.proofs.Math.Nat.{pow-le-pow_right}
use Rattle.std.proofs.lemmas.Grind.{pow_more}
use Rattle.sum_core.specs.Nodes.{Contents, leaf, inner, IsLawful, IsLawfulLeaf, IsLawfulInner, IsChildList, IsChild, IsRoot, items_in, items_under, width, contents}
use Rattle.sum_core.specs.declared.node.Entries.{Entries}
use Rattle.sum_core.proofs.Levels.{items-seen, items-leaf}
use Rattle.sum_core.proofs.Children.{children-head, children-tail}

not_above : (a b : ℕ) → (b < a → ⊥) → a ≤ b
not_above a b f = grind (arith, f)

module _ {T S : Type 0} (empty : S) (joined : S → S → S) (summary : T → S) where
  children-many : (P : Entries T S → Type 0) (k : ℕ) (cs : List (S × ℕ × Entries T S)) → ((c : S × ℕ × Entries T S) → IsChild empty joined summary P 6 c → k ≤ length (items_in c.2)) → IsChildList empty joined summary P 6 cs → length cs * k ≤ length (items_under cs)
  children-many P k [] f r = omega arith
  children-many P k (c ∷ cs) f r =
      let ih = children-many P k cs f (children-tail empty joined summary P 6 c cs r) in
      let here = f c (children-head empty joined summary P 6 c cs r) in
      omega (arith, ih, here, length-append (items_in c.2) (items_under cs))

  leaf-many : (e : Entries T S) (l : Contents T S (Entries T S)) → contents e ≡ l → IsLawfulLeaf empty joined summary l → width l ≤ length (items_in e)
  leaf-many e (leaf xs) is w = omega (arith, ap length (items-leaf e xs is))
  leaf-many e (inner cs) is w = absurd w

  inner-many : (P : Entries T S → Type 0) (k : ℕ) (e : Entries T S) (l : Contents T S (Entries T S)) → ((c : S × ℕ × Entries T S) → IsChild empty joined summary P 6 c → k ≤ length (items_in c.2)) → contents e ≡ l → IsLawfulInner empty joined summary P l → width l * k ≤ length (items_in e)
  inner-many P k e (leaf xs) f is w = absurd w
  inner-many P k e (inner cs) f is w = omega (arith, children-many P k cs f w.1, ap length (items-seen e cs is))

  times : (a b k n : ℕ) → a ≤ b → b * k ≤ n → a * k ≤ n
  times a b k n le h = grind (arith)

  -- every node but the root
  pub deep : (h : ℕ) (e : Entries T S) → IsLawful empty joined summary h e → 6 ≤ width (contents e) → 6 ^ (h + 1) ≤ length (items_in e)
  deep zero e l w = omega (arith, leaf-many e (contents e) refl l)
  deep (suc h) e l w =
      let below = inner-many (IsLawful empty joined summary h) (6 ^ (h + 1)) e (contents e) (λ c k. deep h c.2 k.below k.wide) refl l in
      let up : 6 ^ (suc h + 1) ≡ 6 ^ (h + 1) * 6 = ap (λ n. 6 ^ (n + 1)) (sym (add-one h)) ∙ pow_more 6 (h + 1) in
      let t = times 6 (width (contents e)) (6 ^ (h + 1)) (length (items_in e)) w below in
      omega (arith, up, t)

  pub some-below : (h : ℕ) (e : Entries T S) → IsLawful empty joined summary h e → 6 ≤ width (contents e) → 0 < length (items_in e)
  some-below h e l w =
      let six : 0 < 6 = omega arith in
      let up : 0 ≤ h + 1 = omega arith in
      let p : 6 ^ 0 ≤ 6 ^ (h + 1) = pow-le-pow_right {n = 6} six {i = 0} {j = h + 1} up in
      omega (arith, p, deep h e l w)

  children-few : (P : Entries T S → Type 0) (k : ℕ) (cs : List (S × ℕ × Entries T S)) → ((c : S × ℕ × Entries T S) → IsChild empty joined summary P 6 c → length (items_in c.2) ≤ k) → IsChildList empty joined summary P 6 cs → length (items_under cs) ≤ length cs * k
  children-few P k [] f r = omega arith
  children-few P k (c ∷ cs) f r =
      let ih = children-few P k cs f (children-tail empty joined summary P 6 c cs r) in
      let here = f c (children-head empty joined summary P 6 c cs r) in
      omega (arith, ih, here, length-append (items_in c.2) (items_under cs))

  leaf-few : (e : Entries T S) (l : Contents T S (Entries T S)) → contents e ≡ l → IsLawfulLeaf empty joined summary l → length (items_in e) ≤ 12
  leaf-few e (leaf xs) is w = omega (arith, w, ap length (items-leaf e xs is))
  leaf-few e (inner cs) is w = absurd w

  times-most : (a b k n : ℕ) → a ≤ b → n ≤ a * k → n ≤ b * k
  times-most a b k n le h = grind (arith)

  inner-few : (P : Entries T S → Type 0) (k : ℕ) (e : Entries T S) (l : Contents T S (Entries T S)) → ((c : S × ℕ × Entries T S) → IsChild empty joined summary P 6 c → length (items_in c.2) ≤ k) → contents e ≡ l → IsLawfulInner empty joined summary P l → length (items_in e) ≤ 12 * k
  inner-few P k e (leaf xs) f is w = absurd w
  inner-few P k e (inner cs) f is w =
      times-most (length cs) 12 k (length (items_in e)) w.0 (omega (arith, children-few P k cs f w.1, ap length (items-seen e cs is)))

  -- every node
  pub at-most : (h : ℕ) (e : Entries T S) → IsLawful empty joined summary h e → length (items_in e) ≤ 12 ^ (h + 1)
  at-most zero e l = leaf-few e (contents e) refl l
  at-most (suc h) e l =
      let below = inner-few (IsLawful empty joined summary h) (12 ^ (h + 1)) e (contents e) (λ c k. at-most h c.2 k.below) refl l in
      let up : 12 ^ (suc h + 1) ≡ 12 ^ (h + 1) * 12 = ap (λ n. 12 ^ (n + 1)) (sym (add-one h)) ∙ pow_more 12 (h + 1) in
      omega (arith, up, below)

  -- the root
  pub root-many : (h : ℕ) (e : Entries T S) → IsRoot empty joined summary (suc h) e → 2 * 6 ^ (h + 1) ≤ length (items_in e)
  root-many h e t =
      times 2 (width (contents e)) (6 ^ (h + 1)) (length (items_in e)) (t.two (omega arith))
      (inner-many (IsLawful empty joined summary h) (6 ^ (h + 1)) e (contents e) (λ c k. deep h c.2 k.below k.wide) refl t.lawful)

  pub root-holds : (h : ℕ) (e : Entries T S) → IsRoot empty joined summary h e → 0 < h → 2 * 6 ^ h ≤ length (items_in e)
  root-holds zero e t lt = absurd (omega arith)
  root-holds (suc h) e t lt = subst (λ n. 2 * 6 ^ n ≤ length (items_in e)) (add-one h) (root-many h e t)

  -- fewer than 2 ^ 32 items have at most eleven levels below the root
  pub low-root : (h : ℕ) (e : Entries T S) → IsRoot empty joined summary h e → length (items_in e) < 2 ^ 32 → h ≤ 11
  low-root zero e t lt = omega arith
  low-root (suc h) e t lt =
      let many = root-many h e t in
      not_above (suc h) 11
      (λ g. let six : 0 < 6 = omega arith in
      let up : 12 ≤ h + 1 = omega (arith, g) in
      let p : 6 ^ 12 ≤ 6 ^ (h + 1) = pow-le-pow_right {n = 6} six {i = 12} {j = h + 1} up in
      omega (arith, many, p, lt))

  -- the height is at most each k that the number of items allows
  pub low-at : (h : ℕ) (e : Entries T S) (k : ℕ) → IsRoot empty joined summary h e → length (items_in e) < 2 * 6 ^ (k + 1) → h ≤ k
  low-at zero e k t lt = omega arith
  low-at (suc h) e k t lt =
      let many = root-many h e t in
      not_above (suc h) k
      (λ g. let six : 0 < 6 = omega arith in
      let up : k + 1 ≤ h + 1 = omega (arith, g) in
      let p : 6 ^ (k + 1) ≤ 6 ^ (h + 1) = pow-le-pow_right {n = 6} six {i = k + 1} {j = h + 1} up in
      omega (arith, many, p, lt))
