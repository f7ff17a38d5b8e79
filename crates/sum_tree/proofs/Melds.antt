-- Joining at one end of the higher tree.
use Rattle.std.proofs.Common.{◌≡◌, ℕ, ◌+◌, ◌-◌, ◌<◌, ◌≤◌, min, max, List, ◌++◌, length, ap, ◌∙◌, subst, sym, arith, length-append, append_assoc}
use Rattle.sum_core.specs.Nodes.{IsLawful, IsChildList, IsRoot, items_in, items_under, width, contents}
use Rattle.sum_core.specs.declared.node.Entries.{Entries}
use Rattle.sum_tree.specs.inside.Parts.{IsPacked, IsInner, IsParted, IsMelded}
use Rattle.sum_core.proofs.Levels.{items-seen}
use Rattle.sum_core.proofs.Children.{children-weaker}

module _ {T S : Type 0} (empty : S) (joined : S → S → S) (summary : T → S) where
  pub tree-below : (h : ℕ) (f : Entries T S) → IsLawful empty joined summary h f → 6 ≤ width (contents f) → IsRoot empty joined summary h f
  tree-below h f l w = record { lawful = l; two = λ _. omega (arith, w) }

  pub melded-level : (lh rh : ℕ) (le re : Entries T S) (out : List (S × ℕ × Entries T S)) → lh ≡ rh → IsPacked empty joined summary lh (min 6 (width (contents le) + width (contents re))) (items_in le ++ items_in re) out → IsMelded empty joined summary lh le rh re out
  melded-level lh rh le re out same p =
      record {
        children = λ least six l r e. let top : lh ≡ max lh rh = omega arith in let w : least ≤ min 6 (width (contents le) + width (contents re)) = omega (arith, e same) in
            subst (λ h. IsChildList empty joined summary (IsLawful empty joined summary h) least out) top
            (children-weaker empty joined summary (IsLawful empty joined summary lh) least _ out w p.children);
        both = λ two. let top : lh ≡ max lh rh = omega arith in subst (λ h. IsChildList empty joined summary (IsLawful empty joined summary h) 6 out) top (p.both two);
        some = p.some;
        few = p.few;
        items_is = p.items_is;
      }

  -- in the place of the last child
  pub last-children : (lh rh : ℕ) (re : Entries T S) (f : Entries T S) (pieces : List (S × ℕ × Entries T S)) → rh < lh → 6 ≤ width (contents f) → IsMelded empty joined summary (lh - 1) f rh re pieces → IsChildList empty joined summary (IsLawful empty joined summary (lh - 1)) 6 pieces
  last-children lh rh re f pieces lt k d =
      let top : max (lh - 1) rh ≡ lh - 1 = omega arith in
      subst (λ h. IsChildList empty joined summary (IsLawful empty joined summary h) 6 pieces) top
      (d.children 6 (omega arith) (λ _. k) (λ l. absurd (omega arith)) (λ _. omega (arith, k)))

  pub last-items : (lh rh : ℕ) (le re : Entries T S) (rest : List (S × ℕ × Entries T S)) (f : Entries T S) (pieces : List (S × ℕ × Entries T S)) → IsParted empty joined summary lh le rest f (items_under rest ++ items_in f) → IsMelded empty joined summary (lh - 1) f rh re pieces → items_under rest ++ items_under pieces ≡ items_in le ++ items_in re
  last-items lh rh le re rest f pieces p d =
      ap (λ l. items_under rest ++ l) d.items_is ∙ sym (append_assoc (items_under rest) (items_in f) (items_in re)) ∙ ap (λ l. l ++ items_in re) (sym p.items_is)

  pub melded-last : (lh rh n : ℕ) (le re : Entries T S) (rest : List (S × ℕ × Entries T S)) (f : Entries T S) (pieces out : List (S × ℕ × Entries T S)) → rh < lh → n ≡ length rest + length pieces → IsParted empty joined summary lh le rest f (items_under rest ++ items_in f) → IsMelded empty joined summary (lh - 1) f rh re pieces → IsPacked empty joined summary lh (min 6 n) (items_under rest ++ items_under pieces) out → IsMelded empty joined summary lh le rh re out
  melded-last lh rh n le re rest f pieces out lt is p d o =
      record {
        children = λ least six l r e. let top : lh ≡ max lh rh = omega arith in let w : least ≤ min 6 n = omega (arith, l lt, p.count, d.some) in
            subst (λ h. IsChildList empty joined summary (IsLawful empty joined summary h) least out) top
            (children-weaker empty joined summary (IsLawful empty joined summary lh) least _ out w o.children);
        both = λ two. let top : lh ≡ max lh rh = omega arith in subst (λ h. IsChildList empty joined summary (IsLawful empty joined summary h) 6 out) top (o.both two);
        some = o.some;
        few = o.few;
        items_is = o.items_is ∙ last-items lh rh le re rest f pieces p d;
      }

  -- in the place of the first child
  pub first-children : (lh rh : ℕ) (le : Entries T S) (f : Entries T S) (pieces : List (S × ℕ × Entries T S)) → lh < rh → 6 ≤ width (contents f) → IsMelded empty joined summary lh le (rh - 1) f pieces → IsChildList empty joined summary (IsLawful empty joined summary (rh - 1)) 6 pieces
  first-children lh rh le f pieces lt k d =
      let top : max lh (rh - 1) ≡ rh - 1 = omega arith in
      subst (λ h. IsChildList empty joined summary (IsLawful empty joined summary h) 6 pieces) top
      (d.children 6 (omega arith) (λ l. absurd (omega arith)) (λ _. k) (λ _. omega (arith, k)))

  pub first-items : (lh rh : ℕ) (le re : Entries T S) (rest : List (S × ℕ × Entries T S)) (f : Entries T S) (pieces : List (S × ℕ × Entries T S)) → IsParted empty joined summary rh re rest f (items_in f ++ items_under rest) → IsMelded empty joined summary lh le (rh - 1) f pieces → items_under pieces ++ items_under rest ≡ items_in le ++ items_in re
  first-items lh rh le re rest f pieces p d =
      ap (λ l. l ++ items_under rest) d.items_is ∙ append_assoc (items_in le) (items_in f) (items_under rest) ∙ ap (λ l. items_in le ++ l) (sym p.items_is)

  pub melded-first : (lh rh n : ℕ) (le re : Entries T S) (rest : List (S × ℕ × Entries T S)) (f : Entries T S) (pieces out : List (S × ℕ × Entries T S)) → lh < rh → n ≡ length pieces + length rest → IsParted empty joined summary rh re rest f (items_in f ++ items_under rest) → IsMelded empty joined summary lh le (rh - 1) f pieces → IsPacked empty joined summary rh (min 6 n) (items_under pieces ++ items_under rest) out → IsMelded empty joined summary lh le rh re out
  melded-first lh rh n le re rest f pieces out lt is p d o =
      record {
        children = λ least six l r e. let top : rh ≡ max lh rh = omega arith in let w : least ≤ min 6 n = omega (arith, r lt, p.count, d.some) in
            subst (λ h. IsChildList empty joined summary (IsLawful empty joined summary h) least out) top
            (children-weaker empty joined summary (IsLawful empty joined summary rh) least _ out w o.children);
        both = λ two. let top : rh ≡ max lh rh = omega arith in subst (λ h. IsChildList empty joined summary (IsLawful empty joined summary h) 6 out) top (o.both two);
        some = o.some;
        few = o.few;
        items_is = o.items_is ∙ first-items lh rh le re rest f pieces p d;
      }

  pub level-items : (h : ℕ) (le re : Entries T S) (front back : List (S × ℕ × Entries T S)) → IsInner empty joined summary h le front → IsInner empty joined summary h re back → items_in le ++ items_in re ≡ items_under front ++ items_under back
  level-items h le re front back o p =
      ap (λ l. l ++ items_in re) (items-seen le front o.shows) ∙ ap (λ l. items_under front ++ l) (items-seen re back p.shows)

  pub packed-as : (h n m : ℕ) (xs ys : List T) (out : List (S × ℕ × Entries T S)) → n ≡ m → xs ≡ ys → IsPacked empty joined summary h (min 6 n) xs out → IsPacked empty joined summary h (min 6 m) ys out
  packed-as h n m xs ys out e f p =
      subst (λ k. IsPacked empty joined summary h (min 6 k) ys out) e (subst (λ l. IsPacked empty joined summary h (min 6 n) l out) f p)

  pub last-all : (lh : ℕ) (le re : Entries T S) (rest : List (S × ℕ × Entries T S)) (f : Entries T S) → IsParted empty joined summary lh le rest f (items_under rest ++ items_in f) → items_in le ++ items_in re ≡ items_under rest ++ (items_in f ++ items_in re)
  last-all lh le re rest f p = ap (λ l. l ++ items_in re) p.items_is ∙ append_assoc (items_under rest) (items_in f) (items_in re)

  pub first-all : (rh : ℕ) (le re : Entries T S) (rest : List (S × ℕ × Entries T S)) (f : Entries T S) → IsParted empty joined summary rh re rest f (items_in f ++ items_under rest) → items_in le ++ items_in re ≡ (items_in le ++ items_in f) ++ items_under rest
  first-all rh le re rest f p = ap (λ l. items_in le ++ l) p.items_is ∙ sym (append_assoc (items_in le) (items_in f) (items_under rest))

-- a part is no longer than the whole
pub small-right : {X : Type 0} (n : ℕ) (all xs ys : List X) → all ≡ xs ++ ys → length all < n → length ys < n
small-right n all xs ys e lt = omega (arith, ap length e, length-append xs ys)

pub small-left : {X : Type 0} (n : ℕ) (all xs ys : List X) → all ≡ xs ++ ys → length all < n → length xs < n
small-left n all xs ys e lt = omega (arith, ap length e, length-append xs ys)
