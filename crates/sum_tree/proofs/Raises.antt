-- From one node or two to a tree.
use Rattle.std.proofs.Common.{◌≡◌, ℕ, zero, suc, ◌+◌, ◌<◌, ◌≤◌, max, List, [], ◌∷◌, ◌++◌, length, ap, ◌∙◌, subst, sym, refl, arith}
use Rattle.std.proofs.lemmas.List.{append-nil, nil_from_length}
use Rattle.sum_core.specs.Nodes.{IsLawful, IsChildList, IsChild, IsRoot, entries_of, items_in, items_under, width, contents}
use Rattle.sum_core.specs.declared.node.Entries.{Entries}
use Rattle.sum_tree.specs.inside.Parts.{IsMelded, IsRaisable}
use Rattle.sum_tree.specs.inside.Trees.{IsTreeOf}
use Rattle.sum_tree.specs.declared.trees.Tree.{Tree}
use Rattle.sum_core.specs.Sums.{total}
use Rattle.sum_core.proofs.Children.{children-head}

module _ {T S : Type 0} (empty : S) (joined : S → S → S) (summary : T → S) where
  pub raisable : (lh rh : ℕ) (le re : Entries T S) (pieces : List (S × ℕ × Entries T S)) → IsRoot empty joined summary lh le → IsRoot empty joined summary rh re → IsMelded empty joined summary lh le rh re pieces → IsRaisable empty joined summary (max lh rh) pieces
  raisable lh rh le re pieces l r d =
      record {
        children = λ least two low. d.children least (omega arith) (λ lt. omega (arith, l.two (omega arith))) (λ lt. omega (arith, r.two (omega arith))) (λ e. level lh least (width (contents le)) (width (contents re)) two (λ z. low (omega arith)) l.two);
        both = d.both;
        some = d.some;
        few = omega (arith, d.few);
      }
    where
      level : (h least w v : ℕ) → least ≤ 2 → (h ≡ 0 → least ≡ 0) → (0 < h → 2 ≤ w) → least ≤ w + v
      level zero least w v two low t = omega (arith, low refl)
      level (suc h) least w v two low t = omega (arith, t (omega arith))

  -- a tree with this root
  pub rooted : (h n : ℕ) (c : S × ℕ × Entries T S) (t : Tree T S) → (t.sum, t.count, entries_of t.node) ≡ c → t.height ≡ h → IsRoot empty joined summary h c.2 → IsChild empty joined summary (IsLawful empty joined summary h) n c → IsTreeOf empty joined summary t (items_in c.2)
  rooted h n c t is same r k =
      let e : entries_of t.node ≡ c.2 = ap (λ v. v.2) is in
      record {
        tree = record {
          root = subst (λ i. IsRoot empty joined summary i (entries_of t.node)) (sym same) (subst (IsRoot empty joined summary h) (sym e) r);
          sum_is = ap (λ v. v.0) is ∙ k.sum_is ∙ ap (λ f. total empty joined summary (items_in f)) (sym e);
          count_is = ap (λ v. v.1) is ∙ k.count_is ∙ ap (λ f. length (items_in f)) (sym e);
        };
        items_is = ap items_in e;
      }

  -- a tree over the one piece that there is
  pub raised-one : (h : ℕ) (rest pieces : List (S × ℕ × Entries T S)) (c : S × ℕ × Entries T S) (t : Tree T S) → (t.sum, t.count, entries_of t.node) ≡ c → t.height ≡ h → length pieces ≡ 1 → pieces ≡ c ∷ rest → IsRaisable empty joined summary h pieces → IsTreeOf empty joined summary t (items_under pieces)
  raised-one h rest pieces c t is same one e r =
      let none : rest ≡ [] = nil_from_length rest (omega (arith, ap length e)) in
      let all : items_under pieces ≡ items_in c.2 = ap items_under e ∙ ap (λ l. items_in c.2 ++ items_under l) none ∙ append-nil (items_in c.2) in
      let child : (n : ℕ) → n ≤ 2 → (h ≡ 0 → n ≡ 0) → IsChild empty joined summary (IsLawful empty joined summary h) n c = λ n two low. children-head empty joined summary (IsLawful empty joined summary h) n c rest (subst (IsChildList empty joined summary (IsLawful empty joined summary h) n) e (r.children n two low)) in
      let k = child 0 (omega arith) (λ _. refl) in
      subst (IsTreeOf empty joined summary t) (sym all)
      (rooted h 0 c t is same (record { lawful = k.below; two = λ lt. (child 2 (omega arith) (λ z. absurd (omega arith))).wide }) k)
