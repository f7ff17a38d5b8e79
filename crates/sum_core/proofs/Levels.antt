-- From a node to its children, and back.
use Rattle.std.proofs.Common.{◌≡◌, ℕ, zero, suc, ◌-◌, ◌≤◌, List, map, ap, ◌∙◌, subst, sym, arith, Vec, Global, length, Result, Ok, Err, IfOk}
use Rattle.sum_core.specs.Nodes.{contents, layer_contents, inner, leaf, child_value, items_in, contents_items, items_under, IsLawful, IsLawfulLeaf, IsLawfulInner, IsChildList}
use Rattle.sum_core.proofs.Items.{items-contents}
use Rattle.sum_core.specs.declared.node.Child.{Child}
use Rattle.sum_core.specs.declared.node.Entries.{Entries}
use Rattle.sum_core.specs.declared.node.Entries.TheVariants.{Inner, Leaf, outs-Inner, outs-Leaf}

module _ {T S : Type 0} where
  pub seen : (e held : Entries T S) (v : Vec (Child T S) Global) (cs : List (Child T S)) → e ≡ held → e ≡ Inner v → cs ≡ v.items → contents held ≡ inner (map child_value cs)
  seen e held v cs is at es = ap contents (sym is ∙ at) ∙ ap layer_contents (outs-Inner v) ∙ ap (λ l. inner (map child_value l)) (sym es)

  pub contents-Inner : (v : Vec (Child T S) Global) → contents (Inner v) ≡ inner (map child_value v.items)
  contents-Inner v = ap layer_contents (outs-Inner v)

  pub contents-Leaf : (v : Vec T Global) → contents {T = T} {S = S} (Leaf v) ≡ leaf v.items
  contents-Leaf v = ap layer_contents (outs-Leaf v)

  pub items-seen : (e : Entries T S) (cs : List (S × ℕ × Entries T S)) → contents e ≡ inner cs → items_in e ≡ items_under cs
  items-seen e cs is = items-contents e ∙ ap contents_items is

  pub items-leaf : (e : Entries T S) (xs : List T) → contents e ≡ leaf xs → items_in e ≡ xs
  items-leaf e xs is = items-contents e ∙ ap contents_items is

  pub lawful_below : (empty : S) (joined : S → S → S) (summary : T → S) (h : ℕ) (e : Entries T S) (cs : List (S × ℕ × Entries T S)) → IsLawful empty joined summary h e → contents e ≡ inner cs → IsLawfulInner empty joined summary (IsLawful empty joined summary (h - 1)) (inner cs)
  lawful_below empty joined summary zero e cs l is = absurd (subst (IsLawfulLeaf empty joined summary) is l)
  lawful_below empty joined summary (suc h) e cs l is =
      let s : suc h - 1 ≡ h = omega arith in
      subst (λ k. IsLawfulInner empty joined summary (IsLawful empty joined summary k) (inner cs)) (sym s)
      (subst (IsLawfulInner empty joined summary (IsLawful empty joined summary h)) is l)

  -- a node with children is no leaf
  pub inner-high : (empty : S) (joined : S → S → S) (summary : T → S) (h : ℕ) (e : Entries T S) (cs : List (S × ℕ × Entries T S)) → IsLawful empty joined summary h e → contents e ≡ inner cs → 1 ≤ h
  inner-high empty joined summary zero e cs l is = absurd (subst (IsLawfulLeaf empty joined summary) is l)
  inner-high empty joined summary (suc h) e cs l is = omega arith

  -- a node made of such children is lawful
  pub lawful_above : (empty : S) (joined : S → S → S) (summary : T → S) (h : ℕ) (e : Entries T S) (cs : List (S × ℕ × Entries T S)) → 1 ≤ h → contents e ≡ inner cs → length cs ≤ 12 → IsChildList empty joined summary (IsLawful empty joined summary (h - 1)) 6 cs → IsLawful empty joined summary h e
  lawful_above empty joined summary zero e cs le is room children = absurd (omega arith)
  lawful_above empty joined summary (suc h) e cs le is room children =
      let s : suc h - 1 ≡ h = omega arith in
      subst (IsLawfulInner empty joined summary (IsLawful empty joined summary h)) (sym is)
      (room, subst (λ k. IsChildList empty joined summary (IsLawful empty joined summary k) 6 cs) s children)

pub if_ok : {A E : Type 0} (r : Result A E) (P Q : A → Type 0) → ((a : A) → P a → Q a) → IfOk r P → IfOk r Q
if_ok (Ok a) P Q f p = f a p
if_ok (Err e) P Q f p = tt
