-- One node or two, and a node with a child taken out.
use Rattle.std.proofs.Common.{◌≡◌, ℕ, ◌+◌, ◌-◌, ◌≤◌, List, [], ◌∷◌, ◌++◌, length, ap, ◌∙◌, subst, sym, arith, length-append, append_assoc, take}
use Rattle.std.proofs.lemmas.List.{append-nil, take_at}
use Rattle.sum_core.specs.Nodes.{IsLawful, IsChildList, IsChild, inner, items_in, items_under, width, contents}
use Rattle.sum_core.specs.declared.node.Entries.{Entries}
use Rattle.sum_tree.specs.inside.Parts.{IsPacked, IsInner, IsParted, IsCut}
use Rattle.sum_core.proofs.Levels.{items-seen, lawful_below}
use Rattle.sum_core.proofs.Children.{child-weaker, children-one, children-append, children-weaker, children-left, children-right, children-head, children-tail, items_under-append}

module _ {T S : Type 0} (empty : S) (joined : S → S → S) (summary : T → S) where
  pub opened : (h : ℕ) (e : Entries T S) (cs : List (S × ℕ × Entries T S)) → IsLawful empty joined summary h e → contents e ≡ inner cs → IsInner empty joined summary h e cs
  opened h e cs l is =
      let b = lawful_below empty joined summary h e cs l is in
      record { shows = is; children = b.1; room = b.0 }

  pub packed-two : (h n m least : ℕ) (a b : S × ℕ × Entries T S) (xs ys all : List T) (cs : List (S × ℕ × Entries T S)) → cs ≡ a ∷ b ∷ [] → IsChild empty joined summary (IsLawful empty joined summary h) n a → IsChild empty joined summary (IsLawful empty joined summary h) m b → 6 ≤ n → 6 ≤ m → least ≤ 6 → items_in a.2 ≡ xs → items_in b.2 ≡ ys → all ≡ xs ++ ys → IsPacked empty joined summary h least all cs
  packed-two h n m least a b xs ys all cs is k l le mle small ia ib e =
      let P : Entries T S → Type 0 = IsLawful empty joined summary h in
      let ka = child-weaker empty joined summary P 6 n a le k in
      let kb = child-weaker empty joined summary P 6 m b mle l in
      let r : IsChildList empty joined summary P 6 (a ∷ b ∷ []) = children-append empty joined summary P 6 (a ∷ []) (b ∷ []) (children-one empty joined summary P 6 a ka) (children-one empty joined summary P 6 b kb) in
      subst (IsPacked empty joined summary h least all) (sym is)
      (record {
        children = children-weaker empty joined summary P least 6 (a ∷ b ∷ []) small r;
        both = λ two. r;
        some = omega arith;
        few = omega arith;
        items_is = ap (λ l. items_in a.2 ++ l) (append-nil (items_in b.2)) ∙ ap (λ l. l ++ items_in b.2) ia ∙ ap (λ l. xs ++ l) ib ∙ sym e;
      })

  pub packed-one : (h n least : ℕ) (a : S × ℕ × Entries T S) (all : List T) (cs : List (S × ℕ × Entries T S)) → cs ≡ a ∷ [] → IsChild empty joined summary (IsLawful empty joined summary h) n a → least ≤ n → items_in a.2 ≡ all → IsPacked empty joined summary h least all cs
  packed-one h n least a all cs is k le ia =
      let P : Entries T S → Type 0 = IsLawful empty joined summary h in
      subst (IsPacked empty joined summary h least all) (sym is)
      (record {
        children = children-one empty joined summary P least a (child-weaker empty joined summary P least n a le k);
        both = λ two. absurd (omega arith);
        some = omega arith;
        few = omega arith;
        items_is = append-nil (items_in a.2) ∙ ia;
      })

  pub parted-first : (h : ℕ) (e : Entries T S) (cs rest : List (S × ℕ × Entries T S)) (c : S × ℕ × Entries T S) → IsInner empty joined summary h e cs → cs ≡ c ∷ rest → IsParted empty joined summary h e rest c.2 (items_in c.2 ++ items_under rest)
  parted-first h e cs rest c o is =
      let P : Entries T S → Type 0 = IsLawful empty joined summary (h - 1) in
      let r : IsChildList empty joined summary P 6 (c ∷ rest) = subst (IsChildList empty joined summary P 6) is o.children in
      record {
        items_is = items-seen e cs o.shows ∙ ap items_under is;
        children = children-tail empty joined summary P 6 c rest r;
        lawful = (children-head empty joined summary P 6 c rest r).below;
        wide = (children-head empty joined summary P 6 c rest r).wide;
        count = sym (ap width o.shows ∙ ap length is ∙ omega arith);
        room = omega (arith, ap length is, o.room);
      }

  pub parted-last : (h : ℕ) (e : Entries T S) (cs rest : List (S × ℕ × Entries T S)) (c : S × ℕ × Entries T S) → IsInner empty joined summary h e cs → cs ≡ rest ++ c ∷ [] → IsParted empty joined summary h e rest c.2 (items_under rest ++ items_in c.2)
  parted-last h e cs rest c o is =
      let P : Entries T S → Type 0 = IsLawful empty joined summary (h - 1) in
      let n : length cs ≡ length rest + 1 = ap length is ∙ length-append rest (c ∷ []) in
      record {
        items_is = items-seen e cs o.shows ∙ ap items_under is ∙ items_under-append rest (c ∷ []) ∙ ap (λ l. items_under rest ++ l) (append-nil (items_in c.2));
        children = children-left empty joined summary P 6 cs rest (c ∷ []) is o.children;
        lawful = (children-head empty joined summary P 6 c [] (children-right empty joined summary P 6 cs rest (c ∷ []) is o.children)).below;
        wide = (children-head empty joined summary P 6 c [] (children-right empty joined summary P 6 cs rest (c ∷ []) is o.children)).wide;
        count = sym (ap width o.shows ∙ n);
        room = omega (arith, n, o.room);
      }

  pub cut-at : (h : ℕ) (e : Entries T S) (cs before after : List (S × ℕ × Entries T S)) (c : S × ℕ × Entries T S) (at offset i : ℕ) → IsInner empty joined summary h e cs → cs ≡ before ++ (c ∷ after) → length before ≡ i → offset ≡ length (items_under (take i cs)) → offset ≤ at → at ≤ length (items_under (take (i + 1) cs)) → IsCut empty joined summary h e before c.2 after at offset
  cut-at h e cs before after c at offset i o is n oe low high =
      let P : Entries T S → Type 0 = IsLawful empty joined summary (h - 1) in
      let r = children-right empty joined summary P 6 cs before (c ∷ after) is o.children in
      let first : take i cs ≡ before = ap (take i) is ∙ take_at before (c ∷ after) i n in
      let m : length (before ++ c ∷ []) ≡ i + 1 = length-append before (c ∷ []) ∙ omega (arith, n) in
      let next : take (i + 1) cs ≡ before ++ c ∷ [] = ap (take (i + 1)) (is ∙ sym (append_assoc before (c ∷ []) after)) ∙ take_at (before ++ c ∷ []) after (i + 1) m in
      let o' : offset ≡ length (items_under before) = oe ∙ ap (λ l. length (items_under l)) first in
      let more : length (items_under (before ++ c ∷ [])) ≡ length (items_under before) + length (items_in c.2) = ap length (items_under-append before (c ∷ []) ∙ ap (λ l. items_under before ++ l) (append-nil (items_in c.2))) ∙ length-append (items_under before) (items_in c.2) in
      record {
        items_is = items-seen e cs o.shows ∙ ap items_under is ∙ items_under-append before (c ∷ after);
        before_children = children-left empty joined summary P 6 cs before (c ∷ after) is o.children;
        after_children = children-tail empty joined summary P 6 c after r;
        lawful = (children-head empty joined summary P 6 c after r).below;
        wide = (children-head empty joined summary P 6 c after r).wide;
        room = omega (arith, ap length is, length-append before (c ∷ after), o.room);
        offset_is = o';
        low = low;
        high = omega (arith, high, ap (λ l. length (items_under l)) next, more, o');
      }
