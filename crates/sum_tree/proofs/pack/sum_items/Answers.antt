use Rattle.std.proofs.Common.{◌≡◌, ◌+◌, ◌∷◌, ◌++◌, ◌∙◌, [], ap, sym, subst, drop}
use Rattle.std.proofs.lemmas.List.{drop_more}
use Rattle.sum_core.specs.Sums.{total}
use Rattle.sum_core.proofs.Children.{fits-split, same-split}
use Rattle.sum_tree.proofs.pack.sum_items.Goals as goal

pub plus-sum-requires : goal.plus-sum-requires
plus-sum-requires g c =
    let m = g.T.Sum.Summary in
    let laws = g.met.T.Sum.Summary.laws in
    let x = c.item-item.result in
    let i = c.loop-item.item-index in
    let xs = c.args.items.now in
    let parts : drop i xs ≡ (x ∷ []) ++ drop (i + 1) xs = drop_more xs i x c.loop-item-test.true ∙ ap (λ y. y ∷ drop (i + 1) xs) (sym c.item-item.is) in
    let alone = c.sum.ensures ∙ sym (laws.right_identity (g.T.Item.summary x)) in
    laws.left_fits _ _ (fits-split m.empty m.joined m.fits g.T.Item.summary laws c.loop-item.sum c.sum.result (drop i xs) (x ∷ []) (drop (i + 1) xs) parts alone c.loop-item.invariant.fits)

pub loop-item-preserved : goal.loop-item-preserved
loop-item-preserved g c =
    let m = g.T.Sum.Summary in
    let laws = g.met.T.Sum.Summary.laws in
    let x = c.item-item.result in
    let i = c.loop-item.item-index in
    let xs = c.args.items.now in
    let rest = drop (i + 1) xs in
    let parts : drop i xs ≡ (x ∷ []) ++ rest = drop_more xs i x c.loop-item-test.true ∙ ap (λ y. y ∷ rest) (sym c.item-item.is) in
    let alone = c.sum.ensures ∙ sym (laws.right_identity (g.T.Item.summary x)) in
    record {
      fits = subst (λ s. m.fits (m.joined s (total m.empty m.joined g.T.Item.summary rest))) (sym c.plus-sum.ensures) (fits-split m.empty m.joined m.fits g.T.Item.summary laws c.loop-item.sum c.sum.result (drop i xs) (x ∷ []) rest parts alone c.loop-item.invariant.fits);
      same = ap (λ s. m.joined s (total m.empty m.joined g.T.Item.summary rest)) c.plus-sum.ensures ∙ sym (same-split m.empty m.joined m.fits g.T.Item.summary laws c.loop-item.sum c.sum.result (drop i xs) (x ∷ []) rest parts alone) ∙ c.loop-item.invariant.same;
    }
