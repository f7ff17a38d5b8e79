use Rattle.std.proofs.Common.{◌≡◌, ◌∷◌, ◌++◌, [], ◌∙◌, refl, sym, subst, ap}
use Rattle.std.specs.Vec.{vec_items}
use Rattle.sum_core.specs.Sums.{total}
use Rattle.sum_core.proofs.Children.{fits-right}
use Rattle.sum_tree.specs.inside.InPlace.{IsLeft}
use Rattle.sum_tree.proofs.sum_tree.SumTree.push.Goals as goal

pub in_one_leaf-requires-clause-fits : goal.in_one_leaf-requires-clause-fits
in_one_leaf-requires-clause-fits g c =
    let m = g.T.Sum.Summary in
    let back : c.put_in_place.new.items ≡ c.push.new.self = subst (IsLeft c.push.new.self c.put_in_place.new.items) c.in-Err-NoRoom.field-0-is c.in-Err-NoRoom.ensures.put.1 in
    let one = ap vec_items back ∙ c.in_ok-push.ensures.items ∙ ap (λ l. l ++ c.args.item ∷ []) c.new-items.ensures.items in
    subst (λ l. m.fits (total m.empty m.joined g.T.Item.summary l)) (sym one)
    (fits-right m.empty m.joined m.fits g.T.Item.summary g.met.T.Sum.Summary.laws _ _ (c.args.item ∷ []) refl c.requires.fits)
