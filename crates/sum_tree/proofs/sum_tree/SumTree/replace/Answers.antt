use Rattle.std.proofs.Common.{◌≡◌, ◌++◌, sym, subst, take, drop, refl, ap}
use Rattle.std.specs.Vec.{vec_items}
use Rattle.sum_core.specs.Sums.{total}
use Rattle.sum_core.proofs.Children.{fits-left, fits-right}
use Rattle.sum_tree.specs.inside.InPlace.{IsLeft}
use Rattle.sum_tree.proofs.sum_tree.SumTree.replace.Goals as goal

pub from_vec-requires-clause-fits : goal.from_vec-requires-clause-fits
from_vec-requires-clause-fits g c =
    let m = g.T.Sum.Summary in
    let back : c.put_in_place.new.items ≡ c.args.items = subst (IsLeft c.args.items c.put_in_place.new.items) c.in-Err-NoRoom.field-0-is c.in-Err-NoRoom.ensures.put.1 in
    let front = take c.args.from c.args.self.now in
    let most = fits-left m.empty m.joined m.fits g.T.Item.summary g.met.T.Sum.Summary.laws _ (front ++ c.args.items.items) (drop c.args.to c.args.self.now) refl c.requires.fits in
    subst (λ l. m.fits (total m.empty m.joined g.T.Item.summary l)) (sym (ap vec_items back))
    (fits-right m.empty m.joined m.fits g.T.Item.summary g.met.T.Sum.Summary.laws _ front c.args.items.items refl most)
