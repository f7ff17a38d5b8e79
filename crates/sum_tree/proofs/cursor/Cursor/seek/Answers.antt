use Rattle.std.proofs.Common.{◌≡◌, ◌*◌, ◌^◌, ◌+◌, ◌<◌, ap, subst, arith, length, MatchOption}
use Rattle.sum_tree.specs.Cursors.{IsSought}
use Rattle.sum_tree.specs.inside.Paths.{items_seen}
use Rattle.sum_tree.proofs.PlaceLists.{seen-at}
use Rattle.sum_tree.proofs.Reaching.{sought-by}
use Rattle.sum_tree.proofs.cursor.Cursor.seek.Goals as goal

pub returns-clause-steps : goal.returns-clause-steps
returns-clause-steps g c h few =
    let m = g.T.Sum.Summary in
    let few' : length (items_seen c.self.inside.path.root) < 2 * 6 ^ (h + 1) = omega (arith, few, ap (λ s. length s.items) c.self.view_is) in
    omega (arith, c.find-found.ensures.steps, seen-at m.empty m.joined g.T.Item.summary c.self.inside.path.root h c.self.invariant.path_is.tree few')

pub returns-clause-sought : goal.returns-clause-sought
returns-clause-sought g c =
    let m = g.T.Sum.Summary in
    let d = g.D.Dimension in
    let all = items_seen c.self.inside.path.root in
    let same : all ≡ c.args.self.now.items = ap (λ s. s.items) c.self.view_is in
    subst (λ l. IsSought m.empty m.joined g.T.Item.summary d.measure g.D.Ord.cmp l c.args.target c.args.bias c.settle.new.self.place) same
    (sought-by m.empty m.joined m.fits g.T.Item.summary g.met.T.Sum.Summary.laws d.joined_with d.fits_with d.measure g.D.Ord.cmp g.met.D.Dimension.dimension_laws g.met.D.Ord.total
    c.find-found.result all c.args.target c.args.bias c.settle.new.self.place c.self.invariant.path_is.sum_fits c.find-found.ensures.found
    (subst (λ r. MatchOption c.find-found.result (c.settle.new.self.place ≡ length (items_seen r) + 1) (λ f. c.settle.new.self.place ≡ f.index + 1)) c.find-found.ensures.root c.settle.ensures.place))

pub returns-clause-counted : goal.returns-clause-counted
returns-clause-counted g c = c.find-found.ensures.counted
