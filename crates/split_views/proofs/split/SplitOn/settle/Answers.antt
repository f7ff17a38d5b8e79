use Rattle.std.proofs.Common.{length, ap, arith}
use Rattle.split_views.proofs.Keeping.{kept-in_one, still-settled}
use Rattle.split_views.proofs.split.SplitOn.settle.Goals as goal

pub invariant_of-self : goal.invariant_of-self
invariant_of-self g c =
    let d = c.self.inside in
    let h = c.index_mut.result.now in
    kept-in_one d.displays.items d.journals c.args.view h c.wrap_all.new.display (omega (arith, c.requires.view, ap length c.self.view_is)) c.index_mut.ensures.value
    (still-settled c.wrap_all.result h c.wrap_all.new.display c.wrap_all.ensures.wrapped c.wrap_all.ensures.begun)
    c.self.invariant
