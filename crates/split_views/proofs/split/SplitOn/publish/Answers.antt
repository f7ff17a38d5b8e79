use Rattle.std.proofs.Common.{◌∷◌, [], refl, length, ap, arith}
use Rattle.display_map.specs.Events.{Published}
use Rattle.split_views.proofs.Keeping.{kept-in_one, still-appended}
use Rattle.split_views.proofs.split.SplitOn.publish.Goals as goal

pub invariant_of-self : goal.invariant_of-self
invariant_of-self g c =
    let d = c.self.inside in
    let h = c.index_mut.result.now in
    kept-in_one d.displays.items d.journals c.args.view h c.publish.new.self (omega (arith, c.requires.view, ap length c.self.view_is)) c.index_mut.ensures.value
    (still-appended c.publish.result h c.publish.new.self (Published c.args.last ∷ []) (λ text. refl) c.publish.ensures.published c.publish.ensures.unchanged)
    c.self.invariant
