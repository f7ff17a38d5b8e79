use Rattle.std.proofs.Common.{◌∷◌, [], refl, length, ap, arith}
use Rattle.display_map.specs.Events.{Line}
use Rattle.split_views.proofs.Keeping.{kept-in_one, still-appended}
use Rattle.split_views.proofs.split.SplitOn.note_line.Goals as goal

pub invariant_of-self : goal.invariant_of-self
invariant_of-self g c =
    let d = c.self.inside in
    let h = c.index_mut.result.now in
    kept-in_one d.displays.items d.journals c.args.view h c.note_line.new.self (omega (arith, c.requires.view, ap length c.self.view_is)) c.index_mut.ensures.value
    (still-appended c.note_line.result h c.note_line.new.self (Line c.args.number ∷ []) (λ text. refl) c.note_line.ensures.noted c.note_line.ensures.unchanged)
    c.self.invariant
