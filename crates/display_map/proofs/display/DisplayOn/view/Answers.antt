use Rattle.std.proofs.Common.{ap}
use Rattle.cell_units.specs.Record.{Record}
use Rattle.display_map.specs.Replay.{History}
use Rattle.display_map.proofs.LawfulHistories.{kept-view}
use Rattle.display_map.proofs.display.DisplayOn.view.Goals as goal

pub invariant_of-result : goal.invariant_of-result
invariant_of-result g c =
    let d = c.self.inside in
    let h : History = record { opening = (g.S.Sheet.kept d.opening).text; events = d.journal } in
    kept-view h (g.S.Sheet.kept d.sheet) d.outs.items d.versions d.jobs d.first c.self.invariant
    (g.S.Sheet.kept c.in_ok-share.field-0).text c.in_ok-share-2.field-0 (g.S.Sheet.kept c.in_ok-share-3.field-0)
    (ap (λ (r : Record). r.text) c.in_ok-share.ensures) c.in_ok-share-2.ensures c.in_ok-share-3.ensures
