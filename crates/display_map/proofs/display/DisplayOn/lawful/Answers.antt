use Rattle.std.proofs.Common.{subst}
use Rattle.display_map.specs.LawfulStates.{IsLawfulHistory}
use Rattle.display_map.specs.Replay.{History}
use Rattle.display_map.proofs.LawfulHistories.{lawful-history}
use Rattle.display_map.proofs.display.DisplayOn.lawful.Goals as goal

pub returns : goal.returns
returns g c =
    let d = c.self.inside in
    let h : History = record { opening = (g.S.Sheet.kept d.opening).text; events = d.journal } in
    subst IsLawfulHistory c.self.view_is (lawful-history h (g.S.Sheet.kept d.sheet) d.outs.items d.versions d.jobs d.first c.self.invariant)
