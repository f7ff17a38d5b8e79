use Rattle.std.proofs.Common.{ap, ◌∙◌}
use Rattle.display_map.specs.Replay.{History, present_of, is_settled}
use Rattle.display_map.proofs.Views.{settled-by}
use Rattle.display_map.proofs.display.DisplayOn.settled.Goals as goal

pub returns : goal.returns
returns g c =
    let d = c.self.inside in
    let h : History = record { opening = (g.S.Sheet.kept d.opening).text; events = d.journal } in
    c.is_settled.ensures
    ∙ settled-by (present_of h) (g.S.Sheet.kept d.sheet) c.self.invariant.kept.sheet_is
    ∙ ap (λ (h : History). is_settled (present_of h)) c.self.view_is
