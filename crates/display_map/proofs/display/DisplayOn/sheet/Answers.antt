use Rattle.std.proofs.Common.{sym, ap, ◌∙◌}
use Rattle.display_sheet.specs.Shown.{unstamped}
use Rattle.display_map.specs.Replay.{History, present_of}
use Rattle.display_map.proofs.display.DisplayOn.sheet.Goals as goal

pub returns : goal.returns
returns g c = sym c.self.invariant.kept.sheet_is ∙ ap (λ (h : History). unstamped (present_of h)) c.self.view_is
