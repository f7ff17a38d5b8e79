use Rattle.std.proofs.Common.{ap, sym, ◌∙◌}
use Rattle.display_map.specs.Replay.{History, versions_of}
use Rattle.display_map.proofs.view.ViewOn.versions.Goals as goal

pub returns : goal.returns
returns g c = c.from.ensures ∙ sym c.self.invariant.versions_are ∙ ap (λ (h : History). versions_of h.events) c.self.view_is
