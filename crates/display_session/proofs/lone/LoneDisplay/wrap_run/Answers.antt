-- A run is sent, if none is late, and lands.
use Rattle.std.proofs.Common.{subst}
use Rattle.display_map.specs.Replay.{History}
use Rattle.display_session.specs.Wrapping.{IsWrapped}
use Rattle.display_session.proofs.Wrapping.{wrapped-both}
use Rattle.display_session.proofs.lone.LoneDisplay.wrap_run.Goals as goal

pub returns-clause-wrapped : goal.returns-clause-wrapped
returns-clause-wrapped c =
    subst (λ (h : History). IsWrapped h c.land.new.display) c.self.view_is
    (wrapped-both c.self.inside.display c.next_run.new.display c.land.new.display c.next_run.ensures.wrapped c.land.ensures.wrapped)
