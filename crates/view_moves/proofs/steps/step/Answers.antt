use Rattle.std.proofs.Common.{◌∙◌, ℕ, ap}
use Rattle.cell_units.specs.declared.place.Spot.{Spot}
use Rattle.display_map.specs.Replay.{present_of}
use Rattle.view_moves.specs.declared.caret.Caret.{Caret}
use Rattle.view_moves.proofs.ByClips.{caret-by, clipped-valid_left}
use Rattle.view_moves.proofs.Narrow.{narrow}
use Rattle.view_moves.proofs.steps.step.Goals as goal

abbrev at_spot : Spot → ℕ → Caret
at_spot s n = record { spot = s; goal = n }

pub moved-requires-clause-narrow : goal.moved-requires-clause-narrow
moved-requires-clause-narrow g c = narrow (present_of c.args.view.now) c.lawful.ensures.lawful c.lawful.ensures.short

pub moved-requires-clause-valid : goal.moved-requires-clause-valid
moved-requires-clause-valid g c = clipped-valid_left (present_of c.args.view.now) c.args.from c.in_ok-c.c c.in_ok-c.ensures.nearest

pub returns-clause-caret : goal.returns-clause-caret
returns-clause-caret g c =
    ap (λ (n : ℕ). at_spot c.in_ok-spot.spot n) c.next_goal-goal.ensures
    ∙ caret-by (present_of c.args.view.now) c.args.from c.in_ok-c.c c.in_ok-spot.spot c.args.goal c.args.motion c.in_ok-c.ensures.nearest c.in_ok-spot.ensures.moved
