use Rattle.display_map.specs.Replay.{present_of}
use Rattle.view_moves.proofs.ByClips.{goal-by, goal-by_start}
use Rattle.view_moves.proofs.steps.goal_of.Goals as goal

pub returns-then-near-e-clause-at_goal : goal.returns-then-near-e-clause-at_goal
returns-then-near-e-clause-at_goal g c =
    goal-by (present_of c.args.view.now) c.args.e c.in_ok-near.near c.args.goal c.in_ok-near.ensures.nearest c.if-near-e.true

pub returns-clause-at_goal : goal.returns-clause-at_goal
returns-clause-at_goal g c =
    goal-by_start (present_of c.args.view.now) c.args.e c.in_ok-near.near c.in_ok-first.first c.args.goal c.requires
    c.in_ok-near.ensures.nearest c.if-near-e.false c.in_ok-first.ensures.nearest
