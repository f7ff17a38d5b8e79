use Rattle.std.proofs.Common.{◌+◌, arith}
use Rattle.display_map.specs.Replay.{present_of}
use Rattle.view_moves.specs.Laws.{at}
use Rattle.view_moves.proofs.ByClips.{clipped-valid_right, down-by, down-by_none}
use Rattle.view_moves.proofs.steps.down_of.Goals as goal

pub goal_of-requires : goal.goal_of-requires
goal_of-requires g c =
    clipped-valid_right (present_of c.args.view.now) (at (c.args.c.row + 1) 0) c.in_ok-below.below c.in_ok-below.ensures.nearest

pub returns-in_ok-there-clause-moved : goal.returns-in_ok-there-clause-moved
returns-in_ok-there-clause-moved g c =
    down-by (present_of c.args.view.now) c.args.c c.in_ok-below.below c.in_ok-there.there c.args.goal
    c.in_ok-below.ensures.nearest c.if-c-below.true c.in_ok-there.ensures.at_goal

pub returns-else-c-below-clause-moved : goal.returns-else-c-below-clause-moved
returns-else-c-below-clause-moved g c =
    down-by_none (present_of c.args.view.now) c.args.c c.in_ok-below.below c.args.goal c.in_ok-below.ensures.nearest (omega (arith, c.if-c-below.false))
