use Rattle.std.proofs.Common.{◌-◌, arith}
use Rattle.display_map.specs.Replay.{present_of}
use Rattle.view_moves.specs.Laws.{at}
use Rattle.view_moves.proofs.ByClips.{clipped-valid_left, up-by, up-by_none, up-first}
use Rattle.view_moves.proofs.steps.up_of.Goals as goal

pub returns-then-c-eq0-clause-moved : goal.returns-then-c-eq0-clause-moved
returns-then-c-eq0-clause-moved g c =
    up-first (present_of c.args.view.now) c.args.c c.in_ok-first.first c.args.goal c.requires.valid c.if-c-eq0.true c.in_ok-first.ensures.nearest

pub goal_of-requires : goal.goal_of-requires
goal_of-requires g c =
    clipped-valid_left (present_of c.args.view.now) (at (c.args.c.row - 1) 4294967295) c.in_ok-above.above c.in_ok-above.ensures.nearest

pub returns-in_ok-there-clause-moved : goal.returns-in_ok-there-clause-moved
returns-in_ok-there-clause-moved g c =
    up-by (present_of c.args.view.now) c.args.c c.in_ok-above.above c.in_ok-there.there c.args.goal c.requires.narrow
    (omega (arith, c.if-c-eq0.false)) c.in_ok-above.ensures.nearest c.if-above-c.true c.in_ok-there.ensures.at_goal

pub returns-else-above-c-clause-moved : goal.returns-else-above-c-clause-moved
returns-else-above-c-clause-moved g c =
    up-by_none (present_of c.args.view.now) c.args.c c.in_ok-above.above c.args.goal c.requires.narrow
    (omega (arith, c.if-c-eq0.false)) c.in_ok-above.ensures.nearest (omega (arith, c.if-above-c.false))
