use Rattle.std.proofs.Common.{arith}
use Rattle.display_map.specs.Replay.{present_of}
use Rattle.view_moves.proofs.ByClips.{left-by_col, left-by_row, left-first}
use Rattle.view_moves.proofs.steps.left_of.Goals as goal

pub returns-in_ok-before-clause-moved : goal.returns-in_ok-before-clause-moved
returns-in_ok-before-clause-moved g c = λ goal.
    left-by_col (present_of c.args.view.now) c.args.c c.in_ok-before.before goal c.requires.valid c.if-c-gt0.true c.in_ok-before.ensures.nearest

pub returns-in_ok-above-clause-moved : goal.returns-in_ok-above-clause-moved
returns-in_ok-above-clause-moved g c = λ goal.
    left-by_row (present_of c.args.view.now) c.args.c c.in_ok-above.above goal c.requires.narrow c.requires.valid
    (omega (arith, c.if-c-gt0.false)) c.if-c-gt0-2.true c.in_ok-above.ensures.nearest

pub returns-else-c-gt0-2-clause-moved : goal.returns-else-c-gt0-2-clause-moved
returns-else-c-gt0-2-clause-moved g c = λ goal.
    left-first (present_of c.args.view.now) c.args.c goal (omega (arith, c.if-c-gt0.false)) (omega (arith, c.if-c-gt0-2.false))
