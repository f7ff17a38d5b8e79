use Rattle.display_map.specs.Replay.{present_of}
use Rattle.view_moves.proofs.ByClips.{start-by}
use Rattle.view_moves.proofs.steps.start_of.Goals as goal

pub returns-clause-moved : goal.returns-clause-moved
returns-clause-moved g c = λ goal.
    start-by (present_of c.args.view.now) c.args.c c.in_ok-first.first goal c.requires c.in_ok-first.ensures.nearest
