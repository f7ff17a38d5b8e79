use Rattle.display_map.specs.Replay.{present_of}
use Rattle.view_moves.proofs.ByClips.{end-by}
use Rattle.view_moves.proofs.steps.end_of.Goals as goal

pub returns-clause-moved : goal.returns-clause-moved
returns-clause-moved g c = λ goal.
    end-by (present_of c.args.view.now) c.args.c c.in_ok-last.last goal c.requires.narrow c.requires.valid c.in_ok-last.ensures.nearest
