use Rattle.std.proofs.Common.{◌∙◌, sym}
use Rattle.display_map.specs.Replay.{present_of}
use Rattle.view_moves.proofs.ByClips.{right-by, right-by_row}
use Rattle.view_moves.proofs.steps.right_of.Goals as goal

pub returns-then-is_before-clause-moved : goal.returns-then-is_before-clause-moved
returns-then-is_before-clause-moved g c = λ goal.
    right-by (present_of c.args.view.now) c.args.c c.in_ok-after.after goal c.requires.valid c.in_ok-after.ensures.nearest
    (sym c.is_before.ensures ∙ c.if-is_before.true)

pub returns-clause-moved : goal.returns-clause-moved
returns-clause-moved g c = λ goal.
    right-by_row (present_of c.args.view.now) c.args.c c.in_ok-after.after c.in_ok-below.below goal c.requires.valid
    c.in_ok-after.ensures.nearest (sym c.is_before.ensures ∙ c.if-is_before.false) c.in_ok-below.ensures.nearest
