use Rattle.std.proofs.Common.{◌∙◌, ap, sym}
use Rattle.cell_units.specs.declared.place.Motion.{Motion}
use Rattle.plain_rows.specs.Spots.{valid_spots}
use Rattle.display_map.specs.Replay.{present_of}
use Rattle.view_moves.specs.Moves.{moved}
use Rattle.view_moves.proofs.steps.moved.Goals as goal

pub returns-in_ok-spot-in-Left-clause-moved : goal.returns-in_ok-spot-in-Left-clause-moved
returns-in_ok-spot-in-Left-clause-moved g c =
    c.in_ok-spot-in-Left.ensures.moved c.args.goal
    ∙ ap (λ (m : Motion). moved (valid_spots (present_of c.args.view.now)) c.args.c c.args.goal m) (sym c.in-Left.is)

pub returns-in_ok-spot-in-Right-clause-moved : goal.returns-in_ok-spot-in-Right-clause-moved
returns-in_ok-spot-in-Right-clause-moved g c =
    c.in_ok-spot-in-Right.ensures.moved c.args.goal
    ∙ ap (λ (m : Motion). moved (valid_spots (present_of c.args.view.now)) c.args.c c.args.goal m) (sym c.in-Right.is)

pub returns-in_ok-spot-in-Up-clause-moved : goal.returns-in_ok-spot-in-Up-clause-moved
returns-in_ok-spot-in-Up-clause-moved g c =
    c.in_ok-spot-in-Up.ensures.moved
    ∙ ap (λ (m : Motion). moved (valid_spots (present_of c.args.view.now)) c.args.c c.args.goal m) (sym c.in-Up.is)

pub returns-in_ok-spot-in-Down-clause-moved : goal.returns-in_ok-spot-in-Down-clause-moved
returns-in_ok-spot-in-Down-clause-moved g c =
    c.in_ok-spot-in-Down.ensures.moved
    ∙ ap (λ (m : Motion). moved (valid_spots (present_of c.args.view.now)) c.args.c c.args.goal m) (sym c.in-Down.is)

pub returns-in_ok-spot-in-Start-clause-moved : goal.returns-in_ok-spot-in-Start-clause-moved
returns-in_ok-spot-in-Start-clause-moved g c =
    c.in_ok-spot-in-Start.ensures.moved c.args.goal
    ∙ ap (λ (m : Motion). moved (valid_spots (present_of c.args.view.now)) c.args.c c.args.goal m) (sym c.in-Start.is)

pub returns-in_ok-spot-in-End-clause-moved : goal.returns-in_ok-spot-in-End-clause-moved
returns-in_ok-spot-in-End-clause-moved g c =
    c.in_ok-spot-in-End.ensures.moved c.args.goal
    ∙ ap (λ (m : Motion). moved (valid_spots (present_of c.args.view.now)) c.args.c c.args.goal m) (sym c.in-End.is)
