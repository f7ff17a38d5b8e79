-- The run that landed is the one that was out.
use Rattle.std.proofs.Common.{◌≡◌, [], ◌∷◌, ap, sym, ◌∙◌}
use Rattle.wrap_workers.specs.Finishes.{job_of}
use Rattle.display_map.specs.Events.{Landed}
use Rattle.display_map.specs.Replay.{appended}
use Rattle.display_session.specs.LoneDisplays.{LineJob}
use Rattle.display_session.proofs.LoneDisplays.{kept-landed}
use Rattle.display_session.proofs.lone.land.Goals as goal

pub returns-in-None-clause-kept : goal.returns-in-None-clause-kept
returns-in-None-clause-kept c =
    let same : c.in-Done.done.job ≡ job_of c.args.run = ap job_of (sym c.in-Done.is) ∙ c.finished.ensures in
    kept-landed c.args.display.now c.land_done.new.display (job_of c.args.run)
    (c.in-None.ensures.landed ∙ ap (λ (job : LineJob). appended c.args.display.now (Landed job.number ∷ [])) same) c.requires.kept
