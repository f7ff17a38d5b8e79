use Rattle.std.proofs.Common.{◌<◌, ◌==◌, not, All, subst, sym}
use Rattle.std.proofs.lemmas.List.Elements.{All-filter}
use Rattle.wrap_workers.specs.Finishes.{job_of}
use Rattle.test_lines.proofs.crews.beside.take_at.Goals as goal

pub returns-then-out-least : goal.returns-then-out-least
returns-then-out-least g c =
    subst (All (λ job. job.number < c.args.below)) (sym c.take_one.ensures.taken.1)
    (All-filter (λ job. not ((job_of c.take_one.result).number == job.number)) (λ job. job.number < c.args.below) c.args.crew.now.out c.requires.out)
