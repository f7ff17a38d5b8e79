-- What a display without workers keeps.
use Rattle.std.specs.Prelude.{◌≡◌, ◌≤◌, Bool, true, List, Option, Some, None, IfSome}
use Rattle.std.specs.List.{list_all}
use Rattle.cell_line.specs.declared.element.Element.{Element}
use Rattle.wrap_workers.specs.Jobs.{JobParts}
use Rattle.display_map.specs.Replay.{History, SentJob, state_of, versions_of, with_landed}
use Rattle.display_map.specs.Sending.{IsOutstanding}

abbrev pub LineJob : Type 0
LineJob = JobParts (List (List Element))

abbrev pub have_landed : List SentJob → Bool
have_landed jobs = list_all (λ job. job.landed) jobs

-- the jobs that were sent, where the late one counts as landed
abbrev pub but_late : Option LineJob → List SentJob → List SentJob
but_late None jobs = jobs
but_late (Some late) jobs = with_landed late.number jobs

-- a version was published, and all jobs have landed but the late one, if there is one
pub record KeepsLone (display : History) (late : Option LineJob) : Type 0 where
  pub published : 1 ≤ versions_of display.events
  pub late_is_out : IfSome late (λ job. IsOutstanding display job)
  pub others_landed : have_landed (but_late late (state_of display).jobs) ≡ true
