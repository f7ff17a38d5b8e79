-- Jobs that are out, over what happens to their display.
use Rattle.std.specs.Prelude.{List, All}
use Rattle.cell_line.specs.declared.element.Element.{Element}
use Rattle.wrap_workers.specs.Jobs.{JobParts}
use Rattle.display_map.specs.Replay.{History}
use Rattle.display_map.specs.Sending.{IsOutstanding, seen_job}

-- each of these jobs is out
abbrev pub AreOut : {N : Type 0} → (N → List (List Element)) → History → List (JobParts N) → Type 0
AreOut elements h jobs = All (λ job. IsOutstanding h (seen_job elements job)) jobs

-- the jobs that are out before are out after
abbrev pub StayOut : History → History → Type 0
StayOut before after = (job : JobParts (List (List Element))) → IsOutstanding before job → IsOutstanding after job
