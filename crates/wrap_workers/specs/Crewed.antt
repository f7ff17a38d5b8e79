-- What a contract sees of a crew.
use Rattle.std.specs.Prelude.{◌≡◌, ℕ, ◌+◌, Contains, List, length}
use Rattle.wrap_workers.specs.Jobs.{JobParts, without}

-- the jobs that are out, those of them that wait in the crew's own place, and how many workers there are
pub record Crewed (N : Type 0) : Type 0 where
  pub out : List (JobParts N)
  pub kept : List (JobParts N)
  pub workers : ℕ

-- the job was one of those that were out, and the others still are
abbrev pub IsTakenOff : {N : Type 0} → JobParts N → List (JobParts N) → List (JobParts N) → Type 0
IsTakenOff job before after =
    Contains before job × (after ≡ without job.number before) × (length after + 1 ≡ length before)
