-- Jobs, and what they give.
use Rattle.std.specs.Prelude.{ℕ, ◌+◌, ◌≤◌, ◌≢◌, ◌==◌, not, All, List, [], ◌∷◌, filter, length, map, slice_range}
use Rattle.smallvec.specs.SmallVec.{SmallVec}
use Rattle.cell_line.specs.declared.element.Element.{Element}
use Rattle.cell_line.specs.declared.lines.Run.{Run}
use Rattle.cell_line.specs.Lines.{FitsU32}
use Rattle.cell_units.specs.declared.limits.TheConstants.{RUN_LIMIT}
use Rattle.cell_units.specs.Lawful.{IsWidth}
use Rattle.cell_line.specs.Wrapping.{cuts_of}

-- what a contract sees of a job
pub record JobParts (N : Type 0) : Type 0 where
  pub number : ℕ
  pub lines : N
  pub run : Run
  pub width : ℕ

-- what a contract sees of a job that was done: the job, and the cuts of each line of its run
pub record DoneParts (N : Type 0) : Type 0 where
  pub job : JobParts N
  pub wraps : List (List ℕ)

-- the run has a line at least and no more than the limit, and lies in so many
abbrev pub IsRunIn : ℕ → Run → Type 0
IsRunIn lines run = (1 ≤ run.count) × (run.count ≤ RUN_LIMIT) × (run.first + run.count ≤ lines)

-- lines whose sizes fit u32, a run in them and a lawful width
abbrev pub IsLawful : List (List Element) → Run → ℕ → Type 0
IsLawful lines run width = FitsU32 lines × IsRunIn (length lines) run × IsWidth width

-- the lines of the run
abbrev pub lines_of_run : List (List Element) → Run → List (List Element)
lines_of_run lines run = slice_range lines run.first (run.first + run.count)

-- the cuts of each line of the run at the width
abbrev pub wraps_of : List (List Element) → Run → ℕ → List (List ℕ)
wraps_of lines run width = map (λ elements. cuts_of elements width) (lines_of_run lines run)

-- the places that the lists of cuts hold
abbrev pub places_of : List (SmallVec ℕ) → List (List ℕ)
places_of wraps = map (λ cuts. cuts.items) wraps

-- no job of these has this number
abbrev pub IsFree : {N : Type 0} → ℕ → List (JobParts N) → Type 0
IsFree number jobs = All (λ job. job.number ≢ number) jobs

-- the jobs but those of this number
abbrev pub without : {N : Type 0} → ℕ → List (JobParts N) → List (JobParts N)
without number jobs = filter (λ job. not (number == job.number)) jobs

-- all but the last job
abbrev pub front : {N : Type 0} → List (JobParts N) → List (JobParts N)
front [] = []
front (job ∷ []) = []
front (job ∷ next ∷ rest) = job ∷ front (next ∷ rest)

-- the last job, if there is one
abbrev pub last : {N : Type 0} → List (JobParts N) → List (JobParts N)
last [] = []
last (job ∷ []) = job ∷ []
last (job ∷ next ∷ rest) = last (next ∷ rest)

-- the jobs but those of these numbers
abbrev pub without_each : {N : Type 0} → List (JobParts N) → List (JobParts N) → List (JobParts N)
without_each [] jobs = jobs
without_each (job ∷ others) jobs = without_each others (without job.number jobs)
