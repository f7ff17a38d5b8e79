-- What the rules of the two queues mean, in other words.
use Rattle.std.specs.Prelude.{◌≡◌, ◌≢◌, ℕ, ◌+◌, ◌≤◌, true, Contains, List, [], ◌∷◌, length}
use mathlib.Core.Option.{some}
use lib.ListN.{get_elem?}
use Rattle.wrap_workers.specs.declared.job.Finished.{Finished}
use Rattle.wrap_workers.specs.declared.results.Hand.{Hand}
use Rattle.wrap_workers.specs.declared.tasks.Task.{Task}
use Rattle.wrap_workers.specs.declared.tasks.Task.TheVariants.{Do, Stop}
use Rattle.wrap_workers.specs.Jobs.{JobParts}
use Rattle.wrap_workers.specs.Owed.{AreDistinct, AreOfJobs, one_at, right_of, weigh_results, weigh_rights}
use Rattle.wrap_workers.specs.Posted.{count_serials, serial_of}

-- how many rights and results there are for jobs of this number
abbrev pub times_owed : {N : Type 0} → ℕ → List (Finished N) → List (Hand N) → ℕ
times_owed n results hands = weigh_rights (one_at n) hands + weigh_results (one_at n) results

-- of each number there is one right or one result at most, and not both
abbrev pub GivesOnce : {N : Type 0} → List (Finished N) → List (Hand N) → Type 0
GivesOnce results hands = (n : ℕ) → times_owed n results hands ≤ 1

-- of the jobs that the crew's pass knows to be out, each has one right or one result. Each result has one of these
-- jobs, and they are as many as the rights and results
abbrev pub IsOfJobOut : {N : Type 0} → List (Finished N) → List (Hand N) → Type 0
IsOfJobOut {N} results hands =
    (pass : ℕ) (hand : Hand N) → get_elem? hands pass ≡ some hand → hand.crew ≡ true →
    ((job : JobParts N) → Contains hand.out job → times_owed job.number results hands ≡ 1)
    × AreOfJobs hand.out results
    × (length hand.out ≡ weigh_rights (λ _. 1) hands + length results)

-- two passes with rights have them for jobs of distinct numbers
abbrev pub HavePassesOfTheirOwn : {N : Type 0} → List (Hand N) → Type 0
HavePassesOfTheirOwn {N} hands =
    (i j s t : ℕ) (a b : JobParts N) → i ≢ j →
    get_elem? hands i ≡ some (right_of s a) → get_elem? hands j ≡ some (right_of t b) → a.number ≢ b.number

-- each serial is once in the queue at most
abbrev pub AreSerialsDistinct : {N : Type 0} → List (Task N) → Type 0
AreSerialsDistinct tasks = (n : ℕ) → count_serials n tasks ≤ 1

-- a pass of these has the right that goes with each job of the queue
abbrev pub HaveRights : {N : Type 0} → List (Hand N) → List (Task N) → Type 0
HaveRights hands [] = Unit {0}
HaveRights hands (Do errand ∷ tasks) = ((pass : ℕ) × (get_elem? hands pass ≡ some (right_of (serial_of errand) errand.job))) × HaveRights hands tasks
HaveRights hands (Stop ∷ tasks) = HaveRights hands tasks

-- the jobs among the tasks
abbrev pub jobs_in : {N : Type 0} → List (Task N) → List (JobParts N)
jobs_in [] = []
jobs_in (Do errand ∷ tasks) = errand.job ∷ jobs_in tasks
jobs_in (Stop ∷ tasks) = jobs_in tasks

-- where each job in the queue of tasks has the right that goes with it, these jobs have distinct numbers
abbrev pub AreJobsApart : {N : Type 0} → List (Task N) → List (Hand N) → Type 0
AreJobsApart tasks hands = HaveRights hands tasks → AreDistinct (jobs_in tasks)
