-- The rule of the queue of results: each job that is out has one right to send its result. Else its result is in the
-- queue.
use Rattle.std.specs.Prelude.{◌≡◌, ℕ, ◌+◌, ◌≤◌, ◌==◌, true, false, List, [], ◌∷◌, ◌++◌, Contains, if◌then◌else◌}
use mathlib.Core.Option.{some}
use lib.ListN.{get_elem?}
use Rattle.wrap_workers.specs.declared.job.Finished.{Finished}
use Rattle.wrap_workers.specs.declared.results.Hand.{Hand}
use Rattle.wrap_workers.specs.Jobs.{JobParts, front, without}
use Rattle.wrap_workers.specs.Finishes.{job_of}

-- the weights of the jobs' numbers, added up
abbrev pub weigh : {N : Type 0} → (ℕ → ℕ) → List (JobParts N) → ℕ
weigh weight [] = 0
weigh weight (job ∷ jobs) = weight job.number + weigh weight jobs

-- those of the jobs whose results these are
abbrev pub weigh_results : {N : Type 0} → (ℕ → ℕ) → List (Finished N) → ℕ
weigh_results weight [] = 0
weigh_results weight (result ∷ results) = weight (job_of result).number + weigh_results weight results

-- those of the jobs to which the passes have rights
abbrev pub weigh_rights : {N : Type 0} → (ℕ → ℕ) → List (Hand N) → ℕ
weigh_rights weight [] = 0
weigh_rights weight (hand ∷ hands) = weigh weight hand.rights + weigh_rights weight hands

-- 1 at this number, and 0 elsewhere
abbrev pub one_at : ℕ → ℕ → ℕ
one_at n m = if n == m then 1 else 0

-- how many of the jobs have this number
abbrev pub times : {N : Type 0} → ℕ → List (JobParts N) → ℕ
times n = weigh (one_at n)

-- no two of the jobs have one number
abbrev pub AreDistinct : {N : Type 0} → List (JobParts N) → Type 0
AreDistinct jobs = (n : ℕ) → times n jobs ≤ 1

-- each of the second jobs is one of the first
abbrev pub ContainsEach : {N : Type 0} → List (JobParts N) → List (JobParts N) → Type 0
ContainsEach out [] = Unit {0}
ContainsEach out (job ∷ jobs) = Contains out job × ContainsEach out jobs

-- the job of each result is one of those that are out
abbrev pub AreOfJobs : {N : Type 0} → List (JobParts N) → List (Finished N) → Type 0
AreOfJobs out [] = Unit {0}
AreOfJobs out (result ∷ results) = Contains out (job_of result) × AreOfJobs out results

-- the numbers of the jobs out are distinct. They are those of the rights and of the results, each once, however they
-- are weighed
abbrev pub AreOwed : {N : Type 0} → List (JobParts N) → List (Finished N) → List (Hand N) → Type 0
AreOwed out results hands =
    ((weight : ℕ → ℕ) → weigh weight out ≡ weigh_rights weight hands + weigh_results weight results)
    × AreDistinct out
    × AreOfJobs out results

-- the crew's pass, which knows the serial of its next right, the jobs that are out and the rights that came back to it
abbrev pub crew_hand : {N : Type 0} → ℕ → List (JobParts N) → List (JobParts N) → Hand N
crew_hand serial out rights = record { crew = true; serial = serial; out = out; rights = rights }

-- the crew's pass after it handed a job out
abbrev pub after_hired : {N : Type 0} → Hand N → JobParts N → Hand N
after_hired hand job = crew_hand (hand.serial + 1) (hand.out ++ job ∷ []) hand.rights

-- after the job of its last right went out again
abbrev pub after_lent : {N : Type 0} → Hand N → Hand N
after_lent hand = crew_hand (hand.serial + 1) hand.out (front hand.rights)

-- after a job came back with its right
abbrev pub after_returned : {N : Type 0} → Hand N → JobParts N → Hand N
after_returned hand job = crew_hand hand.serial hand.out (hand.rights ++ job ∷ [])

-- after it did the job of its last right itself
abbrev pub after_retired : {N : Type 0} → Hand N → JobParts N → Hand N
after_retired hand job = crew_hand hand.serial (without job.number hand.out) (front hand.rights)

-- after it took the result of a job
abbrev pub after_result : {N : Type 0} → Hand N → JobParts N → Hand N
after_result hand job = crew_hand hand.serial (without job.number hand.out) hand.rights

-- rights to send the results of these jobs
abbrev pub right_to : {N : Type 0} → ℕ → List (JobParts N) → Hand N
right_to serial jobs = record { crew = false; serial = serial; out = []; rights = jobs }

-- a right to send the result of this job
abbrev pub right_of : {N : Type 0} → ℕ → JobParts N → Hand N
right_of serial job = right_to serial (job ∷ [])

-- a right that was used
abbrev pub spent : {N : Type 0} → Hand N
spent = right_to 0 []

-- one pass at most is the crew's, and it knows which jobs are out. A right is for a job that is out
abbrev pub FitsHand : {N : Type 0} → ℕ → List (JobParts N) → ℕ → Hand N → Type 0
FitsHand seat out pass hand = (hand.crew ≡ true → (pass ≡ seat) × (hand.out ≡ out)) × ContainsEach out hand.rights

-- the rule, of the results in the queue and of what each pass knows
abbrev pub Owed : {N : Type 0} → List (Finished N) → List (Hand N) → Type 0
Owed {N} results hands =
    (seat : ℕ) × (out : List (JobParts N))
    × AreOwed out results hands
    × ((pass : ℕ) (hand : Hand N) → get_elem? hands pass ≡ some hand → FitsHand seat out pass hand)

-- the rule held of these results and of what the passes then knew, and these jobs were out
abbrev pub WereOwed : {N : Type 0} → List (JobParts N) → List (Finished N) → Type 0
WereOwed {N} out results = (hands : List (Hand N)) × AreOwed out results hands
