-- The rule of the queue of tasks: the jobs in it have distinct serials, and each has its right, of one queue of
-- results.
use Rattle.std.specs.Prelude.{◌≡◌, ℕ, ◌+◌, ◌≤◌, Bool, true, false, List, [], ◌∷◌, length, Option, None, Some}
use mathlib.Core.Option.{some}
use lib.ListN.{get_elem?}
use Rattle.crossbeam_channel.specs.Claims.{view}
use Rattle.wrap_workers.specs.declared.tasks.Task.{Task}
use Rattle.wrap_workers.specs.declared.tasks.Task.TheVariants.{Do, Stop}
use Rattle.wrap_workers.specs.declared.tasks.Post.{Post}
use Rattle.wrap_workers.specs.Errands.{ErrandParts, Right}
use Rattle.wrap_workers.specs.Owed.{one_at}

-- the passes belong to one queue, and the second holds none of its slots
abbrev pub IsLike : {N : Type 0} → Right N → Right N → Type 0
IsLike like right = (right.table_id ≡ like.table_id) × (right.me.0.of ≡ like.me.0.of) × (right.me.1 ≡ [])

-- the pass belongs to the queue of results that is known, if one is
abbrev pub IsHome : {N : Type 0} → Option (Right N) → Right N → Type 0
IsHome None right = ⊥
IsHome (Some like) right = IsLike like right

-- the serial of the right that goes with the job
abbrev pub serial_of : {N : Type 0} → ErrandParts N → ℕ
serial_of errand = (view errand.right).serial

-- a task's right belongs to the known queue
abbrev pub IsTaskAt : {N : Type 0} → Option (Right N) → Task N → Type 0
IsTaskAt home (Do errand) = IsHome home errand.right
IsTaskAt home Stop = Unit {0}

abbrev pub AreTasksAt : {N : Type 0} → Option (Right N) → List (Task N) → Type 0
AreTasksAt home [] = Unit {0}
AreTasksAt home (task ∷ tasks) = IsTaskAt home task × AreTasksAt home tasks

-- 1 where the task is a job with this serial, and 0 elsewhere
abbrev pub serials_in : {N : Type 0} → ℕ → Task N → ℕ
serials_in n (Do errand) = one_at n (serial_of errand)
serials_in n Stop = 0

-- how many of the tasks are jobs with this serial
abbrev pub count_serials : {N : Type 0} → ℕ → List (Task N) → ℕ
count_serials n [] = 0
count_serials n (task ∷ tasks) = serials_in n task + count_serials n tasks

-- no task is a stop
abbrev pub IsErrand : {N : Type 0} → Task N → Type 0
IsErrand (Do errand) = Unit {0}
IsErrand Stop = ⊥

abbrev pub AreErrands : {N : Type 0} → List (Task N) → Type 0
AreErrands [] = Unit {0}
AreErrands (task ∷ tasks) = IsErrand task × AreErrands tasks

-- each serial is once in the queue at most, and none from `next` on
abbrev pub AreApart : {N : Type 0} → ℕ → List (Task N) → Type 0
AreApart next tasks =
    ((n : ℕ) → count_serials n tasks ≤ 1) × ((n : ℕ) → next ≤ n → count_serials n tasks ≡ 0)

-- the crew's pass: the known queue of results, a serial past all those that were put, and whether a stop was put
abbrev pub crew_post : {N : Type 0} → Option (Right N) → ℕ → Bool → Post N
crew_post home next stopped = record { crew = true; home = home; next = next; stopped = stopped }

-- a worker's pass, before it took a stop
abbrev pub worker_post : {N : Type 0} → Option (Right N) → Post N
worker_post home = record { crew = false; home = home; next = 0; stopped = false }

-- a worker's pass after it took the task
abbrev pub after_taken : {N : Type 0} → Post N → Task N → Post N
after_taken post (Do errand) = post
after_taken post Stop = record post { stopped = true }

-- the pass of a worker that took no stop
abbrev pub IsAtWork : {N : Type 0} → Post N → Type 0
IsAtWork post = (post.crew ≡ false) × (post.stopped ≡ false)

-- the crew's pass after it put the task
abbrev pub after_put : {N : Type 0} → Post N → Task N → Post N
after_put post (Do errand) = crew_post post.home (serial_of errand + 1) post.stopped
after_put post Stop = crew_post post.home post.next true

-- the task's serial wasn't put before
abbrev pub IsNext : {N : Type 0} → ℕ → Task N → Type 0
IsNext next (Do errand) = next ≤ serial_of errand
IsNext next Stop = Unit {0}

-- each pass knows the queue of results, and one pass at most is the crew's
abbrev pub FitsPost : {N : Type 0} → ℕ → Option (Right N) → ℕ → Bool → ℕ → Post N → Type 0
FitsPost seat home next stopped pass post =
    (post.home ≡ home) × (post.crew ≡ true → (pass ≡ seat) × (post.next ≡ next) × (post.stopped ≡ stopped))

-- the rule, of the tasks in the queue and of what each pass knows. While no queue of results is known, there is one
-- pass
abbrev pub Posted : {N : Type 0} → List (Task N) → List (Post N) → Type 0
Posted {N} tasks posts =
    (seat : ℕ) × (home : Option (Right N)) × (next : ℕ) × (stopped : Bool)
    × AreApart next tasks
    × AreTasksAt home tasks
    × (stopped ≡ false → AreErrands tasks)
    × ((pass : ℕ) (post : Post N) → get_elem? posts pass ≡ some post → FitsPost seat home next stopped pass post)
    × (home ≡ None → length posts ≤ 1)

-- the rule held of these tasks and of what the passes then knew
abbrev pub WerePosted : {N : Type 0} → List (Task N) → Type 0
WerePosted {N} tasks = (posts : List (Post N)) × Posted tasks posts
