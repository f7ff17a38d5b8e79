-- The crew's two ends of its queues, and what the crew keeps of them.
use Rattle.std.specs.Prelude.{◌≡◌, ℕ, ◌*◌, ◌≤◌, false, List, [], ◌∷◌, ◌++◌, length, Option, Some}
use Rattle.crossbeam_channel.specs.Claims.{Pass, view}
use Rattle.crossbeam_channel.specs.declared.flavors.array.Rows.{Rows}
use Rattle.crossbeam_channel.specs.declared.flavors.array.Key.{Key}
use Rattle.crossbeam_channel.specs.declared.flavors.array.Doing.{Doing}
use Rattle.atomic_table.specs.declared.badge.Badge.{Badge}
use Rattle.atomic_table.specs.Seated.{TableId}
use Rattle.wrap_workers.specs.declared.job.Finished.{Finished}
use Rattle.wrap_workers.specs.declared.results.Hand.{Hand}
use Rattle.wrap_workers.specs.declared.tasks.Task.{Task}
use Rattle.wrap_workers.specs.declared.tasks.Post.{Post}
use Rattle.wrap_workers.specs.Jobs.{JobParts}
use Rattle.wrap_workers.specs.Errands.{ErrandParts, Right}
use Rattle.wrap_workers.specs.Owed.{AreDistinct}
use Rattle.wrap_workers.specs.Posted.{serial_of}

-- what a pass knows: within an `impl Model` the word `view` is the impl's own
abbrev pub hand_of : {N : Type 0} → Right N → Hand N
hand_of right = view right

abbrev pub post_of : {N : Type 0} → Pass (Task N) (Post N) → Post N
post_of place = view place

-- which queue of results it is
pub record Queue (N : Type 0) : Type 0 where
  pub table : TableId
  pub key : Badge (Key (Finished N))

abbrev pub queue_at : {N Q M L A : Type 0} → Rows (Badge (Key (Finished N))) (Doing (Finished N) (Hand N)) Q M (Key (Finished N)) L A → Queue N
queue_at ring = record { table = ring.stamps.shared.table_id; key = ring.stamps.shared.key }

-- the pass belongs to this queue, and holds none of its slots
abbrev pub IsAt : {N : Type 0} → Queue N → Right N → Type 0
IsAt queue right = (right.table_id ≡ queue.table) × (right.me.0.of ≡ queue.key) × (right.me.1 ≡ [])

-- the queue of results that the passes of the queue of tasks know is this one
abbrev pub IsHomeAt : {N : Type 0} → Queue N → Option (Right N) → Type 0
IsHomeAt {N} queue home = (like : Right N) × (home ≡ Some like) × IsAt queue like

-- the crew's end of the queue of results: what its pass knows, which queue it is, and how many results it takes
pub record ResultsSeen (N : Type 0) : Type 0 where
  pub hand : Hand N
  pub queue : Queue N
  pub most : ℕ

-- the crew's end of the queue of tasks: what its pass knows, and how many tasks it takes
pub record TasksSeen (N : Type 0) : Type 0 where
  pub post : Post N
  pub most : ℕ

-- the job, with the next right that this end cuts off
abbrev pub IsNextErrand : {N : Type 0} → ResultsSeen N → JobParts N → ErrandParts N → Type 0
IsNextErrand results job errand =
    (errand.job ≡ job) × (serial_of errand ≡ results.hand.serial) × IsAt results.queue errand.right

-- the job is the last of these
abbrev pub IsLast : {N : Type 0} → List (JobParts N) → JobParts N → Type 0
IsLast {N} jobs job = (rest : List (JobParts N)) × (jobs ≡ rest ++ job ∷ [])

-- the crew's pass of the queue of results: it has the rights of the jobs in the crew's own place, which has room for
-- all
pub record IsCrewHand {N : Type 0} (hand : Hand N) (kept : List (JobParts N)) (count workers room : ℕ) : Type 0 where
  pub rights : hand.rights ≡ kept
  pub distinct : AreDistinct hand.out
  pub counted : length hand.out ≡ count
  pub full : count ≤ 2 * workers
  pub roomy : 2 * workers ≤ room

-- the crew's pass of the queue of tasks: no stop was put, and no serial from this one on
pub record IsCrewPost {N : Type 0} (post : Post N) (serial : ℕ) : Type 0 where
  pub going : post.stopped ≡ false
  pub next : post.next ≤ serial

-- the crew's two ends belong to each other. They belong to the jobs of its own place, to its count of jobs out and to
-- its workers
abbrev pub IsCrew : {N : Type 0} → TasksSeen N → ResultsSeen N → List (JobParts N) → ℕ → ℕ → ℕ → Type 0
IsCrew tasks results kept count workers room =
    IsHomeAt results.queue tasks.post.home
    × IsCrewPost tasks.post results.hand.serial
    × IsCrewHand results.hand kept count workers room
    × ((1 ≤ workers) × (workers ≤ 16))
    × (tasks.most ≡ 3 * workers)
    × (results.most ≡ 2 * workers)
