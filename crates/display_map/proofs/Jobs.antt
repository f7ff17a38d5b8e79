-- Jobs by their numbers, what a landing leaves, and which lines wait.
use Rattle.std.proofs.Common.{◌≡◌, ℕ, ◌+◌, ◌<◌, ◌==◌, ◌&&◌, ◌||◌, not, eqb, zero, suc, cond, Bool, true, false, List, [], ◌∷◌, length, map, drop, set, get_or, Option, Some, None, refl, sym, ap, ◌∙◌, arith, add_comm}
use Rattle.std.specs.Prelude.{slice_get}
use Rattle.std.specs.List.{find, prefix_len, range_with_len}
use Rattle.std.proofs.lemmas.Bool.{eq-eqb, ne_eqb}
use Rattle.std.proofs.lemmas.List.{drop-map}
use Rattle.std.proofs.lemmas.List.Folds.{list_any-append}
use Rattle.cell_units.specs.Record.{Record, Mark}
use Rattle.cell_units.specs.Operation.{Operation}
use Rattle.display_map.specs.Events.{Event, Line, Did, Sent, Landed, Published}
use Rattle.display_map.specs.Replay.{SentJob, State, holds, wrapped_at, landed_on, job_numbered, with_landed, stamps_of, happens, is_held, waits, run_from, first_waiting, next_run}
use Rattle.display_map.proofs.Stamps.{stamps, stamps-wrapped_at}

-- ---- by number

pub slice_get_some : {X : Type 0} (xs : List X) (i : ℕ) (d : X) → i < length xs → slice_get xs i ≡ Some (get_or xs i d)
slice_get_some [] i d lt = absurd (omega arith)
slice_get_some (x ∷ xs) zero d lt = refl
slice_get_some (x ∷ xs) (suc i) d lt = slice_get_some xs i d (omega arith)

first_number : (a : ℕ) (job : SentJob) (jobs : List SentJob) → map (λ j. j.number) (job ∷ jobs) ≡ range_with_len a (length (job ∷ jobs)) → job.number ≡ a
first_number a job jobs e = ap (λ (l : List ℕ). get_or l 0 0) e

other_numbers : (a : ℕ) (job : SentJob) (jobs : List SentJob) → map (λ j. j.number) (job ∷ jobs) ≡ range_with_len a (length (job ∷ jobs)) →
    map (λ j. j.number) jobs ≡ range_with_len (a + 1) (length jobs)
other_numbers a job jobs e = ap (λ (l : List ℕ). drop 1 l) e

numbered_at : (a : ℕ) (jobs : List SentJob) (k : ℕ) → map (λ job. job.number) jobs ≡ range_with_len a (length jobs) → k < length jobs →
    find (λ job. job.number == a + k) jobs ≡ slice_get jobs k
numbered_at a [] k e lt = absurd (omega arith)
numbered_at a (job ∷ jobs) zero e lt =
    let here : eqb job.number (a + 0) ≡ true = eq-eqb job.number (a + 0) (omega (arith, first_number a job jobs e)) in
    ap (λ (b : Bool). cond b (Some job) (find (λ (j : SentJob). j.number == a + 0) jobs)) here
numbered_at a (job ∷ jobs) (suc k) e lt =
    let here : eqb job.number (a + suc k) ≡ false = ne_eqb job.number (a + suc k) (λ h. omega (arith, h, first_number a job jobs e)) in
    let next : a + suc k ≡ a + 1 + k = omega arith in
    ap (λ (b : Bool). cond b (Some job) (find (λ (j : SentJob). j.number == a + suc k) jobs)) here
    ∙ ap (λ (n : ℕ). find (λ (j : SentJob). j.number == n) jobs) next
    ∙ numbered_at (a + 1) jobs k (other_numbers a job jobs e) (omega arith)

-- jobs that are numbered from 1 on are at their numbers
pub job_numbered-at : (jobs : List SentJob) (k : ℕ) → map (λ job. job.number) jobs ≡ range_with_len 1 (length jobs) → k < length jobs →
    job_numbered (k + 1) jobs ≡ slice_get jobs k
job_numbered-at jobs k e lt = ap (λ (n : ℕ). job_numbered n jobs) (add_comm k 1) ∙ numbered_at 1 jobs k e lt

landed_other : (a number : ℕ) (jobs : List SentJob) → map (λ job. job.number) jobs ≡ range_with_len a (length jobs) → number < a →
    with_landed number jobs ≡ jobs
landed_other a number [] e lt = refl
landed_other a number (job ∷ jobs) e lt =
    let here : eqb job.number number ≡ false = ne_eqb job.number number (λ h. omega (arith, h, lt, first_number a job jobs e)) in
    λ i. cond (here i) (record job { landed = true }) job ∷ landed_other (a + 1) number jobs (other_numbers a job jobs e) (omega arith) i

landed_at : (a : ℕ) (jobs : List SentJob) (k : ℕ) (d : SentJob) → map (λ job. job.number) jobs ≡ range_with_len a (length jobs) → k < length jobs →
    with_landed (a + k) jobs ≡ set jobs k (record (get_or jobs k d) { landed = true })
landed_at a [] k d e lt = absurd (omega arith)
landed_at a (job ∷ jobs) zero d e lt =
    let here : eqb job.number (a + 0) ≡ true = eq-eqb job.number (a + 0) (omega (arith, first_number a job jobs e)) in
    λ i. cond (here i) (record job { landed = true }) job ∷ landed_other (a + 1) (a + 0) jobs (other_numbers a job jobs e) (omega arith) i
landed_at a (job ∷ jobs) (suc k) d e lt =
    let here : eqb job.number (a + suc k) ≡ false = ne_eqb job.number (a + suc k) (λ h. omega (arith, h, first_number a job jobs e)) in
    let next : a + suc k ≡ a + 1 + k = omega arith in
    λ i. cond (here i) (record job { landed = true }) job ∷ (ap (λ (n : ℕ). with_landed n jobs) next ∙ landed_at (a + 1) jobs k d (other_numbers a job jobs e) (omega arith)) i

-- a landing marks the job of its number alone
pub with_landed-at : (jobs : List SentJob) (k : ℕ) (d : SentJob) → map (λ job. job.number) jobs ≡ range_with_len 1 (length jobs) → k < length jobs →
    with_landed (k + 1) jobs ≡ set jobs k (record (get_or jobs k d) { landed = true })
with_landed-at jobs k d e lt = ap (λ (n : ℕ). with_landed n jobs) (add_comm k 1) ∙ landed_at 1 jobs k d e lt

-- ---- a landing

-- the marks after a landing: those of the job's stamps have its width, where that is the present one
abbrev pub landed_marks : Record → Option SentJob → List Mark
landed_marks r None = r.marks
landed_marks r (Some job) = cond (job.width == r.width) (wrapped_at job.width job.stamps r.marks) r.marks

-- a landing changes marks alone
pub landed_on-is : (r : Record) (o : Option SentJob) → landed_on r o ≡ record r { marks = landed_marks r o }
landed_on-is r None = refl
landed_on-is r (Some job) = go (job.width == r.width) where
  go : (b : Bool) → cond b (record r { marks = wrapped_at job.width job.stamps r.marks }) r ≡ record r { marks = cond b (wrapped_at job.width job.stamps r.marks) r.marks }
  go true = refl
  go false = refl

-- ---- runs

prefix_of_map : {X : Type 0} (p : X → Bool) (xs : List X) → prefix_len p xs ≡ prefix_len (λ b. b) (map p xs)
prefix_of_map p [] = refl
prefix_of_map p (x ∷ xs) = ap (λ (n : ℕ). cond (p x) (1 + n) 0) (prefix_of_map p xs)

-- two lists of which the same elements pass have the same prefix that passes
pub same_prefix : {X Y : Type 0} (p : X → Bool) (q : Y → Bool) (xs : List X) (ys : List Y) (n : ℕ) → map p xs ≡ map q ys →
    prefix_len p (drop n xs) ≡ prefix_len q (drop n ys)
same_prefix p q xs ys n e =
    prefix_of_map p (drop n xs)
    ∙ ap (prefix_len (λ b. b)) (sym (drop-map p n xs) ∙ ap (drop n) e ∙ drop-map q n ys)
    ∙ sym (prefix_of_map q (drop n ys))

pub next_run-none : (s : State) → first_waiting s ≡ length s.present.marks → next_run s ≡ None
unfolding next_run
next_run-none s e = ap (λ (b : Bool). cond b None (Some (run_from s (first_waiting s)))) (eq-eqb (first_waiting s) (length s.present.marks) e)

pub next_run-some : (s : State) (first : ℕ) → first_waiting s ≡ first → first < length s.present.marks → next_run s ≡ Some (run_from s first)
unfolding next_run
next_run-some s first e lt =
    let other : eqb (first_waiting s) (length s.present.marks) ≡ false = ne_eqb (first_waiting s) (length s.present.marks) (λ h. omega (arith, h, e, lt)) in
    ap (λ (b : Bool). cond b None (Some (run_from s (first_waiting s)))) other ∙ ap (λ (n : ℕ). Some (run_from s n)) e

-- ---- what waits after a job was sent

-- an outstanding job of the present width holds a stamp where one did, or the new one does
pub is_held-sent : (s : State) (job first count stamp : ℕ) →
    is_held (happens s (Sent job first count)) stamp ≡ (is_held s stamp || holds (stamps_of s.present.marks first count) stamp)
is_held-sent s job first count stamp =
    let new : SentJob = record { number = job; width = s.present.width; stamps = stamps_of s.present.marks first count; landed = false } in
    let own : SentJob → Bool = λ (j : SentJob). not j.landed && (j.width == s.present.width) && holds j.stamps stamp in
    let here : eqb s.present.width s.present.width ≡ true = eq-eqb s.present.width s.present.width refl in
    list_any-append own s.jobs (new ∷ [])
    ∙ ap (λ (b : Bool). is_held s stamp || ((true && b && holds (stamps_of s.present.marks first count) stamp) || false)) here
    ∙ ap (λ (b : Bool). is_held s stamp || b) (or_false (holds (stamps_of s.present.marks first count) stamp)) where
      or_false : (b : Bool) → ((true && true && b) || false) ≡ b
      or_false true = refl
      or_false false = refl

-- so the lines of the run wait no more, and the others as before
pub waits-sent : (s : State) (job first count : ℕ) (m : Mark) →
    waits (happens s (Sent job first count)) m ≡ (waits s m && not (holds (stamps_of s.present.marks first count) m.stamp))
waits-sent s job first count m =
    ap (λ (b : Bool). not (m.width == s.present.width) && not b) (is_held-sent s job first count m.stamp)
    ∙ parted (m.width == s.present.width) (is_held s m.stamp) (holds (stamps_of s.present.marks first count) m.stamp) where
      parted : (a b c : Bool) → (not a && not (b || c)) ≡ (not a && not b && not c)
      parted true b c = refl
      parted false true c = refl
      parted false false c = refl

-- ---- events that are no operations

-- they change marks alone
pub still : (s : State) (e : Event) → ((op : Operation) → e ≡ Did op → ⊥) → (happens s e).present ≡ record s.present { marks = (happens s e).present.marks }
still s (Line number) other = refl
still s (Did op) other = absurd (other op refl)
still s (Sent job first count) other = refl
still s (Landed job) other =
    landed_on-is s.present (job_numbered job s.jobs)
    ∙ ap (λ (ms : List Mark). record s.present { marks = ms }) (sym (ap (λ (r : Record). r.marks) (landed_on-is s.present (job_numbered job s.jobs))))
still s (Published last) other = refl

pub landed_stamps : (r : Record) (o : Option SentJob) → stamps (landed_marks r o) ≡ stamps r.marks
landed_stamps r None = refl
landed_stamps r (Some job) = go (job.width == r.width) where
  go : (b : Bool) → stamps (cond b (wrapped_at job.width job.stamps r.marks) r.marks) ≡ stamps r.marks
  go true = stamps-wrapped_at job.width job.stamps r.marks
  go false = refl
