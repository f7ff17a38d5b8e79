-- The jobs that a crew has out, over the events of their display.
use Rattle.std.proofs.Common.{◌≡◌, ℕ, zero, suc, ◌+◌, ◌<◌, ◌==◌, eqb, not, cond, Bool, true, false, List, [], ◌∷◌, ◌++◌, length, map, get_or, Some, sym, ap, ◌∙◌, refl, subst, true≢false, arith, add_comm}
use Rattle.std.specs.Prelude.{◌||◌, ◌≢◌}
use Rattle.std.specs.Option.{option_map}
use Rattle.std.specs.List.{All, Contains, filter, list_any, range_with_len}
use Rattle.std.proofs.lemmas.Bool.{eq-eqb, ne_eqb, eqb-true}
use Rattle.std.proofs.lemmas.List.{map-append, length-map, length-append, get_or-map}
use Rattle.std.proofs.lemmas.List.Elements.{All-nil, All-cons, All-head, All-tail, All-push, All-contains_itself, All-weaker, filter-append}
use Rattle.std.proofs.lemmas.List.FromFn.{get_or-range_with_len}
use Rattle.std.proofs.lemmas.List.Sums.{length-filter}
use Rattle.cell_line.specs.declared.element.Element.{Element}
use Rattle.wrap_workers.specs.Jobs.{JobParts, IsFree, without}
use Rattle.wrap_workers.specs.Crewed.{IsTakenOff}
use Rattle.display_map.specs.Events.{Landed}
use Rattle.display_map.specs.Replay.{History, SentJob, state_of, appended, happens, with_landed, job_numbered, stamps_of}
use Rattle.display_map.specs.Sending.{IsOutstanding, IsSent, sending}
use Rattle.display_map.proofs.Displays.{unlanded-landed}
use Rattle.display_map.proofs.Jobs.{job_numbered-at, slice_get_some}
use Rattle.display_map.proofs.Replays.{state_of-one_more, range_more, same_numbers}
use Rattle.live_display.specs.Beside.{outstanding, IsOut}
use Rattle.live_display.specs.Owned.{AreNumbered, AreOut, numbers_out}

abbrev pub Job : Type 0
Job = JobParts (List (List Element))

-- ---- events that are no sends and no landings

pub outs-still : (h h' : History) (out : List Job) → (state_of h').jobs ≡ (state_of h).jobs → ((job : Job) → IsOutstanding h job → IsOutstanding h' job)
    → AreOut h out → AreOut h' out
outs-still h h' out same still outs =
    record {
      numbered = subst (λ jobs. AreNumbered jobs) (sym same) outs.numbered;
      numbers = outs.numbers ∙ ap numbers_out (sym same);
      each = All-weaker (λ job. IsOutstanding h job) (λ job. IsOutstanding h' job) still out outs.each;
    }

-- ---- a send

pub outs-sent : (h h' : History) (job : Job) (out : List Job) → ((other : Job) → IsOutstanding h other → IsOutstanding h' other) → IsOutstanding h' job
    → IsSent h h' job → AreOut h out → AreOut h' (out ++ job ∷ [])
outs-sent h h' job out still here sent outs =
    let jobs : List SentJob = (state_of h).jobs in
    let new : SentJob = record { number = job.number; width = (state_of h).present.width; stamps = stamps_of (state_of h).present.marks job.run.first job.run.count; landed = false } in
    let state : state_of h' ≡ happens (state_of h) (sending job) = ap state_of sent.event_is ∙ state_of-one_more h (sending job) in
    let more : (state_of h').jobs ≡ jobs ++ new ∷ [] = ap (λ s. s.jobs) state in
    let next : job.number ≡ 1 + length jobs = sent.number_is ∙ add_comm (length jobs) 1 in
    let count : length jobs + 1 ≡ length (jobs ++ new ∷ []) = sym (length-append jobs (new ∷ [])) in
    let numbers : map (λ j. j.number) (jobs ++ new ∷ []) ≡ range_with_len 1 (length (jobs ++ new ∷ [])) =
    map-append (λ j. j.number) jobs (new ∷ [])
    ∙ ((λ i. outs.numbered i ++ next i ∷ [])
    ∙ (range_more 1 (length jobs) ∙ ap (range_with_len 1) count)) in
    let out_numbers : map (λ j. j.number) (out ++ job ∷ []) ≡ numbers_out (jobs ++ new ∷ []) =
    map-append (λ j. j.number) out (job ∷ [])
    ∙ (ap (λ l. l ++ job.number ∷ []) outs.numbers
    ∙ (sym (map-append (λ j. j.number) (filter (λ j. not j.landed) jobs) (new ∷ []))
    ∙ ap (λ l. map (λ j. j.number) l) (sym (filter-append (λ j. not j.landed) jobs (new ∷ []))))) in
    record {
      numbered = subst (λ l. AreNumbered l) (sym more) numbers;
      numbers = out_numbers ∙ ap numbers_out (sym more);
      each = All-push (λ j. IsOutstanding h' j) out job
          (All-weaker (λ j. IsOutstanding h j) (λ j. IsOutstanding h' j) still out outs.each) here;
    }

-- ---- a landing

same-test : (a b : ℕ) → (a == b) ≡ (b == a)
same-test a b = go (a == b) refl where
  go : (t : Bool) → (a == b) ≡ t → t ≡ (b == a)
  go true e = sym (eq-eqb b a (sym (eqb-true a b e)))
  go false e = sym (ne_eqb b a (λ same. true≢false (sym (eq-eqb a b (sym same)) ∙ e)))

numbers-without : (n : ℕ) (out : List Job) → map (λ j. j.number) (without n out) ≡ filter (λ m. not (m == n)) (map (λ j. j.number) out)
numbers-without n [] = refl
numbers-without n (job ∷ out) = subst (λ b. map (λ j. j.number) (cond (not b) (job ∷ without n out) (without n out)) ≡ cond (not (job.number == n)) (job.number ∷ filter (λ m. not (m == n)) (map (λ j. j.number) out)) (filter (λ m. not (m == n)) (map (λ j. j.number) out)))
    (same-test job.number n) (go (job.number == n) (numbers-without n out)) where
      go : (b : Bool) → map (λ j. j.number) (without n out) ≡ filter (λ m. not (m == n)) (map (λ j. j.number) out)
          → map (λ j. j.number) (cond (not b) (job ∷ without n out) (without n out))
          ≡ cond (not b) (job.number ∷ filter (λ m. not (m == n)) (map (λ j. j.number) out)) (filter (λ m. not (m == n)) (map (λ j. j.number) out))
      go true rest = rest
      go false rest = ap (λ l. job.number ∷ l) rest

numbers-filter : (n : ℕ) (jobs : List SentJob) → map (λ j. j.number) (filter (λ j. not (eqb j.number n)) jobs) ≡ filter (λ m. not (m == n)) (map (λ j. j.number) jobs)
numbers-filter n [] = refl
numbers-filter n (job ∷ jobs) = go (job.number == n) (numbers-filter n jobs) where
  go : (b : Bool) → map (λ j. j.number) (filter (λ j. not (eqb j.number n)) jobs) ≡ filter (λ m. not (m == n)) (map (λ j. j.number) jobs)
      → map (λ j. j.number) (cond (not b) (job ∷ filter (λ j. not (eqb j.number n)) jobs) (filter (λ j. not (eqb j.number n)) jobs))
      ≡ cond (not b) (job.number ∷ filter (λ m. not (m == n)) (map (λ j. j.number) jobs)) (filter (λ m. not (m == n)) (map (λ j. j.number) jobs))
  go true rest = rest
  go false rest = ap (λ l. job.number ∷ l) rest

each-without : (h h' : History) (n : ℕ) (out : List Job) → ((job : Job) → (n == job.number) ≡ false → IsOutstanding h job → IsOutstanding h' job)
    → All (λ j. IsOutstanding h j) out → All (λ j. IsOutstanding h' j) (without n out)
each-without h h' n [] still all = All-nil (λ j. IsOutstanding h' j)
each-without h h' n (job ∷ out) still all =
    go (n == job.number) refl (each-without h h' n out still (All-tail (λ j. IsOutstanding h j) job out all)) where
      go : (b : Bool) → (n == job.number) ≡ b → All (λ j. IsOutstanding h' j) (without n out)
          → All (λ j. IsOutstanding h' j) (cond (not b) (job ∷ without n out) (without n out))
      go true is rest = rest
      go false is rest = All-cons (λ j. IsOutstanding h' j) job (without n out) (still job is (All-head (λ j. IsOutstanding h j) job out all)) rest

pub outs-landed : (h h' : History) (job : Job) (before after : List Job) → ((other : Job) → (job.number == other.number) ≡ false → IsOutstanding h other → IsOutstanding h' other)
    → h' ≡ appended h (Landed job.number ∷ []) → IsTakenOff job before after → AreOut h before → AreOut h' after
outs-landed h h' job before after still event taken outs =
    let n : ℕ = job.number in
    let jobs : List SentJob = (state_of h).jobs in
    let state : state_of h' ≡ happens (state_of h) (Landed n) = ap state_of event ∙ state_of-one_more h (Landed n) in
    let fewer : (state_of h').jobs ≡ with_landed n jobs = ap (λ s. s.jobs) state in
    let numbers : map (λ j. j.number) (with_landed n jobs) ≡ range_with_len 1 (length (with_landed n jobs)) =
    same_numbers n jobs ∙ (outs.numbered ∙ ap (range_with_len 1) (sym (length-map jobs _))) in
    let left : map (λ j. j.number) (without n before) ≡ numbers_out (with_landed n jobs) =
    numbers-without n before
    ∙ (ap (filter (λ m. not (m == n))) outs.numbers
    ∙ (sym (numbers-filter n (filter (λ j. not j.landed) jobs))
    ∙ ap (λ l. map (λ j. j.number) l) (sym (unlanded-landed n jobs)))) in
    record {
      numbered = subst (λ l. AreNumbered l) (sym fewer) numbers;
      numbers = ap (λ l. map (λ j. j.number) l) taken.1 ∙ (left ∙ ap numbers_out (sym fewer));
      each = subst (λ l. All (λ j. IsOutstanding h' j) l) (sym taken.1) (each-without h h' n before still outs.each);
    }

-- ---- what is known of a job that is out

element-of : {X : Type 0} (P : X → Type 0) (xs : List X) (x : X) → Contains xs x → All P xs → P x
element-of P xs x (k, lt, is) all = subst P is (all k x lt)

no_job : SentJob
no_job = record { number = 0; width = 0; stamps = []; landed = false }

-- the place of a job of the number that hasn't landed
record IsAt (n : ℕ) (jobs : List SentJob) : Type 0 where
  place : ℕ
  there : place < length jobs
  number : (get_or jobs place no_job).number ≡ n
  unlanded : (get_or jobs place no_job).landed ≡ false

abbrev has : ℕ → List ℕ → Bool
has n numbers = list_any (λ m. m == n) numbers

has-number : (out : List Job) (job : Job) → Contains out job → has job.number (map (λ j. j.number) out) ≡ true
has-number [] job (k, lt, is) = absurd (omega (arith, lt))
has-number (other ∷ out) job (zero, lt, is) =
    ap (λ b. b || has job.number (map (λ j. j.number) out)) (eq-eqb other.number job.number (ap (λ j. j.number) is))
has-number (other ∷ out) job (suc k, lt, is) = go (other.number == job.number) (has-number out job (k, omega (arith, lt), is)) where
  go : (b : Bool) → has job.number (map (λ j. j.number) out) ≡ true → (b || has job.number (map (λ j. j.number) out)) ≡ true
  go true rest = refl
  go false rest = rest

later : (n : ℕ) (job : SentJob) (jobs : List SentJob) → IsAt n jobs → IsAt n (job ∷ jobs)
later n job jobs it = record { place = suc it.place; there = omega (arith, it.there); number = it.number; unlanded = it.unlanded }

found-at : (n : ℕ) (jobs : List SentJob) → has n (numbers_out jobs) ≡ true → IsAt n jobs
found-at n [] e = absurd (true≢false (sym e))
found-at n (job ∷ jobs) e = go job.landed refl (job.number == n) refl (found-at n jobs) e where
  rest : List SentJob
  rest = filter (λ j. not j.landed) jobs

  go : (l : Bool) → job.landed ≡ l → (b : Bool) → (job.number == n) ≡ b → (has n (numbers_out jobs) ≡ true → IsAt n jobs)
      → has n (map (λ j. j.number) (cond (not l) (job ∷ rest) rest)) ≡ true → IsAt n (job ∷ jobs)
  go true is b test behind e = later n job jobs (behind e)
  go false is true test behind e = record { place = 0; there = omega arith; number = eqb-true job.number n test; unlanded = is }
  go false is false test behind e = later n job jobs (behind (subst (λ b. (b || has n (map (λ j. j.number) rest)) ≡ true) test e))

at-of : (h : History) (out : List Job) (job : Job) → AreOut h out → Contains out job → IsAt job.number (state_of h).jobs
at-of h out job outs c =
    found-at job.number (state_of h).jobs (ap (has job.number) (sym outs.numbers) ∙ has-number out job c)

next-to : (n : ℕ) (jobs : List SentJob) → AreNumbered jobs → (it : IsAt n jobs) → n ≡ it.place + 1
next-to n jobs numbered it =
    sym it.number
    ∙ (sym (get_or-map (λ j. j.number) jobs it.place no_job 0 it.there)
    ∙ (ap (λ l. get_or l it.place 0) numbered
    ∙ (get_or-range_with_len 1 (length jobs) it.place 0 it.there ∙ add_comm 1 it.place)))

pub out-is-out : (h : History) (out : List Job) (job : Job) → AreOut h out → Contains out job → IsOut (state_of h) job.number
out-is-out h out job outs c =
    let jobs : List SentJob = (state_of h).jobs in
    let it = at-of h out job outs c in
    ap (λ n. option_map (λ j. j.landed) (job_numbered n jobs)) (next-to job.number jobs outs.numbered it)
    ∙ (ap (option_map (λ j. j.landed)) (job_numbered-at jobs it.place outs.numbered it.there ∙ slice_get_some jobs it.place no_job it.there)
    ∙ ap Some it.unlanded)

pub out-is-outstanding : (h : History) (out : List Job) (job : Job) → AreOut h out → Contains out job → IsOutstanding h job
out-is-outstanding h out job outs c = element-of (λ j. IsOutstanding h j) out job c outs.each

pub next-is-free : (h : History) (out : List Job) (n : ℕ) → n ≡ length (state_of h).jobs + 1 → AreOut h out → IsFree n out
next-is-free h out n next outs =
    All-weaker (Contains out) (λ job. job.number ≢ n)
    (λ job c. λ same.
    let it = at-of h out job outs c in
    let place = next-to job.number (state_of h).jobs outs.numbered it in
    omega (arith, it.there, place, same, next)) out (All-contains_itself out)

pub outstanding-is : (h : History) (out : List Job) → AreOut h out → outstanding (state_of h) ≡ length out
outstanding-is h out outs =
    let unlanded : List SentJob = filter (λ j. not j.landed) (state_of h).jobs in
    sym (length-filter (λ j. not j.landed) (state_of h).jobs)
    ∙ (sym (length-map unlanded (λ j. j.number)) ∙ (ap length (sym outs.numbers) ∙ length-map out (λ j. j.number)))
