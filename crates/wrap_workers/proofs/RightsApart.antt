-- What the rules of the two queues mean, in other words.
use Rattle.std.proofs.Common.{◌≡◌, ◌≢◌, ℕ, zero, suc, ◌+◌, ◌≤◌, ◌==◌, Bool, true, false, Contains, List, [], ◌∷◌, length, sym, refl, subst, ap, ◌∙◌, arith, eqb-true}
use Rattle.std.specs.Prelude.{if◌then◌else◌}
use mathlib.Core.Option.{some, some-ne-none, some-injective}
use lib.ListN.{get_elem?}
use Rattle.wrap_workers.specs.declared.job.Finished.{Finished}
use Rattle.wrap_workers.specs.declared.results.Hand.{Hand}
use Rattle.wrap_workers.specs.declared.tasks.Task.{Task}
use Rattle.wrap_workers.specs.declared.tasks.Task.TheVariants.{Do, Stop}
use Rattle.wrap_workers.specs.declared.tasks.Post.{Post}
use Rattle.wrap_workers.specs.Jobs.{JobParts}
use Rattle.wrap_workers.specs.Owed.{AreDistinct, AreOfJobs, AreOwed, Owed, one_at, right_of, times, weigh, weigh_results, weigh_rights}
use Rattle.wrap_workers.specs.Posted.{Posted, count_serials, serial_of}
use Rattle.wrap_workers.specs.QueueLaws.{AreJobsApart, GivesOnce, HavePassesOfTheirOwn, HaveRights, IsOfJobOut, jobs_in, times_owed}
use Rattle.wrap_workers.proofs.Weights.{contains-times, length_weighs, one_at-other, one_at-same, rights_le}

module _ {N : Type 0} where
  -- two passes have no more rights than all have
  two_rights : (h : ℕ → ℕ) (hands : List (Hand N)) (i j : ℕ) (u v : Hand N) → i ≢ j →
      get_elem? hands i ≡ some u → get_elem? hands j ≡ some v → weigh h u.rights + weigh h v.rights ≤ weigh_rights h hands
  two_rights h [] i j u v apart at there = absurd (some-ne-none u (sym at))
  two_rights h (x ∷ xs) zero zero u v apart at there = absurd (apart refl)
  two_rights h (x ∷ xs) zero (suc j) u v apart at there =
      let e : weigh h x.rights ≡ weigh h u.rights = ap (λ (y : Hand N). weigh h y.rights) (some-injective x u at) in
      omega (arith, e, rights_le h xs j v there)
  two_rights h (x ∷ xs) (suc i) zero u v apart at there =
      let e : weigh h x.rights ≡ weigh h v.rights = ap (λ (y : Hand N). weigh h y.rights) (some-injective x v there) in
      omega (arith, e, rights_le h xs i u at)
  two_rights h (x ∷ xs) (suc i) (suc j) u v apart at there =
      omega (arith, two_rights h xs i j u v (λ same. apart (ap suc same)) at there)

  pub gives_once : (results : List (Finished N)) (hands : List (Hand N)) → Owed results hands → GivesOnce results hands
  gives_once results hands o n = omega (arith, o.2.0 (one_at n), o.2.1 n)

  results_length : (results : List (Finished N)) → weigh_results (λ _. 1) results ≡ length results
  results_length [] = refl
  results_length (x ∷ xs) = omega (arith, results_length xs)

  of_jobs : (out : List (JobParts N)) (results : List (Finished N)) (hands : List (Hand N)) → AreOwed out results hands →
      ((job : JobParts N) → Contains out job → times_owed job.number results hands ≡ 1)
      × AreOfJobs out results
      × (length out ≡ weigh_rights (λ _. 1) hands + length results)
  of_jobs out results hands o = (
    λ job at. omega (arith, contains-times out job at, o.1 job.number, o.0 (one_at job.number)),
    o.2,
    omega (arith, length_weighs out, o.0 (λ _. 1), results_length results),
  )

  pub of_job_out : (results : List (Finished N)) (hands : List (Hand N)) → Owed results hands → IsOfJobOut results hands
  of_job_out results hands o pass hand at crew =
      let same = (o.3 pass hand at).0 crew in
      of_jobs hand.out results hands (subst (λ out. AreOwed out results hands) (sym same.1) o.2)

  pub passes_of_their_own : (results : List (Finished N)) (hands : List (Hand N)) → Owed results hands → HavePassesOfTheirOwn hands
  passes_of_their_own results hands o i j s t a b apart at there same =
      let both = two_rights (one_at a.number) hands i j (right_of s a) (right_of t b) apart at there in
      let first = one_at-same a.number in
      let second : one_at a.number b.number ≡ 1 = ap (one_at a.number) (sym same) ∙ one_at-same a.number in
      omega (arith, both, first, second, gives_once results hands o a.number)

  -- a job with a right apart from those of the tasks has no task's number
  number_apart : (results : List (Finished N)) (hands : List (Hand N)) (tasks : List (Task N)) (pass s : ℕ) (job : JobParts N) →
      Owed results hands → get_elem? hands pass ≡ some (right_of s job) → count_serials s tasks ≡ 0 → HaveRights hands tasks →
      times job.number (jobs_in tasks) ≡ 0
  number_apart results hands [] pass s job o at none have = refl
  number_apart results hands (Stop ∷ tasks) pass s job o at none have = number_apart results hands tasks pass s job o at (omega (arith, none)) have
  number_apart results hands (Do errand ∷ tasks) pass s job o at none have =
      let t = serial_of errand in
      let other : s ≢ t = λ same. absurd (omega (arith, none, ap (one_at s) (sym same) ∙ one_at-same s)) in
      let passes : pass ≢ have.0.0 = λ same. other (ap (λ (h : Hand N). h.serial)
      (some-injective (right_of s job) (right_of t errand.job) (sym at ∙ ap (get_elem? hands) same ∙ have.0.1))) in
      let numbers = passes_of_their_own results hands o pass have.0.0 s t job errand.job passes at have.0.1 in
      omega (
        arith,
        one_at-other job.number errand.job.number numbers,
        number_apart results hands tasks pass s job o at (omega (arith, none)) have.1,
      )

  one_first : (n : ℕ) (job : JobParts N) (jobs : List (JobParts N)) → times n jobs ≤ 1 → times job.number jobs ≡ 0 → times n (job ∷ jobs) ≤ 1
  one_first n job jobs most none = by (n == job.number) refl
    where
      by : (b : Bool) → (n == job.number) ≡ b → times n (job ∷ jobs) ≤ 1
      by true is =
          let here : one_at n job.number ≡ 1 = ap (λ (b : Bool). if b then 1 else 0) is in
          let rest : times n jobs ≡ 0 = ap (λ m. times m jobs) (eqb-true n job.number is) ∙ none in
          omega (arith, here, rest)
      by false is =
          let here : one_at n job.number ≡ 0 = ap (λ (b : Bool). if b then 1 else 0) is in
          omega (arith, here, most)

  jobs_distinct : (results : List (Finished N)) (hands : List (Hand N)) (tasks : List (Task N)) → Owed results hands →
      ((n : ℕ) → count_serials n tasks ≤ 1) → HaveRights hands tasks → AreDistinct (jobs_in tasks)
  jobs_distinct results hands [] o once have n = omega arith
  jobs_distinct results hands (Stop ∷ tasks) o once have n = jobs_distinct results hands tasks o (λ m. omega (arith, once m)) have n
  jobs_distinct results hands (Do errand ∷ tasks) o once have n =
      let serial = serial_of errand in
      let none : count_serials serial tasks ≡ 0 = omega (arith, once serial, one_at-same serial) in
      one_first n errand.job (jobs_in tasks)
      (jobs_distinct results hands tasks o (λ m. omega (arith, once m)) have.1 n)
      (number_apart results hands tasks have.0.0 serial errand.job o have.0.1 none have.1)

  pub jobs_apart : (tasks : List (Task N)) (posts : List (Post N)) (results : List (Finished N)) (hands : List (Hand N)) →
      Posted tasks posts → Owed results hands → AreJobsApart tasks hands
  jobs_apart tasks posts results hands p o have = jobs_distinct results hands tasks o p.4.0 have
