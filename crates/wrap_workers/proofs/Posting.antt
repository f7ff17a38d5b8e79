-- Each step keeps the rule of the tasks.
use Rattle.std.proofs.Common.{◌≡◌, ◌≢◌, ℕ, zero, suc, ◌+◌, ◌≤◌, ◌==◌, Bool, true, false, true≢false, List, [], ◌∷◌, ◌++◌, length, set, sym, refl, ap, ◌∙◌, subst, ⊎_elim, arith, eqb-true, Option, None, Some}
use Rattle.std.specs.Prelude.{if◌then◌else◌}
use mathlib.Core.Option.{some, some-ne-none, some-injective}
use lib.ListN.{get_elem?}
use Rattle.crossbeam_channel.specs.Fifo.{Pushes, Pops, Forks, Learns}
use Rattle.atomic_table.proofs.Lists.{at_set, at_snoc, set_again}
use Rattle.wrap_workers.specs.declared.tasks.Task.{Task}
use Rattle.wrap_workers.specs.declared.tasks.Task.TheVariants.{Do, Stop}
use Rattle.wrap_workers.specs.declared.tasks.Post.{Post}
use Rattle.wrap_workers.specs.Errands.{Right}
use Rattle.wrap_workers.specs.Owed.{one_at}
use Rattle.wrap_workers.specs.Posted.{IsTaskAt, AreTasksAt, IsErrand, AreErrands, AreApart, serial_of, count_serials, crew_post, worker_post, after_put, after_taken, IsNext, FitsPost, Posted, WerePosted}
use Rattle.wrap_workers.proofs.Weights.{one_at-other}

off : false ≡ true → ⊥
off e = true≢false (sym e)

module _ {N : Type 0} where
  abbrev Each : ℕ → Option (Right N) → ℕ → Bool → List (Post N) → Type 0
  Each seat home next stopped posts = (pass : ℕ) (v : Post N) → get_elem? posts pass ≡ some v → FitsPost seat home next stopped pass v

  each_set : (seat : ℕ) (home : Option (Right N)) (next : ℕ) (stopped : Bool) (posts : List (Post N)) (pass : ℕ) (w : Post N) →
      ((j : ℕ) (u : Post N) → j ≢ pass → get_elem? posts j ≡ some u → FitsPost seat home next stopped j u) →
      FitsPost seat home next stopped pass w → Each seat home next stopped (set posts pass w)
  each_set seat home next stopped posts pass w others mine j u e =
      ⊎_elim
      (λ (x : (j ≡ pass) × (w ≡ u)). subst (λ (y : ℕ × Post N). FitsPost seat home next stopped y.0 y.1) (λ i. (sym x.0 i, x.1 i)) mine)
      (λ (x : (j ≢ pass) × (get_elem? posts j ≡ some u)). others j u x.0 x.1)
      (at_set posts pass j w u e)

  each_snoc : (seat : ℕ) (home : Option (Right N)) (next : ℕ) (stopped : Bool) (posts : List (Post N)) (w : Post N) →
      Each seat home next stopped posts → ((j : ℕ) → FitsPost seat home next stopped j w) → Each seat home next stopped (posts ++ w ∷ [])
  each_snoc seat home next stopped posts w old new j u e =
      ⊎_elim (λ t. old j u t) (λ (same : w ≡ u). subst (FitsPost seat home next stopped j) same (new j)) (at_snoc posts w u j e)

  some_home : (r : Right N) → Some r ≡ None → ⊥
  some_home r e = cc

  -- ---- lists of tasks

  serials-append : (n : ℕ) (xs ys : List (Task N)) → count_serials n (xs ++ ys) ≡ count_serials n xs + count_serials n ys
  serials-append n [] ys = omega arith
  serials-append n (x ∷ xs) ys = let e = serials-append n xs ys in omega (arith, e)

  at-append : (home : Option (Right N)) (xs ys : List (Task N)) → AreTasksAt home xs → AreTasksAt home ys → AreTasksAt home (xs ++ ys)
  at-append home [] ys a b = b
  at-append home (x ∷ xs) ys a b = (a.0, at-append home xs ys a.1 b)

  errands-append : (xs ys : List (Task N)) → AreErrands xs → AreErrands ys → AreErrands (xs ++ ys)
  errands-append [] ys a b = b
  errands-append (x ∷ xs) ys a b = (a.0, errands-append xs ys a.1 b)

  -- no serial of the tasks is put again
  apart_more : (v : Post N) (tasks : List (Task N)) (x : Task N) → AreApart v.next tasks → IsNext v.next x → AreApart (after_put v x).next (tasks ++ x ∷ [])
  apart_more v tasks Stop apart next = (
    (λ n. let a = serials-append n tasks (Stop ∷ []) in let b = apart.0 n in omega (arith, a, b)),
    (λ n le. let a = serials-append n tasks (Stop ∷ []) in let b = apart.1 n le in omega (arith, a, b)),
  )
  apart_more v tasks (Do e) apart next = (
    (λ n. once n (n == serial_of e) refl),
    (λ n le.
        let a = serials-append n tasks (Do e ∷ []) in
        let b = apart.1 n (omega (arith, le, next)) in
        let c = one_at-other n (serial_of e) (λ same. absurd (omega (arith, le, same))) in
        omega (arith, a, b, c)),
  )
    where
      once : (n : ℕ) → (b : Bool) → (n == serial_of e) ≡ b → count_serials n (tasks ++ Do e ∷ []) ≤ 1
      once n true is =
          let a = serials-append n tasks (Do e ∷ []) in
          let same : n ≡ serial_of e = eqb-true n (serial_of e) is in
          let one : one_at n (serial_of e) ≡ 1 = ap (λ (b : Bool). if b then 1 else 0) is in
          let none = apart.1 n (omega (arith, next, same)) in
          omega (arith, a, one, none)
      once n false is =
          let a = serials-append n tasks (Do e ∷ []) in
          let other : one_at n (serial_of e) ≡ 0 = ap (λ (b : Bool). if b then 1 else 0) is in
          let le = apart.0 n in
          omega (arith, a, other, le)

  errand_more : (v : Post N) (tasks : List (Task N)) (x : Task N) → (v.stopped ≡ false → AreErrands tasks) → (after_put v x).stopped ≡ false → AreErrands (tasks ++ x ∷ [])
  errand_more v tasks (Do e) old going = errands-append tasks (Do e ∷ []) (old going) (tt, tt)
  errand_more v tasks Stop old going = absurd (true≢false going)

  -- ---- the moves

  pub posted_begins : Posted [] (crew_post {N = N} None 0 false ∷ [])
  posted_begins = (0, None, 0, false, ((λ n. omega arith), (λ n le. refl)), tt, (λ _. tt), one, (λ _. omega arith))
    where
      one : (pass : ℕ) (v : Post N) → get_elem? (crew_post {N = N} None 0 false ∷ []) pass ≡ some v → FitsPost 0 None 0 false pass v
      one zero v e = subst (FitsPost 0 None 0 false 0) (some-injective _ _ e) (refl, (λ _. (refl, refl, refl)))
      one (suc pass) v e = absurd (some-ne-none v (sym e))

  -- where no queue was known, one pass is alone
  alone : (posts : List (Post N)) (pass j : ℕ) (u v : Post N) → length posts ≤ 1 → get_elem? posts pass ≡ some v → get_elem? posts j ≡ some u → j ≢ pass → ⊥
  alone [] pass j u v le at e apart = some-ne-none v (sym at)
  alone (x ∷ []) zero zero u v le at e apart = apart refl
  alone (x ∷ []) zero (suc j) u v le at e apart = some-ne-none u (sym e)
  alone (x ∷ []) (suc pass) j u v le at e apart = some-ne-none v (sym at)
  alone (x ∷ y ∷ l) pass j u v le at e apart = omega (arith, le)

  settled : (r : Right N) (tasks : List (Task N)) → AreTasksAt None tasks → AreTasksAt (Some r) tasks
  settled r [] all = tt
  settled r (Do e ∷ ts) all = absurd all.0
  settled r (Stop ∷ ts) all = (tt, settled r ts all.1)

  -- the first pass learns which queue of results it is
  pub settles : (pass : ℕ) (v : Post N) (r : Right N) → v.crew ≡ true → v.home ≡ None →
      Forks Posted pass v (crew_post (Some r) v.next v.stopped) (worker_post (Some r))
  settles pass v r crew is tasks posts o at =
      let mine = o.7 pass v at in
      let here = mine.1 crew in
      let none : o.1 ≡ None = sym mine.0 ∙ is in
      let w : Post N = crew_post (Some r) v.next v.stopped in (
        o.0,
        Some r,
        o.2,
        o.3,
        o.4,
        settled r tasks (subst (λ (h : Option (Right N)). AreTasksAt h tasks) none o.5),
        o.6,
        each_snoc o.0 (Some r) o.2 o.3 (set posts pass w) (worker_post (Some r))
            (each_set o.0 (Some r) o.2 o.3 posts pass w (λ j u apart e. absurd (alone posts pass j u v (o.8 none) at e apart)) (refl, (λ _. here)))
            (λ j. (refl, (λ c. absurd (off c)))),
        (λ e. absurd (some_home r e)),
      )

  -- a pass for one more worker
  pub joins : (pass : ℕ) (v : Post N) (r : Right N) → v.home ≡ Some r → Forks Posted pass v v (worker_post v.home)
  joins pass v r is tasks posts o at =
      let mine = o.7 pass v at in (
        o.0,
        o.1,
        o.2,
        o.3,
        o.4,
        o.5,
        o.6,
        each_snoc o.0 o.1 o.2 o.3 (set posts pass v) (worker_post v.home)
            (each_set o.0 o.1 o.2 o.3 posts pass v (λ j u apart e. o.7 j u e) mine)
            (λ j. (mine.0, (λ c. absurd (off c)))),
        (λ e. absurd (some_home r (sym is ∙ mine.0 ∙ e))),
      )

  after_home : (v : Post N) (x : Task N) → (after_put v x).home ≡ v.home
  after_home v (Do e) = refl
  after_home v Stop = refl

  -- the crew puts a task
  pub puts : (n pass : ℕ) (v : Post N) (x : Task N) (r : Right N) → v.crew ≡ true → v.home ≡ Some r → IsTaskAt v.home x → IsNext v.next x →
      Pushes Posted n pass v x (λ w. w ≡ after_put v x)
  puts n pass v x r crew is home next tasks posts _ o at =
      let mine = o.7 pass v at in
      let here = mine.1 crew in
      let w : Post N = after_put v x in (
        w,
        (
          o.0,
          o.1,
          w.next,
          w.stopped,
          apart_more v tasks x (subst (λ (m : ℕ). AreApart m tasks) (sym here.1) o.4) next,
          at-append o.1 tasks (x ∷ []) o.5 (subst (λ (h : Option (Right N)). IsTaskAt h x) mine.0 home, tt),
          errand_more v tasks x (subst (λ (b : Bool). b ≡ false → AreErrands tasks) (sym here.2) o.6),
          each_set o.0 o.1 w.next w.stopped posts pass w
              (λ j u apart e. ((o.7 j u e).0, (λ c. absurd (apart (((o.7 j u e).1 c).0 ∙ sym here.0)))))
              (after_home v x ∙ mine.0, (λ _. (here.0, refl, refl))),
          (λ e. absurd (some_home r (sym is ∙ mine.0 ∙ e))),
        ),
        refl,
      )

  taken_home : (v : Post N) (x : Task N) → (after_taken v x).home ≡ v.home
  taken_home v (Do e) = refl
  taken_home v Stop = refl

  taken_crew : (v : Post N) (x : Task N) → (after_taken v x).crew ≡ v.crew
  taken_crew v (Do e) = refl
  taken_crew v Stop = refl

  -- a worker takes a task
  pub serves : (pass : ℕ) (v : Post N) (r : Right N) → v.crew ≡ false → v.home ≡ Some r →
      Pops Posted pass v (λ x w. (w ≡ after_taken v x) × IsTaskAt v.home x)
  serves pass v r worker is x tasks posts o at =
      let mine = o.7 pass v at in
      let w : Post N = after_taken v x in (
        w,
        (
          o.0,
          o.1,
          o.2,
          o.3,
          ((λ m. let d = o.4.0 m in omega (arith, d)), (λ m le. let d = o.4.1 m le in omega (arith, d))),
          o.5.1,
          (λ going. (o.6 going).1),
          each_set o.0 o.1 o.2 o.3 posts pass w (λ j u apart e. o.7 j u e)
              (taken_home v x ∙ mine.0, (λ crew. absurd (off (sym worker ∙ sym (taken_crew v x) ∙ crew)))),
          (λ e. absurd (some_home r (sym is ∙ mine.0 ∙ e))),
        ),
        (refl, subst (λ (h : Option (Right N)). IsTaskAt h x) (sym mine.0) o.5.0),
      )

  -- the crew takes a task
  pub gets : (pass : ℕ) (v : Post N) →
      Pops Posted pass v (λ x w. (w ≡ v) × IsTaskAt v.home x × (v.crew ≡ true → v.stopped ≡ false → IsErrand x))
  gets pass v x tasks posts o at =
      let mine = o.7 pass v at in (
        v,
        (
          o.0,
          o.1,
          o.2,
          o.3,
          ((λ m. let d = o.4.0 m in omega (arith, d)), (λ m le. let d = o.4.1 m le in omega (arith, d))),
          o.5.1,
          (λ going. (o.6 going).1),
          each_set o.0 o.1 o.2 o.3 posts pass v (λ j u apart e. o.7 j u e) mine,
          (λ e. subst (λ (l : List (Post N)). length l ≤ 1) (sym (set_again posts pass v at)) (o.8 e)),
        ),
        (
          refl,
          subst (λ (h : Option (Right N)). IsTaskAt h x) (sym mine.0) o.5.0,
          (λ crew going. (o.6 (sym (mine.1 crew).2 ∙ going)).0),
        ),
      )

  pub were_posted : (pass : ℕ) (v : Post N) → Learns Posted pass v (λ tasks. WerePosted tasks)
  were_posted pass v tasks posts o at = (posts, o)

  pub settles_named : (pass : ℕ) (v : Post N) (r : Right N) (named : Option (Right N)) → named ≡ Some r → v.crew ≡ true → v.home ≡ None →
      Forks Posted pass v (crew_post named v.next v.stopped) (worker_post named)
  settles_named pass v r named is crew none =
      subst (λ (o : Option (Right N)). Forks Posted pass v (crew_post o v.next v.stopped) (worker_post o)) (sym is) (settles pass v r crew none)
