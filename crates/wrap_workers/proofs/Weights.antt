-- Sums over jobs, and lists without a job.
use Rattle.std.proofs.Common.{◌≡◌, ◌≢◌, ◌⊎◌, inl, inr, ℕ, zero, suc, ◌+◌, ◌≤◌, ◌==◌, not, cond, Bool, true, false, true≢false, Contains, List, [], ◌∷◌, ◌++◌, length, set, sym, refl, subst, ap, ◌∙◌, arith, eqb-true, eq-eqb}
use Rattle.std.specs.Prelude.{if◌then◌else◌}
use Rattle.std.proofs.lemmas.List.Elements.{Contains-append_left}
use mathlib.Core.Option.{some, some-ne-none, some-injective}
use lib.ListN.{get_elem?}
use Rattle.wrap_workers.specs.declared.job.Finished.{Finished}
use Rattle.wrap_workers.specs.declared.results.Hand.{Hand}
use Rattle.wrap_workers.specs.Jobs.{JobParts, IsFree, without, front, last}
use Rattle.wrap_workers.specs.Finishes.{job_of}
use Rattle.wrap_workers.specs.Owed.{weigh, weigh_results, weigh_rights, one_at, times, ContainsEach, AreOfJobs}

-- ---- one number

pub one_at-same : (n : ℕ) → one_at n n ≡ 1
one_at-same n = ap (λ (b : Bool). if b then 1 else 0) (eq-eqb n n refl)

pub one_at-other : (n m : ℕ) → n ≢ m → one_at n m ≡ 0
one_at-other n m apart = by (n == m) refl
  where
    by : (b : Bool) → (n == m) ≡ b → one_at n m ≡ 0
    by true is = absurd (apart (eqb-true n m is))
    by false is = ap (λ (b : Bool). if b then 1 else 0) is

pub differs : (n m : ℕ) → one_at n m ≡ 0 → (n == m) ≡ false
differs n m none = by (n == m) refl
  where
    by : (b : Bool) → (n == m) ≡ b → b ≡ false
    by true is = let one : one_at n m ≡ 1 = ap (λ (b : Bool). if b then 1 else 0) is in absurd (omega (arith, one, none))
    by false is = refl

module _ {N : Type 0} where
  -- ---- sums

  pub weigh-append : (h : ℕ → ℕ) (xs ys : List (JobParts N)) → weigh h (xs ++ ys) ≡ weigh h xs + weigh h ys
  weigh-append h [] ys = omega arith
  weigh-append h (x ∷ xs) ys = let e = weigh-append h xs ys in omega (arith, e)

  pub results-append : (h : ℕ → ℕ) (xs ys : List (Finished N)) → weigh_results h (xs ++ ys) ≡ weigh_results h xs + weigh_results h ys
  results-append h [] ys = omega arith
  results-append h (x ∷ xs) ys = let e = results-append h xs ys in omega (arith, e)

  pub rights_set : (h : ℕ → ℕ) (hands : List (Hand N)) (pass : ℕ) (v w : Hand N) → get_elem? hands pass ≡ some v →
      weigh_rights h (set hands pass w) + weigh h v.rights ≡ weigh_rights h hands + weigh h w.rights
  rights_set h [] pass v w at = absurd (some-ne-none v (sym at))
  rights_set h (x ∷ xs) zero v w at =
      let e : weigh h x.rights ≡ weigh h v.rights = ap (λ (u : Hand N). weigh h u.rights) (some-injective x v at) in
      omega (arith, e)
  rights_set h (x ∷ xs) (suc pass) v w at = let e = rights_set h xs pass v w at in omega (arith, e)

  pub rights_snoc : (h : ℕ → ℕ) (hands : List (Hand N)) (w : Hand N) → weigh_rights h (hands ++ w ∷ []) ≡ weigh_rights h hands + weigh h w.rights
  rights_snoc h [] w = omega arith
  rights_snoc h (x ∷ xs) w = let e = rights_snoc h xs w in omega (arith, e)

  -- a pass has no more rights than all have
  pub rights_le : (h : ℕ → ℕ) (hands : List (Hand N)) (pass : ℕ) (v : Hand N) → get_elem? hands pass ≡ some v →
      weigh h v.rights ≤ weigh_rights h hands
  rights_le h [] pass v at = absurd (some-ne-none v (sym at))
  rights_le h (x ∷ xs) zero v at =
      let e : weigh h x.rights ≡ weigh h v.rights = ap (λ (u : Hand N). weigh h u.rights) (some-injective x v at) in
      omega (arith, e)
  rights_le h (x ∷ xs) (suc pass) v at = let e = rights_le h xs pass v at in omega (arith, e)

  pub length_weighs : (xs : List (JobParts N)) → length xs ≡ weigh (λ _. 1) xs
  length_weighs [] = refl
  length_weighs (x ∷ xs) = let e = length_weighs xs in omega (arith, e)

  -- ---- jobs of a number

  pub free-times : (n : ℕ) (jobs : List (JobParts N)) → IsFree n jobs → times n jobs ≡ 0
  free-times n [] free = refl
  free-times n (j ∷ js) free =
      let rest = free-times n js (λ k d lt. free (suc k) d (omega (arith, lt))) in
      let here = one_at-other n j.number (λ e. free 0 j (omega arith) (sym e)) in
      omega (arith, rest, here)

  pub contains-times : (out : List (JobParts N)) (j : JobParts N) → Contains out j → 1 ≤ times j.number out
  contains-times [] j at = absurd (omega (arith, at.1))
  contains-times (x ∷ xs) j (zero, lt, e) =
      let one : one_at j.number x.number ≡ 1 = ap (λ (y : JobParts N). one_at j.number y.number) e ∙ one_at-same j.number in
      omega (arith, one)
  contains-times (x ∷ xs) j (suc k, lt, e) = let rest = contains-times xs j (k, omega (arith, lt), e) in omega (arith, rest)

  -- ---- lists without a number

  without-keep : (n : ℕ) (j : JobParts N) (js : List (JobParts N)) → (n == j.number) ≡ false → without n (j ∷ js) ≡ j ∷ without n js
  without-keep n j js is = ap (λ (b : Bool). cond (not b) (j ∷ without n js) (without n js)) is

  without-drop : (n : ℕ) (j : JobParts N) (js : List (JobParts N)) → (n == j.number) ≡ true → without n (j ∷ js) ≡ without n js
  without-drop n j js is = ap (λ (b : Bool). cond (not b) (j ∷ without n js) (without n js)) is

  -- where no job has the number
  pub without_none : (n : ℕ) (js : List (JobParts N)) → times n js ≡ 0 → without n js ≡ js
  without_none n [] none = refl
  without_none n (j ∷ js) none =
      without-keep n j js (differs n j.number (omega (arith, none)))
      ∙ ap (λ (l : List (JobParts N)). j ∷ l) (without_none n js (omega (arith, none)))

  -- where one job has the number
  pub weigh_without : (h : ℕ → ℕ) (n : ℕ) (js : List (JobParts N)) → times n js ≡ 1 → weigh h js ≡ weigh h (without n js) + h n
  weigh_without h n [] one = absurd (omega (arith, one))
  weigh_without h n (j ∷ js) one = by (weigh_without h n js) (n == j.number) refl
    where
      by : (times n js ≡ 1 → weigh h js ≡ weigh h (without n js) + h n) → (b : Bool) → (n == j.number) ≡ b →
          weigh h (j ∷ js) ≡ weigh h (without n (j ∷ js)) + h n
      by more true is =
          let here : one_at n j.number ≡ 1 = ap (λ (b : Bool). if b then 1 else 0) is in
          let rest : times n js ≡ 0 = omega (arith, one, here) in
          let same : h n ≡ h j.number = ap h (eqb-true n j.number is) in
          let w : weigh h (without n (j ∷ js)) ≡ weigh h js = ap (weigh h) (without-drop n j js is ∙ without_none n js rest) in
          omega (arith, w, same)
      by more false is =
          let here : one_at n j.number ≡ 0 = ap (λ (b : Bool). if b then 1 else 0) is in
          let w : weigh h (without n (j ∷ js)) ≡ h j.number + weigh h (without n js) = ap (weigh h) (without-keep n j js is) in
          let e = more (omega (arith, one, here)) in
          omega (arith, w, e)

  contains-cons : (x : JobParts N) (xs : List (JobParts N)) (j : JobParts N) → Contains xs j → Contains (x ∷ xs) j
  contains-cons x xs j at = (suc at.0, omega (arith, at.1), at.2)

  contains-cases : (x : JobParts N) (xs : List (JobParts N)) (j : JobParts N) → Contains (x ∷ xs) j → (x ≡ j) ⊎ Contains xs j
  contains-cases x xs j (zero, lt, e) = inl e
  contains-cases x xs j (suc k, lt, e) = inr (k, omega (arith, lt), e)

  pub contains_without : (n : ℕ) (out : List (JobParts N)) (j : JobParts N) → one_at n j.number ≡ 0 → Contains out j → Contains (without n out) j
  contains_without n [] j apart at = absurd (omega (arith, at.1))
  contains_without n (x ∷ xs) j apart at = by (contains_without n xs j apart) (n == x.number) refl
    where
      by : (Contains xs j → Contains (without n xs) j) → (b : Bool) → (n == x.number) ≡ b → Contains (without n (x ∷ xs)) j
      by more true is = subst (λ (l : List (JobParts N)). Contains l j) (sym (without-drop n x xs is)) (elim (contains-cases x xs j at) [
        | inl e ↦ absurd (true≢false (sym is ∙ ap (λ (y : JobParts N). n == y.number) e ∙ differs n j.number apart))
        | inr rest ↦ more rest
      ])
      by more false is = subst (λ (l : List (JobParts N)). Contains l j) (sym (without-keep n x xs is)) (elim (contains-cases x xs j at) [
        | inl e ↦ (0, omega arith, e)
        | inr rest ↦ contains-cons x (without n xs) j (more rest)
      ])

  -- ---- each of the jobs is out

  pub each_without : (n : ℕ) (out js : List (JobParts N)) → times n js ≡ 0 → ContainsEach out js → ContainsEach (without n out) js
  each_without n out [] none all = tt
  each_without n out (j ∷ js) none all = (contains_without n out j (omega (arith, none)) all.0, each_without n out js (omega (arith, none)) all.1)

  pub results_without : (n : ℕ) (out : List (JobParts N)) (xs : List (Finished N)) → weigh_results (one_at n) xs ≡ 0 → AreOfJobs out xs → AreOfJobs (without n out) xs
  results_without n out [] none all = tt
  results_without n out (x ∷ xs) none all = (contains_without n out (job_of x) (omega (arith, none)) all.0, results_without n out xs (omega (arith, none)) all.1)

  pub each_more : (out : List (JobParts N)) (x : JobParts N) (js : List (JobParts N)) → ContainsEach out js → ContainsEach (out ++ x ∷ []) js
  each_more out x [] all = tt
  each_more out x (j ∷ js) all = (Contains-append_left out (x ∷ []) j all.0, each_more out x js all.1)

  pub results_more : (out : List (JobParts N)) (x : JobParts N) (ys : List (Finished N)) → AreOfJobs out ys → AreOfJobs (out ++ x ∷ []) ys
  results_more out x [] all = tt
  results_more out x (y ∷ ys) all = (Contains-append_left out (x ∷ []) (job_of y) all.0, results_more out x ys all.1)

  pub each-append : (out xs ys : List (JobParts N)) → ContainsEach out xs → ContainsEach out ys → ContainsEach out (xs ++ ys)
  each-append out [] ys a b = b
  each-append out (x ∷ xs) ys a b = (a.0, each-append out xs ys a.1 b)

  pub results_of-append : (out : List (JobParts N)) (xs ys : List (Finished N)) → AreOfJobs out xs → AreOfJobs out ys → AreOfJobs out (xs ++ ys)
  results_of-append out [] ys a b = b
  results_of-append out (x ∷ xs) ys a b = (a.0, results_of-append out xs ys a.1 b)

  pub each-front : (out xs ys : List (JobParts N)) → ContainsEach out (xs ++ ys) → ContainsEach out xs
  each-front out [] ys a = tt
  each-front out (x ∷ xs) ys a = (a.0, each-front out xs ys a.1)

  pub each-back : (out xs ys : List (JobParts N)) → ContainsEach out (xs ++ ys) → ContainsEach out ys
  each-back out [] ys a = a
  each-back out (x ∷ xs) ys a = each-back out xs ys a.1

  -- ---- the last job

  pub front_snoc : (xs : List (JobParts N)) (j : JobParts N) → front (xs ++ j ∷ []) ≡ xs
  front_snoc [] j = refl
  front_snoc (x ∷ []) j = refl
  front_snoc (x ∷ y ∷ l) j = ap (λ (l : List (JobParts N)). x ∷ l) (front_snoc (y ∷ l) j)

  pub last_snoc : (xs : List (JobParts N)) (j : JobParts N) → last (xs ++ j ∷ []) ≡ j ∷ []
  last_snoc [] j = refl
  last_snoc (x ∷ []) j = refl
  last_snoc (x ∷ y ∷ l) j = last_snoc (y ∷ l) j
