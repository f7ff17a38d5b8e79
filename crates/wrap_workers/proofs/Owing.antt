-- Each step keeps the rule of the results.
use Rattle.std.proofs.Common.{◌≡◌, ◌≢◌, ℕ, zero, suc, ◌+◌, ◌≤◌, ◌==◌, Bool, true, false, true≢false, Contains, List, [], ◌∷◌, ◌++◌, length, set, eqb-true, sym, refl, ap, ◌∙◌, subst, ⊎_elim, arith, Option, Some, option_to_list}
use Rattle.std.specs.Prelude.{if◌then◌else◌}
use Rattle.std.proofs.lemmas.List.Elements.{Contains-push}
use mathlib.Core.Option.{some, some-ne-none, some-injective}
use lib.ListN.{get_elem?}
use Rattle.crossbeam_channel.specs.Claims.{view}
use Rattle.crossbeam_channel.specs.Fifo.{Pushes, Pops, Forks, Merges, Learns}
use Rattle.atomic_table.proofs.Lists.{at_set, at_snoc, set_else}
use Rattle.wrap_workers.specs.declared.job.Finished.{Finished}
use Rattle.wrap_workers.specs.declared.results.Hand.{Hand}
use Rattle.wrap_workers.specs.Jobs.{JobParts, front, last, without, without_each}
use Rattle.wrap_workers.specs.Finishes.{job_of}
use Rattle.wrap_workers.specs.Owed.{weigh, weigh_results, weigh_rights, one_at, times, ContainsEach, AreOfJobs, AreDistinct, WereOwed, crew_hand, right_of, right_to, spent, FitsHand, Owed}
use Rattle.wrap_workers.specs.Errands.{IsRightTo, Right}
use Rattle.wrap_workers.specs.inside.Ends.{IsLast}
use Rattle.wrap_workers.proofs.Weights.{weigh-append, results-append, rights_set, rights_snoc, rights_le, one_at-same, weigh_without, each_without, results_without, each_more, results_more, each-append, results_of-append, each-front, each-back, front_snoc, last_snoc, length_weighs}

off : false ≡ true → ⊥
off e = true≢false (sym e)

abbrev Jobs : Type 0 → Type 0
Jobs N = List (JobParts N)

module _ {N : Type 0} where
  abbrev Each : ℕ → Jobs N → List (Hand N) → Type 0
  Each seat out hands = (pass : ℕ) (v : Hand N) → get_elem? hands pass ≡ some v → FitsHand seat out pass v

  -- every pass still fits after a change of one
  each_set : (seat : ℕ) (now : Jobs N) (hands : List (Hand N)) (pass : ℕ) (w : Hand N) →
      ((j : ℕ) (u : Hand N) → j ≢ pass → get_elem? hands j ≡ some u → FitsHand seat now j u) → FitsHand seat now pass w → Each seat now (set hands pass w)
  each_set seat now hands pass w others mine j u e =
      ⊎_elim
      (λ (x : (j ≡ pass) × (w ≡ u)). subst (λ (y : ℕ × Hand N). FitsHand seat now y.0 y.1) (λ i. (sym x.0 i, x.1 i)) mine)
      (λ (x : (j ≢ pass) × (get_elem? hands j ≡ some u)). others j u x.0 x.1)
      (at_set hands pass j w u e)

  each_snoc : (seat : ℕ) (now : Jobs N) (hands : List (Hand N)) (w : Hand N) → Each seat now hands → ((j : ℕ) → FitsHand seat now j w) → Each seat now (hands ++ w ∷ [])
  each_snoc seat now hands w old new j u e =
      ⊎_elim (λ t. old j u t) (λ (same : w ≡ u). subst (FitsHand seat now j) same (new j)) (at_snoc hands w u j e)

  pub owed_begins : Owed [] (crew_hand {N = N} 0 [] [] ∷ [])
  owed_begins = (0, [], ((λ h. refl), (λ n. omega arith), tt), one)
    where
      one : (pass : ℕ) (v : Hand N) → get_elem? (crew_hand {N = N} 0 [] [] ∷ []) pass ≡ some v → FitsHand 0 [] pass v
      one zero v e = subst (FitsHand 0 [] 0) (some-injective _ _ e) ((λ _. (refl, refl)), tt)
      one (suc pass) v e = absurd (some-ne-none v (sym e))

  pub one_more : (n : ℕ) (out : Jobs N) (j : JobParts N) → times n out ≤ 1 → times j.number out ≡ 0 → times n (out ++ j ∷ []) ≤ 1
  one_more n out j le new = by (n == j.number) refl
    where
      by : (b : Bool) → (n == j.number) ≡ b → times n (out ++ j ∷ []) ≤ 1
      by true is =
          let a = weigh-append (one_at n) out (j ∷ []) in
          let one : one_at n j.number ≡ 1 = ap (λ (b : Bool). if b then 1 else 0) is in
          let none : times n out ≡ 0 = ap (λ (m : ℕ). times m out) (eqb-true n j.number is) ∙ new in
          omega (arith, a, one, none)
      by false is =
          let a = weigh-append (one_at n) out (j ∷ []) in
          let none : one_at n j.number ≡ 0 = ap (λ (b : Bool). if b then 1 else 0) is in
          omega (arith, a, none, le)

  -- a job is handed out
  pub hires : (pass : ℕ) (v : Hand N) (j : JobParts N) → v.crew ≡ true → times j.number v.out ≡ 0 →
      Forks Owed pass v (crew_hand (v.serial + 1) (v.out ++ j ∷ []) v.rights) (right_of v.serial j)
  hires pass v j crew new items hands o at =
      let mine = o.3 pass v at in
      let here = mine.0 crew in
      let now : Jobs N = v.out ++ j ∷ [] in
      let w : Hand N = crew_hand (v.serial + 1) now v.rights in
      let outs : (h : ℕ → ℕ) → weigh h v.out ≡ weigh_rights h hands + weigh_results h items = λ h. ap (weigh h) here.1 ∙ o.2.0 h in
      let to : (js : Jobs N) → ContainsEach o.1 js → ContainsEach now js = λ js all. each_more v.out j js (subst (λ (l : Jobs N). ContainsEach l js) (sym here.1) all) in (
        o.0,
        now,
        (
          (λ h. let a = weigh-append h v.out (j ∷ []) in let b = rights_set h hands pass v w at in let c = rights_snoc h (set hands pass w) (right_of v.serial j) in let d = outs h in omega (arith, a, b, c, d)),
          (λ n. one_more n v.out j (subst (λ (l : Jobs N). times n l ≤ 1) (sym here.1) (o.2.1 n)) new),
          results_more v.out j items (subst (λ (l : Jobs N). AreOfJobs l items) (sym here.1) o.2.2),
        ),
        each_snoc o.0 now (set hands pass w) (right_of v.serial j)
            (each_set o.0 now hands pass w (λ i u apart e. ((λ c. absurd (apart (((o.3 i u e).0 c).0 ∙ sym here.0))), to u.rights (o.3 i u e).1)) ((λ _. (here.0, refl)), to v.rights mine.1))
            (λ i. ((λ c. absurd (off c)), (Contains-push v.out j, tt))),
      )

  -- a result is sent
  pub sends : (n pass : ℕ) (v : Hand N) (x : Finished N) → v ≡ right_of v.serial (job_of x) → Pushes Owed n pass v x (λ w. w ≡ spent)
  sends n pass v x is items hands _ o at =
      let mine = o.3 pass v at in
      let own : ContainsEach o.1 (job_of x ∷ []) = subst (λ (u : Hand N). ContainsEach o.1 u.rights) is mine.1 in (
        spent,
        (
          o.0,
          o.1,
          (
            (λ h. let a = results-append h items (x ∷ []) in let b = rights_set h hands pass v spent at in let c : weigh h v.rights ≡ h (job_of x).number + 0 = ap (λ (u : Hand N). weigh h u.rights) is in let d = o.2.0 h in omega (arith, a, b, c, d)),
            o.2.1,
            results_of-append o.1 items (x ∷ []) o.2.2 (own.0, tt),
          ),
          each_set o.0 o.1 hands pass spent (λ i u apart e. o.3 i u e) ((λ c. absurd (off c)), tt),
        ),
        refl,
      )

  -- the number of a job that is out, and has a right or a result, is there once
  once : (n : ℕ) (out : Jobs N) (rest : ℕ) → times n out ≤ 1 → times n out ≡ rest + 1 → (times n out ≡ 1) × (rest ≡ 0)
  once n out rest le e = (omega (arith, le, e), omega (arith, le, e))

  -- a result is taken
  pub takes : (pass : ℕ) (v : Hand N) → v.crew ≡ true →
      Pops Owed pass v (λ x w. (w ≡ crew_hand v.serial (without (job_of x).number v.out) v.rights) × Contains v.out (job_of x))
  takes pass v crew x items hands o at =
      let n : ℕ = (job_of x).number in
      let mine = o.3 pass v at in
      let here = mine.0 crew in
      let now : Jobs N = without n v.out in
      let w : Hand N = crew_hand v.serial now v.rights in
      let outs : (h : ℕ → ℕ) → weigh h v.out ≡ weigh_rights h hands + (h n + weigh_results h items) = λ h. ap (weigh h) here.1 ∙ o.2.0 h in
      let le : times n v.out ≤ 1 = subst (λ (l : Jobs N). times n l ≤ 1) (sym here.1) (o.2.1 n) in
      let s = one_at-same n in
      let t = outs (one_at n) in
      let k : times n v.out ≡ weigh_rights (one_at n) hands + weigh_results (one_at n) items + 1 = omega (arith, s, t) in
      let just = once n v.out (weigh_rights (one_at n) hands + weigh_results (one_at n) items) le k in
      let no_right : weigh_rights (one_at n) hands ≡ 0 = omega (arith, just.1) in
      let no_result : weigh_results (one_at n) items ≡ 0 = omega (arith, just.1) in
      let to : (i : ℕ) (u : Hand N) → get_elem? hands i ≡ some u → ContainsEach now u.rights = λ i u e. let z = rights_le (one_at n) hands i u e in each_without n v.out u.rights (omega (arith, z, no_right)) (subst (λ (l : Jobs N). ContainsEach l u.rights) (sym here.1) (o.3 i u e).1) in (
        w,
        (
          o.0,
          now,
          (
            (λ h. let a = weigh_without h n v.out just.0 in let b = rights_set h hands pass v w at in let d = outs h in omega (arith, a, b, d)),
            (λ m. let a = weigh_without (one_at m) n v.out just.0 in let b : times m v.out ≤ 1 = subst (λ (l : Jobs N). times m l ≤ 1) (sym here.1) (o.2.1 m) in omega (arith, a, b)),
            results_without n v.out items no_result (subst (λ (l : Jobs N). AreOfJobs l items) (sym here.1) o.2.2.1),
          ),
          each_set o.0 now hands pass w (λ i u apart e. ((λ c. absurd (apart (((o.3 i u e).0 c).0 ∙ sym here.0))), to i u e)) ((λ _. (here.0, refl)), to pass v at),
        ),
        (refl, subst (λ (l : Jobs N). Contains l (job_of x)) (sym here.1) o.2.2.0),
      )

  pub was_owed : (pass : ℕ) (v : Hand N) → v.crew ≡ true → Learns Owed pass v (λ items. WereOwed v.out items)
  was_owed pass v crew items hands o at =
      let here = (o.3 pass v at).0 crew in
      (hands, ((λ h. ap (weigh h) here.1 ∙ o.2.0 h), subst AreDistinct (sym here.1) o.2.1, subst (λ (l : Jobs N). AreOfJobs l items) (sym here.1) o.2.2))

  pub counts : (pass : ℕ) (v : Hand N) → v.crew ≡ true → Learns Owed pass v (λ items. ContainsEach v.out v.rights × (length v.rights ≤ length v.out))
  counts pass v crew items hands o at =
      let mine = o.3 pass v at in
      let here = mine.0 crew in
      let a = length_weighs v.rights in
      let b = length_weighs v.out in
      let c = rights_le (λ _. 1) hands pass v at in
      let d : weigh (λ _. 1) v.out ≡ weigh_rights (λ _. 1) hands + weigh_results (λ _. 1) items = ap (weigh (λ _. 1)) here.1 ∙ o.2.0 (λ _. 1) in
      (subst (λ (l : Jobs N). ContainsEach l v.rights) (sym here.1) mine.1, omega (arith, a, b, c, d))

  -- the crew's last right goes to another thread
  pub lends : (pass : ℕ) (v : Hand N) (j : JobParts N) (rest : Jobs N) → v.crew ≡ true → v.rights ≡ rest ++ j ∷ [] →
      Forks Owed pass v (crew_hand (v.serial + 1) v.out rest) (right_of v.serial j)
  lends pass v j rest crew is items hands o at =
      let mine = o.3 pass v at in
      let here = mine.0 crew in
      let w : Hand N = crew_hand (v.serial + 1) v.out rest in
      let own : ContainsEach o.1 (rest ++ j ∷ []) = subst (ContainsEach o.1) is mine.1 in (
        o.0,
        o.1,
        (
          (λ h. let a : weigh h v.rights ≡ weigh h rest + (h j.number + 0) = ap (weigh h) is ∙ weigh-append h rest (j ∷ []) in let b = rights_set h hands pass v w at in let c = rights_snoc h (set hands pass w) (right_of v.serial j) in let d = o.2.0 h in omega (arith, a, b, c, d)),
          o.2.1,
          o.2.2,
        ),
        each_snoc o.0 o.1 (set hands pass w) (right_of v.serial j)
            (each_set o.0 o.1 hands pass w (λ i u apart e. o.3 i u e) ((λ _. here), each-front o.1 rest (j ∷ []) own))
            (λ i. ((λ c. absurd (off c)), each-back o.1 rest (j ∷ []) own)),
      )

  -- the crew's pass takes in a right
  pub returns : (pass : ℕ) (v : Hand N) (other : ℕ) (u : Hand N) → v.crew ≡ true →
      Merges Owed pass v other u (crew_hand v.serial v.out (v.rights ++ u.rights)) spent
  returns pass v other u crew items hands o at apart there =
      let mine = o.3 pass v at in
      let here = mine.0 crew in
      let w : Hand N = crew_hand v.serial v.out (v.rights ++ u.rights) in
      let was : get_elem? hands other ≡ some u = ⊎_elim (λ (t : (other ≡ pass) × (w ≡ u)). absurd (apart t.0)) (λ (t : (other ≢ pass) × (get_elem? hands other ≡ some u)). t.1) (at_set hands pass other w u there) in
      let theirs = o.3 other u was in (
        o.0,
        o.1,
        (
          (λ h. let a = weigh-append h v.rights u.rights in let b = rights_set h hands pass v w at in let c = rights_set h (set hands pass w) other u spent there in let d = o.2.0 h in omega (arith, a, b, c, d)),
          o.2.1,
          o.2.2,
        ),
        each_set o.0 o.1 (set hands pass w) other spent (λ i y _ e. each_set o.0 o.1 hands pass w (λ k z _ f. o.3 k z f) ((λ _. here), each-append o.1 v.rights u.rights mine.1 theirs.1) i y e) ((λ c. absurd (off c)), tt),
      )

  -- the crew's last right is spent, and its job is out no more
  pub retires : (pass : ℕ) (v : Hand N) (j : JobParts N) (rest : Jobs N) → v.crew ≡ true → v.rights ≡ rest ++ j ∷ [] →
      Forks Owed pass v (crew_hand v.serial (without j.number v.out) rest) spent
  retires pass v j rest crew is items hands o at =
      let n : ℕ = j.number in
      let mine = o.3 pass v at in
      let here = mine.0 crew in
      let now : Jobs N = without n v.out in
      let w : Hand N = crew_hand v.serial now rest in
      let vs : List (Hand N) = set hands pass w in
      let outs : (h : ℕ → ℕ) → weigh h v.out ≡ weigh_rights h hands + weigh_results h items = λ h. ap (weigh h) here.1 ∙ o.2.0 h in
      let le : times n v.out ≤ 1 = subst (λ (l : Jobs N). times n l ≤ 1) (sym here.1) (o.2.1 n) in
      let split : (h : ℕ → ℕ) → weigh_rights h hands ≡ weigh_rights h vs + h n = λ h. let a : weigh h v.rights ≡ weigh h rest + (h n + 0) = ap (weigh h) is ∙ weigh-append h rest (j ∷ []) in let b = rights_set h hands pass v w at in omega (arith, a, b) in
      let s = one_at-same n in
      let t = outs (one_at n) in
      let r = split (one_at n) in
      let k : times n v.out ≡ weigh_rights (one_at n) vs + weigh_results (one_at n) items + 1 = omega (arith, s, t, r) in
      let just = once n v.out (weigh_rights (one_at n) vs + weigh_results (one_at n) items) le k in
      let no_right : weigh_rights (one_at n) vs ≡ 0 = omega (arith, just.1) in
      let no_result : weigh_results (one_at n) items ≡ 0 = omega (arith, just.1) in
      let own : ContainsEach o.1 (rest ++ j ∷ []) = subst (ContainsEach o.1) is mine.1 in
      let own_all : times n v.rights ≡ times n rest + (one_at n n + 0) = ap (weigh (one_at n)) is ∙ weigh-append (one_at n) rest (j ∷ []) in
      let z = rights_le (one_at n) hands pass v at in
      let no_rest : times n rest ≡ 0 = omega (arith, own_all, z, s, t, le) in
      let mine_now : ContainsEach now rest = each_without n v.out rest no_rest (subst (λ (l : Jobs N). ContainsEach l rest) (sym here.1) (each-front o.1 rest (j ∷ []) own)) in
      let to : (i : ℕ) (u : Hand N) → i ≢ pass → get_elem? hands i ≡ some u → ContainsEach now u.rights = λ i u apart e. let y = rights_le (one_at n) vs i u (set_else hands pass i w apart ∙ e) in each_without n v.out u.rights (omega (arith, y, no_right)) (subst (λ (l : Jobs N). ContainsEach l u.rights) (sym here.1) (o.3 i u e).1) in (
        o.0,
        now,
        (
          (λ h. let a = weigh_without h n v.out just.0 in let b = split h in let d = outs h in let e = rights_snoc h vs spent in omega (arith, a, b, d, e)),
          (λ m. let a = weigh_without (one_at m) n v.out just.0 in let b : times m v.out ≤ 1 = subst (λ (l : Jobs N). times m l ≤ 1) (sym here.1) (o.2.1 m) in omega (arith, a, b)),
          results_without n v.out items no_result (subst (λ (l : Jobs N). AreOfJobs l items) (sym here.1) o.2.2),
        ),
        each_snoc o.0 now vs spent
            (each_set o.0 now hands pass w (λ i u apart e. ((λ c. absurd (apart (((o.3 i u e).0 c).0 ∙ sym here.0))), to i u apart e)) ((λ _. (here.0, refl)), mine_now))
            (λ i. ((λ c. absurd (off c)), tt)),
      )

  -- ---- the same in the words of the passes' moves

  pub hires_named : (pass : ℕ) (v : Hand N) (j : JobParts N) (named : Option (JobParts N)) → named ≡ Some j → v.crew ≡ true → times j.number v.out ≡ 0 →
      Forks Owed pass v (crew_hand (v.serial + 1) (v.out ++ option_to_list named) v.rights) (right_to v.serial (option_to_list named))
  hires_named pass v j named is crew new =
      subst (λ (o : Option (JobParts N)). Forks Owed pass v (crew_hand (v.serial + 1) (v.out ++ option_to_list o) v.rights) (right_to v.serial (option_to_list o)))
      (sym is) (hires pass v j crew new)

  pub lends_last : (pass : ℕ) (v : Hand N) (j : JobParts N) → v.crew ≡ true → IsLast v.rights j →
      Forks Owed pass v (crew_hand (v.serial + 1) v.out (front v.rights)) (right_to v.serial (last v.rights))
  lends_last pass v j crew is =
      let fronts : is.0 ≡ front v.rights = sym (ap front is.1 ∙ front_snoc is.0 j) in
      let lasts : j ∷ [] ≡ last v.rights = sym (ap last is.1 ∙ last_snoc is.0 j) in
      subst (λ (y : Jobs N × Jobs N). Forks Owed pass v (crew_hand (v.serial + 1) v.out y.0) (right_to v.serial y.1))
      (λ i. (fronts i, lasts i)) (lends pass v j is.0 crew is.1)

  pub retires_last : (pass : ℕ) (v : Hand N) (j : JobParts N) → v.crew ≡ true → IsLast v.rights j →
      Forks Owed pass v (crew_hand v.serial (without_each (last v.rights) v.out) (front v.rights)) spent
  retires_last pass v j crew is =
      let fronts : is.0 ≡ front v.rights = sym (ap front is.1 ∙ front_snoc is.0 j) in
      let lasts : j ∷ [] ≡ last v.rights = sym (ap last is.1 ∙ last_snoc is.0 j) in
      subst (λ (y : Jobs N × Jobs N). Forks Owed pass v (crew_hand v.serial (without_each y.1 v.out) y.0) spent)
      (λ i. (fronts i, lasts i)) (retires pass v j is.0 crew is.1)

  pub last_is : (rights : Jobs N) (j : JobParts N) → IsLast rights j → last rights ≡ j ∷ []
  last_is rights j is = ap last is.1 ∙ last_snoc is.0 j

  pub last_out : (out rights : Jobs N) (j : JobParts N) → ContainsEach out rights → IsLast rights j → Contains out j
  last_out out rights j all is = (each-back out is.0 (j ∷ []) (subst (ContainsEach out) is.1 all)).0

  -- the pass has the right to the job's result
  pub is_right_to : (right : Right N) (serial : ℕ) (j : JobParts N) → view right ≡ right_of serial j → IsRightTo right j
  is_right_to right serial j is = is ∙ ap (λ (n : ℕ). right_of n j) (sym (ap (λ (v : Hand N). v.serial) is))
