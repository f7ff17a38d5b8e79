-- What a step of the crew does to its two ends.
use Rattle.std.proofs.Common.{◌≡◌, ◌≢◌, ℕ, ◌+◌, ◌-◌, ◌*◌, ◌≤◌, Contains, List, [], ◌∷◌, ◌++◌, length, sym, refl, ap, ◌∙◌, subst, arith, Option, true}
use Rattle.std.proofs.lemmas.List.{length-append}
use Rattle.wrap_workers.specs.declared.results.Hand.{Hand}
use Rattle.wrap_workers.specs.declared.tasks.Post.{Post}
use Rattle.wrap_workers.specs.declared.tasks.Task.{Task}
use Rattle.wrap_workers.specs.declared.tasks.Task.TheVariants.{Do, Stop}
use Rattle.wrap_workers.specs.Jobs.{JobParts, front, without}
use Rattle.wrap_workers.specs.Errands.{ErrandParts, Right}
use Rattle.wrap_workers.specs.Owed.{AreDistinct, after_hired, after_lent, after_result, after_retired, after_returned, crew_hand, one_at, times}
use Rattle.wrap_workers.specs.Posted.{IsHome, after_put, serial_of}
use Rattle.wrap_workers.specs.Crewed.{IsTakenOff}
use Rattle.wrap_workers.specs.inside.Ends.{IsAt, IsCrew, IsCrewHand, IsCrewPost, IsHomeAt, Queue, ResultsSeen, TasksSeen}
use Rattle.wrap_workers.proofs.Owing.{one_more}
use Rattle.wrap_workers.proofs.Weights.{contains-times, front_snoc, length_weighs, weigh_without}

module _ {N : Type 0} where
  -- ---- the pass of the queue of results

  -- a job is handed out
  pub hand_hired : (v w : Hand N) (kept : List (JobParts N)) (count workers room : ℕ) (job : JobParts N) →
      IsCrewHand v kept count workers room → count ≢ 2 * workers → times job.number v.out ≡ 0 →
      w ≡ crew_hand (v.serial + 1) (v.out ++ job ∷ []) v.rights → IsCrewHand w kept (count + 1) workers room
  hand_hired v w kept count workers room job i more new is = subst (λ (u : Hand N). IsCrewHand u kept (count + 1) workers room) (sym is) (record {
    rights = i.rights;
    distinct = λ n. one_more n v.out job (i.distinct n) new;
    counted = length-append v.out (job ∷ []) ∙ ap (λ (k : ℕ). k + 1) i.counted;
    full = omega (arith, i.full, more);
    roomy = i.roomy;
  })

  -- a job comes back to the crew's own place
  pub hand_returned : (v w : Hand N) (kept now : List (JobParts N)) (count workers room spare : ℕ) (job : JobParts N) →
      IsCrewHand v kept count workers room → w ≡ crew_hand v.serial v.out (v.rights ++ job ∷ []) →
      now ≡ kept ++ job ∷ [] → spare ≡ room → IsCrewHand w now count workers spare
  hand_returned v w kept now count workers room spare job i is pushed same = subst (λ (u : Hand N). IsCrewHand u now count workers spare) (sym is) (record {
    rights = ap (λ (l : List (JobParts N)). l ++ job ∷ []) i.rights ∙ sym pushed;
    distinct = i.distinct;
    counted = i.counted;
    full = i.full;
    roomy = omega (arith, i.roomy, same);
  })

  out_once : (out : List (JobParts N)) (job : JobParts N) → AreDistinct out → Contains out job → times job.number out ≡ 1
  out_once out job distinct at = let a = contains-times out job at in let b = distinct job.number in omega (arith, a, b)

  -- a job that was out is so no more
  pub hand_taken : (v w : Hand N) (kept now rights : List (JobParts N)) (count workers room spare : ℕ) (job : JobParts N) →
      IsCrewHand v kept count workers room → Contains v.out job → w ≡ crew_hand v.serial (without job.number v.out) rights →
      rights ≡ now → spare ≡ room → IsCrewHand w now (count - 1) workers spare
  hand_taken v w kept now rights count workers room spare job i at is left same =
      let once = out_once v.out job i.distinct at in
      let short = weigh_without (λ _. 1) job.number v.out once in
      let long = length_weighs v.out in
      let now_long = length_weighs (without job.number v.out) in
      subst (λ (u : Hand N). IsCrewHand u now (count - 1) workers spare) (sym is) (record {
        rights = left;
        distinct = λ n. let a = weigh_without (one_at n) job.number v.out once in let b = i.distinct n in omega (arith, a, b);
        counted = omega (arith, short, long, now_long, i.counted);
        full = omega (arith, i.full);
        roomy = omega (arith, i.roomy, same);
      })

  -- a kept job goes out again
  pub hand_lent : (v w : Hand N) (kept now : List (JobParts N)) (count workers room spare : ℕ) (job : JobParts N) →
      IsCrewHand v kept count workers room → w ≡ crew_hand (v.serial + 1) v.out (front v.rights) →
      kept ≡ now ++ job ∷ [] → spare ≡ room → IsCrewHand w now count workers spare
  hand_lent v w kept now count workers room spare job i is popped same = subst (λ (u : Hand N). IsCrewHand u now count workers spare) (sym is) (record {
    rights = ap front (i.rights ∙ popped) ∙ front_snoc now job;
    distinct = i.distinct;
    counted = i.counted;
    full = i.full;
    roomy = omega (arith, i.roomy, same);
  })

  pub kept_front : (v : Hand N) (kept now : List (JobParts N)) (count workers room : ℕ) (job : JobParts N) →
      IsCrewHand v kept count workers room → kept ≡ now ++ job ∷ [] → front v.rights ≡ now
  kept_front v kept now count workers room job i popped = ap front (i.rights ∙ popped) ∙ front_snoc now job

  -- ---- the pass of the queue of tasks

  -- it stays, while the next serial may rise
  pub post_same : (p q : Post N) (old new : ℕ) → IsCrewPost p old → q ≡ p → old ≤ new → IsCrewPost q new
  post_same p q old new i is le =
      subst (λ (u : Post N). IsCrewPost u new) (sym is) (record { going = i.going; next = omega (arith, i.next, le) })

  -- what was taken off, in the words of a contract
  pub taken_off : (v : Hand N) (kept : List (JobParts N)) (count workers room : ℕ) (before now : List (JobParts N)) (job given : JobParts N) →
      IsCrewHand v kept count workers room → Contains v.out job → now ≡ without job.number v.out →
      v.out ≡ before → given ≡ job → IsTakenOff given before now
  taken_off v kept count workers room before now job given i at is same own =
      let one = weigh_without (λ _. 1) job.number v.out (out_once v.out job i.distinct at) in
      let shorter : length now + 1 ≡ length v.out = omega (arith, ap length is, one, length_weighs v.out, length_weighs (without job.number v.out)) in
      subst (λ (y : List (JobParts N) × JobParts N). IsTakenOff y.1 y.0 now) (λ k. (same k, sym own k)) (at, is, shorter)

  -- an end whose pass went on by a step from what it knew
  pub knows : (step : Hand N → Hand N) (before old : ResultsSeen N) (hand : Hand N) → before ≡ old → hand ≡ step before.hand →
      record before { hand = hand } ≡ record old { hand = step old.hand }
  knows step before old hand same is =
      ap (λ (h : Hand N). record before { hand = h }) is ∙ ap (λ (r : ResultsSeen N). record r { hand = step r.hand }) same

  pub put_crew : (p : Post N) (task : Task N) → (after_put p task).crew ≡ true
  put_crew p (Do errand) = refl
  put_crew p Stop = refl

  pub put_home : (p : Post N) (task : Task N) → (after_put p task).home ≡ p.home
  put_home p (Do errand) = refl
  put_home p Stop = refl

  -- ---- the queue of results that both ends know

  pub at_home : (queue : Queue N) (home : Option (Right N)) (right : Right N) → IsHomeAt queue home → IsAt queue right → IsHome home right
  at_home queue home right (like, is, at) here =
      subst (λ (h : Option (Right N)). IsHome h right) (sym is) (here.0 ∙ sym at.0, here.1 ∙ sym at.1, here.2)

  pub home_at : (queue : Queue N) (home : Option (Right N)) (right : Right N) → IsHomeAt queue home → IsHome home right → IsAt queue right
  home_at queue home right (like, is, at) here =
      let same = subst (λ (h : Option (Right N)). IsHome h right) is here in
      (same.0 ∙ at.0, same.1 ∙ at.1, same.2)

  -- ---- the two ends of a crew

  module _ (t : TasksSeen N) (r : ResultsSeen N) (kept : List (JobParts N)) (count workers room : ℕ) (is_crew : IsCrew t r kept count workers room) where
    -- the end of the queue of results went on, and with it the jobs out and those of the crew's own place
    went_on : (s : ResultsSeen N) (hand : Hand N) (now : List (JobParts N)) (left spare : ℕ) → s ≡ record r { hand = hand } →
        r.hand.serial ≤ hand.serial → IsCrewHand hand now left workers spare → IsCrew t s now left workers spare
    went_on s hand now left spare is le i = subst (λ (u : ResultsSeen N). IsCrew t u now left workers spare) (sym is)
        (is_crew.0, post_same t.post t.post r.hand.serial hand.serial is_crew.1 refl le, i, is_crew.3, is_crew.4, is_crew.5)

    pub crew_hired : (s : ResultsSeen N) (job : JobParts N) → count ≢ 2 * workers → times job.number r.hand.out ≡ 0 →
        s ≡ record r { hand = after_hired r.hand job } → IsCrew t s kept (count + 1) workers room
    crew_hired s job more new is =
        went_on s (after_hired r.hand job) kept (count + 1) room is (omega arith) (hand_hired r.hand _ kept count workers room job is_crew.2 more new refl)

    pub crew_returned : (s : ResultsSeen N) (job : JobParts N) (now : List (JobParts N)) (spare : ℕ) →
        s ≡ record r { hand = after_returned r.hand job } → now ≡ kept ++ job ∷ [] → spare ≡ room → IsCrew t s now count workers spare
    crew_returned s job now spare is pushed same =
        went_on s (after_returned r.hand job) now count spare is (omega arith) (hand_returned r.hand _ kept now count workers room spare job is_crew.2 refl pushed same)

    pub crew_lent : (s : ResultsSeen N) (job : JobParts N) (now : List (JobParts N)) (spare : ℕ) →
        s ≡ record r { hand = after_lent r.hand } → kept ≡ now ++ job ∷ [] → spare ≡ room → IsCrew t s now count workers spare
    crew_lent s job now spare is popped same =
        went_on s (after_lent r.hand) now count spare is (omega arith) (hand_lent r.hand _ kept now count workers room spare job is_crew.2 refl popped same)

    pub crew_taken : (s : ResultsSeen N) (job : JobParts N) → Contains r.hand.out job →
        s ≡ record r { hand = after_result r.hand job } → IsCrew t s kept (count - 1) workers room
    crew_taken s job at is =
        went_on s (after_result r.hand job) kept (count - 1) room is (omega arith)
        (hand_taken r.hand _ kept kept r.hand.rights count workers room room job is_crew.2 at refl is_crew.2.rights refl)

    pub crew_retired : (s : ResultsSeen N) (job : JobParts N) (now : List (JobParts N)) (spare : ℕ) → Contains r.hand.out job →
        s ≡ record r { hand = after_retired r.hand job } → kept ≡ now ++ job ∷ [] → spare ≡ room → IsCrew t s now (count - 1) workers spare
    crew_retired s job now spare at is popped same =
        went_on s (after_retired r.hand job) now (count - 1) spare is (omega arith)
        (hand_taken r.hand _ kept now (front r.hand.rights) count workers room spare job is_crew.2 at refl
        (kept_front r.hand kept now count workers room job is_crew.2 popped) same)

    -- a job was put, whose serial is past
    pub crew_put : (u : TasksSeen N) (errand : ErrandParts N) → serial_of errand + 1 ≤ r.hand.serial →
        u ≡ record t { post = after_put t.post (Do errand) } → IsCrew u r kept count workers room
    crew_put u errand past is = subst (λ (v : TasksSeen N). IsCrew v r kept count workers room) (sym is)
        (is_crew.0, record { going = is_crew.1.going; next = past }, is_crew.2, is_crew.3, is_crew.4, is_crew.5)

    -- a job came back, so the queue of tasks is as it was
    pub crew_put_back : (u : TasksSeen N) → u ≡ t → IsCrew u r kept count workers room
    crew_put_back u is = subst (λ (v : TasksSeen N). IsCrew v r kept count workers room) (sym is) is_crew

    -- what was taken off, in the words of a contract
    pub crew_taken_off : (before now : List (JobParts N)) (job given : JobParts N) → Contains r.hand.out job →
        now ≡ without job.number r.hand.out → r.hand.out ≡ before → given ≡ job → IsTakenOff given before now
    crew_taken_off before now job given = taken_off r.hand kept count workers room before now job given is_crew.2
