-- States of a history, and their jobs.
use Rattle.std.proofs.Common.{◌≡◌, ℕ, ◌+◌, ◌<◌, ◌≤◌, eqb, zero, suc, cond, Bool, true, false, List, [], ◌∷◌, ◌++◌, map, refl, ap, ◌∙◌, arith}
use Rattle.std.specs.List.{All, range_with_len}
use Rattle.std.proofs.lemmas.List.Elements.{All-weaker}
use Rattle.std.proofs.lemmas.List.Sums.{fold-append}
use Rattle.display_map.specs.Events.{Event}
use Rattle.display_map.specs.Replay.{SentJob, State, History, begun, landed_if, with_landed, happens, replayed, state_of, appended}

-- ---- event by event

pub replayed-append : (s : State) (xs ys : List Event) → replayed s (xs ++ ys) ≡ replayed (replayed s xs) ys
unfolding replayed
replayed-append s xs ys = fold-append happens s xs ys

pub replayed-none : (s : State) → replayed s [] ≡ s
unfolding replayed
replayed-none s = refl

pub replayed-cons : (s : State) (e : Event) (es : List Event) → replayed s (e ∷ es) ≡ replayed (happens s e) es
unfolding replayed
replayed-cons s e es = refl

-- the state after further events, and after one
pub state_of-appended : (h : History) (es : List Event) → state_of (appended h es) ≡ replayed (state_of h) es
state_of-appended h es = replayed-append (begun h.opening) h.events es

pub state_of-one_more : (h : History) (e : Event) → state_of (appended h (e ∷ [])) ≡ happens (state_of h) e
state_of-one_more h e =
    state_of-appended h (e ∷ []) ∙ replayed-cons (state_of h) e [] ∙ replayed-none (happens (state_of h) e)

-- ---- jobs

-- the jobs' stamps stay given where the next stamp only rises
pub still_given : (next next' : ℕ) (jobs : List SentJob) → next ≤ next' →
    All (λ job. All (λ x. x < next) job.stamps) jobs → All (λ job. All (λ x. x < next') job.stamps) jobs
still_given next next' jobs le h =
    All-weaker (λ (job : SentJob). All (λ x. x < next) job.stamps) (λ (job : SentJob). All (λ x. x < next') job.stamps)
    (λ job below. All-weaker (λ (x : ℕ). x < next) (λ (x : ℕ). x < next') (λ x lt. omega (arith, lt, le)) job.stamps below) jobs h

pub range_more : (a n : ℕ) → range_with_len a n ++ (a + n) ∷ [] ≡ range_with_len a (n + 1)
range_more a zero = ap (λ (k : ℕ). k ∷ []) (omega arith)
range_more a (suc n) =
    let last : a + suc n ≡ a + 1 + n = omega arith in
    let whole : suc (n + 1) ≡ suc n + 1 = omega arith in
    (λ i. a ∷ (range_with_len (a + 1) n ++ last i ∷ []))
    ∙ ap (λ (l : List ℕ). a ∷ l) (range_more (a + 1) n)
    ∙ ap (range_with_len a) whole

pub same_numbers : (number : ℕ) (jobs : List SentJob) → map (λ job. job.number) (with_landed number jobs) ≡ map (λ job. job.number) jobs
same_numbers number [] = refl
same_numbers number (job ∷ jobs) = λ i. one (eqb job.number number) i ∷ same_numbers number jobs i where
  one : (b : Bool) → (cond b (record job { landed = true }) job).number ≡ job.number
  one true = refl
  one false = refl

pub same_stamps : (number : ℕ) (job : SentJob) → (landed_if number job).stamps ≡ job.stamps
same_stamps number job = one (eqb job.number number) where
  one : (b : Bool) → (cond b (record job { landed = true }) job).stamps ≡ job.stamps
  one true = refl
  one false = refl
