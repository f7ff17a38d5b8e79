-- What a display without workers keeps, over its events.
use Rattle.std.proofs.Common.{◌≡◌, ℕ, ◌+◌, ◌≤◌, Bool, true, false, not, cond, List, [], ◌∷◌, ◌++◌, map, Option, Some, None, Result, Ok, Err, refl, sym, ap, ◌∙◌, subst, true≢false, arith}
use Rattle.std.specs.Prelude.{◌&&◌, ◌==◌, IfSome, OnErr, OnOk}
use Rattle.std.proofs.lemmas.Bool.{eq-eqb}
use Rattle.std.proofs.lemmas.List.Sums.{sum_by-append}
use Rattle.cell_units.specs.Operation.{Operation}
use Rattle.display_map.specs.Displays.{unlanded}
use Rattle.display_map.specs.Events.{Event, Did, Landed, Published}
use Rattle.display_map.specs.Replay.{History, SentJob, State, appended, begun, happens, is_published, landed_if, next_run, is_settled, present_of, replayed, stamps_of, state_of, versions_of, with_landed}
use Rattle.display_map.specs.Sending.{IsOutstanding, IsRunTaken, IsSent, sending}
use Rattle.display_map.proofs.Settled.{all-settled}
use Rattle.display_map.proofs.Replays.{replayed-cons, replayed-none, state_of-appended, state_of-one_more}
use Rattle.display_session.specs.LoneDisplays.{KeepsLone, LineJob, but_late, have_landed}

-- ---- laws of jobs, as `job_laws` has them

abbrev pub Sends : Type 0
Sends = (before after : History) (job : LineJob) → IsSent before after job → IsOutstanding after job

abbrev pub StaysOver : Type 0
StaysOver = (h : History) (ops : List Operation) (job : LineJob) → IsOutstanding h job → IsOutstanding (appended h (map Did ops)) job

-- ---- landed jobs

one-more : (n : ℕ) (job : SentJob) (rest rest' : Bool) → (rest ≡ true → rest' ≡ true) → (job.landed && rest) ≡ true → ((landed_if n job).landed && rest') ≡ true
one-more n job rest rest' more e = go (job.number == n) job.landed refl e where
  go : (b l : Bool) → job.landed ≡ l → (l && rest) ≡ true → ((cond b (record job { landed = true }) job).landed && rest') ≡ true
  go true true is e = more e
  go true false is e = absurd (true≢false (sym e))
  go false true is e = ap (λ b. b && rest') is ∙ more e
  go false false is e = absurd (true≢false (sym e))

landed-last : (n : ℕ) (jobs : List SentJob) (new : SentJob) → new.number ≡ n → have_landed jobs ≡ true → have_landed (with_landed n (jobs ++ new ∷ [])) ≡ true
landed-last n [] new is e =
    ap (λ b. (cond b (record new { landed = true }) new).landed && true) (eq-eqb new.number n is)
landed-last n (job ∷ jobs) new is e =
    one-more n job (have_landed jobs) (have_landed (with_landed n (jobs ++ new ∷ []))) (landed-last n jobs new is) e

-- ---- published versions

still-published : (a b : History) (more : List Event) → b ≡ appended a more → 1 ≤ versions_of a.events → 1 ≤ versions_of b.events
still-published a b more is some =
    let counted : versions_of (a.events ++ more) ≡ versions_of a.events + versions_of more = sum_by-append (λ e. cond (is_published e) 1 0) a.events more in
    let same : versions_of b.events ≡ versions_of (a.events ++ more) = ap (λ h. versions_of h.events) is in
    omega (arith, some, counted, same)

-- ---- over events

dids-jobs : (s : State) (ops : List Operation) → (replayed s (map Did ops)).jobs ≡ s.jobs
dids-jobs s [] = ap (λ (s : State). s.jobs) (replayed-none s)
dids-jobs s (op ∷ ops) = ap (λ (s : State). s.jobs) (replayed-cons s (Did op) (map Did ops)) ∙ dids-jobs (happens s (Did op)) ops

pub kept-opened : (a b : History) (text : List ℕ) → a ≡ record { opening = text; events = [] } → b ≡ appended a (Published false ∷ []) → KeepsLone b None
kept-opened a b text begins is =
    let first : History = record { opening = text; events = [] } in
    let none : (state_of a).jobs ≡ [] = ap (λ h. (state_of h).jobs) begins ∙ ap (λ (s : State). s.jobs) (replayed-none (begun text)) in
    let jobs : (state_of b).jobs ≡ [] =
    ap (λ h. (state_of h).jobs) is ∙ (ap (λ (s : State). s.jobs) (state_of-one_more a (Published false)) ∙ none) in
    record {
      published = subst (λ h. 1 ≤ versions_of h.events) (sym (is ∙ ap (λ h. appended h (Published false ∷ [])) begins)) (omega arith);
      late_is_out = tt;
      others_landed = ap have_landed jobs;
    }

pub kept-sent : Sends → (a b : History) (job : LineJob) → IsSent a b job → KeepsLone a None → KeepsLone b (Some job)
kept-sent sends a b job sent kept =
    let new : SentJob = record { number = job.number; width = (state_of a).present.width; stamps = stamps_of (state_of a).present.marks job.run.first job.run.count; landed = false } in
    let jobs : (state_of b).jobs ≡ (state_of a).jobs ++ new ∷ [] =
    ap (λ h. (state_of h).jobs) sent.event_is ∙ ap (λ (s : State). s.jobs) (state_of-one_more a (sending job)) in
    record {
      published = still-published a b (sending job ∷ []) sent.event_is kept.published;
      late_is_out = sends a b job sent;
      others_landed = ap (λ l. have_landed (with_landed job.number l)) jobs ∙ landed-last job.number (state_of a).jobs new refl kept.others_landed;
    }

pub kept-landed : (a b : History) (job : LineJob) → b ≡ appended a (Landed job.number ∷ []) → KeepsLone a (Some job) → KeepsLone b None
kept-landed a b job is kept =
    let jobs : (state_of b).jobs ≡ with_landed job.number (state_of a).jobs =
    ap (λ h. (state_of h).jobs) is ∙ ap (λ (s : State). s.jobs) (state_of-one_more a (Landed job.number)) in
    record {
      published = still-published a b (Landed job.number ∷ []) is kept.published;
      late_is_out = tt;
      others_landed = ap have_landed jobs ∙ kept.others_landed;
    }

some-more : {X : Type 0} (P Q : X → Type 0) (o : Option X) → ((x : X) → P x → Q x) → IfSome o P → IfSome o Q
some-more P Q None more it = it
some-more P Q (Some x) more it = more x it

pub kept-did : StaysOver → (a b : History) (ops : List Operation) (late : Option LineJob) → b ≡ appended a (map Did ops) → KeepsLone a late → KeepsLone b late
kept-did stays a b ops late is kept =
    let jobs : (state_of b).jobs ≡ (state_of a).jobs =
    ap (λ h. (state_of h).jobs) is ∙ (ap (λ (s : State). s.jobs) (state_of-appended a (map Did ops)) ∙ dids-jobs (state_of a) ops) in
    record {
      published = still-published a b (map Did ops) is kept.published;
      late_is_out = some-more (λ job. IsOutstanding a job) (λ job. IsOutstanding b job) late
          (λ job out. subst (λ h. IsOutstanding h job) (sym is) (stays a ops job out)) kept.late_is_out;
      others_landed = subst (λ l. have_landed (but_late late l) ≡ true) (sym jobs) kept.others_landed;
    }

pub kept-same : (a b : History) (late : Option LineJob) → b ≡ a → KeepsLone a late → KeepsLone b late
kept-same a b late is kept = subst (λ h. KeepsLone h late) (sym is) kept

-- ---- by the results of calls

pub applied : {E : Type 0} → StaysOver → (a b : History) (ops : List Operation) (late : Option LineJob) (r : Result (Unit {0}) E)
    → OnOk r (b ≡ appended a (map Did ops)) → OnErr r (b ≡ a) → KeepsLone a late → KeepsLone b late
applied stays a b ops late (Ok done) is same kept = kept-did stays a b ops late is kept
applied stays a b ops late (Err error) is same kept = kept-same a b late same kept

-- a run is sent, or no line waits: then every line is wrapped

none-unlanded : (jobs : List SentJob) → have_landed jobs ≡ true → unlanded jobs ≡ []
none-unlanded [] e = refl
none-unlanded (job ∷ jobs) e = go job.landed (none-unlanded jobs) e where
  go : (l : Bool) → (have_landed jobs ≡ true → unlanded jobs ≡ []) → (l && have_landed jobs) ≡ true
      → cond (not l) (job ∷ unlanded jobs) (unlanded jobs) ≡ []
  go true rest e = rest e
  go false rest e = absurd (true≢false (sym e))

pub one-sent : Sends → (a b : History) (run : Option LineJob) (job : LineJob) → run ≡ Some job → IsRunTaken a b run → KeepsLone a None → KeepsLone b (Some job)
one-sent sends a b run job is taken kept = kept-sent sends a b job (subst (λ run. IsRunTaken a b run) is taken) kept

pub none-sent : (a b : History) (run : Option LineJob) → run ≡ None → IsRunTaken a b run → KeepsLone a None → is_settled (present_of b) ≡ true
none-sent a b run is taken kept =
    let none : (next_run (state_of a) ≡ None) × (b ≡ a) = subst (λ run. IsRunTaken a b run) is taken in
    ap (λ h. is_settled (present_of h)) none.1 ∙ all-settled (state_of a) (none-unlanded (state_of a).jobs kept.others_landed) none.0
