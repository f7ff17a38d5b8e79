-- Steps of an owner: a send, and a landing with its version.
use Rattle.std.proofs.Common.{◌≡◌, ℕ, ◌+◌, ◌*◌, ◌<◌, ◌≤◌, ◌==◌, true, false, List, [], ◌∷◌, ◌++◌, length, Option, Some, refl, sym, ap, ◌∙◌, ◌⊎◌, inl, inr, subst, arith}
use Rattle.std.proofs.lemmas.Bool.{eqb-false}
use Rattle.std.proofs.lemmas.List.{length-append}
use Rattle.display_map.specs.Events.{Event, Landed, Published, event_limit}
use Rattle.display_map.specs.Replay.{History, state_of, appended}
use Rattle.display_map.specs.Sending.{IsOutstanding, IsRunTaken, IsSent, sending}
use Rattle.version_board.specs.Known.{Known}
use Rattle.live_display.specs.declared.owner.Owner.{Owner}
use Rattle.live_display.specs.declared.halt.Halt.TheVariants as halts
use Rattle.live_display.specs.Beside.{Sends, Lands, behind, events_of, IsHalted, IsOut}
use Rattle.live_display.specs.Owned.{HasTeam, IsLanding, IsNewest, IsOwned}
use Rattle.live_display.specs.Stepping.{HasLanded, HasSent}
use Rattle.live_display.proofs.Going.{gone-none, gone-one}
use Rattle.live_display.proofs.Newest.{appended-append, newest-still}
use Rattle.live_display.proofs.Outs.{Job, outs-sent, outs-landed, outstanding-is, out-is-out, out-is-outstanding}
use Rattle.live_display.proofs.Owners.{Stays, some-more}

pub team-same : (h h' : History) (out out' : List Job) (w w' : ℕ) (writer writer' : Option Known)
    → h' ≡ h → out' ≡ out → w' ≡ w → writer' ≡ writer → HasTeam h out w writer → HasTeam h' out' w' writer'
team-same h h' out out' w w' writer writer' e f g k team =
    subst (λ (X : Type 0). X) (λ i. HasTeam (sym e i) (sym f i) (sym g i) (sym k i)) team

longer : (h h' : History) (events : List Event) → h' ≡ appended h events → length h'.events ≡ length h.events + length events
longer h h' events is = ap (λ (x : History). length x.events) is ∙ length-append h.events events

-- ---- no memory before anything happened

pub halted-none : (w : ℕ) (h h' : History) → h' ≡ h → length h.events + 3 ≤ event_limit → IsHalted w h h' halts.Memory
halted-none w h h' same room =
    let count : length h'.events ≡ length h.events = ap (λ (x : History). length x.events) same in
    (record { between = h; gone = gone-none w h h refl; last = inl same }, omega (arith, count, room))

-- ---- a send

pub taken-sent : (h h' : History) (run : Option Job) (job : Job) → run ≡ Some job → IsRunTaken h h' run → IsSent h h' job
taken-sent h h' run job is taken = subst (λ r. IsRunTaken h h' r) is taken

pub has-sent : (o o' : Owner) (job : Job) → IsSent o.display o'.display job → IsOwned o → length o.crew.out < 2 * o.crew.workers
    → length o.display.events + 3 ≤ event_limit → HasSent o o' true
has-sent o o' job sent owned few room =
    let count = longer o.display o'.display (sending job ∷ []) sent.event_is in
    let outstanding = outstanding-is o.display o.crew.out owned.jobs in (
      gone-one o.crew.workers o.display o'.display (Sends job.number job.run.first job.run.count)
          (record { run = sent.run_is; number = sent.number_is; room = omega (arith, outstanding, few) }) sent.event_is,
      omega (arith, count),
      omega (arith, count, room),
      record { more = sending job ∷ []; display = sent.event_is; none = refl },
    )

pub team-sent : Stays → ((before after : History) (job : Job) → IsSent before after job → IsOutstanding after job)
    → (o : Owner) (h : History) (job : Job) → IsSent o.display h job → length o.crew.out < 2 * o.crew.workers → IsOwned o
    → HasTeam h (o.crew.out ++ job ∷ []) o.crew.workers o.writer
team-sent stays begins o h job sent room owned =
    record {
      some_worker = owned.some_worker;
      few = omega (arith, length-append o.crew.out (job ∷ []), room);
      jobs = outs-sent o.display h job o.crew.out
          (λ other out. subst (λ h. IsOutstanding h other) (sym sent.event_is) (stays o.display (sending job) other refl out))
          (begins o.display h job sent) sent owned.jobs;
      shown = some-more (λ w. IsNewest w.newest o.display) (λ w. IsNewest w.newest h) o.writer
          (λ w it. newest-still w.newest o.display h (sending job ∷ []) sent.event_is refl it) owned.shown;
    }

-- ---- a landing

pub team-landed : Stays → (o : Owner) (h : History) (job : Job) → h ≡ appended o.display (Landed job.number ∷ []) → IsLanding o job
    → HasTeam h o.crew.out o.crew.workers o.writer
team-landed stays o h job is landing =
    let less = landing.taken.2 in
    record {
      some_worker = landing.some_worker;
      few = omega (arith, less, landing.few);
      jobs = outs-landed o.display h job landing.out o.crew.out
          (λ other apart out. subst (λ h. IsOutstanding h other) (sym is) (stays o.display (Landed job.number) other apart out))
          is landing.taken landing.jobs;
      shown = some-more (λ w. IsNewest w.newest o.display) (λ w. IsNewest w.newest h) o.writer
          (λ w it. newest-still w.newest o.display h (Landed job.number ∷ []) is refl it) landing.shown;
    }

pub landing-is-out : (o : Owner) (job : Job) → IsLanding o job → IsOut (state_of o.display) job.number
landing-is-out o job landing = out-is-out o.display landing.out job landing.jobs landing.taken.0

pub landing-is-outstanding : (o : Owner) (job : Job) → IsLanding o job → IsOutstanding o.display job
landing-is-outstanding o job landing = out-is-outstanding o.display landing.out job landing.jobs landing.taken.0

both : (h between h' : History) (n : ℕ) → between ≡ appended h (Landed n ∷ []) → h' ≡ appended between (Published false ∷ []) → h' ≡ behind h (Lands n)
both h between h' n landed published =
    published ∙ (ap (λ x. appended x (Published false ∷ [])) landed ∙ appended-append h (Landed n ∷ []) (Published false ∷ []))

pub has-landed : (o o' : Owner) (between : History) (job : Job) → IsLanding o job → between ≡ appended o.display (Landed job.number ∷ [])
    → o'.display ≡ appended between (Published false ∷ []) → length o.display.events + 3 ≤ event_limit → HasLanded o o'
has-landed o o' between job landing landed published room =
    let one = longer o.display between (Landed job.number ∷ []) landed in
    let two = longer between o'.display (Published false ∷ []) published in
    record {
      gone = gone-one o.crew.workers o.display o'.display (Lands job.number) (landing-is-out o job landing) (both o.display between o'.display job.number landed published);
      unsent = record { more = events_of (Lands job.number); display = both o.display between o'.display job.number landed published; none = refl };
      longer = omega (arith, one, two);
      within = omega (arith, one, two, room);
    }

pub halted-landed : (w : ℕ) (o : Owner) (between h' : History) (job : Job) → IsLanding o job → between ≡ appended o.display (Landed job.number ∷ [])
    → (h' ≡ between) ⊎ (h' ≡ appended between (Published false ∷ [])) → length o.display.events + 3 ≤ event_limit → IsHalted w o.display h' halts.Memory
halted-landed w o between h' job landing landed (inl same) room =
    let one = longer o.display between (Landed job.number ∷ []) landed in
    let count : length h'.events ≡ length between.events = ap (λ (x : History). length x.events) same in (
      record {
        between = o.display;
        gone = gone-none w o.display o.display refl;
        last = inr (job.number, landing-is-out o job landing, same ∙ landed);
      },
      omega (arith, one, count, room),
    )
halted-landed w o between h' job landing landed (inr published) room =
    let one = longer o.display between (Landed job.number ∷ []) landed in
    let two = longer between h' (Published false ∷ []) published in (
      record {
        between = h';
        gone = gone-one w o.display h' (Lands job.number) (landing-is-out o job landing) (both o.display between h' job.number landed published);
        last = inl refl;
      },
      omega (arith, one, two, room),
    )

-- a crew that isn't full has room for a job
pub roomy : (out : List Job) (workers : ℕ) → (length out == 2 * workers) ≡ false → length out ≤ 2 * workers → length out < 2 * workers
roomy out workers apart few = let differ = eqb-false (length out) (2 * workers) apart in omega (arith, differ, few)
