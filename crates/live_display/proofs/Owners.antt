-- Owners over the events of their display.
use Rattle.std.proofs.Common.{◌≡◌, ℕ, Bool, false, List, [], ◌∷◌, map, Option, Some, None, Result, Ok, Err, refl, sym, ap, ◌∙◌, subst}
use Rattle.std.specs.Prelude.{IfSome, OnOk, OnErr}
use Rattle.cell_units.specs.Operation.{Operation}
use Rattle.display_map.specs.Events.{Event, Line, Did, Published}
use Rattle.display_map.specs.Replay.{History, State, state_of, appended, replayed, happens}
use Rattle.display_map.specs.Sending.{IsOutstanding, is_landing}
use Rattle.display_map.proofs.Replays.{state_of-appended, state_of-one_more, replayed-none, replayed-cons}
use Rattle.display_map.specs.Versions.{Version}
use Rattle.version_board.specs.Known.{Known}
use Rattle.live_display.specs.declared.owner.Owner.{Owner}
use Rattle.live_display.specs.Owned.{AreOut, HasTeam, IsNewest, IsOwned}
use Rattle.live_display.proofs.Outs.{Job, outs-still}
use Rattle.live_display.proofs.Newest.{newest-still, newest-published, none-published}

-- a job stays out over an event that isn't its landing, and over operations
abbrev pub Stays : Type 0
Stays = (h : History) (e : Event) (job : Job) → is_landing job.number e ≡ false → IsOutstanding h job → IsOutstanding (appended h (e ∷ [])) job

abbrev pub StaysOver : Type 0
StaysOver = (h : History) (ops : List Operation) (job : Job) → IsOutstanding h job → IsOutstanding (appended h (map Did ops)) job

pub some-more : {X : Type 0} (P Q : X → Type 0) (o : Option X) → ((x : X) → P x → Q x) → IfSome o P → IfSome o Q
some-more P Q None more it = it
some-more P Q (Some x) more it = more x it

-- an owner whose display went on by an event that leaves its jobs
owned-event : (o : Owner) (e : Event) (h : History) → h ≡ appended o.display (e ∷ []) → Stays → (happens (state_of o.display) e).jobs ≡ (state_of o.display).jobs
    → ((job : Job) → is_landing job.number e ≡ false) → AreOut o.display o.crew.out → AreOut h o.crew.out
owned-event o e h is stays same other outs =
    outs-still o.display h o.crew.out
    (ap (λ h. (state_of h).jobs) is ∙ (ap (λ (s : State). s.jobs) (state_of-one_more o.display e) ∙ same))
    (λ job out. subst (λ h. IsOutstanding h job) (sym is) (stays o.display e job (other job) out)) outs

pub owned-line : Stays → (o : Owner) (n : ℕ) (h : History) → h ≡ appended o.display (Line n ∷ []) → IsOwned o → HasTeam h o.crew.out o.crew.workers o.writer
owned-line stays o n h is owned =
    record {
      some_worker = owned.some_worker;
      few = owned.few;
      jobs = owned-event o (Line n) h is stays refl (λ job. refl) owned.jobs;
      shown = some-more (λ w. IsNewest w.newest o.display) (λ w. IsNewest w.newest h) o.writer (λ w it. newest-still w.newest o.display h (Line n ∷ []) is refl it) owned.shown;
    }

pub owned-same : (o : Owner) (h : History) → h ≡ o.display → IsOwned o → HasTeam h o.crew.out o.crew.workers o.writer
owned-same o h is owned = subst (λ h. HasTeam h o.crew.out o.crew.workers o.writer) (sym is) owned

dids-jobs : (s : State) (ops : List Operation) → (replayed s (map Did ops)).jobs ≡ s.jobs
dids-jobs s [] = ap (λ (s : State). s.jobs) (replayed-none s)
dids-jobs s (op ∷ ops) = ap (λ (s : State). s.jobs) (replayed-cons s (Did op) (map Did ops)) ∙ dids-jobs (happens s (Did op)) ops

pub owned-did : StaysOver → (o : Owner) (ops : List Operation) (h : History) → h ≡ appended o.display (map Did ops) → IsOwned o → HasTeam h o.crew.out o.crew.workers o.writer
owned-did stays o ops h is owned =
    record {
      some_worker = owned.some_worker;
      few = owned.few;
      jobs = outs-still o.display h o.crew.out
          (ap (λ h. (state_of h).jobs) is ∙ (ap (λ (s : State). s.jobs) (state_of-appended o.display (map Did ops)) ∙ dids-jobs (state_of o.display) ops))
          (λ job out. subst (λ h. IsOutstanding h job) (sym is) (stays o.display ops job out)) owned.jobs;
      shown = some-more (λ w. IsNewest w.newest o.display) (λ w. IsNewest w.newest h) o.writer (λ w it. newest-still w.newest o.display h (map Did ops) is (none-published ops) it) owned.shown;
    }

pub owned-published : Stays → (o : Owner) (last : Bool) (h : History) (writer : Option Known) → h ≡ appended o.display (Published last ∷ []) → last ≡ false
    → IfSome writer (λ w. w.newest ≡ h) → IsOwned o → HasTeam h o.crew.out o.crew.workers writer
owned-published stays o last h writer is goes_on shown owned =
    record {
      some_worker = owned.some_worker;
      few = owned.few;
      jobs = owned-event o (Published last) h is stays refl (λ job. refl) owned.jobs;
      shown = some-more (λ w. w.newest ≡ h) (λ w. IsNewest w.newest h) writer
          (λ w it. subst (λ v. IsNewest v h) (sym it) (newest-published h o.display (is ∙ ap (λ last. appended o.display (Published last ∷ [])) goes_on))) shown;
    }

-- ---- by the results of calls

pub noted : {E : Type 0} → Stays → (o : Owner) (n : ℕ) (h : History) (r : Result (Unit {0}) E)
    → OnOk r (h ≡ appended o.display (Line n ∷ [])) → OnErr r (h ≡ o.display) → IsOwned o → HasTeam h o.crew.out o.crew.workers o.writer
noted stays o n h (Ok done) is same owned = owned-line stays o n h is owned
noted stays o n h (Err error) is same owned = owned-same o h same owned

pub applied : {E : Type 0} → StaysOver → (o : Owner) (ops : List Operation) (h : History) (r : Result (Unit {0}) E)
    → OnOk r (h ≡ appended o.display (map Did ops)) → OnErr r (h ≡ o.display) → IsOwned o → HasTeam h o.crew.out o.crew.workers o.writer
applied stays o ops h (Ok done) is same owned = owned-did stays o ops h is owned
applied stays o ops h (Err error) is same owned = owned-same o h same owned

pub shown : {E : Type 0} → Stays → (o : Owner) (last : Bool) (h : History) (version : Version) (writer : Option Known) (r : Result (Unit {0}) E)
    → h ≡ appended o.display (Published last ∷ []) → version ≡ h → OnOk r (IfSome writer (λ w. w.newest ≡ version)) → IsOwned o
    → OnOk r (last ≡ false → HasTeam h o.crew.out o.crew.workers writer)
shown stays o last h version writer (Ok done) is same new owned =
    λ goes_on. owned-published stays o last h writer is goes_on (subst (λ v. IfSome writer (λ w. w.newest ≡ v)) same new) owned
shown stays o last h version writer (Err error) is same new owned = tt
