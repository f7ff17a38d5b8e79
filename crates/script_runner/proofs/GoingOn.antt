-- A run goes on over events that are no lines.
use Rattle.std.proofs.Common.{◌≡◌, ℕ, ◌+◌, ◌<◌, inl, inr, Bool, true, false, List, [], ◌∷◌, ◌++◌, length, drop, Result, Ok, Err, refl, sym, ap, ◌∙◌, subst, append_assoc, arith}
use Rattle.std.specs.Prelude.{None, IfErr, ◌||◌}
use Rattle.std.specs.Result.{IsErrAnd}
use Rattle.std.specs.List.{list_any}
use Rattle.std.proofs.lemmas.List.{append-nil}
use Rattle.std.proofs.lemmas.List.Elements.{All-nil}
use Rattle.board_watch.specs.Watching.{AreRising}
use Rattle.display_map.specs.Events.{event_limit}
use Rattle.display_map.specs.Events.{Event}
use Rattle.display_map.specs.Events.{Sent, Landed, Published}
use Rattle.display_map.specs.Replay.{History, state_of, appended}
use Rattle.live_display.specs.declared.halt.Halt.{Halt}
use Rattle.live_display.specs.declared.halt.Halt.TheVariants as halts
use Rattle.live_display.specs.Beside.{Step, Sends, Lands, IsSending, IsOut, MayTake, MayTakeAll, behind, behind_all, HasGone, IsHalted}
use Rattle.script_runner.specs.declared.stop.Stop.{Stop}
use Rattle.script_runner.specs.declared.stop.Stop.TheVariants as stops
use Rattle.script_runner.specs.declared.tally.Tally.{Tally}
use Rattle.script_runner.specs.Entries.{Entry}
use Rattle.script_runner.specs.Legal.{IsLegalSoFar, is_line, is_landed, is_end}
use Rattle.script_runner.specs.Outside.{SinkState, Takes, TakesFront}
use Rattle.script_runner.specs.Output.{answered, output}
use Rattle.script_runner.specs.Course.{Course, IsStopped}
use Rattle.script_runner.specs.Stopping.{stop_of}
use Rattle.script_runner.specs.Going.{IsFree, Stage, at, IsGoing, IsCut, GoesOn}
use Rattle.script_runner.proofs.LastLine.{begun-more}
use Rattle.script_runner.proofs.Fronts.{front-all}
use Rattle.script_runner.proofs.Snoc.{quiet-append, last-snoc, any-snoc}
use Rattle.script_runner.proofs.Next.{legal-quiet, free-snoc, not-changing, next-sent, next-landed, next-published}
use Rattle.script_runner.proofs.Sends.{send-next}

or-none-false : (a : Bool) → a ≡ false → (a || false) ≡ false
or-none-false true e = e
or-none-false false e = refl

-- what is written where no watcher saw anything
pub output-unwatched : (text : List ℕ) (entries : List (ℕ × Entry)) (events : List Event) → output None text entries events [] ≡ answered text entries events
output-unwatched text entries events = append-nil (answered text entries events)

-- the course on the opening text of a history
abbrev pub on : List ℕ → Course → Course
on text course = record { text = text; entries = course.entries; workers = course.workers; watchers = course.watchers; sink = course.sink }

-- a run that has begun, legally so far, and has written a front of its answers
pub stopped-at : (course : Course) (h : History) (sink : SinkState) → h.opening ≡ course.text → (h.events ≡ [] → ⊥)
    → IsLegalSoFar h.opening course.entries course.workers h.events
    → TakesFront (answered h.opening course.entries h.events) course.sink sink → IsStopped None course h.events sink []
stopped-at course h sink opening begun legal front =
    let P : List ℕ → Type 0 = λ text. IsStopped None (on text course) h.events sink [] in
    let F : List ℕ → Type 0 = λ bytes. TakesFront bytes course.sink sink in
    subst P opening (record {
      begun = begun;
      legal = legal;
      written = subst F (sym (output-unwatched h.opening course.entries h.events)) front;
      watchers = record { few = omega arith; each = All-nil (AreRising 0) };
    })

-- a run that goes on may stop
pub going-stopped : (course : Course) (left : List (ℕ × Entry)) (tally : Tally) (s : Stage) → IsGoing course left tally s
    → IsStopped None course s.history.events s.sink []
going-stopped course left tally s going =
    stopped-at course s.history s.sink going.opening going.free.begun going.legal
    (front-all course.sink s.sink (answered s.history.opening course.entries s.history.events) []
    (answered s.history.opening course.entries s.history.events) going.written
    (append-nil (answered s.history.opening course.entries s.history.events)))

-- ... where its journal has no room for the next step
pub going-full : (course : Course) (left : List (ℕ × Entry)) (tally : Tally) (s : Stage) → IsGoing course left tally s
    → event_limit < length s.history.events + 3 → IsCut None course s stops.JournalFull
going-full course left tally s going full = record { opening = going.opening; stopped = going-stopped course left tally s going; why = omega arith }

-- ... or where there is no memory
pub going-short : (course : Course) (left : List (ℕ × Entry)) (tally : Tally) (s : Stage) → IsGoing course left tally s
    → length s.history.events < event_limit → IsCut None course s stops.Memory
going-short course left tally s going room =
    record { opening = going.opening; stopped = going-stopped course left tally s going; why = (room, going.written.passed) }

pub going-quiet : (course : Course) (left : List (ℕ × Entry)) (tally : Tally) (s : Stage) (more : List Event)
    → IsGoing course left tally s → list_any is_line more ≡ false
    → IsLegalSoFar s.history.opening course.entries course.workers (s.history.events ++ more) → IsFree s.history.opening course.entries (s.history.events ++ more)
    → IsGoing course left tally (at (appended s.history more) s.sink)
going-quiet course left tally s more going no_line legal free =
    let h : History = s.history in
    let quiet = quiet-append h.opening course.entries h.events more no_line in
    let P : List ℕ → Type 0 = λ bytes. Takes bytes course.sink s.sink in
    record {
      opening = going.opening;
      legal = legal;
      free = free;
      lines = ap (λ k. drop k course.entries) quiet.lines ∙ going.lines;
      written = subst P (sym quiet.answered) going.written;
      tallied = quiet.tallied ∙ going.tallied;
    }

pub stopped-quiet : (course : Course) (left : List (ℕ × Entry)) (tally : Tally) (s : Stage) (more : List Event)
    → IsGoing course left tally s → list_any is_line more ≡ false
    → IsLegalSoFar s.history.opening course.entries course.workers (s.history.events ++ more)
    → IsStopped None course (s.history.events ++ more) s.sink []
stopped-quiet course left tally s more going no_line legal =
    let h : History = s.history in
    let quiet = quiet-append h.opening course.entries h.events more no_line in
    stopped-at course (appended h more) s.sink going.opening (begun-more h.events more going.free.begun) legal
    (front-all course.sink s.sink (answered h.opening course.entries h.events) [] (answered h.opening course.entries (h.events ++ more)) going.written
    (append-nil (answered h.opening course.entries h.events) ∙ sym quiet.answered))

module _ (course : Course) (left : List (ℕ × Entry)) (tally : Tally) (sink : SinkState) where
  -- a run was sent
  going-sent : (h : History) (job first count : ℕ) → IsSending course.workers (state_of h) job first count
      → IsGoing course left tally (at h sink) → IsGoing course left tally (at (appended h (Sent job first count ∷ [])) sink)
  going-sent h job first count sending going =
      going-quiet course left tally (at h sink) (Sent job first count ∷ []) going refl
      (legal-quiet h.opening course.entries course.workers h.events (Sent job first count) going.legal
      (next-sent h.opening course.entries course.workers h.events job first count going.free (send-next course.workers (state_of h) job first count sending)) refl)
      (free-snoc h.opening course.entries h.events (Sent job first count) refl refl refl going.free.goes_on)

  landed-legal : (h : History) (job : ℕ) → IsOut (state_of h) job → IsGoing course left tally (at h sink)
      → IsLegalSoFar h.opening course.entries course.workers (h.events ++ Landed job ∷ [])
  landed-legal h job out going =
      legal-quiet h.opening course.entries course.workers h.events (Landed job) going.legal
      (next-landed h.opening course.entries course.workers h.events job going.free out) refl

  -- a job landed, and its version was published
  going-landed : (h : History) (job : ℕ) → IsOut (state_of h) job
      → IsGoing course left tally (at h sink) → IsGoing course left tally (at (appended h (Landed job ∷ (Published false ∷ []))) sink)
  going-landed h job out going =
      let text : List ℕ = h.opening in
      let entries : List (ℕ × Entry) = course.entries in
      let landed : List Event = h.events ++ Landed job ∷ [] in
      let goes_on : list_any is_end landed ≡ false = any-snoc is_end h.events (Landed job) ∙ or-none-false (list_any is_end h.events) going.free.goes_on in
      let legal : IsLegalSoFar text entries course.workers (landed ++ Published false ∷ []) =
      legal-quiet text entries course.workers landed (Published false) (landed-legal h job out going)
      (next-published text entries course.workers landed (λ done rest op c. not-changing text entries h.events (Landed job) refl done (op ∷ rest) c)
      (inr (ap is_landed (last-snoc None h.events (Landed job)))) goes_on) refl in
      let free : IsFree text entries (landed ++ Published false ∷ []) = free-snoc text entries landed (Published false) refl refl refl goes_on in
      let e : landed ++ Published false ∷ [] ≡ h.events ++ (Landed job ∷ (Published false ∷ [])) = append_assoc h.events (Landed job ∷ []) (Published false ∷ []) in
      let L : List Event → Type 0 = λ l. IsLegalSoFar text entries course.workers l in
      let F : List Event → Type 0 = λ l. IsFree text entries l in
      going-quiet course left tally (at h sink) (Landed job ∷ (Published false ∷ [])) going refl (subst L e legal) (subst F e free)

  going-step : (h : History) (step : Step) → MayTake course.workers (state_of h) step
      → IsGoing course left tally (at h sink) → IsGoing course left tally (at (behind h step) sink)
  going-step h (Sends job first count) may going = going-sent h job first count may going
  going-step h (Lands job) may going = going-landed h job may going

  going-steps : (h : History) (steps : List Step) → MayTakeAll course.workers h steps
      → IsGoing course left tally (at h sink) → IsGoing course left tally (at (behind_all h steps) sink)
  going-steps h [] may going = going
  going-steps h (step ∷ steps) may going = going-steps (behind h step) steps may.1 (going-step h step may.0 going)

  going-gone : (old new : History) → HasGone course.workers old new → IsGoing course left tally (at old sink) → IsGoing course left tally (at new sink)
  going-gone old new gone going =
      let P : History → Type 0 = λ h. IsGoing course left tally (at h sink) in
      subst P (sym gone.display) (going-steps old gone.steps gone.may going)

  cut-halted : (old new : History) (halt : Halt) → IsHalted course.workers old new halt
      → IsGoing course left tally (at old sink) → IsCut None course (at new sink) (stop_of halt)
  cut-halted old new halts.Full halted going = going-full course left tally (at new sink) (going-gone old new halted.0 going) halted.1
  cut-halted old new halts.Memory halted going =
      let between : History = halted.0.between in
      let before = going-gone old between halted.0.gone going in
      let P : History → Type 0 = λ h. IsCut None course (at h sink) stops.Memory in
      let R : History → Type 0 = λ h. length h.events < event_limit in
      elim halted.0.last [
        | inl e ↦ subst P (sym e) (going-short course left tally (at between sink) before (subst R e halted.1))
        | inr it ↦ subst P (sym it.2) (record {
          opening = before.opening;
          stopped = stopped-quiet course left tally (at between sink) (Landed it.0 ∷ []) before refl (landed-legal between it.0 it.1 before);
          why = (subst R it.2 halted.1, before.written.passed);
        })
      ]

-- where an owner of so many workers went on, a run goes on
pub goes-on : (workers : ℕ) (old new : History) → HasGone workers old new
    → (course : Course) (left : List (ℕ × Entry)) (tally : Tally) (sink : SinkState) → course.workers ≡ workers
    → IsGoing course left tally (at old sink) → IsGoing course left tally (at new sink)
goes-on workers old new gone course left tally sink e going =
    let P : ℕ → Type 0 = λ n. HasGone n old new in going-gone course left tally sink old new (subst P (sym e) gone) going

-- where it halted, the run stopped
pub halts-cut : (workers : ℕ) (old new : History) (halt : Halt) → IsHalted workers old new halt
    → (course : Course) (left : List (ℕ × Entry)) (tally : Tally) (sink : SinkState) → course.workers ≡ workers
    → IsGoing course left tally (at old sink) → IsCut None course (at new sink) (stop_of halt)
halts-cut workers old new halt halted course left tally sink e going =
    let P : ℕ → Type 0 = λ n. IsHalted n old new halt in cut-halted course left tally sink old new halt (subst P (sym e) halted) going

pub goes-err : (workers : ℕ) (old new : History) (r : Result (Unit {0}) Stop) (stop : Stop) → IsErrAnd r (λ e. e ≡ stop)
    → ((course : Course) (left : List (ℕ × Entry)) (tally : Tally) (sink : SinkState) → course.workers ≡ workers
    → IsGoing course left tally (at old sink) → IsCut None course (at new sink) stop)
    → GoesOn workers old new r
goes-err workers old new (Ok done) stop e it = absurd e
goes-err workers old new (Err other) stop e it =
    λ course left tally sink same going.
    (let P : Stop → Type 0 = λ s. IsCut None course (at new sink) s in subst P (sym e) (it course left tally sink same going))

-- where an owner went on and then room was asked for
pub goes-room : (workers : ℕ) (old new : History) (r : Result (Unit {0}) Stop) → HasGone workers old new
    → IfErr r (λ stop. (stop ≡ stops.JournalFull) × (event_limit < length new.events + 3 + 0)) → GoesOn workers old new r
goes-room workers old new (Ok done) gone full = goes-on workers old new gone
goes-room workers old new (Err stop) gone full =
    λ course left tally sink same going.
    (let P : Stop → Type 0 = λ s. IsCut None course (at new sink) s in
    subst P (sym full.0) (going-full course left tally (at new sink) (goes-on workers old new gone course left tally sink same going) (omega (arith, full.1))))
