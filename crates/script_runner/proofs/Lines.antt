-- A run goes on over the lines of its script.
use Rattle.std.proofs.Common.{◌≡◌, ℕ, zero, suc, inl, inr, Bool, true, false, List, [], ◌∷◌, ◌++◌, length, drop, Some, None, refl, sym, ap, ◌∙◌, subst, append_assoc, arith, add-one, ◌+◌, ◌<◌}
use Rattle.std.specs.Prelude.{◌||◌, slice_get}
use Rattle.std.specs.Option.{option_map}
use Rattle.std.specs.List.{list_any}
use Rattle.std.proofs.lemmas.List.{append-nil}
use Rattle.std.proofs.lemmas.List.Folds.{list_any-append}
use Rattle.cell_units.specs.Operation.{Operation}
use Rattle.display_map.specs.Events.{Event}
use Rattle.display_map.specs.Events.{Line, Did, Published}
use Rattle.display_map.specs.Replay.{History, state_of, present_of, appended}
use Rattle.edit_script.specs.Commands.{Command}
use Rattle.edit_script.specs.Verdict.{Accepted, ops_of}
use Rattle.script_runner.specs.Entries.{Entry, judged}
use Rattle.script_runner.specs.Legal.{IsLegalSoFar, IsOrderlySoFar, IsChanging, IsChanged, is_line, is_end, lines_in, next_entry, next_verdict, is_landed, needs_settled}
use Rattle.script_runner.specs.Outside.{SinkState, Takes, TakesFront}
use Rattle.script_runner.specs.declared.tally.Tally.{Tally}
use Rattle.script_runner.specs.Output.{answered, answer, printed, refusals_in, tally_of}
use Rattle.script_runner.specs.inside.Counting.{counted}
use Rattle.script_runner.specs.Course.{Course, IsStopped}
use Rattle.script_runner.specs.Going.{IsFree, at, IsGoing, MayHandle, changed}
use Rattle.script_runner.proofs.Snoc.{quiet-append, answered-snoc, tally-snoc, lines-append, last-snoc, any-snoc}
use Rattle.script_runner.proofs.LastLine.{dids, same-end, end-not-empty, begun-more, dids-more}
use Rattle.script_runner.proofs.Next.{legal-snoc, next-line-event, still-unsettled}
use Rattle.script_runner.proofs.Orderly.{dids-orderly, dids-quiet, line-free, published-free, published-orderly}
use Rattle.script_runner.proofs.Unsettled.{is-settled, lands-first}
use Rattle.script_runner.proofs.Sends.{none-wait}
use Rattle.script_runner.proofs.Fronts.{takes-more, takes-none, takes-same, front-all, front-behind}
use Rattle.script_runner.proofs.GoingOn.{stopped-at}

some-same : {X : Type 0} (x y : X) → Some x ≡ Some y → x ≡ y
some-same x y e = cc

accepted-same' : (a b : Command) → Accepted a ≡ Accepted b → a ≡ b
accepted-same' a b e = cc

from-left : {X : Type 0} (xs : List X) (k : ℕ) (x : X) (left : List X) → drop k xs ≡ x ∷ left
    → (slice_get xs k ≡ Some x) × (drop (suc k) xs ≡ left)
from-left [] zero x left e = cc
from-left [] (suc k) x left e = cc
from-left (y ∷ xs) zero x left e = let head : y ≡ x = cc in let tail : xs ≡ left = cc in (ap Some head, tail)
from-left (y ∷ xs) (suc k) x left e = from-left xs k x left e

pub none-left : {X : Type 0} (xs : List X) (k : ℕ) → drop k xs ≡ [] → slice_get xs k ≡ None
none-left [] zero e = refl
none-left [] (suc k) e = refl
none-left (y ∷ xs) zero e = cc
none-left (y ∷ xs) (suc k) e = none-left xs k e

-- the handling of the next entry
module _ (course : Course) (number : ℕ) (entry : Entry) (left : List (ℕ × Entry)) (tally : Tally) (h : History) (sink : SinkState)
    (going : IsGoing course ((number, entry) ∷ left) tally (at h sink)) where
  pub it-is-next : next_entry course.entries h.events ≡ Some (number, entry)
  it-is-next = (from-left course.entries (lines_in h.events) (number, entry) left going.lines).0

  pub its-verdict : next_verdict h.opening course.entries h.events ≡ Some (judged (present_of h) entry)
  its-verdict = ap (option_map (λ l. judged (present_of h) l.1)) it-is-next

  pub its-answer : answered h.opening course.entries (h.events ++ Line number ∷ [])
      ≡ answered h.opening course.entries h.events ++ printed (answer h.opening course.entries h.events (Some (judged (present_of h) entry)))
  its-answer =
      answered-snoc h.opening course.entries h.events (Line number)
      ∙ ap (λ v. answered h.opening course.entries h.events ++ printed (answer h.opening course.entries h.events v)) its-verdict

  its-tally : (lines : List (List ℕ)) → answer h.opening course.entries h.events (Some (judged (present_of h) entry)) ≡ lines
      → tally_of h.opening course.entries (h.events ++ Line number ∷ []) ≡ counted tally (refusals_in (Some (judged (present_of h) entry))) (length lines)
  its-tally lines is =
      let next = next_verdict h.opening course.entries h.events in
      tally-snoc h.opening course.entries h.events (Line number) (tally.handled + 1) (tally.refused + refusals_in (Some (judged (present_of h) entry)))
      (tally.answers + length lines)
      (ap (λ (t : Tally). t.handled + 1) going.tallied)
      (ap (λ (t : Tally). t.refused + refusals_in next) going.tallied ∙ ap (λ v. tally.refused + refusals_in v) its-verdict)
      (ap (λ (t : Tally). t.answers + length (answer h.opening course.entries h.events next)) going.tallied
      ∙ (ap (λ v. tally.answers + length (answer h.opening course.entries h.events v)) its-verdict ∙ ap (λ l. tally.answers + length l) is))

  its-lines : drop (lines_in (h.events ++ Line number ∷ [])) course.entries ≡ left
  its-lines =
      ap (λ k. drop k course.entries) (lines-append h.events (Line number ∷ []) ∙ add-one (lines_in h.events))
      ∙ (from-left course.entries (lines_in h.events) (number, entry) left going.lines).1

  pub its-legal : MayHandle course.workers h (judged (present_of h) entry)
      → IsLegalSoFar h.opening course.entries course.workers (h.events ++ Line number ∷ [])
  its-legal may =
      legal-snoc h.opening course.entries course.workers h.events (Line number) going.legal
      (next-line-event h.opening course.entries course.workers h.events number going.free (ap (option_map (λ l. l.0)) it-is-next)
      (λ wanted. is-settled h (needs_settled (Some (judged (present_of h) entry))) (sym (ap needs_settled its-verdict) ∙ wanted) may.prepared)
      (elim may.busy [
        | inl none ↦ inl (none-wait (state_of h) none)
        | inr full ↦ inr full
      ]))
      (λ n it calm. lands-first h (needs_settled (Some (judged (present_of h) entry))) (sym (ap needs_settled its-verdict) ∙ calm) may.prepared)

  -- while its answer is written
  pub stopped-line : MayHandle course.workers h (judged (present_of h) entry) → (lines : List (List ℕ)) (then : SinkState)
      → answer h.opening course.entries h.events (Some (judged (present_of h) entry)) ≡ lines → TakesFront (printed lines) sink then
      → IsStopped None course (h.events ++ Line number ∷ []) then []
  stopped-line may lines then is front =
      stopped-at course (appended h (Line number ∷ [])) then going.opening (end-not-empty h.events (Line number) []) (its-legal may)
      (front-behind course.sink sink then (answered h.opening course.entries h.events) (printed lines) []
      (answered h.opening course.entries (h.events ++ Line number ∷ [])) going.written front
      (append-nil (answered h.opening course.entries h.events ++ printed lines)
      ∙ (ap (λ l. answered h.opening course.entries h.events ++ printed l) (sym is) ∙ sym its-answer)))

  -- behind a line that does no operation
  pub going-line : MayHandle course.workers h (judged (present_of h) entry) → (lines : List (List ℕ)) (then : SinkState)
      → answer h.opening course.entries h.events (Some (judged (present_of h) entry)) ≡ lines → Takes (printed lines) sink then
      → ((command : Command) → judged (present_of h) entry ≡ Accepted command → ops_of command ≡ [])
      → IsGoing course left (counted tally (refusals_in (Some (judged (present_of h) entry))) (length lines)) (at (appended h (Line number ∷ [])) then)
  going-line may lines then is written idle =
      record {
        opening = going.opening;
        legal = its-legal may;
        free = line-free h.opening course.entries h.events number going.free idle-verdict;
        lines = its-lines;
        written = takes-same course.sink then _ _
            (ap (λ l. answered h.opening course.entries h.events ++ printed l) (sym is) ∙ sym its-answer)
            (takes-more course.sink sink then (answered h.opening course.entries h.events) (printed lines) going.written written);
        tallied = its-tally lines is;
      }
    where
      idle-verdict : (command : Command) → next_verdict h.opening course.entries h.events ≡ Some (Accepted command) → ops_of command ≡ []
      idle-verdict command e = idle command (some-same (judged (present_of h) entry) (Accepted command) (sym its-verdict ∙ e))

-- a history goes on without a line
still-legal : (text : List ℕ) (entries : List (ℕ × Entry)) (workers : ℕ) (h more : List Event) → list_any is_line more ≡ false
    → IsLegalSoFar text entries workers h → IsOrderlySoFar text entries workers (h ++ more) → IsLegalSoFar text entries workers (h ++ more)
still-legal text entries workers h more quiet legal orderly =
    record { orderly = orderly; unsettled = still-unsettled text entries h more quiet legal.unsettled }

-- behind the operations of a command and its version
module _ (text : List ℕ) (entries : List (ℕ × Entry)) (workers : ℕ) (past : List Event) (number : ℕ) (command : Command)
    (accepted : next_verdict text entries past ≡ Some (Accepted command)) (open_before : list_any is_end past ≡ false) where
  dids-legal : (done rest : List Operation) → ops_of command ≡ done ++ rest
      → IsLegalSoFar text entries workers (past ++ (Line number ∷ dids done))
      → IsLegalSoFar text entries workers ((past ++ (Line number ∷ dids done)) ++ dids rest)
  dids-legal done rest operations legal =
      still-legal text entries workers (past ++ (Line number ∷ dids done)) (dids rest) (dids-quiet rest) legal
      (dids-orderly text entries workers past number command accepted open_before done rest operations legal.orderly)

  published-legal : (op : Operation) (ops : List Operation) → ops_of command ≡ (op ∷ ops)
      → IsLegalSoFar text entries workers (past ++ (Line number ∷ dids (op ∷ ops)))
      → IsLegalSoFar text entries workers ((past ++ (Line number ∷ dids (op ∷ ops))) ++ Published false ∷ [])
  published-legal op ops operations legal =
      still-legal text entries workers (past ++ (Line number ∷ dids (op ∷ ops))) (Published false ∷ []) refl legal
      (published-orderly text entries workers past number command accepted open_before op ops operations legal.orderly)

changed-quiet : (ops : List Operation) → list_any is_line (changed ops) ≡ false
changed-quiet [] = refl
changed-quiet (op ∷ ops) = list_any-append is_line (dids ops) (Published false ∷ []) ∙ (ap (λ b. b || false) (dids-quiet ops))

-- a change that is accepted: its answer has no line
module _ (course : Course) (number : ℕ) (entry : Entry) (left : List (ℕ × Entry)) (tally : Tally) (h : History) (sink : SinkState)
    (going : IsGoing course ((number, entry) ∷ left) tally (at h sink)) (may : MayHandle course.workers h (judged (present_of h) entry)) (command : Command)
    (accepted : judged (present_of h) entry ≡ Accepted command)
    (silent : answer h.opening course.entries h.events (Some (Accepted command)) ≡ []) where
  next-accepted : next_verdict h.opening course.entries h.events ≡ Some (Accepted command)
  next-accepted = its-verdict course number entry left tally h sink going ∙ ap Some accepted

  no-answer : answer h.opening course.entries h.events (Some (judged (present_of h) entry)) ≡ []
  no-answer = ap (λ v. answer h.opening course.entries h.events (Some v)) accepted ∙ silent

  idle-line : IsGoing course left (counted tally (refusals_in (Some (judged (present_of h) entry))) 0) (at (appended h (Line number ∷ [])) sink)
      → IsGoing course left (counted tally 0 0) (at (appended h (Line number ∷ [])) sink)
  idle-line it =
      let P : ℕ → Type 0 = λ n. IsGoing course left (counted tally n 0) (at (appended h (Line number ∷ [])) sink) in
      subst P (ap (λ v. refusals_in (Some v)) accepted) it

  at-line : IsLegalSoFar h.opening course.entries course.workers (h.events ++ Line number ∷ [])
  at-line = its-legal course number entry left tally h sink going may

  all-legal : IsLegalSoFar h.opening course.entries course.workers ((h.events ++ Line number ∷ []) ++ dids (ops_of command))
  all-legal = dids-legal h.opening course.entries course.workers h.events number command next-accepted going.free.goes_on [] (ops_of command) refl at-line

  -- its version isn't published yet
  pub stopped-dids : IsStopped None course ((h.events ++ Line number ∷ []) ++ dids (ops_of command)) sink []
  stopped-dids =
      let quiet = quiet-append h.opening course.entries (h.events ++ Line number ∷ []) (dids (ops_of command)) (dids-quiet (ops_of command)) in
      let here = its-answer course number entry left tally h sink going in
      let whole : List ℕ = answered h.opening course.entries h.events in
      stopped-at course (appended (appended h (Line number ∷ [])) (dids (ops_of command))) sink going.opening
      (begun-more (h.events ++ Line number ∷ []) (dids (ops_of command)) (end-not-empty h.events (Line number) [])) all-legal
      (front-all course.sink sink whole [] (answered h.opening course.entries ((h.events ++ Line number ∷ []) ++ dids (ops_of command))) going.written
      (sym (quiet.answered ∙ (here ∙ ap (λ l. whole ++ printed l) no-answer))))

  -- ... and now it is, where there was an operation
  pub going-changed : IsGoing course left (counted tally 0 0) (at (appended (appended h (Line number ∷ [])) (changed (ops_of command))) sink)
  going-changed = by-operations (ops_of command) refl
    where
      by-operations : (ops : List Operation) → ops_of command ≡ ops
          → IsGoing course left (counted tally 0 0) (at (appended (appended h (Line number ∷ [])) (changed ops)) sink)
      by-operations [] e =
          let P : List Event → Type 0 = λ l. IsGoing course left (counted tally 0 0) (at (record { opening = h.opening; events = l }) sink) in
          subst P (sym (append-nil (h.events ++ Line number ∷ [])))
          (idle-line (going-line course number entry left tally h sink going may [] sink no-answer (takes-none sink)
          (λ others it. ap ops_of (accepted-same' others command (sym it ∙ accepted)) ∙ e)))
      by-operations (op ∷ ops) e =
          let text : List ℕ = h.opening in
          let entries : List (ℕ × Entry) = course.entries in
          let workers : ℕ = course.workers in
          let past : List Event = h.events in
          let P : List Event → Type 0 = λ l. IsLegalSoFar text entries workers l in
          let F : List Event → Type 0 = λ l. IsFree text entries l in
          let whole : (past ++ (Line number ∷ dids (op ∷ ops))) ++ Published false ∷ [] ≡ (past ++ Line number ∷ []) ++ changed (op ∷ ops) =
          ap (λ l. l ++ Published false ∷ []) (sym (append_assoc past (Line number ∷ []) (dids (op ∷ ops))))
          ∙ append_assoc (past ++ Line number ∷ []) (dids (op ∷ ops)) (Published false ∷ []) in
          let done = subst P (ap (λ l. (past ++ Line number ∷ []) ++ dids l) e ∙ append_assoc past (Line number ∷ []) (dids (op ∷ ops))) all-legal in
          let legal = subst P whole (published-legal text entries workers past number command next-accepted going.free.goes_on op ops e done) in
          let free = subst F whole (published-free text entries workers past number command next-accepted going.free.goes_on (op ∷ ops)) in
          let quiet = quiet-append text entries (past ++ Line number ∷ []) (changed (op ∷ ops)) (changed-quiet (op ∷ ops)) in
          let here = its-answer course number entry left tally h sink going in
          let W : List ℕ → Type 0 = λ bytes. Takes bytes course.sink sink in
          record {
            opening = going.opening;
            legal = legal;
            free = free;
            lines = ap (λ k. drop k entries) quiet.lines ∙ its-lines course number entry left tally h sink going;
            written = subst W (sym (quiet.answered ∙ (here ∙ (ap (λ l. answered text entries past ++ printed l) no-answer ∙ append-nil (answered text entries past))))) going.written;
            tallied = quiet.tallied ∙ (its-tally course number entry left tally h sink going [] no-answer ∙ ap (λ v. counted tally (refusals_in (Some v)) 0) accepted);
          }

-- where the journal grew by the operations of a change, there was one
pub changed-more : (old mid new : History) (ops : List Operation) (room left limit : ℕ) → mid ≡ appended old (dids ops) → new ≡ appended mid (Published false ∷ [])
    → room + length old.events ≡ limit → left + length mid.events ≡ limit → left < room → new ≡ appended old (changed ops)
changed-more old mid new [] room left limit done published full rest less =
    let same : length mid.events ≡ length old.events = ap (λ h. length h.events) done ∙ ap length (append-nil old.events) in
    absurd (omega arith)
changed-more old mid new (op ∷ ops) room left limit done published full rest less =
    published
    ∙ (ap (λ h. appended h (Published false ∷ [])) done
    ∙ ap (λ l. record { opening = old.opening; events = l }) (append_assoc old.events (dids (op ∷ ops)) (Published false ∷ [])))
