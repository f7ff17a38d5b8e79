-- How the handling of an entry ends.
use Rattle.std.proofs.Common.{◌≡◌, ℕ, ◌+◌, ◌<◌, ◌≤◌, inl, inr, Bool, false, List, [], ◌∷◌, ◌++◌, length, take, drop, Option, Some, None, Result, Ok, Err, refl, sym, ap, ◌∙◌, subst, arith, length-append, if◌then◌else◌}
use Rattle.std.specs.Result.{IsErrAnd}
use Rattle.std.proofs.lemmas.Bool.{le-ltb}
use Rattle.std.specs.List.{enumerate_from}
use Rattle.std.proofs.lemmas.List.{append-nil, length-drop, length-map, length-take}
use Rattle.std.proofs.lemmas.List.FromFn.{length-enumerate_from}
use Rattle.plain_rows.specs.Rows.{Row, rows_of}
use Rattle.cell_units.specs.declared.fault.Refusal.{Refusal}
use Rattle.cell_units.specs.Record.{Record}
use Rattle.cell_units.specs.Operation.{Operation}
use Rattle.display_sheet.specs.declared.change.Change.{Change}
use Rattle.display_map.specs.Events.{Line, Did, Published}
use Rattle.display_sheet.specs.Changes.{ops_of, change_refusal}
use Rattle.display_map.specs.Events.{event_limit}
use Rattle.display_map.specs.Replay.{History, replayed, state_of, present_of, versions_of, appended}
use Rattle.edit_script.specs.declared.asked.Form.{Form}
use Rattle.edit_script.specs.declared.asked.CaretQuery.{CaretQuery}
use Rattle.edit_script.specs.declared.asked.Query.{Query}
use Rattle.edit_script.specs.declared.asked.Query.TheVariants as queries
use Rattle.edit_script.specs.Answers.{HasAnswer, IsUnanswered}
use Rattle.edit_script.specs.declared.asked.Asked.{Asked}
use Rattle.edit_script.specs.declared.asked.Asked.TheVariants as asks
use Rattle.cell_units.specs.declared.fault.Fault.{Fault}
use Rattle.cell_units.specs.declared.fault.Fault.TheVariants as faults
use Rattle.edit_script.specs.Commands.{Command, Ask, AskCaret, Settle, command_of, meaning}
use Rattle.edit_script.specs.Printed.{query_lines, refusal_text, row_line, rows_from}
use Rattle.edit_script.specs.declared.blank.TheConstants.{LINE_LIMIT}
use Rattle.edit_script.specs.Verdict.{Verdict, Refused, Accepted, verdict, refused_or, command_refusal, query_refusal}
use Rattle.edit_script.specs.Verdict as verdicts
use Rattle.edit_script.proofs.Verdicts.{verdict-read, verdict-unread, change-refusal, change-ops}
use Rattle.script_runner.specs.declared.stop.Stop.{Stop}
use Rattle.script_runner.specs.declared.stop.Stop.TheVariants as stops
use Rattle.script_runner.specs.declared.tally.Outcome.{Outcome}
use Rattle.script_runner.specs.declared.tally.Outcome.TheVariants as outcomes
use Rattle.script_runner.specs.declared.tally.Tally.{Tally}
use Rattle.script_runner.specs.Entries.{Entry, Bytes, judged, asked_by, asked_by_command}
use Rattle.script_runner.specs.Legal.{next_entry, history_of}
use Rattle.script_runner.specs.Outside.{SinkState, Takes}
use Rattle.script_runner.specs.Output.{answer, command_lines, printed, refusals_in}
use Rattle.script_runner.specs.inside.Counting.{counted}
use Rattle.script_runner.specs.Course.{Course, asked_by_next}
use Rattle.script_runner.specs.Writing.{IsUnwritten}
use Rattle.script_runner.specs.Going.{Stage, at, IsGoing, IsCut, MayHandle, IsWhy, HasRoomAhead, IsUnrecorded, IsReadOn, IsUnreadOn, HasChanged, IsWithinChange, IsHandled, Handles, HandlesUnread, HandlesLine, HandlesChange, IsPrepared, IsPreparedFor, changed}
use Rattle.script_runner.proofs.LastLine.{dids}
use Rattle.script_runner.proofs.Fronts.{front-none, risen-behind}
use Rattle.script_runner.proofs.Sends.{state-append}
use Rattle.script_runner.proofs.GoingOn.{going-stopped, going-short}
use Rattle.script_runner.proofs.Lines.{it-is-next, stopped-line, going-line, stopped-dids, going-changed}

pub handled-err : (course : Course) (left : List (ℕ × Entry)) (tally : Tally) (s : Stage) (r : Result Outcome Stop) (stop : Stop)
    → IsErrAnd r (λ e. e ≡ stop) → IsCut None course s stop → IsHandled course left tally s r
handled-err course left tally s (Ok now) stop e it = absurd e
handled-err course left tally s (Err other) stop e it = let P : Stop → Type 0 = λ stop. IsCut None course s stop in subst P (sym e) it

-- the state behind a line is the one before it
pub line-state : (h : History) (number : ℕ) → state_of (appended h (Line number ∷ [])) ≡ state_of h
unfolding replayed
line-state h number = state-append h (Line number ∷ [])

-- the verdict on an entry, as a record gives it, may be taken
pub may-be : (course : Course) (workers : ℕ) (old : History) (entry : Entry) (v : Verdict) → MayHandle workers old v → course.workers ≡ workers
    → judged (present_of old) entry ≡ v → MayHandle course.workers old (judged (present_of old) entry)
may-be course workers old entry v may e is =
    let P : ℕ → Type 0 = λ n. MayHandle n old (judged (present_of old) entry) in
    let Q : Verdict → Type 0 = λ v. MayHandle workers old v in subst P (sym e) (subst Q (sym is) may)

module _ (course : Course) (number : ℕ) (entry : Entry) (left : List (ℕ × Entry)) (tally : Tally) (old : History) (sink : SinkState)
    (going : IsGoing course ((number, entry) ∷ left) tally (at old sink)) where
  -- there was no memory before the line was recorded
  pub not-begun : HasRoomAhead old → IsCut None course (at old sink) stops.Memory
  not-begun room = going-short course ((number, entry) ∷ left) tally (at old sink) going (omega arith)

  its-asked : asked_by_next (present_of (history_of course.text old.events)) (next_entry course.entries old.events) ≡ asked_by (present_of old) entry
  its-asked =
      let P : List ℕ → Type 0 = λ text. ◌≡◌ {A = ℕ} (asked_by_next (present_of (history_of text old.events)) (next_entry course.entries old.events)) (asked_by (present_of old) entry) in
      subst P going.opening (ap (asked_by_next (present_of old)) (it-is-next course number entry left tally old sink going))

  -- the line wasn't recorded
  pub not-recorded : (new : History) (stop : Stop) (operations : ℕ) → new ≡ old → IsUnrecorded (length old.events + 3 + operations) stop
      → operations ≤ asked_by (present_of old) entry → IsCut None course (at new sink) stop
  not-recorded new stop operations same why few =
      let P : History → Type 0 = λ h. IsCut None course (at h sink) stop in
      subst P (sym same) (record { opening = going.opening; stopped = going-stopped course ((number, entry) ∷ left) tally (at old sink) going; why = because stop why })
    where
      because : (stop : Stop) → IsUnrecorded (length old.events + 3 + operations) stop → IsWhy course (at old sink) stop
      because stops.Write it = absurd it
      because stops.JournalFull it = let e = its-asked in omega arith
      because stops.Memory it = (omega arith, going.written.passed)

  -- its answer wasn't written whole
  pub not-written : MayHandle course.workers old (judged (present_of old) entry) → (new : History) (behind : SinkState) (stop : Stop) (lines : List (List ℕ))
      → new ≡ appended old (Line number ∷ [])
      → answer old.opening course.entries old.events (Some (judged (present_of old) entry)) ≡ lines → IsUnwritten (printed lines) sink behind stop
      → IsCut None course (at new behind) stop
  not-written may new behind stop lines same answered why =
      let P : History → Type 0 = λ h. IsCut None course (at h behind) stop in subst P (sym same) (by-stop stop why)
    where
      few : length (old.events ++ Line number ∷ []) < event_limit
      few = let more = length-append old.events (Line number ∷ []) in let room = may.room in omega arith

      by-stop : (stop : Stop) → IsUnwritten (printed lines) sink behind stop → IsCut None course (at (appended old (Line number ∷ [])) behind) stop
      by-stop stops.Write it = record {
        opening = going.opening;
        stopped = stopped-line course number entry left tally old sink going may lines behind answered it.0;
        why = risen-behind course.sink.faults sink.faults behind.faults going.written.passed it.1;
      }
      by-stop stops.JournalFull it = absurd it
      by-stop stops.Memory it = record {
        opening = going.opening;
        stopped = stopped-line course number entry left tally old sink going may lines behind answered it.0;
        why = (few, it.1 ∙ going.written.passed);
      }

  pub refusal-answered : (refusal : Refusal) → judged (present_of old) entry ≡ Refused refusal
      → answer old.opening course.entries old.events (Some (judged (present_of old) entry)) ≡ refusal_text refusal ∷ []
  refusal-answered refusal e = ap (λ v. answer old.opening course.entries old.events (Some v)) e

  pub is-refused : MayHandle course.workers old (judged (present_of old) entry) → (new : History) (behind : SinkState) (refusal : Refusal) → new ≡ appended old (Line number ∷ [])
      → judged (present_of old) entry ≡ Refused refusal → Takes (printed (refusal_text refusal ∷ [])) sink behind
      → IsGoing course left (counted tally 1 1) (at new behind)
  is-refused may new behind refusal same e written =
      let P : History → Type 0 = λ h. IsGoing course left (counted tally 1 1) (at h behind) in
      let Q : ℕ → Type 0 = λ n. IsGoing course left (counted tally n 1) (at (appended old (Line number ∷ [])) behind) in
      subst P (sym same) (subst Q (ap (λ v. refusals_in (Some v)) e)
      (going-line course number entry left tally old sink going may (refusal_text refusal ∷ []) behind (refusal-answered refusal e) written
      (λ command other. absurd (cannot refusal command (sym e ∙ other)))))
    where
      cannot : (refusal : Refusal) (command : Command) → Refused refusal ≡ Accepted command → ⊥
      cannot refusal command e = cc

  -- a command that does no operation
  pub is-accepted : MayHandle course.workers old (judged (present_of old) entry) → (new : History) (behind : SinkState) (command : Command) (lines : List (List ℕ)) → new ≡ appended old (Line number ∷ [])
      → judged (present_of old) entry ≡ Accepted command → verdicts.ops_of command ≡ []
      → answer old.opening course.entries old.events (Some (Accepted command)) ≡ lines → Takes (printed lines) sink behind
      → IsGoing course left (counted tally 0 (length lines)) (at new behind)
  is-accepted may new behind command lines same e idle answered written =
      let P : History → Type 0 = λ h. IsGoing course left (counted tally 0 (length lines)) (at h behind) in
      let Q : ℕ → Type 0 = λ n. IsGoing course left (counted tally n (length lines)) (at (appended old (Line number ∷ [])) behind) in
      subst P (sym same) (subst Q (ap (λ v. refusals_in (Some v)) e)
      (going-line course number entry left tally old sink going may lines behind
      (ap (λ v. answer old.opening course.entries old.events (Some v)) e ∙ answered) written
      (λ other is. ap verdicts.ops_of (same-command other command (sym is ∙ e)) ∙ idle)))
    where
      same-command : (a b : Command) → Accepted a ≡ Accepted b → a ≡ b
      same-command a b e = cc

  -- the line of a change
  module _ (may : MayHandle course.workers old (judged (present_of old) entry)) (mid : History) (recorded : mid ≡ appended old (Line number ∷ [])) (change : Change)
      (asked : judged (present_of old) entry ≡ refused_or (meaning (asks.Change change)) (change_refusal (present_of old) change)) where
    same-present : present_of mid ≡ present_of old
    same-present = ap present_of recorded ∙ ap (λ s. s.present) (line-state old number)

    silent : answer old.opening course.entries old.events (Some (Accepted (meaning (asks.Change change)))) ≡ []
    silent = refl

    pub is-changed : (new : History) → HasChanged mid change new None → IsGoing course left (counted tally 0 0) (at new sink)
    is-changed new has =
        let none : change_refusal (present_of old) change ≡ None = ap (λ r. change_refusal r change) (sym same-present) ∙ has.0 in
        let accepted = asked ∙ ap (refused_or (meaning (asks.Change change))) none in
        let P : History → Type 0 = λ h. IsGoing course left (counted tally 0 0) (at h sink) in
        let Q : History → Type 0 = λ h. IsGoing course left (counted tally 0 0) (at (appended h (changed (ops_of change))) sink) in
        let R : List Operation → Type 0 = λ ops. IsGoing course left (counted tally 0 0) (at (appended (appended old (Line number ∷ [])) (changed ops)) sink) in
        subst P (sym has.1) (subst Q (sym recorded) (subst R (change-ops change)
        (going-changed course number entry left tally old sink going may (meaning (asks.Change change)) accepted silent)))

    pub is-refused-change : (refusal : Refusal) (new : History) → HasChanged mid change new (Some refusal)
        → (new ≡ appended old (Line number ∷ [])) × (judged (present_of old) entry ≡ Refused refusal)
    is-refused-change refusal new has = (
      has.1 ∙ recorded,
      asked ∙ ap (refused_or (meaning (asks.Change change))) (ap (λ r. change_refusal r change) (sym same-present) ∙ has.0),
    )

    pub not-changed : (new : History) → length old.events + 3 + length (ops_of change) ≤ event_limit → IsWithinChange mid change new
        → IsCut None course (at new sink) stops.Memory
    not-changed new room within =
        let P : History → Type 0 = λ h. IsCut None course (at h sink) stops.Memory in
        let Q : History → Type 0 = λ h. IsCut None course (at (appended h (dids (ops_of change))) sink) stops.Memory in
        let R : List Operation → Type 0 = λ ops. IsCut None course (at (appended (appended old (Line number ∷ [])) (dids ops)) sink) stops.Memory in
        elim within [
          | inl e ↦ subst P (sym (e ∙ recorded)) (record {
            opening = going.opening;
            stopped = stopped-line course number entry left tally old sink going may
                (answer old.opening course.entries old.events (Some (judged (present_of old) entry))) sink refl
                (front-none sink (printed (answer old.opening course.entries old.events (Some (judged (present_of old) entry)))));
            why = (few-line, going.written.passed);
          })
          | inr (e, inr all) ↦
              subst P (sym all) (going-short course left (counted tally 0 0) (at (appended mid (changed (ops_of change))) sink)
              (is-changed (appended mid (changed (ops_of change))) (e, refl)) (few-changed (ops_of change) (omega arith)))
          | inr (e, inl some) ↦
              (let none : change_refusal (present_of old) change ≡ None = ap (λ r. change_refusal r change) (sym same-present) ∙ e in
              let accepted = asked ∙ ap (refused_or (meaning (asks.Change change))) none in
              subst P (sym some) (subst Q (sym recorded) (subst R (change-ops change) (record {
                opening = going.opening;
                stopped = stopped-dids course number entry left tally old sink going may (meaning (asks.Change change)) accepted silent;
                why = (few-dids (verdicts.ops_of (meaning (asks.Change change))) (ap length (change-ops change)), going.written.passed);
              }))))
        ]
      where
        few-line : length (old.events ++ Line number ∷ []) < event_limit
        few-line = let more = length-append old.events (Line number ∷ []) in omega arith

        few-changed : (ops : List Operation) → length ops ≤ length (ops_of change) → length (mid.events ++ changed ops) < event_limit
        few-changed [] le =
            let M : History → Type 0 = λ h. length (h.events ++ []) < event_limit in
            let none = ap length (append-nil (old.events ++ Line number ∷ [])) in
            let line = few-line in
            subst M (sym recorded) (omega arith)
        few-changed (op ∷ ops) le =
            let M : History → Type 0 = λ h. length (h.events ++ (dids (op ∷ ops) ++ Published false ∷ [])) < event_limit in
            let all = length-append (old.events ++ Line number ∷ []) (dids (op ∷ ops) ++ Published false ∷ []) in
            let line = length-append old.events (Line number ∷ []) in
            let last = length-append (dids (op ∷ ops)) (Published false ∷ []) in
            let same = length-map (op ∷ ops) (λ op. Did op) in
            subst M (sym recorded) (omega arith)

        few-dids : (ops : List Operation) → length ops ≡ length (ops_of change) → length ((old.events ++ Line number ∷ []) ++ dids ops) < event_limit
        few-dids ops e =
            let more = length-append (old.events ++ Line number ∷ []) (dids ops) in
            let line = length-append old.events (Line number ∷ []) in
            let same = length-map ops (λ op. Did op) in omega arith

-- a line that was read has the verdict on what it asks
pub verdict-asked : (form : Form) (r : Record) (line : List ℕ) (asked : Asked) → IsReadOn form r.text line asked
    → verdict form r line ≡ refused_or (meaning asked) (command_refusal r (meaning asked))
verdict-asked form r line asked read = verdict-read form r line (meaning asked) read.within read.command read.fits

pub verdict-change : (form : Form) (r : Record) (line : List ℕ) (asked : Asked) (change : Change) → IsReadOn form r.text line asked
    → asked ≡ asks.Change change → verdict form r line ≡ refused_or (meaning (asks.Change change)) (change_refusal r change)
verdict-change form r line asked change read e =
    let P : Asked → Type 0 = IsReadOn form r.text line in
    verdict-asked form r line (asks.Change change) (subst P e read) ∙ ap (refused_or (meaning (asks.Change change))) (change-refusal r change)

asked-if : Form → Record → List ℕ → Bool → ℕ
asked-if form r line is_long = if is_long then 0 else asked_by_command (command_of form r.text line)

-- ... and it asks for the operations of that
pub asked-change : (form : Form) (r : Record) (line : List ℕ) (asked : Asked) (change : Change) → IsReadOn form r.text line asked
    → asked ≡ asks.Change change → asked_by r (Bytes form line) ≡ asked_by_command (Some (meaning (asks.Change change)))
unfolding asked-if
asked-change form r line asked change read e =
    ap (asked-if form r line) (le-ltb LINE_LIMIT (length line) read.within) ∙ ap asked_by_command (read.command ∙ ap (λ a. Some (meaning a)) e)

-- a question that was read is judged on the record
pub verdict-query : (form : Form) (r : Record) (line : List ℕ) (asked : Asked) (query : Query) → IsReadOn form r.text line asked
    → asked ≡ asks.Query query → verdict form r line ≡ refused_or (Ask query) (query_refusal r query)
verdict-query form r line asked query read e =
    let P : Asked → Type 0 = IsReadOn form r.text line in verdict-asked form r line (asks.Query query) (subst P e read)

-- a question about a caret is accepted
pub verdict-caret : (form : Form) (r : Record) (line : List ℕ) (asked : Asked) (query : CaretQuery) → IsReadOn form r.text line asked
    → asked ≡ asks.Caret query → verdict form r line ≡ Accepted (AskCaret query)
verdict-caret form r line asked query read e =
    let P : Asked → Type 0 = IsReadOn form r.text line in verdict-asked form r line (asks.Caret query) (subst P e read)

pub verdict-settle : (form : Form) (r : Record) (line : List ℕ) (asked : Asked) → IsReadOn form r.text line asked
    → asked ≡ asks.Settle → verdict form r line ≡ Accepted Settle
verdict-settle form r line asked read e =
    let P : Asked → Type 0 = IsReadOn form r.text line in verdict-asked form r line asks.Settle (subst P e read)

-- ---- the handling of an entry on a stage, as its methods say it

module _ (workers number : ℕ) (old : History) (sink : SinkState) (room : HasRoomAhead old) where
  -- there was no memory before the line was recorded
  pub short-begun : (verdict : Verdict) (r : Result Outcome Stop) → IsErrAnd r (λ e. e ≡ stops.Memory)
      → Handles workers number verdict (at old sink) (at old sink) r
  short-begun verdict r e course left tally entry same going is =
      handled-err course left tally (at old sink) r stops.Memory e (not-begun course number entry left tally old sink going room)

  -- the line of a command without operations wasn't recorded
  pub short-recorded : (verdict : Verdict) (new : History) (r : Result Outcome Stop) (stop : Stop) → IsErrAnd r (λ e. e ≡ stop) → new ≡ old
      → IsUnrecorded (length old.events + 3 + 0) stop → Handles workers number verdict (at old sink) (at new sink) r
  short-recorded verdict new r stop e same why course left tally entry by going is =
      handled-err course left tally (at new sink) r stop e (not-recorded course number entry left tally old sink going new stop 0 same why (omega arith))

  -- the line of a change wasn't recorded
  pub change-unrecorded : (change : Change) (new : History) (r : Result Outcome Stop) (stop : Stop) (operations : ℕ) → IsErrAnd r (λ e. e ≡ stop) → new ≡ old
      → IsUnrecorded (length old.events + 3 + operations) stop → operations ≡ asked_by_command (Some (meaning (asks.Change change)))
      → HandlesChange workers number change (at old sink) (at new sink) r
  change-unrecorded change new r stop operations e same why few course left tally entry by going is asked =
      handled-err course left tally (at new sink) r stop e
      (not-recorded course number entry left tally old sink going new stop operations same why (omega arith))

module _ (workers number : ℕ) (old : History) (sink : SinkState) (v : Verdict) (may : MayHandle workers old v) (mid : History)
    (recorded : mid ≡ appended old (Line number ∷ [])) where
  -- a refusal was written, or it wasn't
  pub refusal-written : (refusal : Refusal) (behind : SinkState) → v ≡ Refused refusal → Takes (printed (refusal_text refusal ∷ [])) sink behind
      → Handles workers number v (at old sink) (at mid behind) (Ok outcomes.Refused)
  refusal-written refusal behind it taken course left tally entry by going is =
      is-refused course number entry left tally old sink going (may-be course workers old entry v may by is) mid behind refusal recorded (is ∙ it) taken

  pub refusal-unwritten : (refusal : Refusal) (behind : SinkState) (r : Result Outcome Stop) (stop : Stop) → v ≡ Refused refusal → IsErrAnd r (λ e. e ≡ stop)
      → IsUnwritten (printed (refusal_text refusal ∷ [])) sink behind stop → Handles workers number v (at old sink) (at mid behind) r
  refusal-unwritten refusal behind r stop it e why course left tally entry by going is =
      handled-err course left tally (at mid behind) r stop e
      (not-written course number entry left tally old sink going (may-be course workers old entry v may by is) mid behind stop (refusal_text refusal ∷ []) recorded
      (refusal-answered course number entry left tally old sink going refusal (is ∙ it)) why)

  -- so for an accepted command that does no operation
  pub lines-written : (command : Command) (lines : List (List ℕ)) (behind : SinkState) → v ≡ Accepted command → verdicts.ops_of command ≡ []
      → command_lines (present_of old) (versions_of old.events) command ≡ lines → Takes (printed lines) sink behind
      → Handles workers number v (at old sink) (at mid behind) (Ok (outcomes.Accepted (length lines)))
  lines-written command lines behind it idle are taken course left tally entry by going is =
      is-accepted course number entry left tally old sink going (may-be course workers old entry v may by is) mid behind command lines recorded (is ∙ it) idle are taken

  pub lines-unwritten : (command : Command) (lines : List (List ℕ)) (behind : SinkState) (r : Result Outcome Stop) (stop : Stop) → v ≡ Accepted command
      → IsErrAnd r (λ e. e ≡ stop) → command_lines (present_of old) (versions_of old.events) command ≡ lines → IsUnwritten (printed lines) sink behind stop
      → Handles workers number v (at old sink) (at mid behind) r
  lines-unwritten command lines behind r stop it e are why course left tally entry by going is =
      handled-err course left tally (at mid behind) r stop e
      (not-written course number entry left tally old sink going (may-be course workers old entry v may by is) mid behind stop lines recorded
      (ap (λ v. answer old.opening course.entries old.events (Some v)) (is ∙ it) ∙ are) why)

-- the verdict on a change
abbrev pub change_verdict : History → Change → Verdict
change_verdict old change = refused_or (meaning (asks.Change change)) (change_refusal (present_of old) change)

module _ (workers number : ℕ) (old : History) (sink : SinkState) (change : Change) (may : MayHandle workers old (change_verdict old change)) (mid : History)
    (recorded : mid ≡ appended old (Line number ∷ [])) where
  pub change-done : (new : History) → HasChanged mid change new None → HandlesChange workers number change (at old sink) (at new sink) (Ok (outcomes.Accepted 0))
  change-done new has course left tally entry by going is asks =
      is-changed course number entry left tally old sink going (may-be course workers old entry (change_verdict old change) may by is) mid recorded change is new has

  pub change-stopped : (new : History) (r : Result Outcome Stop) (stop : Stop) → IsErrAnd r (λ e. e ≡ stop) → stop ≡ stops.Memory
      → length old.events + 3 + length (ops_of change) ≤ event_limit → IsWithinChange mid change new
      → HandlesChange workers number change (at old sink) (at new sink) r
  change-stopped new r stop e memory room within course left tally entry by going is asks =
      let P : Stop → Type 0 = λ s. IsCut None course (at new sink) s in
      handled-err course left tally (at new sink) r stop e
      (subst P (sym memory) (not-changed course number entry left tally old sink going (may-be course workers old entry (change_verdict old change) may by is)
      mid recorded change is new room within))

  pub change-refused : (refusal : Refusal) (new : History) (behind : SinkState) → HasChanged mid change new (Some refusal)
      → Takes (printed (refusal_text refusal ∷ [])) sink behind → HandlesChange workers number change (at old sink) (at new behind) (Ok outcomes.Refused)
  change-refused refusal new behind has taken course left tally entry by going is asks =
      let may' = may-be course workers old entry (change_verdict old change) may by is in
      let it = is-refused-change course number entry left tally old sink going may' mid recorded change is refusal new has in
      is-refused course number entry left tally old sink going may' new behind refusal it.0 it.1 taken

  pub change-unwritten : (refusal : Refusal) (new : History) (behind : SinkState) (r : Result Outcome Stop) (stop : Stop) → IsErrAnd r (λ e. e ≡ stop)
      → HasChanged mid change new (Some refusal) → IsUnwritten (printed (refusal_text refusal ∷ [])) sink behind stop
      → HandlesChange workers number change (at old sink) (at new behind) r
  change-unwritten refusal new behind r stop e has why course left tally entry by going is asks =
      let may' = may-be course workers old entry (change_verdict old change) may by is in
      let it = is-refused-change course number entry left tally old sink going may' mid recorded change is refusal new has in
      handled-err course left tally (at new behind) r stop e
      (not-written course number entry left tally old sink going may' new behind stop (refusal_text refusal ∷ []) it.0
      (refusal-answered course number entry left tally old sink going refusal it.1) why)

-- a change wants nothing settled, and no refusal does
pub change-calm : (h : History) (change : Change) (o : Option Refusal) → IsPrepared false h → IsPreparedFor (refused_or (meaning (asks.Change change)) o) h
change-calm h change None unsettled = unsettled
change-calm h change (Some refusal) unsettled = unsettled

-- a line that wasn't read
pub handles-unread : (workers number : ℕ) (form : Form) (line : List ℕ) (fault : Fault) (old new : Stage) (r : Result Outcome Stop)
    → IsUnreadOn form (present_of old.history).text line fault → HandlesUnread workers number fault old new r
    → HandlesLine workers number form line old new r
handles-unread workers number form line (faults.Refused refusal) old new r unread it course left tally same going =
    it course left tally (Bytes form line) same going (verdict-unread form (present_of old.history) line refusal unread)
handles-unread workers number form line faults.NoMemory old new r unread it course left tally same going =
    it course left tally (Bytes form line) same going

-- ... and was refused
pub unread-refused : (workers number : ℕ) (fault : Fault) (refusal : Refusal) (old new : Stage) (r : Result Outcome Stop) → fault ≡ faults.Refused refusal
    → Handles workers number (Refused refusal) old new r → HandlesUnread workers number fault old new r
unread-refused workers number fault refusal old new r e it =
    let P : Fault → Type 0 = λ f. HandlesUnread workers number f old new r in subst P (sym e) it

pub unread-short : (workers number : ℕ) (fault : Fault) (old new : Stage) (r : Result Outcome Stop) → fault ≡ faults.NoMemory
    → HandlesUnread workers number faults.NoMemory old new r → HandlesUnread workers number fault old new r
unread-short workers number fault old new r e it =
    let P : Fault → Type 0 = λ f. HandlesUnread workers number f old new r in subst P (sym e) it

rows-few : (r : Record) (first count : ℕ) → length (rows_from r first count) ≤ length (rows_of r)
rows-few r first count =
    let rows : List Row = take count (drop first (rows_of r)) in
    let printed = length-map (enumerate_from first rows) (λ n. row_line n.0 n.1) in
    let counted = length-enumerate_from first rows in
    let taken = length-take count (drop first (rows_of r)) in
    let dropped = length-drop first (rows_of r) in
    omega arith

-- the same count of lines
pub handles-counted : (workers number : ℕ) (old new : Stage) (v : Verdict) (lines count : ℕ) → lines ≡ count
    → Handles workers number v old new (Ok (outcomes.Accepted lines)) → Handles workers number v old new (Ok (outcomes.Accepted count))
handles-counted workers number old new v lines count e it =
    let P : ℕ → Type 0 = λ n. Handles workers number v old new (Ok (outcomes.Accepted n)) in subst P e it

-- an answer has no more lines than there are rows, and one
pub lines-few : (r : Record) (versions : ℕ) (query : Query) → length (query_lines r versions query) ≤ length (rows_of r) + 1
lines-few r versions (queries.Rows first count) = let few = rows-few r first count in omega arith
lines-few r versions (queries.Peek first count) = let few = rows-few r first count in omega arith
lines-few r versions (queries.Show offset bias) = omega arith
lines-few r versions (queries.Back spot bias) = omega arith
lines-few r versions (queries.Clip spot bias) = omega arith

pub unanswered-as : (r : Record) (query : Query) (fault : Fault) (refusal : Refusal) → IsUnanswered r query fault → fault ≡ faults.Refused refusal
    → query_refusal r query ≡ Some refusal
unanswered-as r query fault refusal why e = let P : Fault → Type 0 = IsUnanswered r query in subst P e why

pub has-answer : (versions : ℕ) (query : Query) → 1 ≤ versions → HasAnswer versions query
has-answer versions (queries.Rows first count) some = tt
has-answer versions (queries.Peek first count) some = some
has-answer versions (queries.Show offset bias) some = tt
has-answer versions (queries.Back spot bias) some = tt
has-answer versions (queries.Clip spot bias) some = tt
