-- A run whose text and script are made: its answers go nowhere, and their summary is written.
use Rattle.std.proofs.Common.{◌≡◌, ℕ, inl, inr, List, [], ◌∷◌, ◌++◌, length, Option, Some, None, Result, Ok, Err, refl, sym, ap, ◌∙◌, subst, arith}
use Rattle.std.specs.Prelude.{IfSome, OnOk}
use Rattle.std.specs.Result.{IsErrAnd}
use Rattle.std.proofs.lemmas.List.Elements.{All-nil}
use Rattle.cell_units.specs.declared.fault.TextFault.TheVariants.{NotUtf8, TooLong}
use Rattle.cell_units.specs.Refusal.{IsTextRefused}
use Rattle.board_watch.specs.Watching.{AreRising}
use Rattle.display_map.specs.Replay.{History, present_of}
use Rattle.live_display.specs.declared.owner.Owner.{Owner}
use Rattle.command_line.specs.declared.plan.Plan.{Plan}
use Rattle.generated_input.specs.Made.{made_of}
use Rattle.display_cli.specs.declared.beside.Left.{Left}
use Rattle.display_cli.specs.declared.ended.Note.{Note}
use Rattle.display_cli.specs.declared.ended.Note.TheVariants.{Fine, Usage, ReadText, ReadScript, Write, TextNotUtf8, TextTooLong, ScriptTooLong, JournalFull, Memory}
use Rattle.script_runner.specs.declared.stop.Stop.{Stop}
use Rattle.script_runner.specs.declared.stop.Stop.TheVariants as stops
use Rattle.script_runner.specs.declared.tally.Tally.{Tally}
use Rattle.script_runner.specs.Entries.{Entry}
use Rattle.script_runner.specs.Legal.{history_of}
use Rattle.script_runner.specs.Outside.{Faults, InputState, SinkState, AreTold, Takes, TakesFront, nowhere}
use Rattle.script_runner.specs.Output.{answered, answers_from, no_lines, output, printed, reported, summary_at, summary_line}
use Rattle.display_cli.specs.Ended.{Run, IsEndedAs, IsRefused, given, script_of, text_of}
use Rattle.script_runner.specs.Course.{Course, IsStopped}
use Rattle.script_runner.specs.Going.{IsCut, IsGoing, IsPlayed, IsWhy, HasEnded, Stage, at}
use Rattle.display_cli.specs.inside.Left.{HasLeft, HasLeftBy}
use Rattle.display_cli.specs.inside.Opening.{IsStartRefused, IsTextUnread, Reports, to_nowhere}
use Rattle.script_runner.specs.Writing.{IsUnwritten}
use Rattle.script_runner.proofs.Fronts.{front-all, front-behind, risen-behind, takes-more, takes-none, takes-same}
use Rattle.display_cli.proofs.Headline.{ended-unopened}
use Rattle.script_runner.proofs.LastVersion.{last-begun}

-- ---- the summary

-- the line that is written of a display
abbrev pub line_of : History → Tally → List ℕ
line_of h tally = printed (summary_line (summary_at (present_of h) tally) ∷ [])

module _ (number : ℕ) (course : Course) (h : History) (old : SinkState) (before behind : List ℕ) (tally : Tally) (empty : Takes [] course.sink old)
    (played : IsPlayed None (to_nowhere course before) tally (at h (nowhere behind))) where
  same-line : line_of h tally ≡ reported (Some number) course.text course.entries h.events
  same-line =
      ap (λ text. line_of (history_of text h.events) tally) played.opening
      ∙ ap (λ t. line_of (history_of course.text h.events) t) (sym played.tallied)

  -- it was written
  pub reported-all : (new : SinkState) → Takes (line_of h tally) old new → IsPlayed (Some number) course tally (at h new)
  reported-all new taken =
      record {
        opening = played.opening;
        legal = played.legal;
        written = takes-same course.sink new (line_of h tally) (reported (Some number) course.text course.entries h.events) same-line
            (takes-more course.sink old new [] (line_of h tally) empty taken);
        tallied = played.tallied;
        room = played.room;
      }

  reported-front : (new : SinkState) → TakesFront (line_of h tally) old new → IsStopped (Some number) course h.events new []
  reported-front new front =
      record {
        begun = last-begun h.events played.legal.ends;
        legal = played.legal.so_far;
        written = front-behind course.sink old new [] (line_of h tally) [] (output (Some number) course.text course.entries h.events []) empty front
            (ap (λ l. l ++ []) same-line);
        watchers = record { few = omega arith; each = All-nil (AreRising 0) };
      }

  -- it wasn't
  pub reported-not : (new : SinkState) (stop : Stop) → IsUnwritten (line_of h tally) old new stop → IsCut (Some number) course (at h new) stop
  reported-not new stops.Write why =
      record { opening = played.opening; stopped = reported-front new why.0; why = risen-behind course.sink.faults old.faults new.faults empty.passed why.1 }
  reported-not new stops.JournalFull why = absurd why
  reported-not new stops.Memory why = record { opening = played.opening; stopped = reported-front new why.0; why = (played.room, why.1 ∙ empty.passed) }

-- a play stopped, so nothing is reported
module _ (number : ℕ) (course : Course) (h : History) (old : SinkState) (before behind : List ℕ) (empty : Takes [] course.sink old) where
  why-nowhere : (stop : Stop) → IsWhy (to_nowhere course before) (at h (nowhere behind)) stop → IsWhy course (at h old) stop
  why-nowhere stops.Write why = elim why [ inl less ↦ absurd (omega arith) | inr most ↦ absurd (let none = most.0 in omega arith) ]
  why-nowhere stops.JournalFull why = why
  why-nowhere stops.Memory why = (why.0, empty.passed)

  pub cut-nowhere : (stop : Stop) → IsCut None (to_nowhere course before) (at h (nowhere behind)) stop → IsCut (Some number) course (at h old) stop
  cut-nowhere stop cut =
      record {
        opening = cut.opening;
        stopped = record {
          begun = cut.stopped.begun;
          legal = cut.stopped.legal;
          written = front-all course.sink old [] (output (Some number) course.text course.entries h.events [])
              (output (Some number) course.text course.entries h.events []) empty refl;
          watchers = record { few = cut.stopped.watchers.few; each = cut.stopped.watchers.each };
        };
        why = why-nowhere stop cut.why;
      }

module _ (played : Result Tally Stop) (h : History) (old : SinkState) where
  module _ (tally : Tally) (is : played ≡ Ok tally) where
    it-is : (course : Course) (before behind : List ℕ) → HasEnded None (to_nowhere course before) (at h (nowhere behind)) played
        → IsPlayed None (to_nowhere course before) tally (at h (nowhere behind))
    it-is course before behind ended =
        let P : Result Tally Stop → Type 0 = λ r. HasEnded None (to_nowhere course before) (at h (nowhere behind)) r in subst P is ended

    pub reports-all : (new : SinkState) → Takes (line_of h tally) old new → Reports played h old new (Ok tally)
    reports-all new taken number course before behind empty ended =
        reported-all number course h old before behind tally empty (it-is course before behind ended) new taken

    pub reports-not : (new : SinkState) (stop : Stop) → IsUnwritten (line_of h tally) old new stop → Reports played h old new (Err stop)
    reports-not new stop why number course before behind empty ended =
        reported-not number course h old before behind tally empty (it-is course before behind ended) new stop why

  pub reports-stopped : (stop : Stop) → played ≡ Err stop → Reports played h old old (Err stop)
  reports-stopped stop is number course before behind empty ended =
      let P : Result Tally Stop → Type 0 = λ r. HasEnded None (to_nowhere course before) (at h (nowhere behind)) r in
      cut-nowhere number course h old before behind empty stop (subst P is ended)

pub reports-err : (played : Result Tally Stop) (h : History) (old new : SinkState) (r : Result Tally Stop) (stop : Stop) → IsErrAnd r (λ e. e ≡ stop)
    → Reports played h old new (Err stop) → Reports played h old new r
reports-err played h old new (Ok tally) stop e it = absurd e
reports-err played h old new (Err other) stop e it = let P : Stop → Type 0 = λ s. Reports played h old new (Err s) in subst P (sym e) it

-- ---- a play to nowhere

no-elements : {X : Type 0} (xs : List X) → length xs ≡ 0 → xs ≡ []
no-elements [] e = refl
no-elements (x ∷ xs) e = absurd (omega arith)

module _ (course : Course) (left : List (ℕ × Entry)) (s : Stage) (going : IsGoing course left no_lines s) where
  unanswered : answered s.history.opening course.entries s.history.events ≡ []
  unanswered =
      ap printed (no-elements (answers_from s.history.opening course.entries [] s.history.events) (ap (λ (t : Tally). t.answers) going.tallied))

  pub nothing-taken : Takes [] course.sink s.sink
  nothing-taken = takes-same course.sink s.sink (answered s.history.opening course.entries s.history.events) [] unanswered going.written

  pub going-nowhere : (taken : List ℕ) → IsGoing (to_nowhere course taken) left no_lines (at s.history (nowhere taken))
  going-nowhere taken =
      record {
        opening = going.opening;
        legal = going.legal;
        free = going.free;
        lines = going.lines;
        written = takes-same (nowhere taken) (nowhere taken) [] (answered s.history.opening course.entries s.history.events) (sym unanswered)
            (takes-none (nowhere taken));
        tallied = going.tallied;
      }

pub on-ok-same : (r s : Result Tally Stop) (X : Type 0) → OnOk r (r ≡ s) → OnOk s X → OnOk r X
on-ok-same (Ok tally) s X e it = let P : Result Tally Stop → Type 0 = λ r. OnOk r X in subst P (sym e) it
on-ok-same (Err stop) s X e it = tt

pub left-made : (number : ℕ) (script : List ℕ) (owner : Owner) (old new : SinkState) (before behind : List ℕ) (left : Left) (played : Result Tally Stop)
    → HasLeft script owner (nowhere before) (nowhere behind) left → Reports left.played left.display old new played → OnOk played (played ≡ left.played)
    → HasLeftBy (Some number) script owner old new (record { played = played; display = left.display; writer = left.writer })
left-made number script owner old new before behind left played went reports same =
    record {
      played = λ course by going.
          reports number course before behind (nothing-taken course _ (at owner.display old) going)
          (went.played (to_nowhere course before) by (going-nowhere course _ (at owner.display old) going before));
      board = went.board;
      shown = on-ok-same played left.played (IfSome left.writer (λ writer. writer.newest ≡ left.display)) same went.shown;
    }

-- ---- what is made is told

pub made-named : (plan : Plan) (number : ℕ) → plan.make ≡ Some number → plan.make ≡ None → ⊥
made-named plan number made named = cc

pub made-text : (plan : Plan) (inputs : InputState) (number : ℕ) → plan.make ≡ Some number → text_of plan inputs ≡ Some (made_of number).text
made-text plan inputs number made = ap (λ m. given m (inputs.told plan.text) (λ made. made.text)) made

pub made-script : (plan : Plan) (inputs : InputState) (number : ℕ) → plan.make ≡ Some number → script_of plan inputs ≡ Some (made_of number).script
made-script plan inputs number made = ap (λ m. given m (inputs.told plan.script) (λ made. made.script)) made

some-told : (told : Option (List ℕ)) (bytes : List ℕ) (P : List ℕ → Type 0) → AreTold told bytes → P bytes → IfSome told P
some-told None bytes P e it = tt
some-told (Some b) bytes P e it = subst P (sym e) it

-- why a display wasn't started on a text that is told
start-refused : (told : Option (List ℕ)) (bytes : List ℕ) (faults : Faults) (note : Note) → AreTold told bytes → IsStartRefused bytes note
    → IsTextUnread told faults faults note
start-refused told bytes faults TextTooLong is it = (refl, some-told told bytes (λ b. IsTextRefused b TooLong) is it)
start-refused told bytes faults (TextNotUtf8 at) is it = (refl, some-told told bytes (λ b. IsTextRefused b (NotUtf8 at)) is it)
start-refused told bytes faults Memory is it = refl
start-refused told bytes faults Fine is it = absurd it
start-refused told bytes faults Usage is it = absurd it
start-refused told bytes faults ReadText is it = absurd it
start-refused told bytes faults ReadScript is it = absurd it
start-refused told bytes faults Write is it = absurd it
start-refused told bytes faults ScriptTooLong is it = absurd it
start-refused told bytes faults JournalFull is it = absurd it

no-read : (bytes : List ℕ) (note : Note) (X : Type 0) → IsStartRefused bytes note → note ≡ ReadText → X
no-read bytes note X it e = let P : Note → Type 0 = IsStartRefused bytes in absurd (subst P e it)

-- a display wasn't started on a made text
pub ended-unstarted : (plan : Plan) (run : Run) (note : Note) (bytes : List ℕ) → text_of plan run.inputs ≡ Some bytes → run.inputs_after.faults ≡ run.inputs.faults
    → IsRefused run → IsStartRefused bytes note → IsEndedAs plan run note
ended-unstarted plan run note bytes is same refused it =
    let T : Option (List ℕ) → Type 0 = λ o. AreTold o bytes in
    let F : Faults → Type 0 = λ f. IsTextUnread (text_of plan run.inputs) run.inputs.faults f note in
    ended-unopened plan run note (no-read bytes note (plan.make ≡ None) it) refused
    (subst F (sym same) (start-refused (text_of plan run.inputs) bytes run.inputs.faults note (subst T (sym is) refl) it))
