-- What a run is by its note.
use Rattle.std.proofs.Common.{◌≡◌, ℕ, inl, inr, false, List, [], ◌∷◌, ◌++◌, length, Result, Ok, Err, Option, None, refl, sym, ap, ◌∙◌, subst}
use Rattle.cell_units.specs.Text.{clean}
use Rattle.display_map.specs.Events.{Event, Published}
use Rattle.display_map.specs.LawfulStates.{IsLawfulHistory}
use Rattle.display_map.specs.Replay.{History, appended}
use Rattle.live_display.specs.Owned.{IsUnopened}
use Rattle.board_watch.specs.declared.seen.Seen.{Seen}
use Rattle.command_line.specs.declared.plan.Plan.{Plan}
use Rattle.script_runner.specs.declared.outside.Part.TheVariants as parts
use Rattle.script_runner.specs.declared.stop.Stop.{Stop}
use Rattle.script_runner.specs.declared.stop.Stop.TheVariants as stops
use Rattle.script_runner.specs.declared.tally.Tally.{Tally}
use Rattle.display_cli.specs.declared.ended.Note.{Note}
use Rattle.display_cli.specs.declared.ended.Note.TheVariants.{Fine, Usage, ReadText, ReadScript, Write, TextNotUtf8, TextTooLong, ScriptTooLong, JournalFull, Memory}
use Rattle.script_runner.specs.Outside.{Faults, SinkState, count_between}
use Rattle.script_runner.specs.Entries.{numbered_lines}
use Rattle.script_runner.specs.Legal.{history_of}
use Rattle.script_runner.specs.Output.{no_lines, output}
use Rattle.display_cli.specs.Ended.{endings_of, Run, IsRefused, HasRead, text_of, script_of, IsEndedAs, ReadsInOrder, HasReadsPassed, ends_at_text, IsRun, course_of}
use Rattle.script_runner.specs.Course.{Course, IsStopped}
use Rattle.script_runner.specs.Going.{at}
use Rattle.display_cli.specs.inside.Opening.{IsOpenedOn, IsTextUnread, IsScript, IsScriptUnread, HasWatched, IsNoteOf, HasRun, note_of}
use Rattle.script_runner.proofs.Fronts.{front-none}
use Rattle.script_runner.proofs.GoingOn.{on, going-stopped}
use Rattle.script_runner.proofs.Played.{going-fresh, room-fresh}
use Rattle.display_cli.proofs.Ends.{HaveRead, complete, ends-unopened, ends-unread, has-read, owed}

-- ---- the run of a script

note-as : (make : Option ℕ) (course : Course) (status : ℕ) (events : List Event) (sink : SinkState) (watched : List (List Seen)) (stop : Stop)
    → HasWatched make course events sink watched (Err stop) → HasRun make course status events sink watched (note_of stop)
note-as make course status events sink watched stops.Write it = it
note-as make course status events sink watched stops.JournalFull it = it
note-as make course status events sink watched stops.Memory it = (it.1.1, inl (it.0, it.1.0))

-- a play that ended so, with the note and the status of that
pub run-watched : (make : Option ℕ) (course : Course) (status : ℕ) (events : List Event) (sink : SinkState) (watched : List (List Seen)) (r : Result Tally Stop) (note : Note)
    → HasWatched make course events sink watched r → IsNoteOf r status note → HasRun make course status events sink watched note
run-watched make course status events sink watched (Ok tally) note it is =
    let N : Note → Type 0 = λ n. HasRun make course status events sink watched n in subst N (sym is.0) (it status is.1)
run-watched make course status events sink watched (Err stop) note it is =
    let N : Note → Type 0 = λ n. HasRun make course status events sink watched n in subst N (sym is) (note-as make course status events sink watched stop it)

-- a run that has just begun may stop, whatever it reports
stopped-fresh : (make : Option ℕ) (course : Course) (h : History) → h.opening ≡ course.text → h.events ≡ []
    → IsStopped make course (h.events ++ Published false ∷ []) course.sink []
stopped-fresh make course h opening fresh =
    let S : List ℕ → Type 0 = λ text. IsStopped None (on text course) (h.events ++ Published false ∷ []) course.sink [] in
    let before = subst S opening (going-stopped (on h.opening course) course.entries no_lines (at (appended h (Published false ∷ [])) course.sink)
    (going-fresh h fresh course.entries course.workers course.watchers course.sink)) in
    record {
      begun = before.begun;
      legal = before.legal;
      written = front-none course.sink (output make course.text course.entries (h.events ++ Published false ∷ []) []);
      watchers = before.watchers;
    }

-- there was no memory to open a display
pub run-unopened : (make : Option ℕ) (course : Course) (old new : History) (status : ℕ) (note : Note) (events : List Event) (watched : List (List Seen))
    → old.opening ≡ course.text → old.events ≡ [] → IsUnopened old new → events ≡ new.events → watched ≡ [] → note ≡ Memory
    → HasRun make course status events course.sink watched note
run-unopened make course old new status note events watched opening fresh how same none is =
    let N : Note → Type 0 = λ n. HasRun make course status events course.sink watched n in
    let W : List (List Seen) → Type 0 = λ w. HasRun make course status events course.sink w Memory in
    let E : List Event → Type 0 = λ l. HasRun make course status l course.sink [] Memory in
    let H : History → Type 0 = λ h. HasRun make course status h.events course.sink [] Memory in
    let S : List ℕ → Type 0 = λ text. IsStopped make (on text course) (old.events ++ Published false ∷ []) course.sink [] in
    subst N (sym is) (subst W (sym none) (subst E (sym same) (elim how [
      | inl e ↦ (refl, inr (ap (λ (h : History). h.events) e ∙ fresh, refl, refl))
      | inr e ↦ subst H (sym e) (refl, inl (subst S opening (stopped-fresh make (on old.opening course) old refl fresh), room-fresh old fresh))
    ])))

pub run-behind : (make : Option ℕ) (course : Course) (status : ℕ) (events : List Event) (sink : SinkState) (watched : List (List Seen)) (note : Note)
    → HasRun make course status events sink watched note → ends_at_text note ≡ false
run-behind make course status events sink watched Fine it = refl
run-behind make course status events sink watched Write it = refl
run-behind make course status events sink watched JournalFull it = refl
run-behind make course status events sink watched Memory it = refl
run-behind make course status events sink watched Usage it = absurd it
run-behind make course status events sink watched ReadText it = absurd it
run-behind make course status events sink watched ReadScript it = absurd it
run-behind make course status events sink watched (TextNotUtf8 at) it = absurd it
run-behind make course status events sink watched TextTooLong it = absurd it
run-behind make course status events sink watched ScriptTooLong it = absurd it

-- ---- what a run is by its note

module _ (plan : Plan) (run : Run) where
  -- there was no memory, and nothing was read or written
  pub ended-short : IsRefused run → run.inputs_after.faults ≡ run.inputs.faults → IsEndedAs plan run Memory
  ended-short refused same = record { ended = inr refused; reads_passed = same; writes_passed = ap (λ s. s.faults) refused.sink }

  -- a text that wasn't opened
  pub ended-unopened : (note : Note) → (note ≡ ReadText → plan.make ≡ None) → IsRefused run
      → IsTextUnread (text_of plan run.inputs) run.inputs.faults run.inputs_after.faults note → IsEndedAs plan run note
  ended-unopened note named refused it = ends-unopened (endings_of plan run) plan run note named refused (ended-short refused) it

  -- a script that wasn't read, behind reads of the text that passed
  pub ended-unread : (note : Note) (told : Option (List ℕ)) (faults : Faults) (count : ℕ) (display : History) → plan.make ≡ None → IsRefused run
      → IsOpenedOn (text_of plan run.inputs) count display → told ≡ script_of plan run.inputs → faults ≡ run.inputs.faults
      → IsScriptUnread told faults run.inputs_after.faults note → IsEndedAs plan run note
  ended-unread note told faults count display named refused =
      ends-unread (endings_of plan run) plan run note told faults count display named refused (ended-short refused)

  run-as : (note : Note) (read : HasRead plan run) → run.inputs_after.faults ≡ run.inputs.faults
      → IsLawfulHistory (history_of (clean read.bytes) run.history)
      → HasRun plan.make (course_of plan read.bytes read.script run.sink) run.status run.history run.sink_after run.watched note → IsEndedAs plan run note
  run-as Fine read passed lawful it = record { read = read; lawful = lawful; finished = it }
  run-as Write read passed lawful it = record { read = read; lawful = lawful; stopped = it.0; caused = it.1 }
  run-as JournalFull read passed lawful it = record { read = read; lawful = lawful; stopped = it.0; caused = it.1 }
  run-as Memory read passed lawful it =
      record {
        ended = elim it.1 [
          | inl stopped ↦ inl (record { read = read; lawful = lawful; stopped = stopped.0; caused = stopped.1 })
          | inr none ↦ inr (record { history = none.0; watched = none.1; sink = none.2 })
        ];
        reads_passed = passed;
        writes_passed = it.0;
      }
  run-as Usage read passed lawful it = absurd it
  run-as ReadText read passed lawful it = absurd it
  run-as ReadScript read passed lawful it = absurd it
  run-as (TextNotUtf8 at) read passed lawful it = absurd it
  run-as TextTooLong read passed lawful it = absurd it
  run-as ScriptTooLong read passed lawful it = absurd it

  -- the script was run
  pub ended-run : (note : Note) (told : Option (List ℕ)) (count : ℕ) (display : History) (script : List ℕ)
      → IsOpenedOn (text_of plan run.inputs) count display → told ≡ script_of plan run.inputs → IsScript told script
      → (plan.make ≡ None → count ≡ count_between parts.Text run.inputs run.inputs_after)
      → (plan.make ≡ None → length script ≡ count_between parts.Script run.inputs run.inputs_after)
      → run.inputs_after.faults ≡ run.inputs.faults → IsLawfulHistory (history_of display.opening run.history)
      → HasRun plan.make (record { text = display.opening; entries = numbered_lines script; workers = plan.workers; watchers = plan.watchers; sink = run.sink })
      run.status run.history run.sink_after run.watched note
      → IsEndedAs plan run note
  ended-run note told count display script opened tells read of_text of_script passed lawful it =
      let H : History → Type 0 = λ h. HasRun plan.make
      (record { text = h.opening; entries = numbered_lines script; workers = plan.workers; watchers = plan.watchers; sink = run.sink })
      run.status run.history run.sink_after run.watched note in
      let L : History → Type 0 = λ h. IsLawfulHistory (history_of h.opening run.history) in
      run-as note (has-read plan run told count display script opened tells read of_text of_script) passed (subst L opened.3 lawful) (subst H opened.3 it)

  have-read : HaveRead (endings_of plan run) plan run
  have-read = record { finished = λ it. it.read; unwritten = λ it. it.read; full = λ it. it.read; failed = λ it. it.caused }

  pub is-run : IsEndedAs plan run run.note → ReadsInOrder plan run.note run.inputs.reads run.inputs_after.reads → HasReadsPassed run → IsRun run plan
  is-run it reads passed =
      record {
        outcome = it;
        reads = reads;
        passed = passed;
        owed = owed (endings_of plan run) plan run have-read it;
        complete = complete (endings_of plan run) plan run have-read it;
      }

pub not-usage : (plan : Plan) (run : Run) (note : Note) → IsEndedAs plan run note → note ≡ Usage → ⊥
not-usage plan run note it e = let P : Note → Type 0 = IsEndedAs plan run in subst P e it
