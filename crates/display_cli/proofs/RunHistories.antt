-- What the laws of histories say of runs.
use Rattle.std.proofs.Common.{◌≢◌, ℕ, List, [], inl, inr}
use Rattle.cell_units.specs.Text.{IsText, clean}
use Rattle.display_map.specs.Events.{Event}
use Rattle.command_line.specs.declared.plan.Plan.{Plan}
use Rattle.script_runner.specs.Course.{Course}
use Rattle.script_runner.specs.Entries.{Entry, numbered_lines}
use Rattle.script_runner.specs.Legal.{IsLegalSoFar}
use Rattle.display_cli.specs.declared.ended.Note.{Note}
use Rattle.display_cli.specs.declared.ended.Note.TheVariants.{Fine, JournalFull, Memory, ReadScript, ReadText, ScriptTooLong, TextNotUtf8, TextTooLong, Usage, Write}
use Rattle.display_cli.specs.Ended.{HasRead, HasStopped, IsEndedAs, IsRefused, IsRun, Run}
use Rattle.display_cli.specs.RunLaws.{HasLawfulHistory, KeepsLines, LeadsToLawful}
use Rattle.display_cli.proofs.JobsOfRuns.{keeps-lines}
use Rattle.display_cli.proofs.LawfulRuns.{leads-to_lawful}
use Rattle.display_cli.proofs.LinesOfRuns.{follows-script}

pub legal-leads : (text : List ℕ) (entries : List (ℕ × Entry)) (workers : ℕ) (history : List Event) → IsText text → IsLegalSoFar text entries workers history → LeadsToLawful text history
legal-leads text entries workers history is legal = leads-to_lawful text entries history is legal.orderly.changes

pub legal-keeps : (text : List ℕ) (entries : List (ℕ × Entry)) (workers : ℕ) (history : List Event) → IsText text → IsLegalSoFar text entries workers history → KeepsLines text history
legal-keeps text entries workers history is legal =
    let leads = legal-leads text entries workers history is legal in
    keeps-lines text is workers history leads.fits legal.orderly.sends legal.orderly.once

module _ (plan : Plan) (run : Run) where
  of-legal : (read : HasRead plan run) → IsText (clean read.bytes) → IsLegalSoFar (clean read.bytes) (numbered_lines read.script) plan.workers run.history → HasLawfulHistory plan run
  of-legal read is legal =
      let text = clean read.bytes in
      let entries = numbered_lines read.script in
      record {
        read = read;
        legal = legal;
        records = legal-leads text entries plan.workers run.history is legal;
        lines = legal-keeps text entries plan.workers run.history is legal;
        script = follows-script text entries plan.workers run.history legal;
      }

  of-stopped : (cause : Course → List Event → Type 0) → HasStopped plan run cause → HasLawfulHistory plan run
  of-stopped cause it = of-legal it.read it.lawful.opening it.stopped.legal

  -- a refused run hasn't begun
  of-refused : IsRefused run → run.history ≢ [] → HasLawfulHistory plan run
  of-refused it began = absurd (began it.history)

  of-ended : (note : Note) → IsEndedAs plan run note → run.history ≢ [] → HasLawfulHistory plan run
  of-ended Fine it began = of-legal it.read it.lawful.opening it.finished.legal.so_far
  of-ended Write it began = of-stopped _ it
  of-ended JournalFull it began = of-stopped _ it
  of-ended Memory it began = elim it.ended [ inl stopped ↦ of-stopped _ stopped | inr refused ↦ of-refused refused began ]
  of-ended ReadText it began = of-refused it.0 began
  of-ended ReadScript it began = of-refused it.0 began
  of-ended (TextNotUtf8 at) it began = of-refused it.0 began
  of-ended TextTooLong it began = of-refused it.0 began
  of-ended ScriptTooLong it began = of-refused it.0 began
  of-ended Usage it began = absurd it

  pub lawful-run : IsRun run plan → run.history ≢ [] → HasLawfulHistory plan run
  lawful-run is began = of-ended run.note is.outcome began
