-- An undo or a redo that has a text to take is done in every view.
use Rattle.std.proofs.Common.{◌≡◌, ℕ, suc, ◌<◌, Bool, true, List, [], ◌∷◌, ◌++◌, length, Option, Some, None, refl, sym, ap, ◌∙◌, subst}
use Rattle.std.specs.Prelude.{◌||◌, option_map}
use Rattle.std.specs.List.{cons_option, list_all}
use Rattle.std.specs.Str.{is_utf8}
use Rattle.display_sheet.specs.declared.change.Splice.{Splice}
use Rattle.display_sheet.specs.Changes.{Edit, batch, edit_refusal}
use Rattle.display_map.specs.Events.{Line}
use Rattle.display_map.specs.Replay.{History, appended, is_settled, present_of}
use Rattle.edit_script.specs.Commands.{Apply}
use Rattle.script_runner.specs.Entries.{Edited, Entry}
use Rattle.script_runner.specs.Going.{changed}
use Rattle.script_runner.specs.Outside.{SinkState, Takes}
use Rattle.split_views.specs.Views.{history_of}
use Rattle.undo_line.specs.Inverse.{text_after}
use Rattle.undo_line.specs.UndoParts.{UndoParts}
use Rattle.split_script.specs.Lines.{SplitLine}
use Rattle.split_script.specs.Met.{Met, OwnIsThere, Step, met, met_at, nothing, step_for, step_of, steps_of, text_line}
use Rattle.split_script.specs.Met as meets
use Rattle.split_script.specs.Output.{answered, refuses}
use Rattle.split_script.specs.Parts.{batch_line, batch_of, entry_for, entry_of, part_of}
use Rattle.split_script.specs.Theorems.{SplitCourse, asked_for, entries_of}
use Rattle.split_runner.specs.Going.{AreMoved, IsGoing, IsUnderWay, IsUndoAfter, at}
use Rattle.split_runner.proofs.Cases.{text-step}
use Rattle.split_runner.proofs.EditLines.{changed-quiet, edit-accepted, text-changed, under-edit}
use Rattle.split_runner.proofs.Edits.{going-all}

-- a line of no view, of which every view has the batch as its entry
pub record IsShared (line : SplitLine) : Type 0 where
  pub entry : (view : ℕ) (o : Option (List Splice)) → entry_for view o line ≡ option_map Edited o
  pub met_is : (histories : List History) (past : List Step) (number : ℕ)
      → met_at histories past (number, line) ≡ record { number = number; line = line; before = nothing; past = past }
  pub there : (histories : List History) (number : ℕ) → OwnIsThere histories number line
  pub asks : (text : List ℕ) (m : Met) → asked_for text m line ≡ entries_of (batch_of (batch_line text m.past) (step_of m))

module _ (course : SplitCourse) (done : List (ℕ × SplitLine)) (refused : Bool) (old new : List History) (undo undo' : UndoParts) (sink sink' : SinkState)
    (number : ℕ) (line : SplitLine) (splices : List Splice) (going : IsGoing course done refused (at old undo sink))
    (next : number ≡ suc (length done)) (shared : IsShared line)
    (settled : (v : ℕ) → v < course.views → is_settled (present_of (history_of old v)) ≡ true)
    (does : batch_of (batch_line course.text (steps_of old done)) (step_for nothing line) ≡ Some splices)
    (utf8 : list_all (λ s. is_utf8 s.text) splices ≡ true)
    (fits : (v : ℕ) → v < course.views → edit_refusal (present_of (history_of old v)) splices ≡ None)
    (moved : AreMoved old new (λ v. Line number ∷ changed (batch splices))) where
  abbrev past : List Step
  past = steps_of old done

  abbrev m : Met
  m = record { number = number; line = line; before = nothing; past = past }

  entry-is : (v : ℕ) → entry_of course.text v m ≡ Some (number, Edited splices)
  entry-is v =
      ap (option_map {U = ℕ × Entry} (λ entry. (number, entry)))
      (shared.entry v (batch_of (batch_line course.text past) (step_for nothing line)) ∙ ap (option_map Edited) does)

  pub going-shared : text_after (text_line course.text past).present splices ≡ (meets.stepped (text_line course.text past) (step_for nothing line)).present
      → IsUndoAfter course.text (past ++ step_for nothing line ∷ []) undo'
      → Takes (answered course.text (m ∷ [])) sink sink'
      → IsGoing course (done ++ (number, line) ∷ []) (refused || refuses course.text m) (at new undo' sink')
  going-shared leads undone written =
      going-all course done refused old new undo undo' sink sink' (number, line) m (changed (batch splices)) going next moved
      (changed-quiet (batch splices)) (shared.met_is new past number) (shared.there new number)
      (λ v less. subst (λ o. IsUnderWay (part_of course.text v (met old done) ++ cons_option o []) (appended (history_of old v) (Line number ∷ changed (batch splices))))
      (sym (entry-is v))
      (under-edit (part_of course.text v (met old done)) (history_of old v) number (Edited splices) (Apply (Edit splices)) (batch splices)
      (going.under_way v less) (settled v less) (edit-accepted (present_of (history_of old v)) splices utf8 (fits v less)) refl))
      (λ v less. text-changed (history_of old v) (text_line course.text past).present number splices (going.present v less)
      ∙ (leads ∙ ap (λ t. t.present) (sym (text-step course.text past (step_for nothing line)))))
      undone written
