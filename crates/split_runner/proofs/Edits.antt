-- A line that reaches every view: an edit that its view accepts, an undo or a redo.
use Rattle.std.proofs.Common.{◌≡◌, ℕ, suc, ◌<◌, Bool, false, List, [], ◌∷◌, ◌++◌, length, Some, refl, sym, ap, ◌∙◌, subst}
use Rattle.std.specs.Prelude.{◌||◌, fold}
use Rattle.std.specs.List.{cons_option, list_any}
use Rattle.cell_units.specs.Operation.{AddBlock, AddFold, AddInlay, Operation, RemoveBlock, RemoveFold, RemoveInlay, Replace, SetTab, SetWidth, operated}
use Rattle.cell_units.specs.Record.{Record, opened}
use Rattle.display_sheet.specs.declared.change.Splice.{Splice}
use Rattle.display_sheet.specs.Changes.{ChangeParts, Edit, One, batch, operated_all, operations_in, splice_of}
use Rattle.display_map.specs.Events.{Did, Event, Line}
use Rattle.display_map.specs.Replay.{History, appended, present_of}
use Rattle.script_runner.specs.Legal.{is_line}
use Rattle.script_runner.specs.Outside.{SinkState, Takes}
use Rattle.script_runner.proofs.LastLine.{dids}
use Rattle.split_views.specs.Views.{history_of}
use Rattle.split_views.proofs.Texts.{text-appended, text_on}
use Rattle.undo_line.specs.Inverse.{text_after}
use Rattle.undo_line.specs.UndoParts.{UndoParts}
use Rattle.split_script.specs.Lines.{SplitLine}
use Rattle.split_script.specs.Met.{Met, OwnIsThere, has_line_from, met, met_at, splices_in, steps_of, steps_through, text_line}
use Rattle.split_script.specs.Output.{answered, refuses}
use Rattle.split_script.specs.Parts.{entry_of, part_of}
use Rattle.split_script.specs.Theorems.{SplitCourse}
use Rattle.split_script.proofs.Before.{below-line}
use Rattle.split_runner.specs.Going.{AreMoved, IsBelow, IsGoing, IsUnderWay, IsUndoAfter, at}
use Rattle.split_runner.proofs.Cases.{grow-moved, texts-stay}
use Rattle.split_runner.proofs.Goings.{going-more}

-- ---- the text after a batch

text-of-one : (r : Record) (op : Operation) → (operated op r).text ≡ text_on r.text (Did op)
text-of-one r (Replace a b s) = refl
text-of-one r (AddInlay inlay) = refl
text-of-one r (RemoveInlay id) = refl
text-of-one r (AddFold fold) = refl
text-of-one r (RemoveFold id) = refl
text-of-one r (AddBlock row id side lines) = refl
text-of-one r (RemoveBlock id) = refl
text-of-one r (SetTab tab) = refl
text-of-one r (SetWidth width) = refl

text-of-all : (r : Record) (ops : List Operation) (more : List Event) → ((text : List ℕ) → fold text_on text more ≡ text)
    → fold text_on r.text (dids ops ++ more) ≡ (operated_all ops r).text
text-of-all r [] more kept = kept r.text
text-of-all r (op ∷ ops) more kept =
    ap (λ text. fold text_on text (dids ops ++ more)) (sym (text-of-one r op)) ∙ text-of-all (operated op r) ops more kept

-- of a view that has the text, after the line of a batch, and events that keep the text
pub text-edited : (h : History) (text : List ℕ) (number : ℕ) (splices : List Splice) (more : List Event) → (present_of h).text ≡ text
    → ((text : List ℕ) → fold text_on text more ≡ text)
    → (present_of (appended h (Line number ∷ (dids (batch splices) ++ more)))).text ≡ text_after text splices
text-edited h text number splices more same kept =
    text-appended h (Line number ∷ (dids (batch splices) ++ more))
    ∙ (ap (λ t. fold text_on t (dids (batch splices) ++ more)) same ∙ text-of-all (opened text) (batch splices) more kept)

-- the operations of a change that is an edit are those of its batch
pub batch-of-change : (change : ChangeParts) (splices : List Splice) → splices_in change ≡ Some splices → operations_in change ≡ batch splices
batch-of-change (Edit other) splices e = let same : other ≡ splices = cc in ap batch same
batch-of-change (One (Replace a b s)) splices e = let same : splice_of a b s ∷ [] ≡ splices = cc in ap batch same
batch-of-change (One (AddInlay inlay)) splices e = cc
batch-of-change (One (RemoveInlay id)) splices e = cc
batch-of-change (One (AddFold fold)) splices e = cc
batch-of-change (One (RemoveFold id)) splices e = cc
batch-of-change (One (AddBlock row id side lines)) splices e = cc
batch-of-change (One (RemoveBlock id)) splices e = cc
batch-of-change (One (SetTab tab)) splices e = cc
batch-of-change (One (SetWidth width)) splices e = cc

-- ---- a line that every history has

module _ (course : SplitCourse) (done : List (ℕ × SplitLine)) (refused : Bool) (old new : List History) (undo undo' : UndoParts) (sink sink' : SinkState)
    (l : ℕ × SplitLine) (m : Met) (rest : List Event) (going : IsGoing course done refused (at old undo sink)) (next : l.0 ≡ suc (length done))
    (moved : AreMoved old new (λ view. Line l.0 ∷ rest)) (quiet : list_any is_line rest ≡ false)
    (is : met_at new (steps_of old done) l ≡ m) (there : OwnIsThere new l.0 l.1) where
  within : (v : ℕ) → v < course.views → v < length old
  within v less = subst (λ n. v < n) (sym going.views.count) less

  -- what is known of each history that went on so
  of-each : (P : ℕ → History → Type 0) → ((v : ℕ) → v < course.views → P v (appended (history_of old v) (Line l.0 ∷ rest)))
      → (v : ℕ) → v < course.views → P v (history_of new v)
  of-each P all v less = subst (P v) (sym (moved.each v (within v less))) (all v less)

  none-from : (v : ℕ) → v < course.views → has_line_from l.0 (history_of old v).events ≡ false
  none-from v less = ap (λ n. has_line_from n (history_of old v).events) next ∙ going.below v less

  pub going-all :
      ((v : ℕ) → v < course.views
      → IsUnderWay (part_of course.text v (met old done) ++ cons_option (entry_of course.text v m) [])
      (appended (history_of old v) (Line l.0 ∷ rest)))
      → ((v : ℕ) → v < course.views
      → (present_of (appended (history_of old v) (Line l.0 ∷ rest))).text ≡ (text_line course.text (steps_through m)).present)
      → IsUndoAfter course.text (steps_through m) undo'
      → Takes (answered course.text (m ∷ [])) sink sink'
      → IsGoing course (done ++ l ∷ []) (refused || refuses course.text m) (at new undo' sink')
  going-all under texts undone written =
      going-more course done refused old new undo undo' sink sink' l m going
      (grow-moved old new (λ view. Line l.0 ∷ rest) moved) next there is
      (record {
        count = moved.count ∙ going.views.count;
        opening = of-each (λ v k. k.opening ≡ course.text) going.views.opening;
      })
      (of-each (λ v k. IsUnderWay (part_of course.text v (met old done) ++ cons_option (entry_of course.text v m) []) k) under)
      (of-each (λ v k. IsBelow (suc (suc (length done))) k)
      (λ v less. subst (λ n. has_line_from (suc n) ((history_of old v).events ++ (Line l.0 ∷ rest)) ≡ false) next
      (below-line l.0 (history_of old v).events rest (none-from v less) quiet)))
      (texts-stay (suc (length done)) old new (λ view. Line l.0 ∷ rest) moved (λ v less. ap Line next))
      (of-each (λ v k. (present_of k).text ≡ (text_line course.text (steps_through m)).present) texts)
      undone written
