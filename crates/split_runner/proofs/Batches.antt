-- A batch that reaches every view, by an accepted edit of one of them, or by an undo or a redo.
use Rattle.std.proofs.Common.{◌≡◌, inl, inr, ℕ, zero, suc, ◌<◌, ◌≤◌, Bool, true, false, List, [], ◌∷◌, ◌++◌, length, map, take, drop, Option, Some, refl, sym, ap, ◌∙◌, subst, append_assoc, arith}
use Rattle.std.specs.Prelude.{◌==◌, if◌then◌else◌, nat_lt}
use Rattle.std.specs.List.{cons_option}
use Rattle.std.proofs.lemmas.Bool.{ltb-false, ltb-true}
use Rattle.std.proofs.lemmas.List.{get_or-map, length-map}
use Rattle.cell_units.specs.Operation.{Operation}
use Rattle.display_sheet.specs.declared.change.Splice.{Splice}
use Rattle.display_sheet.specs.Changes.{batch}
use Rattle.display_map.specs.Events.{Event, Line, Published}
use Rattle.display_map.specs.Replay.{History, appended, is_settled, present_of}
use Rattle.edit_script.specs.Commands.{Command}
use Rattle.edit_script.specs.Verdict.{Accepted, ops_of}
use Rattle.script_runner.specs.declared.stop.Stop.TheVariants as stops
use Rattle.script_runner.specs.Entries.{Entry, judged}
use Rattle.script_runner.specs.Going.{changed}
use Rattle.script_runner.specs.Legal.{IsOrderlySoFar}
use Rattle.script_runner.specs.Outside.{SinkState}
use Rattle.script_runner.proofs.LastLine.{dids}
use Rattle.split_views.specs.Views.{history_of}
use Rattle.split_views.specs.Whole.{ArePublished}
use Rattle.undo_line.specs.Inverse.{inverse, text_after}
use Rattle.undo_line.specs.TextLines.{IsLineOf, TextLine}
use Rattle.undo_line.specs.TextLines as texts
use Rattle.undo_line.specs.UndoParts.{UndoParts}
use Rattle.split_script.specs.Lines.{SplitLine}
use Rattle.split_script.specs.Met.{Edits, Met, Step, met, met_at, steps_of, text_line}
use Rattle.split_script.specs.Output.{answered}
use Rattle.split_script.specs.Parts.{BatchLine, batch_line, entry_of, part_of}
use Rattle.split_script.specs.Theorems.{SplitCourse}
use Rattle.split_script.proofs.Before.{StartWith}
use Rattle.split_runner.specs.Going.{AreMoved, IsCut, IsGoing, IsPrefixOf, IsUnderWay, IsUndoAfter, at, on}
use Rattle.split_runner.proofs.Cases.{batch-step, text-step}
use Rattle.split_runner.proofs.EditLines.{under-edit}
use Rattle.split_runner.proofs.ViewLines.{done-orderly}
use Rattle.split_runner.proofs.Within.{StayOrderly, cut-within, nothing-written}

-- ---- histories that all go on alike

unopened : History
unopened = record { opening = []; events = [] }

pub moved-all : (hs : List History) (es : List Event) → AreMoved hs (map (λ h. appended h es) hs) (λ v. es)
moved-all hs es = record {
  count = length-map hs (λ h. appended h es);
  each = λ v less. get_or-map (λ h. appended h es) hs v (record { opening = []; events = [] }) (record { opening = []; events = [] }) less;
}

-- the events of a view that is one of the first, or isn't
abbrev pub first-events : List Event → List Event → ℕ → ℕ → List Event
first-events es more count view = if nat_lt view count then es ++ more else es

abbrev in-part : List Event → List Event → List History → ℕ → List History
in-part es more hs count = map (λ h. appended h more) (take count (map (λ h. appended h es) hs)) ++ drop count (map (λ h. appended h es) hs)

first-below : (es more : List Event) (hs : List History) (count v : ℕ) → v < length hs → v < count
    → history_of (in-part es more hs count) v ≡ appended (history_of hs v) (es ++ more)
first-below es more [] count v less below = absurd (omega arith)
first-below es more (h ∷ hs) zero v less below = absurd (omega arith)
first-below es more (h ∷ hs) (suc count) zero less below = ap (λ l. record { opening = h.opening; events = l }) (append_assoc h.events es more)
first-below es more (h ∷ hs) (suc count) (suc v) less below = first-below es more hs count v (omega arith) (omega arith)

first-above : (es more : List Event) (hs : List History) (count v : ℕ) → v < length hs → count ≤ v
    → history_of (in-part es more hs count) v ≡ appended (history_of hs v) es
first-above es more [] count v less above = absurd (omega arith)
first-above es more (h ∷ hs) zero zero less above = refl
first-above es more (h ∷ hs) zero (suc v) less above = first-above es more hs zero v (omega arith) (omega arith)
first-above es more (h ∷ hs) (suc count) zero less above = absurd (omega arith)
first-above es more (h ∷ hs) (suc count) (suc v) less above = first-above es more hs count v (omega arith) (omega arith)

first-of : (es more : List Event) (hs : List History) (count v : ℕ) → v < length hs
    → history_of (in-part es more hs count) v ≡ appended (history_of hs v) (first-events es more count v)
first-of es more hs count v less = by (nat_lt v count) refl
  where
    by : (b : Bool) → nat_lt v count ≡ b → history_of (in-part es more hs count) v ≡ appended (history_of hs v) (first-events es more count v)
    by true is =
        first-below es more hs count v less (ltb-true v count is) ∙ ap (λ b. appended (history_of hs v) (if b then es ++ more else es)) (sym is)
    by false is =
        first-above es more hs count v less (ltb-false v count is) ∙ ap (λ b. appended (history_of hs v) (if b then es ++ more else es)) (sym is)

as-many : (es more : List Event) (hs : List History) (count : ℕ)
    → length (map (λ h. appended h more) (take count (map (λ h. appended h es) hs)) ++ drop count (map (λ h. appended h es) hs)) ≡ length hs
as-many es more [] zero = refl
as-many es more [] (suc count) = refl
as-many es more (h ∷ hs) zero = ap suc (as-many es more hs zero)
as-many es more (h ∷ hs) (suc count) = ap suc (as-many es more hs count)

-- some were published after that
pub moved-first : (hs mid new : List History) (es : List Event) (last : Bool) → mid ≡ map (λ h. appended h es) hs → (some : ArePublished last mid new)
    → AreMoved hs new (first-events es (Published last ∷ []) some.0)
moved-first hs mid new es last is some =
    subst (λ l. AreMoved hs l (first-events es (Published last ∷ []) some.0))
    (ap (λ l. map (λ h. appended h (Published last ∷ [])) (take some.0 l) ++ drop some.0 l) (sym is) ∙ sym some.1)
    (record { count = as-many es (Published last ∷ []) hs some.0; each = λ v less. first-of es (Published last ∷ []) hs some.0 v less })

pub twice-all : (hs : List History) (es more : List Event) → map (λ h. appended h more) (map (λ h. appended h es) hs) ≡ map (λ h. appended h (es ++ more)) hs
twice-all [] es more = refl
twice-all (h ∷ hs) es more =
    ap (λ l. record { opening = h.opening; events = l } ∷ map (λ h. appended h more) (map (λ h. appended h es) hs)) (append_assoc h.events es more)
    ∙ ap (λ l. appended h (es ++ more) ∷ l) (twice-all hs es more)

-- ---- the entry of each view

-- a view has an entry that is accepted, and asks for the operations of a batch
pub record IsEntry (number : ℕ) (h : History) (o : Option (ℕ × Entry)) (splices : List Splice) : Type 0 where
  pub entry : Entry
  pub is : o ≡ Some (number, entry)
  pub command : Command
  pub accepted : judged (present_of h) entry ≡ Accepted command
  pub ops : ops_of command ≡ batch splices

abbrev pub AreEntries : SplitCourse → List History → ℕ → Met → List Splice → Type 0
AreEntries course old number m splices =
    (v : ℕ) → v < course.views → IsEntry number (history_of old v) (entry_of course.text v m) splices

pub starts-so : (number : ℕ) (splices : List Splice) (es : List Event) → IsPrefixOf number splices es → StartWith number es
starts-so number splices es (inl e) = subst (StartWith number) (sym e) refl
starts-so number splices es (inr e) = subst (StartWith number) (sym e) refl

pub first-prefix : (number : ℕ) (splices : List Splice) (count v : ℕ) (op : Operation) (ops : List Operation) → batch splices ≡ op ∷ ops
    → IsPrefixOf number splices (first-events (Line number ∷ dids (batch splices)) (Published false ∷ []) count v)
first-prefix number splices count v op ops are = by (nat_lt v count)
  where
    whole : (l : List Operation) → l ≡ op ∷ ops → (Line number ∷ dids l) ++ Published false ∷ [] ≡ Line number ∷ changed l
    whole l e = subst (λ l. (Line number ∷ dids l) ++ Published false ∷ [] ≡ Line number ∷ changed l) (sym e) refl

    by : (b : Bool) → IsPrefixOf number splices (if b then (Line number ∷ dids (batch splices)) ++ Published false ∷ [] else Line number ∷ dids (batch splices))
    by true = inr (whole (batch splices) are)
    by false = inl refl

module _ (course : SplitCourse) (done : List (ℕ × SplitLine)) (refused : Bool) (old : List History) (undo : UndoParts) (sink : SinkState)
    (number : ℕ) (line : SplitLine) (m : Met) (splices : List Splice) (going : IsGoing course done refused (at old undo sink))
    (next : number ≡ suc (length done)) (settled : (v : ℕ) → v < course.views → is_settled (present_of (history_of old v)) ≡ true)
    (entries : AreEntries course old number m splices) where
  abbrev part : ℕ → List (ℕ × Entry)
  part v = part_of course.text v (met old done)

  pub entry-under : (v : ℕ) → v < course.views
      → IsUnderWay (part v ++ cons_option (entry_of course.text v m) []) (appended (history_of old v) (Line number ∷ changed (batch splices)))
  entry-under v less =
      let it = entries v less in
      subst (λ o. IsUnderWay (part v ++ cons_option o []) (appended (history_of old v) (Line number ∷ changed (batch splices)))) (sym it.is)
      (under-edit (part v) (history_of old v) number it.entry it.command (batch splices) (going.under_way v less) (settled v less) it.accepted it.ops)

  entry-orderly : (v : ℕ) → v < course.views → (later : List (ℕ × Entry))
      → IsOrderlySoFar (history_of old v).opening ((part v ++ cons_option (entry_of course.text v m) []) ++ later) 1
      ((history_of old v).events ++ (Line number ∷ dids (batch splices)))
  entry-orderly v less later =
      let it = entries v less in
      let h = history_of old v in
      subst (λ o. IsOrderlySoFar h.opening ((part v ++ cons_option o []) ++ later) 1 (h.events ++ (Line number ∷ dids (batch splices)))) (sym it.is)
      (subst (λ ops. IsOrderlySoFar h.opening ((part v ++ (number, it.entry) ∷ []) ++ later) 1 (h.events ++ (Line number ∷ dids ops))) it.ops
      (done-orderly (part v) h number it.entry (going.under_way v less) (settled v less) it.command it.accepted later))

  entry-stays : (new : List History) (more : ℕ → List Event) → AreMoved old new more → ((v : ℕ) → IsPrefixOf number splices (more v))
      → StayOrderly course done old new m
  entry-stays new more moved ways v less later =
      let h = history_of old v in
      subst (λ (k : History). IsOrderlySoFar h.opening ((part v ++ cons_option (entry_of course.text v m) []) ++ later) 1 k.events)
      (sym (moved.each v (subst (λ n. v < n) (sym going.views.count) less))) (by (more v) (ways v))
    where
      by : (es : List Event) → IsPrefixOf number splices es
          → IsOrderlySoFar (history_of old v).opening ((part v ++ cons_option (entry_of course.text v m) []) ++ later) 1 ((history_of old v).events ++ es)
      by es (inl e) =
          subst (λ es. IsOrderlySoFar (history_of old v).opening ((part v ++ cons_option (entry_of course.text v m) []) ++ later) 1 ((history_of old v).events ++ es))
          (sym e) (entry-orderly v less later)
      by es (inr e) =
          subst (λ es. IsOrderlySoFar (history_of old v).opening ((part v ++ cons_option (entry_of course.text v m) []) ++ later) 1 ((history_of old v).events ++ es))
          (sym e) ((entry-under v less).orderly later)

  -- there is no memory after the batch was done, or after some versions
  pub entry-short : (later : List (ℕ × SplitLine)) (undo' : UndoParts) (new : List History) (more : ℕ → List Event) → AreMoved old new more
      → ((v : ℕ) → IsPrefixOf number splices (more v)) → met_at new (steps_of old done) (number, line) ≡ m
      → IsCut (on course ((done ++ (number, line) ∷ []) ++ later)) (at new undo' sink) stops.Memory
  entry-short later undo' new more moved ways is =
      cut-within course done later refused old new undo sink (number, line) m more going next moved
      (λ v less. starts-so number splices (more v) (ways v)) is undo' sink stops.Memory (entry-stays new more moved ways)
      (nothing-written (answered course.text (m ∷ [])) sink)

-- ---- the undo line

-- where the undo line was made ready
pub record IsSameLine (old new : UndoParts) : Type 0 where
  pub past : new.past ≡ old.past
  pub future : new.future ≡ old.future
  pub line : (line : TextLine) → IsLineOf old line → IsLineOf new line

pub undo-same : (text : List ℕ) (steps : List Step) (old new : UndoParts) → IsSameLine old new → IsUndoAfter text steps old → IsUndoAfter text steps new
undo-same text steps old new same it = record {
  past = same.past ∙ it.past;
  future = same.future ∙ it.future;
  present = it.present;
  leads = same.line (text_line text steps) it.leads;
}

module _ (text : List ℕ) (past : List Step) (old new : UndoParts) (it : IsUndoAfter text past old) where
  abbrev line : TextLine
  line = text_line text past

  abbrev batches : BatchLine
  batches = batch_line text past

  -- after an edit without operations
  pub undo-still : (splices : List Splice) → (length (batch splices) == 0) ≡ true → IsSameLine old new → IsUndoAfter text (past ++ Edits splices ∷ []) new
  undo-still splices none same =
      let text-is : text_line text (past ++ Edits splices ∷ []) ≡ line =
      text-step text past (Edits splices)
      ∙ ap (λ b. if b then line else record { past = line.present ∷ line.past; present = text_after line.present splices; future = [] }) none in
      let batch-is : batch_line text (past ++ Edits splices ∷ []) ≡ batches =
      batch-step text past (Edits splices)
      ∙ ap (λ b. if b then batches else record { past = inverse batches.present splices ∷ batches.past; present = text_after batches.present splices; future = [] }) none in
      record {
        past = same.past ∙ (it.past ∙ ap (λ b. b.past) (sym batch-is));
        future = same.future ∙ (it.future ∙ ap (λ b. b.future) (sym batch-is));
        present = ap (λ b. b.present) batch-is ∙ (it.present ∙ ap (λ t. t.present) (sym text-is));
        leads = subst (IsLineOf new) (sym text-is) (same.line line it.leads);
      }

  -- after an edit
  pub undo-edited : (splices back : List Splice) → (length (batch splices) == 0) ≡ false → back ≡ inverse line.present splices
      → new.past ≡ back ∷ old.past → new.future ≡ [] → IsLineOf new (texts.edited splices line) → IsUndoAfter text (past ++ Edits splices ∷ []) new
  undo-edited splices back some is past-is future-is leads =
      let text-is : text_line text (past ++ Edits splices ∷ []) ≡ texts.edited splices line = text-step text past (Edits splices) in
      let now : BatchLine = record { past = inverse batches.present splices ∷ batches.past; present = text_after batches.present splices; future = [] } in
      let batch-is : batch_line text (past ++ Edits splices ∷ []) ≡ now =
      batch-step text past (Edits splices) ∙ ap (λ b. if b then batches else now) some in
      let edited-is : texts.edited splices line ≡ record { past = line.present ∷ line.past; present = text_after line.present splices; future = [] } =
      ap (λ b. if b then line else record { past = line.present ∷ line.past; present = text_after line.present splices; future = [] }) some in
      record {
        past = past-is ∙ (ap (λ b. b ∷ old.past) (is ∙ ap (λ t. inverse t splices) (sym it.present))
            ∙ (ap (λ l. inverse batches.present splices ∷ l) it.past ∙ ap (λ b. b.past) (sym batch-is)));
        future = future-is ∙ ap (λ b. b.future) (sym batch-is);
        present = ap (λ b. b.present) batch-is
            ∙ (ap (λ t. text_after t splices) it.present ∙ ap (λ t. t.present) (sym (text-is ∙ edited-is)));
        leads = subst (IsLineOf new) (sym text-is) leads;
      }
