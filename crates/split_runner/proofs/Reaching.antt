-- What a change that is a batch makes of every view, and of a run.
use Rattle.std.proofs.Common.{◌≡◌, inl, ℕ, zero, suc, ◌+◌, ◌<◌, ◌≤◌, Bool, true, false, List, [], ◌∷◌, ◌++◌, All, length, map, reverse, Option, Some, None, option_map, Result, Ok, Err, refl, sym, ap, ◌∙◌, subst, length-append, arith}
use Rattle.std.specs.Prelude.{filter, ◌==◌, if◌then◌else◌}
use Rattle.std.specs.List.{list_all}
use Rattle.std.specs.Result.{IfErr, IsErrAnd}
use Rattle.std.specs.Str.{IsUtf8, is_utf8}
use Rattle.std.proofs.lemmas.Bool.{and_from, eqb-true}
use Rattle.std.proofs.lemmas.List.{length-map, length-reverse}
use Rattle.std.proofs.lemmas.List.Sums.{count_by-le-length, length-filter}
use Rattle.std.proofs.lemmas.List.Elements.{All-cons, All-head, All-nil, All-tail}
use Rattle.std.proofs.lemmas.Str.{is_utf8-from_IsUtf8}
use Rattle.cell_units.specs.Record.{Record}
use Rattle.cell_units.specs.Operation.{AddBlock, AddFold, AddInlay, Operation, RemoveBlock, RemoveFold, RemoveInlay, Replace, SetTab, SetWidth}
use Rattle.cell_units.specs.declared.fault.Fault.{Fault}
use Rattle.cell_units.specs.declared.fault.Fault.TheVariants as faults
use Rattle.display_map.specs.Prepared.{IsOwed}
use Rattle.display_sheet.specs.declared.change.Change.{Change}
use Rattle.display_sheet.specs.declared.change.Splice.{Splice}
use Rattle.display_sheet.specs.Changes.{ChangeParts, Edit, One, batch, is_operation, replacement, change_refusal, edit_refusal, parts_of, refusal_of}
use Rattle.display_map.specs.Events.{Event, Line, Published, event_limit}
use Rattle.display_map.specs.Replay.{History, appended, present_of}
use Rattle.edit_script.specs.declared.asked.Form.TheVariants.{First}
use Rattle.edit_script.specs.Commands.{Apply}
use Rattle.edit_script.specs.Verdict.{Accepted}
use Rattle.script_runner.specs.Entries.{Bytes, Edited, Entry, judged}
use Rattle.script_runner.specs.Going as runs
use Rattle.script_runner.specs.Outside.{SinkState}
use Rattle.script_runner.proofs.LastLine.{dids}
use Rattle.split_views.specs.Whole.{ArePublished}
use Rattle.split_views.specs.Views.{added, appended_in, changed, history_of, is_edit}
use Rattle.split_views.proofs.Texts.{judged-alike}
use Rattle.undo_line.specs.UndoParts.{UndoParts}
use Rattle.split_script.specs.Lines.{Own, SplitLine}
use Rattle.split_script.specs.Met.{Met, before_line, edit_in, editing, has_line_from, met_at, nothing, splices_in, step_for, steps_of, verdict_on}
use Rattle.split_script.specs.Parts.{batch_line, batch_of, entry_for, entry_of}
use Rattle.split_script.specs.Theorems.{SplitCourse}
use Rattle.split_script.proofs.Before.{StartWith, before-stays}
use Rattle.split_script.proofs.Mets.{before-all}
use Rattle.split_runner.specs.Going.{AreMoved, HasBegunIn, IsAcceptedIn, IsGoing, IsPrefixOf, IsUnreached, at, done_in_all}
use Rattle.split_runner.proofs.Batches.{AreEntries, IsEntry, first-events, first-prefix, moved-all, moved-first, twice-all}
use Rattle.split_runner.proofs.EditLines.{edit-accepted}
use Rattle.split_runner.proofs.Edits.{batch-of-change}

-- ---- a change that is a batch

pub edit-reaches : (p : ChangeParts) (splices : List Splice) → splices_in p ≡ Some splices → is_edit p ≡ true
edit-reaches (Edit other) splices e = refl
edit-reaches (One (Replace a b s)) splices e = refl
edit-reaches (One (AddInlay inlay)) splices e = cc
edit-reaches (One (RemoveInlay id)) splices e = cc
edit-reaches (One (AddFold fold)) splices e = cc
edit-reaches (One (RemoveFold id)) splices e = cc
edit-reaches (One (AddBlock row id side lines)) splices e = cc
edit-reaches (One (RemoveBlock id)) splices e = cc
edit-reaches (One (SetTab tab)) splices e = cc
edit-reaches (One (SetWidth width)) splices e = cc

pub some-same : {X : Type 0} {x y : X} → Some x ≡ Some y → x ≡ y
some-same e = cc

pub edit-refused-as : (r : Record) (p : ChangeParts) (splices : List Splice) → splices_in p ≡ Some splices → refusal_of r p ≡ edit_refusal r splices
edit-refused-as r (Edit other) splices e = ap (edit_refusal r) (some-same e)
edit-refused-as r (One (Replace a b s)) splices e = ap (edit_refusal r) (some-same e)
edit-refused-as r (One (AddInlay inlay)) splices e = cc
edit-refused-as r (One (RemoveInlay id)) splices e = cc
edit-refused-as r (One (AddFold fold)) splices e = cc
edit-refused-as r (One (RemoveFold id)) splices e = cc
edit-refused-as r (One (AddBlock row id side lines)) splices e = cc
edit-refused-as r (One (RemoveBlock id)) splices e = cc
edit-refused-as r (One (SetTab tab)) splices e = cc
edit-refused-as r (One (SetWidth width)) splices e = cc

-- it is done in every view
pub edit-done : (old : List History) (view number : ℕ) (change : Change) (splices : List Splice) → splices_in (parts_of change) ≡ Some splices
    → changed old view number change ≡ map (λ h. appended h (Line number ∷ dids (batch splices))) old
edit-done old view number change splices e =
    ap (λ b. if b then map (λ h. appended h (added number change)) old else appended_in old view (added number change)) (edit-reaches (parts_of change) splices e)
    ∙ ap (λ ops. map (λ h. appended h (Line number ∷ dids ops)) old) (batch-of-change (parts_of change) splices e)

pub tested-utf8 : (splices : List Splice) → All (λ s. IsUtf8 s.text) splices → list_all (λ s. is_utf8 s.text) splices ≡ true
tested-utf8 [] all = refl
tested-utf8 (s ∷ splices) all =
    let P : Splice → Type 0 = λ s. IsUtf8 s.text in
    and_from (is_utf8 s.text) (list_all (λ s. is_utf8 s.text) splices) (is_utf8-from_IsUtf8 s.text (All-head P s splices all))
    (tested-utf8 splices (All-tail P s splices all))

-- ---- the entries of a batch that one view accepts

module _ (course : SplitCourse) (done : List (ℕ × SplitLine)) (refused : Bool) (old : List History) (undo : UndoParts) (sink : SinkState)
    (number view : ℕ) (splices : List Splice) (going : IsGoing course done refused (at old undo sink)) (lt : view < course.views)
    (accepted : IsAcceptedIn view splices old) where
  -- every view accepts it, since they have one text
  pub fits : (v : ℕ) → v < course.views → edit_refusal (present_of (history_of old v)) splices ≡ None
  fits v less =
      judged-alike (present_of (history_of old v)) (present_of (history_of old view)) (Edit splices) refl
      (going.present v less ∙ sym (going.present view lt)) ∙ accepted.accepted

  elsewhere : (v : ℕ) → v < course.views → judged (present_of (history_of old v)) (Edited splices) ≡ Accepted (Apply (Edit splices))
  elsewhere v less = edit-accepted (present_of (history_of old v)) splices (tested-utf8 splices accepted.utf8) (fits v less)

  -- of an undo or a redo
  pub shared-entries : (line : SplitLine) → ((v : ℕ) (o : Option (List Splice)) → entry_for v o line ≡ option_map Edited o)
      → batch_of (batch_line course.text (steps_of old done)) (step_for nothing line) ≡ Some splices
      → AreEntries course old number (record { number = number; line = line; before = nothing; past = steps_of old done }) splices
  shared-entries line shared does v less = record {
    entry = Edited splices;
    is = ap (option_map {U = ℕ × Entry} (λ entry. (number, entry)))
        (shared v (batch_of (batch_line course.text (steps_of old done)) (step_for nothing line)) ∙ ap (option_map Edited) does);
    command = Apply (Edit splices);
    accepted = elsewhere v less;
    ops = refl;
  }

  -- of an edit of the view
  module _ (bytes : List ℕ) (change : ChangeParts) (edit : splices_in change ≡ Some splices)
      (is : verdict_on (history_of old view) bytes ≡ Accepted (Apply change)) where
    abbrev own : Met
    own = record { number = number; line = Own view bytes; before = history_of old view; past = steps_of old done }

    own-entry : (v : ℕ) → entry_of course.text v own ≡ Some (number, (if view == v then Bytes First bytes else Edited splices))
    own-entry v =
        ap (λ s. option_map {U = ℕ × Entry} (λ entry. (number, entry)) (entry_for v (batch_of (batch_line course.text (steps_of old done)) s) (Own view bytes)))
        (ap (λ x. editing (edit_in x)) is ∙ ap editing edit)
        ∙ either (view == v)
      where
        either : (b : Bool) → option_map {U = ℕ × Entry} (λ entry. (number, entry)) (if b then Some (Bytes First bytes) else option_map Edited (Some splices))
            ≡ Some (number, (if b then Bytes First bytes else Edited splices))
        either true = refl
        either false = refl

    pub own-entries : AreEntries course old number own splices
    own-entries v less = by (view == v) refl
      where
        by : (b : Bool) → (view == v) ≡ b → IsEntry number (history_of old v) (entry_of course.text v own) splices
        by true e = record {
          entry = Bytes First bytes;
          is = own-entry v ∙ ap (λ b. Some (number, (if b then Bytes First bytes else Edited splices))) e;
          command = Apply change;
          accepted = ap (λ u. verdict_on (history_of old u) bytes) (sym (eqb-true view v e)) ∙ is;
          ops = batch-of-change change splices edit;
        }
        by false e = record {
          entry = Edited splices;
          is = own-entry v ∙ ap (λ b. Some (number, (if b then Bytes First bytes else Edited splices))) e;
          command = Apply (Edit splices);
          accepted = elsewhere v less;
          ops = refl;
        }

-- how the line of a view is met whose history goes on from it
pub own-met : (course : SplitCourse) (done : List (ℕ × SplitLine)) (refused : Bool) (old new : List History) (undo : UndoParts) (sink : SinkState)
    (number view : ℕ) (bytes : List ℕ) (more : ℕ → List Event) → IsGoing course done refused (at old undo sink) → number ≡ suc (length done)
    → view < course.views → AreMoved old new more → StartWith number (more view)
    → met_at new (steps_of old done) (number, Own view bytes)
    ≡ record { number = number; line = Own view bytes; before = history_of old view; past = steps_of old done }
own-met course done refused old new undo sink number view bytes more going next lt moved starts =
    let P : History → Met = λ k. record { number = number; line = Own view bytes; before = k; past = steps_of old done } in
    ap P (ap (before_line number) (moved.each view (subst (λ n. view < n) (sym going.views.count) lt))
    ∙ (before-stays number number (history_of old view) (more view) (omega arith) starts
    ∙ before-all number (history_of old view) (ap (λ n. has_line_from n (history_of old view).events) next ∙ going.below view lt)))

-- ---- room

-- a journal that has room for more has room for what comes after some events
pub room-after : (hs : List History) (n k : ℕ) (es : List Event) → length es ≤ n → All (λ h. length h.events + (n + k) ≤ event_limit) hs
    → All (λ h. length h.events + k ≤ event_limit) (map (λ h. appended h es) hs)
room-after [] n k es few room = All-nil (λ (h : History). length h.events + k ≤ event_limit)
room-after (h ∷ hs) n k es few room =
    let P : History → Type 0 = λ h. length h.events + (n + k) ≤ event_limit in
    let Q : History → Type 0 = λ h. length h.events + k ≤ event_limit in
    let here : length h.events + (n + k) ≤ event_limit = All-head P h hs room in
    let longer : length (h.events ++ es) ≡ length h.events + length es = length-append h.events es in
    All-cons Q (appended h es) (map (λ h. appended h es) hs) (omega (arith, here, longer, few)) (room-after hs n k es few (All-tail P h hs room))

-- ---- how far a change that is a batch came

-- it was done, but nothing was published yet
pub begun-done : (view number : ℕ) (splices : List Splice) (old new : List History) → IsAcceptedIn view splices old
    → new ≡ map (λ h. appended h (Line number ∷ dids (batch splices))) old → HasBegunIn view number splices old new
begun-done view number splices old new accepted is = record {
  accepted = accepted;
  more = λ v. Line number ∷ dids (batch splices);
  moved = subst (λ l. AreMoved old l (λ v. Line number ∷ dids (batch splices))) (sym is) (moved-all old (Line number ∷ dids (batch splices)));
  each = λ v. inl refl;
}

-- ... or some of the versions were
pub begun-published : (view number : ℕ) (splices : List Splice) (old mid new : List History) → IsAcceptedIn view splices old
    → mid ≡ map (λ h. appended h (Line number ∷ dids (batch splices))) old → 0 < length (batch splices) → ArePublished false mid new
    → HasBegunIn view number splices old new
begun-published view number splices old mid new accepted is some published = record {
  accepted = accepted;
  more = first-events (Line number ∷ dids (batch splices)) (Published false ∷ []) published.0;
  moved = moved-first old mid new (Line number ∷ dids (batch splices)) false is published;
  each = λ v. by v (batch splices) refl some;
}
  where
    by : (v : ℕ) (ops : List Operation) → batch splices ≡ ops → 0 < length ops
        → IsPrefixOf number splices (first-events (Line number ∷ dids (batch splices)) (Published false ∷ []) published.0 v)
    by v [] e some = absurd (omega (arith, some))
    by v (op ∷ ops) e some = first-prefix number splices published.0 v op ops e

-- all of it is done, with the versions where there is an operation
pub done-published : (number : ℕ) (splices : List Splice) (old mid new : List History)
    → mid ≡ map (λ h. appended h (Line number ∷ dids (batch splices))) old → 0 < length (batch splices)
    → new ≡ map (λ h. appended h (Published false ∷ [])) mid → new ≡ done_in_all number splices old
done-published number splices old mid new is some published =
    published ∙ (ap (map (λ h. appended h (Published false ∷ []))) is
    ∙ (twice-all old (Line number ∷ dids (batch splices)) (Published false ∷ [])
    ∙ by (batch splices) some))
  where
    by : (ops : List Operation) → 0 < length ops
        → map (λ h. appended h ((Line number ∷ dids ops) ++ Published false ∷ [])) old ≡ map (λ h. appended h (Line number ∷ runs.changed ops)) old
    by [] some = absurd (omega (arith, some))
    by (op ∷ ops) some = refl

pub done-silent : (number : ℕ) (splices : List Splice) (old mid : List History)
    → mid ≡ map (λ h. appended h (Line number ∷ dids (batch splices))) old → length (batch splices) ≡ 0 → mid ≡ done_in_all number splices old
done-silent number splices old mid is none = is ∙ by (batch splices) none
  where
    by : (ops : List Operation) → length ops ≡ 0
        → map (λ h. appended h (Line number ∷ dids ops)) old ≡ map (λ h. appended h (Line number ∷ runs.changed ops)) old
    by [] none = refl
    by (op ∷ ops) none = absurd (omega (arith, none))

-- ---- why it wasn't done

pub if-err : {A E : Type 0} (r : Result A E) (P : E → Type 0) (error : E) → IsErrAnd r (λ e. e ≡ error) → P error → IfErr r P
if-err (Ok a) P error e it = absurd e
if-err (Err other) P error e it = subst P (sym e) it

pub owed-unreached : (view number : ℕ) (change : Change) (splices : List Splice) (old new : List History) (fault : Fault)
    → IsOwed (change_refusal (present_of (history_of old view)) change) fault → new ≡ old → IsUnreached view number change splices old new fault
owed-unreached view number change splices old new (faults.Refused refusal) owed same = (owed, same)
owed-unreached view number change splices old new faults.NoMemory owed same = inl same

pub positive : (n : ℕ) → (n ≡ 0 → ⊥) → 0 < n
positive zero apart = absurd (apart refl)
positive (suc n) apart = omega arith

-- the operations of a batch are at most its entries
pub few-splices : (splices : List Splice) → length (batch splices) ≤ length splices
few-splices splices =
    let some : List Splice = filter is_operation splices in
    let mapped = length-map (reverse some) replacement in
    let turned = length-reverse some in
    let filtered = length-filter is_operation splices in
    let few = count_by-le-length is_operation splices in
    omega arith
