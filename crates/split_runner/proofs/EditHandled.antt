-- How the handling of a line ends that asks for an edit, or for the change of one view.
use Rattle.std.proofs.Common.{◌≡◌, ◌⊎◌, inl, inr, ℕ, suc, ◌+◌, ◌<◌, ◌≤◌, Bool, true, false, List, [], ◌∷◌, ◌++◌, length, map, set, Some, None, Result, Ok, refl, sym, ap, ◌∙◌, subst, append_assoc, length-append, true≢false, if◌then◌else◌, arith}
use Rattle.std.specs.Prelude.{◌||◌, fold}
use Rattle.std.specs.List.{list_any}
use Rattle.std.specs.Result.{IsErrAnd}
use Rattle.std.proofs.lemmas.Bool.{eq-eqb, ne_eqb}
use Rattle.std.proofs.lemmas.List.{get_or-set_same, length-map, set-set}
use Rattle.cell_units.specs.Operation.{AddBlock, AddFold, AddInlay, Operation, RemoveBlock, RemoveFold, RemoveInlay, Replace, SetTab, SetWidth}
use Rattle.cell_units.specs.declared.fault.Refusal.{Refusal}
use Rattle.display_sheet.specs.declared.change.Change.{Change}
use Rattle.display_sheet.specs.declared.change.Splice.{Splice}
use Rattle.display_sheet.specs.Changes.{ChangeParts, Edit, One, batch, change_refusal, operations_in, ops_of, parts_of}
use Rattle.display_map.specs.Events.{Did, Event, Line, Published, event_limit}
use Rattle.display_map.specs.Replay.{History, appended, present_of}
use Rattle.edit_script.specs.declared.asked.Form.TheVariants.{First}
use Rattle.edit_script.specs.Commands.{Apply}
use Rattle.edit_script.specs.Verdict.{Accepted, Refused, Verdict, refused_or}
use Rattle.script_runner.specs.declared.stop.Stop.{Stop}
use Rattle.script_runner.specs.declared.stop.Stop.TheVariants as stops
use Rattle.script_runner.specs.Entries.{Bytes}
use Rattle.script_runner.specs.Going as runs
use Rattle.script_runner.specs.Legal.{is_line}
use Rattle.script_runner.specs.Outside.{SinkState, Takes}
use Rattle.script_runner.specs.Output.{printed, verdict_lines}
use Rattle.script_runner.proofs.Fronts.{takes-none}
use Rattle.script_runner.proofs.LastLine.{dids}
use Rattle.split_views.specs.Views.{added, appended_in, changed, history_of, is_edit}
use Rattle.split_views.proofs.Reached.{as-many, in-own}
use Rattle.split_views.proofs.Texts.{text-appended, text_on}
use Rattle.undo_line.specs.Inverse.{Leads, inverse, text_after}
use Rattle.undo_line.specs.TextLines.{IsLineOf, TextLine}
use Rattle.undo_line.specs.TextLines as texts
use Rattle.undo_line.specs.UndoParts.{UndoParts}
use Rattle.undo_line.proofs.Inverses.{length-inverse}
use Rattle.split_script.specs.Lines.{Own, SplitLine, prefixed}
use Rattle.split_script.specs.Met.{Edits, edit_in, met, splices_in, steps_of, text_line, verdict_on}
use Rattle.split_script.specs.Output.{is_refused}
use Rattle.split_script.specs.Parts.{part_of}
use Rattle.split_script.specs.Theorems.{SplitCourse}
use Rattle.split_runner.specs.Going.{HandlesOwn, HasBegunIn, IsAcceptedIn, IsCut, IsGoing, IsReady, IsUndoAfter, at, change_verdict, done_in_all, on}
use Rattle.split_runner.proofs.Batches.{IsSameLine, entry-short, moved-all, starts-so, undo-edited, undo-same, undo-still}
use Rattle.split_runner.proofs.EditLines.{changed-quiet, going-edit, under-edit}
use Rattle.split_runner.proofs.OwnAnswers.{moved-in}
use Rattle.split_runner.proofs.OwnHandled.{line-short}
use Rattle.split_runner.proofs.OwnLines.{going-own, in_view, is-met, own-stays, starts}
use Rattle.split_runner.proofs.Reaching.{edit-refused-as, fits, own-entries, own-met, tested-utf8}
use Rattle.split_runner.proofs.ViewLines.{done-orderly}
use Rattle.split_runner.proofs.Within.{cut-within, handled-err, nothing-written}

-- a run that goes on is as ready with an undo line that was made ready
pub ready-same : (course : SplitCourse) (done : List (ℕ × SplitLine)) (refused : Bool) (hs : List History) (undo undo' : UndoParts) (sink : SinkState)
    → IsSameLine undo undo' → IsReady course done refused (at hs undo sink) → IsReady course done refused (at hs undo' sink)
ready-same course done refused hs undo undo' sink same ready = record {
  going = going-same course done refused hs undo undo' sink same ready.going;
  settled = ready.settled;
  room = ready.room;
}
  where
    going-same : (course : SplitCourse) (done : List (ℕ × SplitLine)) (refused : Bool) (hs : List History) (undo undo' : UndoParts) (sink : SinkState)
        → IsSameLine undo undo' → IsGoing course done refused (at hs undo sink) → IsGoing course done refused (at hs undo' sink)
    going-same course done refused hs undo undo' sink same going = record {
      views = going.views;
      under_way = going.under_way;
      below = going.below;
      there = going.there;
      numbers = going.numbers;
      texts = going.texts;
      present = going.present;
      undo = undo-same course.text (steps_of hs done) undo undo' same going.undo;
      written = going.written;
      refusals = going.refusals;
    }

-- a change that its view refuses is handled as the refusal is
pub change-refused : (number view : ℕ) (hs hs' new : List History) (undo undo' undo'' : UndoParts) (sink sink' : SinkState) (change : Change) (refusal : Refusal)
    (r : Result Bool Stop) → hs' ≡ hs → IsSameLine undo undo' → change_refusal (present_of (history_of hs view)) change ≡ Some refusal
    → HandlesOwn number view (Refused refusal) (at hs' undo' sink) (at new undo'' sink') r
    → HandlesOwn number view (change_verdict (history_of hs view) change) (at hs undo sink) (at new undo'' sink') r
change-refused number view hs hs' new undo undo' undo'' sink sink' change refusal r same line owed handled bytes is course done refused next ready =
    let H : List History → Type 0 = λ l. HandlesOwn number view (Refused refusal) (at l undo' sink) (at new undo'' sink') r in
    let at-hs : H hs = subst H same handled in
    at-hs bytes (is ∙ ap (refused_or (Apply (parts_of change))) owed) course done refused next (ready-same course done refused hs undo undo' sink line ready)

module _ (number view : ℕ) (hs new : List History) (undo undo' : UndoParts) (sink : SinkState) (change : Change) (splices : List Splice)
    (there : view < length hs) (edit : splices_in (parts_of change) ≡ Some splices) where
  abbrev owed-verdict : Verdict
  owed-verdict = change_verdict (history_of hs view) change

  -- there was no memory
  pub edit-short : (r : Result Bool Stop) → IsErrAnd r (λ e. e ≡ stops.Memory)
      → (new ≡ hs) ⊎ HasBegunIn view number splices hs new
      → HandlesOwn number view owed-verdict (at hs undo sink) (at new undo' sink) r
  edit-short r e (inl same) bytes is course done refused next ready =
      line-short number (Own view bytes) hs new undo undo' sink r e same course done refused next ready
  edit-short r e (inr begun) bytes is course done refused next ready =
      let lt : view < course.views = subst (λ n. view < n) ready.going.views.count there in
      let none = edit-refused-as (present_of (history_of hs view)) (parts_of change) splices edit ∙ begun.accepted.accepted in
      let accepts : verdict_on (history_of hs view) bytes ≡ Accepted (Apply (parts_of change)) = is ∙ ap (refused_or (Apply (parts_of change))) none in
      handled-err course (done ++ (number, Own view bytes) ∷ []) refused (at new undo' sink) r stops.Memory e
      (λ later. entry-short course done refused hs undo sink number (Own view bytes)
      (record { number = number; line = Own view bytes; before = history_of hs view; past = steps_of hs done }) splices ready.going next ready.settled
      (own-entries course done refused hs undo sink number view splices ready.going lt begun.accepted bytes (parts_of change) edit accepts)
      later undo' new begun.more begun.moved begun.each
      (own-met course done refused hs new undo sink number view bytes begun.more ready.going next lt begun.moved
      (starts-so number splices (begun.more view) (begun.each view))))

  -- it was done
  pub edit-handled : IsAcceptedIn view splices hs → change_refusal (present_of (history_of hs view)) change ≡ None → new ≡ done_in_all number splices hs
      → ((text : List ℕ) (done : List (ℕ × SplitLine)) → (text_line text (steps_of hs done)).present ≡ (present_of (history_of hs view)).text
      → IsUndoAfter text (steps_of hs done) undo → IsUndoAfter text (steps_of hs done ++ Edits splices ∷ []) undo')
      → HandlesOwn number view owed-verdict (at hs undo sink) (at new undo' sink) (Ok false)
  edit-handled accepted none all undone bytes is course done refused next ready =
      let lt : view < course.views = subst (λ n. view < n) ready.going.views.count there in
      let accepts : verdict_on (history_of hs view) bytes ≡ Accepted (Apply (parts_of change)) = is ∙ ap (refused_or (Apply (parts_of change))) none in
      let l : ℕ × SplitLine = (number, Own view bytes) in
      subst (λ k. IsGoing course (done ++ l ∷ []) (refused || false) (at k undo' sink)) (sym all)
      (subst (λ b. IsGoing course (done ++ l ∷ []) (refused || b) (at (done_in_all number splices hs) undo' sink)) (ap is_refused accepts)
      (going-edit course done refused hs (done_in_all number splices hs) undo undo' sink number view bytes (parts_of change) splices ready.going next lt
      ready.settled accepts edit (tested-utf8 splices accepted.utf8) (fits course done refused hs undo sink number view splices ready.going lt accepted)
      (moved-all hs (Line number ∷ runs.changed (batch splices)))
      (undone course.text done (sym (ready.going.present view lt)) ready.going.undo)))

-- ---- the change of one view

-- a change that is no batch does one operation, which keeps the text
pub record IsAlone (p : ChangeParts) : Type 0 where
  pub op : Operation
  pub ops : operations_in p ≡ op ∷ []
  pub edit : is_edit p ≡ false
  pub kept : (text : List ℕ) (number : ℕ) → fold text_on text (Line number ∷ runs.changed (op ∷ [])) ≡ text

pub alone-of : (p : ChangeParts) → splices_in p ≡ None → IsAlone p
alone-of (Edit splices) e = absurd (some-none e)
  where
    some-none : {X : Type 0} {x : X} → Some x ≡ None → ⊥
    some-none e = cc
alone-of (One (Replace a b s)) e = absurd (some-none e)
  where
    some-none : {X : Type 0} {x : X} → Some x ≡ None → ⊥
    some-none e = cc
alone-of (One (AddInlay inlay)) e = record { op = AddInlay inlay; ops = refl; edit = refl; kept = λ text number. refl }
alone-of (One (RemoveInlay id)) e = record { op = RemoveInlay id; ops = refl; edit = refl; kept = λ text number. refl }
alone-of (One (AddFold fold)) e = record { op = AddFold fold; ops = refl; edit = refl; kept = λ text number. refl }
alone-of (One (RemoveFold id)) e = record { op = RemoveFold id; ops = refl; edit = refl; kept = λ text number. refl }
alone-of (One (AddBlock row id side lines)) e = record { op = AddBlock row id side lines; ops = refl; edit = refl; kept = λ text number. refl }
alone-of (One (RemoveBlock id)) e = record { op = RemoveBlock id; ops = refl; edit = refl; kept = λ text number. refl }
alone-of (One (SetTab tab)) e = record { op = SetTab tab; ops = refl; edit = refl; kept = λ text number. refl }
alone-of (One (SetWidth width)) e = record { op = SetWidth width; ops = refl; edit = refl; kept = λ text number. refl }

dids-no-line : (ops : List Operation) → list_any is_line (dids ops) ≡ false
dids-no-line [] = refl
dids-no-line (op ∷ ops) = dids-no-line ops

twice-in : (hs : List History) (view : ℕ) (es more : List Event) → view < length hs
    → appended_in (appended_in hs view es) view more ≡ appended_in hs view (es ++ more)
twice-in hs view es more lt =
    ap (λ h. set (appended_in hs view es) view (appended h more)) (get_or-set_same hs view (appended (history_of hs view) es) (record { opening = []; events = [] }) lt)
    ∙ (set-set hs view (appended (history_of hs view) es) (appended (appended (history_of hs view) es) more)
    ∙ ap (λ l. set hs view (record { opening = (history_of hs view).opening; events = l })) (append_assoc (history_of hs view).events es more))

module _ (number view : ℕ) (hs mid new : List History) (undo : UndoParts) (sink : SinkState) (change : Change) (there : view < length hs)
    (alone : splices_in (parts_of change) ≡ None) (none : change_refusal (present_of (history_of hs view)) change ≡ None)
    (done-is : mid ≡ changed hs view number change) where
  abbrev it : IsAlone (parts_of change)
  it = alone-of (parts_of change) alone

  abbrev rest : List Event
  rest = dids (ops_of change)

  mid-is : mid ≡ appended_in hs view (Line number ∷ rest)
  mid-is = done-is ∙ not-edit (is_edit (parts_of change)) it.edit
    where
      not-edit : (b : Bool) → b ≡ false → (if b then map (λ h. appended h (added number change)) hs else appended_in hs view (added number change))
          ≡ appended_in hs view (Line number ∷ rest)
      not-edit true e = absurd (true≢false e)
      not-edit false e = refl

  accepts : (bytes : List ℕ) → verdict_on (history_of hs view) bytes ≡ change_verdict (history_of hs view) change
      → verdict_on (history_of hs view) bytes ≡ Accepted (Apply (parts_of change))
  accepts bytes is = is ∙ ap (refused_or (Apply (parts_of change))) none

  -- there was no memory for its version
  pub alone-short : (r : Result Bool Stop) → IsErrAnd r (λ e. e ≡ stops.Memory) → new ≡ mid
      → HandlesOwn number view (change_verdict (history_of hs view) change) (at hs undo sink) (at new undo sink) r
  alone-short r e same bytes is course done refused next ready =
      let lt : view < course.views = subst (λ n. view < n) ready.going.views.count there in
      let now = appended_in hs view (Line number ∷ rest) in
      let moved = moved-in hs view (Line number ∷ rest) there in
      let quiet = dids-no-line (ops_of change) in
      handled-err course (done ++ (number, Own view bytes) ∷ []) refused (at new undo sink) r stops.Memory e
      (λ later. subst (λ h. IsCut (on course ((done ++ (number, Own view bytes) ∷ []) ++ later)) (at h undo sink) stops.Memory) (sym (same ∙ mid-is))
      (cut-within course done later refused hs now undo sink (number, Own view bytes)
      (record { number = number; line = Own view bytes; before = history_of hs view; past = steps_of hs done }) (in_view view (Line number ∷ rest)) ready.going next moved
      (starts course done refused hs now undo sink sink number view bytes rest ready.going next lt moved quiet)
      (is-met course done refused hs now undo sink sink number view bytes rest ready.going next lt moved quiet)
      undo sink stops.Memory
      (own-stays course done refused hs now undo sink sink number view bytes rest ready.going next lt moved quiet (ap edit_in (accepts bytes is) ∙ alone)
      (done-orderly (part_of course.text view (met hs done)) (history_of hs view) number (Bytes First bytes) (ready.going.under_way view lt)
      (ready.settled view lt) (Apply (parts_of change)) (accepts bytes is)))
      (nothing-written _ sink)))

  -- its version was published
  pub alone-handled : new ≡ appended_in mid view (Published false ∷ [])
      → HandlesOwn number view (change_verdict (history_of hs view) change) (at hs undo sink) (at new undo sink) (Ok false)
  alone-handled published bytes is course done refused next ready =
      let lt : view < course.views = subst (λ n. view < n) ready.going.views.count there in
      let h = history_of hs view in
      let now = appended_in hs view (Line number ∷ runs.changed (it.op ∷ [])) in
      let l : ℕ × SplitLine = (number, Own view bytes) in
      let new-is : new ≡ now =
      published ∙ (ap (λ k. appended_in k view (Published false ∷ [])) mid-is
      ∙ (twice-in hs view (Line number ∷ rest) (Published false ∷ []) there
      ∙ ap (λ ops. appended_in hs view ((Line number ∷ dids ops) ++ Published false ∷ [])) it.ops)) in
      subst (λ k. IsGoing course (done ++ l ∷ []) (refused || false) (at k undo sink)) (sym new-is)
      (subst (λ b. IsGoing course (done ++ l ∷ []) (refused || b) (at now undo sink)) (ap is_refused (accepts bytes is))
      (going-own course done refused hs now undo sink sink number view bytes (runs.changed (it.op ∷ [])) ready.going next lt
      (moved-in hs view (Line number ∷ runs.changed (it.op ∷ [])) there) (changed-quiet (it.op ∷ [])) (ap edit_in (accepts bytes is) ∙ alone)
      (under-edit (part_of course.text view (met hs done)) h number (Bytes First bytes) (Apply (parts_of change)) (it.op ∷ [])
      (ready.going.under_way view lt) (ready.settled view lt) (accepts bytes is) it.ops)
      (text-appended h (Line number ∷ runs.changed (it.op ∷ [])) ∙ it.kept (present_of h).text number)
      (subst (λ v. Takes (printed (map (prefixed view) (verdict_lines h v) ++ [])) sink sink) (sym (accepts bytes is)) (takes-none sink))))

-- ---- what its version needs

module _ (number view : ℕ) (hs mid : List History) (change : Change) (there : view < length hs) (done-is : mid ≡ changed hs view number change) where
  pub alone-there : view < length mid
  alone-there = subst (λ n. view < n) (sym (ap length done-is ∙ as-many hs view number change)) there

  pub alone-room : length (history_of hs view).events + (length (ops_of change) + 2) ≤ event_limit → length (history_of mid view).events + 1 ≤ event_limit
  alone-room room =
      let longer : length (history_of mid view).events ≡ length (history_of hs view).events + length (added number change) =
      ap (λ (l : List History). length (history_of l view).events) done-is
      ∙ (ap (λ (h : History). length h.events) (in-own hs view number change there)
      ∙ length-append (history_of hs view).events (added number change)) in
      let dids-many : length (map (λ op. Did op) (ops_of change)) ≡ length (ops_of change) = length-map (ops_of change) (λ op. Did op) in
      let added-many : length (added number change) ≡ suc (length (map (λ op. Did op) (ops_of change))) = refl in
      omega (arith, room, longer, dids-many, added-many)

-- ---- the undo line after an edit

module _ (hs : List History) (view : ℕ) (splices back : List Splice) (old ready new : UndoParts) (same : IsSameLine old ready)
    (back-is : back ≡ inverse (present_of (history_of hs view)).text splices) where
  counted : length back ≡ length (batch splices)
  counted = ap length back-is ∙ length-inverse (present_of (history_of hs view)).text splices

  -- what takes it back is kept
  pub edited-after : 0 < length back → Leads (text_after (present_of (history_of hs view)).text splices) back (present_of (history_of hs view)).text
      → new.past ≡ back ∷ ready.past → new.future ≡ []
      → ((line : TextLine) (s : List Splice) → IsLineOf ready line → 0 < length (batch s) → Leads (text_after line.present s) back line.present
      → IsLineOf new (texts.edited s line))
      → (text : List ℕ) (done : List (ℕ × SplitLine)) → (text_line text (steps_of hs done)).present ≡ (present_of (history_of hs view)).text
      → IsUndoAfter text (steps_of hs done) old → IsUndoAfter text (steps_of hs done ++ Edits splices ∷ []) new
  edited-after some leads past-is future-is line text done present it =
      let P : List ℕ → Type 0 = λ t. Leads (text_after t splices) back t in
      let count : length back ≡ length (batch splices) = counted in
      undo-edited text (steps_of hs done) old new it splices back
      (ne_eqb (length (batch splices)) 0 (λ none. omega (arith, some, count, none)))
      (back-is ∙ ap (λ t. inverse t splices) (sym present)) (past-is ∙ ap (λ l. back ∷ l) same.past) future-is
      (line (text_line text (steps_of hs done)) splices (same.line (text_line text (steps_of hs done)) it.leads) (omega (arith, some, count))
      (subst P (sym present) leads))

  -- there is nothing to take back
  pub silent-after : length back ≡ 0
      → (text : List ℕ) (done : List (ℕ × SplitLine)) → (text_line text (steps_of hs done)).present ≡ (present_of (history_of hs view)).text
      → IsUndoAfter text (steps_of hs done) old → IsUndoAfter text (steps_of hs done ++ Edits splices ∷ []) ready
  silent-after none text done present it =
      let count : length back ≡ length (batch splices) = counted in
      undo-still text (steps_of hs done) old ready it splices (eq-eqb (length (batch splices)) 0 (omega (arith, none, count))) same
