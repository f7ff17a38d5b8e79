-- How every view is settled, and how a line is handled after that.
use Rattle.std.proofs.Common.{◌≡◌, ℕ, ◌+◌, ◌<◌, ◌≤◌, Bool, true, false, List, [], ◌∷◌, ◌++◌, All, length, Some, Result, Ok, Err, get_or, cond, refl, sym, ap, ◌∙◌, subst, arith}
use Rattle.std.specs.Prelude.{◌-◌, ◌==◌, ◌&&◌, bytes_eq, codes, if◌then◌else◌, nat_le, nat_lt}
use Rattle.std.specs.Result.{IsErrAnd}
use Rattle.std.proofs.lemmas.Bool.{ltb-true}
use Rattle.std.proofs.lemmas.List.Sums.{sum_by-cons}
use Rattle.std.proofs.lemmas.List.{get_or_default}
use Rattle.cell_units.specs.declared.fault.Fault.{Fault}
use Rattle.cell_units.specs.declared.fault.Fault.TheVariants as faults
use Rattle.display_map.specs.Events.{Event, Published, event_limit}
use Rattle.display_map.specs.Replay.{History, is_published, is_settled, present_of, versions_of}
use Rattle.display_sheet.specs.declared.change.Change.{Change}
use Rattle.live_display.specs.declared.owner.TheConstants.{EVENTS_AHEAD}
use Rattle.edit_script.specs.declared.asked.Asked.TheVariants as asks
use Rattle.edit_script.specs.Commands.{meaning}
use Rattle.edit_script.specs.declared.asked.Form.TheVariants.{First}
use Rattle.edit_script.specs.Verdict.{IsLineRefused, is_blank}
use Rattle.edit_script.proofs.Verdicts.{verdict-unread}
use Rattle.script_runner.specs.declared.stop.Stop.{Stop}
use Rattle.script_runner.specs.declared.stop.Stop.TheVariants as stops
use Rattle.script_runner.specs.Entries.{Bytes, Entry, asked_by, asked_by_command}
use Rattle.script_runner.specs.Legal.{IsOrderlySoFar}
use Rattle.script_runner.specs.Outside.{SinkState}
use Rattle.script_runner.proofs.Fronts.{takes-none}
use Rattle.split_views.specs.Views.{history_of}
use Rattle.split_views.specs.Whole.{IsOneFull, OfEach}
use Rattle.split_views.specs.declared.split.TheConstants.{VIEW_LIMIT}
use Rattle.split_views.specs.Wrapping.{HasBegun, HasWrapped, IsIdle}
use Rattle.undo_line.specs.UndoParts.{UndoParts}
use Rattle.split_script.specs.Lines.{Astray, Own, Redo, Skipped, SplitLine, Undo, own_line, space, split_line, view_line, zero_digit}
use Rattle.split_script.specs.Met.{before_line, has_line_from, met_at, steps_of}
use Rattle.split_script.proofs.Mets.{before-all}
use Rattle.split_script.specs.Theorems.{SplitCourse, asked_for}
use Rattle.split_runner.specs.Going.{AreSettled, GoesOn, Handles, HandlesChange, HandlesReady, HandlesUnread, HaveRoomFor, IsCut, IsOfViews, IsTooFull, MayHandle, Settles, Stage, at, on}
use Rattle.split_runner.proofs.Cases.{batch-step, going-still, text-step}
use Rattle.split_runner.proofs.Cuts.{cut-next, first-asked, going-full}
use Rattle.split_runner.proofs.Settling.{cut-begun, going-settled}
use Rattle.split_runner.proofs.Within.{handled-err}

unopened : History
unopened = record { opening = []; events = [] }

-- ---- every view is settled

-- no job of a run that goes on is out
pub goes-idle : (s : Stage) → GoesOn s → All IsIdle s.histories
goes-idle s goes k d lt =
    let going = goes.3 in
    let less : k < goes.0.views = subst (λ n. k < n) going.views.count lt in
    subst IsIdle (get_or_default s.histories k (record { opening = []; events = [] }) d lt) (going.under_way k less).idle

settled-err : (course : SplitCourse) (done : List (ℕ × SplitLine)) (refused : Bool) (s : Stage) (r : Result (Unit {0}) Stop) (stop : Stop)
    → IsErrAnd r (λ e. e ≡ stop) → ((later : List (ℕ × SplitLine)) → IsCut (on course (done ++ later)) s stop) → AreSettled course done refused s r
settled-err course done refused s (Ok all) stop e cut = absurd e
settled-err course done refused s (Err other) stop e cut =
    let P : Stop → Type 0 = λ x. (later : List (ℕ × SplitLine)) → IsCut (on course (done ++ later)) s x in subst P (sym e) cut

module _ (hs new : List History) (undo : UndoParts) (sink : SinkState) (count : length new ≡ length hs) where
  -- there was no memory for that
  pub settles-short : OfEach HasBegun hs new → (r : Result (Unit {0}) Stop) → IsErrAnd r (λ e. e ≡ stops.Memory)
      → Settles (at hs undo sink) (at new undo sink) r
  settles-short begun r e course done refused going =
      settled-err course done refused (at new undo sink) r stops.Memory e (cut-begun course done refused hs new undo sink going count begun)

  -- a journal had no room for that
  pub settles-full : OfEach HasWrapped hs new → IsOneFull 3 new → Settles (at hs undo sink) (at new undo sink) (Err stops.JournalFull)
  settles-full wrapped full course done refused going later =
      let now = going-settled course done refused hs new undo sink going count wrapped in
      let over : event_limit < length (history_of new full.0).events + 3 = full.2 in
      going-full course done later refused (at new undo sink) now full.0 (subst (λ n. full.0 < n) now.views.count full.1)
      (omega (arith, over))

  pub settles-all : OfEach HasWrapped hs new → All (λ h. is_settled (present_of h) ≡ true) new → Settles (at hs undo sink) (at new undo sink) (Ok tt)
  settles-all wrapped settled course done refused going =
      let now = going-settled course done refused hs new undo sink going count wrapped in
      (now, λ view lt. settled view (record { opening = []; events = [] }) (subst (λ n. view < n) (sym now.views.count) lt))

-- ---- a line after that

-- the views weren't settled
pub line-unsettled : (number : ℕ) (line : SplitLine) (old s : Stage) (stop : Stop) (r : Result Bool Stop) → IsErrAnd r (λ e. e ≡ stop)
    → Settles old s (Err stop) → Handles number line old s r
line-unsettled number line old s stop r e settles course done refused next going =
    handled-err course (done ++ (number, line) ∷ []) refused s r stop e
    (λ later. cut-next course done later (number, line) s stop (settles course done refused going ((number, line) ∷ later)))

-- they were, and a journal has no room for the events of a step
pub line-full : (number : ℕ) (line : SplitLine) (old s : Stage) (stop : Stop) (r : Result Bool Stop) → IsErrAnd r (λ e. e ≡ stop)
    → Settles old s (Ok tt) → IsTooFull (EVENTS_AHEAD + 0) s.histories stop → Handles number line old s r
line-full number line old s stop r e settles full course done refused next going =
    let now = (settles course done refused going).0 in
    let view = full.1.0 in
    let over : event_limit < length (history_of s.histories view).events + (EVENTS_AHEAD + 0) = full.1.2 in
    handled-err course (done ++ (number, line) ∷ []) refused s r stops.JournalFull (subst (λ x. IsErrAnd r (λ e. e ≡ x)) full.0 e)
    (λ later. cut-next course done later (number, line) s stops.JournalFull
    (going-full course done ((number, line) ∷ later) refused s now view (subst (λ n. view < n) now.views.count full.1.1) (omega (arith, over))))

-- every journal has it
pub line-ready : (number : ℕ) (line : SplitLine) (old s new : Stage) (r : Result Bool Stop) → Settles old s (Ok tt)
    → HaveRoomFor (EVENTS_AHEAD + 0) s.histories → HandlesReady number line s new r → Handles number line old new r
line-ready number line old s new r settles room handled course done refused next going =
    let now = settles course done refused going in
    handled course done refused next (record {
      going = now.0;
      settled = now.1;
      room = λ view lt.
          (let it : length (history_of s.histories view).events + (EVENTS_AHEAD + 0) ≤ event_limit =
          room view (record { opening = []; events = [] }) (subst (λ n. view < n) (sym now.0.views.count) lt) in
          omega (arith, it));
    })

-- a skipped line changes nothing
pub line-skipped : (number : ℕ) (hs : List History) (undo : UndoParts) (sink : SinkState)
    → Handles number Skipped (at hs undo sink) (at hs undo sink) (Ok false)
line-skipped number hs undo sink course done refused next going =
    going-still course done refused hs undo sink sink (number, Skipped) going next tt (λ view. refl)
    (text-step course.text (steps_of hs done) _) (batch-step course.text (steps_of hs done) _) (takes-none sink)

-- ---- lines that aren't read

pub unread-handled : (number view : ℕ) (line : List ℕ) (fault : Fault) (old new : Stage) (r : Result Bool Stop)
    → IsLineRefused First (present_of (history_of old.histories view)).text line fault → HandlesUnread number view fault old new r
    → HandlesReady number (Own view line) old new r
unread-handled number view line (faults.Refused refusal) old new r unread handled =
    handled line (verdict-unread First (present_of (history_of old.histories view)) line refusal unread)
unread-handled number view line faults.NoMemory old new r unread handled = handled line

pub unread-as : (number view : ℕ) (fault fault' : Fault) (old new : Stage) (r : Result Bool Stop) → fault ≡ fault'
    → HandlesUnread number view fault' old new r → HandlesUnread number view fault old new r
unread-as number view fault fault' old new r e handled =
    let P : Fault → Type 0 = λ f. HandlesUnread number view f old new r in subst P (sym e) handled

-- ---- what is asked of a line of a view

first-published : (text : List ℕ) (entries : List (ℕ × Entry)) (events : List Event) → IsOrderlySoFar text entries 1 events → (events ≡ [] → ⊥)
    → 1 ≤ versions_of events
first-published text entries [] orderly begun = absurd (begun refl)
first-published text entries (e ∷ events) orderly begun =
    let is : e ≡ Published false = orderly.opening 0 e refl refl in
    let one : versions_of (Published false ∷ events) ≡ 1 + versions_of events =
    sum_by-cons (λ x. cond (is_published x) 1 0) (Published false) events in
    subst (λ x. 1 ≤ versions_of (x ∷ events)) (sym is) (omega (arith, one))

pub goes-settled : (old s : Stage) → GoesOn old → Settles old s (Ok tt) → GoesOn s
goes-settled old s goes settles = (goes.0, goes.1, goes.2, (settles goes.0 goes.1 goes.2 goes.3).0)

pub may-handle : (s : Stage) (view : ℕ) → GoesOn s → view < length s.histories → length s.histories ≤ VIEW_LIMIT
    → HaveRoomFor (EVENTS_AHEAD + 0) s.histories → MayHandle view s.histories
may-handle s view goes lt few room =
    let going = goes.3 in
    let less : view < goes.0.views = subst (λ n. view < n) going.views.count lt in
    let under = going.under_way view less in
    let h = history_of s.histories view in
    record {
      there = lt;
      few = few;
      room = λ k d at-k. (let it : length (get_or s.histories k d).events + (EVENTS_AHEAD + 0) ≤ event_limit = room k d at-k in omega (arith, it));
      published = first-published h.opening _ h.events (under.orderly []) (under.free []).begun;
    }

-- ---- lines of the views that are there

-- what is read for so many views is of one of them
pub of-views : (views : ℕ) (line : List ℕ) → IsOfViews views (split_line views line)
of-views views line = by (is_blank line)
  where
    own : (view : ℕ) (bytes : List ℕ) → view < views → (b : Bool) → IsOfViews views (if b then Skipped else Own view bytes)
    own view bytes lt true = tt
    own view bytes lt false = lt

    viewed : (line : List ℕ) → IsOfViews views (view_line views line)
    viewed [] = tt
    viewed (digit ∷ []) = tt
    viewed (digit ∷ (next ∷ bytes)) =
        within (nat_le zero_digit digit) (nat_lt (digit - zero_digit) views) (next == space) refl
      where
        within : (a b d : Bool) → nat_lt (digit - zero_digit) views ≡ b
            → IsOfViews views (if a && b && d then own_line (digit - zero_digit) bytes else Astray)
        within true true true is = own (digit - zero_digit) bytes (ltb-true (digit - zero_digit) views is) (is_blank bytes)
        within true true false is = tt
        within true false d is = tt
        within false b d is = tt

    redone : (b : Bool) → IsOfViews views (if b then Redo else view_line views line)
    redone true = tt
    redone false = viewed line

    undone : (b : Bool) → IsOfViews views (if b then Undo else (if bytes_eq line (codes "redo") then Redo else view_line views line))
    undone true = tt
    undone false = redone (bytes_eq line (codes "redo"))

    by : (b : Bool) → IsOfViews views (if b then Skipped else (if bytes_eq line (codes "undo") then Undo
        else (if bytes_eq line (codes "redo") then Redo else view_line views line)))
    by true = tt
    by false = undone (bytes_eq line (codes "undo"))

-- ---- a change for which there is no room

pub change-full : (number view : ℕ) (s : Stage) (change : Change) (operations : ℕ) (stop : Stop) (r : Result Bool Stop) → IsErrAnd r (λ e. e ≡ stop)
    → view < length s.histories → operations ≡ asked_by_command (Some (meaning (asks.Change change)))
    → IsTooFull (EVENTS_AHEAD + operations) s.histories stop → HandlesChange number view change s s r
change-full number view s change operations stop r e there counted full bytes is asked course done refused next ready =
    let lt : view < course.views = subst (λ n. view < n) ready.going.views.count there in
    let h = history_of s.histories view in
    let l : ℕ × SplitLine = (number, Own view bytes) in
    let at-view = full.1.0 in
    let over : event_limit < length (history_of s.histories at-view).events + (EVENTS_AHEAD + operations) = full.1.2 in
    let before : before_line number h ≡ h = before-all number h (ap (λ n. has_line_from n h.events) next ∙ ready.going.below view lt) in
    let asks-for : asked_for course.text (met_at s.histories (steps_of s.histories done) l) (Own view bytes) ≡ operations =
    ap (λ (k : History). asked_by (present_of k) (Bytes First bytes)) before ∙ (asked ∙ sym counted) in
    handled-err course (done ++ l ∷ []) refused s r stops.JournalFull (subst (λ x. IsErrAnd r (λ e. e ≡ x)) full.0 e)
    (λ later. cut-next course done later l s stops.JournalFull
    (going-full course done (l ∷ later) refused s ready.going at-view (subst (λ n. at-view < n) ready.going.views.count full.1.1)
    (subst (λ n. event_limit < length (history_of s.histories at-view).events + EVENTS_AHEAD + n)
    (sym (first-asked course.text s.histories done later l ∙ asks-for)) (omega (arith, over)))))
