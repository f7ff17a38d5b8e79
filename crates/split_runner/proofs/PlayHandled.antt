-- A run for several views, from its first versions to its last.
use Rattle.std.proofs.Common.{◌≡◌, ◌⊎◌, inl, inr, ℕ, zero, suc, ◌+◌, ◌<◌, ◌≤◌, Bool, true, false, List, [], ◌∷◌, ◌++◌, All, length, map, Result, Ok, Err, refl, sym, ap, ◌∙◌, subst, append_assoc, arith}
use Rattle.std.specs.Prelude.{◌||◌, if◌then◌else◌, nat_lt}
use Rattle.std.specs.List.{enumerate_from, range_with_len}
use Rattle.std.specs.Result.{IsErrAnd}
use Rattle.std.proofs.lemmas.List.{append-nil, get_or-map, get_or-replicate, length-map, length-replicate, length_push}
use Rattle.std.proofs.lemmas.List.Elements.{All-cons, All-from_recursion, All-nil}
use Rattle.display_map.specs.Events.{Event, Published, event_limit}
use Rattle.display_map.specs.Replay.{History, State, appended, begun, is_settled, present_of}
use Rattle.display_map.proofs.Replays.{replayed-none}
use Rattle.live_display.specs.declared.owner.TheConstants.{EVENTS_AHEAD}
use Rattle.script_runner.specs.declared.stop.Stop.{Stop}
use Rattle.script_runner.specs.declared.stop.Stop.TheVariants as stops
use Rattle.script_runner.specs.Entries.{Entry}
use Rattle.script_runner.specs.Legal.{IsOrderly, IsOrderlySoFar, is_line}
use Rattle.script_runner.specs.Legal as runs
use Rattle.script_runner.specs.Outside.{SinkState, Takes}
use Rattle.script_runner.proofs.Fronts.{front-none, takes-none}
use Rattle.script_runner.proofs.Next.{free-snoc, next-opening, none-orderly, orderly-snoc}
use Rattle.split_views.specs.Views.{history_of}
use Rattle.split_views.specs.Whole.{ArePublished}
use Rattle.split_views.specs.Wrapping.{IsIdle}
use Rattle.split_views.proofs.Idle.{idle-opened}
use Rattle.split_views.proofs.Texts.{text-appended}
use Rattle.undo_line.specs.UndoParts.{UndoParts}
use Rattle.split_script.specs.Lines.{SplitLine, split_line}
use Rattle.split_script.specs.Met.{has_line_from, met, numbered}
use Rattle.split_script.specs.Output.{answered, has_refused}
use Rattle.split_script.specs.Parts.{part_of}
use Rattle.split_script.specs.Theorems.{FollowsTexts, IsFinished, IsStopped, SplitCourse}
use Rattle.split_runner.specs.Going.{AreHandled, AreMoved, AreNumbered, Finishes, GoesOnAfter, Handles, HandlesAll, HasStarted, IsCut, IsDone, IsGoing, IsPlayed, IsStarted, IsTooFull, IsUnderWay, IsUndoAfter, IsWhy, PlaysAll, Settles, Stage, at, course_of, on, started}
use Rattle.split_runner.proofs.Batches.{first-events, moved-all, moved-first}
use Rattle.split_runner.proofs.Cuts.{going-full}
use Rattle.split_runner.proofs.Settling.{IsStill, cut-quiet-on, met-same, texts-same, views-same}
use Rattle.split_runner.proofs.ViewLines.{still-idle, still-numbered, under-last}

abbrev opened-on : List ℕ → History
opened-on text = record { opening = text; events = [] }

-- ---- the first versions

-- a view of which the first version was published
under-first : (text : List ℕ) → IsIdle (opened-on text) → IsUnderWay [] (record { opening = text; events = Published false ∷ [] })
under-first text idle = record {
  orderly = λ later. orderly-snoc text later 1 [] (Published false) (none-orderly text later 1) (next-opening text later 1);
  free = λ later. free-snoc text later [] (Published false) refl refl refl refl;
  handled = refl;
  idle = still-idle (opened-on text) (Published false ∷ []) refl idle;
  numbered = still-numbered (opened-on text) (Published false ∷ []) refl none-numbered;
}
  where
    none-numbered : AreNumbered (opened-on text)
    none-numbered =
        let P : State → Type 0 = λ s. map (λ job. job.number) s.jobs ≡ range_with_len 1 (length s.jobs) in subst P (sym (replayed-none (begun text))) refl

module _ (text : List ℕ) (views : ℕ) (lines : List (List ℕ)) (undo : UndoParts) (sink : SinkState) where
  abbrev its-course : SplitCourse
  its-course = course_of text views lines sink

  abbrev fresh : List History
  fresh = started text views

  abbrev published : List History
  published = map (λ h. appended h (Published false ∷ [])) fresh

  each-published : (v : ℕ) → v < views → history_of published v ≡ record { opening = text; events = Published false ∷ [] }
  each-published v lt =
      get_or-map (λ h. appended h (Published false ∷ [])) fresh v (record { opening = []; events = [] }) (record { opening = []; events = [] })
      (subst (λ n. v < n) (sym (length-replicate views (opened-on text))) lt)
      ∙ ap (λ h. appended h (Published false ∷ [])) (get_or-replicate views v (opened-on text) (record { opening = []; events = [] }) lt)

  -- every first version was published
  pub going-first : IsUndoAfter text [] undo → IsGoing its-course [] false (at published undo sink)
  going-first after = record {
    views = record {
      count = length-map fresh (λ h. appended h (Published false ∷ [])) ∙ length-replicate views (opened-on text);
      opening = λ v lt. ap (λ (h : History). h.opening) (each-published v lt);
    };
    under_way = λ v lt. subst (IsUnderWay []) (sym (each-published v lt))
        (under-first text (subst IsIdle (get_or-replicate views v (opened-on text) (record { opening = []; events = [] }) lt) (idle-opened text views v lt)));
    below = λ v lt. ap (λ (h : History). has_line_from 1 h.events) (each-published v lt);
    there = tt;
    numbers = tt;
    texts = tt;
    present = λ v lt. ap (λ (h : History). (present_of h).text) (each-published v lt) ∙ first-text;
    undo = after;
    written = takes-none sink;
    refusals = refl;
  }
    where
      first-text : (present_of (record { opening = text; events = Published false ∷ [] })).text ≡ text
      first-text = text-appended (opened-on text) (Published false ∷ []) ∙ ap (λ (s : State). s.present.text) (replayed-none (begun text))

  fresh-same : (n : ℕ) → started text n ≡ map (λ h. appended h []) (started text n)
  fresh-same zero = refl
  fresh-same (suc n) = ap (λ l. opened-on text ∷ l) (fresh-same n)

  first-orderly : (entries : List (ℕ × Entry)) (b : Bool) → IsOrderlySoFar text entries 1 ([] ++ (if b then [] ++ Published false ∷ [] else []))
  first-orderly entries true = orderly-snoc text entries 1 [] (Published false) (none-orderly text entries 1) (next-opening text entries 1)
  first-orderly entries false = none-orderly text entries 1

  -- there was no memory for all of them
  pub stopped-first : (new : List History) → ArePublished false fresh new → IsStopped its-course new sink × IsWhy its-course new sink stops.Memory
  stopped-first new some =
      let moved : AreMoved fresh new (first-events [] (Published false ∷ []) some.0) = moved-first fresh fresh new [] false (fresh-same views) some in
      let within : (v : ℕ) → v < views → v < length fresh = λ v lt. subst (λ n. v < n) (sym (length-replicate views (opened-on text))) lt in
      let is : (v : ℕ) → v < views → history_of new v ≡ appended (opened-on text) (first-events [] (Published false ∷ []) some.0 v) =
      λ v lt. moved.each v (within v lt)
      ∙ ap (λ h. appended h (first-events [] (Published false ∷ []) some.0 v)) (get_or-replicate views v (opened-on text) (record { opening = []; events = [] }) lt) in (
        record {
          views = record {
            count = moved.count ∙ length-replicate views (opened-on text);
            opening = λ v lt. ap (λ (h : History). h.opening) (is v lt);
          };
          orderly = λ v lt.
              (let entries = part_of text v (met new its-course.lines) in
              subst (λ (h : History). IsOrderlySoFar text entries 1 h.events) (sym (is v lt)) (first-orderly entries (nat_lt v some.0)));
          written = front-none sink (answered text (met new its-course.lines));
          parted = record { done = []; rest = its-course.lines; all = refl };
          texts = All-from_recursion (FollowsTexts text views new) [] tt;
        },
        refl,
      )

-- ---- the lines

module _ (course : SplitCourse) (number : ℕ) (refused : Bool) (line : List ℕ) (more : List (List ℕ)) (s s' : Stage)
    (it : IsDone course number refused (line ∷ more) s) where
  abbrev l : ℕ × SplitLine
  l = (number + 1, split_line course.views line)

  abbrev behind : List (ℕ × SplitLine)
  behind = enumerate_from (number + 1 + 1) (map (split_line course.views) more)

  next-is : number + 1 ≡ suc (length it.done)
  next-is = let e : length it.done ≡ number = it.count in omega (arith, e)

  all-are : course.lines ≡ (it.done ++ l ∷ []) ++ behind
  all-are = it.all ∙ sym (append_assoc it.done (l ∷ []) behind)

  line-same : split_line (length s.histories) line ≡ split_line course.views line
  line-same = ap (λ n. split_line n line) it.going.views.count

  pub next-done : (again : Bool) → Handles (number + 1) (split_line (length s.histories) line) s s' (Ok again)
      → IsDone course (number + 1) (refused || again) more s'
  next-done again handles = record {
    done = it.done ++ l ∷ [];
    all = all-are;
    count = length_push it.done l ∙ ap (λ n. n + 1) it.count;
    going = subst (λ x. IsGoing course (it.done ++ (number + 1, x) ∷ []) (refused || again) s') line-same
        (handles course it.done refused next-is it.going);
  }

  pub next-cut : (stop : Stop) → Handles (number + 1) (split_line (length s.histories) line) s s' (Err stop) → IsCut course s' stop
  next-cut stop handles =
      subst (λ lines. IsCut (on course lines) s' stop) (sym all-are)
      (subst (λ x. (later : List (ℕ × SplitLine)) → IsCut (on course ((it.done ++ (number + 1, x) ∷ []) ++ later)) s' stop) line-same
      (handles course it.done refused next-is it.going) behind)

pub first-done : (course : SplitCourse) (lines : List (List ℕ)) (s : Stage) → course.lines ≡ numbered course.views lines → IsGoing course [] false s
    → IsDone course 0 false lines s
first-done course lines s all going = record { done = []; all = all; count = refl; going = going }

pub last-done : (course : SplitCourse) (number : ℕ) (refused : Bool) (s : Stage) → IsDone course number refused [] s → IsGoing course course.lines refused s
last-done course number refused s it =
    subst (λ lines. IsGoing course lines refused s) (sym (it.all ∙ append-nil it.done)) it.going

pub handled-cut : (course : SplitCourse) (s : Stage) (r : Result Bool Stop) (stop : Stop) → IsErrAnd r (λ e. e ≡ stop) → IsCut course s stop
    → AreHandled course s r
handled-cut course s (Ok refused) stop e cut = absurd e
handled-cut course s (Err other) stop e cut = subst (IsCut course s) (sym e) cut

pub goes-next : (number : ℕ) (line : SplitLine) (s s' : Stage) (again : Bool) → GoesOnAfter number s → Handles (number + 1) line s s' (Ok again)
    → GoesOnAfter (number + 1) s'
goes-next number line s s' again goes handles =
    let done = goes.1 in
    let count : length done ≡ number = goes.3 in (
      goes.0,
      done ++ (number + 1, line) ∷ [],
      (goes.2 || again),
      length_push done (number + 1, line) ∙ ap (λ n. n + 1) count,
      handles goes.0 done goes.2 (omega (arith, count)) goes.4,
    )

-- ---- the last versions

pub finished-cut : (old s : Stage) (r : Result (Unit {0}) Stop) (stop : Stop) → IsErrAnd r (λ e. e ≡ stop)
    → ((course : SplitCourse) (refused : Bool) → IsGoing course course.lines refused old → IsCut course s stop) → Finishes old s r
finished-cut old s (Ok done) stop e cut = absurd e
finished-cut old s (Err other) stop e cut =
    subst (λ x. (course : SplitCourse) (refused : Bool) → IsGoing course course.lines refused old → IsCut course s x) (sym e) cut

whole : (course : SplitCourse) (s : Stage) (stop : Stop) → IsCut (on course (course.lines ++ [])) s stop → IsCut course s stop
whole course s stop cut = subst (λ lines. IsCut (on course lines) s stop) (append-nil course.lines) cut

pub finish-unsettled : (old s : Stage) (stop : Stop) → Settles old s (Err stop) → (course : SplitCourse) (refused : Bool)
    → IsGoing course course.lines refused old → IsCut course s stop
finish-unsettled old s stop settles course refused going = whole course s stop (settles course course.lines refused going [])

pub finish-full : (old s : Stage) (stop : Stop) → Settles old s (Ok tt) → IsTooFull (EVENTS_AHEAD + 0) s.histories stop
    → (course : SplitCourse) (refused : Bool) → IsGoing course course.lines refused old → IsCut course s stop
finish-full old s stop settles full course refused going =
    let now = (settles course course.lines refused going).0 in
    let view = full.1.0 in
    let over : event_limit < length (history_of s.histories view).events + (EVENTS_AHEAD + 0) = full.1.2 in
    whole course s stop (subst (IsCut (on course (course.lines ++ [])) s) (sym full.0)
    (going-full course course.lines [] refused s now view (subst (λ n. view < n) now.views.count full.1.1) (omega (arith, over))))

module _ (hs new : List History) (undo : UndoParts) (sink : SinkState) where
  -- the last versions of some views
  last-still : (more : ℕ → List Event) → AreMoved hs new more → ((v : ℕ) → (more v ≡ []) ⊎ (more v ≡ Published true ∷ []))
      → (v : ℕ) → v < length hs → IsStill (history_of hs v) (history_of new v)
  last-still more moved each v lt = by (more v) (moved.each v lt) (each v)
    where
      by : (es : List Event) → history_of new v ≡ appended (history_of hs v) es → (es ≡ []) ⊎ (es ≡ Published true ∷ [])
          → IsStill (history_of hs v) (history_of new v)
      by es is (inl e) = record {
        more = [];
        is = is ∙ ap (appended (history_of hs v)) e;
        quiet = refl;
        kept = λ text. refl;
      }
      by es is (inr e) = record {
        more = Published true ∷ [];
        is = is ∙ ap (appended (history_of hs v)) e;
        quiet = refl;
        kept = λ text. refl;
      }

  module _ (course : SplitCourse) (refused : Bool) (going : IsGoing course course.lines refused (at hs undo sink))
      (settled : (v : ℕ) → v < course.views → is_settled (present_of (history_of hs v)) ≡ true)
      (more : ℕ → List Event) (moved : AreMoved hs new more) where
    part-last : (v : ℕ) → v < course.views
        → IsOrderly course.text (part_of course.text v (met hs course.lines)) 1 ((history_of hs v).events ++ Published true ∷ [])
    part-last v lt =
        subst (λ opening. IsOrderly opening (part_of course.text v (met hs course.lines)) 1 ((history_of hs v).events ++ Published true ∷ []))
        (going.views.opening v lt)
        (under-last (part_of course.text v (met hs course.lines)) (history_of hs v) (going.under_way v lt) (settled v lt))

    within : (v : ℕ) → v < course.views → v < length hs
    within v lt = subst (λ n. v < n) (sym going.views.count) lt

    pub last-finished : ((v : ℕ) → more v ≡ Published true ∷ []) → IsFinished course new sink refused
    last-finished each =
        let still = last-still more moved (λ v. inr (each v)) in
        let same = met-same course course.lines refused hs new undo sink going moved.count still in
        let views = views-same course course.lines refused hs new undo sink going moved.count still in
        record {
          views = record { count = views.count; opening = views.opening };
          orderly = λ v lt.
              subst (λ ms. IsOrderly course.text (part_of course.text v ms) 1 (history_of new v).events) (sym same)
              (subst (λ (h : History). IsOrderly course.text (part_of course.text v (met hs course.lines)) 1 h.events)
              (sym (moved.each v (within v lt) ∙ ap (appended (history_of hs v)) (each v))) (part-last v lt));
          texts = All-from_recursion (FollowsTexts course.text course.views new) (met new course.lines)
              (texts-same course course.lines refused hs new undo sink going moved.count still);
          written = subst (λ ms. Takes (answered course.text ms) course.sink sink) (sym same) going.written;
          refusals = ap (has_refused course.text) same ∙ going.refusals;
        }

    pub last-short : ((v : ℕ) → (more v ≡ []) ⊎ (more v ≡ Published true ∷ [])) → IsCut course (at new undo sink) stops.Memory
    last-short each =
        let still = last-still more moved each in
        let same = met-same course course.lines refused hs new undo sink going moved.count still in
        whole course (at new undo sink) stops.Memory
        (cut-quiet-on course course.lines refused hs new undo sink going moved.count still []
        (λ v lt.
        subst (λ lines. IsOrderlySoFar course.text (part_of course.text v (met new lines)) 1 (history_of new v).events) (sym (append-nil course.lines))
        (subst (λ ms. IsOrderlySoFar course.text (part_of course.text v ms) 1 (history_of new v).events) (sym same)
        (by v lt (more v) (moved.each v (within v lt)) (each v)))))
      where
        by : (v : ℕ) → v < course.views → (es : List Event) → history_of new v ≡ appended (history_of hs v) es → (es ≡ []) ⊎ (es ≡ Published true ∷ [])
            → IsOrderlySoFar course.text (part_of course.text v (met hs course.lines)) 1 (history_of new v).events
        by v lt es is (inl e) =
            subst (λ (h : History). IsOrderlySoFar course.text (part_of course.text v (met hs course.lines)) 1 h.events)
            (sym (is ∙ (ap (appended (history_of hs v)) e ∙ ap (λ l. record { opening = (history_of hs v).opening; events = l }) (append-nil (history_of hs v).events))))
            (subst (λ entries. IsOrderlySoFar course.text entries 1 (history_of hs v).events) (append-nil (part_of course.text v (met hs course.lines)))
            (subst (λ opening. IsOrderlySoFar opening (part_of course.text v (met hs course.lines) ++ []) 1 (history_of hs v).events) (going.views.opening v lt)
            ((going.under_way v lt).orderly [])))
        by v lt es is (inr e) =
            subst (λ (h : History). IsOrderlySoFar course.text (part_of course.text v (met hs course.lines)) 1 h.events)
            (sym (is ∙ ap (appended (history_of hs v)) e)) (part-last v lt).so_far

-- ---- the whole run

pub played-cut : (course : SplitCourse) (s : Stage) (r : Result Bool Stop) (stop : Stop) → IsErrAnd r (λ e. e ≡ stop) → IsCut course s stop
    → IsPlayed course s.histories s.sink r
played-cut course s (Ok refused) stop e cut = absurd e
played-cut course s (Err other) stop e cut =
    let P : Stop → Type 0 = λ x. IsStopped course s.histories s.sink × IsWhy course s.histories s.sink x in subst P (sym e) (cut.stopped, cut.why)

-- histories of one text are those of their events
pub histories-again : (text : List ℕ) (hs : List History) → ((v : ℕ) → v < length hs → (history_of hs v).opening ≡ text)
    → map (runs.history_of text) (map (λ h. h.events) hs) ≡ hs
histories-again text [] each = refl
histories-again text (h ∷ hs) each =
    ap (λ opening. record { opening = opening; events = h.events } ∷ map (runs.history_of text) (map (λ h. h.events) hs)) (sym (each 0 (omega arith)))
    ∙ ap (λ l. h ∷ l) (histories-again text hs (λ v lt. each (suc v) (omega (arith, lt))))

-- ---- the calls

first-room : (text : List ℕ) (views : ℕ) → All (λ h. length h.events + 1 ≤ event_limit) (started text views)
first-room text zero = All-nil (λ (h : History). length h.events + 1 ≤ event_limit)
first-room text (suc views) =
    All-cons (λ (h : History). length h.events + 1 ≤ event_limit) (opened-on text) (started text views) (omega arith) (first-room text views)

-- there is room for the first versions
pub started-room : (s : Stage) → HasStarted s → All (λ h. length h.events + 1 ≤ event_limit) s.histories
started-room s it = subst (All (λ h. length h.events + 1 ≤ event_limit)) (sym it.2.histories) (first-room it.0 it.1)

undo-first : (text : List ℕ) (views : ℕ) (s : Stage) → IsStarted text views s → IsUndoAfter text [] s.undo
undo-first text views s it = record { past = it.past; future = it.future; present = refl; leads = it.line }

-- after them the run goes on
pub goes-first : (text : List ℕ) (views : ℕ) (lines : List (List ℕ)) (hs new : List History) (undo : UndoParts) (sink : SinkState)
    → IsStarted text views (at hs undo sink) → new ≡ map (λ h. appended h (Published false ∷ [])) hs
    → IsGoing (course_of text views lines sink) [] false (at new undo sink)
goes-first text views lines hs new undo sink it is =
    subst (λ k. IsGoing (course_of text views lines sink) [] false (at k undo sink)) (sym (is ∙ ap (map (λ h. appended h (Published false ∷ []))) it.histories))
    (going-first text views lines undo sink (undo-first text views (at hs undo sink) it))

pub begins : (hs new : List History) (undo : UndoParts) (sink : SinkState) → HasStarted (at hs undo sink)
    → new ≡ map (λ h. appended h (Published false ∷ [])) hs → GoesOnAfter 0 (at new undo sink)
begins hs new undo sink it is = (course_of it.0 it.1 [] sink, [], false, refl, goes-first it.0 it.1 [] hs new undo sink it.2 is)

-- ... or it stops
pub stops-first : (lines : List (List ℕ)) (hs new : List History) (undo : UndoParts) (sink : SinkState) (r : Result Bool Stop)
    → IsErrAnd r (λ e. e ≡ stops.Memory) → ArePublished false hs new → PlaysAll lines (at hs undo sink) (at new undo sink) r
stops-first lines hs new undo sink (Ok refused) e some text views it = absurd e
stops-first lines hs new undo sink (Err other) e some text views it =
    let P : Stop → Type 0 = λ x. IsStopped (course_of text views lines sink) new sink × IsWhy (course_of text views lines sink) new sink x in
    subst P (sym e)
    (stopped-first text views lines undo sink new (subst (λ l. ArePublished false l new) it.histories some))

-- the lines are handled after that
pub goes-handled : (lines : List (List ℕ)) (old s s' : Stage) (refused : Bool) → HandlesAll lines s s' (Ok refused)
    → ((text : List ℕ) (views : ℕ) → IsStarted text views old → IsGoing (course_of text views lines old.sink) [] false s)
    → (text : List ℕ) (views : ℕ) → IsStarted text views old
    → IsGoing (course_of text views lines old.sink) (course_of text views lines old.sink).lines refused s'
goes-handled lines old s s' refused handles goes text views it = handles (course_of text views lines old.sink) refl (goes text views it)

-- ---- the last versions

none-more : (hs : List History) → hs ≡ map (λ h. appended h []) hs
none-more [] = refl
none-more (h ∷ hs) =
    ap (λ l. record { opening = h.opening; events = l } ∷ hs) (sym (append-nil h.events)) ∙ ap (λ l. appended h [] ∷ l) (none-more hs)

some-last : (count v : ℕ) → (first-events [] (Published true ∷ []) count v ≡ []) ⊎ (first-events [] (Published true ∷ []) count v ≡ Published true ∷ [])
some-last count v = by (nat_lt v count)
  where
    by : (b : Bool) → ((if b then [] ++ Published true ∷ [] else []) ≡ []) ⊎ ((if b then [] ++ Published true ∷ [] else []) ≡ Published true ∷ [])
    by true = inr refl
    by false = inl refl

module _ (old s : Stage) (new : List History) (settles : Settles old s (Ok tt)) where
  pub finish-short : ArePublished true s.histories new → (course : SplitCourse) (refused : Bool) → IsGoing course course.lines refused old
      → IsCut course (at new s.undo s.sink) stops.Memory
  finish-short some course refused going =
      let now = settles course course.lines refused going in
      last-short s.histories new s.undo s.sink course refused now.0 now.1 (first-events [] (Published true ∷ []) some.0)
      (moved-first s.histories s.histories new [] true (none-more s.histories) some) (some-last some.0)

  pub finish-done : new ≡ map (λ h. appended h (Published true ∷ [])) s.histories → Finishes old (at new s.undo s.sink) (Ok tt)
  finish-done is course refused going =
      let now = settles course course.lines refused going in
      last-finished s.histories new s.undo s.sink course refused now.0 now.1 (λ v. Published true ∷ [])
      (subst (λ l. AreMoved s.histories l (λ v. Published true ∷ [])) (sym is) (moved-all s.histories (Published true ∷ []))) (λ v. refl)

-- the histories of a run are those of its journals
pub played-again : (course : SplitCourse) (hs : List History) (sink : SinkState) (r : Result Bool Stop) → IsPlayed course hs sink r
    → map (runs.history_of course.text) (map (λ h. h.events) hs) ≡ hs
played-again course hs sink (Ok refused) it =
    histories-again course.text hs (λ v lt. it.views.opening v (subst (λ n. v < n) it.views.count lt))
played-again course hs sink (Err stop) it =
    histories-again course.text hs (λ v lt. it.0.views.opening v (subst (λ n. v < n) it.0.views.count lt))

-- the same histories and the same sink are of the same run
pub played-of : (course : SplitCourse) (hs hs' : List History) (sink sink' : SinkState) (r : Result Bool Stop) → IsPlayed course hs sink r → hs' ≡ hs
    → sink' ≡ sink → IsPlayed course hs' sink' r
played-of course hs hs' sink sink' r it same out =
    let H : List History → Type 0 = λ l. IsPlayed course l sink r in
    let S : SinkState → Type 0 = λ k. IsPlayed course hs' k r in
    subst S (sym out) (subst H (sym same) it)
