-- A run goes on where its views are settled.
use Rattle.std.proofs.Common.{◌≡◌, ℕ, zero, suc, ◌+◌, ◌<◌, ◌≤◌, Bool, true, false, List, [], ◌∷◌, ◌++◌, length, take, Option, Some, None, refl, sym, ap, ◌∙◌, subst, append_assoc, arith}
use Rattle.std.specs.Prelude.{◌||◌, fold, nat_lt}
use Rattle.std.specs.List.{AllByRecursion, list_any}
use Rattle.std.proofs.lemmas.Bool.{ltb-false, ltb-true}
use Rattle.std.proofs.lemmas.List.{append-nil, get_or_past}
use Rattle.std.proofs.lemmas.List.Elements.{All-from_recursion}
use Rattle.std.proofs.lemmas.List.Folds.{list_any-append}
use Rattle.cell_line.specs.declared.lines.Run.{Run}
use Rattle.display_map.specs.Events.{Event}
use Rattle.display_map.specs.Replay.{History, appended, next_run, present_of, state_of}
use Rattle.script_runner.specs.declared.stop.Stop.TheVariants as stops
use Rattle.script_runner.specs.Entries.{Entry}
use Rattle.script_runner.specs.Legal.{IsOrderlySoFar, is_line}
use Rattle.script_runner.specs.Outside.{SinkState, Takes}
use Rattle.script_runner.proofs.Fronts.{front-all}
use Rattle.split_views.specs.Views.{history_of}
use Rattle.split_views.specs.Whole.{OfEach}
use Rattle.split_views.specs.Wrapping.{HasBegun, HasWrapped, after_runs, next_wrapping, wrapping}
use Rattle.split_views.proofs.Texts.{text-appended, text_on}
use Rattle.undo_line.specs.UndoParts.{UndoParts}
use Rattle.split_script.specs.Lines.{SplitLine}
use Rattle.split_script.specs.Met.{Met, before_line, has_line_from, met, met_from, steps_of, text_line}
use Rattle.split_script.specs.Output.{answered, has_refused}
use Rattle.split_script.specs.Parts.{part_of}
use Rattle.split_script.specs.Theorems.{AreHistories, FollowsTexts, SplitCourse}
use Rattle.split_script.proofs.Before.{below-quiet}
use Rattle.split_script.proofs.Mets.{Grow, answered-more, before-all, before-more, have-grows, met-append, met-stable, part-more, steps-stable}
use Rattle.split_runner.specs.Going.{IsBelow, IsCut, IsGoing, IsUnderWay, IsUndoAfter, at, on}
use Rattle.split_runner.proofs.Goings.{all-weaker}
use Rattle.split_runner.proofs.Views.{begun-orderly, under-wrapped}

-- ---- events that are no lines, and keep the text

pub record IsStill (h new : History) : Type 0 where
  pub more : List Event
  pub is : new ≡ appended h more
  pub quiet : list_any is_line more ≡ false
  pub kept : (text : List ℕ) → fold text_on text more ≡ text

pub still-none : (h : History) → IsStill h h
still-none h = record {
  more = [];
  is = ap (λ l. record { opening = h.opening; events = l }) (sym (append-nil h.events));
  quiet = refl;
  kept = λ text. refl;
}

wrapping-quiet : (job : ℕ) (o : Option Run) → list_any is_line (wrapping job o) ≡ false
wrapping-quiet job None = refl
wrapping-quiet job (Some run) = refl

wrapping-kept : (job : ℕ) (o : Option Run) (text : List ℕ) → fold text_on text (wrapping job o) ≡ text
wrapping-kept job None text = refl
wrapping-kept job (Some run) text = refl

or-none : (a b : Bool) → a ≡ false → b ≡ false → (a || b) ≡ false
or-none a b p q = ap (λ x. x || b) p ∙ q

fold-on : (xs ys : List Event) (text : List ℕ) → fold text_on text (xs ++ ys) ≡ fold text_on (fold text_on text xs) ys
fold-on [] ys text = refl
fold-on (x ∷ xs) ys text = fold-on xs ys (text_on text x)

pub still-more : (h k : History) (es : List Event) → IsStill h k → list_any is_line es ≡ false → ((text : List ℕ) → fold text_on text es ≡ text)
    → IsStill h (appended k es)
still-more h k es still quiet kept = record {
  more = still.more ++ es;
  is = ap (λ (l : History). appended l es) still.is ∙ ap (λ l. record { opening = h.opening; events = l }) (append_assoc h.events still.more es);
  quiet = list_any-append is_line still.more es ∙ or-none (list_any is_line still.more) (list_any is_line es) still.quiet quiet;
  kept = λ text. fold-on still.more es text ∙ (ap (λ t. fold text_on t es) (still.kept text) ∙ kept text);
}

still-runs : (runs : ℕ) (h : History) → IsStill h (after_runs runs h)
still-runs zero h = still-none h
still-runs (suc runs) h =
    let k = after_runs runs h in
    still-more h k (next_wrapping (state_of k)) (still-runs runs h)
    (wrapping-quiet (length (state_of k).jobs + 1) (next_run (state_of k))) (wrapping-kept (length (state_of k).jobs + 1) (next_run (state_of k)))

-- the first events of a run
take-quiet : (n job : ℕ) (o : Option Run) → list_any is_line (take n (wrapping job o)) ≡ false
take-quiet zero job o = refl
take-quiet (suc n) job None = refl
take-quiet (suc zero) job (Some run) = refl
take-quiet (suc (suc zero)) job (Some run) = refl
take-quiet (suc (suc (suc n))) job (Some run) = ap (list_any is_line) (take-three n job run)
  where
    take-three : (n job : ℕ) (run : Run) → take (suc (suc (suc n))) (wrapping job (Some run)) ≡ wrapping job (Some run)
    take-three zero job run = refl
    take-three (suc n) job run = refl

take-kept : (n job : ℕ) (o : Option Run) (text : List ℕ) → fold text_on text (take n (wrapping job o)) ≡ text
take-kept zero job o text = refl
take-kept (suc n) job None text = refl
take-kept (suc zero) job (Some run) text = refl
take-kept (suc (suc zero)) job (Some run) text = refl
take-kept (suc (suc (suc zero))) job (Some run) text = refl
take-kept (suc (suc (suc (suc n)))) job (Some run) text = refl

pub still-begun : (h new : History) → HasBegun h new → IsStill h new
still-begun h new begun =
    let k = after_runs begun.0 h in
    subst (IsStill h) (sym begun.2)
    (still-more h k (take begun.1 (next_wrapping (state_of k))) (still-runs begun.0 h)
    (take-quiet begun.1 (length (state_of k).jobs + 1) (next_run (state_of k))) (take-kept begun.1 (length (state_of k).jobs + 1) (next_run (state_of k))))

pub still-wrapped : (h new : History) → HasWrapped h new → IsStill h new
still-wrapped h new wrapped = subst (IsStill h) (sym wrapped.1) (still-runs wrapped.0 h)

-- the text before a line stays
text-stays : (k : ℕ) (h new : History) → IsStill h new → (present_of (before_line k new)).text ≡ (present_of (before_line k h)).text
text-stays k h new still =
    ap (λ (x : History). (present_of (before_line k x)).text) still.is ∙ by (has_line_from k h.events) refl
  where
    by : (b : Bool) → has_line_from k h.events ≡ b
        → (present_of (before_line k (appended h still.more))).text ≡ (present_of (before_line k h)).text
    by true is = ap (λ (x : History). (present_of x).text) (before-more k h still.more is)
    by false is =
        let none : has_line_from k (h.events ++ still.more) ≡ false = below-quiet k h.events still.more is still.quiet in
        ap (λ (x : History). (present_of x).text) (before-all k (appended h still.more) none)
        ∙ (text-appended h still.more ∙ (still.kept (present_of h).text ∙ ap (λ (x : History). (present_of x).text) (sym (before-all k h is))))

-- ---- all views

module _ (course : SplitCourse) (done : List (ℕ × SplitLine)) (refused : Bool) (old new : List History) (undo : UndoParts) (sink : SinkState)
    (going : IsGoing course done refused (at old undo sink)) (count : length new ≡ length old)
    (still : (v : ℕ) → v < length old → IsStill (history_of old v) (history_of new v)) where
  within : (v : ℕ) → v < course.views → v < length old
  within v less = subst (λ n. v < n) (sym going.views.count) less

  grow : Grow old new
  grow v = by (nat_lt v (length old)) refl
    where
      by : (b : Bool) → nat_lt v (length old) ≡ b → (es : List Event) × (history_of new v ≡ appended (history_of old v) es)
      by true is = let it = still v (ltb-true v (length old) is) in (it.more, it.is)
      by false is =
          let past : length old ≤ v = ltb-false v (length old) is in
          let none : history_of old v ≡ record { opening = []; events = [] } = get_or_past old v (record { opening = []; events = [] }) past in
          let gone : history_of new v ≡ record { opening = []; events = [] } =
          get_or_past new v (record { opening = []; events = [] }) (omega (arith, count, past)) in
          ([], gone ∙ (sym none ∙ ap (λ l. record { opening = (history_of old v).opening; events = l }) (sym (append-nil (history_of old v).events))))

  pub met-same : met new done ≡ met old done
  met-same = met-stable old new grow done going.there

  steps-same : steps_of new done ≡ steps_of old done
  steps-same = steps-stable old new grow done going.there

  text-same : (v : ℕ) → v < course.views → (present_of (history_of new v)).text ≡ (present_of (history_of old v)).text
  text-same v less =
      let it = still v (within v less) in
      ap (λ (x : History). (present_of x).text) it.is ∙ (text-appended (history_of old v) it.more ∙ it.kept (present_of (history_of old v)).text)

  pub views-same : AreHistories course new
  views-same = record {
    count = count ∙ going.views.count;
    opening = λ v less. ap (λ (x : History). x.opening) (still v (within v less)).is ∙ going.views.opening v less;
  }

  pub texts-same : AllByRecursion (FollowsTexts course.text course.views new) (met new done)
  texts-same =
      subst (AllByRecursion (FollowsTexts course.text course.views new)) (sym met-same)
      (all-weaker (λ m. m.number ≤ length done) (FollowsTexts course.text course.views old) (FollowsTexts course.text course.views new)
      (met old done)
      (λ m le follows v less. text-stays (m.number + 1) (history_of old v) (history_of new v) (still v (within v less)) ∙ follows v less)
      going.numbers going.texts)

  -- the run goes on
  pub going-quiet : ((v : ℕ) → v < course.views → IsUnderWay (part_of course.text v (met old done)) (history_of new v))
      → IsGoing course done refused (at new undo sink)
  going-quiet under =
      record {
        views = views-same;
        under_way = λ v less. subst (λ ms. IsUnderWay (part_of course.text v ms) (history_of new v)) (sym met-same) (under v less);
        below = λ v less.
            (let it = still v (within v less) in
            subst (IsBelow (suc (length done))) (sym it.is)
            (below-quiet (suc (length done)) (history_of old v).events it.more (going.below v less) it.quiet));
        there = have-grows old new grow done going.there;
        numbers = subst (AllByRecursion (λ m. m.number ≤ length done)) (sym met-same) going.numbers;
        texts = texts-same;
        present = λ v less. text-same v less ∙ (going.present v less ∙ ap (λ steps. (text_line course.text steps).present) (sym steps-same));
        undo = subst (λ steps. IsUndoAfter course.text steps undo) (sym steps-same) going.undo;
        written = subst (λ ms. Takes (answered course.text ms) course.sink sink) (sym met-same) going.written;
        refusals = ap (has_refused course.text) met-same ∙ going.refusals;
      }

  -- ... or stops, for want of memory
  module _ (later : List (ℕ × SplitLine)) where
    behind : List Met
    behind = met_from new (steps_of new done) later

    all-met : met new (done ++ later) ≡ met old done ++ behind
    unfolding behind
    all-met = met-append new [] done later ∙ ap (λ ms. ms ++ behind) met-same

    part-all : (v : ℕ) → part_of course.text v (met new (done ++ later)) ≡ part_of course.text v (met old done) ++ part_of course.text v behind
    part-all v = ap (part_of course.text v) all-met ∙ part-more course.text v (met old done) behind

    pub cut-quiet-on : ((v : ℕ) → v < course.views
        → IsOrderlySoFar course.text (part_of course.text v (met new (done ++ later))) 1 (history_of new v).events)
        → IsCut (on course (done ++ later)) (at new undo sink) stops.Memory
    cut-quiet-on orderly =
        record {
          stopped = record {
            views = record { count = views-same.count; opening = views-same.opening };
            orderly = orderly;
            written = front-all course.sink sink (answered course.text (met old done)) (answered course.text behind)
                (answered course.text (met new (done ++ later))) going.written
                (sym (ap (answered course.text) all-met ∙ answered-more course.text (met old done) behind));
            parted = record { done = done; rest = later; all = refl };
            texts = All-from_recursion (FollowsTexts course.text course.views new) (met new done) texts-same;
          };
          why = going.written.passed;
        }

    pub cut-quiet : ((v : ℕ) → v < course.views → (rest : List (ℕ × Entry))
        → IsOrderlySoFar (history_of old v).opening (part_of course.text v (met old done) ++ rest) 1 (history_of new v).events)
        → IsCut (on course (done ++ later)) (at new undo sink) stops.Memory
    cut-quiet orderly =
        cut-quiet-on (λ v less.
        (let O : List ℕ → List (ℕ × Entry) → Type 0 = λ opening entries. IsOrderlySoFar opening entries 1 (history_of new v).events in
        subst (λ opening. O opening (part_of course.text v (met new (done ++ later)))) (going.views.opening v less)
        (subst (O (history_of old v).opening) (sym (part-all v)) (orderly v less (part_of course.text v behind)))))

module _ (course : SplitCourse) (done : List (ℕ × SplitLine)) (refused : Bool) (old new : List History) (undo : UndoParts) (sink : SinkState)
    (going : IsGoing course done refused (at old undo sink)) (count : length new ≡ length old) where
  in-old : (v : ℕ) → v < course.views → v < length old
  in-old v less = subst (λ n. v < n) (sym going.views.count) less

  -- runs of the views are wrapped
  pub going-settled : OfEach HasWrapped old new → IsGoing course done refused (at new undo sink)
  going-settled wrapped =
      going-quiet course done refused old new undo sink going count (λ v less. still-wrapped (history_of old v) (history_of new v) (wrapped v less))
      (λ v less. under-wrapped (part_of course.text v (met old done)) (history_of old v) (history_of new v) (going.under_way v less)
      (wrapped v (in-old v less)))

  -- ... and there was no memory for all of one
  pub cut-begun : OfEach HasBegun old new → (later : List (ℕ × SplitLine)) → IsCut (on course (done ++ later)) (at new undo sink) stops.Memory
  cut-begun begun later =
      cut-quiet course done refused old new undo sink going count (λ v less. still-begun (history_of old v) (history_of new v) (begun v less)) later
      (λ v less rest. begun-orderly (part_of course.text v (met old done)) (history_of old v) (history_of new v) (going.under_way v less)
      (begun v (in-old v less)) rest)
