-- A run that stops within a line: the views have the first of its events, and a prefix of its answer was written.
use Rattle.std.proofs.Common.{◌≡◌, ℕ, suc, ◌+◌, ◌<◌, ◌≤◌, Bool, List, [], ◌∷◌, ◌++◌, length, Result, Ok, Err, refl, sym, ap, ◌∙◌, subst, append_assoc, length-append, arith}
use Rattle.std.specs.List.{AllByRecursion, cons_option}
use Rattle.std.specs.Result.{IsErrAnd}
use Rattle.std.proofs.lemmas.List.Elements.{All-from_recursion}
use Rattle.display_map.specs.Events.{Event}
use Rattle.display_map.specs.Replay.{History}
use Rattle.script_runner.specs.declared.stop.Stop.{Stop}
use Rattle.script_runner.specs.declared.stop.Stop.TheVariants as stops
use Rattle.script_runner.specs.Entries.{Entry}
use Rattle.script_runner.specs.Legal.{IsOrderlySoFar}
use Rattle.script_runner.specs.Outside.{SinkState, TakesFront}
use Rattle.script_runner.specs.Writing.{IsUnwritten}
use Rattle.script_runner.proofs.Fronts.{front-none, unwritten-behind}
use Rattle.split_views.specs.Views.{history_of}
use Rattle.undo_line.specs.UndoParts.{UndoParts}
use Rattle.split_script.specs.Lines.{SplitLine}
use Rattle.split_script.specs.Met.{Met, met, met_at, met_from, steps_of}
use Rattle.split_script.specs.Output.{answered}
use Rattle.split_script.specs.Parts.{entry_of, part_of}
use Rattle.split_script.specs.Theorems.{FollowsTexts, HaveBegun, IsStopped, SplitCourse}
use Rattle.split_script.proofs.Before.{StartWith}
use Rattle.split_script.proofs.Mets.{Grow, answered-more, met-append, met-snoc, met-stable, part-more, steps-stable}
use Rattle.split_runner.specs.Going.{AreMoved, IsCut, IsGoing, IsHandled, Stage, at, on}
use Rattle.split_runner.proofs.Cases.{grow-moved, moved-none, texts-stay}
use Rattle.split_runner.proofs.Goings.{all-weaker}

-- where a call fails, the line is handled by a cut
pub handled-err : (course : SplitCourse) (done : List (ℕ × SplitLine)) (refused : Bool) (s : Stage) (r : Result Bool Stop) (stop : Stop)
    → IsErrAnd r (λ e. e ≡ stop) → ((later : List (ℕ × SplitLine)) → IsCut (on course (done ++ later)) s stop) → IsHandled course done refused s r
handled-err course done refused s (Ok again) stop e cut = absurd e
handled-err course done refused s (Err other) stop e cut =
    let P : Stop → Type 0 = λ x. (later : List (ℕ × SplitLine)) → IsCut (on course (done ++ later)) s x in subst P (sym e) cut

begun-length : (events : List Event) → (events ≡ [] → ⊥) → 0 < length events
begun-length [] begun = absurd (begun refl)
begun-length (e ∷ events) begun = omega arith

-- every history of a run that goes on has begun
pub going-begun : (course : SplitCourse) (done : List (ℕ × SplitLine)) (refused : Bool) (s : Stage) → IsGoing course done refused s
    → HaveBegun course s.histories
going-begun course done refused s going view lt =
    begun-length (history_of s.histories view).events ((going.under_way view lt).free []).begun

-- what the entries of each view are, one of them maybe new: its history is orderly whichever come later
abbrev pub StayOrderly : SplitCourse → List (ℕ × SplitLine) → List History → List History → Met → Type 0
StayOrderly course done old new m =
    (v : ℕ) → v < course.views → (rest : List (ℕ × Entry))
    → IsOrderlySoFar (history_of old v).opening
    ((part_of course.text v (met old done) ++ cons_option (entry_of course.text v m) []) ++ rest) 1 (history_of new v).events

module _ (course : SplitCourse) (done later : List (ℕ × SplitLine)) (refused : Bool) (old new : List History) (undo : UndoParts) (sink : SinkState)
    (l : ℕ × SplitLine) (m : Met) (more : ℕ → List Event) (going : IsGoing course done refused (at old undo sink)) (next : l.0 ≡ suc (length done))
    (moved : AreMoved old new more) (starts : (v : ℕ) → v < length old → StartWith l.0 (more v))
    (is : met_at new (steps_of old done) l ≡ m) where
  abbrev text : List ℕ
  text = course.text

  abbrev lines : List (ℕ × SplitLine)
  lines = (done ++ l ∷ []) ++ later

  within : (v : ℕ) → v < course.views → v < length old
  within v less = subst (λ n. v < n) (sym going.views.count) less

  grow : Grow old new
  grow = grow-moved old new more moved

  met-now : met new (done ++ l ∷ []) ≡ met old done ++ m ∷ []
  met-now =
      met-snoc new done l
      ∙ (ap (λ ms. ms ++ met_at new (steps_of new done) l ∷ []) (met-stable old new grow done going.there)
      ∙ ap (λ x. met old done ++ x ∷ []) (ap (λ steps. met_at new steps l) (steps-stable old new grow done going.there) ∙ is))

  behind : List Met
  behind = met_from new (steps_of new (done ++ l ∷ [])) later

  all-met : met new lines ≡ (met old done ++ m ∷ []) ++ behind
  unfolding behind
  all-met = met-append new [] (done ++ l ∷ []) later ∙ ap (λ ms. ms ++ behind) met-now

  part-all : (v : ℕ) → part_of text v (met new lines)
      ≡ (part_of text v (met old done) ++ cons_option (entry_of text v m) []) ++ part_of text v behind
  part-all v =
      ap (part_of text v) all-met
      ∙ (part-more text v (met old done ++ m ∷ []) behind ∙ ap (λ p. p ++ part_of text v behind) (part-more text v (met old done) (m ∷ [])))

  answered-all : answered text (met new lines) ≡ (answered text (met old done) ++ answered text (m ∷ [])) ++ answered text behind
  answered-all =
      ap (answered text) all-met
      ∙ (answered-more text (met old done ++ m ∷ []) behind
      ∙ ap (λ a. a ++ answered text behind) (answered-more text (met old done) (m ∷ [])))

  stopped-within : (sink' : SinkState) → StayOrderly course done old new m → TakesFront (answered text (met new lines)) course.sink sink'
      → IsStopped (on course lines) new sink'
  stopped-within sink' orderly written =
      record {
        views = record {
          count = moved.count ∙ going.views.count;
          opening = λ v less. ap (λ (h : History). h.opening) (moved.each v (within v less)) ∙ going.views.opening v less;
        };
        orderly = λ v less.
            (let O : List ℕ → List (ℕ × Entry) → Type 0 = λ opening entries. IsOrderlySoFar opening entries 1 (history_of new v).events in
            subst (λ opening. O opening (part_of text v (met new lines))) (going.views.opening v less)
            (subst (O (history_of old v).opening) (sym (part-all v)) (orderly v less (part_of text v behind))));
        written = written;
        parted = record { done = done; rest = l ∷ later; all = sym (append_assoc done (l ∷ []) later) };
        texts = All-from_recursion (FollowsTexts text course.views new) (met new done)
            (subst (AllByRecursion (FollowsTexts text course.views new)) (sym (met-stable old new grow done going.there))
            (all-weaker (λ x. x.number ≤ length done) (FollowsTexts text course.views old) (FollowsTexts text course.views new) (met old done)
            (λ x le follows view lt. texts-stay (suc (length done)) old new more moved
            (λ v less. subst (λ n. StartWith n (more v)) next (starts v less)) (x.number + 1) view (omega (arith, le)) ∙ follows view lt)
            going.numbers going.texts));
      }

  begun-now : HaveBegun (on course lines) new
  begun-now v less =
      let before : 0 < length (history_of old v).events = going-begun course done refused (at old undo sink) going v less in
      let longer : length (history_of new v).events ≡ length (history_of old v).events + length (more v) =
      ap (λ (h : History). length h.events) (moved.each v (within v less)) ∙ length-append (history_of old v).events (more v) in
      omega (arith, before, longer)

  -- the run is cut, after a prefix of the line's answer
  pub cut-within : (undo' : UndoParts) (sink' : SinkState) (stop : Stop) → StayOrderly course done old new m
      → IsUnwritten (answered text (m ∷ [])) sink sink' stop → IsCut (on course lines) (at new undo' sink') stop
  cut-within undo' sink' stop orderly why =
      by stop (unwritten-behind course.sink sink sink' (answered text (met old done)) (answered text (m ∷ [])) (answered text behind)
      (answered text (met new lines)) stop going.written why (sym answered-all))
    where
      by : (stop : Stop) → IsUnwritten (answered text (met new lines)) course.sink sink' stop → IsCut (on course lines) (at new undo' sink') stop
      by stops.Write it = record { stopped = stopped-within sink' orderly it.0; why = (begun-now, it.1) }
      by stops.JournalFull it = absurd it
      by stops.Memory it = record { stopped = stopped-within sink' orderly it.0; why = it.1 }

-- nothing was written, for want of memory
pub nothing-written : (bytes : List ℕ) (sink : SinkState) → IsUnwritten bytes sink sink stops.Memory
nothing-written bytes sink = (front-none sink bytes, refl)

-- no history went on
module _ (course : SplitCourse) (done later : List (ℕ × SplitLine)) (refused : Bool) (hs : List History) (undo undo' : UndoParts) (sink : SinkState)
    (l : ℕ × SplitLine) (going : IsGoing course done refused (at hs undo sink)) (next : l.0 ≡ suc (length done)) where
  stay-none : StayOrderly course done hs hs (met_at hs (steps_of hs done) l)
  stay-none v less rest =
      let p = part_of course.text v (met hs done) in
      let c = cons_option (entry_of course.text v (met_at hs (steps_of hs done) l)) [] in
      subst (λ entries. IsOrderlySoFar (history_of hs v).opening entries 1 (history_of hs v).events) (sym (append_assoc p c rest))
      ((going.under_way v less).orderly (c ++ rest))

  -- the run is cut before a line
  pub cut-before : (sink' : SinkState) (stop : Stop) → IsUnwritten (answered course.text (met_at hs (steps_of hs done) l ∷ [])) sink sink' stop
      → IsCut (on course ((done ++ l ∷ []) ++ later)) (at hs undo' sink') stop
  cut-before sink' stop why =
      cut-within course done later refused hs hs undo sink l (met_at hs (steps_of hs done) l) (λ v. []) going next
      (moved-none hs) (λ v less. tt) refl undo' sink' stop stay-none why
