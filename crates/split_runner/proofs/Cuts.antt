-- A run that goes on may stop, and at its script's end it may finish.
use Rattle.std.proofs.Common.{◌≡◌, ℕ, suc, ◌+◌, ◌<◌, Bool, List, [], ◌∷◌, ◌++◌, length, drop, refl, sym, ap, ◌∙◌, subst, append_assoc}
use Rattle.std.proofs.lemmas.List.{drop_at}
use Rattle.std.proofs.lemmas.List.Elements.{All-from_recursion}
use Rattle.display_map.specs.Events.{event_limit}
use Rattle.display_map.specs.Replay.{History}
use Rattle.live_display.specs.declared.owner.TheConstants.{EVENTS_AHEAD}
use Rattle.script_runner.specs.declared.stop.Stop.{Stop}
use Rattle.script_runner.specs.declared.stop.Stop.TheVariants as stops
use Rattle.script_runner.specs.Entries.{Entry}
use Rattle.script_runner.specs.Legal.{IsOrderlySoFar}
use Rattle.script_runner.proofs.Fronts.{front-all}
use Rattle.split_views.specs.Views.{history_of}
use Rattle.split_script.specs.Lines.{SplitLine}
use Rattle.split_script.specs.Met.{Met, Step, met, met_at, met_from, steps_of, steps_through}
use Rattle.split_script.specs.Output.{answered}
use Rattle.split_script.specs.Parts.{part_of}
use Rattle.split_script.specs.Theorems.{FollowsTexts, IsStopped, SplitCourse, asked_first, asked_for}
use Rattle.split_script.proofs.Mets.{answered-more, met-append, part-more}
use Rattle.split_runner.specs.Going.{IsCut, IsGoing, Stage, on}
use Rattle.split_runner.proofs.Within.{going-begun}

module _ (course : SplitCourse) (done later : List (ℕ × SplitLine)) (refused : Bool) (s : Stage) (going : IsGoing course done refused s) where
  abbrev text : List ℕ
  text = course.text

  behind : List Met
  behind = met_from s.histories (steps_of s.histories done) later

  all-met : met s.histories (done ++ later) ≡ met s.histories done ++ behind
  unfolding behind
  all-met = met-append s.histories [] done later

  part-all : (view : ℕ) → part_of text view (met s.histories (done ++ later)) ≡ part_of text view (met s.histories done) ++ part_of text view behind
  part-all view = ap (part_of text view) all-met ∙ part-more text view (met s.histories done) behind

  pub going-stopped : IsStopped (on course (done ++ later)) s.histories s.sink
  going-stopped =
      record {
        views = record { count = going.views.count; opening = going.views.opening };
        orderly = λ view lt.
            (let O : List ℕ → List (ℕ × Entry) → Type 0 = λ opening entries. IsOrderlySoFar opening entries 1 (history_of s.histories view).events in
            subst (λ opening. O opening (part_of text view (met s.histories (done ++ later)))) (going.views.opening view lt)
            (subst (O (history_of s.histories view).opening) (sym (part-all view)) ((going.under_way view lt).orderly (part_of text view behind))));
        written = front-all course.sink s.sink (answered text (met s.histories done)) (answered text behind) (answered text (met s.histories (done ++ later)))
            going.written (sym (ap (answered text) all-met ∙ answered-more text (met s.histories done) behind));
        parted = record { done = done; rest = later; all = refl };
        texts = All-from_recursion (FollowsTexts text course.views s.histories) (met s.histories done) going.texts;
      }

  -- where there is no memory
  pub going-short : IsCut (on course (done ++ later)) s stops.Memory
  going-short = record { stopped = going-stopped; why = going.written.passed }

  -- where some journal has no room for the events of a step, and the operations of the next line
  pub going-full : (view : ℕ) → view < course.views
      → event_limit < length (history_of s.histories view).events + EVENTS_AHEAD
      + asked_first text (drop (length done) (met s.histories (done ++ later)))
      → IsCut (on course (done ++ later)) s stops.JournalFull
  going-full view lt full =
      record {
        stopped = going-stopped;
        why = (
          going-begun course done refused s going,
          record {
            parted = record { done = done; rest = later; all = refl };
            handled = λ v less. (going.under_way v less).handled;
            view = view;
            there = lt;
            full = full;
          },
        );
      }

-- ---- what the next line asks for

length-met : (histories : List History) (past : List Step) (lines : List (ℕ × SplitLine)) → length (met_from histories past lines) ≡ length lines
length-met histories past [] = refl
length-met histories past (l ∷ lines) = ap suc (length-met histories (steps_through (met_at histories past l)) lines)

pub first-asked : (text : List ℕ) (histories : List History) (done later : List (ℕ × SplitLine)) (l : ℕ × SplitLine)
    → asked_first text (drop (length done) (met histories (done ++ (l ∷ later))))
    ≡ asked_for text (met_at histories (steps_of histories done) l) l.1
first-asked text histories done later l =
    let m = met_at histories (steps_of histories done) l in
    ap (λ ms. asked_first text (drop (length done) ms)) (met-append histories [] done (l ∷ later))
    ∙ ap (asked_first text) (drop_at (met histories done) (m ∷ met_from histories (steps_through m) later) (length done) (length-met histories [] done))

-- where the next line is handled by a cut, it is one of all lines
pub cut-next : (course : SplitCourse) (done later : List (ℕ × SplitLine)) (l : ℕ × SplitLine) (s : Stage) (stop : Stop)
    → IsCut (on course (done ++ (l ∷ later))) s stop → IsCut (on course ((done ++ l ∷ []) ++ later)) s stop
cut-next course done later l s stop cut = subst (λ lines. IsCut (on course lines) s stop) (sym (append_assoc done (l ∷ []) later)) cut
