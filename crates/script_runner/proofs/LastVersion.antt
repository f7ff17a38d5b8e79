-- A play that published its last version may still stop.
use Rattle.std.proofs.Common.{◌≡◌, ℕ, ◌+◌, ◌≤◌, true, List, [], ◌∷◌, ◌++◌, Option, Some, None, refl, arith}
use Rattle.std.specs.List.{last_or}
use Rattle.std.proofs.lemmas.List.{append-nil}
use Rattle.std.proofs.lemmas.List.Elements.{All-nil}
use Rattle.display_map.specs.Events.{Event, Published}
use Rattle.display_map.specs.Replay.{History}
use Rattle.board_watch.specs.declared.seen.Seen.{Seen}
use Rattle.board_watch.specs.Watching.{AreRising}
use Rattle.script_runner.specs.declared.stop.Stop.TheVariants as stops
use Rattle.script_runner.specs.declared.tally.Tally.{Tally}
use Rattle.script_runner.specs.Outside.{SinkState, TakesFront}
use Rattle.script_runner.specs.Output.{printed, output, reported, watch_lines}
use Rattle.script_runner.specs.Course.{Course, HaveWatchedSome, IsStopped}
use Rattle.script_runner.specs.Going.{at, IsPlayed, IsCut}
use Rattle.script_runner.proofs.Fronts.{takes-none, front-all, front-behind}

pub last-begun : (events : List Event) → last_or None events ≡ Some (Published true) → events ≡ [] → ⊥
last-begun [] e none = cc
last-begun (x ∷ events) e none = cc

module _ (make : Option ℕ) (course : Course) (h : History) (tally : Tally) (sink : SinkState) (played : IsPlayed make course tally (at h sink)) where
  -- some lines of what the watchers saw were written
  pub played-front : (after : SinkState) (watched : List (List Seen)) → TakesFront (printed (watch_lines 0 watched)) sink after → HaveWatchedSome course watched
      → IsStopped make course h.events after watched
  played-front after watched front some =
      record {
        begun = last-begun h.events played.legal.ends;
        legal = played.legal.so_far;
        written = front-behind course.sink sink after (reported make course.text course.entries h.events) (printed (watch_lines 0 watched)) []
            (output make course.text course.entries h.events watched) played.written front (append-nil (output make course.text course.entries h.events watched));
        watchers = some;
      }

  -- there was no memory for what comes after it
  pub played-cut : IsCut make course (at h sink) stops.Memory
  played-cut =
      record {
        opening = played.opening;
        stopped = played-front sink [] (front-all sink sink [] [] [] (takes-none sink) refl) (record { few = omega arith; each = All-nil (AreRising 0) });
        why = (played.room, played.written.passed);
      }
