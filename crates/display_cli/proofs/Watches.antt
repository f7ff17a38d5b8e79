-- How a run ends behind its last version: what its watchers saw is written.
use Rattle.std.proofs.Common.{◌≡◌, ℕ, ◌+◌, ◌<◌, ◌≤◌, true, All, List, [], ◌∷◌, ◌++◌, length, map, drop, get_or, Result, Ok, Err, refl, sym, ap, ◌∙◌, subst, append_assoc, arith}
use Rattle.std.specs.Prelude.{Option, None, Some, IfSome, IfOk, OnOk}
use Rattle.std.specs.declared.alloc.Global.{Global}
use Rattle.std.specs.declared.vec.Vec.{Vec}
use Rattle.std.proofs.lemmas.List.{append-nil, drop_more}
use Rattle.std.proofs.lemmas.List.Elements.{All-map, All-nil, All-weaker}
use Rattle.std.proofs.lemmas.Grind.{flat_map-append}
use Rattle.cell_units.specs.Text.{line_feed}
use Rattle.display_map.specs.Events.{Event}
use Rattle.display_map.specs.Replay.{History, ends, is_last}
use Rattle.version_board.specs.Known.{Known}
use Rattle.board_watch.specs.declared.seen.Seen.{Seen}
use Rattle.board_watch.specs.declared.seen.Watched.{Watched}
use Rattle.board_watch.specs.Watching.{AreRising, IsWatched}
use Rattle.script_runner.specs.declared.stop.Stop.{Stop}
use Rattle.script_runner.specs.declared.stop.Stop.TheVariants as stops
use Rattle.script_runner.specs.Legal.{history_of}
use Rattle.script_runner.specs.Outside.{SinkState, Takes, TakesFront}
use Rattle.script_runner.specs.declared.tally.Tally.{Tally}
use Rattle.script_runner.specs.Output.{printed, reported, watch_line, watch_lines}
use Rattle.script_runner.specs.Course.{Course, HaveWatchedSome, IsStopped}
use Rattle.script_runner.specs.Going.{at, IsPlayed, IsCut, IsWhy, HasEnded}
use Rattle.display_cli.specs.inside.Opening.{EndsWatch, HasWatched, SeeLast, seen_by}
use Rattle.script_runner.specs.Writing.{IsUnwritten}
use Rattle.script_runner.proofs.LastVersion.{played-front}
use Rattle.script_runner.proofs.Fronts.{AreWritten, takes-more, takes-none, front-all, risen-behind, unwritten-behind}

-- ---- lines

pub printed-append : (xs ys : List (List ℕ)) → printed (xs ++ ys) ≡ printed xs ++ printed ys
printed-append xs ys = flat_map-append (λ line. line ++ line_feed ∷ []) xs ys

-- some lines were written, before those that are left
pub more-written : (all some left : List (List ℕ)) (a b c : SinkState) → AreWritten all (some ++ left) a b → Takes (printed some) b c
    → AreWritten all left a c
more-written all some left a b c before taken = record {
  front = before.front ++ printed some;
  taken = takes-more a b c before.front (printed some) before.taken taken;
  is_front = append_assoc before.front (printed some) (printed left)
      ∙ (ap (λ l. before.front ++ l) (sym (printed-append some left)) ∙ before.is_front);
}

pub more-unwritten : (all some left : List (List ℕ)) (a b c : SinkState) (stop : Stop) → AreWritten all (some ++ left) a b
    → IsUnwritten (printed some) b c stop → IsUnwritten (printed all) a c stop
more-unwritten all some left a b c stop before why =
    unwritten-behind a b c before.front (printed some) (printed left) (printed all) stop before.taken why
    (append_assoc before.front (printed some) (printed left)
    ∙ (ap (λ l. before.front ++ l) (sym (printed-append some left)) ∙ before.is_front))

-- what each watcher saw, reader after reader
abbrev pub lists_of : List Watched → List (List Seen)
lists_of watched = map (λ w. w.seen.items) watched

module _ (all : List Watched) (reader : ℕ) (d : Watched) (lt : reader < length all) (a b c : SinkState)
    (before : AreWritten (watch_lines 0 (lists_of all)) (watch_lines reader (lists_of (drop reader all))) a b) (seen : List Seen)
    (is : seen ≡ (get_or all reader d).seen.items) where
  next-watched : AreWritten (watch_lines 0 (lists_of all)) (map (watch_line reader) seen ++ watch_lines (reader + 1) (lists_of (drop (reader + 1) all))) a b
  next-watched =
      let P : List Watched → Type 0 = λ rest. AreWritten (watch_lines 0 (lists_of all)) (watch_lines reader (lists_of rest)) a b in
      let Q : List Seen → Type 0 =
      λ seen. AreWritten (watch_lines 0 (lists_of all)) (map (watch_line reader) seen ++ watch_lines (reader + 1) (lists_of (drop (reader + 1) all))) a b in
      subst Q (sym is) (subst P (drop_more all reader d lt) before)

  pub lists-written : Takes (printed (map (watch_line reader) seen)) b c
      → AreWritten (watch_lines 0 (lists_of all)) (watch_lines (reader + 1) (lists_of (drop (reader + 1) all))) a c
  lists-written taken =
      more-written (watch_lines 0 (lists_of all)) (map (watch_line reader) seen) (watch_lines (reader + 1) (lists_of (drop (reader + 1) all))) a b c next-watched taken

  pub lists-unwritten : (stop : Stop) → IsUnwritten (printed (map (watch_line reader) seen)) b c stop
      → IsUnwritten (printed (watch_lines 0 (lists_of all))) a c stop
  lists-unwritten stop why =
      more-unwritten (watch_lines 0 (lists_of all)) (map (watch_line reader) seen) (watch_lines (reader + 1) (lists_of (drop (reader + 1) all))) a b c stop next-watched why

-- ---- the end of a watch

-- a stopped run whose watchers saw some versions
with-watched : (make : Option ℕ) (course : Course) (events : List Event) (sink : SinkState) (watched : List (List Seen)) → IsStopped make course events sink []
    → HaveWatchedSome course watched → IsStopped make course events sink watched
with-watched make course events sink watched stopped some =
    let front = stopped.written in
    let P : List ℕ → Type 0 = λ bytes. TakesFront (bytes ++ printed (watch_lines 0 watched)) course.sink sink in
    record {
      begun = stopped.begun;
      legal = stopped.legal;
      written = subst P (append-nil (reported make course.text course.entries events)) (record {
        front = front.front;
        rest = front.rest ++ printed (watch_lines 0 watched);
        is_front = sym (append_assoc front.front front.rest (printed (watch_lines 0 watched)))
            ∙ ap (λ l. l ++ printed (watch_lines 0 watched)) front.is_front;
        taken = front.taken;
      });
      watchers = some;
    }

why-at : (course : Course) (h k : History) (sink : SinkState) (stop : Stop) → h.events ≡ k.events → IsWhy course (at h sink) stop → IsWhy course (at k sink) stop
why-at course h k sink stops.Write e why = why
why-at course h k sink stops.JournalFull e why =
    let P : List Event → Type 0 = λ events. IsWhy course (at (record { opening = k.opening; events = events }) sink) stops.JournalFull in subst P e why
why-at course h k sink stops.Memory e why =
    let P : List Event → Type 0 = λ events. IsWhy course (at (record { opening = k.opening; events = events }) sink) stops.Memory in subst P e why

module _ (make : Option ℕ) (course : Course) (h : History) where
  -- the play stopped
  pub watched-stopped : (sink : SinkState) (stop : Stop) (watched : List (List Seen)) → IsCut make course (at h sink) stop → HaveWatchedSome course watched
      → HasWatched make course h.events sink watched (Err stop)
  watched-stopped sink stop watched cut some = (
    with-watched make course h.events sink watched cut.stopped some,
    why-at course h (history_of course.text h.events) sink stop refl cut.why,
  )

  -- it came to its end, and then the run stopped
  module _ (tally : Tally) (sink : SinkState) (played : IsPlayed make course tally (at h sink)) where
    pub watched-unwritten : (after : SinkState) (watched : List (List Seen)) (stop : Stop) → IsUnwritten (printed (watch_lines 0 watched)) sink after stop
        → HaveWatchedSome course watched → HasWatched make course h.events after watched (Err stop)
    watched-unwritten after watched stops.Write why some = (
      played-front make course h tally sink played after watched why.0 some,
      risen-behind course.sink.faults sink.faults after.faults played.written.passed why.1,
    )
    watched-unwritten after watched stops.JournalFull why some = absurd why
    watched-unwritten after watched stops.Memory why some = (played-front make course h tally sink played after watched why.0 some, (played.room, why.1 ∙ played.written.passed))

    -- there was no memory for what the watchers saw
    pub watched-short : HasWatched make course h.events sink [] (Err stops.Memory)
    watched-short =
        watched-unwritten sink [] stops.Memory (front-all sink sink [] [] [] (nothing sink) refl, refl) (record { few = omega arith; each = All-nil (AreRising 0) })
      where
        nothing : (a : SinkState) → Takes [] a a
        nothing a = takes-none a

    pub ends-true : ends h.events ≡ true
    ends-true = ap is_last played.legal.ends

    -- all was written
    pub watched-written : (after : SinkState) (watched : List (List Seen)) → Takes (printed (watch_lines 0 watched)) sink after
        → length watched ≡ course.watchers → All (IsWatched h) watched → HasWatched make course h.events after watched (Ok tally)
    watched-written after watched taken all each status says =
        let P : List ℕ → Type 0 = λ text. All (IsWatched (record { opening = text; events = h.events })) watched in
        let N : Tally → Type 0 = λ t. 1 ≤ t.refused in
        record {
          legal = played.legal;
          written = takes-more course.sink sink after (reported make course.text course.entries h.events) (printed (watch_lines 0 watched)) played.written taken;
          refusals = (λ e. subst N (sym played.tallied) (says.0 e), λ e. says.1 (subst N played.tallied e));
          watchers = record { all = all; each = subst P played.opening each };
        }

rising-each : (h : History) (watched : List (List Seen)) → All (IsWatched h) watched → All (AreRising 0) watched
rising-each h = All-weaker (IsWatched h) (AreRising 0) (λ seen it. it.rising)

-- what the watchers saw last, where the last version is shown
last-each : (h : History) (writer : Option Known) (watched : List (List Seen)) → ends h.events ≡ true → IfSome writer (λ w. w.newest ≡ h)
    → SeeLast writer watched → All (IsWatched h) watched
last-each h None watched ended shown last = let P : List (List Seen) → Type 0 = All (IsWatched h) in subst P (sym last) (All-nil (IsWatched h))
last-each h (Some w) watched ended shown last =
    let P : History → Type 0 = λ v. ends v.events ≡ true → All (IsWatched v) watched in subst P shown last ended

-- what the watchers of a board saw last
pub see-last : {E : Type 0} (o : Option Known) (writer : Known) (r : Result (Vec Watched Global) E) → o ≡ Some writer
    → IfOk r (λ watched. ends writer.newest.events ≡ true → All (λ w. IsWatched writer.newest w.seen.items) watched.items)
    → IfOk r (λ watched. SeeLast o (seen_by watched))
see-last o writer (Ok watched) is seen =
    let P : Option Known → Type 0 = λ o. SeeLast o (seen_by watched) in
    subst P (sym is) (λ last. All-map (IsWatched writer.newest) (λ (w : Watched). w.seen.items) watched.items (seen last))
see-last o writer (Err e) is seen = tt

module _ (played : Result Tally Stop) (writer : Option Known) (count : ℕ) (old : SinkState) where
  module _ (tally : Tally) (is : played ≡ Ok tally) where
    it-is : (make : Option ℕ) (course : Course) (h : History) → HasEnded make course (at h old) played → IsPlayed make course tally (at h old)
    it-is make course h ended = let P : Result Tally Stop → Type 0 = λ r. HasEnded make course (at h old) r in subst P is ended

    each-is : (make : Option ℕ) (course : Course) (h : History) (watched : List (List Seen)) → HasEnded make course (at h old) played
        → OnOk played (IfSome writer (λ w. w.newest ≡ h)) → SeeLast writer watched → All (IsWatched h) watched
    each-is make course h watched ended shown last =
        let S : Result Tally Stop → Type 0 = λ r. OnOk r (IfSome writer (λ w. w.newest ≡ h)) in
        last-each h writer watched (ends-true make course h tally old (it-is make course h ended)) (subst S is shown) last

    pub ends-written : (new : SinkState) (watched : List (List Seen)) → Takes (printed (watch_lines 0 watched)) old new → length watched ≡ count
        → SeeLast writer watched → EndsWatch played writer count old new (Ok tally) watched
    ends-written new watched taken counted last make course h ended shown few all =
        let C : Result Tally Stop → Type 0 = λ r. OnOk r (count ≡ course.watchers) in
        watched-written make course h tally old (it-is make course h ended) new watched taken (counted ∙ subst C is all) (each-is make course h watched ended shown last)

    pub ends-unwritten : (new : SinkState) (watched : List (List Seen)) (stop : Stop) → IsUnwritten (printed (watch_lines 0 watched)) old new stop
        → length watched ≡ count → SeeLast writer watched → EndsWatch played writer count old new (Err stop) watched
    ends-unwritten new watched stop why counted last make course h ended shown few all =
        watched-unwritten make course h tally old (it-is make course h ended) new watched stop why
        (record { few = omega arith; each = rising-each h watched (each-is make course h watched ended shown last) })

    pub ends-short : EndsWatch played writer count old old (Err stops.Memory) []
    ends-short make course h ended shown few all = watched-short make course h tally old (it-is make course h ended)

  pub ends-stopped : (stop : Stop) (watched : List (List Seen)) → played ≡ Err stop → length watched ≤ count → All (AreRising 0) watched
      → EndsWatch played writer count old old (Err stop) watched
  ends-stopped stop watched is counted rising make course h ended shown few all =
      let P : Result Tally Stop → Type 0 = λ r. HasEnded make course (at h old) r in
      watched-stopped make course h old stop watched (subst P is ended) (record { few = omega arith; each = rising })
