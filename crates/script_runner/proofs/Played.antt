-- A run from its first version to its last.
use Rattle.std.proofs.Common.{◌≡◌, ℕ, zero, suc, ◌+◌, ◌<◌, ◌≤◌, Bool, true, false, not, cond, List, [], ◌∷◌, ◌++◌, map, length, take, drop, get_or, Some, None, Result, Ok, Err, refl, sym, ap, ◌∙◌, subst, arith, length-append}
use Rattle.std.specs.Prelude.{◌==◌, nat_lt}
use Rattle.std.specs.Result.{IsErrAnd}
use Rattle.std.specs.List.{enumerate_from, filter, position, position_or_len, prefix_len}
use Rattle.std.proofs.lemmas.Bool.{ltb-false, eqb-true}
use Rattle.std.proofs.lemmas.List.Sums.{prefix_len_passes}
use Rattle.cell_units.specs.Text.{is_feed}
use Rattle.cell_units.specs.Cutting.{cut_lines, onto_line}
use Rattle.display_map.specs.Events.{Event}
use Rattle.display_map.specs.Events.{Published}
use Rattle.display_map.specs.Events.{event_limit}
use Rattle.display_map.specs.Replay.{History, state_of, present_of, is_settled, appended}
use Rattle.live_display.specs.Beside.{outstanding}
use Rattle.edit_script.specs.declared.asked.Form.{Form}
use Rattle.edit_script.specs.Verdict.{is_blank}
use Rattle.script_runner.specs.declared.stop.Stop.{Stop}
use Rattle.script_runner.specs.Entries.{Entry, Bytes, script_lines}
use Rattle.script_runner.specs.Outside.{SinkState, Takes}
use Rattle.script_runner.specs.declared.tally.Tally.{Tally}
use Rattle.script_runner.specs.Output.{answered, no_lines, tally_of}
use Rattle.script_runner.specs.Legal.{AtEach, Opens, TakesNextLine, DoesChanges, PublishesLandings, Sends, LandsOnce, AnswersSettled, GoesUnsettled, KeepsBusy, Ends, IsLegal, IsLegalSoFar, IsDone, lines_in}
use Rattle.script_runner.specs.Course.{Course}
use Rattle.script_runner.specs.Going as going
use Rattle.script_runner.specs.Going.{Stage, at, AreHandled, IsGoing, IsCut, IsPlayed, HasEnded, HasRoomAhead, numbered_from}
use Rattle.script_runner.proofs.Snoc.{quiet-append, last-snoc}
use Rattle.script_runner.proofs.Next.{free-snoc, legal-quiet, next-opening, next-last, none-each, none-orderly}
use Rattle.script_runner.proofs.Fronts.{takes-none}
use Rattle.script_runner.proofs.Lines.{none-left}

numbered-step : (form : Form) (number : ℕ) (line : List ℕ) (lines : List (List ℕ)) (b : Bool) → is_blank line ≡ b
    → numbered_from form number (line ∷ lines)
    ≡ cond (not b) ((number, Bytes form line) ∷ numbered_from form (number + 1) lines) (numbered_from form (number + 1) lines)
numbered-step form number line lines b e =
    ap (λ b. map {B = ℕ × Entry} (λ l. (l.0, Bytes form l.1)) (cond (not b) ((number, line) ∷ rest) rest)) e ∙ either b
  where
    rest : List (ℕ × List ℕ)
    rest = filter (λ l. not (is_blank l.1)) (enumerate_from (number + 1) lines)

    either : (b : Bool) → map {B = ℕ × Entry} (λ l. (l.0, Bytes form l.1)) (cond (not b) ((number, line) ∷ rest) rest)
        ≡ cond (not b) ((number, Bytes form line) ∷ map {B = ℕ × Entry} (λ l. (l.0, Bytes form l.1)) rest) (map {B = ℕ × Entry} (λ l. (l.0, Bytes form l.1)) rest)
    either true = refl
    either false = refl

module _ (course : Course) (form : Form) (number : ℕ) (line : List ℕ) (lines : List (List ℕ)) (tally : Tally) (s : Stage)
    (going : IsGoing course (numbered_from form number (line ∷ lines)) tally s) where
  pub over-blank : is_blank line ≡ true → IsGoing course (numbered_from form (number + 1) lines) tally s
  over-blank e =
      let P : List (ℕ × Entry) → Type 0 = λ left. IsGoing course left tally s in
      subst P (numbered-step form number line lines true e) going

  pub at-line : is_blank line ≡ false → IsGoing course ((number, Bytes form line) ∷ numbered_from form (number + 1) lines) tally s
  at-line e =
      let P : List (ℕ × Entry) → Type 0 = λ left. IsGoing course left tally s in
      subst P (numbered-step form number line lines false e) going

-- the lines of a script, cut at the first line feed
onto-lines : (x : ℕ) (cut : List (List ℕ)) (a : List ℕ) (more : List (List ℕ)) → is_feed x ≡ false
    → map (filter (λ b. not (is_feed b))) cut ≡ a ∷ more → map (filter (λ b. not (is_feed b))) (onto_line x cut) ≡ (x ∷ a) ∷ more
onto-lines x [] a more apart e = cc
onto-lines x (l ∷ ls) a more apart e =
    let f : List ℕ → List ℕ = filter (λ b. not (is_feed b)) in
    let one : f (x ∷ l) ≡ x ∷ f l = ap (λ b. cond (not b) (x ∷ f l) (f l)) apart in
    let head : f l ≡ a = list-head (f l) a (map f ls) more e in
    let tail : map f ls ≡ more = list-tail (f l) a (map f ls) more e in
    ap (λ y. y ∷ map f ls) (one ∙ ap (λ y. x ∷ y) head) ∙ ap (λ ys. (x ∷ a) ∷ ys) tail
  where
    list-head : (x y : List ℕ) (xs ys : List (List ℕ)) → (x ∷ xs) ≡ (y ∷ ys) → x ≡ y
    list-head x y xs ys e = cc

    list-tail : (x y : List ℕ) (xs ys : List (List ℕ)) → (x ∷ xs) ≡ (y ∷ ys) → xs ≡ ys
    list-tail x y xs ys e = cc

-- up to the feed at `end`, before which there is none
pub lines-at : (xs : List ℕ) (end : ℕ) → end < length xs → is_feed (get_or xs end 0) ≡ true
    → ((k : ℕ) → k < end → is_feed (get_or xs k 0) ≡ false)
    → script_lines xs ≡ take end xs ∷ script_lines (drop (suc end) xs)
lines-at [] end below here before = absurd (omega arith)
lines-at (x ∷ xs) zero below here before =
    let f : List ℕ → List ℕ = filter (λ b. not (is_feed b)) in
    ap (λ b. map f (cond b ((x ∷ []) ∷ cut_lines is_feed xs) (onto_line x (cut_lines is_feed xs)))) here
    ∙ ap (λ b. cond (not b) (x ∷ []) [] ∷ map f (cut_lines is_feed xs)) here
lines-at (x ∷ xs) (suc end) below here before =
    let f : List ℕ → List ℕ = filter (λ b. not (is_feed b)) in
    let apart : is_feed x ≡ false = before 0 (omega arith) in
    let rest = lines-at xs end (omega arith) here (λ k h. before (suc k) (omega arith)) in
    ap (λ b. map f (cond b ((x ∷ []) ∷ cut_lines is_feed xs) (onto_line x (cut_lines is_feed xs)))) apart
    ∙ onto-lines x (cut_lines is_feed xs) (take end xs) (script_lines (drop (suc end) xs)) apart rest

-- without any feed
pub lines-none : (x : ℕ) (xs : List ℕ) → ((k : ℕ) → k < suc (length xs) → is_feed (get_or (x ∷ xs) k 0) ≡ false)
    → script_lines (x ∷ xs) ≡ (x ∷ xs) ∷ []
lines-none x [] none =
    let f : List ℕ → List ℕ = filter (λ b. not (is_feed b)) in
    let apart : is_feed x ≡ false = none 0 (omega arith) in
    ap (λ b. map f (cond b ((x ∷ []) ∷ []) ((x ∷ []) ∷ []))) apart ∙ ap (λ b. cond (not b) (x ∷ []) [] ∷ []) apart
lines-none x (y ∷ ys) none =
    let f : List ℕ → List ℕ = filter (λ b. not (is_feed b)) in
    let apart : is_feed x ≡ false = none 0 (omega arith) in
    let rest = lines-none y ys (λ k h. none (suc k) (omega arith)) in
    ap (λ b. map f (cond b ((x ∷ []) ∷ cut_lines is_feed (y ∷ ys)) (onto_line x (cut_lines is_feed (y ∷ ys))))) apart
    ∙ onto-lines x (cut_lines is_feed (y ∷ ys)) (y ∷ ys) [] apart rest

some-none : (b : Bool) (n : ℕ) → cond b (Some n) None ≡ None → b ≡ false
some-none true n e = cc
some-none false n e = refl

not-true : (b : Bool) → not b ≡ true → b ≡ false
not-true true e = cc
not-true false e = refl

pub no-feed : (xs : List ℕ) → position is_feed xs ≡ None → (k : ℕ) → k < length xs → is_feed (get_or xs k 0) ≡ false
no-feed xs e k below =
    let far : length xs ≤ prefix_len (λ b. not (is_feed b)) xs =
    ltb-false (prefix_len (λ b. not (is_feed b)) xs) (length xs) (some-none (nat_lt (position_or_len is_feed xs) (length xs)) (position_or_len is_feed xs) e) in
    not-true (is_feed (get_or xs k 0)) (prefix_len_passes (λ b. not (is_feed b)) xs k 0 (omega arith))

pub lines-all : (xs : List ℕ) → 0 < length xs → position is_feed xs ≡ None → script_lines xs ≡ xs ∷ []
lines-all [] some e = absurd (omega arith)
lines-all (x ∷ xs) some e = lines-none x xs (no-feed (x ∷ xs) e)

-- nothing happened yet
none-legal : (text : List ℕ) (entries : List (ℕ × Entry)) (workers : ℕ) → IsLegalSoFar text entries workers []
none-legal text entries workers =
    record { orderly = none-orderly text entries workers; unsettled = none-each (GoesUnsettled text entries) }

module _ (h : History) (fresh : h.events ≡ []) where
  pub going-fresh : (entries : List (ℕ × Entry)) (workers watchers : ℕ) (sink : SinkState)
      → IsGoing (record { text = h.opening; entries = entries; workers = workers; watchers = watchers; sink = sink }) entries no_lines
      (at (appended h (Published false ∷ [])) sink)
  going-fresh entries workers watchers sink =
      let P : List Event → Type 0 = λ events. IsGoing (record { text = h.opening; entries = entries; workers = workers; watchers = watchers; sink = sink }) entries no_lines
      (at (record { opening = h.opening; events = events ++ Published false ∷ [] }) sink) in
      subst P (sym fresh) (record {
        opening = refl;
        legal = legal-quiet h.opening entries workers [] (Published false) (none-legal h.opening entries workers) (next-opening h.opening entries workers) refl;
        free = free-snoc h.opening entries [] (Published false) refl refl refl refl;
        lines = refl;
        written = takes-none sink;
        tallied = refl;
      })

  pub room-fresh : length (h.events ++ Published false ∷ []) < event_limit
  room-fresh = let P : List Event → Type 0 = λ events. length (events ++ Published false ∷ []) < event_limit in subst P (sym fresh) (omega arith)

-- the last version is published
pub played : (course : Course) (tally : Tally) (s : Stage) → IsGoing course [] tally s → is_settled (present_of s.history) ≡ true
    → outstanding (state_of s.history) ≡ 0 → HasRoomAhead s.history → IsPlayed None course tally (at (appended s.history (Published true ∷ [])) s.sink)
played course tally s going settled landed room =
    let h : History = s.history in
    let is_done : IsDone h.opening course.entries h.events = record {
      lines = none-left course.entries (lines_in h.events) going.lines;
      settled = settled;
      landed = landed;
    } in
    let quiet = quiet-append h.opening course.entries h.events (Published true ∷ []) refl in
    let more = length-append h.events (Published true ∷ []) in
    let W : List ℕ → Type 0 = λ bytes. Takes bytes course.sink s.sink in
    let T : List ℕ → Type 0 = λ text. Takes (answered text course.entries (h.events ++ Published true ∷ [])) course.sink s.sink in
    let L : List ℕ → Type 0 = λ text. IsLegal text course.entries course.workers (h.events ++ Published true ∷ []) in
    record {
      opening = going.opening;
      legal = subst L going.opening (record {
        so_far = legal-quiet h.opening course.entries course.workers h.events (Published true) going.legal (next-last h.opening course.entries course.workers h.events going.free is_done) refl;
        ends = last-snoc None h.events (Published true);
      });
      written = subst T going.opening (subst W (sym quiet.answered) going.written);
      tallied = ap (λ text. tally_of text course.entries (h.events ++ Published true ∷ [])) (sym going.opening) ∙ (quiet.tallied ∙ going.tallied);
      room = omega arith;
    }

pub none-lines : (rest : List ℕ) → (length rest == 0) ≡ true → script_lines rest ≡ []
none-lines [] e = refl
none-lines (x ∷ rest) e = absurd (let no_length : suc (length rest) ≡ 0 = eqb-true (suc (length rest)) 0 e in omega arith)

pub lines-err : (course : Course) (s : Stage) (r : Result Tally Stop) (stop : Stop) → IsErrAnd r (λ e. e ≡ stop) → IsCut None course s stop → AreHandled course s r
lines-err course s (Ok tally) stop e it = absurd e
lines-err course s (Err other) stop e it = let P : Stop → Type 0 = λ stop. IsCut None course s stop in subst P (sym e) it

pub ended-err : (course : Course) (s : Stage) (r : Result Tally Stop) (stop : Stop) → IsErrAnd r (λ e. e ≡ stop) → IsCut None course s stop → HasEnded None course s r
ended-err course s (Ok now) stop e it = absurd e
ended-err course s (Err other) stop e it = let P : Stop → Type 0 = λ stop. IsCut None course s stop in subst P (sym e) it

pub ends-err : (workers : ℕ) (old new : History) (r : Result (Unit {0}) Stop) (stop : Stop) → IsErrAnd r (λ e. e ≡ stop)
    → ((course : Course) (tally : Tally) (sink : SinkState) → course.workers ≡ workers
    → IsGoing course [] tally (at old sink) → IsCut None course (at new sink) stop) → going.Ends workers old new r
ends-err workers old new (Ok done) stop e it = absurd e
ends-err workers old new (Err other) stop e it =
    λ course tally sink same going.
    (let P : Stop → Type 0 = λ s. IsCut None course (at new sink) s in subst P (sym e) (it course tally sink same going))
