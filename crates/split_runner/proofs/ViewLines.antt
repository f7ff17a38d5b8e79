-- One view goes on over a line of its part, and to its last version.
use Rattle.std.proofs.Common.{◌≡◌, ℕ, ◌+◌, inl, Bool, true, false, not, List, [], ◌∷◌, ◌++◌, length, map, Some, None, refl, sym, ap, ◌∙◌, subst, append_assoc, length-append}
use Rattle.std.specs.Prelude.{◌==◌, ◌&&◌, ◌||◌, slice_get}
use Rattle.std.specs.Option.{option_map}
use Rattle.std.specs.List.{filter, list_all, list_any, range_with_len}
use Rattle.std.proofs.lemmas.List.{append-nil}
use Rattle.cell_units.specs.Operation.{Operation}
use Rattle.cell_units.specs.Record.{Mark}
use Rattle.display_map.specs.Events.{Did, Event, Landed, Line, Published, Sent}
use Rattle.display_map.specs.Replay.{History, SentJob, State, appended, happens, is_held, is_settled, present_of, replayed, state_of, waits}
use Rattle.display_map.proofs.Replays.{replayed-cons, replayed-none, state_of-appended}
use Rattle.edit_script.specs.Commands.{Command}
use Rattle.edit_script.specs.Verdict.{Accepted, ops_of}
use Rattle.live_display.specs.Beside.{is_any_landing, is_send}
use Rattle.script_runner.specs.Entries.{Entry, judged}
use Rattle.script_runner.specs.Going.{IsFree}
use Rattle.script_runner.specs.Legal.{IsDone, IsOrderly, IsOrderlySoFar, is_line, lines_in, next_entry, next_verdict}
use Rattle.script_runner.proofs.LastLine.{dids}
use Rattle.script_runner.proofs.Next.{next-last, next-line-event, orderly-snoc}
use Rattle.script_runner.proofs.Orderly.{dids-orderly, line-free, published-free, published-orderly}
use Rattle.script_runner.proofs.Snoc.{last-snoc, lines-append, quiet-append}
use Rattle.split_views.specs.Wrapping.{IsIdle}
use Rattle.split_runner.specs.Going.{AreNumbered, IsUnderWay}
use Rattle.split_runner.proofs.Views.{IsCalm, calm-of, none-outstanding}

-- ---- no line waits where all are wrapped

and-true : (a b : Bool) → (a && b) ≡ true → (a ≡ true) × (b ≡ true)
and-true true b e = (refl, e)
and-true false b e = cc

none-waits : (s : State) (marks : List Mark) → list_all (λ m. m.width == s.present.width) marks ≡ true → list_any (waits s) marks ≡ false
none-waits s [] e = refl
none-waits s (m ∷ marks) e =
    let both = and-true (m.width == s.present.width) (list_all (λ n. n.width == s.present.width) marks) e in
    ap (λ b. (not b && not (is_held s m.stamp)) || list_any (waits s) marks) both.0 ∙ none-waits s marks both.1

pub settled-none : (s : State) → is_settled s.present ≡ true → list_any (waits s) s.present.marks ≡ false
unfolding is_settled
settled-none s e = none-waits s s.present.marks e

-- ---- events that neither send nor land

abbrev pub is_job : Event → Bool
is_job e = is_send e || is_any_landing e

or-both : (a b : Bool) → (a || b) ≡ false → (a ≡ false) × (b ≡ false)
or-both true b e = cc
or-both false b e = (refl, e)

jobs-happen : (s : State) (e : Event) → is_job e ≡ false → (happens s e).jobs ≡ s.jobs
jobs-happen s (Line number) none = refl
jobs-happen s (Did op) none = refl
jobs-happen s (Sent job first count) none = cc
jobs-happen s (Landed job) none = cc
jobs-happen s (Published last) none = refl

jobs-stay : (s : State) (es : List Event) → list_any is_job es ≡ false → (replayed s es).jobs ≡ s.jobs
jobs-stay s [] none = ap (λ (s : State). s.jobs) (replayed-none s)
jobs-stay s (e ∷ es) none =
    let parts = or-both (is_job e) (list_any is_job es) none in
    ap (λ (s : State). s.jobs) (replayed-cons s e es) ∙ (jobs-stay (happens s e) es parts.1 ∙ jobs-happen s e parts.0)

still-jobs : (h : History) (es : List Event) → list_any is_job es ≡ false → (state_of (appended h es)).jobs ≡ (state_of h).jobs
still-jobs h es none = ap (λ (s : State). s.jobs) (state_of-appended h es) ∙ jobs-stay (state_of h) es none

pub still-numbered : (h : History) (es : List Event) → list_any is_job es ≡ false → AreNumbered h → AreNumbered (appended h es)
still-numbered h es none numbered =
    let P : List SentJob → Type 0 = λ l. map (λ job. job.number) l ≡ range_with_len 1 (length l) in subst P (sym (still-jobs h es none)) numbered

pub still-idle : (h : History) (es : List Event) → list_any is_job es ≡ false → IsIdle h → IsIdle (appended h es)
still-idle h es none idle =
    ap (λ (l : List SentJob). filter (λ job. not job.landed) l) (still-jobs h es none) ∙ idle

dids-none : (ops : List Operation) (more : List Event) → list_any is_job more ≡ false → list_any is_job (dids ops ++ more) ≡ false
dids-none [] more none = none
dids-none (op ∷ ops) more none = dids-none ops more none

-- ---- the next entry

get-at : {X : Type 0} (xs : List X) (x : X) (ys : List X) → slice_get (xs ++ x ∷ ys) (length xs) ≡ Some x
get-at [] x ys = refl
get-at (y ∷ xs) x ys = get-at xs x ys

get-past : {X : Type 0} (xs : List X) → slice_get (xs ++ []) (length xs) ≡ None
get-past [] = refl
get-past (x ∷ xs) = get-past xs

module _ (part : List (ℕ × Entry)) (h : History) (number : ℕ) (entry : Entry) (under : IsUnderWay part h)
    (settled : is_settled (present_of h) ≡ true) where
  abbrev with-it : List (ℕ × Entry)
  with-it = part ++ (number, entry) ∷ []

  -- all entries, where some come later
  abbrev all : List (ℕ × Entry) → List (ℕ × Entry)
  all later = part ++ ((number, entry) ∷ later)

  all-is : (later : List (ℕ × Entry)) → all later ≡ with-it ++ later
  all-is later = sym (append_assoc part ((number, entry) ∷ []) later)

  calm : (later : List (ℕ × Entry)) → IsCalm (all later) h
  calm later = calm-of part h under ((number, entry) ∷ later)

  next-is : (later : List (ℕ × Entry)) → next_entry (all later) h.events ≡ Some (number, entry)
  next-is later = ap (slice_get (all later)) under.handled ∙ get-at part (number, entry) later

  verdict-is : (later : List (ℕ × Entry)) → next_verdict h.opening (all later) h.events ≡ Some (judged (present_of h) entry)
  verdict-is later = ap (option_map (λ (l : ℕ × Entry). judged (present_of h) l.1)) (next-is later)

  line-orderly : (later : List (ℕ × Entry)) → IsOrderlySoFar h.opening (all later) 1 (h.events ++ Line number ∷ [])
  line-orderly later =
      orderly-snoc h.opening (all later) 1 h.events (Line number) (calm later).orderly
      (next-line-event h.opening (all later) 1 h.events number (calm later).free (ap (option_map (λ (l : ℕ × Entry). l.0)) (next-is later))
      (λ wanted. settled) (inl (settled-none (state_of h) settled)))

  one-line : (more : List Event) → list_any is_line more ≡ false → lines_in (h.events ++ (Line number ∷ more)) ≡ length with-it
  one-line more quiet =
      ap lines_in (sym (append_assoc h.events (Line number ∷ []) more))
      ∙ ((quiet-append h.opening [] (h.events ++ Line number ∷ []) more quiet).lines
      ∙ (lines-append h.events (Line number ∷ [])
      ∙ (ap (λ n. n + 1) under.handled ∙ sym (length-append part ((number, entry) ∷ [])))))

  -- a line that does no operation
  pub under-line : ((command : Command) → judged (present_of h) entry ≡ Accepted command → ops_of command ≡ [])
      → IsUnderWay with-it (appended h (Line number ∷ []))
  under-line idle =
      let O : List (ℕ × Entry) → Type 0 = λ entries. IsOrderlySoFar h.opening entries 1 (h.events ++ Line number ∷ []) in
      let F : List (ℕ × Entry) → Type 0 = λ entries. IsFree h.opening entries (h.events ++ Line number ∷ []) in
      record {
        orderly = λ later. subst O (all-is later) (line-orderly later);
        free = λ later. subst F (all-is later)
            (line-free h.opening (all later) h.events number (calm later).free
            (λ command is. idle command (some-same (sym (verdict-is later) ∙ is))));
        handled = one-line [] refl;
        idle = still-idle h (Line number ∷ []) refl under.idle;
        numbered = still-numbered h (Line number ∷ []) refl under.numbered;
      }
    where
      some-same : {X : Type 0} {x y : X} → Some x ≡ Some y → x ≡ y
      some-same e = cc

  -- a line of an accepted command, with its operations
  module _ (command : Command) (accepted : judged (present_of h) entry ≡ Accepted command) where
    command-is : (later : List (ℕ × Entry)) → next_verdict h.opening (all later) h.events ≡ Some (Accepted command)
    command-is later = verdict-is later ∙ ap Some accepted

    done-orderly' : (later : List (ℕ × Entry)) → IsOrderlySoFar h.opening (all later) 1 (h.events ++ (Line number ∷ dids (ops_of command)))
    done-orderly' later =
        let P : List Event → Type 0 = λ l. IsOrderlySoFar h.opening (all later) 1 l in
        subst P (append_assoc h.events (Line number ∷ []) (dids (ops_of command)))
        (dids-orderly h.opening (all later) 1 h.events number command (command-is later) (calm later).free.goes_on [] (ops_of command) refl (line-orderly later))

    pub done-orderly : (later : List (ℕ × Entry)) → IsOrderlySoFar h.opening (with-it ++ later) 1 (h.events ++ (Line number ∷ dids (ops_of command)))
    done-orderly later =
        let O : List (ℕ × Entry) → Type 0 = λ entries. IsOrderlySoFar h.opening entries 1 (h.events ++ (Line number ∷ dids (ops_of command))) in
        subst O (all-is later) (done-orderly' later)

    -- ... and its version
    pub under-changed : (op : Operation) (ops : List Operation) → ops_of command ≡ op ∷ ops
        → IsUnderWay with-it (appended (appended h (Line number ∷ dids (op ∷ ops))) (Published false ∷ []))
    under-changed op ops are =
        let now : List Event = (h.events ++ (Line number ∷ dids (op ∷ ops))) ++ Published false ∷ [] in
        let O : List (ℕ × Entry) → Type 0 = λ entries. IsOrderlySoFar h.opening entries 1 now in
        let F : List (ℕ × Entry) → Type 0 = λ entries. IsFree h.opening entries now in
        let D : (later : List (ℕ × Entry)) → List Operation → Type 0 =
        λ later l. IsOrderlySoFar h.opening (all later) 1 (h.events ++ (Line number ∷ dids l)) in
        let whole : now ≡ h.events ++ (Line number ∷ (dids (op ∷ ops) ++ Published false ∷ [])) =
        append_assoc h.events (Line number ∷ dids (op ∷ ops)) (Published false ∷ []) in
        let P : List Event → History = λ l. record { opening = h.opening; events = l } in
        let quiet : list_any is_job (Line number ∷ (dids (op ∷ ops) ++ Published false ∷ [])) ≡ false =
        dids-none (op ∷ ops) (Published false ∷ []) refl in
        record {
          orderly = λ later. subst O (all-is later)
              (published-orderly h.opening (all later) 1 h.events number command (command-is later) (calm later).free.goes_on op ops are
              (subst (D later) are (done-orderly' later)));
          free = λ later. subst F (all-is later)
              (published-free h.opening (all later) 1 h.events number command (command-is later) (calm later).free.goes_on (op ∷ ops));
          handled = ap lines_in whole ∙ one-line (dids (op ∷ ops) ++ Published false ∷ []) (published-quiet (op ∷ ops));
          idle = subst IsIdle (ap P (sym whole)) (still-idle h (Line number ∷ (dids (op ∷ ops) ++ Published false ∷ [])) quiet under.idle);
          numbered = subst AreNumbered (ap P (sym whole))
              (still-numbered h (Line number ∷ (dids (op ∷ ops) ++ Published false ∷ [])) quiet under.numbered);
        }
      where
        published-quiet : (ops : List Operation) → list_any is_line (dids ops ++ Published false ∷ []) ≡ false
        published-quiet [] = refl
        published-quiet (op ∷ ops) = published-quiet ops

-- ---- the last version

pub under-last : (part : List (ℕ × Entry)) (h : History) → IsUnderWay part h → is_settled (present_of h) ≡ true
    → IsOrderly h.opening part 1 (h.events ++ Published true ∷ [])
under-last part h under settled =
    let O : List (ℕ × Entry) → Type 0 = λ entries. IsOrderlySoFar h.opening entries 1 (h.events ++ Published true ∷ []) in
    let done : IsDone h.opening (part ++ []) h.events = record {
      lines = ap (slice_get (part ++ [])) under.handled ∙ get-past part;
      settled = settled;
      landed = none-outstanding h under.idle;
    } in
    record {
      so_far = subst O (append-nil part)
          (orderly-snoc h.opening (part ++ []) 1 h.events (Published true) (under.orderly [])
          (next-last h.opening (part ++ []) 1 h.events (under.free []) done));
      ends = last-snoc None h.events (Published true);
    }
