-- One view goes on: runs of it are wrapped, lines are handled, versions are published.
use Rattle.std.proofs.Common.{◌≡◌, ℕ, zero, suc, ◌+◌, inr, Bool, true, false, not, List, [], ◌∷◌, ◌++◌, length, map, take, Option, Some, None, refl, sym, ap, ◌∙◌, subst, append_assoc, eqb, cond, arith}
use Rattle.std.specs.Prelude.{◌||◌, slice_get}
use Rattle.std.specs.Option.{option_map}
use Rattle.std.specs.List.{filter, list_any, range_with_len}
use Rattle.std.proofs.lemmas.Bool.{eq-eqb}
use Rattle.std.proofs.lemmas.List.{append-nil, length-map, length_push, map-append}
use Rattle.std.proofs.lemmas.List.Elements.{filter-append}
use Rattle.std.proofs.lemmas.List.Sums.{length-filter}
use Rattle.cell_line.specs.declared.lines.Run.{Run}
use Rattle.cell_units.specs.Record.{Record}
use Rattle.display_map.specs.Displays.{unlanded}
use Rattle.display_map.specs.Events.{Event, Landed, Published, Sent}
use Rattle.display_map.specs.Replay.{History, SentJob, State, appended, job_numbered, landed_if, next_run, state_of, stamps_of, with_landed}
use Rattle.display_map.proofs.Displays.{unlanded-landed}
use Rattle.display_map.proofs.Jobs.{job_numbered-at}
use Rattle.display_map.proofs.Replays.{range_more, same_numbers, state_of-one_more}
use Rattle.live_display.specs.Beside.{IsOut, IsSending, outstanding}
use Rattle.script_runner.specs.Entries.{Entry}
use Rattle.script_runner.specs.Going.{IsFree}
use Rattle.script_runner.specs.Legal.{IsOrderlySoFar, is_end, is_landed, is_line, lines_in}
use Rattle.script_runner.proofs.Next.{free-snoc, next-landed, next-published, next-sent, not-changing, orderly-snoc}
use Rattle.script_runner.proofs.Sends.{send-next}
use Rattle.script_runner.proofs.Snoc.{any-snoc, last-snoc, quiet-append}
use Rattle.split_views.specs.Wrapping.{HasBegun, HasWrapped, IsIdle, after_runs, next_wrapping, wrapping}
use Rattle.split_runner.specs.Going.{AreNumbered, IsUnderWay}

or-none-false : (a : Bool) → a ≡ false → (a || false) ≡ false
or-none-false true e = e
or-none-false false e = refl

-- ---- a run is wrapped

-- what one later list of entries asks: orderly, and no event is owed
pub record IsCalm (entries : List (ℕ × Entry)) (h : History) : Type 0 where
  pub orderly : IsOrderlySoFar h.opening entries 1 h.events
  pub free : IsFree h.opening entries h.events

pub calm-of : (part : List (ℕ × Entry)) (h : History) → IsUnderWay part h → (later : List (ℕ × Entry)) → IsCalm (part ++ later) h
calm-of part h under later = record { orderly = under.orderly later; free = under.free later }

calm-sent : (entries : List (ℕ × Entry)) (h : History) (job first count : ℕ) → IsCalm entries h → IsSending 1 (state_of h) job first count
    → IsCalm entries (appended h (Sent job first count ∷ []))
calm-sent entries h job first count calm sending =
    record {
      orderly = orderly-snoc h.opening entries 1 h.events (Sent job first count) calm.orderly
          (next-sent h.opening entries 1 h.events job first count calm.free (send-next 1 (state_of h) job first count sending));
      free = free-snoc h.opening entries h.events (Sent job first count) refl refl refl calm.free.goes_on;
    }

orderly-landed : (entries : List (ℕ × Entry)) (h : History) (job : ℕ) → IsCalm entries h → IsOut (state_of h) job
    → IsOrderlySoFar h.opening entries 1 (h.events ++ Landed job ∷ [])
orderly-landed entries h job calm out =
    orderly-snoc h.opening entries 1 h.events (Landed job) calm.orderly (next-landed h.opening entries 1 h.events job calm.free out)

calm-landed : (entries : List (ℕ × Entry)) (h : History) (job : ℕ) → IsCalm entries h → IsOut (state_of h) job
    → IsCalm entries (appended (appended h (Landed job ∷ [])) (Published false ∷ []))
calm-landed entries h job calm out =
    let landed : List Event = h.events ++ Landed job ∷ [] in
    let goes_on : list_any is_end landed ≡ false =
    any-snoc is_end h.events (Landed job) ∙ or-none-false (list_any is_end h.events) calm.free.goes_on in
    record {
      orderly = orderly-snoc h.opening entries 1 landed (Published false) (orderly-landed entries h job calm out)
          (next-published h.opening entries 1 landed (λ done rest op c. not-changing h.opening entries h.events (Landed job) refl done (op ∷ rest) c)
          (inr (ap is_landed (last-snoc None h.events (Landed job)))) goes_on);
      free = free-snoc h.opening entries landed (Published false) refl refl refl goes_on;
    }

-- ---- its job is out between

at-end : {X : Type 0} (xs : List X) (x : X) → slice_get (xs ++ x ∷ []) (length xs) ≡ Some x
at-end [] x = refl
at-end (y ∷ xs) x = at-end xs x

module _ (h : History) (job first count : ℕ) (number : job ≡ length (state_of h).jobs + 1) (numbered : AreNumbered h) where
  abbrev sent : History
  sent = appended h (Sent job first count ∷ [])

  abbrev wrapped : History
  wrapped = appended (appended sent (Landed job ∷ [])) (Published false ∷ [])

  abbrev jobs : List SentJob
  jobs = (state_of h).jobs

  abbrev own : SentJob
  own =
      let r : Record = (state_of h).present in
      record { number = job; width = r.width; stamps = stamps_of r.marks first count; landed = false }

  jobs-sent : (state_of sent).jobs ≡ jobs ++ own ∷ []
  jobs-sent = ap (λ (s : State). s.jobs) (state_of-one_more h (Sent job first count))

  numbers : map (λ j. j.number) (jobs ++ own ∷ []) ≡ range_with_len 1 (length (jobs ++ own ∷ []))
  numbers =
      let place : job ≡ 1 + length jobs = omega (arith, number) in
      map-append (λ (j : SentJob). j.number) jobs (own ∷ [])
      ∙ (ap (λ l. l ++ job ∷ []) numbered
      ∙ (ap (λ n. range_with_len 1 (length jobs) ++ n ∷ []) place
      ∙ (range_more 1 (length jobs) ∙ ap (range_with_len 1) (sym (length_push jobs own)))))

  out-of : (n : ℕ) → n ≡ length jobs + 1 → option_map (λ j. j.landed) (job_numbered n (jobs ++ own ∷ [])) ≡ Some false
  out-of n e =
      ap (λ k. option_map (λ j. j.landed) (job_numbered k (jobs ++ own ∷ []))) e
      ∙ ap (option_map (λ (j : SentJob). j.landed))
      (job_numbered-at (jobs ++ own ∷ []) (length jobs) numbers (omega (arith, length_push jobs own)) ∙ at-end jobs own)

  sent-out : IsOut (state_of sent) job
  sent-out = ap (λ l. option_map (λ j. j.landed) (job_numbered job l)) jobs-sent ∙ out-of job number

  jobs-wrapped : (state_of wrapped).jobs ≡ with_landed job (jobs ++ own ∷ [])
  jobs-wrapped =
      ap (λ (s : State). s.jobs) (state_of-one_more (appended sent (Landed job ∷ [])) (Published false))
      ∙ (ap (λ (s : State). s.jobs) (state_of-one_more sent (Landed job)) ∙ ap (with_landed job) jobs-sent)

  wrapped-numbered : AreNumbered wrapped
  wrapped-numbered =
      let P : List SentJob → Type 0 = λ l. map (λ j. j.number) l ≡ range_with_len 1 (length l) in
      subst P (sym jobs-wrapped)
      (same_numbers job (jobs ++ own ∷ []) ∙ (numbers ∙ ap (range_with_len 1) (sym (length-map (jobs ++ own ∷ []) (landed_if job)))))

  wrapped-idle : IsIdle h → IsIdle wrapped
  wrapped-idle idle =
      ap unlanded jobs-wrapped
      ∙ (unlanded-landed job (jobs ++ own ∷ [])
      ∙ (ap (filter (λ j. not (eqb j.number job)))
      (filter-append (λ (j : SentJob). not j.landed) jobs (own ∷ []) ∙ ap (λ l. l ++ own ∷ []) idle)
      ∙ ap {B = List SentJob} (λ b. cond (not b) (own ∷ []) []) (eq-eqb job job refl)))

  -- the events of the run are these
  wrapped-is : (run : Run) → next_run (state_of h) ≡ Some run → first ≡ run.first → count ≡ run.count
      → wrapped ≡ appended h (next_wrapping (state_of h))
  wrapped-is run is firsts counts =
      let W : ℕ → Option Run → History = λ n o. appended h (wrapping n o) in
      let R : ℕ → ℕ → History = λ f c. appended h (Sent job f c ∷ (Landed job ∷ (Published false ∷ []))) in
      ap (λ l. record { opening = h.opening; events = l ++ Published false ∷ [] }) (append_assoc h.events (Sent job first count ∷ []) (Landed job ∷ []))
      ∙ (ap (λ l. record { opening = h.opening; events = l }) (append_assoc h.events (Sent job first count ∷ (Landed job ∷ [])) (Published false ∷ []))
      ∙ (ap (λ f. R f count) firsts ∙ (ap (λ c. R run.first c) counts
      ∙ (ap (λ n. W n (Some run)) number ∙ ap (W (length (state_of h).jobs + 1)) (sym is)))))

-- ---- a view whose next run is wrapped

pub none-outstanding : (h : History) → IsIdle h → outstanding (state_of h) ≡ 0
none-outstanding h idle = sym (length-filter (λ (job : SentJob). not job.landed) (state_of h).jobs) ∙ ap length idle

run-sending : (h : History) (run : Run) → IsIdle h → next_run (state_of h) ≡ Some run
    → IsSending 1 (state_of h) (length (state_of h).jobs + 1) run.first run.count
run-sending h run idle is = record { run = is; number = refl; room = omega (arith, none-outstanding h idle) }

under-quiet : (part : List (ℕ × Entry)) (h : History) (more : List Event) → lines_in h.events ≡ length part → list_any is_line more ≡ false
    → lines_in (h.events ++ more) ≡ length part
under-quiet part h more handled quiet = (quiet-append h.opening [] h.events more quiet).lines ∙ handled

under-run : (part : List (ℕ × Entry)) (h : History) (run : Run) → IsUnderWay part h → next_run (state_of h) ≡ Some run
    → IsUnderWay part (appended h (next_wrapping (state_of h)))
under-run part h run under is =
    let job : ℕ = length (state_of h).jobs + 1 in
    let sending = run-sending h run under.idle is in
    let calm : (later : List (ℕ × Entry)) → IsCalm (part ++ later) (wrapped h job run.first run.count refl under.numbered) =
    λ later. calm-landed (part ++ later) (sent h job run.first run.count refl under.numbered) job
    (calm-sent (part ++ later) h job run.first run.count (calm-of part h under later) sending)
    (sent-out h job run.first run.count refl under.numbered) in
    let P : History → Type 0 = λ k. IsUnderWay part k in
    subst P (wrapped-is h job run.first run.count refl under.numbered run is refl refl) (record {
      orderly = λ later. (calm later).orderly;
      free = λ later. (calm later).free;
      handled = ap lines_in (append_assoc (h.events ++ Sent job run.first run.count ∷ []) (Landed job ∷ []) (Published false ∷ [])
          ∙ append_assoc h.events (Sent job run.first run.count ∷ []) (Landed job ∷ (Published false ∷ [])))
          ∙ under-quiet part h (Sent job run.first run.count ∷ (Landed job ∷ (Published false ∷ []))) under.handled refl;
      idle = wrapped-idle h job run.first run.count refl under.numbered under.idle;
      numbered = wrapped-numbered h job run.first run.count refl under.numbered;
    })

under-next : (part : List (ℕ × Entry)) (h : History) → IsUnderWay part h → IsUnderWay part (appended h (next_wrapping (state_of h)))
under-next part h under = by (next_run (state_of h)) refl
  where
    by : (o : Option Run) → next_run (state_of h) ≡ o → IsUnderWay part (appended h (next_wrapping (state_of h)))
    by None is =
        let P : History → Type 0 = λ k. IsUnderWay part k in
        let W : Option Run → History = λ o. appended h (wrapping (length (state_of h).jobs + 1) o) in
        subst P (sym (ap W is ∙ ap (λ l. record { opening = h.opening; events = l }) (append-nil h.events))) under
    by (Some run) is = under-run part h run under is

under-runs : (part : List (ℕ × Entry)) (h : History) (runs : ℕ) → IsUnderWay part h → IsUnderWay part (after_runs runs h)
under-runs part h zero under = under
under-runs part h (suc runs) under = under-next part (after_runs runs h) (under-runs part h runs under)

-- runs of a view are wrapped
pub under-wrapped : (part : List (ℕ × Entry)) (h new : History) → IsUnderWay part h → HasWrapped h new → IsUnderWay part new
under-wrapped part h new under wrapped =
    let P : History → Type 0 = λ k. IsUnderWay part k in subst P (sym wrapped.1) (under-runs part h wrapped.0 under)

-- ---- a run that was begun

take-three : (n job : ℕ) (run : Run) → take (suc (suc (suc n))) (wrapping job (Some run)) ≡ wrapping job (Some run)
take-three zero job run = refl
take-three (suc n) job run = refl

take-nothing : (n job : ℕ) → take n (wrapping job None) ≡ []
take-nothing zero job = refl
take-nothing (suc n) job = refl

module _ (part : List (ℕ × Entry)) (k : History) (under : IsUnderWay part k) (later : List (ℕ × Entry)) where
  abbrev next-job : ℕ
  next-job = length (state_of k).jobs + 1

  abbrev FirstOrderly : List Event → Type 0
  FirstOrderly es = IsOrderlySoFar k.opening (part ++ later) 1 (k.events ++ es)

  first-none : FirstOrderly []
  first-none = subst (λ l. IsOrderlySoFar k.opening (part ++ later) 1 l) (sym (append-nil k.events)) (under.orderly later)

  first-some : (run : Run) → next_run (state_of k) ≡ Some run → (n : ℕ) → FirstOrderly (take n (wrapping next-job (Some run)))
  first-some run is zero = first-none
  first-some run is (suc zero) =
      (calm-sent (part ++ later) k next-job run.first run.count (calm-of part k under later) (run-sending k run under.idle is)).orderly
  first-some run is (suc (suc zero)) =
      let sent-calm = calm-sent (part ++ later) k next-job run.first run.count (calm-of part k under later) (run-sending k run under.idle is) in
      subst (λ l. IsOrderlySoFar k.opening (part ++ later) 1 l) (append_assoc k.events (Sent next-job run.first run.count ∷ []) (Landed next-job ∷ []))
      (orderly-landed (part ++ later) (sent k next-job run.first run.count refl under.numbered) next-job sent-calm
      (sent-out k next-job run.first run.count refl under.numbered))
  first-some run is (suc (suc (suc n))) =
      subst (λ l. IsOrderlySoFar k.opening (part ++ later) 1 (k.events ++ l)) (ap (wrapping next-job) is ∙ sym (take-three n next-job run))
      ((under-run part k run under is).orderly later)

  first-orderly : (events : ℕ) → FirstOrderly (take events (next_wrapping (state_of k)))
  first-orderly events = by (next_run (state_of k)) refl
    where
      by : (o : Option Run) → next_run (state_of k) ≡ o
          → IsOrderlySoFar k.opening (part ++ later) 1 (k.events ++ take events (next_wrapping (state_of k)))
      by None is =
          subst (λ o. IsOrderlySoFar k.opening (part ++ later) 1 (k.events ++ take events (wrapping (length (state_of k).jobs + 1) o))) (sym is)
          (subst (λ es. IsOrderlySoFar k.opening (part ++ later) 1 (k.events ++ es)) (sym (take-nothing events (length (state_of k).jobs + 1))) first-none)
      by (Some run) is =
          subst (λ o. IsOrderlySoFar k.opening (part ++ later) 1 (k.events ++ take events (wrapping (length (state_of k).jobs + 1) o))) (sym is)
          (first-some run is events)

pub begun-orderly : (part : List (ℕ × Entry)) (h new : History) → IsUnderWay part h → HasBegun h new → (later : List (ℕ × Entry))
    → IsOrderlySoFar h.opening (part ++ later) 1 new.events
begun-orderly part h new under begun later =
    let k = after_runs begun.0 h in
    subst (λ (x : History). IsOrderlySoFar h.opening (part ++ later) 1 x.events) (sym begun.2)
    (subst (λ opening. IsOrderlySoFar opening (part ++ later) 1 (k.events ++ take begun.1 (next_wrapping (state_of k)))) (runs-opening begun.0 h)
    (first-orderly part k (under-runs part h begun.0 under) later begun.1))
  where
    runs-opening : (n : ℕ) (h : History) → (after_runs n h).opening ≡ h.opening
    runs-opening zero h = refl
    runs-opening (suc n) h = runs-opening n h
