-- What is kept over the sending of a job, and over events that change nothing of the record.
use Rattle.std.proofs.Common.{◌≡◌, ℕ, ◌+◌, ◌-◌, ◌<◌, ◌≤◌, zero, suc, not, cond, Bool, true, false, List, [], ◌∷◌, ◌++◌, length, map, take, drop, replicate, refl, sym, ap, subst, ◌∙◌, inl, inr, arith, length-append, length-drop}
use Rattle.std.specs.List.{All, range_with_len}
use Rattle.std.proofs.lemmas.Bool.{cases_lt}
use Rattle.std.proofs.lemmas.List.{drop_more, length-map, length-replicate, length-take-le, length_push, map-append, take-map, drop-map, get_or_append_left, get_or-append_right, get_or-take, get_or-replicate}
use Rattle.std.proofs.lemmas.List.Elements.{All-drop, All-push, All-take}
use Rattle.std.proofs.lemmas.List.Sums.{sum_by-append}
use Rattle.cell_units.specs.Record.{Record}
use Rattle.display_map.specs.Displays.{IsStamped, KeepsDisplay, NoneWaits, unlanded}
use Rattle.display_map.specs.Events.{Event, Line, Sent, Published}
use Rattle.display_map.specs.Identity.{stamps_in}
use Rattle.kept_sheet.specs.Kept.{IsRising, standing}
use Rattle.display_map.specs.Outs.{AreAt, AreOut, IsOut, OutParts, some_places, waiting_in}
use Rattle.display_map.specs.Replay.{History, SentJob, State, appended, happens, is_published, stamps_of, state_of, waits}
use Rattle.display_sheet.specs.Shown.{unstamped}
use Rattle.display_map.proofs.Displays.{fits-more}
use Rattle.display_map.proofs.Lowered.{flags-of}
use Rattle.display_map.proofs.Replays.{range_more, state_of-one_more}
use Rattle.display_map.proofs.Rising.{run-rises}
use Rattle.display_map.proofs.Runs.{waits_run}
use Rattle.display_map.proofs.Stamps.{stamps, stamps_of-is}
use Rattle.display_map.proofs.Works.{flags-are}

-- the lines of a run are where they were
pub places-of_run : (S : List ℕ) (first count : ℕ) → first + count ≤ length S → AreAt S (take count (drop first S)) (some_places first count)
places-of_run S first zero within = tt
places-of_run S first (suc n) within =
    subst (λ (l : List ℕ). AreAt S (take (suc n) l) (some_places first (suc n))) (sym (drop_more S first 0 (omega (arith, within))))
    ((omega (arith, within), refl), places-of_run S (first + 1) n (omega (arith, within)))

AreOut-push : (S : List ℕ) (jobs : List SentJob) (outs : List OutParts) (job : SentJob) (out : OutParts) → AreOut S jobs outs → IsOut S job out →
    AreOut S (jobs ++ job ∷ []) (outs ++ out ∷ [])
AreOut-push S [] [] job out h one = (one, tt)
AreOut-push S [] (o ∷ outs) job out h one = absurd h
AreOut-push S (j ∷ jobs) [] job out h one = absurd h
AreOut-push S (j ∷ jobs) (o ∷ outs) job out h one = (h.0, AreOut-push S jobs outs job out h.1 one)

unlanded-push : (jobs : List SentJob) (job : SentJob) → job.landed ≡ false → unlanded (jobs ++ job ∷ []) ≡ unlanded jobs ++ job ∷ []
unlanded-push [] job out = λ i. cond (not (out i)) (job ∷ []) []
unlanded-push (j ∷ jobs) job out = go (not j.landed) (unlanded-push jobs job out) where
  go : (b : Bool) → unlanded (jobs ++ job ∷ []) ≡ unlanded jobs ++ job ∷ [] →
      cond b (j ∷ unlanded (jobs ++ job ∷ [])) (unlanded (jobs ++ job ∷ [])) ≡ cond b (j ∷ unlanded jobs) (unlanded jobs) ++ job ∷ []
  go true e = ap (λ (l : List SentJob). j ∷ l) e
  go false e = e

-- the flags of a run are taken down
abbrev pub taken_down : ℕ → ℕ → List Bool → List Bool
taken_down first count flags = take first flags ++ (replicate count false ++ drop (first + count) flags)

none-after : (first count : ℕ) (flags : List Bool) → first + count ≤ length flags → NoneWaits flags first → NoneWaits (taken_down first count flags) (first + count)
none-after first count flags le none k lt =
    let front : length (take first flags) ≡ first = length-take-le first flags (omega (arith, le)) in
    let rest = replicate count false ++ drop (first + count) flags in
    let size : length (replicate count false) ≡ count = length-replicate count false in
    elim (cases_lt k first) [
      | inl before ↦ get_or_append_left (take first flags) rest false k (omega (arith, front, before)) ∙ get_or-take first flags k false before ∙ none k before
      | inr from ↦
          get_or-append_right (take first flags) rest first k false front from
          ∙ get_or_append_left (replicate count false) (drop (first + count) flags) false (k - first) (omega (arith, size, lt, from))
          ∙ get_or-replicate count (k - first) false false (omega (arith, lt, from))
    ]

module _ (h : History) (sheet : Record) (outs : List OutParts) (versions jobs from : ℕ) (k : KeepsDisplay h sheet outs versions jobs from) where
  abbrev s : State
  s = state_of h

  abbrev r : Record
  r = s.present

  -- which lines wait
  abbrev flags : List Bool
  flags = waiting_in sheet outs

  flags_are : map (waits s) r.marks ≡ flags
  flags_are = flags-are h sheet outs versions jobs from k

  marked : length r.marks ≡ length flags
  marked = sym (length-map r.marks (waits s)) ∙ ap length flags_are

  -- a job is sent
  module _ (number first count : ℕ) (next : number ≡ jobs + 1) (within : first + count ≤ length flags) (none : NoneWaits flags first) where
    abbrev e : Event
    e = Sent number first count

    abbrev job : SentJob
    job = record { number = number; width = r.width; stamps = stamps_of r.marks first count; landed = false }

    is : state_of (appended h (e ∷ [])) ≡ happens s e
    is = state_of-one_more h e

    own : take count (drop first (stamps r.marks)) ≡ stamps_of r.marks first count
    own = sym (stamps_of-is r.marks first count)

    long : first + count ≤ length (stamps r.marks)
    long = omega (arith, within, marked, length-map r.marks (λ m. m.stamp))

    flags' : map (waits (happens s e)) r.marks ≡ taken_down first count flags
    flags' =
        waits_run s number first count k.stamped.once
        ∙ (λ i. (sym (take-map (waits s) first r.marks) ∙ ap (take first) flags_are) i
        ++ (replicate (length-take-le count (drop first r.marks) (omega (arith, length-drop first r.marks, within, marked)) i) false
        ++ (sym (drop-map (waits s) (first + count) r.marks) ∙ ap (drop (first + count)) flags_are) i))

    numbered : map (λ j. j.number) (s.jobs ++ job ∷ []) ≡ range_with_len 1 (length (s.jobs ++ job ∷ []))
    numbered =
        map-append (λ (j : SentJob). j.number) s.jobs (job ∷ [])
        ∙ (λ i. k.stamped.numbered i ++ (let at : number ≡ 1 + length s.jobs = omega (arith, next, k.jobs_are) in at) i ∷ [])
        ∙ range_more 1 (length s.jobs)
        ∙ ap (range_with_len 1) (sym (length_push s.jobs job))

    abbrev outs' : List OutParts
    outs' = outs ++ record { number = number; width = r.width; lines = some_places first count } ∷ []

    still_out : AreOut (stamps r.marks) (unlanded (s.jobs ++ job ∷ [])) outs'
    still_out =
        subst (λ (l : List SentJob). AreOut (stamps r.marks) l outs') (sym (unlanded-push s.jobs job refl))
        (AreOut-push (stamps r.marks) (unlanded s.jobs) outs job (record { number = number; width = r.width; lines = some_places first count }) k.outs_are
        (record { number = refl; width = refl; lines = subst (λ (l : List ℕ). AreAt (stamps r.marks) l (some_places first count)) own (places-of_run (stamps r.marks) first count long) }))

    waiting_after : waiting_in sheet outs' ≡ taken_down first count flags
    waiting_after =
        ap (λ (q : Record). waiting_in q outs') (sym k.sheet_is)
        ∙ sym (flags-of (happens s e) outs' k.stamped.once still_out)
        ∙ flags'

    pub kept-sent : KeepsDisplay (appended h (e ∷ [])) sheet outs' versions (jobs + 1) (first + count)
    kept-sent = record {
      opening = k.opening;
      fits = fits-more h e k.fits tt;
      sheet_is = ap (λ (t : State). unstamped t.present) is ∙ k.sheet_is;
      stamped = subst IsStamped (sym is) (record {
        once = k.stamped.once;
        below = k.stamped.below;
        given =
            All-push (λ (j : SentJob). All (λ x. x < r.next_stamp) j.stamps) s.jobs job k.stamped.given
            (subst (All (λ x. x < r.next_stamp)) own (All-take (λ (x : ℕ). x < r.next_stamp) count (drop first (stamps r.marks)) (All-drop (λ (x : ℕ). x < r.next_stamp) first (stamps r.marks) k.stamped.below)));
        numbered = numbered;
      });
      outs_are = subst (λ (t : State). AreOut (stamps_in t.present) (unlanded t.jobs) outs') (sym is) still_out;
      in_order =
          All-push (λ (out : OutParts). IsRising 0 (standing out.lines)) outs (record { number = number; width = r.width; lines = some_places first count }) k.in_order
          (run-rises 0 first count (omega arith));
      versions_are = omega (arith, sum_by-append (λ (x : Event). cond (is_published x) 1 0) h.events (e ∷ []), k.versions_are);
      jobs_are = ap (λ (t : State). length t.jobs) is ∙ length_push s.jobs job ∙ ap (λ (n : ℕ). n + 1) k.jobs_are;
      jobs_few = omega (arith, k.jobs_few, length-append h.events (e ∷ []));
      none_before = subst (λ (after : List Bool). NoneWaits after (first + count)) (sym waiting_after) (none-after first count flags within none);
    }

  -- a line is noted
  pub kept-line : (number : ℕ) → KeepsDisplay (appended h (Line number ∷ [])) sheet outs versions jobs from
  kept-line number =
      let is : state_of (appended h (Line number ∷ [])) ≡ s = state_of-one_more h (Line number) in
      record {
        opening = k.opening;
        fits = fits-more h (Line number) k.fits tt;
        sheet_is = ap (λ (t : State). unstamped t.present) is ∙ k.sheet_is;
        stamped = subst IsStamped (sym is) k.stamped;
        outs_are = subst (λ (t : State). AreOut (stamps_in t.present) (unlanded t.jobs) outs) (sym is) k.outs_are;
        in_order = k.in_order;
        versions_are = omega (arith, sum_by-append (λ (x : Event). cond (is_published x) 1 0) h.events (Line number ∷ []), k.versions_are);
        jobs_are = ap (λ (t : State). length t.jobs) is ∙ k.jobs_are;
        jobs_few = omega (arith, k.jobs_few, length-append h.events (Line number ∷ []));
        none_before = k.none_before;
      }

  -- a version is published
  pub kept-published : (last : Bool) → KeepsDisplay (appended h (Published last ∷ [])) sheet outs (versions + 1) jobs from
  kept-published last =
      let is : state_of (appended h (Published last ∷ [])) ≡ s = state_of-one_more h (Published last) in
      record {
        opening = k.opening;
        fits = fits-more h (Published last) k.fits tt;
        sheet_is = ap (λ (t : State). unstamped t.present) is ∙ k.sheet_is;
        stamped = subst IsStamped (sym is) k.stamped;
        outs_are = subst (λ (t : State). AreOut (stamps_in t.present) (unlanded t.jobs) outs) (sym is) k.outs_are;
        in_order = k.in_order;
        versions_are = omega (arith, sum_by-append (λ (x : Event). cond (is_published x) 1 0) h.events (Published last ∷ []), k.versions_are);
        jobs_are = ap (λ (t : State). length t.jobs) is ∙ k.jobs_are;
        jobs_few = omega (arith, k.jobs_few, length-append h.events (Published last ∷ []));
        none_before = k.none_before;
      }
