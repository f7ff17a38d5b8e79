-- A job that is out stays as it was sent, whatever was done since. The lines of its stamps have the elements that it
-- holds.
use Rattle.std.proofs.Common.{◌≡◌, ℕ, ◌+◌, ◌<◌, ◌≤◌, ◌||◌, eqb, cond, Bool, true, false, List, [], ◌∷◌, ◌++◌, length, map, take, drop, get_or, refl, sym, ap, subst, ◌∙◌, inl, inr, arith, add_comm}
use Rattle.std.specs.List.{list_any, range_with_len}
use Rattle.std.proofs.lemmas.Bool.{cases_lt, ne_eqb, eq-eqb, true≢false}
use Rattle.std.proofs.lemmas.List.{length-map, length_push, get_or-map, get_or_append_left, get_or_at, take-append-drop, take-take}
use Rattle.std.proofs.lemmas.List.FromFn.{get_or-range_with_len}
use Rattle.cell_units.specs.Text.{IsText}
use Rattle.cell_units.specs.Record.{Record, opened}
use Rattle.cell_units.specs.Lawful.{IsLawful}
use Rattle.cell_units.proofs.LawfulOperations.{opened-lawful}
use Rattle.cell_line.specs.declared.element.Element.{Element}
use Rattle.plain_rows.specs.Rows.{line_elements}
use Rattle.wrap_workers.specs.Jobs.{JobParts}
use Rattle.display_sheet.proofs.ElementLines.{elements_long}
use Rattle.display_map.specs.Events.{Event, Line, Did, Sent, Landed, Published}
use Rattle.display_map.specs.Identity.{AreSameLines, HaveSameLines, stamps_in}
use Rattle.display_map.specs.LawfulStates.{EventsFit}
use Rattle.display_map.specs.Replay.{History, SentJob, State, begun, happens, landed_if, present_of, replayed, stamps_of, state_of}
use Rattle.display_map.specs.Sending.{IsOutstanding, is_landing, sending}
use Rattle.display_map.proofs.Identity.{IsTied, same-begun, tied-replayed}
use Rattle.display_map.proofs.OpenedDisplays.{apart-opened}
use Rattle.display_map.proofs.Replays.{replayed-append, replayed-cons, replayed-none, state_of-appended}
use Rattle.display_map.proofs.Stamps.{stamps_of-is}

-- ---- records of one history

pub fits-front : (s : State) (xs ys : List Event) → EventsFit s (xs ++ ys) → EventsFit s xs
fits-front s [] ys fits = tt
fits-front s (x ∷ xs) ys fits = (fits.0, fits-front (happens s x) xs ys fits.1)

pub fits-behind : (s : State) (xs ys : List Event) → EventsFit s (xs ++ ys) → EventsFit (replayed s xs) ys
fits-behind s [] ys fits = subst (λ (t : State). EventsFit t ys) (sym (replayed-none s)) fits
fits-behind s (x ∷ xs) ys fits = subst (λ (t : State). EventsFit t ys) (sym (replayed-cons s x xs)) (fits-behind (happens s x) xs ys fits.1)

tied-opened : (text : List ℕ) → IsText text → IsTied [] [] (opened text)
tied-opened text is = record {
  lawful = opened-lawful text is;
  stamped = apart-opened text;
  given = λ j lt. absurd (omega (arith, lt));
  same = λ j k lt within e. absurd (omega (arith, lt));
}

-- a record whose stamps are apart is tied to itself
tied-own : (r : Record) → IsTied [] [] r → IsTied (stamps_in r) (line_elements r) r
tied-own r t = record {
  lawful = t.lawful;
  stamped = t.stamped;
  given = λ j lt. t.stamped.below j 0 lt;
  same = same-begun (stamps_in r) (line_elements r) t.stamped.once;
}

-- a record is tied to each later one
pub tied-later : (text : List ℕ) (xs ys : List Event) → IsText text → EventsFit (begun text) (xs ++ ys) →
    IsTied (stamps_in (replayed (begun text) xs).present) (line_elements (replayed (begun text) xs).present) (replayed (begun text) (xs ++ ys)).present
tied-later text xs ys is fits =
    let s = replayed (begun text) xs in
    let S = stamps_in s.present in
    let E = line_elements s.present in
    let own = tied-own s.present (tied-replayed [] [] (begun text) xs (fits-front (begun text) xs ys fits) (tied-opened text is)) in
    subst (λ (t : State). IsTied S E t.present) (sym (replayed-append (begun text) xs ys)) (tied-replayed S E s ys (fits-behind (begun text) xs ys fits) own)

turned : (r r' : Record) → HaveSameLines r r' → HaveSameLines r' r
turned r r' same j k lj lk e = sym (same k j lk lj (sym e))

in-order : (text : List ℕ) (events : List Event) (m n : ℕ) → IsText text → EventsFit (begun text) events → m ≤ n →
    HaveSameLines (replayed (begun text) (take m events)).present (replayed (begun text) (take n events)).present
in-order text events m n is fits le =
    let front : take m (take n events) ≡ take m events = take-take m n events le in
    let whole : take m events ++ drop m (take n events) ≡ take n events = ap (λ (l : List Event). l ++ drop m (take n events)) (sym front) ∙ take-append-drop m (take n events) in
    let these : EventsFit (begun text) (take n events) = fits-front (begun text) (take n events) (drop n events) (subst (EventsFit (begun text)) (sym (take-append-drop n events)) fits) in
    subst (λ (l : List Event). HaveSameLines (replayed (begun text) (take m events)).present (replayed (begun text) l).present) whole
    (tied-later text (take m events) (drop m (take n events)) is (subst (EventsFit (begun text)) (sym whole) these)).same

-- lines of one stamp in the records of two prefixes
pub same-fronts : (text : List ℕ) (events : List Event) (m n : ℕ) → IsText text → EventsFit (begun text) events →
    HaveSameLines (replayed (begun text) (take m events)).present (replayed (begun text) (take n events)).present
same-fronts text events m n is fits = elim (cases_lt m n) [
  | inl lt ↦ in-order text events m n is fits (omega (arith, lt))
  | inr le ↦ turned (replayed (begun text) (take n events)).present (replayed (begun text) (take m events)).present (in-order text events n m is fits le)
]

-- ---- a job that is out

abbrev pub no_job : SentJob
no_job = record { number = 0; width = 0; stamps = []; landed = false }

-- from one state to a later one the job at a place stays
record Stays (s t : State) (k : ℕ) : Type 0 where
  job_stays : get_or t.jobs k no_job ≡ get_or s.jobs k no_job
  job_there : k < length t.jobs

other_number : (a b : ℕ) → eqb a b ≡ false → eqb b a ≡ false
other_number a b e = ne_eqb b a (λ h. true≢false (sym (eq-eqb a b (sym h)) ∙ e))

stays_on : (s : State) (e : Event) (k number : ℕ) → k < length s.jobs → (get_or s.jobs k no_job).number ≡ number → is_landing number e ≡ false → Stays s (happens s e) k
stays_on s (Line n) k number lt own other = record { job_stays = refl; job_there = lt }
stays_on s (Published last) k number lt own other = record { job_stays = refl; job_there = lt }
stays_on s (Did op) k number lt own other = record { job_stays = refl; job_there = lt }
stays_on s (Sent n first count) k number lt own other =
    let new : SentJob = record { number = n; width = s.present.width; stamps = stamps_of s.present.marks first count; landed = false } in
    record { job_stays = get_or_append_left s.jobs (new ∷ []) no_job k lt; job_there = omega (arith, length_push s.jobs new, lt) }
stays_on s (Landed n) k number lt own other =
    let job = get_or s.jobs k no_job in
    let differs : eqb job.number n ≡ false = ap (λ (m : ℕ). eqb m n) own ∙ other_number n number other in
    record {
      job_stays = get_or-map (landed_if n) s.jobs k no_job no_job lt ∙ ap (λ (b : Bool). cond b (record job { landed = true }) job) differs;
      job_there = omega (arith, lt, length-map s.jobs (landed_if n));
    }

neither : (a b : Bool) → (a || b) ≡ false → (a ≡ false) × (b ≡ false)
neither true b e = absurd (true≢false e)
neither false b e = (refl, e)

stays_through : (s : State) (es : List Event) (k number : ℕ) → k < length s.jobs → (get_or s.jobs k no_job).number ≡ number →
    list_any (is_landing number) es ≡ false → Stays s (replayed s es) k
stays_through s [] k number lt own other = subst (λ (t : State). Stays s t k) (sym (replayed-none s)) (record { job_stays = refl; job_there = lt })
stays_through s (e ∷ es) k number lt own other =
    let first = neither (is_landing number e) (list_any (is_landing number) es) other in
    let step = stays_on s e k number lt own first.0 in
    let rest = stays_through (happens s e) es k number step.job_there (ap (λ (j : SentJob). j.number) step.job_stays ∙ own) first.1 in
    subst (λ (t : State). Stays s t k) (sym (replayed-cons s e es)) (record { job_stays = rest.job_stays ∙ step.job_stays; job_there = rest.job_there })

-- the job as the present state has it, at its place. `stamps_then` are those of the lines from which it was sent
pub record IsStillOut (h : History) (job : JobParts (List (List Element))) : Type 0 where
  pub place : ℕ
  pub there : place < length (state_of h).jobs
  pub number_is : job.number ≡ place + 1
  pub unlanded : (get_or (state_of h).jobs place no_job).landed ≡ false
  pub width_is : (get_or (state_of h).jobs place no_job).width ≡ job.width
  pub stamps_then : List ℕ
  pub long : length stamps_then ≡ length job.lines
  pub stamps_are : (get_or (state_of h).jobs place no_job).stamps ≡ take job.run.count (drop job.run.first stamps_then)
  pub same : AreSameLines stamps_then job.lines (stamps_in (present_of h)) (line_elements (present_of h))

number_at : (jobs : List SentJob) (k : ℕ) → map (λ job. job.number) jobs ≡ range_with_len 1 (length jobs) → k < length jobs → (get_or jobs k no_job).number ≡ 1 + k
number_at jobs k numbered lt =
    sym (get_or-map (λ (j : SentJob). j.number) jobs k no_job 0 lt)
    ∙ ap (λ (l : List ℕ). get_or l k 0) numbered
    ∙ get_or-range_with_len 1 (length jobs) k 0 lt

module _ (h : History) (job : JobParts (List (List Element))) (opening : IsText h.opening) (fits : EventsFit (begun h.opening) h.events)
    (numbered : map (λ j. j.number) (state_of h).jobs ≡ range_with_len 1 (length (state_of h).jobs)) (o : IsOutstanding h job) where
  abbrev then' : State
  then' = state_of (record { opening = h.opening; events = o.before })

  abbrev new : SentJob
  new = record { number = job.number; width = then'.present.width; stamps = stamps_of then'.present.marks job.run.first job.run.count; landed = false }

  abbrev s1 : State
  s1 = happens then' (sending job)

  abbrev k : ℕ
  k = length then'.jobs

  here : get_or s1.jobs k no_job ≡ new
  here = get_or_at then'.jobs new [] no_job k refl

  is : state_of h ≡ replayed s1 o.after
  is =
      ap (λ (events : List Event). state_of (record { opening = h.opening; events = events })) o.events_are
      ∙ state_of-appended (record { opening = h.opening; events = o.before }) (sending job ∷ o.after)
      ∙ replayed-cons then' (sending job) o.after

  stays : Stays s1 (state_of h) k
  stays =
      subst (λ (t : State). Stays s1 t k) (sym is)
      (stays_through s1 o.after k job.number (omega (arith, length_push then'.jobs new)) (ap (λ (j : SentJob). j.number) here) o.not_landed)

  at : get_or (state_of h).jobs k no_job ≡ new
  at = stays.job_stays ∙ here

  tied : IsTied (stamps_in then'.present) (line_elements then'.present) (present_of h)
  tied =
      subst (λ (events : List Event). IsTied (stamps_in then'.present) (line_elements then'.present) (replayed (begun h.opening) events).present) (sym o.events_are)
      (tied-later h.opening o.before (sending job ∷ o.after) opening (subst (EventsFit (begun h.opening)) o.events_are fits))

  front : IsLawful then'.present
  front =
      (tied-replayed [] [] (begun h.opening) o.before
      (fits-front (begun h.opening) o.before (sending job ∷ o.after) (subst (EventsFit (begun h.opening)) o.events_are fits)) (tied-opened h.opening opening)).lawful

  pub still_out : IsStillOut h job
  still_out = record {
    place = k;
    there = stays.job_there;
    number_is = sym (ap (λ (j : SentJob). j.number) at) ∙ number_at (state_of h).jobs k numbered stays.job_there ∙ add_comm 1 k;
    unlanded = ap (λ (j : SentJob). j.landed) at;
    width_is = ap (λ (j : SentJob). j.width) at ∙ sym o.width_is;
    stamps_then = stamps_in then'.present;
    long = length-map then'.present.marks (λ m. m.stamp) ∙ front.marked ∙ sym (elements_long then'.present) ∙ ap length (sym o.lines_are);
    stamps_are = ap (λ (j : SentJob). j.stamps) at ∙ stamps_of-is then'.present.marks job.run.first job.run.count;
    same = subst (λ (E : List (List Element)). AreSameLines (stamps_in then'.present) E (stamps_in (present_of h)) (line_elements (present_of h))) (sym o.lines_are) tied.same;
  }
