-- Runs that are wrapped one after another, event by event.
use Rattle.std.proofs.Common.{◌≡◌, ℕ, zero, suc, ◌+◌, eqb, not, cond, Bool, true, false, List, [], ◌∷◌, ◌++◌, length, take, Some, None, Option, Result, Ok, Err, refl, sym, ap, ◌∙◌, append_assoc, append-nil, length-append}
use Rattle.std.specs.Prelude.{OnErr, fold}
use Rattle.std.specs.List.{filter}
use Rattle.std.proofs.lemmas.Bool.{eq-eqb}
use Rattle.std.proofs.lemmas.List.Elements.{filter-append}
use Rattle.cell_line.specs.declared.element.Element.{Element}
use Rattle.cell_line.specs.declared.lines.Run.{Run}
use Rattle.wrap_workers.specs.Jobs.{JobParts}
use Rattle.display_map.specs.Displays.{unlanded}
use Rattle.display_map.specs.Events.{Event, Landed, Published}
use Rattle.display_map.specs.Replay.{History, SentJob, State, appended, happens, next_run, replayed, stamps_of, state_of, with_landed}
use Rattle.display_map.specs.Sending.{IsSent, sending}
use Rattle.display_map.proofs.Displays.{unlanded-landed}
use Rattle.display_map.proofs.Replays.{replayed-cons, replayed-none, state_of-appended}
use Rattle.split_views.specs.Wrapping.{HasBegun, HasWrapped, HasWrappedNext, IsIdle, after_runs, next_wrapping, wrapping}
use Rattle.split_views.proofs.OneText.{text_of}
use Rattle.split_views.proofs.Texts.{text-appended, text_on}

abbrev pub Job : Type 0
Job = JobParts (List (List Element))

-- ---- events that are appended

appended-none : (h : History) → appended h [] ≡ h
appended-none h = λ i. record { opening = h.opening; events = append-nil h.events i }

appended-twice : (h : History) (xs ys : List Event) → appended (appended h xs) ys ≡ appended h (xs ++ ys)
appended-twice h xs ys = λ i. record { opening = h.opening; events = append_assoc h.events xs ys i }

pub on_err : {A E P : Type 0} (r : Result A E) → P → OnErr r P
on_err (Ok x) p = tt
on_err (Err e) p = p

-- ---- the events of a run

next-is : (h new : History) (job : Job) → IsSent h new job →
    next_wrapping (state_of h) ≡ sending job ∷ (Landed job.number ∷ (Published false ∷ []))
next-is h new job sent = λ i. wrapping (sym sent.number_is i) (sent.run_is i)

pub begun-none : (h new : History) → new ≡ h → (events : ℕ) × (new ≡ appended h (take events (next_wrapping (state_of h))))
begun-none h new same = (0, same ∙ sym (appended-none h))

pub begun-sent : (h new new' : History) (job : Job) → IsSent h new job → new' ≡ new → (events : ℕ) × (new' ≡ appended h (take events (next_wrapping (state_of h))))
begun-sent h new new' job sent same =
    (1, same ∙ sent.event_is ∙ ap (λ (es : List Event). appended h (take 1 es)) (sym (next-is h new job sent)))

pub begun-landed : (h new new' new'' : History) (job : Job) → IsSent h new job → new' ≡ appended new (Landed job.number ∷ []) → new'' ≡ new' →
    (events : ℕ) × (new'' ≡ appended h (take events (next_wrapping (state_of h))))
begun-landed h new new' new'' job sent landed same = (
  2,
  same ∙ landed ∙ ap (λ (k : History). appended k (Landed job.number ∷ [])) sent.event_is
      ∙ appended-twice h (sending job ∷ []) (Landed job.number ∷ [])
      ∙ ap (λ (es : List Event). appended h (take 2 es)) (sym (next-is h new job sent)),
)

whole : (h new new' new'' : History) (job : Job) → IsSent h new job → new' ≡ appended new (Landed job.number ∷ []) → new'' ≡ appended new' (Published false ∷ []) →
    new'' ≡ appended h (next_wrapping (state_of h))
whole h new new' new'' job sent landed published =
    published ∙ ap (λ (k : History). appended k (Published false ∷ [])) (landed ∙ ap (λ (k : History). appended k (Landed job.number ∷ [])) sent.event_is)
    ∙ ap (λ (k : History). appended k (Published false ∷ [])) (appended-twice h (sending job ∷ []) (Landed job.number ∷ []))
    ∙ appended-twice h (sending job ∷ (Landed job.number ∷ [])) (Published false ∷ [])
    ∙ ap (appended h) (sym (next-is h new job sent))

pub has-wrapped : (h new new' new'' : History) (job : Job) → IsSent h new job → new' ≡ appended new (Landed job.number ∷ []) → new'' ≡ appended new' (Published false ∷ []) →
    HasWrappedNext h new'' true
has-wrapped h new new' new'' job sent landed published =
    let is = whole h new new' new'' job sent landed published in
    (is, ap (λ (k : History). length k.events) is ∙ length-append h.events (next_wrapping (state_of h)) ∙ ap (λ (es : List Event). length h.events + length es) (next-is h new job sent))

-- ---- no job is out

same-number : (number : ℕ) → eqb number number ≡ true
same-number number = eq-eqb number number refl

only-new : (number : ℕ) (new : SentJob) (jobs : List SentJob) → new.number ≡ number → unlanded jobs ≡ [] → new.landed ≡ false → unlanded (with_landed number (jobs ++ new ∷ [])) ≡ []
only-new number new jobs is none out =
    unlanded-landed number (jobs ++ new ∷ [])
    ∙ ap (filter (λ job. not (eqb job.number number)))
    (filter-append (λ (job : SentJob). not job.landed) jobs (new ∷ [])
    ∙ (λ i. none i ++ cond (not (out i)) (new ∷ []) []))
    ∙ ap {B = List SentJob} (λ (b : Bool). cond (not b) (new ∷ []) []) (ap (λ (n : ℕ). eqb n number) is ∙ same-number number)

three : (s : State) (a b c : Event) → replayed s (a ∷ (b ∷ (c ∷ []))) ≡ happens (happens (happens s a) b) c
three s a b c =
    replayed-cons s a (b ∷ (c ∷ [])) ∙ replayed-cons (happens s a) b (c ∷ []) ∙ replayed-cons (happens (happens s a) b) c [] ∙ replayed-none (happens (happens (happens s a) b) c)

pub idle-wrapped : (h new new' new'' : History) (job : Job) → IsSent h new job → new' ≡ appended new (Landed job.number ∷ []) → new'' ≡ appended new' (Published false ∷ []) →
    IsIdle h → IsIdle new''
idle-wrapped h new new' new'' job sent landed published idle =
    let s = state_of h in
    let out : SentJob = record { number = job.number; width = s.present.width; stamps = stamps_of s.present.marks job.run.first job.run.count; landed = false } in
    ap (λ (k : History). unlanded (state_of k).jobs) (whole h new new' new'' job sent landed published)
    ∙ ap (λ (s : State). unlanded s.jobs)
    (state_of-appended h (next_wrapping s) ∙ ap (replayed s) (next-is h new job sent) ∙ three s (sending job) (Landed job.number) (Published false))
    ∙ only-new job.number out s.jobs refl idle refl

-- ---- many runs

pub wrapped-none : (h : History) → HasWrapped h h
wrapped-none h = (0, refl)

pub wrapped-more : (h k new : History) (more : Bool) → HasWrapped h k → HasWrappedNext k new more → HasWrapped h new
wrapped-more h k new true (runs, is) next =
    (suc runs, next.0 ∙ ap (λ (k : History). appended k (next_wrapping (state_of k))) is)
wrapped-more h k new false (runs, is) next = (runs, next.0 ∙ is)

pub begun-more : (h k new : History) → HasWrapped h k → (events : ℕ) × (new ≡ appended k (take events (next_wrapping (state_of k)))) → HasBegun h new
begun-more h k new (runs, is) (events, next) =
    (runs, events, next ∙ ap (λ (k : History). appended k (take events (next_wrapping (state_of k)))) is)

-- ---- text and opening stay

still-wrapping : (text : List ℕ) (job : ℕ) (run : Option Run) (events : ℕ) → fold text_on text (take events (wrapping job run)) ≡ text
still-wrapping text job None zero = refl
still-wrapping text job None (suc n) = refl
still-wrapping text job (Some run) zero = refl
still-wrapping text job (Some run) (suc zero) = refl
still-wrapping text job (Some run) (suc (suc zero)) = refl
still-wrapping text job (Some run) (suc (suc (suc zero))) = refl
still-wrapping text job (Some run) (suc (suc (suc (suc n)))) = refl

whole-wrapping : (text : List ℕ) (job : ℕ) (run : Option Run) → fold text_on text (wrapping job run) ≡ text
whole-wrapping text job None = refl
whole-wrapping text job (Some run) = refl

runs-opening : (runs : ℕ) (h : History) → (after_runs runs h).opening ≡ h.opening
runs-opening zero h = refl
runs-opening (suc runs) h = runs-opening runs h

runs-text : (runs : ℕ) (h : History) → text_of (after_runs runs h) ≡ text_of h
runs-text zero h = refl
runs-text (suc runs) h =
    let k = after_runs runs h in
    text-appended k (next_wrapping (state_of k))
    ∙ whole-wrapping (text_of k) (length (state_of k).jobs + 1) (next_run (state_of k))
    ∙ runs-text runs h

pub wrapped-still : (h new : History) → HasWrapped h new → (new.opening ≡ h.opening) × (text_of new ≡ text_of h)
wrapped-still h new (runs, is) = (ap (λ (k : History). k.opening) is ∙ runs-opening runs h, ap text_of is ∙ runs-text runs h)

pub begun-still : (h new : History) → HasBegun h new → (new.opening ≡ h.opening) × (text_of new ≡ text_of h)
begun-still h new (runs, events, is) =
    let k = after_runs runs h in (
      ap (λ (k : History). k.opening) is ∙ runs-opening runs h,
      ap text_of is ∙ text-appended k (take events (next_wrapping (state_of k)))
          ∙ still-wrapping (text_of k) (length (state_of k).jobs + 1) (next_run (state_of k)) events
          ∙ runs-text runs h,
    )
