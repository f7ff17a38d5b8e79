-- A landing changes no line that waits.
use Rattle.std.proofs.Common.{◌≡◌, ℕ, ◌+◌, ◌<◌, ◌==◌, ◌&&◌, ◌||◌, not, eqb, suc, cond, Bool, true, false, List, ◌∷◌, length, map, take, drop, set, get_or, Some, refl, sym, ap, ◌∙◌}
use Rattle.std.specs.List.{list_any, range_with_len}
use Rattle.std.proofs.lemmas.List.{map-id, set-get_or, set_split}
use Rattle.std.proofs.lemmas.List.Folds.{list_any-append}
use Rattle.cell_units.specs.Record.{Record, Mark}
use Rattle.display_map.specs.Events.{Landed}
use Rattle.display_map.specs.Replay.{SentJob, State, holds, wrapped_at, landed_on, happens, waits}
use Rattle.std.proofs.lemmas.Simd.{map-map}
use Rattle.display_map.proofs.Jobs.{job_numbered-at, slice_get_some, with_landed-at, landed_marks, landed_on-is}

-- the state after the landing of a job that is at its number
abbrev pub landed_state : State → ℕ → SentJob → State
landed_state s k job = record {
  present = record s.present { marks = landed_marks s.present (Some job) };
  jobs = set s.jobs k (record job { landed = true });
}

pub landed_state-is : (s : State) (k : ℕ) (d : SentJob) → map (λ job. job.number) s.jobs ≡ range_with_len 1 (length s.jobs) → k < length s.jobs →
    happens s (Landed (k + 1)) ≡ landed_state s k (get_or s.jobs k d)
landed_state-is s k d numbered lt =
    let job = job_numbered-at s.jobs k numbered lt ∙ slice_get_some s.jobs k d lt in
    λ i. record {
      present = (ap (landed_on s.present) job ∙ landed_on-is s.present (Some (get_or s.jobs k d))) i;
      jobs = with_landed-at s.jobs k d numbered lt i;
    }

-- an outstanding job of the width holds the stamp
abbrev pub holds_for : ℕ → ℕ → SentJob → Bool
holds_for width stamp job = not job.landed && (job.width == width) && holds job.stamps stamp

pub any_split : (test : SentJob → Bool) (jobs : List SentJob) (k : ℕ) (job : SentJob) → k < length jobs →
    list_any test (set jobs k job) ≡ (list_any test (take k jobs) || (test job || list_any test (drop (suc k) jobs)))
any_split test jobs k job lt = ap (list_any test) (set_split jobs k job lt) ∙ list_any-append test (take k jobs) (job ∷ drop (suc k) jobs)

-- by the width of the job, whether it holds the mark, and whether others do
one_mark : (s : State) (m : Mark) (job : SentJob) (before behind wide held : Bool) → eqb job.width s.present.width ≡ wide → holds job.stamps m.stamp ≡ held →
    (not (eqb (cond wide (cond held (record { stamp = m.stamp; width = job.width }) m) m).width s.present.width) && not (before || (false || behind)))
    ≡ (not (eqb m.width s.present.width) && not (before || ((wide && held) || behind)))
one_mark s m job before behind true true w h =
    ap (λ (b : Bool). not b && not (before || (false || behind))) w ∙ sym (never (eqb m.width s.present.width) before) where
      never : (a b : Bool) → (not a && not (b || true)) ≡ false
      never true b = refl
      never false true = refl
      never false false = refl
one_mark s m job before behind true false w h = refl
one_mark s m job before behind false true w h = refl
one_mark s m job before behind false false w h = refl

-- a mark after the landing
abbrev landed_mark : ℕ → SentJob → Mark → Mark
landed_mark width job m = cond (job.width == width) (cond (holds job.stamps m.stamp) (record { stamp = m.stamp; width = job.width }) m) m

same_stamp : (width : ℕ) (job : SentJob) (m : Mark) → (landed_mark width job m).stamp ≡ m.stamp
same_stamp width job m = go (job.width == width) (holds job.stamps m.stamp) where
  go : (a b : Bool) → (cond a (cond b (record { stamp = m.stamp; width = job.width }) m) m).stamp ≡ m.stamp
  go true true = refl
  go true false = refl
  go false b = refl

mark_by_mark : (r : Record) (job : SentJob) → landed_marks r (Some job) ≡ map (landed_mark r.width job) r.marks
mark_by_mark r job = go (job.width == r.width) where
  go : (b : Bool) → cond b (wrapped_at job.width job.stamps r.marks) r.marks
      ≡ map (λ m. cond b (cond (holds job.stamps m.stamp) (record { stamp = m.stamp; width = job.width }) m) m) r.marks
  go true = refl
  go false = sym (map-id r.marks)

waits_alike : (s : State) (k : ℕ) (d : SentJob) (m : Mark) → k < length s.jobs → (get_or s.jobs k d).landed ≡ false →
    waits (landed_state s k (get_or s.jobs k d)) (landed_mark s.present.width (get_or s.jobs k d) m) ≡ waits s m
waits_alike s k d m lt out =
    let job = get_or s.jobs k d in
    let width = s.present.width in
    let test : SentJob → Bool = holds_for width m.stamp in
    let before = list_any test (take k s.jobs) in
    let behind = list_any test (drop (suc k) s.jobs) in
    let new = record job { landed = true } in
    let wide = eqb job.width width in
    let held = holds job.stamps m.stamp in
    let now : list_any test s.jobs ≡ (before || ((wide && held) || behind)) =
    ap (list_any test) (sym (set-get_or s.jobs k d))
    ∙ any_split test s.jobs k job lt
    ∙ ap (λ (b : Bool). before || ((not b && wide && held) || behind)) out in
    (λ i. not ((landed_mark width job m).width == width) && not (list_any (holds_for width (same_stamp width job m i)) (set s.jobs k new)))
    ∙ ap (λ (b : Bool). not ((landed_mark width job m).width == width) && not b) (any_split test s.jobs k new lt)
    ∙ one_mark s m job before behind wide held refl refl
    ∙ ap (λ (b : Bool). not (m.width == width) && not b) (sym now)

-- the landing of a job that hasn't landed leaves the same lines waiting
pub waits_landed : (s : State) (k : ℕ) (d : SentJob) → k < length s.jobs → (get_or s.jobs k d).landed ≡ false →
    map (waits (landed_state s k (get_or s.jobs k d))) (landed_state s k (get_or s.jobs k d)).present.marks ≡ map (waits s) s.present.marks
waits_landed s k d lt out =
    let job = get_or s.jobs k d in
    ap (map (waits (landed_state s k job))) (mark_by_mark s.present job)
    ∙ map-map (waits (landed_state s k job)) (landed_mark s.present.width job) s.present.marks
    ∙ (λ i. map (λ m. waits_alike s k d m lt out i) s.present.marks)
