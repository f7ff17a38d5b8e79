-- What is kept over a landing, whatever was done since its job was sent.
use Rattle.std.proofs.Common.{◌≡◌, ℕ, ◌+◌, ◌<◌, ◌≤◌, eqb, not, cond, Bool, true, false, List, [], ◌∷◌, ◌++◌, length, map, get_or, refl, sym, ap, subst, ◌∙◌, arith, length-append}
use Rattle.std.specs.Prelude.{Option, Some}
use Rattle.std.specs.List.{All, filter, range_with_len}
use Rattle.std.proofs.lemmas.List.{length-map}
use Rattle.std.proofs.lemmas.List.Elements.{All-filter, All-map, All-weaker}
use Rattle.std.proofs.lemmas.List.Sums.{sum_by-append}
use Rattle.cell_units.specs.Record.{Mark, Record}
use Rattle.plain_rows.specs.Plain.{marks_of}
use Rattle.kept_sheet.specs.Kept.{IsRising, standing}
use Rattle.display_map.specs.Displays.{IsStamped, KeepsDisplay, NoneWaits, unlanded}
use Rattle.display_map.specs.Events.{Event, Landed}
use Rattle.display_map.specs.Identity.{stamps_in}
use Rattle.display_map.specs.Outs.{AreAt, AreOut, OutParts, waiting_in}
use Rattle.display_sheet.specs.Landing.{landed_at}
use Rattle.display_map.specs.Replay.{History, SentJob, State, appended, happens, is_published, job_numbered, landed_if, landed_on, state_of, versions_of, waits, with_landed, wrapped_at}
use Rattle.display_sheet.specs.Shown.{unstamped}
use Rattle.display_map.proofs.Displays.{AreOut-without, fits-more, unlanded-landed}
use Rattle.display_map.proofs.Jobs.{job_numbered-at, landed_marks, landed_on-is, landed_stamps, slice_get_some}
use Rattle.display_map.proofs.LandedPlaces.{widths-landed}
use Rattle.display_map.proofs.Landings.{landed_state, landed_state-is, waits_landed}
use Rattle.display_map.proofs.Lowered.{flags-of}
use Rattle.display_map.proofs.Replays.{same_numbers, same_stamps, state_of-one_more}
use Rattle.display_sheet.proofs.Sheets.{widths}
use Rattle.display_map.proofs.Stamps.{stamps, times}
use Rattle.display_map.proofs.Works.{flags-are}

length-landed : (r : Record) (o : Option SentJob) → length (landed_marks r o) ≡ length r.marks
length-landed r o = sym (length-map (landed_marks r o) (λ m. m.stamp)) ∙ ap length (landed_stamps r o) ∙ length-map r.marks (λ m. m.stamp)

-- the widths after the landing of a job whose lines are at these places
pub widths-after : (r : Record) (job : SentJob) (places : List (Option ℕ)) → ((v : ℕ) → times v (stamps r.marks) ≤ 1) → AreAt (stamps r.marks) job.stamps places →
    widths (landed_marks r (Some job)) ≡ cond (eqb job.width r.width) (landed_at job.width places (widths r.marks)) (widths r.marks)
widths-after r job places once at = go (eqb job.width r.width) where
  go : (b : Bool) → widths (cond b (wrapped_at job.width job.stamps r.marks) r.marks) ≡ cond b (landed_at job.width places (widths r.marks)) (widths r.marks)
  go true = widths-landed job.width job.stamps places r.marks once at
  go false = refl

module _ (h : History) (sheet : Record) (outs : List OutParts) (versions jobs first : ℕ) (k : KeepsDisplay h sheet outs versions jobs first)
    (number place : ℕ) (d : SentJob) (number_is : number ≡ place + 1) (there : place < length (state_of h).jobs) (out : (get_or (state_of h).jobs place d).landed ≡ false) where
  abbrev s : State
  s = state_of h

  abbrev r : Record
  r = s.present

  abbrev job : SentJob
  job = get_or s.jobs place d

  abbrev marks' : List Mark
  marks' = landed_marks r (Some job)

  found : job_numbered number s.jobs ≡ Some job
  found = ap (λ (n : ℕ). job_numbered n s.jobs) number_is ∙ job_numbered-at s.jobs place k.stamped.numbered there ∙ slice_get_some s.jobs place d there

  abbrev s' : State
  s' = record { present = record r { marks = marks' }; jobs = with_landed number s.jobs }

  after_is : state_of (appended h (Landed number ∷ [])) ≡ s'
  after_is =
      state_of-one_more h (Landed number)
      ∙ (λ i. record { present = (ap (landed_on r) found ∙ landed_on-is r (Some job)) i; jobs = with_landed number s.jobs })

  by_place : s' ≡ landed_state s place job
  by_place =
      sym (λ i. record { present = (ap (landed_on r) found ∙ landed_on-is r (Some job)) i; jobs = with_landed number s.jobs })
      ∙ ap (λ (n : ℕ). happens s (Landed n)) number_is
      ∙ landed_state-is s place d k.stamped.numbered there

  -- no other lines wait than before
  flags' : map (waits s') marks' ≡ waiting_in sheet outs
  flags' =
      ap (λ (t : State). map (waits t) t.present.marks) by_place
      ∙ waits_landed s place d there out
      ∙ flags-are h sheet outs versions jobs first k

  same : stamps marks' ≡ stamps r.marks
  same = landed_stamps r (Some job)

  counted : versions_of (h.events ++ Landed number ∷ []) ≡ versions
  counted = omega (arith, sum_by-append (λ (e : Event). cond (is_published e) 1 0) h.events (Landed number ∷ []), k.versions_are)

  abbrev outs' : List OutParts
  outs' = filter (λ o. not (eqb o.number number)) outs

  abbrev sheet' : Record
  sheet' = record sheet { marks = marks_of (widths marks') }

  sheet_after : unstamped (state_of (appended h (Landed number ∷ []))).present ≡ sheet'
  sheet_after =
      ap (λ (t : State). unstamped t.present) after_is
      ∙ (λ i. record r { marks = marks_of (widths marks'); next_stamp = length-landed r (Some job) i })
      ∙ ap (λ (q : Record). record q { marks = marks_of (widths marks') }) k.sheet_is

  stamped' : IsStamped s'
  stamped' = record {
    once = subst (λ (l : List ℕ). (v : ℕ) → times v l ≤ 1) (sym same) k.stamped.once;
    below = subst (All (λ x. x < r.next_stamp)) (sym same) k.stamped.below;
    given =
        let P : SentJob → Type 0 = λ (j : SentJob). All (λ x. x < r.next_stamp) j.stamps in
        All-map P (landed_if number) s.jobs
        (All-weaker P (λ (j : SentJob). P (landed_if number j)) (λ j h. subst (All (λ x. x < r.next_stamp)) (sym (same_stamps number j)) h) s.jobs k.stamped.given);
    numbered = same_numbers number s.jobs ∙ k.stamped.numbered ∙ ap (range_with_len 1) (sym (length-map s.jobs (landed_if number)));
  }

  still_out : AreOut (stamps marks') (unlanded s'.jobs) outs'
  still_out =
      subst (λ (l : List ℕ). AreOut l (unlanded (with_landed number s.jobs)) outs') (sym same)
      (subst (λ (l : List SentJob). AreOut (stamps r.marks) l outs') (sym (unlanded-landed number s.jobs))
      (AreOut-without (stamps r.marks) number (unlanded s.jobs) outs k.outs_are))

  waiting_after : waiting_in sheet' outs' ≡ waiting_in sheet outs
  waiting_after =
      ap (λ (q : Record). waiting_in q outs') (sym sheet_after ∙ ap (λ (t : State). unstamped t.present) after_is)
      ∙ sym (flags-of s' outs' stamped'.once still_out)
      ∙ flags'

  pub kept-landed : KeepsDisplay (appended h (Landed number ∷ [])) sheet' outs' versions jobs first
  kept-landed = record {
    opening = k.opening;
    fits = fits-more h (Landed number) k.fits tt;
    sheet_is = sheet_after;
    stamped = subst IsStamped (sym after_is) stamped';
    outs_are = subst (λ (t : State). AreOut (stamps_in t.present) (unlanded t.jobs) outs') (sym after_is) still_out;
    in_order = All-filter (λ (o : OutParts). not (eqb o.number number)) (λ (o : OutParts). IsRising 0 (standing o.lines)) outs k.in_order;
    versions_are = counted;
    jobs_are = ap (λ (t : State). length t.jobs) after_is ∙ length-map s.jobs (landed_if number) ∙ k.jobs_are;
    jobs_few = omega (arith, k.jobs_few, length-append h.events (Landed number ∷ []));
    none_before = subst (λ (flags : List Bool). NoneWaits flags first) (sym waiting_after) k.none_before;
  }
