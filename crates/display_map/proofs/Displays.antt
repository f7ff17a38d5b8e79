-- What is kept over the events of a display.
use Rattle.std.proofs.Common.{◌≡◌, ℕ, ◌+◌, ◌<◌, ◌≤◌, not, eqb, cond, Bool, true, false, List, [], ◌∷◌, ◌++◌, length, map, take, drop, refl, sym, ap, subst, ◌∙◌, arith, length-append}
use Rattle.std.specs.List.{All, filter}
use Rattle.std.proofs.lemmas.List.{length-map}
use Rattle.std.proofs.lemmas.List.Elements.{All-filter}
use Rattle.std.proofs.lemmas.List.Sums.{sum_by-append}
use Rattle.cell_units.specs.Record.{Mark, Record, plain_marks}
use Rattle.cell_units.specs.Operation.{Operation, operated}
use Rattle.cell_units.specs.Lawful.{IsAllowed, IsLawful}
use Rattle.plain_rows.specs.Plain.{marks_of}
use Rattle.display_map.specs.Displays.{IsStamped, KeepsDisplay, unlanded}
use Rattle.display_map.specs.Events.{Event, Did}
use Rattle.display_map.specs.Identity.{stamps_in}
use Rattle.display_map.specs.LawfulStates.{EventFits, EventsFit}
use Rattle.display_sheet.specs.LineSplices.{IsLineSplice}
use Rattle.display_map.specs.Outs.{AreOut, OutParts, carried_out}
use Rattle.display_map.specs.Replay.{History, SentJob, State, appended, begun, is_published, present_of, state_of, versions_of, with_landed}
use Rattle.display_sheet.specs.Sheets.{IsOperated}
use Rattle.display_sheet.specs.Shown.{unstamped}
use Rattle.display_sheet.specs.declared.sheet.LineSplice.{LineSplice}
use Rattle.display_map.proofs.FittingBatches.{EventsFit-append}
use Rattle.display_sheet.proofs.ElementLines.{elements_long}
use Rattle.display_map.proofs.LawfulReplays.{lawful-replayed}
use Rattle.display_map.proofs.Places.{AreOut-carried}
use Rattle.display_sheet.proofs.Sheets.{allowed-other, widths}
use Rattle.display_map.proofs.Replays.{state_of-one_more, still_given}
use Rattle.display_map.proofs.Rising.{carried-in_order}
use Rattle.display_map.proofs.Stamps.{AreStamps, AreStamps-replaced, stamps, stamps-replaced}

-- the events of a history and one more
pub fits-more : (h : History) (e : Event) → EventsFit (begun h.opening) h.events → EventFits (state_of h) e → EventsFit (begun h.opening) (h.events ++ e ∷ [])
fits-more h e fits one = EventsFit-append (begun h.opening) h.events (e ∷ []) fits (one, tt)

-- an operation
module _ (h : History) (sheet : Record) (outs : List OutParts) (versions jobs first : ℕ) (k : KeepsDisplay h sheet outs versions jobs first)
    (operation : Operation) (allowed : IsAllowed operation sheet) (sheet' : Record) (splice : LineSplice) (done : IsOperated operation sheet sheet' splice) where
  abbrev s : State
  s = state_of h

  abbrev r : Record
  r = s.present

  abbrev f : ℕ
  f = splice.first

  abbrev g : ℕ
  g = splice.end

  abbrev n : ℕ
  n = splice.count

  line_splice : IsLineSplice operation r f g n
  line_splice = (done r k.sheet_is).0

  allowed_here : IsAllowed operation r
  allowed_here = allowed-other r (marks_of (widths r.marks)) (length r.marks) operation (subst (IsAllowed operation) (sym k.sheet_is) allowed)

  abbrev marks' : List Mark
  marks' = take f r.marks ++ (plain_marks r.next_stamp n ++ drop g r.marks)

  abbrev r' : Record
  r' = record (operated operation r) { marks = marks'; next_stamp = r.next_stamp + n }

  after_is : state_of (appended h (Did operation ∷ [])) ≡ record s { present = r' }
  after_is = state_of-one_more h (Did operation) ∙ ap (λ (q : Record). record s { present = q }) line_splice.step

  lawful : IsLawful r
  lawful = lawful-replayed h.opening h.events k.opening k.fits

  within : g ≤ length (stamps r.marks)
  within = omega (arith, line_splice.within, elements_long r, lawful.marked, length-map r.marks (λ m. m.stamp))

  apart : AreStamps (stamps r.marks) r.next_stamp
  apart = record { once = k.stamped.once; below = k.stamped.below }

  apart' : AreStamps (stamps marks') (r.next_stamp + n)
  apart' =
      subst (λ (l : List ℕ). AreStamps l (r.next_stamp + n)) (sym (stamps-replaced r.marks r.next_stamp f g n))
      (AreStamps-replaced (stamps r.marks) r.next_stamp f g n apart line_splice.order)

  counted : versions_of (h.events ++ Did operation ∷ []) ≡ versions
  counted = omega (arith, sum_by-append (λ (e : Event). cond (is_published e) 1 0) h.events (Did operation ∷ []), k.versions_are)

  abbrev outs' : List OutParts
  outs' = map (carried_out f g n) outs

  sheet_after : unstamped (present_of (appended h (Did operation ∷ []))) ≡ sheet'
  sheet_after = ap (λ (t : State). unstamped t.present) (state_of-one_more h (Did operation)) ∙ (done r k.sheet_is).1

  stamped_after : IsStamped (state_of (appended h (Did operation ∷ [])))
  stamped_after = subst IsStamped (sym after_is) (record {
    once = apart'.once;
    below = apart'.below;
    given = still_given r.next_stamp (r.next_stamp + n) s.jobs (omega arith) k.stamped.given;
    numbered = k.stamped.numbered;
  })

  outs_after : AreOut (stamps_in (present_of (appended h (Did operation ∷ [])))) (unlanded (state_of (appended h (Did operation ∷ []))).jobs) outs'
  outs_after =
      subst (λ (t : State). AreOut (stamps_in t.present) (unlanded t.jobs) outs') (sym after_is)
      (subst (λ (l : List ℕ). AreOut l (unlanded s.jobs) outs') (sym (stamps-replaced r.marks r.next_stamp f g n))
      (AreOut-carried (stamps r.marks) r.next_stamp f g n apart line_splice.order within (unlanded s.jobs) outs (All-filter (λ (job : SentJob). not job.landed) (λ (job : SentJob). All (λ x. x < r.next_stamp) job.stamps) s.jobs k.stamped.given) k.outs_are))

  pub kept-did : KeepsDisplay (appended h (Did operation ∷ [])) sheet' outs' versions jobs 0
  kept-did = record {
    opening = k.opening;
    fits = fits-more h (Did operation) k.fits allowed_here;
    sheet_is = sheet_after;
    stamped = stamped_after;
    outs_are = outs_after;
    in_order = carried-in_order f g n line_splice.order outs k.in_order;
    versions_are = counted;
    jobs_are = ap (λ (t : State). length t.jobs) after_is ∙ k.jobs_are;
    jobs_few = omega (arith, k.jobs_few, length-append h.events (Did operation ∷ []));
    none_before = λ j lt. absurd (omega (arith, lt));
  }

-- ---- jobs that are out, without the one that lands

-- the jobs that haven't landed, where one more has
pub unlanded-landed : (number : ℕ) (jobs : List SentJob) → unlanded (with_landed number jobs) ≡ filter (λ job. not (eqb job.number number)) (unlanded jobs)
unlanded-landed number [] = refl
unlanded-landed number (job ∷ jobs) = go (eqb job.number number) refl job.landed refl (unlanded-landed number jobs) where
  rest : List SentJob
  rest = unlanded jobs

  go : (b : Bool) → eqb job.number number ≡ b → (l : Bool) → job.landed ≡ l → unlanded (with_landed number jobs) ≡ filter (λ j. not (eqb j.number number)) rest →
      unlanded (with_landed number (job ∷ jobs)) ≡ filter (λ j. not (eqb j.number number)) (cond (not job.landed) (job ∷ rest) rest)
  go true is true out ih =
      (λ i. cond (not (cond (is i) (record job { landed = true }) job).landed) (cond (is i) (record job { landed = true }) job ∷ unlanded (with_landed number jobs)) (unlanded (with_landed number jobs)))
      ∙ ih
      ∙ (λ i. filter (λ j. not (eqb j.number number)) (cond (not (sym out i)) (job ∷ rest) rest))
  go true is false out ih =
      (λ i. cond (not (cond (is i) (record job { landed = true }) job).landed) (cond (is i) (record job { landed = true }) job ∷ unlanded (with_landed number jobs)) (unlanded (with_landed number jobs)))
      ∙ ih
      ∙ (λ i. cond (not (sym is i)) (job ∷ filter (λ j. not (eqb j.number number)) rest) (filter (λ j. not (eqb j.number number)) rest))
      ∙ (λ i. filter (λ j. not (eqb j.number number)) (cond (not (sym out i)) (job ∷ rest) rest))
  go false is true out ih =
      (λ i. cond (not (cond (is i) (record job { landed = true }) job).landed) (cond (is i) (record job { landed = true }) job ∷ unlanded (with_landed number jobs)) (unlanded (with_landed number jobs)))
      ∙ (λ i. cond (not (out i)) (job ∷ unlanded (with_landed number jobs)) (unlanded (with_landed number jobs)))
      ∙ ih
      ∙ (λ i. filter (λ j. not (eqb j.number number)) (cond (not (sym out i)) (job ∷ rest) rest))
  go false is false out ih =
      (λ i. cond (not (cond (is i) (record job { landed = true }) job).landed) (cond (is i) (record job { landed = true }) job ∷ unlanded (with_landed number jobs)) (unlanded (with_landed number jobs)))
      ∙ (λ i. cond (not (out i)) (job ∷ unlanded (with_landed number jobs)) (unlanded (with_landed number jobs)))
      ∙ ap (λ (l : List SentJob). job ∷ l) ih
      ∙ (λ i. cond (not (sym is i)) (job ∷ filter (λ j. not (eqb j.number number)) rest) (filter (λ j. not (eqb j.number number)) rest))
      ∙ (λ i. filter (λ j. not (eqb j.number number)) (cond (not (sym out i)) (job ∷ rest) rest))

pub AreOut-without : (stamps : List ℕ) (number : ℕ) (jobs : List SentJob) (outs : List OutParts) → AreOut stamps jobs outs →
    AreOut stamps (filter (λ job. not (eqb job.number number)) jobs) (filter (λ out. not (eqb out.number number)) outs)
AreOut-without stamps number [] [] h = tt
AreOut-without stamps number [] (out ∷ outs) h = absurd h
AreOut-without stamps number (job ∷ jobs) [] h = absurd h
AreOut-without stamps number (job ∷ jobs) (out ∷ outs) h =
    subst (λ (b : Bool). AreOut stamps (cond (not (eqb job.number number)) (job ∷ filter (λ j. not (eqb j.number number)) jobs) (filter (λ j. not (eqb j.number number)) jobs))
    (cond (not b) (out ∷ filter (λ o. not (eqb o.number number)) outs) (filter (λ o. not (eqb o.number number)) outs))) (ap (λ (n : ℕ). eqb n number) (sym h.0.number))
    (go (eqb job.number number) (AreOut-without stamps number jobs outs h.1)) where
      go : (b : Bool) → AreOut stamps (filter (λ j. not (eqb j.number number)) jobs) (filter (λ o. not (eqb o.number number)) outs) →
          AreOut stamps (cond (not b) (job ∷ filter (λ j. not (eqb j.number number)) jobs) (filter (λ j. not (eqb j.number number)) jobs))
          (cond (not b) (out ∷ filter (λ o. not (eqb o.number number)) outs) (filter (λ o. not (eqb o.number number)) outs))
      go true rest = rest
      go false rest = (h.0, rest)
