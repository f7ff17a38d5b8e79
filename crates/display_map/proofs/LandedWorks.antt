-- A job that lands: its cuts are those of the lines that it finds, and what is kept then.
use Rattle.std.proofs.Common.{◌≡◌, ℕ, ◌+◌, ◌-◌, ◌≤◌, eqb, not, cond, Bool, true, false, List, [], ◌∷◌, ◌++◌, length, take, drop, get_or, refl, sym, ap, subst, ◌∙◌, arith}
use Rattle.std.specs.Prelude.{Option, Some, None}
use Rattle.std.specs.List.{find, filter}
use Rattle.std.proofs.lemmas.Bool.{true≢false}
use Rattle.std.proofs.lemmas.List.{length-map, take_at}
use Rattle.cell_units.specs.declared.limits.TheConstants.{TEXT_LIMIT}
use Rattle.cell_units.specs.Record.{Mark, Record}
use Rattle.cell_line.specs.declared.element.Element.{Element}
use Rattle.plain_rows.specs.Plain.{marks_of}
use Rattle.plain_rows.specs.Reach.{LandsAtMost}
use Rattle.plain_rows.specs.Rows.{line_elements}
use Rattle.wrap_workers.specs.Jobs.{IsRunIn, JobParts, wraps_of}
use Rattle.display_sheet.specs.Landing.{landed_at, with_landed_lines}
use Rattle.display_sheet.specs.Shown.{unstamped}
use Rattle.display_sheet.proofs.ElementLines.{elements_long}
use Rattle.display_sheet.proofs.Refused.{All-find}
use Rattle.display_sheet.proofs.Sheets.{length-marks_of, widths, widths-marks_of}
use Rattle.kept_sheet.specs.Kept.{AreLinesAt, IsRising, cuts_in, lines_in, standing}
use Rattle.display_map.specs.Displays.{KeepsDisplay, KeepsShortDisplay, unlanded}
use Rattle.display_map.specs.Events.{Event, Landed}
use Rattle.display_map.specs.Outs.{AreAt, AreOut, IsOut, OutParts}
use Rattle.display_map.specs.Replay.{History, SentJob, State, appended, job_numbered, lines_landed_on, state_of}
use Rattle.display_map.specs.Sending.{IsOutstanding}
use Rattle.display_map.specs.Works.{LinesFit, landing_lines, with_landed}
use Rattle.display_map.proofs.Jobs.{job_numbered-at, landed_marks, slice_get_some}
use Rattle.display_map.proofs.LandedCuts.{AreFrom, lines-at, run-from}
use Rattle.display_map.proofs.LandedSteps.{lands-stamped}
use Rattle.display_map.proofs.LandedDisplays.{kept-landed, widths-after}
use Rattle.display_map.proofs.Outstanding.{IsStillOut, no_job, still_out}
use Rattle.display_map.proofs.Stamps.{stamps}
use Rattle.display_map.proofs.Works.{kept-lawful}

abbrev landed_in : Option SentJob → Bool
landed_in None = false
landed_in (Some job) = job.landed

-- a job that hasn't landed is found among those that haven't
found-unlanded : (number : ℕ) (jobs : List SentJob) (job : SentJob) → find (λ j. eqb j.number number) jobs ≡ Some job → job.landed ≡ false →
    find (λ j. eqb j.number number) (unlanded jobs) ≡ Some job
found-unlanded number [] job e out = absurd (cc e)
found-unlanded number (j ∷ jobs) job e out = go (λ e. found-unlanded number jobs job e out) (eqb j.number number) refl j.landed refl e where
  go : (find (λ i. eqb i.number number) jobs ≡ Some job → find (λ i. eqb i.number number) (unlanded jobs) ≡ Some job) →
      (b : Bool) → eqb j.number number ≡ b → (l : Bool) → j.landed ≡ l → cond b (Some j) (find (λ i. eqb i.number number) jobs) ≡ Some job →
      find (λ i. eqb i.number number) (cond (not l) (j ∷ unlanded jobs) (unlanded jobs)) ≡ Some job
  go rest true is true landed e = absurd (true≢false (sym landed ∙ ap landed_in e ∙ out))
  go rest true is false landed e = ap (λ (b : Bool). cond b (Some j) (find (λ i. eqb i.number number) (unlanded jobs))) is ∙ e
  go rest false is true landed e = rest e
  go rest false is false landed e = ap (λ (b : Bool). cond b (Some j) (find (λ i. eqb i.number number) (unlanded jobs))) is ∙ rest e

-- what is kept of a job that is found
record IsFound (S : List ℕ) (number : ℕ) (outs : List OutParts) (job : SentJob) : Type 0 where
  out : OutParts
  found : find (λ o. eqb o.number number) outs ≡ Some out
  is : IsOut S job out

found-out : (S : List ℕ) (number : ℕ) (jobs : List SentJob) (outs : List OutParts) (job : SentJob) → AreOut S jobs outs →
    find (λ j. eqb j.number number) jobs ≡ Some job → IsFound S number outs job
found-out S number [] [] job are e = absurd (cc e)
found-out S number [] (o ∷ outs) job are e = absurd are
found-out S number (j ∷ jobs) [] job are e = absurd are
found-out S number (j ∷ jobs) (o ∷ outs) job are e = go (λ e. found-out S number jobs outs job are.1 e) (eqb j.number number) refl e where
  same : eqb o.number number ≡ eqb j.number number
  same = ap (λ (n : ℕ). eqb n number) are.0.number

  go : (find (λ i. eqb i.number number) jobs ≡ Some job → IsFound S number outs job) →
      (b : Bool) → eqb j.number number ≡ b → cond b (Some j) (find (λ i. eqb i.number number) jobs) ≡ Some job → IsFound S number (o ∷ outs) job
  go later true is e = record {
    out = o;
    found = ap (λ (b : Bool). cond b (Some o) (find (λ i. eqb i.number number) outs)) (same ∙ is);
    is = subst (λ (i : SentJob). IsOut S i o) (let one : Some j ≡ Some job = e in cc) are.0;
  }
  go later false is e =
      let rest = later e in
      record {
        out = rest.out;
        found = ap (λ (b : Bool). cond b (Some o) (find (λ i. eqb i.number number) outs)) (same ∙ is) ∙ rest.found;
        is = rest.is;
      }

module _ (h : History) (sheet : Record) (outs : List OutParts) (versions jobs first : ℕ) (k : KeepsDisplay h sheet outs versions jobs first)
    (job : JobParts (List (List Element))) (outstanding : IsOutstanding h job) where
  abbrev s : State
  s = state_of h

  abbrev r : Record
  r = s.present

  o : IsStillOut h job
  o = still_out h job k.opening k.fits k.stamped.numbered outstanding

  abbrev sent : SentJob
  sent = get_or s.jobs o.place no_job

  by_number : find (λ j. eqb j.number job.number) s.jobs ≡ Some sent
  by_number =
      ap (λ (n : ℕ). job_numbered n s.jobs) o.number_is
      ∙ job_numbered-at s.jobs o.place k.stamped.numbered o.there
      ∙ slice_get_some s.jobs o.place no_job o.there

  f : IsFound (stamps r.marks) job.number outs sent
  f = found-out (stamps r.marks) job.number (unlanded s.jobs) outs sent k.outs_are (found-unlanded job.number s.jobs sent by_number o.unlanded)

  at-places : AreAt (stamps r.marks) (take job.run.count (drop job.run.first o.stamps_then)) f.out.lines
  at-places = subst (λ (vs : List ℕ). AreAt (stamps r.marks) vs f.out.lines) o.stamps_are f.is.lines

  from-run : IsRunIn (length job.lines) job.run → AreFrom o.stamps_then job.lines (take job.run.count (drop job.run.first o.stamps_then)) (take job.run.count (drop job.run.first job.lines))
  from-run within = run-from o.stamps_then job.lines job.run.first job.run.count o.long (omega (arith, within.2, o.long))

  lines-here : IsRunIn (length job.lines) job.run → AreLinesAt (line_elements r) f.out.lines (take job.run.count (drop job.run.first job.lines))
  lines-here within =
      lines-at o.stamps_then job.lines (stamps r.marks) (line_elements r) o.same
      (length-map r.marks (λ m. m.stamp) ∙ (kept-lawful h sheet outs versions jobs first k).marked ∙ sym (elements_long r))
      (take job.run.count (drop job.run.first o.stamps_then)) (take job.run.count (drop job.run.first job.lines)) f.out.lines (from-run within) at-places

  out-width : f.out.width ≡ job.width
  out-width = f.is.width ∙ o.width_is

  -- the lines of the job are those at the places that are kept of it, and its cuts are theirs
  pub lines-fit : (cuts : List (List ℕ)) → cuts ≡ wraps_of job.lines job.run job.width → IsRunIn (length job.lines) job.run →
      LinesFit sheet (find (λ out. eqb out.number job.number) outs) job.lines job.run cuts
  lines-fit cuts is within =
      subst (λ (o : Option OutParts). LinesFit sheet o job.lines job.run cuts) (sym f.found)
      (λ same. (
        subst (λ (es : List (List Element)). AreLinesAt (line_elements sheet) f.out.lines es) (sym these)
            (subst (λ (r : Record). AreLinesAt (line_elements r) f.out.lines (take job.run.count (drop job.run.first job.lines))) k.sheet_is (lines-here within)),
        All-find (λ (o : OutParts). IsRising 0 (standing o.lines)) (λ (o : OutParts). eqb o.number job.number) outs f.out k.in_order f.found,
        is ∙ ap (cuts_in job.lines job.run) (sym out-width ∙ same),
      )) where
        these : lines_in job.lines job.run ≡ take job.run.count (drop job.run.first job.lines)
        these =
            let count : job.run.first + job.run.count - job.run.first ≡ job.run.count = omega arith in
            ap (λ (n : ℕ). take n (drop job.run.first job.lines)) count

  -- its landing takes as many steps as the history says
  pub landing-takes : (count start end : ℕ) → LandsAtMost count (landing_lines sheet (find (λ out. eqb out.number job.number) outs)) sheet start end →
      LandsAtMost count (lines_landed_on r (job_numbered job.number s.jobs)) r start end
  landing-takes count start end takes =
      subst (λ (j : Option SentJob). LandsAtMost count (lines_landed_on r j) r start end) (sym by_number)
      (lands-stamped r sent f.out f.is count start end
      (subst (λ (q : Record). LandsAtMost count (landing_lines q (Some f.out)) q start end) (sym k.sheet_is)
      (subst (λ (o : Option OutParts). LandsAtMost count (landing_lines sheet o) sheet start end) f.found takes)))

  marks-after : marks_of (widths (landed_marks r (Some sent))) ≡ marks_of (cond (eqb sent.width r.width) (landed_at sent.width f.out.lines (widths r.marks)) (widths r.marks))
  marks-after = ap marks_of (widths-after r sent f.out.lines k.stamped.once f.is.lines)

  by-width : (b : Bool) → record (unstamped r) { marks = marks_of (cond b (landed_at f.out.width f.out.lines (widths r.marks)) (widths r.marks)) }
      ≡ cond b (with_landed_lines f.out.width f.out.lines (unstamped r)) (unstamped r)
  by-width false = refl
  by-width true =
      λ i. record (unstamped r) {
        marks = marks_of (landed_at f.out.width f.out.lines (sym (widths-marks_of (widths r.marks)) i));
        next_stamp = sym (length-marks_of (widths r.marks) ∙ length-map r.marks (λ m. m.width)) i;
      }

  sheet-after : record sheet { marks = marks_of (widths (landed_marks r (Some sent))) } ≡ with_landed sheet (find (λ out. eqb out.number job.number) outs)
  sheet-after =
      ap (λ (ms : List Mark). record sheet { marks = ms }) marks-after
      ∙ (λ i. record (sym k.sheet_is i) { marks = marks_of (cond (eqb (sym f.is.width i) r.width) (landed_at (sym f.is.width i) f.out.lines (widths r.marks)) (widths r.marks)) })
      ∙ by-width (eqb f.out.width r.width)
      ∙ (λ i. with_landed (k.sheet_is i) (Some f.out))
      ∙ ap (with_landed sheet) (sym f.found)

  pub kept-landing : KeepsDisplay (appended h (Landed job.number ∷ [])) (with_landed sheet (find (λ out. eqb out.number job.number) outs))
      (filter (λ out. not (eqb out.number job.number)) outs) versions jobs first
  kept-landing =
      subst (λ (q : Record). KeepsDisplay (appended h (Landed job.number ∷ [])) q (filter (λ out. not (eqb out.number job.number)) outs) versions jobs first) sheet-after
      (kept-landed h sheet outs versions jobs first k job.number o.place no_job o.number_is o.there o.unlanded)

  pub text-landed : (with_landed sheet (find (λ out. eqb out.number job.number) outs)).text ≡ sheet.text
  text-landed = ap (λ (q : Record). q.text) (sym sheet-after)

  pub landing-kept : (events : List Event) (sheet' : Record) (outs' : List OutParts) → length sheet.text ≤ TEXT_LIMIT →
      events ≡ h.events ++ Landed job.number ∷ [] → sheet' ≡ with_landed sheet (find (λ out. eqb out.number job.number) outs) →
      outs' ≡ filter (λ out. not (eqb out.number job.number)) outs →
      KeepsShortDisplay (record { opening = h.opening; events = events }) sheet' outs' versions jobs first
  landing-kept events sheet' outs' short pushed landed removed =
      subst (λ (es : List Event). KeepsShortDisplay (record { opening = h.opening; events = es }) sheet' outs' versions jobs first) (sym pushed)
      (subst (λ (os : List OutParts). KeepsShortDisplay (appended h (Landed job.number ∷ [])) sheet' os versions jobs first) (sym removed)
      (subst (λ (q : Record). KeepsShortDisplay (appended h (Landed job.number ∷ [])) q (filter (λ out. not (eqb out.number job.number)) outs) versions jobs first) (sym landed)
      (record { kept = kept-landing; short = omega (arith, short, ap length text-landed) })))

-- what was appended is taken back
pub taken-back : (h : History) (sheet : Record) (outs : List OutParts) (versions jobs first : ℕ) → KeepsShortDisplay h sheet outs versions jobs first →
    (events more after : List Event) (sheet' : Record) (outs' : List OutParts) (n : ℕ) → events ≡ take n after → after ≡ h.events ++ more → n ≡ length h.events → sheet' ≡ sheet → outs' ≡ outs →
    KeepsShortDisplay (record { opening = h.opening; events = events }) sheet' outs' versions jobs first
taken-back h sheet outs versions jobs first k events more after sheet' outs' n cut pushed long same same_outs =
    let back : events ≡ h.events = cut ∙ (λ i. take (long i) (pushed i)) ∙ take_at h.events more (length h.events) refl in
    subst (λ (es : List Event). KeepsShortDisplay (record { opening = h.opening; events = es }) sheet' outs' versions jobs first) (sym back)
    (subst (λ (q : Record). KeepsShortDisplay h q outs' versions jobs first) (sym same)
    (subst (λ (os : List OutParts). KeepsShortDisplay h sheet os versions jobs first) (sym same_outs) k))
